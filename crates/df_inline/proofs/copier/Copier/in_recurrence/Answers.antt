use Rattle.std.proofs.Common.{◌∙◌, ap, reverse}
use Rattle.df_flattened.specs.declared.standing.Standing.TheVariants.{Own}
use Rattle.df_flattened.specs.Flattened.{flatten, bodies, in_block}
use Rattle.df_inline.specs.Bindings.{standing_at}
use Rattle.df_inline.proofs.Bound.{standing_more}
use Rattle.df_inline.proofs.copier.Copier.in_recurrence.Goals as goal

pub returns-clause-value : goal.returns-clause-value
returns-clause-value g c =
    c.in_ok-term.ensures.value
    ∙ (ap (λ bindings. flatten (bodies (reverse c.args.self.now.functions.now)) c.args.elem.now (in_block (standing_at bindings) c.args.index)) c.in_ok-push.ensures
    ∙ ap (λ names. flatten (bodies (reverse c.args.self.now.functions.now)) c.args.elem.now (in_block names c.args.index)) (standing_more c.args.names.now c.args.array Own))
