use Rattle.std.proofs.Common.{◌∙◌, ap, reverse, Some}
use Rattle.df_flattened.specs.declared.standing.Standing.TheVariants.{Index}
use Rattle.df_flattened.specs.Flattened.{flatten, bodies}
use Rattle.df_inline.specs.Bindings.{scope_of}
use Rattle.df_inline.proofs.Bound.{standing_more}
use Rattle.df_inline.proofs.copier.Copier.in_block.Goals as goal

pub returns-clause-value : goal.returns-clause-value
returns-clause-value g c =
    c.in_ok-term.ensures.value
    ∙ (ap (λ depth. flatten (bodies (reverse c.args.self.now.functions.now)) c.args.elem.now (scope_of c.push.new.self depth (Some c.args.index))) c.in_ok-locals.ensures
    ∙ (ap (λ bindings. flatten (bodies (reverse c.args.self.now.functions.now)) c.args.elem.now (scope_of bindings 0 (Some c.args.index))) c.in_ok-push.ensures
    ∙ ap (λ names. flatten (bodies (reverse c.args.self.now.functions.now)) c.args.elem.now (record { names = names; depth = 0; index = Some c.args.index }))
    (standing_more c.args.names.now c.args.index Index)))
