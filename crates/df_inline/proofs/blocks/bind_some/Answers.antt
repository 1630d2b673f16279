use Rattle.std.proofs.Common.{◌∙◌, ap, sym}
use Rattle.df_flattened.specs.Flattened.{bind_some}
use Rattle.df_inline.specs.Bindings.{standing_at}
use Rattle.df_inline.proofs.Bound.{standing_more}
use Rattle.df_inline.proofs.blocks.bind_some.Goals as goal

pub returns-in_ok-push-in-Some : goal.returns-in_ok-push-in-Some
returns-in_ok-push-in-Some c =
    ap standing_at c.in_ok-push-in-Some.ensures ∙ standing_more c.args.names.now c.in-Some.name c.args.standing ∙ ap (λ o. bind_some (standing_at c.args.names.now) o c.args.standing) (sym c.in-Some.is)
