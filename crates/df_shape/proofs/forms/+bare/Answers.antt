use Rattle.std.proofs.Common.{sym, ◌∙◌}
use Rattle.df_shape.proofs.Bare.{plain}
use Rattle.df_shape.proofs.forms.+bare.Goals as goal

pub returns-in_default : goal.returns-in_default
returns-in_default t c = sym (plain c.args.expr.now (λ of is. c.in_default.not-Parens of (c.get.ensures ∙ is)))
