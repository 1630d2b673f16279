use Rattle.std.proofs.Common.{sym, ◌∙◌, ap}
use Rattle.df_syntax.specs.WellShaped.{Look}
use Rattle.df_inline.proofs.Looks.{name_itself, parens, not_itself}
use Rattle.df_inline.proofs.subscripts.+is_name.Goals as goal

pub returns-in-Name : goal.returns-in-Name
returns-in-Name t c = c.eq.ensures ∙ sym (name_itself c.args.expr.now c.in-Name.own c.args.name.now (sym c.get.ensures ∙ c.in-Name.is))

pub returns-in-Parens : goal.returns-in-Parens
returns-in-Parens t c = c.is_name.ensures ∙ sym (ap (λ (l : Look). l.is_name c.args.name.now) (parens c.args.expr.now c.in-Parens.of (sym c.get.ensures ∙ c.in-Parens.is)))

pub returns-in_default : goal.returns-in_default
returns-in_default t c = sym (not_itself c.args.expr.now c.args.name.now (λ name is. c.in_default.not-Name name (c.get.ensures ∙ is)) (λ of is. c.in_default.not-Parens of (c.get.ensures ∙ is)))
