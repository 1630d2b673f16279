use Rattle.std.proofs.Common.{sym, ◌∙◌, ap}
use Rattle.df_syntax.specs.WellShaped.{Look}
use Rattle.df_inline.proofs.Looks.{chain, parens, other}
use Rattle.df_inline.proofs.subscripts.+manifest.Goals as goal

pub manifest-returns-in-Chain : goal.manifest-returns-in-Chain
manifest-returns-in-Chain t c =
    rw (chain c.args.expr.now c.in-Chain.first c.in-Chain.rest (sym c.get.ensures ∙ c.in-Chain.is))
    (rw (c.as_slice.ensures, c.manifest-first.ensures) at c.joined.ensures)

pub manifest-returns-in-Parens : goal.manifest-returns-in-Parens
manifest-returns-in-Parens t c = c.manifest-in-Parens.ensures ∙ sym (ap (λ (l : Look). l.manifest) (parens c.args.expr.now c.in-Parens.of (sym c.get.ensures ∙ c.in-Parens.is)))

pub manifest-returns-in_default : goal.manifest-returns-in_default
manifest-returns-in_default t c =
    sym (other c.args.expr.now (λ v is. c.in_default.not-Number v (c.get.ensures ∙ is)) (λ v is. c.in_default.not-Truth v (c.get.ensures ∙ is)) (λ v b is. c.in_default.not-Error v b (c.get.ensures ∙ is))
    (λ first rest is. c.in_default.not-Chain first rest (c.get.ensures ∙ is)) (λ of is. c.in_default.not-Negate of (c.get.ensures ∙ is)) (λ of is. c.in_default.not-Parens of (c.get.ensures ∙ is))
    (λ o left right is. c.in_default.not-TwoPlace o left right (c.get.ensures ∙ is)))
