use Rattle.std.proofs.Common.{sym, ◌∙◌, refl}
use Rattle.df_names.specs.Found.{names_of}
use Rattle.df_shape.proofs.Manifests.{chain, not_manifest}
use Rattle.df_shape.proofs.manifest.+manifest.Goals as goal

pub manifest_value-returns-then-not-is_arithmetic : goal.manifest_value-returns-then-not-is_arithmetic
manifest_value-returns-then-not-is_arithmetic t c =
    rw (chain (names_of c.args.numbers.now) c.args.expr.now c.in-Chain.first c.in-Chain.rest (sym c.get.ensures ∙ c.in-Chain.is), ← c.as_slice.ensures, ← c.is_arithmetic.ensures, c.if-not-is_arithmetic.true) refl

pub manifest_value-returns-else-not-is_arithmetic : goal.manifest_value-returns-else-not-is_arithmetic
manifest_value-returns-else-not-is_arithmetic t c =
    rw (chain (names_of c.args.numbers.now) c.args.expr.now c.in-Chain.first c.in-Chain.rest (sym c.get.ensures ∙ c.in-Chain.is), ← c.as_slice.ensures, ← c.is_arithmetic.ensures, c.if-not-is_arithmetic.false)
    (rw (c.as_slice-in-Chain.ensures, c.manifest_value-first.ensures, ← c.as_slice.ensures) at c.joined.ensures)

pub manifest_value-returns-in_default : goal.manifest_value-returns-in_default
manifest_value-returns-in_default t c =
    sym (not_manifest (names_of c.args.numbers.now) c.args.expr.now
    (λ v is. c.in_default.not-Number v (c.get.ensures ∙ is))
    (λ v is. c.in_default.not-Truth v (c.get.ensures ∙ is))
    (λ v b is. c.in_default.not-Error v b (c.get.ensures ∙ is))
    (λ name is. c.in_default.not-Name name (c.get.ensures ∙ is))
    (λ first rest is. c.in_default.not-Chain first rest (c.get.ensures ∙ is))
    (λ of is. c.in_default.not-Negate of (c.get.ensures ∙ is))
    (λ of is. c.in_default.not-Parens of (c.get.ensures ∙ is))
    (λ op left right is. c.in_default.not-TwoPlace op left right (c.get.ensures ∙ is)))
