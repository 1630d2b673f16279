-- Demands one behind the other.
use Rattle.std.proofs.Common.{◌≡◌, refl, sym, ◌∙◌, ap, Bool, true, false, List, [], ◌∷◌, ◌++◌, Option, Some, None, if◌then◌else◌, Result, Ok, Err}
use Rattle.std.specs.Result.{IsErrAnd, result_err}
use Rattle.df_syntax.specs.Demands.{Demand, first_refusal}

-- the first of two refusals
abbrev pub or_else : {R : Type 0} → Option R → Option R → Option R
or_else None other = other
or_else (Some r) other = Some r

or_if : {R : Type 0} (holds : Bool) (r : R) (rest other : Option R)
    → or_else (if holds then rest else Some r) other ≡ (if holds then or_else rest other else Some r)
or_if true r rest other = refl
or_if false r rest other = refl

pub joined : {R : Type 0} (as_ bs : List (Demand R)) → first_refusal (as_ ++ bs) ≡ or_else (first_refusal as_) (first_refusal bs)
joined [] bs = refl
joined (d ∷ ds) bs = ap (λ o. if d.holds then o else Some d.refusal) (joined ds bs) ∙ sym (or_if d.holds d.refusal (first_refusal ds) (first_refusal bs))

-- a refusal handed on
pub handed_on : {A R : Type 0} (o : Option R) (r : Result A R) (x : R) → IsErrAnd r (λ y. y ≡ x) → o ≡ Some x → o ≡ result_err r
handed_on o (Ok a) x is h = absurd is
handed_on o (Err y) x is h = h ∙ ap Some (sym is)
