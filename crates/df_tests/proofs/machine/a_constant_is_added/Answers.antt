use Rattle.std.proofs.Common.{◌≡◌, ℕ, zero, suc, List, [], ◌∷◌, Some, sym, subst, refl, arith, pos}
use Rattle.std.specs.Prelude.{codes, slice_get, slice_index_or}
use Rattle.std.proofs.lemmas.List.Elements.{All-nil, All-cons}
use Rattle.df_values.specs.Values.{least, greatest}
use Rattle.df_values.specs.Inputs.{Declaration, IsAsDeclared, HasType}
use Rattle.df_values.specs.declared.values.Value.{Value}
use Rattle.df_values.specs.declared.values.Value.TheVariants.{Int}
use Rattle.df_values.specs.declared.values.Basic.TheVariants.{Integer}
use Rattle.df_cells.specs.WellFormed.{WellFormed}
use Rattle.df_tests.proofs.machine.a_constant_is_added.Goals as goal

declared : Declaration
declared = record { basic = Integer; length = 1 }

five : List Value
five = Int (pos 5) ∷ []

first_is : (d : Declaration) → slice_get (declared ∷ []) zero ≡ Some d → declared ≡ d
first_is d e = cc

none_past : (k : ℕ) (d : Declaration) → slice_get (declared ∷ []) (suc k) ≡ Some d → ⊥
none_past zero d e = cc
none_past (suc k) d e = cc

is_as_declared : (k : ℕ) (d : Declaration) → slice_get (declared ∷ []) k ≡ Some d → IsAsDeclared d (slice_index_or (five ∷ []) k [])
unfolding declared five least greatest
is_as_declared zero d e = subst (λ it. IsAsDeclared it five) (first_is d e) (record { count = refl; types = All-cons (HasType Integer) (Int (pos 5)) [] (omega arith, omega arith) (All-nil (HasType Integer)) })
is_as_declared (suc k) d e = absurd (none_past k d e)

pub load-requires-clause-well_formed : goal.load-requires-clause-well_formed
load-requires-clause-well_formed g c = subst WellFormed (sym c.in_ok-cells.ensures) (c.three_cells_are_well_formed.ensures (codes "A") 1 1 (omega arith))

pub load-requires-clause-fits : goal.load-requires-clause-fits
unfolding declared five least greatest
load-requires-clause-fits g c =
    rw (c.in_ok-cells.ensures, c.in_ok-inputs-2.ensures) (record { count = refl; each = is_as_declared })
