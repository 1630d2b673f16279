-- A map's entries, read as a function.
use Rattle.std.proofs.Common.{arith, refl, ℤ, ◌&&◌, ◌≡◌, ℕ, List, [], ap, ◌∙◌, Some, if◌then◌else◌, ◌==◌}
use Rattle.std.specs.Ordering.{nat_cmp, is_eq, int_cmp, int_eq, ordering_then}
use Rattle.std.specs.BTreeMap.{BTreeMap, is_at, UpdatesBy, IsUnchanged}
use Rattle.std.specs.Map.{lookup}
use Rattle.std.specs.declared.cmp.Ordering.{Ordering}
use Rattle.std.specs.declared.cmp.Ordering.TheVariants.{Less, Equal, Greater}
use Rattle.df_labels.specs.declared.graphs.Flow.{Flow}
use Rattle.df_build_access.specs.Accesses.{Accessed, no_access, noted_access, accesses_of, access_cmp}

is_eq-nat_cmp : (a b : ℕ) → is_eq (nat_cmp a b) ≡ (a == b)
is_eq-nat_cmp a b = grind arith

is_eq-then : (a b : Ordering) → is_eq (ordering_then a b) ≡ (is_eq a && is_eq b)
is_eq-then Less b = refl
is_eq-then Equal b = refl
is_eq-then Greater b = refl

abbrev read : List ((ℕ × ℤ) × Flow) → Accessed
read es = λ array offset. lookup (is_at (access_cmp (array, offset))) es

pub no_accesses : (m : BTreeMap (ℕ × ℤ) Flow) → m.entries ≡ [] → accesses_of (record { entries = m }) ≡ no_access
unfolding accesses_of
no_accesses m none = ap read none

pub with_access : (m n : BTreeMap (ℕ × ℤ) Flow) (array : ℕ) (offset : ℤ) (flow : Flow) → UpdatesBy access_cmp (access_cmp (array, offset)) m n (Some flow)
    → accesses_of (record { entries = n }) ≡ noted_access (accesses_of (record { entries = m })) array offset flow
unfolding accesses_of noted_access
with_access m n array offset flow h = λ i. λ other distance.
    (h.0 (other, distance) ∙ ap (λ b. if b then Some flow else read m.entries other distance)
    (is_eq-then (nat_cmp array other) (int_cmp offset distance) ∙ ap (λ b. b && int_eq offset distance) (is_eq-nat_cmp array other))) i

pub same_accesses : (m n : BTreeMap (ℕ × ℤ) Flow) → IsUnchanged m n → accesses_of (record { entries = n }) ≡ accesses_of (record { entries = m })
unfolding accesses_of
same_accesses m n same = ap read same
