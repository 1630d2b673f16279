-- Facts of each member of a list, and facts that stay along a fold.
use Rattle.std.proofs.Common.{◌≡◌, ℕ, zero, suc, List, [], ◌∷◌, ◌++◌, fold, Some, None, subst}
use Rattle.std.specs.Prelude.{slice_get}
use Rattle.std.specs.List.{AllByRecursion}

pub all_map : {X : Type 0} (P Q : X → Type 0) → ((x : X) → P x → Q x) → (xs : List X) → AllByRecursion P xs
    → AllByRecursion Q xs
all_map P Q h [] all = tt
all_map P Q h (x ∷ xs) all = (h x all.0, all_map P Q h xs all.1)

pub all_push : {X : Type 0} (P : X → Type 0) (xs : List X) (y : X) → AllByRecursion P xs → P y
    → AllByRecursion P (xs ++ y ∷ [])
all_push P [] y all last = (last, tt)
all_push P (x ∷ xs) y all last = (all.0, all_push P xs y all.1 last)

pub all_get : {X : Type 0} (P : X → Type 0) (xs : List X) (i : ℕ) (x : X) → AllByRecursion P xs
    → slice_get xs i ≡ Some x
    → P x
all_get P [] i x all is = absurd (none is)
  where
    none : {X : Type 0} {x : X} → None ≡ Some x → ⊥
    none e = cc
all_get P (y ∷ xs) zero x all is = let e : y ≡ x = cc in subst P e all.0
all_get P (y ∷ xs) (suc i) x all is = all_get P xs i x all.1 is

-- what stays at each step stays
pub fold_keeps : {L X : Type 0} (P : L → Type 0) (f : L → X → L) → ((l : L) (x : X) → P l → P (f l x))
    → (xs : List X) (l : L)
    → P l → P (fold f l xs)
fold_keeps P f h [] l p = p
fold_keeps P f h (x ∷ xs) l p = fold_keeps P f h xs (f l x) (h l x p)

-- and what stays at each step of which something is known
pub fold_keeps_each : {L X : Type 0} (P : L → Type 0) (K : X → Type 0) (f : L → X → L)
    → ((l : L) (x : X) → K x → P l → P (f l x))
    → (xs : List X) (l : L) → AllByRecursion K xs → P l → P (fold f l xs)
fold_keeps_each P K f h [] l all p = p
fold_keeps_each P K f h (x ∷ xs) l all p = fold_keeps_each P K f h xs (f l x) all.1 (h l x all.0 p)
