-- Facts of each member of a list, and of each entry of a table.
use Rattle.std.proofs.Common.{◌≡◌, ℕ, ℤ, Bool, true, false, zero, suc, List, [], ◌∷◌, ◌++◌, Some, None, subst}
use Rattle.std.specs.Prelude.{if◌then◌else◌, slice_get, ◌==◌, ◌&&◌}
use Rattle.std.specs.List.{AllByRecursion}
use Rattle.std.specs.Ordering.{int_eq}
use Rattle.df_labels.specs.declared.graphs.Flow.{Flow}
use Rattle.df_build_cond.specs.Noted.{Noted, noted}
use Rattle.df_build_access.specs.Accesses.{Accessed, noted_access}

pub all_map : {X : Type 0} (P Q : X → Type 0) → ((x : X) → P x → Q x) → (xs : List X) → AllByRecursion P xs
    → AllByRecursion Q xs
all_map P Q h [] all = tt
all_map P Q h (x ∷ xs) all = (h x all.0, all_map P Q h xs all.1)

pub all_push : {X : Type 0} (P : X → Type 0) (xs : List X) (y : X) → AllByRecursion P xs → P y
    → AllByRecursion P (xs ++ y ∷ [])
all_push P [] y all last = (last, tt)
all_push P (x ∷ xs) y all last = (all.0, all_push P xs y all.1 last)

pub all_get : {X : Type 0} (P : X → Type 0) (xs : List X) (i : ℕ) (x : X) → AllByRecursion P xs
    → slice_get xs i ≡ Some x → P x
all_get P [] i x all is = absurd (none is)
  where
    none : {X : Type 0} {x : X} → None ≡ Some x → ⊥
    none e = cc
all_get P (y ∷ xs) zero x all is = let e : y ≡ x = cc in subst P e all.0
all_get P (y ∷ xs) (suc i) x all is = all_get P xs i x all.1 is

pub noted_all : (P : ℕ → Type 0) (table : Noted) (v c : ℕ) → P c → ((u d : ℕ) → table u ≡ Some d → P d) → (u d : ℕ)
    → noted table v c u ≡ Some d → P d
unfolding noted
noted_all P table v c new old u d = go (v == u)
  where
    go : (t : Bool) → (if t then Some c else table u) ≡ Some d → P d
    go true is = let e : c ≡ d = cc in subst P e new
    go false is = old u d is

pub accesses_all : (P : Flow → Type 0) (table : Accessed) (v : ℕ) (o : ℤ) (f : Flow) → P f
    → ((u : ℕ) (c : ℤ) (g : Flow) → table u c ≡ Some g → P g) → (u : ℕ) (c : ℤ) (g : Flow)
    → noted_access table v o f u c ≡ Some g → P g
unfolding noted_access
accesses_all P table v o f new old u c g = go ((v == u) && int_eq o c)
  where
    go : (t : Bool) → (if t then Some f else table u c) ≡ Some g → P g
    go true is = let e : f ≡ g = cc in subst P e new
    go false is = old u c g is
