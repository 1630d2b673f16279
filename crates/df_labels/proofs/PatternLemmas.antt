-- What patterns spell.
use Rattle.std.proofs.Common.{◌≡◌, ◌≢◌, ℕ, zero, suc, ◌+◌, ◌≤◌, Bool, true, false, List, [], ◌∷◌, ◌++◌, refl, ap, ◌∙◌, arith}
use Rattle.std.specs.Prelude.{not, replicate, if◌then◌else◌}
use Rattle.df_values.specs.declared.values.Value.{Value}
use Rattle.df_values.specs.declared.values.Value.TheVariants.{Int, Truth, Error}
use Rattle.df_cells.specs.declared.kinds.Run.{Run}
use Rattle.df_cells.specs.Kinds.{run_values, AreCanonical}
use Rattle.df_labels.specs.Patterns.{run, is_truth, run_before, pattern, PatternsSpell, PatternsAreCanonical, SteadySpells, SteadyIsCanonical}

-- ---- parts that differ are runs one after the other

pub two_are : (a b : ℕ) (s : Bool) → pattern ((a, s) ∷ (b, not s) ∷ []) ≡ run_before a s [] ++ run_before b (not s) []
two_are zero b s = refl
two_are (suc a) zero s = refl
two_are (suc a) (suc b) true = refl
two_are (suc a) (suc b) false = refl

pub three_are : (a k b : ℕ) → 1 ≤ k → pattern ((a, false) ∷ (k, true) ∷ (b, false) ∷ []) ≡ (run_before a false [] ++ run_before k true []) ++ run_before b false []
three_are a zero b some = absurd (omega (arith, some))
three_are zero (suc k) zero some = refl
three_are zero (suc k) (suc b) some = refl
three_are (suc a) (suc k) zero some = refl
three_are (suc a) (suc k) (suc b) some = refl

-- ---- values

times : (n m k : ℕ) (v : Value) (rest : List Value) → k ≡ n + m → replicate k v ++ rest ≡ replicate n v ++ (replicate m v ++ rest)
times zero m k v rest is = let e : k ≡ m = omega (arith, is) in ap (λ j. replicate j v ++ rest) e
times (suc n) m zero v rest is = absurd (omega (arith, is))
times (suc n) m (suc k) v rest is = let e : k ≡ n + m = omega (arith, is) in ap (λ l. v ∷ l) (times n m k v rest e)

truth_is : (side : Bool) (v : Value) → is_truth side v ≡ true → v ≡ Truth side
truth_is true (Truth true) is = refl
truth_is true (Truth false) is = cc
truth_is false (Truth true) is = cc
truth_is false (Truth false) is = refl
truth_is side (Int i) is = cc
truth_is side (Error e) is = cc

truth_not : (side : Bool) (v : Value) → is_truth side v ≡ false → Truth side ≢ v
truth_not true (Truth true) is e = cc
truth_not true (Truth false) is e = cc
truth_not false (Truth true) is e = cc
truth_not false (Truth false) is e = cc
truth_not side (Int i) is e = cc
truth_not side (Error e) is f = cc

values_before : (n : ℕ) (side : Bool) (runs : List Run) → run_values (run_before n side runs) ≡ replicate n (Truth side) ++ run_values runs
values_before zero side runs = refl
values_before (suc n) side [] = refl
values_before (suc n) side (r ∷ runs) = go (is_truth side r.value) refl
  where
    go : (t : Bool) → is_truth side r.value ≡ t
        → run_values (if t then record { count = suc n + r.count; value = r.value } ∷ runs else run (suc n) side ∷ r ∷ runs) ≡ replicate (suc n) (Truth side) ++ run_values (r ∷ runs)
    go true is =
        times (suc n) r.count (suc n + r.count) r.value (run_values runs) refl
        ∙ ap (λ v. replicate (suc n) v ++ (replicate r.count r.value ++ run_values runs)) (truth_is side r.value is)
    go false is = refl

pub patterns_spell : PatternsSpell
patterns_spell [] = refl
patterns_spell (p ∷ parts) = values_before p.0 p.1 (pattern parts) ∙ ap (λ l. replicate p.0 (Truth p.1) ++ l) (patterns_spell parts)

-- ---- the one list of runs

canonical_before : (n : ℕ) (side : Bool) (runs : List Run) → AreCanonical runs → AreCanonical (run_before n side runs)
canonical_before zero side runs h = h
canonical_before (suc n) side [] h = (omega arith, tt, tt)
canonical_before (suc n) side (r ∷ runs) h = go (is_truth side r.value) refl
  where
    go : (t : Bool) → is_truth side r.value ≡ t → AreCanonical (if t then record { count = suc n + r.count; value = r.value } ∷ runs else run (suc n) side ∷ r ∷ runs)
    go true is = (omega arith, h.1, h.2)
    go false is = (omega arith, truth_not side r.value is, h)

pub patterns_are_canonical : PatternsAreCanonical
patterns_are_canonical [] = tt
patterns_are_canonical (p ∷ parts) = canonical_before p.0 p.1 (pattern parts) (patterns_are_canonical parts)

pub steady_spells : SteadySpells
steady_spells zero v = refl
steady_spells (suc n) v = append_nil (replicate (suc n) v)
  where
    append_nil : (l : List Value) → l ++ [] ≡ l
    append_nil [] = refl
    append_nil (x ∷ l) = ap (λ m. x ∷ m) (append_nil l)

pub steady_is_canonical : SteadyIsCanonical
steady_is_canonical zero v = tt
steady_is_canonical (suc n) v = (omega arith, tt, tt)
