-- No flow is above the number of arcs, and so no value is above a limit.
use Rattle.std.proofs.Common.{◌≡◌, ℕ, zero, suc, ◌+◌, ◌*◌, ◌<◌, ◌≤◌, ℤ, pos, negsuc, nat_abs, ◌+ℤ◌, ◌-ℤ◌, ◌*ℤ◌, ◌≤ℤ◌, List, [], ◌∷◌, length, get_or, zip, All, cond, leb, ◌⊎◌, inl, inr, sum_by, ap, subst, ◌∙◌, arith}
use Rattle.std.proofs.Math.Nat.{mul-le-mul_left}
use borrow.Author.Differences.{product_is}
use Rattle.std.proofs.lemmas.Bool.{cases_lt, le-leb, lt-leb}
use Rattle.std.proofs.lemmas.Int.{ints}
use Rattle.std.proofs.lemmas.List.Elements.{All-head, All-tail}
use Rattle.std.proofs.lemmas.List.Sums.{sum_by-cons}
use Rattle.std.proofs.lemmas.Slice.Zip.{get_or-zip}
use Rattle.df_stages.specs.Sums.{int_sum_by}
use Rattle.df_stages.specs.Flows.{difference, IsDualFlow, flow_value, EndsWithin}
use Rattle.df_stages.specs.Skeletons.{no_arc, arc_at}
use Rattle.df_cancel.specs.Residuals.{IsAcyclic}
use Rattle.df_stages.specs.declared.skeleton.SkeletonArc.{SkeletonArc}
use Rattle.df_stages.proofs.Sums.{int_sum-cons, int_sum-nonneg, scaled-nonneg, times-one}
use Rattle.df_stages.proofs.ZipSums.{length_pairs}
use Rattle.df_stages.proofs.Duality.{carried, All-zip}

-- a term of a sum of terms that are not negative
pub term-le-sum : {X : Type 0} (f : X → ℤ) (xs : List X) (i : ℕ) (d : X) → All (λ x. pos 0 ≤ℤ f x) xs → i < length xs → f (get_or xs i d) ≤ℤ int_sum_by f xs
term-le-sum f [] i d all h = absurd (omega arith)
term-le-sum f (x ∷ xs) zero d all h =
    let e = int_sum-cons f x xs in let n = int_sum-nonneg f xs (All-tail (λ x. pos 0 ≤ℤ f x) x xs all) in omega (arith, ints)
term-le-sum f (x ∷ xs) (suc i) d all h =
    let e = int_sum-cons f x xs in let n = All-head (λ x. pos 0 ≤ℤ f x) x xs all in
    let r = term-le-sum f xs i d (All-tail (λ x. pos 0 ≤ℤ f x) x xs all) (omega arith) in omega (arith, ints)

-- a sum of terms that are at most one
pub sum-le-length : {X : Type 0} (f : X → ℤ) (xs : List X) → All (λ x. f x ≤ℤ pos 1) xs → int_sum_by f xs ≤ℤ pos (length xs)
sum-le-length f [] all = omega (arith, ints)
sum-le-length f (x ∷ xs) all =
    let e = int_sum-cons f x xs in let n = All-head (λ x. f x ≤ℤ pos 1) x xs all in
    let r = sum-le-length f xs (All-tail (λ x. f x ≤ℤ pos 1) x xs all) in omega (arith, ints)

-- 1 from a rank on, and 0 below
abbrev step_from : ℕ → ℕ → ℤ
step_from r k = pos (cond (leb r k) 1 0)

step_yes : (r k : ℕ) → r ≤ k → step_from r k ≡ pos 1
step_yes r k h = ap (λ b. pos (cond b 1 0)) (le-leb r k h)

step_no : (r k : ℕ) → k < r → step_from r k ≡ pos 0
step_no r k h = ap (λ b. pos (cond b 1 0)) (lt-leb r k h)

step_cases : (r k : ℕ) → ((r ≤ k) × (step_from r k ≡ pos 1)) ⊎ ((k < r) × (step_from r k ≡ pos 0))
step_cases r k = by (cases_lt k r)
  where
    by : (k < r) ⊎ (r ≤ k) → ((r ≤ k) × (step_from r k ≡ pos 1)) ⊎ ((k < r) × (step_from r k ≡ pos 0))
    by (inl h) = inr (h, step_no r k h)
    by (inr h) = inl (h, step_yes r k h)

step_rises : (r j k : ℕ) → j < k → (pos 0 ≤ℤ (step_from r k -ℤ step_from r j)) × ((step_from r k -ℤ step_from r j) ≤ℤ pos 1)
step_rises r j k h = by (step_cases r j) (step_cases r k)
  where
    by : ((r ≤ j) × (step_from r j ≡ pos 1)) ⊎ ((j < r) × (step_from r j ≡ pos 0)) → ((r ≤ k) × (step_from r k ≡ pos 1)) ⊎ ((k < r) × (step_from r k ≡ pos 0)) → (pos 0 ≤ℤ (step_from r k -ℤ step_from r j)) × ((step_from r k -ℤ step_from r j) ≤ℤ pos 1)
    by (inl (a, e)) (inl (b, f)) = (omega (arith, ints), omega (arith, ints))
    by (inl (a, e)) (inr (b, f)) = absurd (omega arith)
    by (inr (a, e)) (inl (b, f)) = (omega (arith, ints), omega (arith, ints))
    by (inr (a, e)) (inr (b, f)) = (omega (arith, ints), omega (arith, ints))

-- the arcs that cross from below a rank carry together what they are in number
pub flow_bounded : (n : ℕ) (arcs : List SkeletonArc) (flow : List ℕ) → EndsWithin n arcs → IsAcyclic arcs → IsDualFlow n arcs flow → (k : ℕ) → k < length arcs → get_or flow k 0 ≤ length arcs
flow_bounded n arcs flow ends (rank, rising) dual k h =
    let r = rank (arc_at arcs k).to in
    let numbers = λ (v : ℕ). step_from r (rank v) in
    let pairs = zip arcs flow in
    let long = length_pairs arcs flow dual.each in
    let same = carried numbers n arcs flow ends dual in
    let all = sum-le-length (difference numbers) arcs (λ j d l. (step_rises r (rank (get_or arcs j d).from) (rank (get_or arcs j d).to) (rising j d l)).1) in
    let up = All-zip (λ arc. pos 0 ≤ℤ difference numbers arc) arcs flow (λ j d l. (step_rises r (rank (get_or arcs j d).from) (rank (get_or arcs j d).to) (rising j d l)).0) in
    let term = term-le-sum (λ (p : SkeletonArc × ℕ). pos p.1 *ℤ difference numbers p.0) pairs k (no_arc, 0) (λ j d l. scaled-nonneg (get_or pairs j d).1 (difference numbers (get_or pairs j d).0) (up j d l)) (omega arith) in
    let read = ap (λ (p : SkeletonArc × ℕ). pos p.1 *ℤ difference numbers p.0) (get_or-zip arcs flow k (no_arc, 0) h (omega (arith, dual.each))) in
    let top = step_yes r (rank (arc_at arcs k).to) (le r) in
    let bottom = step_no r (rank (arc_at arcs k).from) (rising k no_arc h) in
    let one : difference numbers (arc_at arcs k) ≡ pos 1 = omega (arith, ints) in
    let value : pos (get_or flow k 0) *ℤ difference numbers (arc_at arcs k) ≡ pos (get_or flow k 0) = ap (λ z. pos (get_or flow k 0) *ℤ z) one ∙ times-one (pos (get_or flow k 0)) in
    final (get_or flow k 0) (length arcs) (int_sum_by (λ (p : SkeletonArc × ℕ). pos p.1 *ℤ difference numbers p.0) pairs) (int_sum_by (difference numbers) arcs) (subst (λ z. z ≤ℤ int_sum_by (λ (p : SkeletonArc × ℕ). pos p.1 *ℤ difference numbers p.0) pairs) (read ∙ value) term) same all
  where
    le : (a : ℕ) → a ≤ a
    le a = omega arith

    final : (f m : ℕ) (a b : ℤ) → pos f ≤ℤ a → a ≡ b → b ≤ℤ pos m → f ≤ m
    final f m a b h e l = omega (arith, ints)

-- what no value is above
pub value_limit : List SkeletonArc → ℕ
value_limit arcs = sum_by (λ arc. nat_abs arc.weight * length arcs) arcs + sum_by (λ arc. nat_abs arc.weight) arcs

term_limit : (w : ℤ) (f m : ℕ) → f ≤ m → (w *ℤ pos f) ≤ℤ pos (nat_abs w * m)
term_limit (pos k) f m h = let p = product_is (pos k) (pos f) in let a = mul-le-mul_left k h in omega (arith, ints)
term_limit (negsuc k) f m h = let p = product_is (negsuc k) (pos f) in omega (arith, ints)

sum_limit : (arcs : List SkeletonArc) (flow : List ℕ) (m : ℕ) → ((k : ℕ) → k < length arcs → get_or flow k 0 ≤ m) → int_sum_by (λ p. p.0.weight *ℤ pos p.1) (zip arcs flow) ≤ℤ pos (sum_by (λ arc. nat_abs arc.weight * m) arcs)
sum_limit [] flow m small = omega (arith, ints)
sum_limit (a ∷ arcs) [] m small = omega (arith, ints)
sum_limit (a ∷ arcs) (f ∷ flow) m small =
    let e = int_sum-cons (λ (p : SkeletonArc × ℕ). p.0.weight *ℤ pos p.1) (a, f) (zip arcs flow) in
    let s = sum_by-cons (λ (arc : SkeletonArc). nat_abs arc.weight * m) a arcs in
    let t = term_limit a.weight f m (small 0 (omega arith)) in
    let r = sum_limit arcs flow m (λ k h. small (suc k) (omega arith)) in
    adds (a.weight *ℤ pos f) (nat_abs a.weight * m) _ _ _ _ t r e s
  where
    adds : (x : ℤ) (u : ℕ) (y : ℤ) (v : ℕ) (z : ℤ) (w : ℕ) → x ≤ℤ pos u → y ≤ℤ pos v → z ≡ x +ℤ y → w ≡ u + v → z ≤ℤ pos w
    adds x u y v z w a b c d = omega (arith, ints)

weights_limit : (arcs : List SkeletonArc) → (pos 0 -ℤ int_sum_by (λ arc. arc.weight) arcs) ≤ℤ pos (sum_by (λ arc. nat_abs arc.weight) arcs)
weights_limit [] = omega (arith, ints)
weights_limit (a ∷ arcs) =
    let e = int_sum-cons (λ (arc : SkeletonArc). arc.weight) a arcs in
    let s = sum_by-cons (λ (arc : SkeletonArc). nat_abs arc.weight) a arcs in
    let r = weights_limit arcs in omega (arith, ints)

pub value_bounded : (n : ℕ) (arcs : List SkeletonArc) (flow : List ℕ) → EndsWithin n arcs → IsAcyclic arcs → IsDualFlow n arcs flow → flow_value arcs flow ≤ℤ pos (value_limit arcs)
unfolding value_limit
value_bounded n arcs flow ends acyclic dual =
    let a = sum_limit arcs flow (length arcs) (flow_bounded n arcs flow ends acyclic dual) in let b = weights_limit arcs in omega (arith, ints)
