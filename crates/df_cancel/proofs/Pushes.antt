-- One unit of flow, sent along a step and along a cycle of steps.
use Rattle.std.proofs.Common.{◌≡◌, ℕ, zero, suc, ◌+◌, ◌<◌, ℤ, pos, neg_ℤ, ◌+ℤ◌, ◌-ℤ◌, ◌*ℤ◌, List, [], ◌∷◌, length, get_or, set, zip, cond, eqb, Bool, true, false, sum_by, refl, ap, ◌∙◌, arith}
use Rattle.std.proofs.Math.IntN.{+ℤ_idr}
use Rattle.std.proofs.lemmas.Int.{ints}
use Rattle.std.proofs.lemmas.List.Sums.{sum_by-set}
use Rattle.std.proofs.lemmas.Slice.Zip.{get_or-zip}
use borrow.Author.Differences.{product_is}
use Rattle.df_stages.specs.Sums.{int_sum_by}
use Rattle.df_stages.specs.Flows.{inflow, outflow, flow_value}
use Rattle.df_cancel.specs.Rows.{step_at}
use Rattle.df_cancel.specs.Cycles.{IsPositiveCycle}
use Rattle.df_stages.specs.Skeletons.{no_arc, arc_at}
use Rattle.df_cancel.specs.Residuals.{forward_step, backward_step}
use Rattle.df_cancel.specs.declared.step.Step.{Step}
use Rattle.df_stages.specs.declared.skeleton.SkeletonArc.{SkeletonArc}
use Rattle.df_stages.proofs.Sums.{int_sum-set, int_sum-cons}
use Rattle.df_stages.proofs.ZipSums.{length_pairs}

-- the pairs after a write
zip-set : (arcs : List SkeletonArc) (flow : List ℕ) (a y : ℕ) → length flow ≡ length arcs → a < length arcs → zip arcs (set flow a y) ≡ set (zip arcs flow) a (arc_at arcs a, y)
zip-set [] flow a y e h = absurd (omega arith)
zip-set (x ∷ arcs) [] a y e h = absurd (omega arith)
zip-set (x ∷ arcs) (f ∷ flow) zero y e h = refl
zip-set (x ∷ arcs) (f ∷ flow) (suc a) y e h = ap (λ (l : List (SkeletonArc × ℕ)). (x, f) ∷ l) (zip-set arcs flow a y (omega arith) (omega arith))

-- the net flow into a node
abbrev pub net : List SkeletonArc → List ℕ → ℕ → ℤ
net arcs flow node = pos (inflow arcs flow node) -ℤ pos (outflow arcs flow node)

-- what a unit along a step brings a node
abbrev pub brings : ℕ → Step → ℤ
brings node s = pos (cond (eqb s.to node) 1 0) -ℤ pos (cond (eqb s.from node) 1 0)

keyed : (key : SkeletonArc → ℕ) (arcs : List SkeletonArc) (flow : List ℕ) (a y node : ℕ) → length flow ≡ length arcs → a < length arcs → sum_by (λ (p : SkeletonArc × ℕ). cond (eqb (key p.0) node) p.1 0) (zip arcs (set flow a y)) + cond (eqb (key (arc_at arcs a)) node) (get_or flow a 0) 0 ≡ sum_by (λ (p : SkeletonArc × ℕ). cond (eqb (key p.0) node) p.1 0) (zip arcs flow) + cond (eqb (key (arc_at arcs a)) node) y 0
keyed key arcs flow a y node e h =
    let f = λ (p : SkeletonArc × ℕ). cond {A = ℕ} (eqb (key p.0) node) p.1 0 in
    let long = length_pairs arcs flow e in
    let w = ap (sum_by f) (zip-set arcs flow a y e h) in
    let s = sum_by-set f (zip arcs flow) a (arc_at arcs a, y) (no_arc, 0) (omega arith) in
    let r = ap f (get_or-zip arcs flow a (no_arc, 0) h (omega arith)) in
    joins _ _ _ _ _ _ w s r
  where
    joins : (x x' u u' v w : ℕ) → x ≡ x' → x' + u ≡ v + w → u ≡ u' → x + u' ≡ v + w
    joins x x' u u' v w a b c = omega arith

one_more : (b : Bool) (f : ℕ) → cond b (f + 1) 0 ≡ cond b f 0 + cond b 1 0
one_more true f = refl
one_more false f = refl

-- the flow after a unit more on an arc
module _ (arcs : List SkeletonArc) (flow : List ℕ) (a f : ℕ) (same : length flow ≡ length arcs) (h : a < length arcs) where
  value_change : (y : ℕ) → flow_value arcs (set flow a y) +ℤ (arc_at arcs a).weight *ℤ pos (get_or flow a 0) ≡ flow_value arcs flow +ℤ (arc_at arcs a).weight *ℤ pos y
  value_change y =
      let g = λ (p : SkeletonArc × ℕ). p.0.weight *ℤ pos p.1 in
      let long = length_pairs arcs flow same in
      let w = ap (int_sum_by g) (zip-set arcs flow a y same h) in
      let s = int_sum-set g (zip arcs flow) a (arc_at arcs a, y) (no_arc, 0) (omega arith) in
      let r = ap g (get_or-zip arcs flow a (no_arc, 0) h (omega arith)) in
      joins _ _ _ _ _ _ _ w s r
    where
      joins : (x x' u u' v w z : ℤ) → x ≡ x' → x' +ℤ u ≡ v +ℤ w → u ≡ u' → (x -ℤ z) +ℤ u' ≡ (v -ℤ z) +ℤ w
      joins x x' u u' v w z a b c = omega (arith, ints)

  pub net_up : get_or flow a 0 ≡ f → (node : ℕ) → net arcs (set flow a (f + 1)) node ≡ net arcs flow node +ℤ brings node (forward_step arcs a)
  net_up is node =
      let i = keyed (λ arc. arc.to) arcs flow a (f + 1) node same h in let o = keyed (λ arc. arc.from) arcs flow a (f + 1) node same h in
      let ii = one_more (eqb (arc_at arcs a).to node) f in let oo = one_more (eqb (arc_at arcs a).from node) f in
      let ri = ap (λ x. cond {A = ℕ} (eqb (arc_at arcs a).to node) x 0) is in let ro = ap (λ x. cond {A = ℕ} (eqb (arc_at arcs a).from node) x 0) is in
      omega (arith, ints)

  pub net_down : get_or flow a 0 ≡ f + 1 → (node : ℕ) → net arcs (set flow a f) node ≡ net arcs flow node +ℤ brings node (backward_step arcs a)
  net_down is node =
      let i = keyed (λ arc. arc.to) arcs flow a f node same h in let o = keyed (λ arc. arc.from) arcs flow a f node same h in
      let ii = one_more (eqb (arc_at arcs a).to node) f in let oo = one_more (eqb (arc_at arcs a).from node) f in
      let ri = ap (λ x. cond {A = ℕ} (eqb (arc_at arcs a).to node) x 0) is in let ro = ap (λ x. cond {A = ℕ} (eqb (arc_at arcs a).from node) x 0) is in
      omega (arith, ints)

  pub value_up : get_or flow a 0 ≡ f → flow_value arcs (set flow a (f + 1)) ≡ flow_value arcs flow +ℤ (forward_step arcs a).count
  value_up is = up_by (arc_at arcs a).weight f (get_or flow a 0) _ _ is (value_change (f + 1))
    where
      up_by : (w : ℤ) (f g : ℕ) (x y : ℤ) → g ≡ f → x +ℤ w *ℤ pos g ≡ y +ℤ w *ℤ pos (f + 1) → x ≡ y +ℤ w
      up_by w f g x y e h = let a = ap (λ n. w *ℤ pos n) e in let p = product_is w (pos (f + 1)) in let q = product_is w (pos f) in omega (arith, ints)

  pub value_down : get_or flow a 0 ≡ f + 1 → flow_value arcs (set flow a f) ≡ flow_value arcs flow +ℤ (backward_step arcs a).count
  value_down is = down_by (arc_at arcs a).weight f (get_or flow a 0) _ _ is (value_change f)
    where
      down_by : (w : ℤ) (f g : ℕ) (x y : ℤ) → g ≡ f + 1 → x +ℤ w *ℤ pos g ≡ y +ℤ w *ℤ pos f → x ≡ y +ℤ neg_ℤ w
      down_by w f g x y e h = let a = ap (λ n. w *ℤ pos n) e in let p = product_is w (pos (f + 1)) in let q = product_is w (pos f) in omega (arith, ints)

-- what a linked list of steps brings a node: a unit at its end, less one at its beginning
brought : (node : ℕ) (s : Step) (cycle : List Step) → ((k : ℕ) → k + 1 < length (s ∷ cycle) → (step_at (s ∷ cycle) (k + 1)).to ≡ (step_at (s ∷ cycle) k).from) → int_sum_by (brings node) (s ∷ cycle) ≡ pos (cond (eqb s.to node) 1 0) -ℤ pos (cond (eqb (step_at (s ∷ cycle) (length cycle)).from node) 1 0)
brought node s [] linked = int_sum-cons (brings node) s [] ∙ +ℤ_idr (brings node s)
brought node s (r ∷ cycle) linked =
    let e = int_sum-cons (brings node) s (r ∷ cycle) in
    let rest = brought node r cycle (λ k h. ap (λ j. (step_at (s ∷ r ∷ cycle) j).to) (shift k) ∙ linked (suc k) (omega arith)) in
    let joint = ap (λ v. cond {A = ℕ} (eqb v node) 1 0) (linked 0 (omega arith)) in
    omega (arith, ints)
  where
    shift : (k : ℕ) → suc (k + 1) ≡ suc k + 1
    shift k = omega arith

-- a cycle brings a node nothing
pub cycle_brings : (nodes : ℕ) (steps cycle : List Step) (node : ℕ) → IsPositiveCycle nodes steps cycle → int_sum_by (brings node) cycle ≡ pos 0
cycle_brings nodes steps [] node c = refl
cycle_brings nodes steps (s ∷ cycle) node c =
    let b = brought node s cycle c.linked in
    let joint = ap (λ v. cond {A = ℕ} (eqb v node) 1 0) (c.closed (length cycle) (omega arith)) in
    omega (arith, ints)
