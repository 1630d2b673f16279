-- Numbers that no step passes give stages.
use Rattle.std.proofs.Common.{◌≡◌, ℕ, ◌*◌, ◌<◌, ℤ, pos, ◌+ℤ◌, ◌-ℤ◌, ◌≤ℤ◌, List, length, get_or, zip, Contains, sym, subst, ◌∙◌, arith}
use Rattle.std.proofs.lemmas.Int.{ints}
use Rattle.std.proofs.lemmas.List.{get_or_default}
use Rattle.std.proofs.lemmas.Slice.Zip.{get_or-zip}
use Rattle.df_stages.specs.Flows.{difference, excess, IsDualFlow}
use Rattle.df_cancel.specs.Rows.{at_row, no_step, StepsWithin, RowWithin}
use Rattle.df_cancel.specs.Found.{Settles}
use Rattle.df_cancel.specs.Lowered.{IsLowered}
use Rattle.df_stages.specs.Skeletons.{no_arc, arc_at, WeightsWithin}
use Rattle.df_cancel.specs.Residuals.{forward_step, backward_step, IsResidual}
use Rattle.df_cancel.specs.Balances.{numbered}
use Rattle.df_cancel.specs.Balanced.{IsBalancedBy}
use Rattle.df_cancel.specs.Residuals.{IsRankedSkeleton}
use Rattle.df_cancel.specs.declared.step.Step.{Step}
use Rattle.df_stages.specs.declared.skeleton.SkeletonArc.{SkeletonArc}
use Rattle.df_stages.proofs.ZipSums.{length_pairs}
use Rattle.df_stages.proofs.Duality.{equal_value}
use Rattle.df_cancel.proofs.Residues.{residual_within}

settled_at : (steps : List Step) (numbers : List ℤ) (s : Step) → Settles steps numbers → Contains steps s → (at_row numbers s.from +ℤ s.count) ≤ℤ at_row numbers s.to
settled_at steps numbers s settles (k, h, e) =
    subst (λ (x : Step). (at_row numbers x.from +ℤ x.count) ≤ℤ at_row numbers x.to) (sym (get_or_default steps k s no_step h) ∙ e) (settles k h)

module _ (nodes : ℕ) (arcs : List SkeletonArc) (flow : List ℕ) (steps : List Step) (numbers stages : List ℤ) (s : IsRankedSkeleton nodes arcs) (dual : IsDualFlow nodes arcs flow) (r : IsResidual arcs flow (length arcs) (length arcs) steps) (long : length numbers ≡ nodes) (settles : Settles steps numbers) (bounds : (m : ℕ) → StepsWithin nodes m steps → RowWithin (nodes * m) numbers) (low : IsLowered numbers stages) where
  stage : (k : ℕ) → k < nodes → at_row stages k ≡ at_row numbers k -ℤ low.least
  stage k h = low.lower k (omega (arith, long))

  respected : (k : ℕ) → k < length arcs → (arc_at arcs k).weight ≤ℤ difference (numbered stages) (arc_at arcs k)
  respected k h =
      let ends = s.ends k no_arc h in
      let f = settled_at steps numbers (forward_step arcs k) settles (r.forward k h) in
      let a = stage (arc_at arcs k).from ends.0 in let b = stage (arc_at arcs k).to ends.1 in omega (arith, ints)

  tight : (k : ℕ) → k < length arcs → 0 < get_or flow k 0 → excess (numbered stages) (arc_at arcs k) ≡ pos 0
  tight k h more =
      let ends = s.ends k no_arc h in
      let f = settled_at steps numbers (forward_step arcs k) settles (r.forward k h) in
      let g = settled_at steps numbers (backward_step arcs k) settles (r.backward k h more) in
      let a = stage (arc_at arcs k).from ends.0 in let b = stage (arc_at arcs k).to ends.1 in omega (arith, ints)

  not_negative : (k : ℕ) → k < length stages → pos 0 ≤ℤ get_or stages k (pos 0)
  not_negative k h =
      let i : k < length numbers = omega (arith, low.len) in
      let a = low.lower k i in let b = low.below k i in omega (arith, ints)

  bounded : (m : ℕ) → WeightsWithin m arcs → (k : ℕ) → k < length stages → get_or stages k (pos 0) ≤ℤ pos (nodes * m)
  bounded m weights k h =
      let i : k < length numbers = omega (arith, low.len) in
      let w = bounds m (residual_within nodes m arcs flow (length arcs) (length arcs) steps s.ends weights r) in
      let hit = low.reached (omega arith) in
      let a = low.lower k i in let b = (w k).1 in let c = (w hit.0).0 in let d = hit.2 in omega (arith, ints)

  pub balance_of : IsBalancedBy nodes arcs stages flow
  balance_of = record {
    len = low.len ∙ long;
    respects = λ k d h. subst (λ (a : SkeletonArc). a.weight ≤ℤ difference (numbered stages) a) (get_or_default arcs k no_arc d h) (respected k h);
    lowest = (
      λ k d h. subst (λ z. pos 0 ≤ℤ z) (get_or_default stages k (pos 0) d h) (not_negative k h),
      λ some.
          let hit = low.reached (omega (arith, low.len)) in
          (hit.0, omega (arith, hit.1, low.len), (let a = low.lower hit.0 hit.1 in let b = hit.2 in omega (arith, ints))),
    );
    bound = λ m weights k d h. subst (λ z. z ≤ℤ pos (nodes * m)) (get_or_default stages k (pos 0) d h) (bounded m weights k h);
    dual = dual;
    equal = equal_value (numbered stages) nodes arcs flow s.ends dual (λ k d h.
        let i : k < length arcs = omega (arith, length_pairs arcs flow dual.each) in
        subst (λ (p : SkeletonArc × ℕ). 0 < p.1 → excess (numbered stages) p.0 ≡ pos 0)
        (sym (get_or_default (zip arcs flow) k d (no_arc, 0) h ∙ get_or-zip arcs flow k (no_arc, 0) i (omega (arith, dual.each)))) (tight k i));
  }
