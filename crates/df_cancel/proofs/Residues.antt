-- The steps of a flow, one more at a time.
use Rattle.std.proofs.Common.{ℕ, ◌+◌, ◌<◌, ◌≤◌, pos, neg_ℤ, ◌≤ℤ◌, List, [], ◌∷◌, ◌++◌, length, get_or, inl, inr, Contains, refl, sym, subst, below_more, arith}
use Rattle.std.proofs.lemmas.Int.{ints}
use Rattle.std.proofs.lemmas.List.{get_or_append_left, get_or_push, get_or_default, length-append}
use Rattle.std.proofs.lemmas.List.Elements.{Contains-append_left, Contains-push}
use Rattle.df_stages.specs.Flows.{EndsWithin}
use Rattle.df_cancel.specs.Rows.{no_step, step_at, StepsWithin}
use Rattle.df_stages.specs.Skeletons.{no_arc, WeightsWithin}
use Rattle.df_cancel.specs.Residuals.{forward_step, backward_step, IsStepOf, IsResidual}
use Rattle.df_cancel.specs.declared.step.Step.{Step}
use Rattle.df_stages.specs.declared.skeleton.SkeletonArc.{SkeletonArc}

pub none_yet : (arcs : List SkeletonArc) (flow : List ℕ) → IsResidual arcs flow 0 0 []
none_yet arcs flow = record { along = λ k h. absurd (omega arith); forward = λ i h. absurd (omega arith); backward = λ i h. absurd (omega arith) }

along_push : (arcs : List SkeletonArc) (flow : List ℕ) (steps : List Step) (s : Step) → ((k : ℕ) → k < length steps → IsStepOf arcs flow (step_at steps k)) → IsStepOf arcs flow s → (k : ℕ) → k < length (steps ++ s ∷ []) → IsStepOf arcs flow (step_at (steps ++ s ∷ []) k)
along_push arcs flow steps s old new k h =
    below_more (λ k. IsStepOf arcs flow (step_at (steps ++ s ∷ []) k)) (length steps)
    (λ k l. subst (IsStepOf arcs flow) (sym (get_or_append_left steps (s ∷ []) no_step k l)) (old k l))
    (subst (IsStepOf arcs flow) (sym (get_or_push steps s no_step (length steps) refl)) new) k (omega (arith, length-append steps (s ∷ [])))

pub more_forward : (arcs : List SkeletonArc) (flow : List ℕ) (ahead back : ℕ) (steps : List Step) → IsResidual arcs flow ahead back steps → ahead < length arcs → IsResidual arcs flow (ahead + 1) back (steps ++ forward_step arcs ahead ∷ [])
more_forward arcs flow ahead back steps r h = record {
  along = along_push arcs flow steps (forward_step arcs ahead) r.along (h, inl refl);
  forward = below_more (λ i. Contains (steps ++ forward_step arcs ahead ∷ []) (forward_step arcs i)) ahead
      (λ i l. Contains-append_left steps (forward_step arcs ahead ∷ []) (forward_step arcs i) (r.forward i l)) (Contains-push steps (forward_step arcs ahead));
  backward = λ i l f. Contains-append_left steps (forward_step arcs ahead ∷ []) (backward_step arcs i) (r.backward i l f);
}

pub more_backward : (arcs : List SkeletonArc) (flow : List ℕ) (ahead back : ℕ) (steps : List Step) → IsResidual arcs flow ahead back steps → back < length arcs → 0 < get_or flow back 0 → IsResidual arcs flow ahead (back + 1) (steps ++ backward_step arcs back ∷ [])
more_backward arcs flow ahead back steps r h some = record {
  along = along_push arcs flow steps (backward_step arcs back) r.along (h, inr (refl, some));
  forward = λ i l. Contains-append_left steps (backward_step arcs back ∷ []) (forward_step arcs i) (r.forward i l);
  backward = below_more (λ i. 0 < get_or flow i 0 → Contains (steps ++ backward_step arcs back ∷ []) (backward_step arcs i)) back
      (λ i l f. Contains-append_left steps (backward_step arcs back ∷ []) (backward_step arcs i) (r.backward i l f)) (λ f. Contains-push steps (backward_step arcs back));
}

pub skip_backward : (arcs : List SkeletonArc) (flow : List ℕ) (ahead back : ℕ) (steps : List Step) → IsResidual arcs flow ahead back steps → get_or flow back 0 ≤ 0 → IsResidual arcs flow ahead (back + 1) steps
skip_backward arcs flow ahead back steps r none = record {
  along = r.along;
  forward = r.forward;
  backward = below_more (λ i. 0 < get_or flow i 0 → Contains steps (backward_step arcs i)) back r.backward (λ f. absurd (omega arith));
}

Bounded : ℕ → ℕ → Step → Type 0
Bounded n m s = (s.from < n) × (s.to < n) × (neg_ℤ (pos m) ≤ℤ s.count) × (s.count ≤ℤ pos m)

-- the steps of arcs within limits are within them
pub residual_within : (n m : ℕ) (arcs : List SkeletonArc) (flow : List ℕ) (ahead back : ℕ) (steps : List Step) → EndsWithin n arcs → WeightsWithin m arcs → IsResidual arcs flow ahead back steps → StepsWithin n m steps
unfolding Bounded
residual_within n m arcs flow ahead back steps ends weights r k d h = subst (Bounded n m) (get_or_default steps k no_step d h) (by (step_at steps k) (r.along k h))
  where
    by : (s : Step) → IsStepOf arcs flow s → Bounded n m s
    by s (h, inl e) = let a = ends s.arc no_arc h in let w = weights s.arc no_arc h in subst (Bounded n m) (sym e) (a.0, a.1, w.0, w.1)
    by s (h, inr (e, f)) =
        let a = ends s.arc no_arc h in let w = weights s.arc no_arc h in let w0 = w.0 in let w1 = w.1 in
        subst (Bounded n m) (sym e) (a.1, a.0, omega (arith, ints), omega (arith, ints))

pub weights_wider : (m n : ℕ) (arcs : List SkeletonArc) → m ≤ n → WeightsWithin m arcs → WeightsWithin n arcs
weights_wider m n arcs h weights = λ k d l. let w = weights k d l in let low = w.0 in let high = w.1 in (omega (arith, ints), omega (arith, ints))
