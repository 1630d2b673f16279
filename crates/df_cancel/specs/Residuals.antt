-- The steps along which a unit of flow can be sent.
use Rattle.std.specs.Prelude.{◌≡◌, ℕ, ◌<◌, ◌≤◌, ◌^◌, pos, neg_ℤ, List, length, slice_index, All, Contains, ◌⊎◌, true, false}
use Rattle.df_stages.specs.Flows.{EndsWithin}
use Rattle.df_stages.specs.Skeletons.{arc_at, WeightsWithin}
use Rattle.df_cancel.specs.Rows.{step_at}
use Rattle.df_cancel.specs.declared.step.Step.{Step}
use Rattle.df_stages.specs.declared.skeleton.SkeletonArc.{SkeletonArc}

-- a step forward along an arc counts its weight, and a step back minus its weight
abbrev pub forward_step : List SkeletonArc → ℕ → Step
forward_step arcs i = record { from = (arc_at arcs i).from; to = (arc_at arcs i).to; count = (arc_at arcs i).weight; arc = i; forward = true }

abbrev pub backward_step : List SkeletonArc → ℕ → Step
backward_step arcs i = record { from = (arc_at arcs i).to; to = (arc_at arcs i).from; count = neg_ℤ (arc_at arcs i).weight; arc = i; forward = false }

-- a step forward, or a step back along an arc with flow
abbrev pub IsStepOf : List SkeletonArc → List ℕ → Step → Type 0
IsStepOf arcs flow s = (s.arc < length arcs) × ((s ≡ forward_step arcs s.arc) ⊎ ((s ≡ backward_step arcs s.arc) × (0 < slice_index flow s.arc)))

pub record IsResidual (arcs : List SkeletonArc) (flow : List ℕ) (ahead back : ℕ) (steps : List Step) : Type 0 where
  pub along : (k : ℕ) → k < length steps → IsStepOf arcs flow (step_at steps k)
  pub forward : (i : ℕ) → i < ahead → Contains steps (forward_step arcs i)
  pub backward : (i : ℕ) → i < back → 0 < slice_index flow i → Contains steps (backward_step arcs i)

-- one step of count 1 along each arc
abbrev pub unit_step : List SkeletonArc → ℕ → Step
unit_step arcs i = record { from = (arc_at arcs i).from; to = (arc_at arcs i).to; count = pos 1; arc = i; forward = true }

abbrev pub AreUnitSteps : List SkeletonArc → ℕ → List Step → Type 0
AreUnitSteps arcs n steps = (length steps ≡ n) × ((k : ℕ) → k < n → step_at steps k ≡ unit_step arcs k)

-- the nodes can be ranked so that each arc goes up
abbrev pub IsAcyclic : List SkeletonArc → Type 0
IsAcyclic arcs = (rank : ℕ → ℕ) × All (λ arc. rank arc.from < rank arc.to) arcs

-- a skeleton whose nodes are known to have ranks
pub record IsRankedSkeleton (nodes : ℕ) (arcs : List SkeletonArc) : Type 0 where
  pub few_nodes : nodes ≤ 2 ^ 16
  pub few_arcs : length arcs ≤ 2 ^ 20
  pub ends : EndsWithin nodes arcs
  pub weights : WeightsWithin (2 ^ 20) arcs
  pub acyclic : IsAcyclic arcs
