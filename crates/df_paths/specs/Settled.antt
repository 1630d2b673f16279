-- Arcs whose differences show that a flow is greatest.
use Rattle.std.specs.Prelude.{◌≡◌, ℕ, ◌<◌, ℤ, ◌≤ℤ◌, List, length, slice_index}
use Rattle.df_stages.specs.declared.skeleton.SkeletonArc.{SkeletonArc}
use Rattle.df_stages.specs.Skeletons.{arc_at}
use Rattle.df_stages.specs.Flows.{difference}

-- the difference is at least the weight, and just the weight where there is flow
abbrev pub IsSettledArc : (ℕ → ℤ) → SkeletonArc → ℕ → Type 0
IsSettledArc numbers arc units = (arc.weight ≤ℤ difference numbers arc) × (0 < units → difference numbers arc ≡ arc.weight)

abbrev pub AreSettled : (ℕ → ℤ) → List SkeletonArc → List ℕ → Type 0
AreSettled numbers arcs flow = (k : ℕ) → k < length arcs → IsSettledArc numbers (arc_at arcs k) (slice_index flow k)
