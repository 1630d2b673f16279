-- What a balancer answers.
use Rattle.std.specs.Prelude.{◌≡◌, ℕ, ◌*◌, ◌<◌, ℤ, pos, ◌≤ℤ◌, List, length, slice_index_or, All, Contains}
use Rattle.df_stages.specs.SkeletonLists.{SkeletonLists}
use Rattle.df_stages.specs.Skeletons.{WeightsWithin}
use Rattle.df_stages.specs.Flows.{Respects, total_excess, IsDualFlow, flow_value}

-- a list of stages as a numbering of the nodes
abbrev pub numbered : List ℤ → ℕ → ℤ
numbered stages node = slice_index_or stages node (pos 0)

-- the least stage is 0 if there is a node
abbrev pub IsLowest : List ℤ → Type 0
IsLowest stages = All (λ stage. pos 0 ≤ℤ stage) stages × (0 < length stages → Contains stages (pos 0))

-- a stage for each node, and a dual flow: each arc's difference is at least its weight, the least stage is 0, and none is above
-- the number of nodes times the greatest absolute value of a weight
pub record IsBalance (s : SkeletonLists) (stages : List ℤ) (flow : List ℕ) : Type 0 where
  pub each : length stages ≡ length s.nodes
  pub respects : Respects (numbered stages) s.arcs
  pub lowest : IsLowest stages
  pub bound : (m : ℕ) → WeightsWithin m s.arcs → All (λ stage. stage ≤ℤ pos (length s.nodes * m)) stages
  pub dual : IsDualFlow (length s.nodes) s.arcs flow

-- the sum of the excesses is the flow's value, so no balanced placement has fewer BUF cells
pub record IsTight (s : SkeletonLists) (stages : List ℤ) (flow : List ℕ) : Type 0 where
  pub equal : total_excess (numbered stages) s.arcs ≡ flow_value s.arcs flow
