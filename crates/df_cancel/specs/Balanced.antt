-- The law of a balancer over the arcs alone.
use Rattle.std.specs.Prelude.{◌≡◌, ℕ, ◌*◌, ℤ, pos, ◌≤ℤ◌, List, length, All}
use Rattle.df_stages.specs.declared.skeleton.SkeletonArc.{SkeletonArc}
use Rattle.df_stages.specs.Skeletons.{WeightsWithin}
use Rattle.df_stages.specs.Flows.{Respects, total_excess, IsDualFlow, flow_value}
use Rattle.df_cancel.specs.Balances.{numbered, IsLowest}

pub record IsBalancedBy (nodes : ℕ) (arcs : List SkeletonArc) (stages : List ℤ) (flow : List ℕ) : Type 0 where
  pub len : length stages ≡ nodes
  pub respects : Respects (numbered stages) arcs
  pub lowest : IsLowest stages
  pub bound : (m : ℕ) → WeightsWithin m arcs → All (λ stage. stage ≤ℤ pos (nodes * m)) stages
  pub dual : IsDualFlow nodes arcs flow
  pub equal : total_excess (numbered stages) arcs ≡ flow_value arcs flow
