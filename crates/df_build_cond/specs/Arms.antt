-- Open arms of an `if`, and values that are brought inside.
use Rattle.std.specs.Prelude.{ℕ, Bool, nat_lt, if◌then◌else◌, List, [], ◌∷◌, length, Option, Some, None}
use Rattle.df_labels.specs.declared.graphs.Flow.{Flow}
use Rattle.df_labels.specs.declared.graphs.Flow.TheVariants.{Constant, Cell}
use Rattle.df_labels.specs.Graphs.{Graph, Node}
use Rattle.df_build_cond.specs.Gates.{gated}
use Rattle.df_build_cond.specs.Noted.{Noted, nothing, noted}

-- an open arm: its control, the control at which it is taken, and the gate of each stream that was met in it
pub record Arm : Type 0 where
  pub control : ℕ
  pub side : Bool
  pub gates : Noted

-- a value that was brought inside an arm
pub record Passed : Type 0 where
  pub arm : Arm
  pub graph : Graph
  pub flow : Flow

-- a value that was brought inside open arms, of which the innermost stands first
pub record Crossed : Type 0 where
  pub graph : Graph
  pub arms : List Arm
  pub flow : Flow

-- an arm in which no stream was met
abbrev pub opened : ℕ → Bool → Arm
opened control side = record { control = control; side = side; gates = nothing }

module _ (keep : Node → Node) where
  -- a stream that may have been met
  abbrev pub passed : Arm → Graph → ℕ → Option ℕ → Passed
  passed arm graph stream (Some gate) = record { arm = arm; graph = graph; flow = Cell gate }
  passed arm graph stream None = let s = gated keep graph arm.side arm.control stream in
      record { arm = record arm { gates = noted arm.gates stream s.cell }; graph = s.graph; flow = Cell s.cell }

  -- a value inside an arm: a constant as it is, a stream by its gate
  abbrev pub pass : Arm → Graph → Flow → Passed
  pass arm graph (Constant v) = record { arm = arm; graph = graph; flow = Constant v }
  pass arm graph (Cell stream) = passed arm graph stream (arm.gates stream)

  -- a value that was made where so many arms were open, inside all that are open now: the gates come from the outermost
  -- arm inwards
  abbrev pub cross : ℕ → Graph → List Arm → Flow → Crossed
  cross level graph [] flow = record { graph = graph; arms = []; flow = flow }
  cross level graph (arm ∷ arms) flow =
      if nat_lt (length arms) level then record { graph = graph; arms = arm ∷ arms; flow = flow }
      else let outer = cross level graph arms flow in let p = pass arm outer.graph outer.flow in
      record { graph = p.graph; arms = p.arm ∷ outer.arms; flow = p.flow }
