-- Machines that were led to their state by events, and what histories that meet their cells and inputs say of that state.
use Rattle.std.specs.Prelude.{◌≡◌, ◌≤◌, ◌-◌, ℕ, List, [], ◌++◌, get_or, length, map, take, Some}
use Rattle.df_values.specs.Inputs.{AreValid}
use Rattle.df_cells.specs.declared.cells.CellId.{CellId}
use Rattle.df_cells.specs.declared.cells.Dest.{Dest}
use Rattle.df_cells.specs.declared.kinds.Kind.TheVariants as kind
use Rattle.df_cells.specs.Cells.{cell_at, producer_of, loaded_at, declarations}
use Rattle.df_cells.specs.WellFormed.{WellFormed}
use Rattle.df_labels.specs.Histories.{Histories, listed, supply, took, IsPrefix, Meets}
use Rattle.df_labels.specs.Labels.{Labels, Firing, LabelsMeet, answered, received, stream_values}
use Rattle.df_machine.specs.Runs.{after}
use Rattle.df_machine.specs.Seen.{Loaded}
use Rattle.df_machine.specs.States.{firings, told}
use Rattle.df_histories.specs.Traces.{histories, on_the_way}

-- the machine in the state to which these choices lead from the start, with all its firings
abbrev pub led : Loaded → List ℕ → Loaded
led t choices = record t { state = after t.cells t.inputs choices }

-- these choices lead from the start to the state, as far as a u32 tells the numbers of firings
abbrev pub IsAfter : Loaded → List ℕ → Type 0
IsAfter t choices = t.state ≡ told (after t.cells t.inputs choices)

-- they lead to the state itself
abbrev pub IsLedBy : Loaded → List ℕ → Type 0
IsLedBy t choices = t.state ≡ after t.cells t.inputs choices

-- some choices lead from the start of well-formed cells on fitting inputs to the state
pub record IsReached (t : Loaded) : Type 0 where
  pub well_formed : WellFormed t.cells
  pub fits : AreValid (declarations t.cells) t.inputs
  pub choices : List ℕ
  pub after_these : IsAfter t choices

-- what the first firings of each cell take, as many as it has had
abbrev pub so_far : Loaded → Histories → Histories
so_far t h c = take (firings t.state c) (h c)

-- The machine follows the histories.
pub record Follows (t : Loaded) (h : Histories) : Type 0 where
  -- the firings of each cell so far are the first of its history, whatever choices led here
  pub begun : (c : ℕ) → firings t.state c ≤ length (h c)
  pub firings : (choices : List ℕ) → IsLedBy t choices → (c : ℕ) → histories t.cells t.inputs choices c ≡ so_far t h c
  -- on each arc, the values that the producer gave so far are those that the consumer took so far and then what is on the way
  pub arcs : (d : Dest) (u : CellId) → producer_of t.cells d ≡ Some u
      → supply t.cells t.inputs d u.0 (so_far t h u.0) ≡ took d.port.0 (so_far t h d.cell.0) ++ on_the_way t.cells t.inputs t.state u.0 d
  -- each result is a prefix of what its OUT takes
  pub results : (c k m : ℕ) → (cell_at t.cells c).kind ≡ kind.Out k m → IsPrefix (get_or t.state.results (k - 1) []) (took 0 (h c))

-- whatever choices led here, the state to which they lead follows all histories that meet the cells and inputs
abbrev pub FollowsAll : Loaded → Type 0
FollowsAll t = (choices : List ℕ) → IsAfter t choices → (h : Histories) → Meets t.cells t.inputs h → Follows (led t choices) h

-- the first firings of the label of a cell, as many as it has had
abbrev pub fired_so_far : Loaded → Labels → ℕ → List Firing
fired_so_far t labels c = take (firings t.state c) (labels c)

-- The machine agrees with the labels.
pub record AgreesWith (t : Loaded) (labels : Labels) : Type 0 where
  -- the firings of each cell so far are the first of its label, whatever choices led here
  pub begun : (c : ℕ) → firings t.state c ≤ length (labels c)
  pub firings : (choices : List ℕ) → IsLedBy t choices → (c : ℕ) → histories t.cells t.inputs choices c ≡ map (λ f. f.taken) (fired_so_far t labels c)
  -- on each arc, what was loaded and then the values that the firings of the producer so far answer are, in order, the operands that
  -- the firings of the consumer so far took there, and then what is still on the way
  pub arcs : (d : Dest) (u : CellId) → producer_of t.cells d ≡ Some u
      → listed (loaded_at t.cells d) ++ stream_values (answered (fired_so_far t labels u.0))
      ≡ stream_values (received d.port.0 (fired_so_far t labels d.cell.0)) ++ on_the_way t.cells t.inputs t.state u.0 d
  -- each result is a prefix of what its OUT takes
  pub results : (c k m : ℕ) → (cell_at t.cells c).kind ≡ kind.Out k m → IsPrefix (get_or t.state.results (k - 1) []) (stream_values (received 0 (labels c)))

-- whatever choices led here, the state to which they lead agrees with all labels that meet the cells and inputs
abbrev pub AgreesWithAll : Loaded → Type 0
AgreesWithAll t = (choices : List ℕ) → IsAfter t choices → (labels : Labels) → LabelsMeet t.cells t.inputs labels → AgreesWith (led t choices) labels
