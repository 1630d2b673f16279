-- The rank of a firing, and the phase in which it happens.
use Rattle.std.specs.Prelude.{◌≡◌, ℕ, suc, ◌+◌, ◌*◌, ◌-◌, ◌<◌, ◌≤◌, nat_lt, cond, List, [], ◌∷◌, length}
use Rattle.df_values.specs.declared.values.Value.{Value}
use Rattle.df_cells.specs.declared.cells.Cell.{Cell}
use Rattle.df_cells.specs.Kinds.{source_length}
use Rattle.df_cells.specs.WellFormed.{number_or_none}
use Rattle.df_cells.specs.Paths.{mark_of}
use Rattle.df_labels.specs.Members.{Labels}
use Rattle.df_machine.specs.States.{firings}
use Rattle.df_rank.specs.Ranks.{HasRanks}
use Rattle.df_lockstep.specs.Phases.{after_phases, choices_of_phases}

-- firing number i of a cell happens in phase k
abbrev pub HappensIn : List Cell → List (List Value) → ℕ → ℕ → ℕ → Type 0
HappensIn cells inputs c i k =
    (firings (after_phases cells inputs k) c ≡ i) × (firings (after_phases cells inputs (suc k)) c ≡ suc i)

-- it happens in a phase of number at most n
abbrev pub HappensBy : List Cell → List (List Value) → ℕ → ℕ → ℕ → Type 0
HappensBy cells inputs c i n = (k : ℕ) × (k ≤ n) × HappensIn cells inputs c i k

-- ranks that are single numbers
abbrev pub HasNumbers : List Cell → Labels → (ℕ → ℕ → ℕ) → Type 0
HasNumbers cells labels rank = HasRanks cells labels (λ c i. rank c i ∷ [])

-- each firing of the labels happens in a phase of number at most its rank, if the phases before have fewer than n events
abbrev pub KeepsRanks : List Cell → List (List Value) → ℕ → Labels → (ℕ → ℕ → ℕ) → Type 0
KeepsRanks cells inputs n labels rank = (c i : ℕ) → c < length cells → i < length (labels c)
    → length (choices_of_phases cells inputs (rank c i)) < n → HappensBy cells inputs c i (rank c i)

-- no cell is on a cycle
abbrev pub HasNoLoops : List Cell → Type 0
HasNoLoops cells = (c : ℕ) → mark_of cells c ≡ 0

-- the greatest of a number of each cell, or 0
abbrev pub greatest : (Cell → ℕ) → List Cell → ℕ
greatest f [] = 0
greatest f (cell ∷ cells) = cond (nat_lt (f cell) (greatest f cells)) (greatest f cells) (f cell)

abbrev pub greatest_stage : List Cell → ℕ
greatest_stage cells = greatest (λ cell. cell.stage) cells

-- the greatest length of a source
abbrev pub longest_source : List Cell → ℕ
longest_source cells = greatest (λ cell. number_or_none (source_length cell.kind)) cells

-- how many phases a run without loops takes at most
abbrev pub phases_at_most : List Cell → ℕ
phases_at_most cells = greatest_stage cells + (2 * longest_source cells - 1)

-- how many events these phases and the one behind them have
abbrev pub events_in_time : List Cell → List (List Value) → ℕ
events_in_time cells inputs = length (choices_of_phases cells inputs (suc (phases_at_most cells)))
