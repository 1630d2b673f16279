-- A worked loop by values: cells that count down from the value of their input to 0, and labels for every number of
-- firings.
use Rattle.std.specs.Prelude.{ℕ, zero, suc, pos, negsuc, true, false, Bool, List, [], ◌∷◌, ◌++◌, take}
use Rattle.std.specs.Prelude.{Option, Some, None, codes}
use Rattle.df_values.specs.declared.values.Value.{Value}
use Rattle.df_values.specs.declared.values.Value.TheVariants.{Int, Truth}
use Rattle.df_values.specs.declared.values.Basic.TheVariants.{Integer}
use Rattle.df_cells.specs.declared.cells.Cell.{Cell}
use Rattle.df_cells.specs.declared.cells.Dest.{Dest}
use Rattle.df_cells.specs.declared.cells.Feed.{Feed}
use Rattle.df_cells.specs.declared.cells.Feed.TheVariants.{Arc, Constant, Loaded}
use Rattle.df_cells.specs.declared.kinds.Kind.{Kind}
use Rattle.df_cells.specs.declared.kinds.Kind.TheVariants as kind
use Rattle.df_cells.specs.Cells.{port_of}
use Rattle.df_labels.specs.Members.{Member, Firing, Labels, LabelsMeet, in_order_from}

abbrev from : ℕ → Feed
from u = Arc (record { 0 = u })

abbrev pub number : ℕ → Value
number n = Int (pos n)

abbrev cell : Kind → List Feed → List Dest → Cell
cell it ports dests = record { kind = it; stage = 0; mark = 0; ports = ports; dests = dests }

-- The MERGE 1 is the entry of the loop. At its control a false was loaded, so it takes the value of the input first,
-- and then, as long as the test 2 is true, what the gate 4 lets back. The gate 5 lets the value out at which the test is
-- false. The last answer of the test stays before the entry, as the first one lay there.
abbrev pub countdown : List Cell
countdown =
    cell (kind.In (codes "A") Integer 1) [] (port_of 1 2 ∷ [])
    ∷ cell kind.Merge (Loaded (record { 0 = 2 }) (Truth false) ∷ from 4 ∷ from 0 ∷ [])
    (port_of 2 0 ∷ port_of 3 0 ∷ port_of 5 1 ∷ [])
    ∷ cell kind.Gt (from 1 ∷ Constant (number 0) ∷ []) (port_of 1 0 ∷ port_of 4 0 ∷ port_of 5 0 ∷ [])
    ∷ cell kind.Sub (from 1 ∷ Constant (number 1) ∷ []) (port_of 4 1 ∷ [])
    ∷ cell kind.Tgate (from 2 ∷ from 3 ∷ []) (port_of 1 1 ∷ [])
    ∷ cell kind.Fgate (from 2 ∷ from 1 ∷ []) (port_of 6 0 ∷ [])
    ∷ cell (kind.Out 1 1) (from 5 ∷ []) []
    ∷ []

abbrev pub two : List (List Value)
two = (number 2 ∷ []) ∷ []

-- ---- firings

abbrev pub known : Value → Option Member
known v = Some (Some v)

-- in turn r of the loop, which stands in the one element of its block
abbrev pub in_turn : ℕ → List (Option Member) → Option Member → Firing
in_turn r taken answer = record { turn = 0 ∷ r ∷ []; taken = taken; answer = answer }

-- the entry goes on with a value, the test and the difference take it
abbrev pub goes_on : ℕ → Value → Firing
goes_on r v = in_turn r (known (Truth true) ∷ known v ∷ None ∷ []) (known v)

abbrev pub of_one : ℕ → Value → Value → Firing
of_one r v w = in_turn r (known v ∷ None ∷ None ∷ []) (known w)

-- a gate under the test
abbrev pub gate : ℕ → Bool → Value → Option Member → Firing
gate r b v answer = in_turn r (known (Truth b) ∷ known v ∷ None ∷ []) answer

-- the value in turn r, and the value after it
abbrev pub state : ℕ → Value
state zero = number 2
state (suc zero) = number 1
state _ = number 0

abbrev pub next : ℕ → Value
next zero = number 1
next (suc zero) = number 0
next _ = Int (negsuc 0)

-- Labels by which the loop makes so many turns, two at most, and is then over, with this member as its result. The
-- firings in the turn after the last one of the loop see its end; the test is taken to be false there.
abbrev pub turned : ℕ → Member → Labels
turned made result zero = in_order_from 0 (number 2 ∷ [])
turned made result (suc zero) = take (suc made)
    (in_turn 0 (known (Truth false) ∷ None ∷ known (number 2) ∷ []) (known (number 2)) ∷ goes_on 1 (number 1)
    ∷ goes_on 2 (number 0) ∷ [])
turned made result (suc (suc zero)) =
    take made (of_one 0 (number 2) (Truth true) ∷ of_one 1 (number 1) (Truth true) ∷ [])
    ++ of_one made (state made) (Truth false) ∷ []
turned made result (suc (suc (suc zero))) = take (suc made)
    (of_one 0 (number 2) (number 1) ∷ of_one 1 (number 1) (number 0) ∷ of_one 2 (number 0) (Int (negsuc 0)) ∷ [])
turned made result (suc (suc (suc (suc zero)))) =
    take made (gate 0 true (number 1) (known (number 1)) ∷ gate 1 true (number 0) (known (number 0)) ∷ [])
    ++ gate made false (next made) None ∷ []
turned made result (suc (suc (suc (suc (suc zero))))) =
    take made (gate 0 true (number 2) None ∷ gate 1 true (number 1) None ∷ [])
    ++ gate made false (state made) (Some result) ∷ []
turned made result (suc (suc (suc (suc (suc (suc zero)))))) =
    record { turn = 0 ∷ []; taken = Some result ∷ None ∷ None ∷ []; answer = None } ∷ []
turned made result _ = []

-- For no firing and for one the loop is given out while its test is still true: nothing comes out. Else it ends after
-- two turns, with 0.
abbrev pub countdown_labels : ℕ → Labels
countdown_labels zero = turned 0 None
countdown_labels (suc zero) = turned 1 None
countdown_labels (suc (suc n)) = turned 2 (Some (number 0))

-- they meet the cells and the input 2, for each number of firings
abbrev pub CountdownMeets : Type 0
CountdownMeets = (n : ℕ) → LabelsMeet countdown two n (countdown_labels n)
