-- The labels of cells with BUF cells on their arcs.
use Rattle.std.specs.Prelude.{ℕ, ◌-◌, nat_lt, cond, List, [], ◌∷◌, length, map, Some, None}
use Rattle.df_cells.specs.declared.cells.Cell.{Cell}
use Rattle.df_cells.specs.Shifts.{origin, gate_part}
use Rattle.df_labels.specs.Labels.{Turn}
use Rattle.df_labels.specs.Members.{Member, Firing, Labels, answered}

-- so many elements earlier
abbrev pub earlier : ℕ → Turn → Turn
earlier n [] = []
earlier n (i ∷ inner) = (i - n) ∷ inner

-- the firing of a BUF cell that passes a member on, g turns before that of the cell from which it comes
abbrev pub pass : ℕ → Turn × Member → Firing
pass g x = record { turn = earlier g x.0; taken = Some x.1 ∷ None ∷ None ∷ []; answer = Some x.1 }

-- a BUF cell passes on what comes from its origin
abbrev pub passed_on : List Cell → List Cell → Labels → ℕ → List Firing
passed_on old new labels b = map (pass (gate_part old (origin new b))) (answered (labels (origin new b)))

-- the old cells keep their labels
abbrev pub carried : List Cell → List Cell → Labels → Labels
carried old new labels c =
    cond (nat_lt c (length old)) (labels c) (cond (nat_lt c (length new)) (passed_on old new labels c) [])
