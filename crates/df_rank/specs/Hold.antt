-- A loop: cells that hold one value for two turns, and what they mean.
use Rattle.std.specs.Prelude.{ℕ, true, false, List, [], ◌∷◌, get_or, codes}
use Rattle.df_values.specs.declared.values.Value.TheVariants.{Truth, Error}
use Rattle.df_values.specs.declared.values.ErrorValue.TheVariants as error
use Rattle.df_values.specs.declared.values.Basic.TheVariants.{Integer}
use Rattle.df_cells.specs.declared.cells.Cell.{Cell}
use Rattle.df_cells.specs.declared.cells.Dest.{Dest}
use Rattle.df_cells.specs.declared.cells.Feed.{Feed}
use Rattle.df_cells.specs.declared.cells.Feed.TheVariants.{Arc}
use Rattle.df_cells.specs.declared.kinds.Kind.{Kind}
use Rattle.df_cells.specs.declared.kinds.Kind.TheVariants as kind
use Rattle.df_cells.specs.Cells.{port_of}
use Rattle.df_labels.specs.Realizes.{Meaning}

abbrev from : ℕ → Feed
from u = Arc (record { 0 = u })

abbrev outside : Kind → ℕ → List Feed → List Dest → Cell
outside it stage ports dests = record { kind = it; stage = stage; mark = 0; ports = ports; dests = dests }

abbrev inside : Kind → List Feed → List Dest → Cell
inside it ports dests = record { kind = it; stage = 1; mark = 1; ports = ports; dests = dests }

-- true and then false
abbrev once : Kind
once = kind.Ctl (record { count = 1; value = Truth true } ∷ record { count = 1; value = Truth false } ∷ [])

-- The MERGE 1 takes the one value of the input, and then what the gate 3 passed on to it. The gate passes the first value alone.
abbrev pub hold : List Cell
hold =
    outside (kind.In (codes "A") Integer 1) 0 [] (port_of 1 1 ∷ [])
    ∷ inside kind.Merge (from 2 ∷ from 0 ∷ from 3 ∷ []) (port_of 3 1 ∷ port_of 5 0 ∷ [])
    ∷ outside once 0 [] (port_of 1 0 ∷ [])
    ∷ inside kind.Tgate (from 4 ∷ from 1 ∷ []) (port_of 1 2 ∷ [])
    ∷ outside once 0 [] (port_of 3 0 ∷ [])
    ∷ outside (kind.Out 1 2) 2 (from 1 ∷ []) []
    ∷ []

-- the value of the input, twice
abbrev pub held : Meaning
held inputs = let v = get_or (get_or inputs 0 []) 0 (Error error.Undef) in (v ∷ v ∷ []) ∷ []
