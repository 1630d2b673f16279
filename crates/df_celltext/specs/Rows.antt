-- Worked texts.
use Rattle.std.specs.Prelude.{◌≡◌, ℕ, pos, negsuc, map, List, [], ◌∷◌, true, false, codes, ◌++◌}
use Rattle.std.proofs.Common.{refl}
use Rattle.std.specs.Fmt.{digits}
use Rattle.df_values.specs.declared.values.Value.{Value}
use Rattle.df_values.specs.declared.values.Value.TheVariants.{Int, Truth}
use Rattle.df_values.specs.declared.values.Basic.TheVariants.{Integer}
use Rattle.df_cells.specs.declared.cells.Cell.{Cell}
use Rattle.df_cells.specs.declared.cells.Dest.{Dest}
use Rattle.df_cells.specs.declared.cells.Feed.{Feed}
use Rattle.df_cells.specs.declared.cells.Feed.TheVariants.{Arc, Constant, Loaded}
use Rattle.df_cells.specs.declared.kinds.Kind.{Kind}
use Rattle.df_cells.specs.declared.kinds.Kind.TheVariants as kind
use Rattle.df_cells.specs.Cells.{port_of}
use Rattle.df_celltext.specs.declared.version.Version.TheVariants.{One}
use Rattle.df_celltext.specs.Versions.{has_number, has_cell}
use Rattle.df_celltext.specs.CellText.{cell_text}

-- a cell that is on no loop, and one on the loop of number 1
abbrev outside : Kind → ℕ → List Feed → List Dest → Cell
outside it stage ports dests = record { kind = it; stage = stage; mark = 0; ports = ports; dests = dests }

abbrev inside : Kind → ℕ → List Feed → List Dest → Cell
inside it stage ports dests = record { kind = it; stage = stage; mark = 1; ports = ports; dests = dests }

abbrev from : ℕ → Feed
from u = Arc (record { 0 = u })

abbrev number : ℕ → Value
number n = Int (pos n)

-- ---- an input, the sum of each value and 1, and a result

row_1 : List Cell
row_1 =
    outside (kind.In (codes "A") Integer 1) 0 [] (port_of 1 0 ∷ [])
    ∷ outside kind.Add 1 (from 0 ∷ Constant (number 1) ∷ []) (port_of 2 0 ∷ [])
    ∷ outside (kind.Out 1 1) 2 (from 1 ∷ []) []
    ∷ []

row_1_text : cell_text row_1
    ≡ codes "dataflow 2 3\n0 IN A integer 1 stage 0 loop 0 ports dests 1.0\n1 ADD stage 1 loop 0 ports @0 =1 dests 2.0\n2 OUT 1 1 stage 2 loop 0 ports @1 dests\nend\n"
unfolding row_1 digits
row_1_text = refl

-- ---- two paths that join

row_4 : List Cell
row_4 =
    outside (kind.In (codes "A") Integer 2) 0 [] (port_of 1 0 ∷ port_of 5 0 ∷ [])
    ∷ outside kind.Add 1 (from 0 ∷ Constant (number 1) ∷ []) (port_of 2 0 ∷ [])
    ∷ outside kind.Mul 2 (from 1 ∷ Constant (number 2) ∷ []) (port_of 3 1 ∷ [])
    ∷ outside kind.Add 3 (from 6 ∷ from 2 ∷ []) (port_of 4 0 ∷ [])
    ∷ outside (kind.Out 1 2) 4 (from 3 ∷ []) []
    ∷ outside kind.Buf 1 (from 0 ∷ []) (port_of 6 0 ∷ [])
    ∷ outside kind.Buf 2 (from 5 ∷ []) (port_of 3 0 ∷ [])
    ∷ []

row_4_text : cell_text row_4
    ≡ codes "dataflow 2 7\n0 IN A integer 2 stage 0 loop 0 ports dests 1.0 5.0\n1 ADD stage 1 loop 0 ports @0 =1 dests 2.0\n" ++ codes "2 MUL stage 2 loop 0 ports @1 =2 dests 3.1\n3 ADD stage 3 loop 0 ports @6 @2 dests 4.0\n4 OUT 1 2 stage 4 loop 0 ports @3 dests\n" ++ codes "5 BUF stage 1 loop 0 ports @0 dests 6.0\n6 BUF stage 2 loop 0 ports @5 dests 3.0\nend\n"
unfolding row_4 digits
row_4_text = refl

-- ---- a loop, with a MERGE and a gate under lists of truth values

row_10 : List Cell
row_10 =
    outside (kind.In (codes "A") Integer 3) 0 [] (port_of 5 1 ∷ [])
    ∷ inside kind.Merge 1 (from 2 ∷ Constant (number 1) ∷ from 5 ∷ []) (port_of 3 1 ∷ port_of 6 0 ∷ [])
    ∷ outside (kind.Ctl (record { count = 1; value = Truth true } ∷ record { count = 3; value = Truth false } ∷ [])) 0 [] (port_of 1 0 ∷ [])
    ∷ inside kind.Tgate 1 (from 4 ∷ from 1 ∷ []) (port_of 5 0 ∷ [])
    ∷ outside (kind.Ctl (record { count = 3; value = Truth true } ∷ record { count = 1; value = Truth false } ∷ [])) 0 [] (port_of 3 0 ∷ [])
    ∷ inside kind.Mul 1 (from 3 ∷ from 0 ∷ []) (port_of 1 2 ∷ [])
    ∷ outside (kind.Out 1 4) 2 (from 1 ∷ []) []
    ∷ []

row_10_text : cell_text row_10
    ≡ codes "dataflow 2 7\n0 IN A integer 3 stage 0 loop 0 ports dests 5.1\n1 MERGE stage 1 loop 1 ports @2 =1 @5 dests 3.1 6.0\n" ++ codes "2 CTL 1*true 3*false stage 0 loop 0 ports dests 1.0\n3 TGATE stage 1 loop 1 ports @4 @1 dests 5.0\n4 CTL 3*true 1*false stage 0 loop 0 ports dests 3.0\n" ++ codes "5 MUL stage 1 loop 1 ports @3 @0 dests 1.2\n6 OUT 1 4 stage 2 loop 0 ports @1 dests\nend\n"
unfolding row_10 digits
row_10_text = refl

-- ---- two cells in a ring

ring : List Cell
ring =
    inside kind.Neg 0 (from 1 ∷ []) (port_of 1 0 ∷ [])
    ∷ inside kind.Neg 0 (from 0 ∷ []) (port_of 0 0 ∷ [])
    ∷ []

ring_text : cell_text ring ≡ codes "dataflow 2 2\n0 NEG stage 0 loop 1 ports @1 dests 1.0\n1 NEG stage 0 loop 1 ports @0 dests 0.0\nend\n"
unfolding ring digits
ring_text = refl

-- ---- the same ring with a loaded value

loaded_ring : List Cell
loaded_ring =
    inside kind.Neg 0 (Loaded (record { 0 = 1 }) (number 5) ∷ []) (port_of 1 0 ∷ [])
    ∷ inside kind.Neg 0 (from 0 ∷ []) (port_of 0 0 ∷ [])
    ∷ []

loaded_ring_text : cell_text loaded_ring ≡ codes "dataflow 2 2\n0 NEG stage 0 loop 1 ports @1!5 dests 1.0\n1 NEG stage 0 loop 1 ports @0 dests 0.0\nend\n"
unfolding loaded_ring digits
loaded_ring_text = refl

-- version 1 has no loaded ports, and numbers of 32 bits alone
no_loads_before : map (has_cell One) loaded_ring ≡ false ∷ true ∷ []
unfolding loaded_ring has_cell
no_loads_before = refl

few_numbers_before : map (λ n. has_number One n) (negsuc 2147483648 ∷ negsuc 2147483647 ∷ pos 2147483647 ∷ pos 2147483648 ∷ []) ≡ false ∷ true ∷ true ∷ false ∷ []
few_numbers_before = refl
