-- That skeletons realize what their programs mean.
use Rattle.std.specs.Prelude.{◌≡◌, List}
use Rattle.df_cells.specs.declared.cells.Cell.{Cell}
use Rattle.df_cells.specs.WellFormed.{WellFormed}
use Rattle.df_labels.specs.Graphs.{graph_of}
use Rattle.df_labels.specs.ForAll.{RealizesForAll, for_all}
use Rattle.df_core.specs.declared.flat.Flat.{Flat}
use Rattle.df_core.specs.Meaning.{flat_mean}
use Rattle.df_core.specs.Within.{IsFlat}
use Rattle.df_build_elem.specs.Program.{program_graph}

-- Well-formed cells of the skeleton of a flat program realize what the program means, for every number of firings.
abbrev pub SkeletonsRealize : Type 0
SkeletonsRealize = (flat : Flat) (cells : List Cell) → IsFlat flat → graph_of cells ≡ program_graph flat
    → WellFormed cells → RealizesForAll cells (for_all (flat_mean flat))
