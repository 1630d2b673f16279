-- What a flat program is compiled to, and why it is not.
use Rattle.std.specs.Prelude.{◌≡◌, ◌≤◌, ◌<◌, ℕ, List}
use Rattle.df_cells.specs.declared.cells.Cell.{Cell}
use Rattle.df_cells.specs.Cells.{inputs_of}
use Rattle.df_cells.specs.WellFormed.{WellFormed}
use Rattle.df_stages.specs.Balance.{IsBalanced, IsLeast, IsCertificate}
use Rattle.df_labels.specs.Graphs.{graph_of}
use Rattle.df_labels.specs.ForAll.{RealizesForAll, for_all}
use Rattle.df_buffers_laws.specs.HasSkeleton.{HasSkeleton}
use Rattle.df_labels.specs.Finishing.{HasNoBuffers}
use Rattle.df_buffers_laws.specs.Staged.{HasLowestStage}
use Rattle.df_core.specs.declared.flat.Flat.{Flat}
use Rattle.df_core.specs.Meaning.{flat_mean}
use Rattle.df_build_elem.specs.Program.{program_graph, census, declared_inputs}
use Rattle.df_compile.specs.Placed.{IsOver}
use Rattle.df_compile.specs.declared.compile.CompileAnswer.{CompileAnswer}
use Rattle.df_compile.specs.declared.compile.CompileAnswer.TheVariants.{TooManySkeletonCells, TooManyCells, Memory}

-- the most cells of a skeleton
abbrev pub most_skeleton_cells : ℕ
most_skeleton_cells = 4096

-- The cells have the skeleton of the program and realize what it means; they are balanced with least buffers from stage 0 on, and the
-- flow certifies them.
pub record IsCompiledFrom (flat : Flat) (cells : List Cell) (flow : List ℕ) : Type 0 where
  pub skeleton : HasSkeleton cells (program_graph flat)
  pub well_formed : WellFormed cells
  pub inputs : inputs_of cells ≡ declared_inputs flat
  pub balanced : IsBalanced cells
  pub least : IsLeast cells
  pub lowest : HasLowestStage cells
  pub certificate : IsCertificate cells flow
  pub realizes : RealizesForAll cells (for_all (flat_mean flat))

-- However the skeleton of the program is numbered, its cells and the BUF cells that this wants are too many.
pub record IsOverfull (flat : Flat) : Type 0 where
  pub cells : List Cell
  pub graph : graph_of cells ≡ program_graph flat
  pub well_formed : WellFormed cells
  pub plain : HasNoBuffers cells
  pub over : IsOver cells

-- each refusal has its cause; want of memory refuses nothing
abbrev pub IsRefused : Flat → CompileAnswer → Type 0
IsRefused flat (TooManySkeletonCells n) = (n ≡ census flat) × (most_skeleton_cells < n)
IsRefused flat TooManyCells = (census flat ≤ most_skeleton_cells) × IsOverfull flat
IsRefused flat Memory = Unit {0}

-- why no BUF cells are placed
abbrev pub IsUnplaced : List Cell → CompileAnswer → Type 0
IsUnplaced cells (TooManySkeletonCells n) = ⊥
IsUnplaced cells TooManyCells = IsOver cells
IsUnplaced cells Memory = Unit {0}

-- what is compiled has none
pub record Fits (flat : Flat) : Type 0 where
  pub few : census flat ≤ most_skeleton_cells
  pub room : ¬ IsOverfull flat
