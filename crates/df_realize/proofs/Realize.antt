-- Skeletons realize what their programs mean.
use Rattle.std.proofs.Common.{◌≡◌, List, subst}
use Rattle.df_values.specs.declared.values.Value.{Value}
use Rattle.df_values.specs.Inputs.{AreValid}
use Rattle.df_cells.specs.declared.cells.Cell.{Cell}
use Rattle.df_cells.specs.Cells.{declarations}
use Rattle.df_cells.specs.WellFormed.{WellFormed}
use Rattle.df_labels.specs.Graphs.{graph_of}
use Rattle.df_labels.specs.Laws.{ObeysKinds}
use Rattle.df_labels.specs.Realizes.{Tells, Realizes}
use Rattle.df_core.specs.declared.flat.Flat.{Flat}
use Rattle.df_core.specs.Meaning.{flat_mean}
use Rattle.df_core.specs.Within.{IsFlat}
use Rattle.df_build_elem.specs.Finished.{SkeletonsAreWellFormed, SkeletonsHaveZones}
use Rattle.df_build_elem.specs.Program.{program_graph}
use Rattle.df_meant.specs.Programs.{SkeletonsTell, ValidInputsHaveLengths}
use Rattle.df_rank.specs.Laws.{ZonesGivePlaces}
use Rattle.df_ends.specs.Laws.{RealizingCellsRealizeForAll}
use Rattle.df_realize.specs.Laws.{SkeletonsRealize}
use Rattle.df_realize.proofs.Outputs.{declarations_are, outputs_are}
use Rattle.df_realize.proofs.Placed.{places}

module _ (skeletons : SkeletonsAreWellFormed) (zoned : SkeletonsHaveZones) (obeys : ObeysKinds) (tell : SkeletonsTell)
    (lengths : ValidInputsHaveLengths) (give : ZonesGivePlaces) (for_every : RealizingCellsRealizeForAll) where
  tells : (flat : Flat) (cells : List Cell) → IsFlat flat → graph_of cells ≡ program_graph flat → WellFormed cells
      → (inputs : List (List Value)) → AreValid (declarations cells) inputs
      → Tells cells inputs (flat_mean flat inputs)
  tells flat cells is same well_formed inputs valid =
      let declares = declarations_are flat cells (skeletons.inputs flat cells is same) in
      let fits = subst (λ ds. AreValid ds inputs) declares valid in
      let told = tell flat cells inputs (lengths flat.parameters inputs fits) same in
      let zones = zoned flat cells is same in
      record {
        labels = told.labels;
        meet = told.meet;
        whole = told.whole;
        placed =
            places cells well_formed (skeletons.plain flat cells is same) inputs valid told.labels told.meet obeys
            give zones.0 zones.1;
      }

  by_values : (flat : Flat) (cells : List Cell) → IsFlat flat → graph_of cells ≡ program_graph flat → WellFormed cells
      → Realizes cells (flat_mean flat)
  by_values flat cells is same well_formed = record {
    outputs = λ inputs valid. outputs_are flat cells inputs (skeletons.outputs flat cells is same);
    tells = tells flat cells is same well_formed;
  }

  pub skeletons_realize : SkeletonsRealize
  skeletons_realize flat cells is same well_formed =
      for_every cells (flat_mean flat) well_formed (skeletons.plain flat cells is same)
      (by_values flat cells is same well_formed)
