use Rattle.std.proofs.Common.{◌≡◌, ◌∙◌, ap, sym, length, arith}
use Rattle.std.proofs.lemmas.List.{length-map}
use Rattle.df_labels.specs.Graphs.{Graph, node_of}
use Rattle.df_build_elem.specs.Program.{program_graph}
use Rattle.df_build_elem.proofs.build.build.Goals as goal

pub returns-in-Ok-finish-clause-well_formed : goal.returns-in-Ok-finish-clause-well_formed
returns-in-Ok-finish-clause-well_formed c =
    let finished = c.in-Ok-finish.ensures in
    let graph = finished.graph ∙ c.in-Ok-skeleton.ensures in
    let count : length c.in-Ok-finish.cells ≡ length (program_graph c.args.flat.now) =
    sym (length-map c.in-Ok-finish.cells node_of) ∙ ap (λ (g : Graph). length g) graph in
    let census = c.in-Ok.ensures in
    let few = c.if-count-gt-SKELETON_CELLS.false in
    c.skeletons_are_well_formed.ensures.well_formed c.args.flat.now c.in-Ok-finish.cells c.requires.flat
    (record { graph = graph; port = finished.port; dest = finished.dest; loop = finished.marks }) (omega (arith, count, census, few))
