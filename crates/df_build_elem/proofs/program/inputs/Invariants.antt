use Rattle.std.proofs.Common.{◌≡◌, take}
use Rattle.std.specs.Prelude.{fold}
use Rattle.df_build_elem.specs.Program.{laid_input}
use Rattle.df_build_elem.specs.Laying.{laid_of}
use Rattle.df_build_elem.proofs.program.inputs.Given as goal

abbrev pub invariant-loop-input : goal.invariant-loop-input
invariant-loop-input g l =
    laid_of g.G.Graphs.graph l.laying
    ≡ fold (laid_input g.G.Graphs.keep) (laid_of g.G.Graphs.graph l.initial.laying) (take l.input-index l.parameters)
