use Rattle.std.proofs.Common.{◌≡◌, take}
use Rattle.std.specs.Prelude.{fold}
use Rattle.df_build_elem.specs.Program.{laid_block}
use Rattle.df_build_elem.specs.Laying.{laid_of}
use Rattle.df_build_elem.proofs.program.blocks.Given as goal

abbrev pub invariant-loop-block : goal.invariant-loop-block
invariant-loop-block g l =
    laid_of g.G.Graphs.graph l.laid
    ≡ fold (laid_block g.G.Graphs.keep) (laid_of g.G.Graphs.graph l.fn.laying) (take l.block-index l.blocks)
