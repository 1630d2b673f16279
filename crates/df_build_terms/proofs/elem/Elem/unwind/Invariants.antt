use Rattle.std.proofs.Common.{◌≡◌, length}
use Rattle.df_build_terms.specs.Building.{at}
use Rattle.df_build_terms.specs.Parts.{unwound}
use Rattle.df_build_terms.specs.Seen.{building_of}
use Rattle.df_build_terms.proofs.elem.Elem.unwind.Given as goal

abbrev pub invariant-loop-arm : goal.invariant-loop-arm
invariant-loop-arm g l =
    unwound g.G.Graphs.keep l.opened.items (at (building_of g.G.Graphs.graph l.self) l.value)
    ≡ unwound g.G.Graphs.keep l.fn.opened.items (at (building_of g.G.Graphs.graph l.initial.self) l.fn.innermost)

abbrev pub decreases-loop-arm : goal.decreases-loop-arm
decreases-loop-arm g l = length l.opened.items
