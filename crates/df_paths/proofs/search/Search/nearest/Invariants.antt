use Rattle.std.proofs.Common.{length}
use Rattle.std.specs.BinaryHeap.{heap_items}
use Rattle.df_paths.proofs.search.Search.nearest.Given as goal

abbrev pub decreases-loop-distance : goal.decreases-loop-distance
decreases-loop-distance l = length (heap_items l.self.heap)
