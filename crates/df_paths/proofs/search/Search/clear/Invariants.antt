use Rattle.std.proofs.Common.{length}
use Rattle.std.specs.BinaryHeap.{heap_items}
use Rattle.df_paths.proofs.search.Search.clear.Given as goal

abbrev pub decreases-lines : goal.decreases-lines
decreases-lines l = length l.self.line.items

abbrev pub decreases-entries : goal.decreases-entries
decreases-entries l = length (heap_items l.self.heap)
