use Rattle.std.proofs.Common.{◌≡◌, map, take}
use Rattle.df_labels.specs.Flows.{feed_of}
use Rattle.df_labels.proofs.graphs.ports_by.Given as goal

abbrev pub invariant-loop-flow : goal.invariant-loop-flow
invariant-loop-flow l = l.ports ≡ map feed_of (take l.flow-index l.fn.flows)
