use Rattle.std.proofs.Common.{◌^◌, arith}
use Rattle.df_cancel.proofs.Residues.{weights_wider}
use Rattle.df_cancel.proofs.cancelling.balance_arcs.Goals as goal

pub cancel_cycles-requires : goal.cancel_cycles-requires
cancel_cycles-requires c = record {
  few_nodes = c.requires.few_nodes;
  few_arcs = let few = c.requires.few_arcs in omega (arith, few);
  ends = c.requires.ends;
  weights = weights_wider 131071 (2 ^ 20) c.args.arcs.now (omega arith) c.requires.weights;
  acyclic = c.in_ok-_ranks.ensures;
}
