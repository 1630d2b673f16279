use Rattle.std.proofs.Common.{◌≡◌, ◌-◌, get_or, None}
use Rattle.df_cancel.specs.Cycles.{row_at}
use Rattle.df_cancel.proofs.Traces.{Traced}
use Rattle.df_cancel.proofs.trace.trace.Given as goal

abbrev pub invariant-loop-back : goal.invariant-loop-back
invariant-loop-back l = record {
  traced : Traced l.steps (row_at l.rows) l.nodes (l.nodes - l.back) l.back l.walk.items l.entered.items l.node;
  fresh : get_or l.entered.items l.node None ≡ None;
}
