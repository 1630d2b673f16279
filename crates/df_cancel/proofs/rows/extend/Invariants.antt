use Rattle.df_cancel.specs.Rows.{IsChanged}
use Rattle.df_cancel.proofs.NextRows.{SoFar}
use Rattle.df_cancel.proofs.rows.extend.Given as goal

abbrev pub invariant-loop-step : goal.invariant-loop-step
invariant-loop-step l = record {
  so_far : SoFar l.steps l.row l.next.items l.step-index;
  changed : IsChanged l.row l.next.items l.changed;
}
