use Rattle.std.proofs.Common.{arith}
use Rattle.std.proofs.lemmas.List.Elements.{All-more}
use Rattle.df_celltext.specs.CellText.{run_word}
use Rattle.df_celltext.specs.Writable.{IsWritableRun}
use Rattle.df_celltext.proofs.MoreWords.{one_more_word}
use Rattle.df_celltext.proofs.writer.push_runs.Goals as goal

pub loop-run-preserved : goal.loop-run-preserved
loop-run-preserved c = (
  one_more_word run_word c.args.text.now c.loop-run.text c.push_run.new.text c.args.runs.now c.loop-run.run-index _ (omega arith) c.loop-run.invariant.0
      c.in_ok-push_run.ensures.text,
  All-more IsWritableRun c.args.runs.now c.loop-run.run-index _ (omega arith) c.loop-run.invariant.1 c.in_ok-push_run.ensures.writable,
)
