use Rattle.std.proofs.lemmas.Result.{err_from_is_err_and}
use Rattle.df_commands.proofs.Compilations.{not_read, overfull_here}
use Rattle.df_commands.proofs.Good.{compiled_source}
use Rattle.df_commands.proofs.compilation.judge_compilation.Goals as goal

pub returns-in_err-tree-clause-reads : goal.returns-in_err-tree-clause-reads
returns-in_err-tree-clause-reads c =
    let p = err_from_is_err_and c.from_residual.result c.from_residual.ensures.1 in
    rw (p.1, p.2) (not_read c.args.text.now c.in_err-tree.field-0.0 c.in_err-tree.ensures.reads)

pub returns-in-Ok-clause-compiled : goal.returns-in-Ok-clause-compiled
returns-in-Ok-clause-compiled c =
    compiled_source c.cells_of_sources_are_good.ensures c.cells_of_sources_are_in_time.ensures c.inputs_are_named.ensures c.args.text.now _ _ _ _ c.in_ok-tree.ensures.reads.0 c.in_ok-tree.ensures.flat c.in-Ok.ensures.compiled

pub returns-in-Err-TooManyCells-clause-reads : goal.returns-in-Err-TooManyCells-clause-reads
returns-in-Err-TooManyCells-clause-reads c =
    overfull_here c.args.text.now _ _ _ c.in-Err-TooManyCells.field-0 c.in_ok-tree.ensures.reads c.in_ok-tree.ensures.flat c.in-Err-TooManyCells.ensures.refused c.in-Err-TooManyCells.field-0-is
    c.in_ok-refused-in-Err-TooManyCells.ensures
