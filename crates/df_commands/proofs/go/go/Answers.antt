use Rattle.std.proofs.lemmas.Result.{err_from_is_err_and}
use Rattle.std.specs.Prelude.{string_bytes}
use Rattle.df_commands.specs.Verdicts.{CompileAndRun}
use Rattle.df_commands.proofs.go.go.Goals as goal

pub returns-in_err-source-clause-settles : goal.returns-in_err-source-clause-settles
returns-in_err-source-clause-settles c =
    let p = err_from_is_err_and c.from_residual.result c.from_residual.ensures.1 in
    rw (p.1, p.2) (c.in_err-source.ensures.finds (string_bytes c.args.cells.now) (string_bytes c.args.dual.now))

pub returns-clause-settles : goal.returns-clause-settles
returns-clause-settles c =
    let it = c.in_ok-source.field-0 in
    record {
      task = CompileAndRun it.source.tree it.texts.inputs.lists it.texts.schedule (string_bytes c.args.cells.now) (string_bytes c.args.dual.now);
      judged = c.in_ok-source.ensures.finds (string_bytes c.args.cells.now) (string_bytes c.args.dual.now);
      does = c.in_ok-planned.ensures;
    }
