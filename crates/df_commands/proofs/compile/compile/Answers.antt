use Rattle.std.proofs.Common.{Ok, refl}
use Rattle.std.specs.Prelude.{string_bytes}
use Rattle.std.proofs.lemmas.Result.{err_from_is_err_and}
use Rattle.df_commands.specs.ProgramTexts.{ReadsCompilable}
use Rattle.df_commands.specs.Verdicts.{CompileSource}
use Rattle.df_commands.specs.declared.compilation.CompiledSource.{CompiledSource}
use Rattle.df_commands.proofs.Judging.{refused_first}
use Rattle.df_commands.proofs.Readings.{compiled_asked}
use Rattle.df_commands.proofs.compile.compile.Goals as goal

pub returns-in_err-it-clause-settles : goal.returns-in_err-it-clause-settles
returns-in_err-it-clause-settles c =
    let p = err_from_is_err_and c.from_residual.result c.from_residual.ensures.1 in
    rw (p.1, p.2) (refused_first (λ (s : CompiledSource). s.tree) (ReadsCompilable c.args.source.now)
    (compiled_asked (string_bytes c.args.cells.now) (string_bytes c.args.dual.now)) c.in_err-it.field-0.0 c.in_err-it.ensures.reads)

pub returns-clause-settles : goal.returns-clause-settles
returns-clause-settles c = record {
  task = CompileSource c.in_ok-it.it.tree (string_bytes c.args.cells.now) (string_bytes c.args.dual.now);
  judged = record { read = Ok c.in_ok-it.it.tree; reads = c.in_ok-it.ensures.reads; goes = refl };
  does = c.in_ok-planned.ensures;
}
