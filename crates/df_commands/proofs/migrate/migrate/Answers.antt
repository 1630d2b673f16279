use Rattle.std.proofs.Common.{◌≡◌, List, Ok, refl}
use Rattle.std.proofs.lemmas.Result.{err_from_is_err_and}
use Rattle.std.specs.Prelude.{string_bytes}
use Rattle.df_cells.specs.declared.cells.Cell.{Cell}
use Rattle.df_celltext.specs.declared.version.Version.TheVariants.{One}
use Rattle.df_commands.specs.Texts.{ReadsCellFile}
use Rattle.df_commands.specs.Verdicts.{Verdict, Accepted, WriteAnew}
use Rattle.df_commands.proofs.Judging.{refused_first}
use Rattle.df_commands.proofs.migrate.migrate.Goals as goal

pub returns-in_err-read-clause-settles : goal.returns-in_err-read-clause-settles
returns-in_err-read-clause-settles c =
    let p = err_from_is_err_and c.from_residual.result c.from_residual.ensures.1 in
    rw (p.1, p.2) (refused_first (λ (cells : List Cell). cells) (ReadsCellFile One c.args.old.now)
    (λ (v : Verdict) (list : List Cell). v ≡ Accepted (WriteAnew list (string_bytes c.args.cells.now))) c.in_err-read.field-0.0 c.in_err-read.ensures)

pub returns-clause-settles : goal.returns-clause-settles
returns-clause-settles c = record {
  task = WriteAnew c.in_ok-read.read (string_bytes c.args.cells.now);
  judged = record { read = Ok c.in_ok-read.read; reads = c.in_ok-read.ensures; goes = refl };
  does = c.in_ok-planned.ensures;
}
