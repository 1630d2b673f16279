use Rattle.std.proofs.Common.{◌≡◌, ℕ, List, Ok, refl}
use Rattle.std.proofs.lemmas.Result.{err_from_is_err_and}
use Rattle.df_cells.specs.declared.cells.Cell.{Cell}
use Rattle.df_celltext.specs.declared.version.Version.TheVariants.{Two}
use Rattle.df_commands.specs.Texts.{ReadsCellFile, ReadsDualFile}
use Rattle.df_commands.specs.Verdicts.{Verdict, Accepted, TellLeast, AfterText}
use Rattle.df_commands.proofs.Judging.{refused_first, refused_behind}
use Rattle.df_commands.proofs.verify.judged.Goals as goal

-- what is asked of a flow for these cells
abbrev asked : List ℕ → Verdict → List Cell → Type 0
asked dual v cells = AfterText (ReadsDualFile cells dual) v (λ flow. v ≡ Accepted (TellLeast cells))

pub returns-in_err-cells-clause-finds : goal.returns-in_err-cells-clause-finds
returns-in_err-cells-clause-finds c =
    let p = err_from_is_err_and c.from_residual.result c.from_residual.ensures.1 in
    rw (p.1, p.2) (refused_first (λ (cells : List Cell). cells) (ReadsCellFile Two c.args.cells.now) (asked c.args.dual.now) c.in_err-cells.field-0.0 c.in_err-cells.ensures)

pub returns-in_err-judge_dual-clause-finds : goal.returns-in_err-judge_dual-clause-finds
returns-in_err-judge_dual-clause-finds c =
    let p = err_from_is_err_and c.from_residual-in_err-judge_dual.result c.from_residual-in_err-judge_dual.ensures.1 in
    rw (p.1, p.2) (refused_behind (ReadsCellFile Two c.args.cells.now) (asked c.args.dual.now) c.in_ok-cells.cells c.in_err-judge_dual.field-0.0 c.in_ok-cells.ensures
    (refused_first (λ (flow : List ℕ). flow) (ReadsDualFile c.in_ok-cells.cells c.args.dual.now) (λ (v : Verdict) (flow : List ℕ). v ≡ Accepted (TellLeast c.in_ok-cells.cells))
    c.in_err-judge_dual.field-0.0 c.in_err-judge_dual.ensures))

pub returns-clause-finds : goal.returns-clause-finds
returns-clause-finds c = record {
  read = Ok c.in_ok-cells.cells;
  reads = c.in_ok-cells.ensures;
  goes = record { read = Ok c.in_ok-judge_dual.field-0; reads = c.in_ok-judge_dual.ensures; goes = refl };
}
