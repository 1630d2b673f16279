use Rattle.std.proofs.Common.{List, Ok, sym, subst, refl, map}
use Rattle.std.proofs.lemmas.Result.{err_from_is_err_and}
use Rattle.df_values.specs.Inputs.{AreValid}
use Rattle.df_values.specs.Streams.{StreamLists}
use Rattle.df_cells.specs.declared.cells.Cell.{Cell}
use Rattle.df_cells.specs.Cells.{declaration_of}
use Rattle.df_iotext.specs.Inputs.{HaveOwnNames}
use Rattle.df_celltext.specs.declared.version.Version.TheVariants.{Two}
use Rattle.df_commands.specs.Texts.{ReadsInputText, ReadsCellFile}
use Rattle.df_commands.specs.Verdicts.{Verdict, AfterText}
use Rattle.df_commands.specs.Judged.{StopsAs}
use Rattle.df_commands.proofs.Judging.{refused_first, refused_behind}
use Rattle.df_commands.proofs.OwnNames.{cells_names}
use Rattle.df_commands.proofs.Readings.{phases_asked, input_asked}
use Rattle.df_commands.proofs.lockstep.judged.Goals as goal

pub returns-in_err-cells-clause-finds : goal.returns-in_err-cells-clause-finds
returns-in_err-cells-clause-finds c =
    let p = err_from_is_err_and c.from_residual.result c.from_residual.ensures.1 in
    rw (p.1, p.2) (refused_first (λ (cells : List Cell). cells) (ReadsCellFile Two c.args.cells.now) (input_asked c.args.input.now) c.in_err-cells.field-0.0 c.in_err-cells.ensures)

pub judge_input-requires-clause-names : goal.judge_input-requires-clause-names
judge_input-requires-clause-names c = subst HaveOwnNames (sym c.in_ok-decls.ensures) (cells_names c.in_ok-cells.cells c.in_ok-cells.ensures.1)

pub returns-in_err-inputs-clause-finds : goal.returns-in_err-inputs-clause-finds
returns-in_err-inputs-clause-finds c =
    let p = err_from_is_err_and c.from_residual-in_err-inputs.result c.from_residual-in_err-inputs.ensures.1 in
    let cells = c.in_ok-cells.cells in
    rw (p.1, p.2) (refused_behind (ReadsCellFile Two c.args.cells.now) (input_asked c.args.input.now) cells c.in_err-inputs.field-0.0 c.in_ok-cells.ensures
    (subst (λ ds. StopsAs (λ (v : Verdict). AfterText (ReadsInputText ds c.args.input.now) v (phases_asked cells v)) c.in_err-inputs.field-0.0) c.in_ok-decls.ensures
    (refused_first (λ (s : StreamLists). s.lists) (ReadsInputText c.in_ok-decls.decls.items c.args.input.now) (phases_asked cells)
    c.in_err-inputs.field-0.0 c.in_err-inputs.ensures.gives)))

pub returns-clause-finds : goal.returns-clause-finds
returns-clause-finds c = record {
  read = Ok c.in_ok-cells.cells;
  reads = c.in_ok-cells.ensures;
  goes = record {
    read = Ok c.in_ok-inputs.inputs.lists;
    reads = subst (λ decls. ReadsInputText decls c.args.input.now (Ok c.in_ok-inputs.inputs.lists)) c.in_ok-decls.ensures c.in_ok-inputs.ensures.gives;
    goes = refl;
  };
}

pub returns-clause-well_formed : goal.returns-clause-well_formed
returns-clause-well_formed c = c.in_ok-cells.ensures.1

pub returns-clause-valid : goal.returns-clause-valid
returns-clause-valid c = subst (λ decls. AreValid (map declaration_of decls) c.in_ok-inputs.inputs.lists) c.in_ok-decls.ensures c.in_ok-inputs.ensures.valid
