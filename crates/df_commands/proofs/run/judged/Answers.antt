use Rattle.std.proofs.Common.{List, Ok, sym, subst, refl}
use Rattle.std.proofs.lemmas.Result.{err_from_is_err_and}
use Rattle.df_values.specs.Inputs.{AreValid}
use Rattle.df_cells.specs.declared.cells.Cell.{Cell}
use Rattle.df_cells.specs.Cells.{inputs_of, declaration_of}
use Rattle.df_iotext.specs.Inputs.{HaveOwnNames}
use Rattle.df_celltext.specs.declared.version.Version.TheVariants.{Two}
use Rattle.df_commands.specs.Texts.{ReadsInputText, ReadsCellFile}
use Rattle.df_values.specs.declared.values.Value.{Value}
use Rattle.df_cells.specs.declared.schedules.Schedule.{Schedule}
use Rattle.df_commands.specs.Verdicts.{Verdict, Task, JudgesInputs}
use Rattle.df_commands.specs.Judged.{StopsAs}
use Rattle.std.specs.Prelude.{map}
use Rattle.df_commands.proofs.Judging.{refused_first, refused_behind}
use Rattle.df_commands.proofs.OwnNames.{cells_names}
use Rattle.df_commands.proofs.ReadyTasks.{few_choices}
use Rattle.df_commands.proofs.run.judged.Goals as goal

pub returns-in_err-cells-clause-finds : goal.returns-in_err-cells-clause-finds
returns-in_err-cells-clause-finds c =
    let p = err_from_is_err_and c.from_residual.result c.from_residual.ensures.1 in
    rw (p.1, p.2) (λ (task : List Cell → List (List Value) → Schedule → Task). refused_first (λ (cells : List Cell). cells) (ReadsCellFile Two c.args.cells.now)
    (λ (v : Verdict) (cells : List Cell). JudgesInputs (inputs_of cells) c.args.input.now c.args.schedule.now (task cells) v)
    c.in_err-cells.field-0.0 c.in_err-cells.ensures)

pub judged_inputs-requires-clause-names : goal.judged_inputs-requires-clause-names
judged_inputs-requires-clause-names c = subst HaveOwnNames (sym c.in_ok-decls.ensures) (cells_names c.in_ok-cells.cells c.in_ok-cells.ensures.1)

pub returns-in_err-texts-clause-finds : goal.returns-in_err-texts-clause-finds
returns-in_err-texts-clause-finds c =
    let p = err_from_is_err_and c.from_residual-in_err-texts.result c.from_residual-in_err-texts.ensures.1 in
    rw (p.1, p.2) (λ (task : List Cell → List (List Value) → Schedule → Task). refused_behind (ReadsCellFile Two c.args.cells.now)
    (λ (v : Verdict) (cells : List Cell). JudgesInputs (inputs_of cells) c.args.input.now c.args.schedule.now (task cells) v)
    c.in_ok-cells.cells c.in_err-texts.field-0.0 c.in_ok-cells.ensures
    (subst (λ decls. StopsAs (JudgesInputs decls c.args.input.now c.args.schedule.now (task c.in_ok-cells.cells)) c.in_err-texts.field-0.0)
    c.in_ok-decls.ensures (c.in_err-texts.ensures.stops (task c.in_ok-cells.cells))))

pub returns-clause-finds : goal.returns-clause-finds
returns-clause-finds c = λ task. record {
  read = Ok c.in_ok-cells.cells;
  reads = c.in_ok-cells.ensures;
  goes = record {
    read = Ok c.in_ok-texts.texts.inputs.lists;
    reads = subst (λ decls. ReadsInputText decls c.args.input.now (Ok c.in_ok-texts.texts.inputs.lists)) c.in_ok-decls.ensures c.in_ok-texts.ensures.inputs;
    goes = record { read = Ok c.in_ok-texts.texts.schedule; reads = c.in_ok-texts.ensures.schedule; goes = refl };
  };
}

pub returns-clause-well_formed : goal.returns-clause-well_formed
returns-clause-well_formed c = c.in_ok-cells.ensures.1

pub returns-clause-valid : goal.returns-clause-valid
returns-clause-valid c = subst (λ decls. AreValid (map declaration_of decls) c.in_ok-texts.texts.inputs.lists) c.in_ok-decls.ensures c.in_ok-texts.ensures.valid

pub returns-clause-few : goal.returns-clause-few
returns-clause-few c = few_choices c.args.schedule.now c.in_ok-texts.texts.schedule c.in_ok-texts.ensures.schedule
