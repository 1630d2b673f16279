use Rattle.std.proofs.Common.{◌∙◌, List, Ok, sym, subst, refl}
use Rattle.std.proofs.lemmas.Result.{err_from_is_err_and}
use Rattle.std.specs.Prelude.{map}
use Rattle.df_values.specs.Inputs.{AreValid}
use Rattle.df_cells.specs.Cells.{declaration_of}
use Rattle.df_cells.specs.declared.cells.InputDecl.{InputDecl}
use Rattle.df_iotext.specs.Inputs.{HaveOwnNames}
use Rattle.df_commands.specs.ProgramTexts.{ReadsCompilable}
use Rattle.df_commands.specs.Texts.{ReadsInputText}
use Rattle.df_commands.specs.Verdicts.{CompileAndRun, JudgesInputs}
use Rattle.df_commands.specs.Judged.{StopsAs}
use Rattle.df_commands.specs.declared.compilation.CompiledSource.{CompiledSource}
use Rattle.df_commands.proofs.Judging.{refused_first, refused_behind}
use Rattle.df_commands.proofs.OwnNames.{cells_names}
use Rattle.df_commands.proofs.Readings.{run_asked}
use Rattle.df_commands.proofs.ReadyTasks.{few_choices}
use Rattle.df_commands.proofs.go.judged.Goals as goal

pub returns-in_err-source-clause-finds : goal.returns-in_err-source-clause-finds
returns-in_err-source-clause-finds c cells dual =
    let p = err_from_is_err_and c.from_residual.result c.from_residual.ensures.1 in
    rw (p.1, p.2) (refused_first (λ (s : CompiledSource). s.tree) (ReadsCompilable c.args.source.now) (run_asked c.args.input.now c.args.schedule.now cells dual)
    c.in_err-source.field-0.0 c.in_err-source.ensures.reads)

pub judged_inputs-requires-clause-names : goal.judged_inputs-requires-clause-names
judged_inputs-requires-clause-names c =
    subst HaveOwnNames (sym c.in_ok-decls.ensures) (cells_names c.in_ok-source.source.compiled.cells c.in_ok-source.ensures.compiled.well_formed)

pub returns-in_err-texts-clause-finds : goal.returns-in_err-texts-clause-finds
returns-in_err-texts-clause-finds c cells dual =
    let p = err_from_is_err_and c.from_residual-in_err-texts.result c.from_residual-in_err-texts.ensures.1 in
    let tree = c.in_ok-source.source.tree in
    rw (p.1, p.2) (refused_behind (ReadsCompilable c.args.source.now) (run_asked c.args.input.now c.args.schedule.now cells dual) tree c.in_err-texts.field-0.0 c.in_ok-source.ensures.reads
    (subst (λ decls. StopsAs (JudgesInputs decls c.args.input.now c.args.schedule.now (λ inputs choices. CompileAndRun tree inputs choices cells dual)) c.in_err-texts.field-0.0)
    (c.in_ok-decls.ensures ∙ c.in_ok-source.ensures.compiled.inputs) (c.in_err-texts.ensures.stops (λ inputs choices. CompileAndRun tree inputs choices cells dual))))

pub returns-clause-finds : goal.returns-clause-finds
returns-clause-finds c cells dual = record {
  read = Ok c.in_ok-source.source.tree;
  reads = c.in_ok-source.ensures.reads;
  goes = record {
    read = Ok c.in_ok-texts.texts.inputs.lists;
    reads = subst (λ decls. ReadsInputText decls c.args.input.now (Ok c.in_ok-texts.texts.inputs.lists)) (c.in_ok-decls.ensures ∙ c.in_ok-source.ensures.compiled.inputs) c.in_ok-texts.ensures.inputs;
    goes = record { read = Ok c.in_ok-texts.texts.schedule; reads = c.in_ok-texts.ensures.schedule; goes = refl };
  };
}

pub returns-clause-valid : goal.returns-clause-valid
returns-clause-valid c = subst (λ (decls : List InputDecl). AreValid (map declaration_of decls) c.in_ok-texts.texts.inputs.lists) c.in_ok-decls.ensures c.in_ok-texts.ensures.valid

pub returns-clause-few : goal.returns-clause-few
returns-clause-few c = few_choices c.args.schedule.now c.in_ok-texts.texts.schedule c.in_ok-texts.ensures.schedule
