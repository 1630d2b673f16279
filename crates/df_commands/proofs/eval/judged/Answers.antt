use Rattle.std.proofs.Common.{◌∙◌, List, Ok, ap, sym, subst, refl, map}
use Rattle.std.proofs.lemmas.Result.{err_from_is_err_and}
use Rattle.df_cells.specs.Cells.{declaration_of}
use Rattle.df_cells.specs.declared.cells.InputDecl.{InputDecl}
use Rattle.df_iotext.specs.Inputs.{HaveOwnNames}
use Rattle.df_syntax.specs.SourceMeaning.{source_inputs}
use Rattle.df_values.specs.Inputs.{AreValid, Declaration}
use Rattle.df_values.specs.Streams.{StreamLists}
use Rattle.df_commands.specs.Judged.{StopsAs}
use Rattle.df_commands.specs.Inputs.{decls_by}
use Rattle.df_commands.specs.ProgramTexts.{ReadsProgram}
use Rattle.df_commands.specs.Texts.{ReadsInputText}
use Rattle.df_commands.specs.Verdicts.{Verdict, AfterText}
use Rattle.df_commands.specs.declared.programs.Source.{Source}
use Rattle.df_commands.proofs.Judging.{refused_first, refused_behind}
use Rattle.df_commands.proofs.Readings.{meaning_told, meaning_asked}
use Rattle.df_commands.proofs.SourcesMeant.{declared_by_decls, flat_inputs, own_names}
use Rattle.df_commands.proofs.eval.judged.Goals as goal

pub returns-in_err-source-clause-finds : goal.returns-in_err-source-clause-finds
returns-in_err-source-clause-finds c =
    let p = err_from_is_err_and c.from_residual.result c.from_residual.ensures.1 in
    rw (p.1, p.2) (refused_first (λ (s : Source). s.tree) (ReadsProgram c.args.source.now) (meaning_asked c.args.input.now) c.in_err-source.field-0.0 c.in_err-source.ensures.reads)

pub judge_input-requires-clause-names : goal.judge_input-requires-clause-names
judge_input-requires-clause-names c =
    let source = c.in_ok-source.source in
    subst HaveOwnNames (sym (c.in_ok-decls.ensures ∙ ap decls_by (c.as_slice.ensures ∙ flat_inputs source.tree source.flat c.in_ok-source.ensures.flat)))
    (own_names source.tree c.in_ok-source.ensures.flat.new)

pub returns-in_err-inputs-clause-finds : goal.returns-in_err-inputs-clause-finds
returns-in_err-inputs-clause-finds c =
    let p = err_from_is_err_and c.from_residual-in_err-inputs.result c.from_residual-in_err-inputs.ensures.1 in
    let source = c.in_ok-source.source in
    let decls = c.in_ok-decls.ensures ∙ ap decls_by (c.as_slice.ensures ∙ flat_inputs source.tree source.flat c.in_ok-source.ensures.flat) in
    rw (p.1, p.2) (refused_behind (ReadsProgram c.args.source.now) (meaning_asked c.args.input.now) source.tree c.in_err-inputs.field-0.0 c.in_ok-source.ensures.reads
    (subst (λ ds. StopsAs (λ (v : Verdict). AfterText (ReadsInputText ds c.args.input.now) v (meaning_told source.tree v)) c.in_err-inputs.field-0.0) decls
    (refused_first (λ (s : StreamLists). s.lists) (ReadsInputText c.in_ok-decls.decls.items c.args.input.now) (meaning_told source.tree)
    c.in_err-inputs.field-0.0 c.in_err-inputs.ensures.gives)))

pub returns-clause-finds : goal.returns-clause-finds
returns-clause-finds c =
    let source = c.in_ok-source.source in
    let decls = c.in_ok-decls.ensures ∙ ap decls_by (c.as_slice.ensures ∙ flat_inputs source.tree source.flat c.in_ok-source.ensures.flat) in
    record {
      read = Ok source.tree;
      reads = c.in_ok-source.ensures.reads;
      goes = record {
        read = Ok c.in_ok-inputs.inputs.lists;
        reads = subst (λ ds. ReadsInputText ds c.args.input.now (Ok c.in_ok-inputs.inputs.lists)) decls c.in_ok-inputs.ensures.gives;
        goes = refl;
      };
    }

pub returns-clause-valid : goal.returns-clause-valid
returns-clause-valid c =
    let source = c.in_ok-source.source in
    let decls = c.in_ok-decls.ensures ∙ ap decls_by (c.as_slice.ensures ∙ flat_inputs source.tree source.flat c.in_ok-source.ensures.flat) in
    subst (λ (ds : List Declaration). AreValid ds c.in_ok-inputs.inputs.lists) (ap (λ (ds : List InputDecl). map declaration_of ds) decls ∙ declared_by_decls (source_inputs source.tree))
    c.in_ok-inputs.ensures.valid
