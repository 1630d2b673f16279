use Rattle.df_syntax.specs.declared.program.Program.{Program}
use Rattle.std.proofs.Common.{◌≡◌, ◌∙◌, Ok, true, refl, ap, []}
use Rattle.std.proofs.lemmas.Result.{err_from_is_err_and}
use Rattle.df_commands.specs.declared.programs.Source.{Source}
use Rattle.df_commands.specs.ProgramTexts.{ReadsProgram}
use Rattle.df_commands.specs.Verdicts.{Verdict, Accepted, TellRight}
use Rattle.df_commands.proofs.Judging.{refused_first}
use Rattle.df_commands.proofs.check.check.Goals as goal

pub returns-in_err-judge_program-clause-settles : goal.returns-in_err-judge_program-clause-settles
returns-in_err-judge_program-clause-settles c =
    let p = err_from_is_err_and c.from_residual.result c.from_residual.ensures.1 in
    rw (p.1, p.2) (refused_first (λ (s : Source). s.tree) (ReadsProgram c.args.source.now) (λ (v : Verdict) (tree : Program). v ≡ Accepted TellRight)
    c.in_err-judge_program.field-0.0 c.in_err-judge_program.ensures.reads)

pub returns-clause-settles : goal.returns-clause-settles
returns-clause-settles c = record {
  task = TellRight;
  judged = record { read = Ok c.in_ok-judge_program.field-0.tree; reads = c.in_ok-judge_program.ensures.reads; goes = refl };
  does = c.of_text.ensures ∙ ap (λ text. record { files = []; text = text; is_done = true }) c.in_ok-ok_line.ensures;
}
