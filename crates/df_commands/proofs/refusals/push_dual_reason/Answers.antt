use Rattle.std.proofs.Common.{◌++◌, ◌∙◌, ap, sym, append_assoc, codes}
use Rattle.df_dual_check.specs.declared.answer.DualAnswer.{DualAnswer}
use Rattle.df_commands.specs.Texts.{and_word, port_word, dual_reason}
use Rattle.df_commands.proofs.refusals.push_dual_reason.Goals as goal

pub returns-in_ok-push_port-in-NotBalanced : goal.returns-in_ok-push_port-in-NotBalanced
returns-in_ok-push_port-in-NotBalanced c =
    c.in_ok-push_port-in-NotBalanced.ensures ∙ ap (λ l. l ++ and_word (port_word c.in-NotBalanced.port)) c.in_ok-push_text-in-NotBalanced.ensures.ok
    ∙ append_assoc c.args.line.now (codes "NotBalanced") (and_word (port_word c.in-NotBalanced.port))
    ∙ ap (λ (answer : DualAnswer). c.args.line.now ++ dual_reason answer) (sym c.in-NotBalanced.is)
