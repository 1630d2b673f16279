use Rattle.std.proofs.Common.{◌≡◌, ◌++◌, List, ℕ, ap, ◌∙◌, sym, append_assoc, codes}
use Rattle.std.specs.Fmt.{decimal}
use Rattle.df_commands.specs.Texts.{input_reason, and_word}
use Rattle.df_commands.proofs.refusals.push_reason.Goals as goal

two : (line a b one both : List ℕ) → one ≡ line ++ a → both ≡ one ++ b → both ≡ line ++ (a ++ b)
two line a b one both is then = then ∙ ap (λ t. t ++ b) is ∙ append_assoc line a b

pub returns-in_ok-push_number-in-WrongLength-2-clause-reason : goal.returns-in_ok-push_number-in-WrongLength-2-clause-reason
returns-in_ok-push_number-in-WrongLength-2-clause-reason c =
    two c.args.line.now (codes "WrongLength") (and_word c.in-WrongLength.name ++ (and_word (decimal c.in-WrongLength.have) ++ and_word (decimal c.in-WrongLength.want)))
    c.push_text-in-WrongLength.new.self _ c.in_ok-push_text-in-WrongLength.ensures.ok
    (two c.push_text-in-WrongLength.new.self (and_word c.in-WrongLength.name) (and_word (decimal c.in-WrongLength.have) ++ and_word (decimal c.in-WrongLength.want))
    c.push_name.new.line _ c.in_ok-push_name-in-WrongLength.ensures
    (two c.push_name.new.line (and_word (decimal c.in-WrongLength.have)) (and_word (decimal c.in-WrongLength.want)) c.push_number-in-WrongLength.new.line _
    c.in_ok-push_number-in-WrongLength.ensures c.in_ok-push_number-in-WrongLength-2.ensures))
    ∙ ap (λ answer. c.args.line.now ++ input_reason answer) (sym c.in-WrongLength.is)

pub returns-in_ok-push_name-in-MissingInput-clause-reason : goal.returns-in_ok-push_name-in-MissingInput-clause-reason
returns-in_ok-push_name-in-MissingInput-clause-reason c =
    two c.args.line.now (codes "MissingInput") (and_word c.in-MissingInput.name) c.push_text-in-MissingInput.new.self _
    c.in_ok-push_text-in-MissingInput.ensures.ok c.in_ok-push_name-in-MissingInput.ensures
    ∙ ap (λ answer. c.args.line.now ++ input_reason answer) (sym c.in-MissingInput.is)
