-- By the two look-ups.
use Rattle.std.proofs.Common.{sym, ◌∙◌}
use Rattle.df_syntax.proofs.Spellings.{reserved_found}
use Rattle.df_lexer.proofs.Words.{unsupported_found}
use Rattle.df_lexer.proofs.word.word_kind.Goals as goal

pub returns-in-Some : goal.returns-in-Some
returns-in-Some c = (c.requires.word, reserved_found c.args.word.now c.in-Some.reserved (sym c.reserved.ensures ∙ c.in-Some.is))

pub returns-then-is_unsupported : goal.returns-then-is_unsupported
returns-then-is_unsupported c =
    (c.requires.word, unsupported_found c.args.word.now (sym c.is_unsupported.ensures ∙ c.if-is_unsupported.true), c.new.ensures)
