-- What `parse` answers, and what that says of the tokens.
use Rattle.std.specs.Prelude.{◌≡◌, List, [], ◌∷◌, Result, Ok, Err, ⊤}
use Rattle.df_io.specs.declared.place.Place.{Place}
use Rattle.df_syntax.specs.declared.token.Token.{Token}
use Rattle.df_syntax.specs.declared.token.TokenKind.{TokenKind}
use Rattle.df_syntax.specs.declared.token.TokenKind.TheVariants as kind
use Rattle.df_syntax.specs.declared.program.Program.{Program}
use Rattle.df_syntax.specs.TokenList.{TokenList}
use Rattle.df_syntax.specs.Refusals.{IsSource, IsWrongAt, IsUnsupportedAt, IsTooDeepAt, Answer, source_of, wrong_at, unsupported_at, too_deep_at}
use Rattle.df_cursor.specs.declared.error.ParseError.{ParseError}
use Rattle.df_cursor.specs.declared.error.ParseError.TheVariants as e
use Rattle.df_grammar.specs.declared.parser.ParseAnswer.{ParseAnswer}
use Rattle.df_grammar.specs.declared.parser.ParseAnswer.TheVariants as a

-- each answer says what the tokens are; only want of memory says nothing
abbrev pub IsAnswered : TokenList → Result Program ParseAnswer → Type 0
IsAnswered list (Ok tree) = IsSource list tree
IsAnswered list (Err (a.Syntax place)) = IsWrongAt list place
IsAnswered list (Err (a.TooDeep place)) = IsTooDeepAt list place
IsAnswered list (Err (a.Unsupported name place)) = IsUnsupportedAt list name place
IsAnswered list (Err a.Memory) = ⊤

-- the result is this answer, or want of memory
abbrev pub IsThis : Result Program ParseAnswer → Answer → Type 0
IsThis (Ok tree) answer = answer ≡ source_of tree
IsThis (Err (a.Syntax place)) answer = answer ≡ wrong_at place
IsThis (Err (a.TooDeep place)) answer = answer ≡ too_deep_at place
IsThis (Err (a.Unsupported name place)) answer = answer ≡ unsupported_at name place
IsThis (Err a.Memory) answer = ⊤

-- ---- from the token in hand

abbrev pub of_kind : TokenKind → Place → ParseAnswer
of_kind (kind.Number value) place = a.Syntax place
of_kind (kind.Name name) place = a.Syntax place
of_kind (kind.Reserved word) place = a.Syntax place
of_kind (kind.Unsupported name) place = a.Unsupported name place
of_kind (kind.Symbol symbol) place = a.Syntax place

-- where the text ends at `end`
abbrev pub refusal : ParseError → List Token → Place → ParseAnswer
refusal e.Memory rest end = a.Memory
refusal e.Wrong [] end = a.Syntax end
refusal e.Wrong (t ∷ rest) end = of_kind t.kind t.place
refusal e.Deep [] end = a.TooDeep end
refusal e.Deep (t ∷ rest) end = a.TooDeep t.place
