-- What is left of a text, and what one step of the lexer does.
use Rattle.std.specs.Prelude.{◌≡◌, ℕ, ◌+◌, ◌≤◌, Bool, false, List, [], ◌∷◌, ◌++◌, length}
use Rattle.df_io.specs.declared.place.Place.{Place}
use Rattle.df_syntax.specs.declared.token.Token.{Token}
use Rattle.df_syntax.specs.Pieces.{is_letter, is_digit, is_white, is_percent}
use Rattle.df_syntax.specs.Tokens.{Takes, IsBad, no_token, literal_too_large, name_too_long}
use Rattle.df_lexer.specs.declared.lexer.Lexer.{Lexer}
use Rattle.df_lexer.specs.declared.lexer.LexAnswer.{LexAnswer}
use Rattle.df_lexer.specs.declared.lexer.LexAnswer.TheVariants.{BadByte, LiteralTooLarge, NameTooLong, Memory}

-- whether the first byte passes a test
abbrev pub begins : (ℕ → Bool) → List ℕ → Bool
begins p [] = false
begins p (b ∷ more) = p b

-- the first byte is none of a word, a number, a blank or a comment
pub record BeginsNoRun (text : List ℕ) : Type 0 where
  pub some : 1 ≤ length text
  pub letter : begins is_letter text ≡ false
  pub digit : begins is_digit text ≡ false
  pub white : begins is_white text ≡ false
  pub percent : begins is_percent text ≡ false

-- no place up to the end of what is left is beyond the last line and column
pub record HasRoom (lexer : Lexer) : Type 0 where
  pub line : lexer.place.line + length lexer.rest.now ≤ 4294967295
  pub column : lexer.place.column + length lexer.rest.now ≤ 4294967295

-- one piece is taken from what is left, and its tokens are added
pub record Advances (old new : Lexer) : Type 0 where
  pub given : List Token
  pub takes : Takes old.place old.rest.now given new.place new.rest.now
  pub added : new.tokens.tokens ≡ old.tokens.tokens ++ given

-- what is left begins with a fault, at this place
abbrev pub Refuses : Place → List ℕ → LexAnswer → Type 0
Refuses at rest (BadByte place) = (place ≡ at) × IsBad no_token rest
Refuses at rest (LiteralTooLarge place) = (place ≡ at) × IsBad literal_too_large rest
Refuses at rest (NameTooLong place) = (place ≡ at) × IsBad name_too_long rest
Refuses at rest Memory = Unit {0}
