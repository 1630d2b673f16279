-- What a function that reads a line ensures: the outcome of the line's reading, unless memory is wanting.
use Rattle.std.specs.Prelude.{◌≡◌, ◌≢◌, ◌≤◌, nat_le, if◌then◌else◌, ℕ, List, length, Result, Ok, Err}
use Rattle.df_forms.specs.Reading.{Outcome, Found, Failed, Fault, Wrong, Deep, and_then, read_token}
use Rattle.df_syntax.specs.declared.token.Token.{Token}
use Rattle.df_syntax.specs.declared.token.TokenKind.{TokenKind}
use Rattle.df_syntax.specs.TokenClasses.{class}
use Rattle.df_syntax.specs.Grammar.{Line}
use Rattle.df_syntax.specs.Reading.{reads}
use Rattle.df_cursor.specs.declared.error.ParseError.{ParseError}
use Rattle.df_cursor.specs.declared.error.ParseError.TheVariants as e

-- a line without brackets is read alike wherever it stands
unfoldable pub plain : {A : Type 0} → Line A → List Token → Outcome Token A
plain f ts = reads 0 0 f ts

abbrev pub fault : ParseError → Fault
fault e.Deep = Deep
fault e.Wrong = Wrong
fault e.Memory = Wrong

-- the tree and the tokens that are left, or the fault and the tokens from there on
abbrev pub Reads : {A : Type 0} → Outcome Token A → List Token → Result A ParseError → List Token → Type 0
Reads outcome old (Ok a) new = (outcome ≡ Found a new) × (length new ≤ length old)
Reads outcome old (Err x) new = x ≢ e.Memory → outcome ≡ Failed (fault x) new

-- the same of one token and the value that it stands for
abbrev pub Takes : {V : Type 0} → (TokenKind → V) → Outcome Token Token → List Token → Result (Token × V) ParseError → List Token → Type 0
Takes value outcome old (Ok p) new = (outcome ≡ Found p.0 new) × (p.1 ≡ value p.0.kind) × (length new ≤ length old)
Takes value outcome old (Err x) new = x ≢ e.Memory → outcome ≡ Failed (fault x) new

-- a token that opens a bracket, where `level` of `depth` brackets are open
unfoldable pub opened : ℕ → ℕ → ℕ → List Token → Outcome Token Token
opened depth level c ts = and_then (read_token class c ts) (λ t rest. if nat_le depth level then Failed Deep ts else Found t rest)
