-- A text is read one piece after the other.
use Rattle.std.proofs.Common.{◌≡◌, ℕ, suc, ◌+◌, ◌≤◌, Bool, true, false, List, [], ◌∷◌, length, refl, sym, ◌∙◌, ap, subst, arith}
use Rattle.std.specs.Prelude.{if◌then◌else◌}
use Rattle.std.proofs.lemmas.List.{length-append}
use Rattle.df_io.specs.declared.place.Place.{Place}
use Rattle.df_syntax.specs.declared.token.Token.{Token}
use Rattle.df_syntax.specs.Places.{start, is_line_feed, after_byte, moved}
use Rattle.df_syntax.specs.Tokens.{TakesMany, IsReadTo}
use Rattle.df_syntax.proofs.SomeReading.{one_more}
use Rattle.df_lexer.specs.declared.lexer.Lexer.{Lexer}
use Rattle.df_lexer.specs.Steps.{HasRoom, Advances}

-- ---- places

stays_near : (x : Bool) (line column : ℕ) → (at : Place) → at ≡ (if x then record { line = line + 1; column = 1 } else record { line = line; column = column + 1 }) → (at.line ≤ line + 1) × (at.column ≤ column + 1)
stays_near true line column at e = (omega (arith, ap (λ (p : Place). p.line) e), omega (arith, ap (λ (p : Place). p.column) e))
stays_near false line column at e = (omega (arith, ap (λ (p : Place). p.line) e), omega (arith, ap (λ (p : Place). p.column) e))

-- each byte passes one line or one column at most
pub moved-near : (at : Place) (w : List ℕ) → ((moved at w).line ≤ at.line + length w) × ((moved at w).column ≤ at.column + length w)
moved-near at [] = (omega arith, omega arith)
moved-near at (b ∷ w) =
    let step : ((after_byte at b).line ≤ at.line + 1) × ((after_byte at b).column ≤ at.column + 1) = stays_near (is_line_feed b) at.line at.column (after_byte at b) refl in
    let later : ((moved (after_byte at b) w).line ≤ (after_byte at b).line + length w) × ((moved (after_byte at b) w).column ≤ (after_byte at b).column + length w) = moved-near (after_byte at b) w in
    (omega arith, omega arith)

-- ---- steps

pub read_on : (text : List ℕ) (old new : Lexer) → IsReadTo text old.tokens.tokens old.place old.rest.now → Advances old new → IsReadTo text new.tokens.tokens new.place new.rest.now
read_on text old new (n, h) a = (
  suc n,
  subst (λ (z : List Token). TakesMany (suc n) start text z new.place new.rest.now) (sym a.added)
      (one_more n start old.place new.place text old.rest.now new.rest.now old.tokens.tokens a.given h a.takes),
)

pub keeps_room : (old new : Lexer) → HasRoom old → Advances old new → HasRoom new
keeps_room old new room a =
    let near : ((moved old.place a.takes.piece).line ≤ old.place.line + length a.takes.piece) × ((moved old.place a.takes.piece).column ≤ old.place.column + length a.takes.piece) = moved-near old.place a.takes.piece in
    let whole : length old.rest.now ≡ length a.takes.piece + length new.rest.now = ap length a.takes.longest.parts ∙ length-append a.takes.piece new.rest.now in
    record {
      line = omega (arith, ap (λ (p : Place). p.line) a.takes.moves, near.0, whole, room.line);
      column = omega (arith, ap (λ (p : Place). p.column) a.takes.moves, near.1, whole, room.column);
    }
