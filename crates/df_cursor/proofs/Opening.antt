-- A bracket that opens, and the expressions inside it.
use Rattle.std.proofs.Common.{◌≡◌, ℕ, zero, suc, ◌-◌, ◌<◌, ◌≤◌, Bool, true, false, ◌||◌, ◌==◌, if◌then◌else◌, List, [], ◌∷◌, refl, ◌∙◌, ap, arith}
use Rattle.std.proofs.lemmas.Bool.{le-leb, lt-leb}
use Rattle.df_forms.specs.Reading.{Outcome, Found, Failed, Wrong, Deep, and_then, sees, read_token, read, read_deeper, inside}
use Rattle.df_forms.proofs.Nesting.{deeper_at}
use Rattle.df_syntax.specs.declared.token.Token.{Token}
use Rattle.df_syntax.specs.TokenClasses.{class}
use Rattle.df_syntax.specs.Refusals.{openers, closers}
use Rattle.df_syntax.specs.Lines.{expr, start}
use Rattle.df_syntax.specs.Reading.{reads, deeper}
use Rattle.df_cursor.specs.Reads.{opened}

kept : (o : Outcome Token Token) → and_then o (λ t rest. Found t rest) ≡ o
kept (Found t rest) = refl
kept (Failed x rest) = refl

pub opened_room : (depth level c : ℕ) (ts : List Token) → level < depth → opened depth level c ts ≡ read_token class c ts
unfolding opened
opened_room depth level c ts h = rw (lt-leb depth level h) (kept (read_token class c ts))

pub opened_deep : (depth level c : ℕ) (ts : List Token) → depth ≤ level → sees class (c ∷ []) ts ≡ true → opened depth level c ts ≡ Failed Deep ts
unfolding opened
opened_deep depth level c [] h s = cc
opened_deep depth level c (t ∷ ts) h s = rw (le-leb depth level h) (in_hand (class t == c) s)
  where
    in_hand : (b : Bool) → (b || false) ≡ true → and_then {B = Token} (if b then Found t ts else Failed Wrong (t ∷ ts)) (λ s rest. Failed Deep (t ∷ ts)) ≡ Failed Deep (t ∷ ts)
    in_hand true e = refl
    in_hand false e = cc

pub opened_wrong : (depth level c : ℕ) (ts : List Token) → depth ≤ level → sees class (c ∷ []) ts ≡ false → opened depth level c ts ≡ Failed Wrong ts
unfolding opened
opened_wrong depth level c [] h s = refl
opened_wrong depth level c (t ∷ ts) h s = rw (le-leb depth level h) (other (class t == c) s)
  where
    other : (b : Bool) → (b || false) ≡ false → and_then {B = Token} (if b then Found t ts else Failed Wrong (t ∷ ts)) (λ s rest. Failed Deep (t ∷ ts)) ≡ Failed Wrong (t ∷ ts)
    other true e = cc
    other false e = refl
