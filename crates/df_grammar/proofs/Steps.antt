-- What a reader returns where a step of it fails.
use Rattle.std.proofs.Common.{◌≡◌, ◌≢◌, ◌≤◌, ◌∙◌, sym, refl, subst, List, length, Result, Ok, Err, arith}
use Rattle.std.specs.Prelude.{IsErrAnd}
use Rattle.df_forms.specs.Reading.{Outcome, Found, Failed, and_then}
use Rattle.df_syntax.specs.declared.token.Token.{Token}
use Rattle.df_cursor.specs.declared.error.ParseError.{ParseError}
use Rattle.df_cursor.specs.declared.error.ParseError.TheVariants.{Memory}
use Rattle.df_cursor.specs.Reads.{Reads, fault}

-- the fault of the step
pub step_failed : {A : Type 0} (outcome : Outcome Token A) (old new : List Token) (result : Result A ParseError) (why : ParseError)
    → IsErrAnd result (λ x. x ≡ why) → (why ≢ Memory → outcome ≡ Failed (fault why) new) → Reads outcome old result new
step_failed outcome old new (Ok a) why same known = absurd same
step_failed outcome old new (Err x) why same known = subst (λ (y : ParseError). y ≢ Memory → outcome ≡ Failed (fault y) new) (sym same) known

-- want of memory
pub step_wanting : {A : Type 0} (outcome : Outcome Token A) (old new : List Token) (result : Result A ParseError) → IsErrAnd result (λ x. x ≡ Memory) → Reads outcome old result new
step_wanting outcome old new (Ok a) same = absurd same
step_wanting outcome old new (Err x) same = λ other. absurd (other same)

-- what the last step returns, where the outcome is its own
pub step_last : {A : Type 0} (outcome inner : Outcome Token A) (old between new : List Token) (result : Result A ParseError)
    → outcome ≡ inner → length between ≤ length old → Reads inner between result new → Reads outcome old result new
step_last outcome inner old between new (Ok a) same shorter known = (same ∙ known.0, (let later = known.1 in omega (arith, later, shorter)))
step_last outcome inner old between new (Err x) same shorter known = λ n. same ∙ known n

-- a line behind a token that was found
pub behind_last : {A B : Type 0} (a : B) (inner : Outcome Token A)
    → and_then {B = A} (and_then {B = B × A} inner (λ b last. Found (a, b) last)) (λ p rest. Found p.1 rest) ≡ inner
behind_last a (Found b last) = refl
behind_last a (Failed x last) = refl

-- a line behind two tokens that were found
pub behind_twice : {A B C : Type 0} (a : B) (b : C) (inner : Outcome Token A)
    → and_then {B = A} (and_then {B = B × A} (and_then {B = A} (and_then {B = C × A} inner (λ x last. Found (b, x) last)) (λ p rest. Found p.1 rest)) (λ x last. Found (a, x) last))
    (λ p rest. Found p.1 rest)
    ≡ inner
behind_twice a b (Found x last) = refl
behind_twice a b (Failed x last) = refl
