-- Options, tests and tables.
use Rattle.std.proofs.Common.{◌≡◌, ℕ, Bool, true, false, ◌&&◌, List, Option, Some, None, refl, sym, ◌∙◌}
use Rattle.std.specs.Prelude.{bytes_eq}
use Rattle.std.proofs.lemmas.Slice.Eq.{bytes_eq-Decides}
use Rattle.df_celltext.specs.Reading.{◌>>=◌, passed}

pub none_from : {A : Type 0} (o : Option A) → ((x : A) → o ≡ Some x → ⊥) → o ≡ None
none_from None none = refl
none_from (Some x) none = absurd (none x refl)

pub some_same : {A : Type 0} (x y : A) → Some x ≡ Some y → x ≡ y
some_same x y h = cc

pub bind_ok : {A B : Type 0} (o : Option A) (f : A → Option B) (y : B) → (o >>= f) ≡ Some y → (x : A) × (o ≡ Some x) × (f x ≡ Some y)
bind_ok None f y h = absurd (cc)
bind_ok (Some x) f y h = (x, refl, h)

pub passed_some : {A : Type 0} (test : Bool) (x y : A) → passed test x ≡ Some y → (test ≡ true) × (x ≡ y)
passed_some true x y h = (refl, cc)
passed_some false x y h = absurd (cc)

pub both_true : (a b : Bool) → (a && b) ≡ true → (a ≡ true) × (b ≡ true)
both_true true true h = (refl, refl)
both_true true false h = absurd (cc)
both_true false b h = absurd (cc)

pub true_both : (a b : Bool) → a ≡ true → b ≡ true → (a && b) ≡ true
true_both a b p q = rw (p, q) refl

pub same_bytes : (v w : List ℕ) → bytes_eq v w ≡ true → v ≡ w
same_bytes v w h = (bytes_eq-Decides v w).0 h

pub bytes_same : (v w : List ℕ) → v ≡ w → bytes_eq v w ≡ true
bytes_same v w h = (bytes_eq-Decides v w).1 h

by_test : (v w : List ℕ) (t : Bool) → bytes_eq v w ≡ t → ¬ (v ≡ w) → t ≡ false
by_test v w true e h = absurd (h (same_bytes v w e))
by_test v w false e h = refl

pub differ : (v w : List ℕ) → ¬ (v ≡ w) → bytes_eq v w ≡ false
differ v w h = by_test v w (bytes_eq v w) refl h

pub differing : (v w : List ℕ) → bytes_eq v w ≡ false → ¬ (v ≡ w)
differing v w h e = let clash : true ≡ false = sym (bytes_same v w e) ∙ h in cc

pub some_none : {A : Type 0} (x : A) → Some x ≡ None → ⊥
some_none x h = cc
