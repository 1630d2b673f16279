-- The token in hand.
use Rattle.std.proofs.Common.{◌≡◌, ℕ, Bool, true, false, ◌||◌, ◌==◌, List, [], ◌∷◌, slice_get, Some, refl, ◌∙◌, ap}
use Rattle.df_forms.specs.OneToken.{has}
use Rattle.df_forms.specs.Reading.{sees, read_token, Found, Failed, Wrong}
use Rattle.df_syntax.specs.declared.token.Token.{Token}
use Rattle.df_syntax.specs.TokenClasses.{class, class_of, code}

or_false : (b : Bool) → (b || false) ≡ b
or_false true = refl
or_false false = refl

sees_one : (c : ℕ) (t : Token) (ts : List Token) → sees class (c ∷ []) (t ∷ ts) ≡ (code (class_of t.kind) == c)
unfolding class
sees_one c t ts = or_false (code (class_of t.kind) == c)

pub sees_at : (c : ℕ) (t : Token) (ts : List Token) → slice_get ts 0 ≡ Some t → sees class (c ∷ []) ts ≡ (code (class_of t.kind) == c)
sees_at c t [] e = cc
sees_at c t (s ∷ ts) e = let same : s ≡ t = cc in sees_one c s ts ∙ ap (λ (x : Token). code (class_of x.kind) == c) same

pub token_found : (c : ℕ) (t : Token) (ts : List Token) → (code (class_of t.kind) == c) ≡ true → read_token class c (t ∷ ts) ≡ Found t ts
unfolding class
token_found c t ts e = rw (e, read_token) refl

pub token_wrong : (c : ℕ) (t : Token) (ts : List Token) → (code (class_of t.kind) == c) ≡ false → read_token class c (t ∷ ts) ≡ Failed Wrong (t ∷ ts)
unfolding class
token_wrong c t ts e = rw (e, read_token) refl

-- either of two sets
pub sees_more : (c d : ℕ) (cs : List ℕ) (ts : List Token) → sees class (c ∷ d ∷ cs) ts ≡ (sees class (c ∷ []) ts || sees class (d ∷ cs) ts)
sees_more c d cs [] = refl
sees_more c d cs (t ∷ ts) = more (class t == c) (has (class t) (d ∷ cs))
  where
    more : (a b : Bool) → (a || b) ≡ ((a || false) || b)
    more true b = refl
    more false b = refl
