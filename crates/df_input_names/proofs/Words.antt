-- Each name among the tokens of a text is a name in a cell file.
use Rattle.std.proofs.Common.{◌≡◌, ◌≤◌, ℕ, zero, suc, true, List, [], ◌∷◌, ◌++◌, length, IsTrue, sym, subst, arith}
use Rattle.std.specs.Prelude.{nat_le}
use Rattle.std.specs.List.{AllByRecursion, list_all}
use Rattle.std.proofs.lemmas.Bool.{and_from}
use Rattle.df_io.specs.declared.place.Place.{Place}
use Rattle.df_celltext.specs.Writable.{is_name}
use Rattle.df_syntax.specs.declared.token.Token.{Token}
use Rattle.df_syntax.specs.declared.token.TokenKind.{TokenKind}
use Rattle.df_syntax.specs.declared.token.TokenKind.TheVariants as kind
use Rattle.df_syntax.specs.Pieces.{IsWord, is_letter, is_name_byte}
use Rattle.df_syntax.specs.Places.{start}
use Rattle.df_syntax.specs.Tokens.{Gives, Spells, TakesMany, Splits}

short : (n : ℕ) → n ≤ 64 → nat_le n 64 ≡ true
short n le = grind (arith, le)

pub word_is_name : (w : List ℕ) → IsWord w → length w ≤ 64 → is_name w ≡ true
word_is_name [] word few = absurd word
word_is_name (b ∷ more) word few = and_from (is_letter b) _ word.0 (and_from (list_all is_name_byte more) _ word.1 (short (length (b ∷ more)) few))

-- the name that a name token has is a name in a cell file
abbrev pub IsNamed : TokenKind → Type 0
IsNamed (kind.Name name) = IsTrue (is_name name)
IsNamed _ = Unit {0}

abbrev pub AreNamed : List Token → Type 0
AreNamed tokens = AllByRecursion (λ (t : Token). IsNamed t.kind) tokens

spelled_is_named : (w : List ℕ) (k : TokenKind) → Spells w k → IsNamed k
spelled_is_named w (kind.Name name) spells = subst (λ n. IsTrue (is_name n)) (sym spells.3) (word_is_name w spells.0 spells.2)
spelled_is_named w (kind.Number n) spells = tt
spelled_is_named w (kind.Reserved r) spells = tt
spelled_is_named w (kind.Unsupported name) spells = tt
spelled_is_named w (kind.Symbol x) spells = tt

given_are_named : (at : Place) (w : List ℕ) (given : List Token) → Gives at w given → AreNamed given
given_are_named at w [] gives = tt
given_are_named at w (t ∷ more) gives = (spelled_is_named w t.kind gives.0, subst AreNamed (sym gives.2) tt)

pub both_named : (xs ys : List Token) → AreNamed xs → AreNamed ys → AreNamed (xs ++ ys)
both_named [] ys a b = b
both_named (x ∷ xs) ys a b = (a.0, both_named xs ys a.1 b)

many_are_named : (n : ℕ) (at : Place) (text : List ℕ) (tokens : List Token) (to : Place) (rest : List ℕ) → TakesMany n at text tokens to rest → AreNamed tokens
many_are_named zero at text tokens to rest takes = subst AreNamed (sym takes.0) tt
many_are_named (suc n) at text tokens to rest (given, more, next, left, parts, takes, others) =
    subst AreNamed (sym parts) (both_named given more (given_are_named at takes.piece given takes.gives) (many_are_named n next left more to rest others))

pub tokens_are_named : (text : List ℕ) (tokens : List Token) (end : Place) → Splits text tokens end → AreNamed tokens
tokens_are_named text tokens end (n, takes) = many_are_named n start text tokens end [] takes
