-- The first tokens of expressions.
use Rattle.std.proofs.Common.{◌≡◌, ℕ, Bool, true, false, ◌||◌, ◌==◌, List, [], ◌∷◌, ◌++◌, refl, ap, ◌∙◌}
use Rattle.df_forms.specs.OneToken.{has, first, empty, when}
use Rattle.df_forms.specs.Reading.{sees}
use Rattle.df_syntax.specs.declared.word.Reserved.TheVariants as r
use Rattle.df_syntax.specs.declared.symbol.Symbol.TheVariants as s
use Rattle.df_syntax.specs.declared.token.Token.{Token}
use Rattle.df_syntax.specs.TokenClasses.{class, word_code, symbol_code}
use Rattle.df_syntax.specs.Grammar as g
use Rattle.df_syntax.specs.Lines as l
use Rattle.df_syntax.specs.Lines.{start}
use Rattle.df_cursor.specs.Blocks.{blocks}

or_assoc : (a b c : Bool) → (a || (b || c)) ≡ ((a || b) || c)
or_assoc true b c = refl
or_assoc false b c = refl

has_both : (c : ℕ) (xs ys : List ℕ) → has c (xs ++ ys) ≡ (has c xs || has c ys)
has_both c [] ys = refl
has_both c (x ∷ xs) ys = rw (has_both c xs ys) (or_assoc (c == x) (has c xs) (has c ys))

-- either of two sets
pub sees_both : (xs ys : List ℕ) (ts : List Token) → sees class (xs ++ ys) ts ≡ (sees class xs ts || sees class ys ts)
sees_both xs ys [] = refl
sees_both xs ys (t ∷ ts) = has_both (class t) xs ys

pub first_others : first start l.others ≡ symbol_code s.LeftParen ∷ (first start g.two_place ++ (word_code r.Is ∷ symbol_code s.LeftBracket ∷ blocks))
unfolding blocks l.others g.parens g.two_place g.two_place_op g.test_of g.one_element g.block g.choice g.all_indices g.for_loop
first_others = refl

pub starts : start ≡ symbol_code s.Tilde ∷ symbol_code s.Minus ∷ ((first start g.literal ++ (first start g.typed_error ++ first start g.integer_error)) ++ (1 ∷ first start l.others))
unfolding start l.expr l.conjunction l.inversion l.relation l.sum l.term l.factor l.primary l.named l.others g.for_loop g.all_indices g.choice g.block g.one_element g.test_of g.two_place g.two_place_op g.parens g.integer_error g.typed_error g.literal
starts = refl

-- the first one, or the others
sees_cons : (c : ℕ) (cs : List ℕ) (ts : List Token) → sees class (c ∷ cs) ts ≡ (sees class (c ∷ []) ts || sees class cs ts)
sees_cons c cs ts = sees_both (c ∷ []) cs ts

pub others_seen : (ts : List Token)
    → sees class (first start l.others) ts
    ≡ (sees class (symbol_code s.LeftParen ∷ []) ts || (sees class (first start g.two_place) ts || (sees class (word_code r.Is ∷ []) ts || (sees class (symbol_code s.LeftBracket ∷ []) ts || sees class blocks ts))))
others_seen ts =
    rw (first_others, sees_cons (symbol_code s.LeftParen) (first start g.two_place ++ (word_code r.Is ∷ symbol_code s.LeftBracket ∷ blocks)) ts, sees_both (first start g.two_place) (word_code r.Is ∷ symbol_code s.LeftBracket ∷ blocks) ts, sees_cons (word_code r.Is) (symbol_code s.LeftBracket ∷ blocks) ts, sees_cons (symbol_code s.LeftBracket) blocks ts) refl

pub start_seen : (ts : List Token)
    → sees class start ts
    ≡ (sees class (symbol_code s.Tilde ∷ []) ts || (sees class (symbol_code s.Minus ∷ []) ts || (sees class (first start g.literal ++ (first start g.typed_error ++ first start g.integer_error)) ts || (sees class (1 ∷ []) ts || sees class (first start l.others) ts))))
start_seen ts =
    let values = first start g.literal ++ (first start g.typed_error ++ first start g.integer_error) in
    ap (λ (cs : List ℕ). sees class cs ts) starts
    ∙ rw (sees_cons (symbol_code s.Tilde) (symbol_code s.Minus ∷ (values ++ (1 ∷ first start l.others))) ts, sees_cons (symbol_code s.Minus) (values ++ (1 ∷ first start l.others)) ts, sees_both values (1 ∷ first start l.others) ts, sees_cons 1 (first start l.others) ts) refl
