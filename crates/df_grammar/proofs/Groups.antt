-- Groups of parameters, one behind the other.
use Rattle.std.proofs.Common.{◌≡◌, ℕ, ◌+◌, ◌<◌, List, [], ◌∷◌, ◌++◌, take, length, get_or, refl, sym, ◌∙◌, ap, append_assoc}
use Rattle.std.proofs.lemmas.List.{append-nil, take_more}
use Rattle.df_syntax.specs.declared.tree.Parameter.{Parameter}
use Rattle.df_syntax.specs.Grammar.{all_of}

all_of_append : (xs ys : List (List Parameter)) → all_of (xs ++ ys) ≡ all_of xs ++ all_of ys
all_of_append [] ys = refl
all_of_append (x ∷ xs) ys = ap (λ (z : List Parameter). x ++ z) (all_of_append xs ys) ∙ sym (append_assoc x (all_of xs) (all_of ys))

-- one group more
all_of_one_more : (xs : List (List Parameter)) (y : List Parameter) → all_of (xs ++ y ∷ []) ≡ all_of xs ++ y
all_of_one_more xs y = all_of_append xs (y ∷ []) ∙ ap (λ (z : List Parameter). all_of xs ++ z) (append-nil y)

-- the groups up to the next one
pub all_of_next : (xs : List (List Parameter)) (i : ℕ) (x : List Parameter) → i < length xs → x ≡ get_or xs i x → all_of (take (i + 1) xs) ≡ all_of (take i xs) ++ x
all_of_next xs i x h e = ap all_of (take_more xs i x h ∙ ap (λ (y : List Parameter). take i xs ++ y ∷ []) (sym e)) ∙ all_of_one_more (take i xs) x
