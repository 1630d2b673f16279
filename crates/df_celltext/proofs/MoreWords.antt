-- One more word in a row of words.
use Rattle.std.proofs.Common.{◌≡◌, ◌<◌, ◌+◌, ◌++◌, ◌∷◌, ℕ, zero, suc, List, [], length, take, get_or, map, codes, sym, ap, ◌∙◌, append_assoc, refl, arith}
use Rattle.std.proofs.lemmas.List.{map-append}
use Rattle.std.proofs.lemmas.Grind.{flat_map-append}
use Rattle.df_celltext.specs.CellText.{spaced}

take_next : {A : Type 0} (xs : List A) (i : ℕ) (d : A) → i < length xs → take (suc i) xs ≡ take i xs ++ get_or xs i d ∷ []
take_next [] i d within = absurd (omega arith)
take_next (x ∷ xs) zero d within = refl
take_next (x ∷ xs) (suc i) d within = ap (λ l. x ∷ l) (take_next xs i d (omega arith))

take_more : {A : Type 0} (xs : List A) (i : ℕ) (d : A) → i < length xs → take (i + 1) xs ≡ take i xs ++ get_or xs i d ∷ []
take_more xs i d within = let next : i + 1 ≡ suc i = omega arith in ap (λ n. take n xs) next ∙ take_next xs i d within

words_more : {A : Type 0} (word : A → List ℕ) (xs : List A) (i : ℕ) (d : A) → i < length xs
    → spaced (map word (take (i + 1) xs)) ≡ spaced (map word (take i xs)) ++ spaced (word (get_or xs i d) ∷ [])
words_more word xs i d within =
    ap (λ l. spaced (map word l)) (take_more xs i d within) ∙ ap spaced (map-append word (take i xs) (get_or xs i d ∷ []))
    ∙ flat_map-append (λ w. codes " " ++ w) (map word (take i xs)) (word (get_or xs i d) ∷ [])

-- a word written behind those before it
pub one_more_word : {A : Type 0} (word : A → List ℕ) (head old new : List ℕ) (xs : List A) (i : ℕ) (d : A) → i < length xs
    → old ≡ head ++ spaced (map word (take i xs)) → new ≡ old ++ spaced (word (get_or xs i d) ∷ []) → new ≡ head ++ spaced (map word (take (i + 1) xs))
one_more_word word head old new xs i d within before step =
    step ∙ (ap (λ t. t ++ spaced (word (get_or xs i d) ∷ [])) before
    ∙ (append_assoc head (spaced (map word (take i xs))) (spaced (word (get_or xs i d) ∷ [])) ∙ ap (λ t. head ++ t) (sym (words_more word xs i d within))))
