-- The words of a text come off its front one after another.
use Rattle.std.proofs.Common.{◌≡◌, ℕ, suc, ◌+◌, ◌<◌, ◌==◌, Bool, true, false, not, cond, List, [], ◌∷◌, length, take, drop, refl, sym, ap, ◌∙◌, arith}
use Rattle.std.specs.List.{filter, prefix_len, slice_split, onto_first}
use Rattle.std.proofs.lemmas.Bool.{ne_eqb}
use Rattle.std.proofs.lemmas.List.Folds.{length-prefix_len}

-- the parts of a text that aren't empty
abbrev pub has_bytes : List ℕ → Bool
has_bytes word = not (length word == 0)

abbrev pub parts : (ℕ → Bool) → List ℕ → List (List ℕ)
parts gap text = filter has_bytes (slice_split gap text)

one_more : (n : ℕ) → 1 + n ≡ suc n
one_more n = omega arith

-- ---- gaps at the front

skipped_by : (gap : ℕ → Bool) (b : ℕ) (text : List ℕ) (t : Bool) → gap b ≡ t → parts gap text ≡ parts gap (drop (prefix_len gap text) text)
    → filter has_bytes (cond t ([] ∷ slice_split gap text) (onto_first b (slice_split gap text))) ≡ parts gap (drop (cond t (1 + prefix_len gap text) 0) (b ∷ text))
skipped_by gap b text true e h = rw (one_more (prefix_len gap text)) h
skipped_by gap b text false e h = rw e refl

pub gaps_skipped : (gap : ℕ → Bool) (text : List ℕ) → parts gap text ≡ parts gap (drop (prefix_len gap text) text)
gaps_skipped gap [] = refl
gaps_skipped gap (b ∷ text) = skipped_by gap b text (gap b) refl (gaps_skipped gap text)

-- ---- the first word

abbrev other : (ℕ → Bool) → ℕ → Bool
other gap b = not (gap b)

-- the parts behind the first one
abbrev later : (ℕ → Bool) → List ℕ → List (List ℕ)
later gap [] = []
later gap (_ ∷ text) = slice_split gap text

split_by : (gap : ℕ → Bool) (b : ℕ) (text : List ℕ) (t : Bool) → slice_split gap text ≡ take (prefix_len (other gap) text) text ∷ later gap (drop (prefix_len (other gap) text) text)
    → cond t ([] ∷ slice_split gap text) (onto_first b (slice_split gap text)) ≡ take (cond (not t) (1 + prefix_len (other gap) text) 0) (b ∷ text) ∷ later gap (drop (cond (not t) (1 + prefix_len (other gap) text) 0) (b ∷ text))
split_by gap b text true h = refl
split_by gap b text false h = rw (one_more (prefix_len (other gap) text)) (ap (onto_first b) h)

split_first : (gap : ℕ → Bool) (text : List ℕ) → slice_split gap text ≡ take (prefix_len (other gap) text) text ∷ later gap (drop (prefix_len (other gap) text) text)
split_first gap [] = refl
split_first gap (b ∷ text) = split_by gap b text (gap b) (split_first gap text)

later_by : (gap : ℕ → Bool) (b : ℕ) (text : List ℕ) (t : Bool) → gap b ≡ t
    → filter has_bytes (later gap (drop (prefix_len (other gap) text) text)) ≡ parts gap (drop (prefix_len (other gap) text) text)
    → filter has_bytes (later gap (drop (cond (not t) (1 + prefix_len (other gap) text) 0) (b ∷ text))) ≡ parts gap (drop (cond (not t) (1 + prefix_len (other gap) text) 0) (b ∷ text))
later_by gap b text true e h = rw e refl
later_by gap b text false e h = rw (one_more (prefix_len (other gap) text)) h

later_parts : (gap : ℕ → Bool) (text : List ℕ) → filter has_bytes (later gap (drop (prefix_len (other gap) text) text)) ≡ parts gap (drop (prefix_len (other gap) text) text)
later_parts gap [] = refl
later_parts gap (b ∷ text) = later_by gap b text (gap b) refl (later_parts gap text)

pub kept : (word : List ℕ) (more : List (List ℕ)) → 0 < length word → filter has_bytes (word ∷ more) ≡ word ∷ filter has_bytes more
kept word more some =
    let e : (length word == 0) ≡ false = ne_eqb (length word) 0 (λ h. omega (arith, h)) in rw e refl

pub word_first : (gap : ℕ → Bool) (text found : List ℕ) (n : ℕ) → found ≡ drop (prefix_len gap text) text → n ≡ prefix_len (λ b. not (gap b)) found → 0 < n
    → parts gap text ≡ take n found ∷ parts gap (drop n found)
word_first gap text found n is e some =
    let m : ℕ = prefix_len (other gap) found in
    let long : length (take m found) ≡ m = length-prefix_len (other gap) found in
    gaps_skipped gap text ∙ ap (parts gap) (sym is) ∙ ap (filter has_bytes) (split_first gap found)
    ∙ kept (take m found) (later gap (drop m found)) (omega (arith, long, e))
    ∙ ap (λ more. take m found ∷ more) (later_parts gap found)
    ∙ ap (λ k. take k found ∷ parts gap (drop k found)) (sym e)

-- ---- no word

nothing_by : (gap : ℕ → Bool) (b : ℕ) (text : List ℕ) (t : Bool) → gap b ≡ t
    → (prefix_len (other gap) (drop (prefix_len gap text) text) ≡ 0 → drop (prefix_len gap text) text ≡ [])
    → prefix_len (other gap) (drop (cond t (1 + prefix_len gap text) 0) (b ∷ text)) ≡ 0 → drop (cond t (1 + prefix_len gap text) 0) (b ∷ text) ≡ []
nothing_by gap b text true e h = rw (one_more (prefix_len gap text)) h
nothing_by gap b text false e h = rw e (λ none. absurd (omega (arith, none)))

nothing_left : (gap : ℕ → Bool) (text : List ℕ) → prefix_len (other gap) (drop (prefix_len gap text) text) ≡ 0 → drop (prefix_len gap text) text ≡ []
nothing_left gap [] h = refl
nothing_left gap (b ∷ text) h = nothing_by gap b text (gap b) refl (nothing_left gap text) h

pub no_word : (gap : ℕ → Bool) (text found : List ℕ) → found ≡ drop (prefix_len gap text) text → 0 ≡ prefix_len (λ b. not (gap b)) found → parts gap text ≡ []
no_word gap text found is none =
    gaps_skipped gap text ∙ ap (parts gap) (nothing_left gap text (ap (prefix_len (other gap)) (sym is) ∙ sym none))
