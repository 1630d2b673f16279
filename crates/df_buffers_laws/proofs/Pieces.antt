-- Lists made over ranges, of which only the first numbers count.
use Rattle.std.proofs.Common.{◌≡◌, ℕ, zero, suc, ◌+◌, ◌<◌, ◌≤◌, Bool, true, false, cond, List, [], ◌∷◌, ◌++◌, map, length, get_or, All, refl, sym, ap, ◌∙◌, arith}
use Rattle.std.specs.List.{filter, flat_map, range_with_len}
use Rattle.std.proofs.lemmas.List.{map-append}
use Rattle.std.proofs.lemmas.List.Elements.{All-nil, All-append}
use Rattle.std.proofs.lemmas.Grind.{flat_map-append}
use Rattle.df_cells.specs.Shifts.{first_from}

-- numbers behind the first n add nothing, and these add what they did
pub filter_first : (p q : ℕ → Bool) (a n t : ℕ) → n ≤ t → ((i : ℕ) → a ≤ i → i < a + n → p i ≡ q i)
    → ((i : ℕ) → a + n ≤ i → i < a + t → p i ≡ false)
    → filter p (range_with_len a t) ≡ filter q (range_with_len a n)
filter_first p q a zero zero h same none = refl
filter_first p q a (suc n) zero h same none = absurd (omega arith)
filter_first p q a zero (suc t) h same none =
    ap (λ b. cond b (a ∷ filter p (range_with_len (a + 1) t)) (filter p (range_with_len (a + 1) t)))
    (none a (omega arith) (omega arith))
    ∙ filter_first p q (a + 1) zero t (omega arith) (λ i k l. absurd (omega arith))
    (λ i l m. none i (omega arith) (omega arith))
filter_first p q a (suc n) (suc t) h same none =
    ap (λ b. cond b (a ∷ filter p (range_with_len (a + 1) t)) (filter p (range_with_len (a + 1) t)))
    (same a (omega arith) (omega arith))
    ∙ ap (λ l. cond (q a) (a ∷ l) l)
    (filter_first p q (a + 1) n t (omega arith) (λ i k l. same i (omega arith) (omega arith))
    (λ i l m. none i (omega arith) (omega arith)))

pub pieces_first : {A : Type 0} (f g : ℕ → List A) (a n t : ℕ) → n ≤ t → ((i : ℕ) → a ≤ i → i < a + n → f i ≡ g i)
    → ((i : ℕ) → a + n ≤ i → i < a + t → f i ≡ [])
    → flat_map f (range_with_len a t) ≡ flat_map g (range_with_len a n)
pieces_first f g a zero zero h same none = refl
pieces_first f g a (suc n) zero h same none = absurd (omega arith)
pieces_first f g a zero (suc t) h same none =
    ap (λ l. l ++ flat_map f (range_with_len (a + 1) t)) (none a (omega arith) (omega arith))
    ∙ pieces_first f g (a + 1) zero t (omega arith) (λ i k l. absurd (omega arith))
    (λ i l m. none i (omega arith) (omega arith))
pieces_first f g a (suc n) (suc t) h same none =
    ap (λ l. l ++ flat_map f (range_with_len (a + 1) t)) (same a (omega arith) (omega arith))
    ∙ ap (λ l. g a ++ l)
    (pieces_first f g (a + 1) n t (omega arith) (λ i k l. same i (omega arith) (omega arith))
    (λ i l m. none i (omega arith) (omega arith)))

pub map-pieces : {X A B : Type 0} (h : A → B) (f : X → List A) (xs : List X)
    → flat_map (λ x. map h (f x)) xs ≡ map h (flat_map f xs)
map-pieces h f [] = refl
map-pieces h f (x ∷ xs) = ap (λ l. map h (f x) ++ l) (map-pieces h f xs) ∙ sym (map-append h (f x) (flat_map f xs))

pub pieces_of_pieces : {X A B : Type 0} (g : A → List B) (f : X → List A) (xs : List X)
    → flat_map g (flat_map f xs) ≡ flat_map (λ x. flat_map g (f x)) xs
pieces_of_pieces g f [] = refl
pieces_of_pieces g f (x ∷ xs) =
    flat_map-append g (f x) (flat_map f xs) ∙ ap (λ l. flat_map g (f x) ++ l) (pieces_of_pieces g f xs)

-- what holds of each piece holds of all pieces over a range
pub all_pieces : {A : Type 0} (P : A → Type 0) (f : ℕ → List A) (a n : ℕ) → ((i : ℕ) → a ≤ i → i < a + n → All P (f i))
    → All P (flat_map f (range_with_len a n))
all_pieces P f a zero each = All-nil P
all_pieces P f a (suc n) each =
    All-append P (f a) (flat_map f (range_with_len (a + 1) n)) (each a (omega arith) (omega arith))
    (all_pieces P f (a + 1) n (λ i k l. each i (omega arith) (omega arith)))

-- the first place at which a test passes is the same where the front of the list is
pub first_same : {A : Type 0} (p : A → Bool) (n : ℕ) (xs ys : List A) (d : A) → length xs ≤ length ys
    → ((i : ℕ) → i < length xs → p (get_or ys i d) ≡ p (get_or xs i d))
    → (i : ℕ) → i < length xs → p (get_or xs i d) ≡ true → first_from p n ys ≡ first_from p n xs
first_same p n [] ys d h same i l passes = absurd (omega arith)
first_same p n (x ∷ xs) [] d h same i l passes = absurd (omega arith)
first_same p n (x ∷ xs) (y ∷ ys) d h same zero l passes =
    ap (λ b. cond b n (first_from p (n + 1) ys)) (same 0 (omega arith) ∙ passes)
    ∙ sym (ap (λ b. cond b n (first_from p (n + 1) xs)) passes)
first_same p n (x ∷ xs) (y ∷ ys) d h same (suc i) l passes =
    ap (λ b. cond b n (first_from p (n + 1) ys)) (same 0 (omega arith))
    ∙ ap (λ k. cond (p x) n k)
    (first_same p (n + 1) xs ys d (omega arith) (λ j m. same (suc j) (omega arith)) i (omega arith) passes)
