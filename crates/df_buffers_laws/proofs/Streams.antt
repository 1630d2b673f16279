-- Streams that go on unchanged, so many turns earlier.
use Rattle.std.proofs.Common.{◌≡◌, ℕ, ◌+◌, ◌-◌, ◌≤◌, nat_lt, eqb, ◌||◌, ◌&&◌, List, [], ◌∷◌, ◌++◌, map, length, Option}
use Rattle.std.proofs.Common.{Some, None, refl, sym, ap, ◌∙◌, inl, inr, arith}
use Rattle.std.specs.Prelude.{IsTrue}
use Rattle.std.specs.List.{AllByRecursion}
use Rattle.std.proofs.lemmas.Bool.{cases_lt, cases_eq, lt-ltb, le-ltb, eq-eqb, ne_eqb}
use Rattle.df_labels.specs.Labels.{Turn, later, is_earlier, AreRising, block_turn}
use Rattle.df_labels.specs.Members.{Member, Firing, Stream, at_turn, answered, received, members, block_turns}
use Rattle.df_buffers_laws.specs.Carried.{earlier, pass}

-- ---- later turns

-- the turn is not among the first g
abbrev pub IsLate : ℕ → Turn → Type 0
IsLate g t = g ≤ block_turn t

later_earlier : (g : ℕ) (t : Turn) → IsLate g t → later g (earlier g t) ≡ t
later_earlier g [] h = refl
later_earlier g (i ∷ t) h = let e : i - g + g ≡ i = omega arith in ap (λ k. k ∷ t) e

earlier_number : (g : ℕ) (t : Turn) → IsLate g t → block_turn (earlier g t) + g ≡ block_turn t
earlier_number g [] h = omega arith
earlier_number g (i ∷ t) h = omega arith

-- ---- numbers of turns

abbrev pub added : ℕ → List ℕ → List ℕ
added g ts = map (λ t. t + g) ts

pub zeros : (ts : List ℕ) → added 0 ts ≡ ts
zeros [] = refl
zeros (t ∷ ts) = let e : t + 0 ≡ t = omega arith in ap (λ s. s ∷ added 0 ts) e ∙ ap (λ l. t ∷ l) (zeros ts)

pub sums : (a b : ℕ) (ts : List ℕ) → added b (added a ts) ≡ added (a + b) ts
sums a b [] = refl
sums a b (t ∷ ts) =
    let e : t + a + b ≡ t + (a + b) = omega arith in
    ap (λ s. s ∷ added b (added a ts)) e ∙ ap (λ l. (t + (a + b)) ∷ l) (sums a b ts)

pub same_added : (g : ℕ) (ss ts : List ℕ) → added g ss ≡ added g ts → ss ≡ ts
same_added g [] [] e = refl
same_added g [] (t ∷ ts) e = absurd (cc)
same_added g (s ∷ ss) [] e = absurd (cc)
same_added g (s ∷ ss) (t ∷ ts) e =
    let head : s + g ≡ t + g = cc in
    let tail : added g ss ≡ added g ts = cc in
    let one : s ≡ t = omega (arith, head) in
    ap (λ k. k ∷ ss) one ∙ ap (λ l. t ∷ l) (same_added g ss ts tail)

-- ---- turns that rise

lt_later : (g i j : ℕ) → nat_lt (i + g) (j + g) ≡ nat_lt i j
lt_later g i j = elim (cases_lt i j) [
  | inl less ↦ lt-ltb (i + g) (j + g) (omega arith) ∙ sym (lt-ltb i j less)
  | inr more ↦ le-ltb (i + g) (j + g) (omega arith) ∙ sym (le-ltb i j more)
]

eq_later : (g i j : ℕ) → eqb (i + g) (j + g) ≡ eqb i j
eq_later g i j = elim (cases_eq i j) [
  | inl same ↦ eq-eqb (i + g) (j + g) (omega arith) ∙ sym (eq-eqb i j same)
  | inr other ↦ ne_eqb (i + g) (j + g) (λ e. other (omega arith)) ∙ sym (ne_eqb i j other)
]

earlier_later : (g : ℕ) (s t : Turn) → is_earlier (later g s) (later g t) ≡ is_earlier s t
earlier_later g [] [] = refl
earlier_later g [] (j ∷ t) = refl
earlier_later g (i ∷ s) [] = refl
earlier_later g (i ∷ s) (j ∷ t) =
    ap (λ b. b || (eqb (i + g) (j + g) && is_earlier s t)) (lt_later g i j)
    ∙ ap (λ b. nat_lt i j || (b && is_earlier s t)) (eq_later g i j)

all_back : {A B : Type 0} (P : B → Type 0) (Q : A → Type 0) (f : A → B) → ((x : A) → P (f x) → Q x) → (xs : List A)
    → AllByRecursion P (map f xs) → AllByRecursion Q xs
all_back P Q f weaker [] all = tt
all_back P Q f weaker (x ∷ xs) all = (weaker x all.0, all_back P Q f weaker xs all.1)

pub rising_back : (g : ℕ) (ts : List Turn) → AreRising (map (later g) ts) → AreRising ts
rising_back g [] rising = tt
rising_back g (t ∷ ts) rising =
    let first = all_back (λ u. IsTrue (is_earlier (later g t) u)) (λ u. IsTrue (is_earlier t u)) (later g)
    (λ u h. sym (earlier_later g t u) ∙ h) ts rising.0 in
    (first, rising_back g ts rising.1)

same_length : (g : ℕ) (t : Turn) → length (later g t) ≡ length t
same_length g [] = refl
same_length g (i ∷ t) = refl

pub single_back : (g : ℕ) (ts : List Turn) → AllByRecursion (λ t. length t ≡ 1) (map (later g) ts)
    → AllByRecursion (λ t. length t ≡ 1) ts
single_back g ts all =
    all_back (λ t. length t ≡ 1) (λ t. length t ≡ 1) (later g) (λ t h. sym (same_length g t) ∙ h) ts all

-- ---- the turns of answers are among those of firings

abbrev pub turns_of : List Firing → List Turn
turns_of label = map (λ f. f.turn) label

abbrev pub stream_turns : Stream → List Turn
stream_turns stream = map (λ x. x.0) stream

all_rest : (P : Turn → Type 0) (t : Turn) (o : Option Member) (rest : Stream) → P t
    → AllByRecursion P (stream_turns rest) → AllByRecursion P (stream_turns (at_turn t o ++ rest))
all_rest P t None rest here all = all
all_rest P t (Some v) rest here all = (here, all)

pub all_answered : (P : Turn → Type 0) (label : List Firing) → AllByRecursion P (turns_of label)
    → AllByRecursion P (stream_turns (answered label))
all_answered P [] all = tt
all_answered P (f ∷ label) all = all_rest P f.turn f.answer (answered label) all.0 (all_answered P label all.1)

rising_rest : (t : Turn) (o : Option Member) (rest : Stream)
    → AllByRecursion (λ u. IsTrue (is_earlier t u)) (stream_turns rest) → AreRising (stream_turns rest)
    → AreRising (stream_turns (at_turn t o ++ rest))
rising_rest t None rest here all = all
rising_rest t (Some v) rest here all = (here, all)

pub rising_answered : (label : List Firing) → AreRising (turns_of label) → AreRising (stream_turns (answered label))
rising_answered [] rising = tt
rising_answered (f ∷ label) rising =
    rising_rest f.turn f.answer (answered label) (all_answered (λ u. IsTrue (is_earlier f.turn u)) label rising.0)
    (rising_answered label rising.1)

-- ---- firings that pass a stream on

pub passed_members : (g : ℕ) (s : Stream) → members (answered (map (pass g) s)) ≡ members s
passed_members g [] = refl
passed_members g (x ∷ s) = ap (λ l. x.1 ∷ l) (passed_members g s)

pub passed_taken : (g : ℕ) (s : Stream) → received 0 (map (pass g) s) ≡ answered (map (pass g) s)
passed_taken g [] = refl
passed_taken g (x ∷ s) = ap (λ l. (earlier g x.0, x.1) ∷ l) (passed_taken g s)

pub passed_turns : (g : ℕ) (s : Stream) → turns_of (map (pass g) s) ≡ stream_turns (answered (map (pass g) s))
passed_turns g [] = refl
passed_turns g (x ∷ s) = ap (λ l. earlier g x.0 ∷ l) (passed_turns g s)

pub turns_later : (g : ℕ) (s : Stream) → AllByRecursion (λ x. IsLate g x.0) s
    → map (later g) (stream_turns (answered (map (pass g) s))) ≡ stream_turns s
turns_later g [] all = refl
turns_later g (x ∷ s) all =
    ap (λ t. t ∷ map (later g) (stream_turns (answered (map (pass g) s)))) (later_earlier g x.0 all.0)
    ∙ ap (λ l. x.0 ∷ l) (turns_later g s all.1)

pub numbers_later : (g : ℕ) (s : Stream) → AllByRecursion (λ x. IsLate g x.0) s
    → added g (block_turns (answered (map (pass g) s))) ≡ block_turns s
numbers_later g [] all = refl
numbers_later g (x ∷ s) all =
    ap (λ t. t ∷ added g (block_turns (answered (map (pass g) s)))) (earlier_number g x.0 all.0)
    ∙ ap (λ l. block_turn x.0 ∷ l) (numbers_later g s all.1)
