-- Rows of numbers and cells, read as a function.
use Rattle.std.proofs.Common.{arith, ◌≡◌, ◌≢◌, ℕ, zero, suc, List, [], ◌∷◌, ◌++◌, length, get_or, set, ◌<◌, ◌≤◌, ◌-◌, ◌==◌, nat_lt, refl, sym, ap, ◌∙◌, subst, Some, None, Result, Ok, Err, if◌then◌else◌, true, false, Bool}
use Rattle.std.specs.List.{zip, slice_get}
use Rattle.std.proofs.lemmas.Option.{get_or_from_slice_get}
use Rattle.std.specs.Bool.{OnTrue}
use Rattle.std.proofs.lemmas.List.{length-append, length-set, get_or_append_left, get_or-append_right, get_or_default}
use Rattle.std.specs.Ordering.{nat_cmp}
use Rattle.std.specs.List.Sorted.{IsBinarySearchResult}
use Rattle.std.proofs.lemmas.List.Sorted.{searched}
use Rattle.df_build_cond.specs.Noted.{Entry, AreRows, AreBelow, noted, entry_in}

-- ---- the test of a number

test_same : (n k : ℕ) → n ≡ k → (n == k) ≡ true
test_same n k same = grind (arith, same)

test_other : (n k : ℕ) → n ≢ k → (n == k) ≡ false
test_other n k other = grind (arith, other)

-- ---- rows behind the first

behind : (n c : ℕ) (numbers cells : List ℕ) → AreRows (n ∷ numbers) (c ∷ cells) → AreRows numbers cells
behind n c numbers cells rows = record {
  each = omega (arith, rows.each);
  rise = λ i j lt within. rows.rise (suc i) (suc j) (omega arith) (omega arith);
}

-- ---- what is found

pub found_not : (numbers cells : List ℕ) (k : ℕ) → ((i : ℕ) → i < length numbers → get_or numbers i 0 ≢ k) → entry_in (zip numbers cells) k ≡ None
found_not [] cells k away = refl
found_not (n ∷ numbers) [] k away = refl
found_not (n ∷ numbers) (c ∷ cells) k away =
    ap (λ b. if b then Some c else entry_in (zip numbers cells) k) (test_other n k (away 0 (omega arith)))
    ∙ found_not numbers cells k (λ i lt. away (suc i) (omega arith))

pub found_at : (numbers cells : List ℕ) (i k : ℕ) → AreRows numbers cells → i < length numbers → get_or numbers i 0 ≡ k → entry_in (zip numbers cells) k ≡ Some (get_or cells i 0)
found_at [] cells i k rows lt is = absurd (omega (arith, lt))
found_at (n ∷ numbers) [] i k rows lt is = absurd (omega (arith, rows.each))
found_at (n ∷ numbers) (c ∷ cells) zero k rows lt is = ap (λ b. if b then Some c else entry_in (zip numbers cells) k) (test_same n k is)
found_at (n ∷ numbers) (c ∷ cells) (suc i) k rows lt is =
    ap (λ b. if b then Some c else entry_in (zip numbers cells) k) (test_other n k (λ same. omega (arith, rows.rise 0 (suc i) (omega arith) lt, same, is)))
    ∙ found_at numbers cells i k (behind n c numbers cells rows) (omega (arith, lt)) is

-- one more behind all
pub found_behind : (numbers cells : List ℕ) (n c k : ℕ) → length cells ≡ length numbers → ((i : ℕ) → i < length numbers → get_or numbers i 0 < n)
    → entry_in (zip (numbers ++ n ∷ []) (cells ++ c ∷ [])) k ≡ (if n == k then Some c else entry_in (zip numbers cells) k)
found_behind [] [] n c k same below = refl
found_behind [] (d ∷ cells) n c k same below = absurd (omega (arith, same))
found_behind (m ∷ numbers) [] n c k same below = absurd (omega (arith, same))
found_behind (m ∷ numbers) (d ∷ cells) n c k same below =
    ap (λ rest. if m == k then Some d else rest) (found_behind numbers cells n c k (omega (arith, same)) (λ i lt. below (suc i) (omega arith)))
    ∙ turned (m == k) (n == k) refl refl
  where
    turned : (a b : Bool) → (m == k) ≡ a → (n == k) ≡ b
        → (if a then Some d else (if b then Some c else entry_in (zip numbers cells) k)) ≡ (if b then Some c else (if a then Some d else entry_in (zip numbers cells) k))
    turned true true at too = absurd (grind (arith, below 0 (omega arith), at, too))
    turned true false at too = refl
    turned false b at too = refl

-- another cell at a place
pub found_set : (numbers cells : List ℕ) (i c k : ℕ) → AreRows numbers cells → i < length numbers
    → entry_in (zip numbers (set cells i c)) k ≡ (if get_or numbers i 0 == k then Some c else entry_in (zip numbers cells) k)
found_set [] cells i c k rows lt = absurd (omega (arith, lt))
found_set (n ∷ numbers) [] i c k rows lt = absurd (omega (arith, rows.each))
found_set (n ∷ numbers) (d ∷ cells) zero c k rows lt = by (n == k)
  where
    by : (b : Bool) → (if b then Some c else entry_in (zip numbers cells) k) ≡ (if b then Some c else (if b then Some d else entry_in (zip numbers cells) k))
    by true = refl
    by false = refl
found_set (n ∷ numbers) (d ∷ cells) (suc i) c k rows lt =
    ap (λ rest. if n == k then Some d else rest) (found_set numbers cells i c k (behind n d numbers cells rows) (omega (arith, lt)))
    ∙ turned (n == k) (get_or numbers i 0 == k) refl refl
  where
    turned : (a b : Bool) → (n == k) ≡ a → (get_or numbers i 0 == k) ≡ b
        → (if a then Some d else (if b then Some c else entry_in (zip numbers cells) k)) ≡ (if b then Some c else (if a then Some d else entry_in (zip numbers cells) k))
    turned true true at too = absurd (grind (arith, rows.rise 0 (suc i) (omega arith) lt, at, too))
    turned true false at too = refl
    turned false b at too = refl

-- ---- rows that stay rows

pub rows_begin : AreRows [] []
rows_begin = record { each = refl; rise = λ i j lt within. absurd (omega (arith, within)) }

pub rows_behind : (numbers cells : List ℕ) (n c : ℕ) → AreRows numbers cells → ((i : ℕ) → i < length numbers → get_or numbers i 0 < n)
    → AreRows (numbers ++ n ∷ []) (cells ++ c ∷ [])
rows_behind numbers cells n c rows below = record {
  each = omega (arith, rows.each, length-append cells (c ∷ []), length-append numbers (n ∷ []));
  rise = rise;
}
  where
    at_end : get_or (numbers ++ n ∷ []) (length numbers) 0 ≡ n
    at_end = let first : length numbers - length numbers ≡ 0 = omega arith in
        get_or-append_right numbers (n ∷ []) (length numbers) (length numbers) 0 refl (omega arith) ∙ ap (λ i. get_or (n ∷ []) i 0) first

    rise : (i j : ℕ) → i < j → j < length (numbers ++ n ∷ []) → get_or (numbers ++ n ∷ []) i 0 < get_or (numbers ++ n ∷ []) j 0
    rise i j lt within =
        let first : get_or (numbers ++ n ∷ []) i 0 ≡ get_or numbers i 0 = get_or_append_left numbers (n ∷ []) 0 i (omega (arith, lt, within, length-append numbers (n ∷ []))) in
        grind (
          arith,
          first,
          at_end,
          lt,
          within,
          length-append numbers (n ∷ []),
          rows.rise i j,
          below i,
          λ (h : j < length numbers). get_or_append_left numbers (n ∷ []) 0 j h,
          λ (h : j ≡ length numbers). ap (λ k. get_or (numbers ++ n ∷ []) k 0) h,
        )

pub rows_set : (numbers cells : List ℕ) (i c : ℕ) → AreRows numbers cells → AreRows numbers (set cells i c)
rows_set numbers cells i c rows = record { each = length-set cells i c ∙ rows.each; rise = rows.rise }

-- ---- numbers above all

pub above_all : (numbers cells : List ℕ) (n : ℕ) → ((i : ℕ) → i < length numbers → get_or numbers i 0 < n) → AreBelow n (entry_in (zip numbers cells))
above_all numbers cells n below other le = found_not numbers cells other (λ i lt same. omega (arith, below i lt, le, same))

none≢some : {A : Type 0} (a : A) → None ≡ Some a → ⊥
none≢some a is = cc

pub each_below : (numbers cells : List ℕ) (n : ℕ) → AreRows numbers cells → AreBelow n (entry_in (zip numbers cells))
    → (i : ℕ) → i < length numbers → get_or numbers i 0 < n
each_below numbers cells n rows below i lt = grind (
  arith,
  λ (le : n ≤ get_or numbers i 0).
      none≢some (get_or cells i 0) (sym (below (get_or numbers i 0) le) ∙ found_at numbers cells i (get_or numbers i 0) rows lt refl),
)

-- the last of rising numbers is the greatest
pub last_greatest : (numbers cells : List ℕ) (n : ℕ) → AreRows numbers cells → get_or numbers (length numbers - 1) 0 < n
    → (i : ℕ) → i < length numbers → get_or numbers i 0 < n
last_greatest numbers cells n rows last i lt =
    grind (arith, last, lt, λ (before : i < length numbers - 1). rows.rise i (length numbers - 1) before (omega (arith, lt)), λ (same : i ≡ length numbers - 1). ap (λ k. get_or numbers k 0) same)

-- ---- what a search tells

rise_weakly : (numbers cells : List ℕ) → AreRows numbers cells → (i j : ℕ) → i ≤ j → j < length numbers → get_or numbers i 0 ≤ get_or numbers j 0
rise_weakly numbers cells rows i j le lt =
    grind (arith, λ (before : i < j). rows.rise i j before lt, λ (same : i ≡ j). ap (λ k. get_or numbers k 0) same)

abbrev Searched : List ℕ → ℕ → Result ℕ ℕ → Type 0
Searched numbers k r = IsBinarySearchResult (λ y. nat_cmp y k) numbers r

pub search_at : (numbers cells : List ℕ) (k i : ℕ) → AreRows numbers cells → Searched numbers k (Ok i) → (i < length numbers) × (get_or numbers i 0 ≡ k)
search_at numbers cells k i rows h = searched numbers k (Ok i) h (rise_weakly numbers cells rows)

pub search_finds : (numbers cells : List ℕ) (k i : ℕ) → AreRows numbers cells → Searched numbers k (Ok i) → entry_in (zip numbers cells) k ≡ Some (get_or cells i 0)
search_finds numbers cells k i rows h = let at = search_at numbers cells k i rows h in found_at numbers cells i k rows at.0 at.1

pub search_misses : (numbers cells : List ℕ) (k i : ℕ) → AreRows numbers cells → Searched numbers k (Err i) → entry_in (zip numbers cells) k ≡ None
search_misses numbers cells k i rows h =
    let parted = searched numbers k (Err i) h (rise_weakly numbers cells rows) in
    found_not numbers cells k (λ j lt same. grind (arith, parted.1 j, parted.2 j, lt, same))

-- ---- changes as functions

pub pushed : (numbers cells : List ℕ) (n c : ℕ) → AreRows numbers cells → AreBelow n (entry_in (zip numbers cells))
    → entry_in (zip (numbers ++ n ∷ []) (cells ++ c ∷ [])) ≡ noted (entry_in (zip numbers cells)) n c
unfolding noted
pushed numbers cells n c rows below = λ i. λ k. (found_behind numbers cells n c k rows.each (each_below numbers cells n rows below)) i

pub replaced : (numbers cells : List ℕ) (k i c : ℕ) → AreRows numbers cells → Searched numbers k (Ok i)
    → entry_in (zip numbers (set cells i c)) ≡ noted (entry_in (zip numbers cells)) k c
unfolding noted
replaced numbers cells k i c rows h =
    let at = search_at numbers cells k i rows h in
    λ j. λ other. (found_set numbers cells i c other rows at.0 ∙ ap (λ n. if n == other then Some c else entry_in (zip numbers cells) other) at.1) j

-- ---- the same, of entries that are seen

pub seen_finds : (seen : List Entry) (numbers cells slice : List ℕ) (k i : ℕ) (d : ℕ) → AreRows numbers cells → seen ≡ zip numbers cells → slice ≡ numbers → Searched slice k (Ok i)
    → d ≡ get_or cells i d → Some d ≡ entry_in seen k
seen_finds seen numbers cells slice k i d rows is same h at =
    let there = subst (λ (l : List ℕ). Searched l k (Ok i)) same h in
    let place = search_at numbers cells k i rows there in
    ap Some (at ∙ get_or_default cells i d 0 (omega (arith, rows.each, place.0))) ∙ (sym (search_finds numbers cells k i rows there) ∙ ap (λ es. entry_in es k) (sym is))

pub seen_misses : (seen : List Entry) (numbers cells slice : List ℕ) (k i : ℕ) → AreRows numbers cells → seen ≡ zip numbers cells → slice ≡ numbers → Searched slice k (Err i) → entry_in seen k ≡ None
seen_misses seen numbers cells slice k i rows is same h =
    ap (λ es. entry_in es k) is ∙ search_misses numbers cells k i rows (subst (λ (l : List ℕ). Searched l k (Err i)) same h)

is_less : (m n : ℕ) → nat_lt m n ≡ true → m < n
is_less m n h = grind (arith, h)

pub seen_above : (seen : List Entry) (numbers cells slice : List ℕ) (n last : ℕ) → AreRows numbers cells → seen ≡ zip numbers cells → slice ≡ numbers
    → slice_get slice (length slice - 1) ≡ Some last → OnTrue (nat_lt last n) (AreBelow n (entry_in seen))
seen_above seen numbers cells slice n last rows is same there = on (nat_lt last n) refl
  where
    at : slice_get numbers (length numbers - 1) ≡ Some last
    at = subst (λ (l : List ℕ). slice_get l (length l - 1) ≡ Some last) same there

    on : (b : Bool) → nat_lt last n ≡ b → OnTrue b (AreBelow n (entry_in seen))
    on false other = tt
    on true less =
        let greatest : get_or numbers (length numbers - 1) 0 < n = omega (arith, get_or_from_slice_get numbers (length numbers - 1) last 0 at, is_less last n less) in
        subst (λ es. AreBelow n (entry_in es)) (sym is) (above_all numbers cells n (last_greatest numbers cells n rows greatest))

pub seen_pushed : (seen : List Entry) (numbers cells : List ℕ) (n c : ℕ) → AreRows numbers cells → seen ≡ zip numbers cells → AreBelow n (entry_in seen)
    → (AreRows (numbers ++ n ∷ []) (cells ++ c ∷ [])) × (entry_in (zip (numbers ++ n ∷ []) (cells ++ c ∷ [])) ≡ noted (entry_in seen) n c)
seen_pushed seen numbers cells n c rows is below =
    let under = subst (λ es. AreBelow n (entry_in es)) is below in
    (rows_behind numbers cells n c rows (each_below numbers cells n rows under), pushed numbers cells n c rows under ∙ ap (λ es. noted (entry_in es) n c) (sym is))

pub seen_replaced : (seen : List Entry) (numbers cells slice : List ℕ) (k i c : ℕ) → AreRows numbers cells → seen ≡ zip numbers cells → slice ≡ numbers → Searched slice k (Ok i)
    → entry_in (zip numbers (set cells i c)) ≡ noted (entry_in seen) k c
seen_replaced seen numbers cells slice k i c rows is same h =
    replaced numbers cells k i c rows (subst (λ (l : List ℕ). Searched l k (Ok i)) same h) ∙ ap (λ es. noted (entry_in es) k c) (sym is)
