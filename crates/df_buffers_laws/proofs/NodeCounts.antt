-- The nodes of cells are counted from cell to cell, and each is named by its least cell.
use Rattle.std.proofs.Common.{◌≡◌, ℕ, zero, suc, ◌+◌, ◌-◌, ◌<◌, ◌≤◌, ◌==◌, not, Bool, true, false, cond, List, [], ◌∷◌, ◌++◌, get_or, length, filter, refl, sym, ◌∙◌, ap, arith, eq-eqb, length-append}
use Rattle.std.specs.List.{range_with_len}
use Rattle.std.proofs.lemmas.Bool.{and_parts, eqb-true}
use Rattle.std.proofs.lemmas.List.FromFn.{length-range_with_len}
use Rattle.std.proofs.lemmas.List.Elements.{filter-append}
use Rattle.std.proofs.lemmas.List.Sums.{length-filter, count_by-le-length}
use Rattle.df_cells.specs.declared.cells.Cell.{Cell}
use Rattle.df_cells.specs.Cells.{no_cell, is_buf}
use Rattle.df_cells.specs.Paths.{mark_of}
use Rattle.df_cells.specs.Shifts.{first_from}
use Rattle.df_stages.specs.Nodes.{node_of, is_node}
use Rattle.df_stages.specs.Skeletons.{nodes, count_below, node_place}
use Rattle.df_buffers_laws.specs.Nodes.{HasCountedNodes}
use Rattle.df_buffers_laws.proofs.Order.{range_join}

-- ---- the numbers that pass a test, in order

-- the number at a place passes, and before it stand as many as the place says
record IsPlaced (p : ℕ → Bool) (a n i x : ℕ) : Type 0 where
  low : a ≤ x
  high : x < a + n
  passes : p x ≡ true
  before : length (filter p (range_with_len a (x - a))) ≡ i

placed : (p : ℕ → Bool) (a n i : ℕ) → i < length (filter p (range_with_len a n))
    → IsPlaced p a n i (get_or (filter p (range_with_len a n)) i 0)
placed p a zero i h = absurd (omega arith)
placed p a (suc n) i h = by (p a) refl i h (λ j l. placed p (a + 1) n j l)
  where
    rest : List ℕ
    rest = filter p (range_with_len (a + 1) n)

    step : (b : Bool) (x : ℕ) → p a ≡ b → a + 1 ≤ x
        → length (filter p (range_with_len a (x - a))) ≡ cond b 1 0 + length
        (filter p (range_with_len (a + 1) (x - (a + 1))))
    step b x is low =
        let e : x - a ≡ suc (x - (a + 1)) = omega arith in
        ap (λ k. length (filter p (range_with_len a k))) e
        ∙ ap (λ t. length (cond t (a ∷ filter p (range_with_len (a + 1) (x - (a + 1))))
        (filter p (range_with_len (a + 1) (x - (a + 1)))))) is
        ∙ by_bool b (filter p (range_with_len (a + 1) (x - (a + 1))))
      where
        by_bool : (b : Bool) (l : List ℕ) → length (cond b (a ∷ l) l) ≡ cond b 1 0 + length l
        by_bool true l = omega arith
        by_bool false l = omega arith

    by : (b : Bool) → p a ≡ b → (i : ℕ)
        → i < length (cond b (a ∷ filter p (range_with_len (a + 1) n)) (filter p (range_with_len (a + 1) n)))
        → ((j : ℕ) → j < length (filter p (range_with_len (a + 1) n))
        → IsPlaced p (a + 1) n j (get_or (filter p (range_with_len (a + 1) n)) j 0))
        → IsPlaced p a (suc n) i
        (get_or (cond b (a ∷ filter p (range_with_len (a + 1) n)) (filter p (range_with_len (a + 1) n))) i 0)
    by true is zero h more =
        let none : a - a ≡ 0 = omega arith in
        let before = ap (λ k. length (filter p (range_with_len a k))) none in
        record { low = omega arith; high = omega arith; passes = is; before = before }
    by true is (suc i) h more =
        let at = more i (omega arith) in
        let low = at.low in let high = at.high in let before = at.before in
        let one = step true (get_or (filter p (range_with_len (a + 1) n)) i 0) is low in
        record { low = omega arith; high = omega arith; passes = at.passes; before = one ∙ (omega arith) }
    by false is i h more =
        let at = more i h in
        let low = at.low in let high = at.high in let before = at.before in
        let one = step false (get_or (filter p (range_with_len (a + 1) n)) i 0) is low in
        record { low = omega arith; high = omega arith; passes = at.passes; before = one ∙ (omega arith) }

-- the node at a place has this place
place_of_node : (cells : List Cell) (i : ℕ) → i < length (nodes cells)
    → (node_place cells (get_or (nodes cells) i 0) ≡ i) × (get_or (nodes cells) i 0 < length cells)
place_of_node cells i h =
    let at = placed (is_node cells) 0 (length cells) i h in
    let x = get_or (nodes cells) i 0 in
    let parts = and_parts (not (is_buf cells x)) (node_of cells x == x) at.passes in
    let own : node_of cells x ≡ x = eqb-true (node_of cells x) x parts.1 in
    let high = at.high in
    let all : x - 0 ≡ x = omega arith in
    let before = ap (λ k. length (filter (is_node cells) (range_with_len 0 k))) (sym all) ∙ at.before in
    (ap (count_below cells) own ∙ before, omega arith)

-- ---- the node of a node

-- what first_from finds passes, where something does
first_passes : {A : Type 0} (p : A → Bool) (n : ℕ) (xs : List A) (d : A) (i : ℕ) → i < length xs
    → p (get_or xs i d) ≡ true
    → (n ≤ first_from p n xs) × (first_from p n xs ≤ n + i) × (p (get_or xs (first_from p n xs - n) d) ≡ true)
first_passes p n [] d i h passes = absurd (omega arith)
first_passes p n (x ∷ xs) d i h passes = by (p x) refl i h passes (λ j l q. first_passes p (n + 1) xs d j l q)
  where
    by : (b : Bool) → p x ≡ b → (i : ℕ) → i < length (x ∷ xs) → p (get_or (x ∷ xs) i d) ≡ true
        → ((j : ℕ) → j < length xs → p (get_or xs j d) ≡ true
        → (n + 1 ≤ first_from p (n + 1) xs) × (first_from p (n + 1) xs ≤ n + 1 + j)
        × (p (get_or xs (first_from p (n + 1) xs - (n + 1)) d) ≡ true))
        → (n ≤ cond b n (first_from p (n + 1) xs)) × (cond b n (first_from p (n + 1) xs) ≤ n + i)
        × (p (get_or (x ∷ xs) (cond b n (first_from p (n + 1) xs) - n) d) ≡ true)
    by true is i h passes more =
        let none : n - n ≡ 0 = omega arith in (omega arith, omega arith, ap (λ k. p (get_or (x ∷ xs) k d)) none ∙ is)
    by false is zero h passes more = absurd (cc)
    by false is (suc i) h passes more =
        let at = more i (omega arith) passes in
        let low = at.0 in
        let e : first_from p (n + 1) xs - n ≡ suc (first_from p (n + 1) xs - (n + 1)) = omega arith in
        (omega arith, omega (arith, at.1), ap (λ k. p (get_or (x ∷ xs) k d)) e ∙ at.2)

module _ (cells : List Cell) (c : ℕ) (h : c < length cells) where
  abbrev found : ℕ
  found = first_from (λ (cell : Cell). cell.mark == mark_of cells c) 0 cells

  facts : (0 ≤ found) × (found ≤ 0 + c) × ((mark_of cells (found - 0) == mark_of cells c) ≡ true)
  facts =
      first_passes (λ (cell : Cell). cell.mark == mark_of cells c) 0 cells no_cell c h
      (eq-eqb (mark_of cells c) (mark_of cells c) refl)

  same_mark : mark_of cells found ≡ mark_of cells c
  same_mark =
      let none : found ≡ found - 0 = omega arith in
      ap (mark_of cells) none ∙ eqb-true (mark_of cells (found - 0)) (mark_of cells c) facts.2

  node_facts : (node_of cells c ≤ c) × (node_of cells (node_of cells c) ≡ node_of cells c)
  node_facts = by (mark_of cells c == 0) refl
    where
      by : (b : Bool) → (mark_of cells c == 0) ≡ b
          → (node_of cells c ≤ c) × (node_of cells (node_of cells c) ≡ node_of cells c)
      by true e =
          let own : node_of cells c ≡ c = ap (λ b. cond b c found) e in
          (omega arith, ap (node_of cells) own)
      by false e =
          let is : node_of cells c ≡ found = ap (λ b. cond b c found) e in
          let low = facts.1 in
          let first = ap (λ m. cond (m == 0) found (first_from (λ (cell : Cell). cell.mark == m) 0 cells)) same_mark in
          (omega arith, ap (node_of cells) is ∙ first ∙ ap (λ b. cond b found found) e ∙ sym is)

-- ---- counts

abbrev bit : Bool → ℕ
bit b = cond b 1 0

-- one number more
filtered : (p : ℕ → Bool) (c k : ℕ)
    → length (filter p (range_with_len 0 (c + suc k))) ≡ length
    (filter p (range_with_len 0 c)) + (cond (p c) 1 0 + length (filter p (range_with_len (c + 1) k)))
filtered p c k =
    let start : 0 + c ≡ c = omega arith in
    ap (λ l. length (filter p l))
    (sym (range_join 0 c (suc k)) ∙ ap (λ m. range_with_len 0 c ++ range_with_len m (suc k)) start)
    ∙ ap (λ (l : List ℕ). length l) (filter-append p (range_with_len 0 c) (c ∷ range_with_len (c + 1) k))
    ∙ length-append (filter p (range_with_len 0 c)) (filter p (c ∷ range_with_len (c + 1) k))
    ∙ ap (λ m. length (filter p (range_with_len 0 c)) + m) (by (p c) (filter p (range_with_len (c + 1) k)))
  where
    by : (b : Bool) (l : List ℕ) → length (cond b (c ∷ l) l) ≡ cond b 1 0 + length l
    by true l = omega arith
    by false l = omega arith

next_below : (cells : List Cell) (c : ℕ) (b : Bool) → is_node cells c ≡ b
    → count_below cells (c + 1) ≡ count_below cells c + cond b 1 0
next_below cells c b is =
    let all = filtered (is_node cells) c 0 in
    let one : bit (is_node cells c) ≡ bit b = ap bit is in
    let next : c + 1 ≡ c + suc 0 = omega arith in
    ap (count_below cells) next ∙ all ∙ ap (λ n. count_below cells c + (n + 0)) one ∙ (omega arith)

node_room : (cells : List Cell) (c : ℕ) → c < length cells → is_node cells c ≡ true
    → count_below cells c < length (nodes cells)
node_room cells c h node =
    let k = length cells - suc c in
    let n : length cells ≡ c + suc k = omega arith in
    let behind = length (filter (is_node cells) (range_with_len (c + 1) k)) in
    let all : length (nodes cells) ≡ count_below cells c + (cond (is_node cells c) 1 0 + behind) =
    ap (λ m. length (filter (is_node cells) (range_with_len 0 m))) n ∙ filtered (is_node cells) c k in
    let one : bit (is_node cells c) ≡ 1 = ap bit node in
    omega arith

few_below : (cells : List Cell) (c : ℕ) → count_below cells c ≤ c
few_below cells c =
    let a = length-filter (is_node cells) (range_with_len 0 c) in
    let b = count_by-le-length (is_node cells) (range_with_len 0 c) in let n = length-range_with_len 0 c in omega arith

-- ---- all of it

pub counted_nodes : (cells : List Cell) → HasCountedNodes cells
counted_nodes cells = record {
  least = λ c h. (node_facts cells c h).0;
  named = λ c h. (node_facts cells c h).1;
  next = λ c. next_below cells c (is_node cells c) refl;
  few = λ c. few_below cells c;
  room = λ c h is. node_room cells c h is;
  placed = λ i h. (place_of_node cells i h).0;
  within = λ i h. (place_of_node cells i h).1;
}
