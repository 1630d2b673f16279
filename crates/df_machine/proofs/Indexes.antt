-- The index of enabled cells: what its counts say, and what an event changes of it.
use Rattle.std.proofs.Common.{◌≡◌, ◌≢◌, ℕ, ◌<◌, ◌≤◌, Bool, true, false, not, ◌&&◌, eqb, List, [], map, take, get_or, set, length, Some, None, refl, sym, ◌∙◌, ap, inl, inr, arith}
use Rattle.std.specs.Prelude.{slice_get}
use Rattle.std.specs.List.{filter, range_with_len}
use Rattle.std.proofs.lemmas.List.{length-map, length-set, get_or-set_same, get_or-set_other, ext_get_or, take-map}
use Rattle.std.proofs.lemmas.List.Sums.{length-filter}
use Rattle.std.proofs.lemmas.List.FromFn.{length-range_with_len, get_or-map-range_with_len}
use Rattle.std.proofs.lemmas.Option.{slice_get_past}
use Rattle.std.proofs.lemmas.Bool.{cases_eq}
use Rattle.df_values.specs.declared.values.Value.{Value}
use Rattle.df_cells.specs.declared.cells.Cell.{Cell}
use Rattle.df_cells.specs.declared.cells.CellId.{CellId}
use Rattle.df_cells.specs.declared.cells.Dest.{Dest}
use Rattle.df_cells.specs.Firings.{Operands}
use Rattle.df_cells.specs.Kinds.{limit}
use Rattle.df_cells.specs.Cells.{cell_at, producer_of}
use Rattle.df_pick.specs.Sums.{up_count, up_before}
use Rattle.df_machine.specs.States.{State, row, is_busy, awaits, firings, told_count, told}
use Rattle.df_machine.specs.Events.{is_below, has_operands, is_enabled, enabled, fire, perform, arrive, acknowledge, lowered}
use Rattle.df_machine.specs.Indexes.{enabled_flags}
use Rattle.df_machine.proofs.Counts.{count_by_map}
use Rattle.df_machine.proofs.Scans.{passed, found}
use Rattle.df_machine.proofs.Told.{firings_told}

-- ---- what the counts say

pub flags_long : (cells : List Cell) (s : State) → length (enabled_flags cells s) ≡ length cells
unfolding enabled_flags
flags_long cells s = length-map (range_with_len 0 (length cells)) (is_enabled cells s) ∙ length-range_with_len 0 (length cells)

pub flag_is : (cells : List Cell) (s : State) (c : ℕ) → c < length cells → get_or (enabled_flags cells s) c false ≡ is_enabled cells s c
unfolding enabled_flags
flag_is cells s c h = get_or-map-range_with_len (is_enabled cells s) 0 (length cells) c c false h (omega arith)

up_among : (p : ℕ → Bool) (xs : List ℕ) → up_count (map p xs) ≡ length (filter p xs)
up_among p xs = count_by_map (λ flag. flag) p xs ∙ sym (length-filter p xs)

-- how many flags are up is how many cells are enabled
pub count_is : (cells : List Cell) (s : State) → up_count (enabled_flags cells s) ≡ length (enabled cells s)
unfolding enabled_flags enabled
count_is cells s = up_among (is_enabled cells s) (range_with_len 0 (length cells))

-- the flag that has k such flags before it is that of the enabled cell at place k
pub kth_is : (cells : List Cell) (s : State) (k i : ℕ) → i < length (enabled_flags cells s) → get_or (enabled_flags cells s) i false ≡ true → up_before (enabled_flags cells s) i ≡ k
    → slice_get (enabled cells s) k ≡ Some i
unfolding enabled_flags enabled
kth_is cells s k i within up before =
    let p = is_enabled cells s in let n = length cells in let r = range_with_len 0 n in
    let inside : i < n = (let l = flags_long cells s in omega (arith, l, within)) in
    let passes : p i ≡ true = sym (flag_is cells s i inside) ∙ up in
    let count : length (passed p n i) ≡ k = sym (up_among p (take i r)) ∙ ap up_count (sym (take-map p i r)) ∙ before in
    found p n i k inside passes count

pub past_is : (cells : List Cell) (s : State) (k : ℕ) → up_count (enabled_flags cells s) ≤ k → slice_get (enabled cells s) k ≡ None
past_is cells s k h = slice_get_past (enabled cells s) k (let c = count_is cells s in omega arith)

-- ---- what an event changes: one flag

-- two states are alike at a cell in all that its flag hangs on
pub record Alike (s t : State) (j : ℕ) : Type 0 where
  pub busy : is_busy t j ≡ is_busy s j
  pub awaits : awaits t j ≡ awaits s j
  pub fired : firings t j ≡ firings s j
  pub row : row t j ≡ row s j

pub alike_enabled : (cells : List Cell) (s t : State) (j : ℕ) → Alike s t j → is_enabled cells t j ≡ is_enabled cells s j
unfolding is_enabled
alike_enabled cells s t j a =
    ap (λ b. not b && eqb (awaits t j) 0 && is_below (firings t j) (limit (cell_at cells j).kind) && has_operands (cell_at cells j) (row t j)) a.busy
    ∙ ap (λ n. not (is_busy s j) && eqb n 0 && is_below (firings t j) (limit (cell_at cells j).kind) && has_operands (cell_at cells j) (row t j)) a.awaits
    ∙ ap (λ n. not (is_busy s j) && eqb (awaits s j) 0 && is_below n (limit (cell_at cells j).kind) && has_operands (cell_at cells j) (row t j)) a.fired
    ∙ ap (λ x. not (is_busy s j) && eqb (awaits s j) 0 && is_below (firings s j) (limit (cell_at cells j).kind) && has_operands (cell_at cells j) x) a.row

pub one_flag : (cells : List Cell) (s t : State) (c : ℕ) → c < length cells → ((j : ℕ) → j ≢ c → Alike s t j)
    → set (enabled_flags cells s) c (is_enabled cells t c) ≡ enabled_flags cells t
one_flag cells s t c within alike =
    let a = flags_long cells s in let b = flags_long cells t in let l = length-set (enabled_flags cells s) c (is_enabled cells t c) in
    ext_get_or false (set (enabled_flags cells s) c (is_enabled cells t c)) (enabled_flags cells t) (omega arith)
    (λ j h. elim (cases_eq j c) [
      | inl e ↦ ap (λ i. get_or (set (enabled_flags cells s) c (is_enabled cells t c)) i false) e ∙ get_or-set_same (enabled_flags cells s) c (is_enabled cells t c) false (omega arith)
          ∙ ap (is_enabled cells t) (sym e) ∙ sym (flag_is cells t j (omega arith))
      | inr n ↦ get_or-set_other (enabled_flags cells s) c j (is_enabled cells t c) false n ∙ flag_is cells s j (omega arith)
          ∙ sym (alike_enabled cells s t j (alike j n)) ∙ sym (flag_is cells t j (omega arith))
    ])

-- a firing changes the flag of its cell alone, at its beginning and at its end
pub fire_alike : (cells : List Cell) (s : State) (c j : ℕ) → told s ≡ s → j ≢ c → Alike s (told (fire cells s c)) j
unfolding fire
fire_alike cells s c j is n = record {
  busy = get_or-set_other s.busy c j _ false n;
  awaits = refl;
  fired = firings_told (fire cells s c) j ∙ ap told_count (get_or-set_other s.fired c j _ 0 n) ∙ sym (firings_told s j)
      ∙ ap (λ (t : State). firings t j) is;
  row = get_or-set_other s.places c j _ [] n;
}

pub perform_alike : (cells : List Cell) (inputs : List (List Value)) (s : State) (c : ℕ) (x : Operands) (j : ℕ) → j ≢ c → Alike s (perform cells inputs s c x) j
unfolding perform
perform_alike cells inputs s c x j n = record {
  busy = get_or-set_other s.busy c j _ false n;
  awaits = get_or-set_other s.awaited c j _ 0 n;
  fired = refl;
  row = refl;
}

-- an operand that arrives changes that of the cell at which it arrives
pub arrive_alike : (s : State) (d : Dest) (v : Value) (j : ℕ) → j ≢ d.cell.0 → Alike s (arrive s d v) j
unfolding arrive
arrive_alike s d v j n = record { busy = refl; awaits = refl; fired = refl; row = get_or-set_other s.places d.cell.0 j _ [] n }

-- an acknowledgement that of the cell that fed its port
pub acknowledge_alike : (cells : List Cell) (s : State) (d : Dest) (u : CellId) (j : ℕ) → producer_of cells d ≡ Some u → j ≢ u.0 → Alike s (acknowledge cells s d) j
unfolding acknowledge
acknowledge_alike cells s d u j fed n = record {
  busy = refl;
  awaits = ap (λ o. get_or (lowered s.awaited o) j 0) fed ∙ get_or-set_other s.awaited u.0 j _ 0 n;
  fired = refl;
  row = refl;
}
