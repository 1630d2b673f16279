-- What a cell that is not enabled waits for, where no packet is in flight.
use Rattle.std.proofs.Common.{◌≡◌, ◌⊎◌, ℕ, zero, suc, ◌<◌, Bool, true, false, not, ◌&&◌, ◌||◌, eqb, List, [], ◌∷◌, get_or, Option, Some, None, refl, sym, cond, ◌∙◌, ap, inl, inr, arith}
use Rattle.std.specs.Prelude.{length, filter, ◌+◌, is_some, slice_get}
use Rattle.std.specs.List.{AllByRecursion, count_by, sum_by, range_with_len}
use Rattle.std.proofs.lemmas.List.Sums.{sum_by-cons}
use Rattle.std.proofs.lemmas.Bool.{cases_Bool, both_ways, cases_lt, eqb-true, and_parts, and_cases, or_cases, not-false, lt-ltb, eq-eqb}
use Rattle.df_values.specs.declared.values.Value.{Value}
use Rattle.df_cells.specs.declared.cells.CellId.{CellId}
use Rattle.df_cells.specs.declared.cells.Dest.{Dest}
use Rattle.df_cells.specs.declared.cells.Feed.{Feed}
use Rattle.df_cells.specs.declared.cells.Feed.TheVariants.{Arc, Constant, Loaded}
use Rattle.df_cells.specs.declared.cells.Cell.{Cell}
use Rattle.df_cells.specs.Kinds.{limit}
use Rattle.df_cells.specs.Firings.{wants, with_constants}
use Rattle.df_cells.specs.Cells.{cell_from, cell_at, producer_of, is_from}
use Rattle.df_machine.specs.declared.packets.Packet.{Packet}
use Rattle.df_machine.specs.Waiting.{Awaits, Lacks}
use Rattle.df_machine.specs.Runs.{after}
use Rattle.df_machine.specs.Laws.{DisabledCellsWait, NothingIsPossible}
use Rattle.df_machine.proofs.ArcInvariant.{arcs_kept_after}
use Rattle.df_machine.proofs.WellFormedRuns.{can_run}
use Rattle.df_machine.specs.States.{State, row, place, is_busy, awaits, firings}
use Rattle.df_machine.specs.Events.{enabled, possible, is_below, is_missing, lacks, has_operands, is_enabled}
use Rattle.df_machine.specs.Sound.{bit, is_on, is_operation, tokens, KeepsArcs}
use Rattle.df_machine.specs.CanRun.{HasDests}

-- ---- a state without packets

idle : (cells : List Cell) (s : State) (c : ℕ) → KeepsArcs cells s → s.packets ≡ [] → is_busy s c ≡ false
idle cells s c kept none =
    let e = kept.once c in
    let z = ap (λ (ps : List Packet). count_by (is_operation c) ps) none in
    elim (cases_Bool (is_busy s c)) [
      | inl t ↦ let one = ap bit t in absurd (omega arith)
      | inr f ↦ f
    ]

below : (o : Option ℕ) (n : ℕ) → ((m : ℕ) → o ≡ Some m → n < m) → is_below n o ≡ true
below None n h = refl
below (Some m) n h = lt-ltb n m (h m refl)

from_means : (u : ℕ) (o : Option CellId) → is_from u o ≡ true → o ≡ Some (record { 0 = u })
from_means u None h = cc
from_means u (Some v) h = ap (λ n. Some (record { 0 = n })) (eqb-true v.0 u h)

some_term : (P : Dest → Type 0) (f : Dest → ℕ) (ds : List Dest) → AllByRecursion P ds → 0 < sum_by f ds → (d : Dest) × P d × (0 < f d)
some_term P f [] all h = absurd (omega arith)
some_term P f (d ∷ ds) all h = let l = sum_by-cons f d ds in elim (cases_lt 0 (f d)) [
  | inl here ↦ (d, all.0, here)
  | inr later ↦ some_term P f ds all.1 (omega arith)
]

some_bit : (b : Bool) → 0 < bit b → b ≡ true
some_bit true h = refl
some_bit false h = absurd (omega arith)

awaiting : (cells : List Cell) (s : State) (c : ℕ) → HasDests cells c → KeepsArcs cells s → s.packets ≡ [] → (eqb (awaits s c) 0 ≡ false) → Awaits cells s c
unfolding tokens
awaiting cells s c has kept none waits =
    let total = kept.acknowledged c in
    let positive : 0 < awaits s c = elim (cases_lt 0 (awaits s c)) [
      | inl l ↦ l
      | inr z ↦ absurd (both_ways (eqb (awaits s c) 0) waits (eq-eqb (awaits s c) 0 (omega arith)))
    ] in
    let found = some_term (λ d. is_from c (producer_of cells d) ≡ true) (tokens s) (cell_at cells c).dests has.each (omega arith) in
    let d = found.0 in
    let empty = ap (λ (ps : List Packet). count_by (is_on d) ps) none in
    let there : 0 < bit (is_some (place s d)) = let q = found.2 in omega arith in
    (d, from_means c (producer_of cells d) found.1, some_bit (is_some (place s d)) there)

missing_here : (f : Option Feed) (w : Bool) (o : Option Value) → is_missing f w o ≡ true → (u : CellId) × (cell_from f ≡ Some u) × (w ≡ true) × (o ≡ None)
missing_here None w o h = cc
missing_here (Some (Constant v)) w o h = let p = and_parts w false h in absurd (both_ways false refl p.1)
missing_here (Some (Arc u)) w None h = (u, refl, (and_parts w true h).0, refl)
missing_here (Some (Arc u)) w (Some v) h = let p = and_parts w false h in absurd (both_ways false refl p.1)
missing_here (Some (Loaded u l)) w None h = (u, refl, (and_parts w true h).0, refl)
missing_here (Some (Loaded u l)) w (Some v) h = let p = and_parts w false h in absurd (both_ways false refl p.1)

lacking_at : (cells : List Cell) (s : State) (c p : ℕ) → lacks (cell_at cells c) (row s c) p ≡ true → Lacks cells s c
lacking_at cells s c p h =
    let cell = cell_at cells c in
    let m = missing_here (slice_get cell.ports p) (wants cell.kind (with_constants cell (row s c)) p) (get_or (row s c) p None) h in
    (p, m.0, m.1, m.2, m.3)

lacking : (cells : List Cell) (s : State) (c : ℕ) → has_operands (cell_at cells c) (row s c) ≡ false → Lacks cells s c
lacking cells s c h =
    let k = lacks (cell_at cells c) (row s c) in
    let any : ((k 0 || k 1) || k 2) ≡ true = not-false ((k 0 || k 1) || k 2) h in
    elim (or_cases (k 0 || k 1) (k 2) any) [
      | inl two ↦ elim (or_cases (k 0) (k 1) two) [
        | inl a ↦ lacking_at cells s c 0 a
        | inr b ↦ lacking_at cells s c 1 b
      ]
      | inr c2 ↦ lacking_at cells s c 2 c2
    ]

-- a cell that is not enabled, though its limit lets it fire, awaits an acknowledgement or lacks an operand
pub waits : (cells : List Cell) (s : State) (c : ℕ) → HasDests cells c → KeepsArcs cells s → s.packets ≡ [] → ((m : ℕ) → limit (cell_at cells c).kind ≡ Some m → firings s c < m)
    → is_enabled cells s c ≡ false → Awaits cells s c ⊎ Lacks cells s c
unfolding is_enabled
waits cells s c has kept none within disabled =
    let free = idle cells s c kept none in
    let bound : is_below (firings s c) (limit (cell_at cells c).kind) ≡ true = below (limit (cell_at cells c).kind) (firings s c) within in
    let rest = has_operands (cell_at cells c) (row s c) in
    let a = not (is_busy s c) in let b = eqb (awaits s c) 0 in let i = is_below (firings s c) (limit (cell_at cells c).kind) in
    elim (and_cases ((a && b) && i) rest disabled) [
      | inl three ↦ elim (and_cases (a && b) i three) [
        | inl two ↦ elim (and_cases a b two) [
          | inl busy ↦ absurd (both_ways (is_busy s c) free (not-false (is_busy s c) busy))
          | inr some ↦ inl (awaiting cells s c has kept none some)
        ]
        | inr over ↦ absurd (both_ways i over bound)
      ]
      | inr lack ↦ inr (lacking cells s c lack)
    ]

pub disabled_cells_wait : DisabledCellsWait
disabled_cells_wait cells inputs choices c well_formed none within disabled =
    let can = can_run cells well_formed in
    waits cells (after cells inputs choices) c (can.dests c) (arcs_kept_after cells inputs choices can) none within disabled

-- ---- no event

is_empty : {A : Type 0} (xs : List A) → length xs ≡ 0 → xs ≡ []
is_empty [] h = refl
is_empty (x ∷ xs) h = absurd (omega arith)

passes_none : (p : ℕ → Bool) (a n : ℕ) → filter p (range_with_len a n) ≡ [] → (c : ℕ) → c < n → p (a + c) ≡ false
passes_none p a zero none c within = absurd (omega arith)
passes_none p a (suc n) none c within = by (p a) refl c within (λ e d h. passes_none p (a + 1) n e d h)
  where
    rest : List ℕ
    rest = filter p (range_with_len (a + 1) n)

    by : (b : Bool) → p a ≡ b → (c : ℕ) → c < suc n → (filter p (range_with_len (a + 1) n) ≡ [] → (d : ℕ) → d < n → p (a + 1 + d) ≡ false) → p (a + c) ≡ false
    by true e c within more = let z : a ∷ rest ≡ [] = ap (λ b. cond b (a ∷ rest) rest) (sym e) ∙ none in cc
    by false e zero within more = let same : a + 0 ≡ a = omega arith in ap p same ∙ e
    by false e (suc d) within more = let next : a + suc d ≡ a + 1 + d = omega arith in ap p next ∙ more (ap (λ b. cond b (a ∷ rest) rest) (sym e) ∙ none) d (omega arith)

pub nothing_is_possible : NothingIsPossible
unfolding possible enabled
nothing_is_possible cells s none = (is_empty s.packets (omega arith), λ c within. let same : c ≡ 0 + c = omega arith in ap (is_enabled cells s) same ∙ passes_none (is_enabled cells s) 0 (length cells) (is_empty (enabled cells s) (omega arith)) c within)
