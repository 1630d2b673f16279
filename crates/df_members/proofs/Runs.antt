-- Runs choice by choice: what is noted of each cell, and what a cell that fires finds.
use Rattle.std.proofs.Common.{◌≡◌, ℕ, zero, suc, ◌%◌, ◌<◌, ◌≤◌, ◌&&◌, Bool, true, false, cond, List, [], ◌∷◌, ◌++◌}
use Rattle.std.proofs.Common.{get_or, length, Option, Some, None, refl, ◌∙◌, ap, subst, arith}
use Rattle.std.specs.Prelude.{slice_get, is_some}
use Rattle.std.specs.List.{All, filter, range_with_len}
use Rattle.std.proofs.lemmas.List.Elements.{filter_passes, All-filter}
use Rattle.std.proofs.lemmas.List.FromFn.{length-range_with_len, get_or-range_with_len}
use Rattle.std.proofs.lemmas.Option.{slice_get_within, get_or_from_slice_get}
use Rattle.std.proofs.lemmas.Bool.{and_parts}
use Rattle.df_values.specs.declared.values.Value.{Value}
use Rattle.df_cells.specs.declared.cells.CellId.{CellId}
use Rattle.df_cells.specs.declared.cells.Feed.{Feed}
use Rattle.df_cells.specs.declared.cells.Feed.TheVariants.{Arc, Constant, Loaded}
use Rattle.df_cells.specs.declared.cells.Cell.{Cell}
use Rattle.df_cells.specs.Kinds.{limit}
use Rattle.df_cells.specs.Firings.{Operands, wants, at_hand, with_constants, takes}
use Rattle.df_cells.specs.Cells.{cell_at, cell_from}
use Rattle.df_machine.specs.States.{State, start, firings}
use Rattle.df_machine.specs.Events.{is_enabled, enabled, possible, taken, chosen, is_below}
use Rattle.df_machine.specs.Runs.{run, after, events, events_from}
use Rattle.df_labels.specs.Histories.{Histories, IsRight}
use Rattle.df_labels.proofs.Firings.{wants_control, wants_first}
use Rattle.df_histories.specs.Traces.{noted, histories_from, histories}

-- ---- one choice more

abbrev pub fires_at : List Cell → State → ℕ → Option ℕ
fires_at cells s k = slice_get (enabled cells s) (k % possible cells s)

noted_more : (cells : List Cell) (inputs : List (List Value)) (s : State) (h : Histories) (ks : List ℕ) (k : ℕ)
    → histories_from cells inputs s h (ks ++ k ∷ [])
    ≡ noted cells (run cells inputs s ks) (fires_at cells (run cells inputs s ks) k)
    (histories_from cells inputs s h ks)
noted_more cells inputs s h [] k = refl
noted_more cells inputs s h (j ∷ ks) k = noted_more cells inputs (chosen cells inputs s j)
    (noted cells s (fires_at cells s j) h) ks k

pub histories_more : (cells : List Cell) (inputs : List (List Value)) (ks : List ℕ) (k : ℕ)
    → histories cells inputs (ks ++ k ∷ [])
    ≡ noted cells (after cells inputs ks) (fires_at cells (after cells inputs ks) k) (histories cells inputs ks)
unfolding histories after
histories_more cells inputs ks k = noted_more cells inputs (start cells) (λ _. []) ks k

counted_more : (cells : List Cell) (inputs : List (List Value)) (s : State) (ks more : List ℕ)
    → events_from cells inputs s ks ≤ events_from cells inputs s (ks ++ more)
counted_more cells inputs s [] more = omega arith
counted_more cells inputs s (k ∷ ks) more = let rest = counted_more cells inputs
    (chosen cells inputs s k) ks more in omega arith

-- more choices have no fewer events
pub events_more : (cells : List Cell) (inputs : List (List Value)) (ks more : List ℕ)
    → events cells inputs ks ≤ events cells inputs (ks ++ more)
unfolding events
events_more cells inputs ks more = counted_more cells inputs (start cells) ks more

-- ---- the cell that fires

-- it is a cell, and enabled
pub enabled_at : (cells : List Cell) (s : State) (k c : ℕ) → slice_get (enabled cells s) k ≡ Some c
    → (c < length cells) × (is_enabled cells s c ≡ true)
unfolding enabled
enabled_at cells s k c h =
    let n = length cells in
    let p = is_enabled cells s in
    let xs = filter p (range_with_len 0 n) in
    let in_range : All (λ (x : ℕ). x < n) (range_with_len 0 n) =
    λ i d l. let m : i < n = omega
    (arith, length-range_with_len 0 n) in let e = get_or-range_with_len 0 n i d m in omega arith in
    let within = slice_get_within xs k c h in
    let at = get_or_from_slice_get xs k c c h in (
      subst (λ x. x < n) at (All-filter p (λ x. x < n) (range_with_len 0 n) in_range k c within),
      subst (λ x. p x ≡ true) at (filter_passes p (range_with_len 0 n) k c within),
    )

-- it is below its limit
pub below_limit : (cells : List Cell) (s : State) (c : ℕ) → is_enabled cells s c ≡ true
    → is_below (firings s c) (limit (cell_at cells c).kind) ≡ true
unfolding is_enabled
below_limit cells s c e = (and_parts _ _ (and_parts _ _ e).0).1

-- ---- what it takes

control_kept : (f : Option Feed) (w : Bool) (o : Option Value) → w ≡ true
    → at_hand f (cond (is_some (cell_from f) && w) o None) ≡ at_hand f o
control_kept None w o h = refl
control_kept (Some (Constant v)) w o h = refl
control_kept (Some (Arc u)) w o h = ap (λ b. cond b o None) h
control_kept (Some (Loaded u v)) w o h = ap (λ b. cond b o None) h

was_there : (t : Bool) (o : Option Value) (v : Value) → cond t o None ≡ Some v → o ≡ Some v
was_there true o v e = e
was_there false o v e = cc

-- what is taken lay in the place
pub place_of_taken : (cell : Cell) (x : Operands) (p : ℕ) (v : Value) → get_or (taken cell x) p None ≡ Some v
    → get_or x p None ≡ Some v
place_of_taken cell x zero v e = was_there (takes cell x 0) (get_or x 0 None) v e
place_of_taken cell x (suc zero) v e = was_there (takes cell x 1) (get_or x 1 None) v e
place_of_taken cell x (suc (suc zero)) v e = was_there (takes cell x 2) (get_or x 2 None) v e
place_of_taken cell x (suc (suc (suc p))) v e = cc

pub some_value : (o : Option Value) → is_some o ≡ true → (v : Value) × (o ≡ Some v)
some_value None h = cc
some_value (Some v) h = (v, refl)

-- where a firing that is right was to take an operand, one lay in the place
pub lay_there : (cell : Cell) (x : Operands) (p : ℕ) (u : CellId) → IsRight cell (taken cell x)
    → cell_from (slice_get cell.ports p) ≡ Some u → wants cell.kind (with_constants cell x) p ≡ true
    → (v : Value) × (get_or x p None ≡ Some v)
lay_there cell x p u right fed wanted =
    let control = control_kept (slice_get cell.ports 0) (wants cell.kind (with_constants cell x) 0) (get_or x 0 None)
    (wants_first cell.kind (with_constants cell x)) in
    let some : is_some (get_or (taken cell x) p None) ≡ true = right.takes p
    ∙ ap (λ b. is_some (cell_from (slice_get cell.ports p)) && b)
    (wants_control cell.kind (with_constants cell (taken cell x)) (with_constants cell x) p control ∙ wanted)
    ∙ ap (λ (f : Option CellId). is_some f && true) fed in
    let v = some_value (get_or (taken cell x) p None) some in
    (v.0, place_of_taken cell x p v.0 v.1)
