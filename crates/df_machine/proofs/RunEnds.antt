-- Values of runs, found by where the runs end.
use Rattle.std.proofs.Common.{◌≡◌, ℕ, zero, suc, ◌+◌, ◌-◌, ◌<◌, ◌≤◌, List, [], ◌∷◌, ◌++◌, get_or, length, replicate, Option, Some, None, refl, sym, ◌∙◌, ap, subst, arith}
use Rattle.std.specs.Prelude.{slice_get}
use Rattle.std.proofs.lemmas.List.{length-replicate, get_or-replicate, length-append}
use Rattle.std.proofs.lemmas.Option.{slice_get-get_or, slice_get_past}
use Rattle.df_values.specs.declared.values.Value.{Value}
use Rattle.df_cells.specs.declared.kinds.Run.{Run}
use Rattle.df_cells.specs.Kinds.{run_values}
use Rattle.df_machine.specs.RunEnds.{ends_from}

slice_get_front : (xs ys : List Value) (i : ℕ) → i < length xs → slice_get (xs ++ ys) i ≡ slice_get xs i
slice_get_front [] ys i h = absurd (omega arith)
slice_get_front (x ∷ xs) ys zero h = refl
slice_get_front (x ∷ xs) ys (suc i) h = slice_get_front xs ys i (omega arith)

slice_get_behind : (xs ys : List Value) (i : ℕ) → length xs ≤ i → slice_get (xs ++ ys) i ≡ slice_get ys (i - length xs)
slice_get_behind [] ys i h = let e : i ≡ i - 0 = omega arith in ap (slice_get ys) e
slice_get_behind (x ∷ xs) ys zero h = absurd (omega arith)
slice_get_behind (x ∷ xs) ys (suc i) h = let e : i - length xs ≡ suc i - suc (length xs) = omega arith in slice_get_behind xs ys i (omega arith) ∙ ap (slice_get ys) e

abbrev value_of : Option Run → Option Value
value_of None = None
value_of (Some r) = Some r.value

pub ends_long : (before : ℕ) (runs : List Run) → length (ends_from before runs) ≡ length runs
ends_long before [] = refl
ends_long before (r ∷ runs) = let i = ends_long (before + r.count) runs in omega arith

-- no run ends before the first begins
not_before : (before : ℕ) (runs : List Run) (i : ℕ) → i < length (ends_from before runs) → before ≤ get_or (ends_from before runs) i 0
not_before before [] i h = absurd (omega arith)
not_before before (r ∷ runs) zero h = omega arith
not_before before (r ∷ runs) (suc i) h = let m = not_before (before + r.count) runs i (omega arith) in omega arith

-- a value lies in the run that ends behind it and begins where it is or before it
abbrev pub IsRunOf : List ℕ → ℕ → ℕ → Type 0
IsRunOf ends turn i = (i ≤ length ends) × (0 < i → get_or ends (i - 1) 0 ≤ turn) × (i < length ends → turn < get_or ends i 0)

block_is : (before turn : ℕ) (r : Run) (runs : List Run) → before ≤ turn → turn < before + r.count → slice_get (run_values (r ∷ runs)) (turn - before) ≡ Some r.value
block_is before turn r runs begun below =
    let len = length-replicate r.count r.value in
    slice_get_front (replicate r.count r.value) (run_values runs) (turn - before) (omega arith)
    ∙ slice_get-get_or (replicate r.count r.value) (turn - before) r.value (omega arith)
    ∙ ap Some (get_or-replicate r.count (turn - before) r.value r.value (omega arith))

block_past : (before turn : ℕ) (r : Run) (runs : List Run) → before + r.count ≤ turn → slice_get (run_values (r ∷ runs)) (turn - before) ≡ slice_get (run_values runs) (turn - (before + r.count))
block_past before turn r runs past =
    let len = length-replicate r.count r.value in
    let e : turn - before - length (replicate r.count r.value) ≡ turn - (before + r.count) = omega arith in
    slice_get_behind (replicate r.count r.value) (run_values runs) (turn - before) (omega arith) ∙ ap (slice_get (run_values runs)) e

pub value_found : (before turn : ℕ) (runs : List Run) (i : ℕ) → before ≤ turn → IsRunOf (ends_from before runs) turn i → slice_get (run_values runs) (turn - before) ≡ value_of (slice_get runs i)
value_found before turn [] i begun h = refl
value_found before turn (r ∷ runs) zero begun h = block_is before turn r runs begun (h.2 (omega arith))
value_found before turn (r ∷ runs) (suc zero) begun h =
    let past : before + r.count ≤ turn = h.1 (omega arith) in
    block_past before turn r runs past ∙ value_found (before + r.count) turn runs 0 past (omega arith, λ some. absurd (omega arith), λ less. h.2 (omega arith))
value_found before turn (r ∷ runs) (suc (suc i)) begun h =
    let most : suc i ≤ length (ends_from (before + r.count) runs) = let m = h.0 in omega arith in
    let e : suc (suc i) - 1 ≡ suc i = omega arith in let f : suc i - 1 ≡ i = omega arith in
    let last : get_or (ends_from (before + r.count) runs) i 0 ≤ turn = subst (λ k. get_or (ends_from before (r ∷ runs)) k 0 ≤ turn) e (h.1 (omega arith)) in
    let from = not_before (before + r.count) runs i (omega arith) in
    let past : before + r.count ≤ turn = omega arith in
    block_past before turn r runs past ∙ value_found (before + r.count) turn runs (suc i) past (most, λ some. subst (λ k. get_or (ends_from (before + r.count) runs) k 0 ≤ turn) (sym f) last, λ less. h.2 (omega arith))

pub value_at_run : (turn : ℕ) (runs : List Run) (i : ℕ) (d : Run) → IsRunOf (ends_from 0 runs) turn i → i < length runs → Some (get_or runs i d).value ≡ slice_get (run_values runs) turn
value_at_run turn runs i d h within =
    let e : turn - 0 ≡ turn = omega arith in
    sym (ap (slice_get (run_values runs)) (sym e) ∙ value_found 0 turn runs i (omega arith) h ∙ ap value_of (slice_get-get_or runs i d within))

pub value_past_runs : (turn : ℕ) (runs : List Run) (i : ℕ) → IsRunOf (ends_from 0 runs) turn i → length runs ≤ i → None ≡ slice_get (run_values runs) turn
value_past_runs turn runs i h past =
    let e : turn - 0 ≡ turn = omega arith in
    sym (ap (slice_get (run_values runs)) (sym e) ∙ value_found 0 turn runs i (omega arith) h ∙ ap value_of (slice_get_past runs i past))

-- the last run ends where there are no more values
pub total_is : (before : ℕ) (runs : List Run) (n : ℕ) → length runs ≡ suc n → get_or (ends_from before runs) n 0 ≡ before + length (run_values runs)
total_is before [] n h = absurd (omega arith)
total_is before (r ∷ []) zero h =
    let len = length-replicate r.count r.value in let e = length-append (replicate r.count r.value) [] in omega arith
total_is before (r ∷ (q ∷ runs)) zero h = absurd (omega arith)
total_is before (r ∷ runs) (suc n) h =
    let len = length-replicate r.count r.value in let e = length-append (replicate r.count r.value) (run_values runs) in
    let i = total_is (before + r.count) runs n (omega arith) in omega arith

pub total_of : (runs : List Run) → get_or (ends_from 0 runs) (length (ends_from 0 runs) - 1) 0 ≡ length (run_values runs)
total_of [] = refl
total_of (r ∷ runs) =
    let e : length (ends_from 0 (r ∷ runs)) - 1 ≡ length runs = let l = ends_long 0 (r ∷ runs) in omega arith in
    ap (λ n. get_or (ends_from 0 (r ∷ runs)) n 0) e ∙ total_is 0 (r ∷ runs) (length runs) refl ∙ omega arith
