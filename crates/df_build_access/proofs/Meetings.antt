-- What windows meet, and picks.
use Rattle.std.proofs.Common.{◌≡◌, ◌≤◌, ◌<◌, ℕ, ℤ, pos, ◌-◌, ◌-ℤ◌, min, true, false, Bool, Some, None, arith, refl, ap, ◌∙◌}
use Rattle.std.specs.Prelude.{◌+ℤ◌, ◌==◌, nat_lt, [], ◌∷◌, if◌then◌else◌}
use Rattle.std.proofs.lemmas.Int.{ints}
use borrow.Author.Differences.{up, down}
use Rattle.df_cells.specs.declared.kinds.Kind.TheVariants as kind
use Rattle.df_labels.specs.declared.graphs.Flow.TheVariants.{Cell}
use Rattle.df_labels.specs.Graphs.{Graph, Node}
use Rattle.df_build_cond.specs.Growth.{Stood, Grown}
use Rattle.df_build_cond.specs.Gates.{patterned}
use Rattle.df_build_access.specs.declared.windows.Array.{Array}
use Rattle.df_build_access.specs.Windows.{window_by}
use Rattle.df_build_access.specs.Elements.{windowed_by}
use Rattle.df_build_access.specs.Laws.{IsAmong, MeetsAt, WindowsMeet, picked, PicksAreWindows}
use Rattle.df_build_access.proofs.WindowLemmas.{apart, by_numbers, none_met}

zero_is : (k : ℕ) → (k == 0) ≡ true → k ≡ 0
zero_is k is = grind (arith, is)

not_zero : (k : ℕ) → (k == 0) ≡ false → 1 ≤ k
not_zero k is = grind (arith, is)

by_gap : (n m t : ℕ) (gap z : ℤ) → t < n → z ≡ pos t -ℤ gap → MeetsAt t m z (window_by n m gap)
unfolding window_by
by_gap n m t gap z less place = go (kept == 0) refl
  where
    kept : ℕ
    kept = min (n - up gap) (m - down gap)

    go : (b : Bool) → (kept == 0) ≡ b → MeetsAt t m z (if b then None else Some (record { missed = up gap; skipped = down gap; kept = kept }))
    go true is = λ among.
        let k : min (n - up gap) (m - down gap) ≡ 0 = zero_is kept is in
        let either = apart gap in
        let lo = among.0 in
        let hi = among.1 in
        omega (arith, ints, k, either, less, place, lo, hi)
    go false is =
        let k : 1 ≤ min (n - up gap) (m - down gap) = not_zero kept is in
        let either = apart gap in (
          (
            (λ among. let lo = among.0 in let hi = among.1 in (omega (arith, ints, k, either, less, place, lo, hi), omega (arith, ints, k, either, less, place, lo, hi))),
            (λ within. let lo = within.0 in let hi = within.1 in (omega (arith, ints, k, either, less, place, lo, hi), omega (arith, ints, k, either, less, place, lo, hi))),
          ),
          λ among. let lo = among.0 in let hi = among.1 in omega (arith, ints, k, either, less, place, lo, hi),
        )

pub windows_meet : WindowsMeet
windows_meet lo n a offset t less = by_gap n a.n t (a.lo -ℤ (lo +ℤ offset)) ((lo +ℤ (pos t +ℤ offset)) -ℤ a.lo) less (omega (arith, ints))

-- ---- picks

pick_window : (n k : ℕ) (gap : ℤ) → k < n → up gap ≡ 0 → down gap ≡ k → window_by 1 n gap ≡ Some (record { missed = 0; skipped = k; kept = 1 })
pick_window n k gap less e f =
    let m : min (1 - 0) (n - k) ≡ 1 = omega (arith, less) in
    by_numbers 1 n 0 k gap e f ∙ ap (λ j. if j == 0 then None else Some (record { missed = 0; skipped = k; kept = j })) m

one_is : (n : ℕ) → (n == 1) ≡ true → n ≡ 1
one_is n is = grind (arith, is)

not_one : (n k : ℕ) → k < n → (n == 1) ≡ false → nat_lt 1 n ≡ true
not_one n k less is = grind (arith, less, is)

pick_here : (keep : Node → Node) (graph : Graph) (a : Array) (k : ℕ) → k < a.n → windowed_by keep 1 a graph (Some (record { missed = 0; skipped = k; kept = 1 })) ≡ picked keep graph a k
unfolding windowed_by
pick_here keep graph a k less = go (a.n == 1) refl
  where
    at_flow : Stood → Grown
    at_flow s = record { graph = s.graph; flow = Cell s.cell }

    gate : Stood
    gate = patterned keep graph kind.Tgate (Cell a.cell ∷ []) ((k, false) ∷ (1, true) ∷ (a.n - k - 1, false) ∷ [])

    go : (b : Bool) → (a.n == 1) ≡ b → at_flow (if nat_lt 1 a.n then gate else record { graph = graph; cell = a.cell }) ≡ (if b then record { graph = graph; flow = Cell a.cell } else at_flow gate)
    go true is = ap (λ n. at_flow (if nat_lt 1 n then gate else record { graph = graph; cell = a.cell })) (one_is a.n is)
    go false is = ap (λ b. at_flow (if b then gate else record { graph = graph; cell = a.cell })) (not_one a.n k less is)

none_by : (n : ℕ) (gap z : ℤ) → z ≡ pos 0 -ℤ gap → (IsAmong n z → ⊥) → window_by 1 n gap ≡ None
unfolding window_by
none_by n gap z place outside = go (kept == 0) refl
  where
    kept : ℕ
    kept = min (1 - up gap) (n - down gap)

    go : (b : Bool) → (kept == 0) ≡ b → window_by 1 n gap ≡ None
    go true is = none_met 1 n (up gap) (down gap) (zero_is kept is)
    go false is =
        let k : 1 ≤ min (1 - up gap) (n - down gap) = not_zero kept is in
        let either = apart gap in
        absurd (outside (omega (arith, ints, k, either, place), omega (arith, ints, k, either, place)))

pub picks_are_windows : PicksAreWindows
unfolding windowed_by
picks_are_windows = record {
  there = λ keep graph a at k less place.
      let gap = a.lo -ℤ (pos 0 +ℤ at) in
      let either = apart (a.lo -ℤ (pos 0 +ℤ at)) in
      ap (windowed_by keep 1 a graph) (pick_window a.n k gap less (omega (arith, ints, place, either)) (omega (arith, ints, place, either))) ∙ pick_here keep graph a k less;
  missing = λ keep graph a at outside.
      ap (windowed_by keep 1 a graph) (none_by a.n (a.lo -ℤ (pos 0 +ℤ at)) (at -ℤ a.lo) (omega (arith, ints)) outside);
}
