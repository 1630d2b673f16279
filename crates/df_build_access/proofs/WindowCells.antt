-- Graphs with the cells of windows.
use Rattle.std.proofs.Common.{◌≡◌, ◌≤◌, ◌<◌, ◌+◌, ◌-◌, ℕ, ℤ, Bool, true, false, List, [], ◌∷◌, map, length, min, Option, Some, None, refl, subst, ap, inl, inr, arith, ◌∙◌}
use Rattle.std.specs.Prelude.{if◌then◌else◌, nat_lt, ◌==◌}
use Rattle.df_values.specs.declared.values.Value.TheVariants.{Error}
use Rattle.df_values.specs.declared.values.ErrorValue.TheVariants.{MissElt}
use Rattle.df_cells.specs.declared.kinds.Kind.TheVariants as kind
use Rattle.df_labels.specs.declared.graphs.Flow.{Flow}
use Rattle.df_labels.specs.declared.graphs.Flow.TheVariants.{Constant, Cell}
use Rattle.df_labels.specs.Graphs.{Graph, Node}
use Rattle.df_labels.specs.Patterns.{pattern}
use Rattle.df_build_cond.specs.Growth.{Stood, whole}
use Rattle.df_build_cond.specs.Gates.{patterned}
use Rattle.df_build_cond.specs.Counting.{over_stood, over_grown}
use Rattle.df_build_cond.specs.Within.{ArcsBelow, StandsAfter, GrowsAfter}
use Rattle.df_build_cond.specs.Made.{AreMade}
use Rattle.df_build_cond.specs.Orderly.{IsOrderly}
use Rattle.df_build_cond.specs.Laws.{GatesCountTheSame, GatesHaveArcs, GatesAreMade, GatesAreOrderly}
use Rattle.df_build_access.specs.declared.windows.Array.{Array}
use Rattle.df_build_access.specs.declared.windows.Window.{Window}
use Rattle.df_build_access.specs.Windows.{window_of, window_by, window_with}
use Rattle.df_build_access.specs.Elements as elements
use Rattle.df_build_access.specs.Laws.{WindowsCountTheSame, ArrayBelow, WindowsHaveArcs, WindowsAreMade, WindowsAreOrderly}
use Rattle.df_build_access.proofs.WindowLemmas.{no_window}

-- the parts of the two patterns
abbrev pub cut_parts : Array → Window → List (ℕ × Bool)
cut_parts a w = (w.skipped, false) ∷ (w.kept, true) ∷ (a.n - w.skipped - w.kept, false) ∷ []

abbrev pub filled_parts : ℕ → Window → List (ℕ × Bool)
filled_parts n w = (w.missed, false) ∷ (w.kept, true) ∷ (n - w.missed - w.kept, false) ∷ []

abbrev pub sides : Stood → List Flow
sides s = Cell s.cell ∷ Constant (Error MissElt) ∷ []

-- ---- counting

module _ (gates : GatesCountTheSame) (f keep : Node → Node) where
  abbrev less : Node → Node
  less = λ n. f (keep n)

  cut : (a : Array) (w : Window) (g : Graph) → elements.cut less a w (map f g) ≡ over_stood f (elements.cut keep a w g)
  cut a w g =
      elim (nat_lt w.kept a.n) as (λ t. (if t then patterned less (map f g) kind.Tgate (Cell a.cell ∷ []) (cut_parts a w) else record { graph = map f g; cell = a.cell })
      ≡ over_stood f (if t then patterned keep g kind.Tgate (Cell a.cell ∷ []) (cut_parts a w) else record { graph = g; cell = a.cell })) [
        | true ↦ gates.ruled f keep g kind.Tgate (Cell a.cell ∷ []) (pattern (cut_parts a w))
        | false ↦ refl
      ]

  filled : (n : ℕ) (w : Window) (s : Stood) → elements.filled less n w (over_stood f s) ≡ over_stood f (elements.filled keep n w s)
  filled n w s =
      elim (nat_lt w.kept n) as (λ t. (if t then patterned less (map f s.graph) kind.Merge (sides s) (filled_parts n w) else over_stood f s)
      ≡ over_stood f (if t then patterned keep s.graph kind.Merge (sides s) (filled_parts n w) else s)) [
        | true ↦ gates.ruled f keep s.graph kind.Merge (sides s) (pattern (filled_parts n w))
        | false ↦ refl
      ]

  by_window : (n : ℕ) (a : Array) (g : Graph) (w : Option Window) → elements.windowed_by less n a (map f g) w ≡ over_grown f (elements.windowed_by keep n a g w)
  unfolding elements.windowed_by
  by_window n a g None = refl
  by_window n a g (Some w) =
      ap (λ (s : Stood). let r = elements.filled less n w s in record { graph = r.graph; flow = Cell r.cell }) (cut a w g)
      ∙ ap (λ (r : Stood). record { graph = r.graph; flow = Cell r.cell }) (filled n w (elements.cut keep a w g))

pub windows_count_the_same : GatesCountTheSame → WindowsCountTheSame
windows_count_the_same gates f keep lo n a offset g = by_window gates f keep n a g (window_of lo n a offset)

-- ---- where there is a window, there are elements

pub never : (lo : ℤ) (n : ℕ) (a : Array) (offset : ℤ) (w : Window) → window_of lo n a offset ≡ Some w → a.n ≡ 0 → ⊥
never lo n a offset w is none = apart (no_window lo n a offset none) is
  where
    apart : window_of lo n a offset ≡ None → window_of lo n a offset ≡ Some w → ⊥
    apart e is = cc

there_is : (lo : ℤ) (n : ℕ) (a : Array) (offset : ℤ) (m : ℕ) → ArrayBelow m a → (w : Window) → window_of lo n a offset ≡ Some w → a.cell < m
there_is lo n a offset m (inl none) w is = absurd (never lo n a offset w is none)
there_is lo n a offset m (inr less) w is = less

-- ---- arcs

array_more : (n m : ℕ) → n ≤ m → (a : Array) → ArrayBelow n a → ArrayBelow m a
array_more n m le a (inl none) = inl none
array_more n m le a (inr less) = inr (omega (arith, le, less))

module _ (gates : GatesHaveArcs) where
  cut_after : (a : Array) (w : Window) (g : Graph) → a.cell < length g → ArcsBelow (length g) g → StandsAfter g (elements.cut whole a w g)
  cut_after a w g less arcs =
      elim (nat_lt w.kept a.n) as (λ t. StandsAfter g (if t then patterned whole g kind.Tgate (Cell a.cell ∷ []) (cut_parts a w) else record { graph = g; cell = a.cell })) [
        | true ↦ gates.ruled g kind.Tgate (Cell a.cell ∷ []) (pattern (cut_parts a w)) arcs (less, tt)
        | false ↦ record { more = omega arith; arcs = arcs; cell = less }
      ]

  after : (g h : Graph) (s : Stood) → length g ≤ length h → StandsAfter h s → StandsAfter g s
  after g h s le good = let le' = good.more in record { more = omega (arith, le, le'); arcs = good.arcs; cell = good.cell }

  filled_after : (n : ℕ) (w : Window) (g : Graph) (s : Stood) → StandsAfter g s → StandsAfter g (elements.filled whole n w s)
  filled_after n w g s good =
      elim (nat_lt w.kept n) as (λ t. StandsAfter g (if t then patterned whole s.graph kind.Merge (sides s) (filled_parts n w) else s)) [
        | true ↦ after g s.graph _ good.more (gates.ruled s.graph kind.Merge (sides s) (pattern (filled_parts n w)) good.arcs (good.cell, (tt, tt)))
        | false ↦ good
      ]

  grows : (n : ℕ) (a : Array) (g : Graph) (w : Option Window) → ((v : Window) → w ≡ Some v → a.cell < length g) → ArcsBelow (length g) g → GrowsAfter g (elements.windowed_by whole n a g w)
  unfolding elements.windowed_by
  grows n a g None there arcs = record { more = omega arith; arcs = arcs; flow = tt }
  grows n a g (Some w) there arcs =
      let s = filled_after n w g (elements.cut whole a w g) (cut_after a w g (there w refl) arcs) in
      record { more = s.more; arcs = s.arcs; flow = s.cell }

pub windows_have_arcs : GatesHaveArcs → WindowsHaveArcs
windows_have_arcs gates = record {
  array_more = array_more;
  windowed = λ lo n a offset g below arcs. grows gates n a g (window_of lo n a offset) (there_is lo n a offset (length g) below) arcs;
}

-- ---- cells by themselves

record IsWithin (n m : ℕ) (w : Window) : Type 0 where
  turns : w.missed + w.kept ≤ n
  elements : w.skipped + w.kept ≤ m

within_with : (n m missed skipped : ℕ) (w : Window) → window_with n m missed skipped ≡ Some w → IsWithin n m w
within_with n m missed skipped w is = go (min (n - missed) (m - skipped) == 0) refl is
  where
    go : (t : Bool) → (min (n - missed) (m - skipped) == 0) ≡ t
        → (if t then None else Some (record { missed = missed; skipped = skipped; kept = min (n - missed) (m - skipped) })) ≡ Some w → IsWithin n m w
    go true e is = absurd (nothing is)
      where
        nothing : {v : Window} → None ≡ Some v → ⊥
        nothing e = cc
    go false e is =
        let some : 1 ≤ min (n - missed) (m - skipped) = grind (arith, e) in
        subst (IsWithin n m) (value_of is) (record { turns = omega (arith, some); elements = omega (arith, some) })
      where
        value_of : {v u : Window} → Some v ≡ Some u → v ≡ u
        value_of e = cc

within : (lo : ℤ) (n : ℕ) (a : Array) (offset : ℤ) (w : Window) → window_of lo n a offset ≡ Some w → IsWithin n a.n w
unfolding window_by
within lo n a offset w is = within_with n a.n _ _ w is

module _ (gates : GatesAreMade) where
  cut_made : (n : ℕ) (a : Array) (w : Window) (g : Graph) → a.n ≤ 65536 → IsWithin n a.n w → AreMade g → AreMade (elements.cut whole a w g).graph
  cut_made n a w g few i all =
      let e = i.elements in
      elim (nat_lt w.kept a.n) as (λ t. AreMade (if t then patterned whole g kind.Tgate (Cell a.cell ∷ []) (cut_parts a w) else record { graph = g; cell = a.cell }).graph) [
        | true ↦ gates.ruled g kind.Tgate (Cell a.cell ∷ []) (pattern (cut_parts a w)) all (gates.nodes.gate true (length g + 1) a.cell)
            (gates.nodes.three_parts w.skipped w.kept (a.n - w.skipped - w.kept) false true false (omega (arith, e, few)))
        | false ↦ all
      ]

  filled_made : (n m : ℕ) (w : Window) (s : Stood) → n ≤ 65536 → IsWithin n m w → AreMade s.graph → AreMade (elements.filled whole n w s).graph
  filled_made n m w s few i all =
      let e = i.turns in
      elim (nat_lt w.kept n) as (λ t. AreMade (if t then patterned whole s.graph kind.Merge (sides s) (filled_parts n w) else s).graph) [
        | true ↦ gates.ruled s.graph kind.Merge (sides s) (pattern (filled_parts n w)) all (gates.nodes.merge (length s.graph + 1) (Cell s.cell) (Constant (Error MissElt)))
            (gates.nodes.three_parts w.missed w.kept (n - w.missed - w.kept) false true false (omega (arith, e, few)))
        | false ↦ all
      ]

  made : (n : ℕ) (a : Array) (g : Graph) (w : Option Window) → n ≤ 65536 → a.n ≤ 65536 → ((v : Window) → w ≡ Some v → IsWithin n a.n v) → AreMade g → AreMade (elements.windowed_by whole n a g w).graph
  unfolding elements.windowed_by
  made n a g None few few' there all = all
  made n a g (Some w) few few' there all = filled_made n a.n w (elements.cut whole a w g) few (there w refl) (cut_made n a w g few' (there w refl) all)

pub windows_are_made : GatesAreMade → WindowsAreMade
windows_are_made gates lo n a offset g few few' all = made gates n a g (window_of lo n a offset) few few' (within lo n a offset) all

-- ---- zones

module _ (arcs : GatesHaveArcs) (gates : GatesAreOrderly) where
  cut_orderly : (a : Array) (w : Window) (g : Graph) → a.cell < length g → IsOrderly g → IsOrderly (elements.cut whole a w g).graph
  cut_orderly a w g less o =
      elim (nat_lt w.kept a.n) as (λ t. IsOrderly (if t then patterned whole g kind.Tgate (Cell a.cell ∷ []) (cut_parts a w) else record { graph = g; cell = a.cell }).graph) [
        | true ↦ gates.ruled g kind.Tgate (Cell a.cell ∷ []) (pattern (cut_parts a w)) (less, tt) o
        | false ↦ o
      ]

  filled_orderly : (n : ℕ) (w : Window) (s : Stood) → s.cell < length s.graph → IsOrderly s.graph → IsOrderly (elements.filled whole n w s).graph
  filled_orderly n w s less o =
      elim (nat_lt w.kept n) as (λ t. IsOrderly (if t then patterned whole s.graph kind.Merge (sides s) (filled_parts n w) else s).graph) [
        | true ↦ gates.ruled s.graph kind.Merge (sides s) (pattern (filled_parts n w)) (less, (tt, tt)) o
        | false ↦ o
      ]

  orderly : (n : ℕ) (a : Array) (g : Graph) (w : Option Window) → ((v : Window) → w ≡ Some v → a.cell < length g) → ArcsBelow (length g) g → IsOrderly g → IsOrderly (elements.windowed_by whole n a g w).graph
  unfolding elements.windowed_by
  orderly n a g None there below o = o
  orderly n a g (Some w) there below o =
      let less = there w refl in
      let c = cut_after arcs a w g less below in
      filled_orderly n w (elements.cut whole a w g) c.cell (cut_orderly a w g less o)

pub windows_are_orderly : GatesHaveArcs → GatesAreOrderly → WindowsAreOrderly
windows_are_orderly arcs gates lo n a offset g there below o = orderly arcs gates n a g (window_of lo n a offset) (there_is lo n a offset (length g) there) below o
