-- The cells of loops are made as their kinds ask.
use Rattle.std.proofs.Common.{◌≡◌, ◌≤◌, ◌+◌, ◌-◌, ℕ, zero, suc, true, false, List, [], ◌∷◌, length, set, get_or, None, refl, ap, inl, inr, arith, ◌∙◌}
use Rattle.std.specs.Prelude.{slice_get}
use Rattle.std.specs.List.{AllByRecursion}
use Rattle.std.proofs.lemmas.List.{length-set}
use Rattle.df_values.specs.declared.kinds.Op.{Op}
use Rattle.df_values.specs.declared.kinds.Binary.TheVariants.{Operation}
use Rattle.df_cells.specs.declared.cells.Feed.{Feed}
use Rattle.df_cells.specs.declared.kinds.Kind.TheVariants as kind
use Rattle.df_cells.specs.Cells.{cell_from, loaded_value, loaded_from}
use Rattle.df_cells.specs.Families.{kind_of}
use Rattle.df_labels.specs.declared.graphs.Flow.{Flow}
use Rattle.df_labels.specs.declared.graphs.Flow.TheVariants.{Constant, Cell}
use Rattle.df_labels.specs.Flows.{feed_of}
use Rattle.df_labels.specs.Graphs.{Graph, Node, no_node}
use Rattle.df_labels.specs.Patterns.{pattern}
use Rattle.df_build_cond.specs.Growth.{Grown, whole, pushed}
use Rattle.df_build_cond.specs.Made.{IsFed, IsMade, AreMade}
use Rattle.df_build_cond.specs.Laws.{GatesAreMade}
use Rattle.df_build_loops.specs.Holds as holds
use Rattle.df_build_loops.specs.Frames as frames
use Rattle.df_build_loops.specs.Frames.{undef, closed}
use Rattle.df_build_loops.specs.Folds as folds
use Rattle.df_build_loops.specs.Laws.{LoopsAreMade}

-- ---- feeding the last port of a MERGE

all_change : {X : Type 0} (P : X → Type 0) (f : X → X) → ((x : X) → P x → P (f x)) → (xs : List X) (i : ℕ) (d : X) → AllByRecursion P xs
    → AllByRecursion P (set xs i (f (get_or xs i d)))
all_change P f h [] i d all = tt
all_change P f h (x ∷ xs) zero d all = (h x all.0, all.1)
all_change P f h (x ∷ xs) (suc i) d all = (all.0, all_change P f h xs i d all.1)

first_stays : (ports : List Feed) (x : Feed) → slice_get (set ports 2 x) 0 ≡ slice_get ports 0
first_stays [] x = refl
first_stays (a ∷ ports) x = refl

second_stays : (ports : List Feed) (x : Feed) → slice_get (set ports 2 x) 1 ≡ slice_get ports 1
second_stays [] x = refl
second_stays (a ∷ []) x = refl
second_stays (a ∷ c ∷ ports) x = refl

still_fed : (p : ℕ) (ports : List Feed) (x : Feed) → slice_get (set ports 2 x) p ≡ slice_get ports p → IsFed p ports → IsFed p (set ports 2 x)
still_fed p ports x same fed = (fed.0, ap cell_from same ∙ fed.1)

unloaded_flow : (f : Flow) → loaded_value (feed_of f) ≡ None
unloaded_flow (Constant v) = refl
unloaded_flow (Cell c) = refl

still_unloaded : (ports : List Feed) (q : ℕ) (x : Feed) → loaded_value x ≡ None → ((p : ℕ) → loaded_from (slice_get ports p) ≡ None) → (p : ℕ) → loaded_from (slice_get (set ports q x) p) ≡ None
still_unloaded [] q x free all p = all p
still_unloaded (a ∷ ports) zero x free all zero = free
still_unloaded (a ∷ ports) zero x free all (suc p) = all (suc p)
still_unloaded (a ∷ ports) (suc q) x free all zero = all 0
still_unloaded (a ∷ ports) (suc q) x free all (suc p) = still_unloaded ports q x free (λ i. all (suc i)) p

fed_made : (f : Flow) (n : Node) → IsMade n → IsMade (record n { ports = set n.ports 2 (feed_of f) })
fed_made f n m =
    let x = feed_of f in
    record {
      ports = length-set n.ports 2 x ∙ m.ports;
      runs = m.runs;
      plain = m.plain;
      unloaded = still_unloaded n.ports 2 x (unloaded_flow f) m.unloaded;
      some = λ is. elim (m.some is) [ inl fed ↦ inl (still_fed 0 n.ports x (first_stays n.ports x) fed) | inr fed ↦ inr (still_fed 1 n.ports x (second_stays n.ports x) fed) ];
      control = λ is. still_fed 0 n.ports x (first_stays n.ports x) (m.control is);
      short = m.short;
      ordinary = m.ordinary;
    }

closed_made : (g : Graph) (merge : ℕ) (next : Flow) → AreMade g → AreMade (closed g merge next)
closed_made g merge next all = all_change IsMade (λ n. record n { ports = set n.ports 2 (feed_of next) }) (fed_made next) g merge no_node all

-- ---- loops

module _ (gates : GatesAreMade) where
  held_made : (g : Graph) (u n : ℕ) → 2 ≤ n → n ≤ 65536 → AreMade g → AreMade (holds.held whole g u n).graph
  held_made g u n two few all =
      let m = length g in
      let first_only = kind.Ctl (pattern ((1, true) ∷ (n - 1, false) ∷ [])) in
      let all_but_last = kind.Ctl (pattern ((n - 1, true) ∷ (1, false) ∷ [])) in
      gates.cell _ all_but_last []
      (gates.cell _ kind.Tgate (Cell (m + 3) ∷ Cell m ∷ [])
      (gates.cell _ first_only []
      (gates.cell g kind.Merge (Cell (m + 1) ∷ Cell u ∷ Cell (m + 2) ∷ []) all (gates.nodes.merge (m + 1) (Cell u) (Cell (m + 2))))
      (gates.nodes.two_parts 1 (n - 1) true false (omega (arith, two, few))))
      (gates.nodes.gate true (m + 3) m))
      (gates.nodes.two_parts (n - 1) 1 true false (omega (arith, two, few)))

  opened_made : (g : Graph) (first : Flow) (n : ℕ) → n ≤ 65535 → AreMade g → AreMade (frames.opened whole g first n).graph
  opened_made g first n few all =
      gates.ruled g kind.Merge (first ∷ Constant undef ∷ []) (pattern ((1, true) ∷ (n, false) ∷ [])) all (gates.nodes.merge (length g + 1) first (Constant undef))
      (gates.nodes.two_parts 1 n true false (omega (arith, few)))

  previous_made : (g : Graph) (merge n : ℕ) → n ≤ 65535 → AreMade g → AreMade (frames.previous whole g merge n).graph
  previous_made g merge n few all =
      gates.ruled g kind.Tgate (Cell merge ∷ []) (pattern ((n, true) ∷ (1, false) ∷ [])) all (gates.nodes.gate true (length g + 1) merge)
      (gates.nodes.two_parts n 1 true false (omega (arith, few)))

  last_made : (g : Graph) (from n : ℕ) → n ≤ 65535 → AreMade g → AreMade (frames.last whole g from n).graph
  last_made g from n few all =
      gates.ruled g kind.Fgate (Cell from ∷ []) (pattern ((n, true) ∷ (1, false) ∷ [])) all (gates.nodes.gate false (length g + 1) from)
      (gates.nodes.two_parts n 1 true false (omega (arith, few)))

  begun_made : (first : Flow) (n : ℕ) (g : Graph) → n ≤ 65535 → AreMade g → AreMade (folds.loop_begun whole first n g).graph
  unfolding folds.loop_begun
  begun_made first n g few all = let o = frames.opened whole g first n in previous_made o.graph o.cell n few (opened_made g first n few all)

  ended_made : (op : Op) (merge gate n : ℕ) (body : Grown) → n ≤ 65535 → AreMade body.graph → AreMade (folds.loop_ended whole op merge gate n body).graph
  unfolding folds.loop_ended
  ended_made op merge gate n body few all =
      let it = kind_of (Operation op) in
      let j = pushed whole body.graph it (Cell gate ∷ body.flow ∷ []) in
      last_made (closed j.graph merge (Cell j.cell)) merge n few
      (closed_made j.graph merge (Cell j.cell) (gates.cell body.graph it (Cell gate ∷ body.flow ∷ []) all (gates.nodes.joined_left (Operation op) gate body.flow)))

pub loops_are_made : GatesAreMade → LoopsAreMade
loops_are_made gates = record {
  held = held_made gates;
  opened = opened_made gates;
  previous = previous_made gates;
  last = last_made gates;
  begun = begun_made gates;
  closed = closed_made;
  ended = ended_made gates;
}
