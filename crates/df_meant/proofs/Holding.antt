-- A hold repeats its value: a loop, whose four cells have their labels at once.
use Rattle.std.proofs.Common.{◌≡◌, ℕ, zero, suc, ◌+◌, ◌-◌, ◌<◌, Bool, true, false, List, [], ◌∷◌, ◌++◌, get_or, length, Some, refl, sym, ◌∙◌, ap, subst, arith}
use Rattle.std.specs.Prelude.{slice_get}
use Rattle.std.specs.Option.{unwrap_or}
use Rattle.std.specs.List.{filter}
use Rattle.df_values.specs.declared.values.Value.{Value}
use Rattle.df_values.specs.declared.values.Value.TheVariants.{Int, Truth, Error}
use Rattle.df_values.specs.Operators.{chosen}
use Rattle.df_cells.specs.declared.kinds.Kind.TheVariants as kind
use Rattle.df_cells.specs.Firings.{wants}
use Rattle.df_cells.specs.Families.{family}
use Rattle.df_cells.specs.Shifts.{is_truth, first_truth, merge_place}
use Rattle.df_labels.specs.Graphs.{Graph, Node}
use Rattle.df_labels.specs.Labels.{Turn, Stream, answered, in_order_from}
use Rattle.df_labels.specs.declared.graphs.Flow.TheVariants.{Cell}
use Rattle.df_build_loops.specs.Frames.{undef}
use Rattle.df_cells.specs.declared.kinds.Run.{Run}
use Rattle.df_build_cond.specs.Growth.{whole, with_cell}
use Rattle.df_labels.specs.Patterns.{run, pattern}
use Rattle.df_meant.specs.Sites.{Ends, Given, Label, Site, site_of, pattern_at, pattern_of, gate_of, side_of, delayed, stream, Comes, Stands, MeetsNode, Meeting, Extends, block_turns}
use Rattle.df_meant.specs.Builds.{Block, IsGrown, HoldsStand}
use Rattle.df_meant.proofs.Streams.{only, on_turns, answered_on, filter_all, turns_block, delayed_none}
use Rattle.df_meant.proofs.Groups.{same_some, none_some, push_at, comes_more, comes_group, extends_push, meet_group}
use Rattle.df_meant.proofs.Fed.{Supply, always, takings, fed_node, hands, ArcFeeds, fed_as, at_two, at_three, all_wanted}
use Rattle.df_meant.proofs.Cells.{takes_both, takes_true, takes_false, gate_answers, gate_wants, merge_answers}
use Rattle.df_meant.proofs.Forms.{meets_source}
use Rattle.df_meant.proofs.Patterns.{stream_on, delayed_block, three_runs, length_three, second_run, third_run, control_of, answered_control, run_passes, run_place}

pub at_four : (P : Node → Label → Type 0) (a b c d : Node) (k l m n : Label) → P a k → P b l → P c m → P d n → (i : ℕ) (x : Node) (y : Label) → slice_get (a ∷ b ∷ c ∷ d ∷ []) i ≡ Some x → slice_get (k ∷ l ∷ m ∷ n ∷ []) i ≡ Some y → P x y
at_four P a b c d k l m n pa pb pc pd zero x y e f = subst (λ z. P z y) (same_some a x e) (subst (P a) (same_some k y f) pa)
at_four P a b c d k l m n pa pb pc pd (suc zero) x y e f = subst (λ z. P z y) (same_some b x e) (subst (P b) (same_some l y f) pb)
at_four P a b c d k l m n pa pb pc pd (suc (suc zero)) x y e f = subst (λ z. P z y) (same_some c x e) (subst (P c) (same_some m y f) pc)
at_four P a b c d k l m n pa pb pc pd (suc (suc (suc zero))) x y e f = subst (λ z. P z y) (same_some d x e) (subst (P d) (same_some n y f) pd)
at_four P a b c d k l m n pa pb pc pd (suc (suc (suc (suc i)))) x y e f = absurd (none_some x e)

-- a port that is always taken
pub feeds_comes : (site : Site) (part u : ℕ) (ts : List Turn) (f : Turn → Value) → part ≡ 0 → Comes site u (stream ts f) → ArcFeeds site part (Cell u) (filter (λ _. true) ts) f
feeds_comes site part u ts f e c = (stream ts f, c, ap (λ us. stream us f) (filter_all ts) ∙ sym (ap (λ k. delayed k (stream ts f)) e ∙ delayed_none (stream ts f)))

-- what comes from a node of a group that isn't delayed
abbrev pub comes_plain : (graph group : Graph) (labels ls : List Label) (j : ℕ) (node : Node) (l : Label) (s : Stream) → length labels ≡ length graph → slice_get group j ≡ Some node → slice_get ls j ≡ Some l
    → gate_of (graph ++ group) node ≡ 0 → answered l ≡ s → (c : ℕ) → c ≡ length graph + j → Comes (site_of (graph ++ group) (labels ++ ls)) c s
comes_plain graph group labels ls j node l s long a b none e c is =
    subst (λ d. Comes (site_of (graph ++ group) (labels ++ ls)) d s) (sym is)
    (comes_group graph group labels ls j node l s long a b (e ∙ sym (delayed_none s) ∙ ap (λ g. delayed g s) (sym none)))

four_pushed : (g : Graph) (a b c d : Node) → (((g ++ a ∷ []) ++ b ∷ []) ++ c ∷ []) ++ d ∷ [] ≡ g ++ (a ∷ b ∷ c ∷ d ∷ [])
four_pushed [] a b c d = refl
four_pushed (x ∷ g) a b c d = ap (λ l. x ∷ l) (four_pushed g a b c d)

abbrev false_true : ℕ → ℕ → ℕ → List Value
false_true a k c = three_runs a k c (Truth false) (Truth true)

-- a choice between one value and itself, where the control is a truth value
either : (c v : Value) (b : Bool) → c ≡ Truth b → chosen c v v ≡ v
either c v true e = ap (λ x. chosen x v v) e
either c v false e = ap (λ x. chosen x v v) e

module _ (is_open : ℕ → Bool) (inputs : Ends) (graph : Graph) (labels : List Label) (u r : ℕ) (v : Value) (meet : Meeting is_open graph inputs labels) (some : 0 < r)
    (scalar : Comes (site_of graph labels) u (stream (block_turns 0 1) (λ _. v))) where
  abbrev m : ℕ
  m = length graph

  abbrev ts : List Turn
  ts = block_turns 0 (1 + r)

  abbrev first : List Value
  first = false_true 0 1 r

  abbrev keep : List Value
  keep = false_true 0 r 1

  abbrev f : Turn → Value
  f t = v

  abbrev merge_control : Supply
  merge_control = always (Cell (m + 1)) (control_of first)

  abbrev from_scalar : Supply
  from_scalar = record { flow = Cell u; wanted = λ t. is_truth true (control_of first t); value = f }

  abbrev from_gate : Supply
  from_gate = record { flow = Cell (m + 2); wanted = λ t. is_truth false (control_of first t); value = f }

  abbrev merge_supplies : List Supply
  merge_supplies = merge_control ∷ from_scalar ∷ from_gate ∷ []

  abbrev gate_supplies : List Supply
  gate_supplies = always (Cell (m + 3)) (control_of keep) ∷ always (Cell m) f ∷ []

  abbrev merge : Node
  merge = fed_node kind.Merge merge_supplies

  abbrev gate : Node
  gate = fed_node kind.Tgate gate_supplies

  abbrev first_ctl : Node
  first_ctl = record { kind = kind.Ctl (run 1 true ∷ run r false ∷ []); ports = [] }

  abbrev keep_ctl : Node
  keep_ctl = record { kind = kind.Ctl (run r true ∷ run 1 false ∷ []); ports = [] }

  abbrev group : Graph
  group = merge ∷ first_ctl ∷ gate ∷ keep_ctl ∷ []

  abbrev merge_gives : Turn → Value
  merge_gives t = chosen (control_of first t) v v

  abbrev merge_label : Label
  merge_label = on_turns ts (takings merge_supplies) (λ t. Some (merge_gives t))

  abbrev gate_label : Label
  gate_label = on_turns ts (takings gate_supplies) (λ t. only (is_truth true (control_of keep t)) v)

  abbrev ls : List Label
  ls = merge_label ∷ in_order_from 0 first ∷ gate_label ∷ in_order_from 0 keep ∷ []

  abbrev old : Site
  old = site_of graph labels

  abbrev new : Site
  new = site_of (graph ++ group) (labels ++ ls)

  first_is : pattern_of new.graph merge ≡ first
  first_is = ap pattern_at (push_at graph group 1 first_ctl refl)

  keep_is : pattern_of new.graph gate ≡ keep
  keep_is = ap pattern_at (push_at graph group 3 keep_ctl refl)

  same_turns : block_turns 0 (0 + (1 + r)) ≡ ts
  same_turns = let e : 0 + (1 + r) ≡ 1 + r = omega arith in ap (block_turns 0) e

  -- its MERGE gives the value in each turn
  gives_value : (i : ℕ) → i < 1 + r → merge_gives ((0 + i) ∷ []) ≡ v
  gives_value zero h = either (control_of first ((0 + 0) ∷ [])) v true (let e : 0 + 0 ≡ 0 = omega arith in ap (λ i. get_or first i undef) e ∙ second_run 0 1 r (Truth false) (Truth true) 0 (omega arith))
  gives_value (suc i) h = either (control_of first ((0 + suc i) ∷ [])) v false
      (let e : 0 + suc i ≡ 0 + 1 + i = omega arith in ap (λ i. get_or first i undef) e ∙ third_run 0 1 r (Truth false) (Truth true) i (omega arith))

  merge_stream : answered merge_label ≡ stream ts f
  merge_stream =
      answered_on ts (takings merge_supplies) (λ t. Some (merge_gives t)) (λ _. true) merge_gives (λ t. refl)
      ∙ ap (λ us. stream us merge_gives) (filter_all ts) ∙ stream_on 0 (1 + r) merge_gives f gives_value

  gate_stream : answered gate_label ≡ stream (block_turns 0 r) f
  gate_stream =
      answered_on ts (takings gate_supplies) (λ t. only (is_truth true (control_of keep t)) v) (λ t. is_truth true (control_of keep t)) f (λ t. refl)
      ∙ ap (λ us. stream us f) (ap (λ n. filter (λ t. is_truth true (control_of keep t)) (block_turns 0 n)) count ∙ run_passes true 0 r 1 (Truth false) (Truth true) refl refl)
    where
      count : 1 + r ≡ 0 + (r + 1)
      count = omega arith

  from_first : Comes new (m + 1) (stream ts (control_of first))
  from_first = comes_plain graph group labels ls 1 first_ctl (in_order_from 0 first) (stream ts (control_of first)) meet.long refl refl refl
      (answered_control first (1 + r) (let e : length first ≡ 0 + (1 + r) = length_three 0 1 r (Truth false) (Truth true) in omega (arith, e))) (m + 1) refl

  from_keep : Comes new (m + 3) (stream ts (control_of keep))
  from_keep = comes_plain graph group labels ls 3 keep_ctl (in_order_from 0 keep) (stream ts (control_of keep)) meet.long refl refl refl
      (answered_control keep (1 + r) (let e : length keep ≡ 0 + (r + 1) = length_three 0 r 1 (Truth false) (Truth true) in omega (arith, e))) (m + 3) refl

  abbrev from_merge : Comes new m (stream ts f)
  from_merge = comes_plain graph group labels ls 0 merge merge_label (stream ts f) meet.long refl refl refl merge_stream m (omega arith)

  comes_gate : Comes new (m + 2) (stream (block_turns 0 r) f)
  comes_gate = comes_plain graph group labels ls 2 gate gate_label (stream (block_turns 0 r) f) meet.long refl refl
      (ap (first_truth true) keep_is ∙ run_place true 0 r 1 (Truth false) (Truth true) some refl refl) gate_stream (m + 2) refl

  ext : Extends old new
  ext = extends_push is_open graph group inputs labels ls meet

  part : (p : ℕ) → side_of new.graph merge p ≡ merge_place (family kind.Merge) p first
  part p = ap (merge_place (family kind.Merge) p) first_is

  merge_meets : (values : Given) → MeetsNode new values merge merge_label
  merge_meets values = fed_as new values kind.Merge merge_supplies ts (λ t. Some (merge_gives t)) (omega arith) refl refl refl (turns_block 0 (1 + r))
      (at_three (λ i s. ArcFeeds new (side_of new.graph merge i) s.flow (filter s.wanted ts) s.value) merge_control from_scalar from_gate
      (feeds_comes new (side_of new.graph merge 0) (m + 1) ts (control_of first) (part 0) from_first) (
        stream (block_turns 0 1) f,
        comes_more old new u (stream (block_turns 0 1) f) ext scalar,
        ap (λ us. stream us f) (ap (filter (λ t. is_truth true (control_of first t))) (sym same_turns) ∙ run_passes true 0 1 r (Truth false) (Truth true) refl refl)
            ∙ sym (ap (λ g. delayed g (stream (block_turns 0 1) f)) (part 1 ∙ run_place true 0 1 r (Truth false) (Truth true) (omega arith) refl refl) ∙ delayed_none (stream (block_turns 0 1) f)),
      ) (
        stream (block_turns 0 r) f,
        comes_gate,
        ap (λ us. stream us f) (ap (λ n. filter (λ t. is_truth false (control_of first t)) (block_turns 0 n)) count ∙ run_passes false 1 r 0 (Truth true) (Truth false) refl refl)
            ∙ sym (ap (λ g. delayed g (stream (block_turns 0 r) f)) (part 2 ∙ run_place false 1 r 0 (Truth true) (Truth false) some refl refl) ∙ delayed_block 1 0 r (λ _. v) (λ _. v) (λ i h. refl) ∙ ap (λ j. stream (block_turns j r) f) one),
      ))
      (λ i s t e. at_three (λ i s. wants kind.Merge (hands kind.Merge merge_supplies t) i ≡ s.wanted t) merge_control from_scalar from_gate
      (takes_both (control_of first t)) (takes_true (control_of first t)) (takes_false (control_of first t)) i s e)
      (λ t. ap Some (chosen_same (control_of first t)) ∙ sym (merge_answers (hands kind.Merge merge_supplies t)))
    where
      count : 1 + r ≡ 1 + (r + 0)
      count = omega arith

      one : 0 + 1 ≡ 1
      one = omega arith

      chosen_same : (c : Value) → chosen c v v ≡ chosen c (unwrap_or (only (is_truth true c) v) undef) (unwrap_or (only (is_truth false c) v) undef)
      chosen_same (Truth true) = refl
      chosen_same (Truth false) = refl
      chosen_same (Int n) = refl
      chosen_same (Error e) = refl

  gate_meets : (values : Given) → MeetsNode new values gate gate_label
  gate_meets values = fed_as new values kind.Tgate gate_supplies ts (λ t. only (is_truth true (control_of keep t)) v) (omega arith) refl refl refl (turns_block 0 (1 + r))
      (at_two (λ i s. ArcFeeds new (side_of new.graph gate i) s.flow (filter s.wanted ts) s.value) (always (Cell (m + 3)) (control_of keep)) (always (Cell m) f)
      (feeds_comes new (side_of new.graph gate 0) (m + 3) ts (control_of keep) refl from_keep) (feeds_comes new (side_of new.graph gate 1) m ts f refl from_merge))
      (λ i s t e. gate_wants true (hands kind.Tgate gate_supplies t) i ∙ all_wanted gate_supplies i s t (refl, (refl, tt)) e)
      (λ t. sym (gate_answers true (hands kind.Tgate gate_supplies t)))

  pub held_group : (more : List Label) × Extends old (site_of (graph ++ group) more) × Meeting is_open (graph ++ group) inputs more × Stands (site_of (graph ++ group) more) (Cell m) ts f
  held_group = (
    labels ++ ls,
    ext,
    meet_group is_open graph group inputs labels ls meet refl (λ i node l values a b.
        at_four (λ c l. MeetsNode new values c l) merge first_ctl gate keep_ctl merge_label (in_order_from 0 first) gate_label (in_order_from 0 keep)
        (merge_meets values) (meets_source new values first_ctl.kind first refl refl refl) (gate_meets values) (meets_source new values keep_ctl.kind keep refl refl refl) i node l a b),
    record { comes = from_merge; plain = λ side. refl },
  )

-- the runs of a first value and then others, and of values and then a last one
first_runs : (r : ℕ) → 0 < r → pattern ((1, true) ∷ (r, false) ∷ []) ≡ run 1 true ∷ run r false ∷ []
first_runs zero h = absurd (omega arith)
first_runs (suc r) h = refl

last_runs : (r : ℕ) → 0 < r → pattern ((r, true) ∷ (1, false) ∷ []) ≡ run r true ∷ run 1 false ∷ []
last_runs zero h = absurd (omega arith)
last_runs (suc r) h = refl

-- the cells of a hold, under these runs
abbrev held_with : Graph → ℕ → List Run → List Run → Graph
held_with graph u first last = let m = length graph in
    with_cell whole (with_cell whole (with_cell whole (with_cell whole graph kind.Merge (Cell (m + 1) ∷ Cell u ∷ Cell (m + 2) ∷ []))
    (kind.Ctl first) []) kind.Tgate (Cell (m + 3) ∷ Cell m ∷ [])) (kind.Ctl last) []

pub holds_stand : (k : Block) → HoldsStand k
holds_stand k u v graph labels more meet stands =
    let r = k.turns.n - 1 in
    let n : 1 + r ≡ k.turns.n = omega (arith, more) in
    let some : 0 < r = omega (arith, more) in
    let g = held_group k.is_open k.inputs graph labels u r v meet some stands.comes in
    let nodes = group k.is_open k.inputs graph labels u r v meet some stands.comes in
    subst (λ grown. IsGrown k graph labels grown (Cell (length graph)) (λ _. v))
    (sym (ap (λ runs. held_with graph u runs (pattern ((r, true) ∷ (1, false) ∷ []))) (first_runs r some) ∙ ap (held_with graph u (run 1 true ∷ run r false ∷ [])) (last_runs r some) ∙ four_pushed graph (merge k.is_open k.inputs graph labels u r v meet some stands.comes) (first_ctl k.is_open k.inputs graph labels u r v meet some stands.comes)
    (gate k.is_open k.inputs graph labels u r v meet some stands.comes) (keep_ctl k.is_open k.inputs graph labels u r v meet some stands.comes)))
    (g.0, g.1, g.2, subst (λ j. Stands (site_of (graph ++ nodes) g.0) (Cell (length graph)) (block_turns 0 j) (λ _. v)) n g.3)
