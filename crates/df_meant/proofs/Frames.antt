-- The frame of a loop: a MERGE that is open while the body is built, with the label that the meaning gives it.
use Rattle.std.proofs.Common.{◌≡◌, ℕ, zero, suc, ◌+◌, ◌<◌, Bool, true, false, List, [], ◌∷◌, ◌++◌, get_or, length, set, Some, refl, sym, ◌∙◌, ap, subst, arith}
use Rattle.std.specs.Prelude.{slice_get, ◌==◌}
use Rattle.std.specs.Option.{unwrap_or}
use Rattle.std.specs.List.{filter}
use Rattle.std.proofs.lemmas.Option.{get_or_from_slice_get}
use Rattle.std.proofs.lemmas.Bool.Decides.{Decides-eqb}
use Rattle.df_values.specs.declared.values.Value.{Value}
use Rattle.df_values.specs.declared.values.Value.TheVariants.{Int, Truth, Error}
use Rattle.df_values.specs.Operators.{chosen}
use Rattle.df_cells.specs.declared.cells.Feed.TheVariants as feed
use Rattle.df_cells.specs.declared.kinds.Run.{Run}
use Rattle.df_cells.specs.declared.kinds.Kind.TheVariants as kind
use Rattle.df_cells.specs.Kinds.{run_values}
use Rattle.df_cells.specs.Firings.{at_hand, wants}
use Rattle.df_cells.specs.Families.{family}
use Rattle.df_cells.specs.Shifts.{is_truth, first_truth, merge_place}
use Rattle.df_labels.specs.Graphs.{Graph, Node, no_node}
use Rattle.df_labels.specs.Labels.{Turn, answered, in_order_from, block_turn}
use Rattle.df_labels.specs.declared.graphs.Flow.{Flow}
use Rattle.df_labels.specs.declared.graphs.Flow.TheVariants.{Constant, Cell}
use Rattle.df_labels.specs.Flows.{arc, feed_of}
use Rattle.df_build_loops.specs.Frames.{undef}
use Rattle.df_meant.specs.Sites.{Ends, Given, Label, Site, site_of, pattern_at, pattern_of, side_of, delayed, stream, Comes, Gives, Stands, MeetsNode, Meeting, Extends, block_turns}
use Rattle.df_labels.specs.Patterns.{pattern, PatternsSpell}
use Rattle.df_build_loops.specs.Frames.{closed}
use Rattle.df_meant.proofs.Flat.{flat}
use Rattle.df_meant.specs.SameGraph.{no_open}
use Rattle.df_meant.proofs.Streams.{on_turns, answered_on, filter_all, turns_block, stream_same}
use Rattle.df_meant.proofs.Groups.{same_some, none_some, push_at, comes_more, extends_push, ClosedMeet, meet_open}
use Rattle.df_meant.proofs.Fed.{Supply, always, taken_flow, takings, fed_node, hands, ArcFeeds, feeds_none, fed_as, flow_of_arc, at_three, full}
use Rattle.df_meant.proofs.Cells.{takes_both, takes_true, takes_false, merge_answers}
use Rattle.df_meant.proofs.Forms.{meets_source}
use Rattle.df_meant.proofs.Patterns.{stream_on, three_runs, length_three, second_run, control_of, answered_control, run_passes, run_place, pattern_two, moved_block}
use Rattle.df_meant.proofs.Holding.{feeds_comes, comes_plain}
use Rattle.df_meant.proofs.Closing as closing

-- a MERGE whose port 2 is fed later, and its CTL
abbrev pub opened : Graph → Flow → ℕ → Graph
opened graph first n = (flat graph kind.Merge (first ∷ Constant undef ∷ []) (pattern ((1, true) ∷ (n, false) ∷ []))).graph

-- where nothing is open, less is asked where something is
meeting_opened : (is_open : ℕ → Bool) (graph : Graph) (inputs : Ends) (labels : List Label) → Meeting no_open graph inputs labels → Meeting is_open graph inputs labels
meeting_opened is_open graph inputs labels meet = record { long = meet.long; each = λ c node l a b _. meet.each c node l a b refl; inside = meet.inside }

-- `next` is what the port is fed with in the end, and g its values by turns, the first included
module _ (spell : PatternsSpell) (graph : Graph) (inputs : Ends) (labels : List Label) (first next : Flow) (n : ℕ) (g : ℕ → Value) where
  abbrev pub m : ℕ
  m = length graph

  abbrev pub runs : List Run
  runs = pattern ((1, true) ∷ (n, false) ∷ [])

  abbrev pub vs : List Value
  vs = run_values runs

  abbrev pub ts : List Turn
  ts = block_turns 0 (suc n)

  abbrev pub given : Turn → Value
  given t = g (block_turn t)

  abbrev pub control : Supply
  control = always (Cell (m + 1)) (control_of vs)

  abbrev pub at_first : Supply
  at_first = record { flow = first; wanted = λ t. is_truth true (control_of vs t); value = λ _. g 0 }

  abbrev pub at_next : Supply
  at_next = record { flow = next; wanted = λ t. is_truth false (control_of vs t); value = given }

  abbrev pub supplies : List Supply
  supplies = control ∷ at_first ∷ at_next ∷ []

  abbrev pub gives : Turn → Value
  gives t = chosen (control_of vs t) (g 0) (given t)

  abbrev pub label : Label
  label = on_turns ts (takings supplies) (λ t. Some (gives t))

  abbrev pub open_node : Node
  open_node = record { kind = kind.Merge; ports = arc (m + 1) ∷ feed_of first ∷ feed.Constant undef ∷ [] }

  abbrev pub closed_node : Node
  closed_node = fed_node kind.Merge supplies

  abbrev pub ctl : Node
  ctl = record { kind = kind.Ctl runs; ports = [] }

  abbrev pub group : Graph
  group = open_node ∷ ctl ∷ []

  abbrev pub ls : List Label
  ls = label ∷ in_order_from 0 vs ∷ []

  abbrev is_open : ℕ → Bool
  is_open c = c == m

  abbrev old : Site
  old = site_of graph labels

  abbrev new : Site
  new = site_of (opened graph first n) (labels ++ ls)

  by_true : vs ≡ three_runs 0 1 n (Truth false) (Truth true)
  by_true = pattern_two spell 1 n

  by_false : vs ≡ three_runs 1 n 0 (Truth true) (Truth false)
  by_false = pattern_two spell 1 n

  long_pattern : length vs ≡ suc n
  long_pattern = let e : length (three_runs 0 1 n (Truth false) (Truth true)) ≡ 0 + (1 + n) = length_three 0 1 n (Truth false) (Truth true) in
      let f : length vs ≡ length (three_runs 0 1 n (Truth false) (Truth true)) = ap length by_true in omega (arith, e, f)

  true_at_first : get_or vs 0 undef ≡ Truth true
  true_at_first = let e : 0 ≡ 0 + 0 = omega arith in ap (λ us. get_or us 0 undef) by_true ∙ ap (λ i. get_or (three_runs 0 1 n (Truth false) (Truth true)) i undef) e ∙ second_run 0 1 n (Truth false) (Truth true) 0 (omega arith)

  false_behind : (i : ℕ) → i < n → get_or vs (suc i) undef ≡ Truth false
  false_behind i h = let e : suc i ≡ 1 + i = omega arith in ap (λ us. get_or us (suc i) undef) by_false ∙ ap (λ j. get_or (three_runs 1 n 0 (Truth true) (Truth false)) j undef) e ∙ second_run 1 n 0 (Truth true) (Truth false) i h

  gives_given : (i : ℕ) → i < suc n → gives ((0 + i) ∷ []) ≡ given ((0 + i) ∷ [])
  gives_given zero h = let e : 0 + 0 ≡ 0 = omega arith in ap (λ i. chosen (get_or vs i undef) (g 0) (g i)) e ∙ ap (λ c. chosen c (g 0) (g 0)) true_at_first ∙ ap g (sym e)
  gives_given (suc i) h =
      let e : 0 + suc i ≡ suc i = omega arith in
      ap (λ j. chosen (get_or vs j undef) (g 0) (g j)) e ∙ ap (λ c. chosen c (g 0) (g (suc i))) (false_behind i (omega (arith, h))) ∙ ap g (sym e)

  stream_is : answered label ≡ stream ts given
  stream_is = answered_on ts (takings supplies) (λ t. Some (gives t)) (λ _. true) gives (λ t. refl) ∙ ap (λ us. stream us gives) (filter_all ts) ∙ stream_on 0 (suc n) gives given gives_given

  zero_more : m ≡ m + 0
  zero_more = omega arith

  node_at_m : slice_get (opened graph first n) m ≡ Some open_node
  node_at_m = ap (slice_get (opened graph first n)) zero_more ∙ push_at graph group 0 open_node refl

  label_at_m : length labels ≡ length graph → slice_get (labels ++ ls) m ≡ Some label
  label_at_m long = ap (slice_get (labels ++ ls)) (zero_more ∙ ap (λ k. k + 0) (sym long)) ∙ push_at labels ls 0 label refl

  from_ctl : length labels ≡ length graph → Comes new (m + 1) (stream ts (control_of vs))
  from_ctl long = comes_plain graph group labels ls 1 ctl (in_order_from 0 vs) (stream ts (control_of vs)) long refl refl refl (answered_control vs (suc n) long_pattern) (m + 1) refl

  abbrev from_merge : length labels ≡ length graph → Comes new m (stream ts given)
  from_merge long = comes_plain graph group labels ls 0 open_node label (stream ts given) long refl refl refl stream_is m zero_more

  self : (a : ℕ) → (a == a) ≡ true
  self a = (Decides-eqb a a).1 refl

  closed_meet : ClosedMeet is_open m new group ls
  closed_meet zero node l values a b c = absurd (never (sym (ap (λ k. k == m) (sym zero_more) ∙ self m) ∙ c))
    where
      never : true ≡ false → ⊥
      never e = cc
  closed_meet (suc zero) node l values a b c =
      subst (λ x. MeetsNode new values x l) (same_some ctl node a) (subst (λ y. MeetsNode new values ctl y) (same_some (in_order_from 0 vs) l b) (meets_source new values ctl.kind vs refl refl refl))
  closed_meet (suc (suc i)) node l values a b c = absurd (none_some node a)

  inside_open : (i : ℕ) (from : Node) (c : ℕ) → slice_get group i ≡ Some from → slice_get from.ports 0 ≡ Some (arc c) → (it : Node) × (slice_get (opened graph first n) c ≡ Some it)
  inside_open zero from c a e =
      let port : arc (m + 1) ≡ arc c = same_some (arc (m + 1)) (arc c) (ap (λ (x : Node). slice_get x.ports 0) (same_some open_node from a) ∙ e) in
      let same : m + 1 ≡ c = cell_same (m + 1) c (flow_of_arc (Cell (m + 1)) c port) in
      subst (λ d. (it : Node) × (slice_get (opened graph first n) d ≡ Some it)) same (ctl, push_at graph group 1 ctl refl)
    where
      cell_same : (x y : ℕ) → Cell x ≡ Cell y → x ≡ y
      cell_same x y h = cc
  inside_open (suc zero) from c a e = absurd (none_some (arc c) (ap (λ (x : Node). slice_get x.ports 0) (same_some ctl from a) ∙ e))
  inside_open (suc (suc i)) from c a e = absurd (none_some from a)

  pub opened_ok : Meeting no_open graph inputs labels → Extends old new × Meeting is_open (opened graph first n) inputs (labels ++ ls) × Gives new m (stream ts given)
  opened_ok meet = (
    extends_push no_open graph group inputs labels ls meet,
    meet_open is_open graph group inputs labels ls (meeting_opened is_open graph inputs labels meet) refl closed_meet inside_open,
    record { comes = from_merge meet.long; plain = λ side. refl },
  )

  -- ---- closing

  -- the answer that the meaning gives is that of the table, once the port is fed
  answers_so : (site : Site) (us : List Turn) → Stands site first us (λ _. g 0) → Stands site next (block_turns 0 n) (λ t. g (suc (block_turn t))) → (i : ℕ) (c : Value) → c ≡ get_or vs i undef
      → chosen c (g 0) (g i) ≡ chosen c (unwrap_or (at_hand (Some (feed_of first)) (taken_flow first (is_truth true c) (g 0))) undef) (unwrap_or (at_hand (Some (feed_of next)) (taken_flow next (is_truth false c) (g i))) undef)
  answers_so site us sf sn i (Truth true) e = sym (full site first us (λ _. g 0) [] sf)
  answers_so site us sf sn zero (Truth false) e = absurd (never (e ∙ true_at_first))
    where
      never : Truth false ≡ Truth true → ⊥
      never e = cc
  answers_so site us sf sn (suc i) (Truth false) e = sym (full site next (block_turns 0 n) (λ t. g (suc (block_turn t))) (i ∷ []) sn)
  answers_so site us sf sn i (Int x) e = refl
  answers_so site us sf sn i (Error x) e = refl

  next_feeds : (site : Site) (part : ℕ) (flow : Flow) → (0 < n → part ≡ 1) → Stands site flow (block_turns 0 n) (λ t. g (suc (block_turn t))) → ArcFeeds site part flow (filter (λ t. is_truth false (control_of vs t)) ts) given
  next_feeds site part (Constant v) e s = tt
  next_feeds site part (Cell c) e s =
      let count : suc n ≡ 1 + (n + 0) = omega arith in
      let up : (t : Turn) → g (1 + block_turn t) ≡ g (suc (block_turn t)) = λ t. let z : 1 + block_turn t ≡ suc (block_turn t) = omega arith in ap g z in (
        stream (block_turns 0 n) (λ t. g (suc (block_turn t))),
        s.comes,
        ap (λ us. stream us given) (ap (λ ws. filter (λ t. is_truth false (control_of ws t)) ts) by_false
            ∙ ap (λ j. filter (λ t. is_truth false (control_of (three_runs 1 n 0 (Truth true) (Truth false)) t)) (block_turns 0 j)) count ∙ run_passes false 1 n 0 (Truth true) (Truth false) refl refl)
            ∙ moved_block part 1 n g e ∙ ap (delayed part) (stream_same (block_turns 0 n) (λ t. g (1 + block_turn t)) (λ t. g (suc (block_turn t))) up),
      )

  closed_meets : (site : Site) (values : Given) → Comes site (m + 1) (stream ts (control_of vs)) → pattern_of site.graph closed_node ≡ vs → Stands site first (block_turns 0 1) (λ _. g 0)
      → Stands site next (block_turns 0 n) (λ t. g (suc (block_turn t))) → MeetsNode site values closed_node label
  closed_meets site values sc pattern_is sf sn =
      let part : (p : ℕ) → side_of site.graph closed_node p ≡ merge_place (family kind.Merge) p vs = λ p. ap (merge_place (family kind.Merge) p) pattern_is in
      let count : suc n ≡ 0 + (1 + n) = omega arith in
      let once : filter (λ t. is_truth true (control_of vs t)) ts ≡ block_turns 0 1 =
      ap (λ ws. filter (λ t. is_truth true (control_of ws t)) ts) by_true
      ∙ ap (λ j. filter (λ t. is_truth true (control_of (three_runs 0 1 n (Truth false) (Truth true)) t)) (block_turns 0 j)) count ∙ run_passes true 0 1 n (Truth false) (Truth true) refl refl in
      fed_as site values kind.Merge supplies ts (λ t. Some (gives t)) (omega arith) refl refl refl (turns_block 0 (suc n))
      (at_three (λ p r. ArcFeeds site (side_of site.graph closed_node p) r.flow (filter r.wanted ts) r.value) control at_first at_next
      (feeds_comes site (side_of site.graph closed_node 0) (m + 1) ts (control_of vs) (part 0) sc)
      (feeds_none site (side_of site.graph closed_node 1) first (filter (λ t. is_truth true (control_of vs t)) ts) (λ _. g 0)
      (part 1 ∙ ap (first_truth true) by_true ∙ run_place true 0 1 n (Truth false) (Truth true) (omega arith) refl refl) (subst (λ us. Stands site first us (λ _. g 0)) (sym once) sf))
      (next_feeds site (side_of site.graph closed_node 2) next (λ some. part 2 ∙ ap (first_truth false) by_false ∙ run_place false 1 n 0 (Truth true) (Truth false) some refl refl) sn))
      (λ p r t e. at_three (λ p r. wants kind.Merge (hands kind.Merge supplies t) p ≡ r.wanted t) control at_first at_next (takes_both (control_of vs t)) (takes_true (control_of vs t)) (takes_false (control_of vs t)) p r e)
      (λ t. ap Some (answers_so site (block_turns 0 1) sf sn (block_turn t) (control_of vs t) refl) ∙ sym (merge_answers (hands kind.Merge supplies t)))

  -- any graph that came of the opened one
  module _ (later : Graph) (more : List Label) (ext : Extends new (site_of later more)) (meet : Meeting is_open later inputs more) (long : length labels ≡ length graph) where
    pub at_later : slice_get later m ≡ Some open_node
    at_later = ext.node m open_node node_at_m

    pub graph_is : closed later m next ≡ set later m closed_node
    graph_is = ap (λ (x : Node). set later m (record x { ports = set x.ports 2 (feed_of next) })) (get_or_from_slice_get later m open_node no_node at_later)

    pub closed_ok : Stands (site_of later more) first (block_turns 0 1) (λ _. g 0) → Stands (site_of later more) next (block_turns 0 n) (λ t. g (suc (block_turn t))) → Meeting no_open (closed later m next) inputs more
    closed_ok sf sn =
        let ctl_later : slice_get later (m + 1) ≡ Some ctl = ext.node (m + 1) ctl (push_at graph group 1 ctl refl) in
        let site = site_of (set later m closed_node) more in
        let pattern_is : pattern_of site.graph closed_node ≡ vs = closing.pattern_same later inputs more m open_node closed_node at_later refl refl (m + 1) ∙ ap pattern_at ctl_later in
        subst (λ x. Meeting no_open x inputs more) (sym graph_is)
        (closing.meeting_closed later inputs more m open_node closed_node at_later refl refl label meet (ext.label m label (label_at_m long))
        (λ values. closed_meets site values
        (closing.comes_fed later inputs more m open_node closed_node at_later refl refl (m + 1) (stream ts (control_of vs)) (comes_more new (site_of later more) (m + 1) (stream ts (control_of vs)) ext (from_ctl long)))
        pattern_is
        (closing.stands_fed later inputs more m open_node closed_node at_later refl refl first (block_turns 0 1) (λ _. g 0) sf)
        (closing.stands_fed later inputs more m open_node closed_node at_later refl refl next (block_turns 0 n) (λ t. g (suc (block_turn t))) sn)))
