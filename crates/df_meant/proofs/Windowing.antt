-- The window of an array: a gate that takes a part of it, and a MERGE that fills up with what is missing.
use Rattle.std.proofs.Common.{◌≡◌, ◌⊎◌, inl, inr, ℕ, zero, suc, ◌+◌, ◌-◌, ◌<◌, ◌≤◌, ℤ, pos, negsuc, ◌+ℤ◌, ◌-ℤ◌, Bool, true, false, List, [], ◌∷◌, ◌++◌, get_or, length, Option, Some, None, min, refl, sym, ◌∙◌, ap, subst, arith}
use Rattle.std.specs.Prelude.{slice_get, nat_lt, if◌then◌else◌, ◌==◌}
use Rattle.std.specs.Option.{unwrap_or}
use Rattle.std.specs.List.{filter}
use Rattle.std.proofs.lemmas.Bool.{ltb-true, ltb-false, lt-ltb, le-ltb, eqb-true}
use Rattle.std.proofs.lemmas.List.{get_or_past}
use Rattle.df_values.specs.declared.values.Value.{Value}
use Rattle.df_values.specs.declared.values.Value.TheVariants.{Int, Truth, Error}
use Rattle.df_values.specs.Operators.{chosen, element_at, value_at_place}
use Rattle.df_cells.specs.declared.kinds.Run.{Run}
use Rattle.df_cells.specs.declared.kinds.Kind.{Kind}
use Rattle.df_cells.specs.declared.kinds.Kind.TheVariants as kind
use Rattle.df_cells.specs.Kinds.{run_values}
use Rattle.df_cells.specs.Firings.{wants, answer}
use Rattle.df_cells.specs.Families.{family}
use Rattle.df_cells.specs.Shifts.{is_truth, first_truth, gate_place, merge_place}
use Rattle.df_labels.specs.Graphs.{Graph, Node}
use Rattle.df_labels.specs.Labels.{Turn, Stream, answered, in_order_from, block_turn}
use Rattle.df_labels.specs.declared.graphs.Flow.TheVariants.{Constant, Cell}
use Rattle.df_build_access.specs.declared.windows.Array.{Array}
use Rattle.df_build_loops.specs.Frames.{undef}
use Rattle.df_build_cond.specs.Growth.{whole, Grown, Stood}
use Rattle.df_build_cond.specs.Gates.{gate_kind as gate, ruled, patterned}
use Rattle.df_build_access.specs.Elements.{cut, filled, windowed_by, windowed}
use Rattle.df_build_access.specs.declared.windows.Window.{Window}
use Rattle.df_build_access.specs.Windows.{window_with, window_by}
use borrow.Author.Differences.{up, down}
use Rattle.df_meant.specs.Sites.{Ends, Label, Site, site_of, pattern_at, pattern_of, side_of, delayed, stream, Comes, Gives, Stands, MeetsNode, Meeting, Extends, block_turns}
use Rattle.df_meant.specs.Senses.{lowest_of, members_of}
use Rattle.df_core.specs.Meaning.{Made, Single, Many, member_of}
use Rattle.df_labels.specs.Patterns.{pattern, PatternsSpell}
use Rattle.df_meant.specs.Windows.{lesser}
use Rattle.df_meant.proofs.Flat.{ruled_is}
use Rattle.df_meant.specs.Builds.{Block, all_of, place_in, at_in, ArrayStands, WindowsStand}
use Rattle.df_meant.proofs.Streams.{only, on_turns, answered_on, filter_all, turns_block, delayed_none}
use Rattle.df_meant.proofs.Groups.{same_some, none_some, push_at, stands_same, comes_more, comes_group, extends_same, extends_both, extends_push, meet_group}
use Rattle.df_meant.proofs.Fed.{Supply, always, takings, fed_node, hands, ArcFeeds, fed_as, at_one, at_two, at_three, all_wanted, IsMade, IsFed}
use Rattle.df_meant.proofs.Cells.{takes_both, takes_true, takes_false, gate_answers, gate_wants, gate_fed, gate_shift, gate_side, merge_answers}
use Rattle.df_meant.proofs.Forms.{meets_source, lesser_first}
use Rattle.df_meant.proofs.Patterns.{stream_on, delayed_block, three_runs, length_three, first_run, second_run, third_run, control_of, answered_control, run_passes, run_place, pattern_three, moved_block}
use Rattle.df_meant.proofs.Holding.{feeds_comes, comes_plain}
use Rattle.df_meant.proofs.Places.{miss, shown, shown_is}

at_pair : (P : Node → Label → Type 0) (a b : Node) (k l : Label) → P a k → P b l → (i : ℕ) (x : Node) (y : Label) → slice_get (a ∷ b ∷ []) i ≡ Some x → slice_get (k ∷ l ∷ []) i ≡ Some y → P x y
at_pair P a b k l pa pb zero x y e f = subst (λ z. P z y) (same_some a x e) (subst (P a) (same_some k y f) pa)
at_pair P a b k l pa pb (suc zero) x y e f = subst (λ z. P z y) (same_some b x e) (subst (P b) (same_some l y f) pb)
at_pair P a b k l pa pb (suc (suc i)) x y e f = absurd (none_some x e)

-- ---- a cell with the CTL of its own

module _ (is_open : ℕ → Bool) (inputs : Ends) (graph : Graph) (labels : List Label) (it : Kind) (rest : List Supply) (runs : List Run) (n : ℕ) (a : Turn → Option Value)
    (meet : Meeting is_open graph inputs labels) where
  abbrev m : ℕ
  m = length graph

  abbrev ts : List Turn
  ts = block_turns 0 n

  abbrev vs : List Value
  vs = run_values runs

  abbrev supplies : List Supply
  supplies = always (Cell (m + 1)) (control_of vs) ∷ rest

  abbrev node : Node
  node = fed_node it supplies

  abbrev ctl : Node
  ctl = record { kind = kind.Ctl runs; ports = [] }

  abbrev group : Graph
  group = node ∷ ctl ∷ []

  abbrev label : Label
  label = on_turns ts (takings supplies) a

  abbrev ls : List Label
  ls = label ∷ in_order_from 0 vs ∷ []

  abbrev old : Site
  old = site_of graph labels

  abbrev new : Site
  new = site_of (graph ++ group) (labels ++ ls)

  pattern_is : pattern_of new.graph node ≡ vs
  pattern_is = ap pattern_at (push_at graph group 1 ctl refl)

  from_ctl : length vs ≡ n → Comes new (m + 1) (stream ts (control_of vs))
  from_ctl long = comes_plain graph group labels ls 1 ctl (in_order_from 0 vs) (stream ts (control_of vs)) meet.long refl refl refl (answered_control vs n long) (m + 1) refl

  zero_more : m ≡ m + 0
  zero_more = omega arith

  abbrev from_node : (s : Stream) → answered label ≡ delayed (gate_place (family it) vs) s → Comes new m s
  from_node s gives = subst (λ d. Comes new d s) (sym zero_more) (comes_group graph group labels ls 0 node label s meet.long refl refl (gives ∙ ap (λ us. delayed (gate_place (family it) us) s) (sym pattern_is)))

  pub patterned_ok : (s : Stream) → length vs ≡ n → length supplies ≤ 3 → IsFed it → merge_place (family it) 0 vs ≡ 0
      → (Extends old new → (p : ℕ) (r : Supply) → slice_get rest p ≡ Some r → ArcFeeds new (merge_place (family it) (suc p) vs) r.flow (filter r.wanted ts) r.value)
      → ((p : ℕ) (r : Supply) (t : Turn) → slice_get supplies p ≡ Some r → wants it (hands it supplies t) p ≡ r.wanted t)
      → ((t : Turn) → a t ≡ answer it 0 [] (hands it supplies t))
      → answered label ≡ delayed (gate_place (family it) vs) s
      → (more : List Label) × Extends old (site_of (graph ++ group) more) × Meeting is_open (graph ++ group) inputs more × Gives (site_of (graph ++ group) more) m s
  patterned_ok s long few fit none feeds want answers gives =
      let ext = extends_push is_open graph group inputs labels ls meet in (
        labels ++ ls,
        ext,
        meet_group is_open graph group inputs labels ls meet refl (λ i x l values b c.
            at_pair (λ d l. MeetsNode new values d l) node ctl label (in_order_from 0 vs)
            (fed_as new values it supplies ts a few (fit.source values.own) fit.output fit.buffer (turns_block 0 n) (all_ports ext) want answers)
            (meets_source new values ctl.kind vs refl refl refl) i x l b c),
        record { comes = from_node s gives; plain = λ side. ap (first_truth side) fit.control },
      )
    where
      all_ports : Extends old new → (p : ℕ) (r : Supply) → slice_get supplies p ≡ Some r → ArcFeeds new (side_of new.graph node p) r.flow (filter r.wanted ts) r.value
      all_ports ext zero r e =
          subst (λ x. ArcFeeds new (side_of new.graph node 0) x.flow (filter x.wanted ts) x.value) (same_some (always (Cell (m + 1)) (control_of vs)) r e)
          (feeds_comes new (side_of new.graph node 0) (m + 1) ts (control_of vs) (ap (merge_place (family it) 0) pattern_is ∙ none) (from_ctl long))
      all_ports ext (suc p) r e = subst (λ us. ArcFeeds new (merge_place (family it) (suc p) us) r.flow (filter r.wanted ts) r.value) (sym pattern_is) (feeds ext p r e)

-- ---- the gate

abbrev only_true : ℕ → ℕ → ℕ → List Run
only_true a k c = pattern ((a, false) ∷ (k, true) ∷ (c, false) ∷ [])

-- a gate with runs of which those in the middle pass
pub gate_runs : (side : Bool) (is_open : ℕ → Bool) (inputs : Ends) (graph : Graph) (labels : List Label) (u a k c n : ℕ) (runs : List Run) (v w : Value) (F : ℕ → Value) → run_values runs ≡ three_runs a k c v w
    → is_truth side v ≡ false → is_truth side w ≡ true → Meeting is_open graph inputs labels → a + (k + c) ≡ n → Stands (site_of graph labels) (Cell u) (block_turns 0 n) (λ t. F (block_turn t))
    → (let g = ruled whole graph (gate side) (Cell u ∷ []) runs in IsMade is_open inputs (block_turns 0 k) graph labels g.graph (Cell g.cell) (λ t. F (a + block_turn t)))
gate_runs side is_open inputs graph labels u a k c n runs v w F spells no' yes' meet count stands =
    let vs = run_values runs in
    let ts = block_turns 0 n in
    let f = λ (t : Turn). F (block_turn t) in
    let rest : List Supply = always (Cell u) f ∷ [] in
    let supplies : List Supply = always (Cell (length graph + 1)) (control_of vs) ∷ rest in
    let ans = λ (t : Turn). only (is_truth side (control_of vs t)) (f t) in
    let passing : filter (λ t. is_truth side (control_of vs t)) ts ≡ block_turns a k =
    ap (λ us. filter (λ t. is_truth side (control_of us t)) ts) spells
    ∙ ap (λ j. filter (λ t. is_truth side (control_of (three_runs a k c v w) t)) (block_turns 0 j)) (sym count) ∙ run_passes side a k c v w no' yes' in
    let place : 0 < k → gate_place (family (gate side)) vs ≡ a = λ some. gate_shift side vs ∙ ap (first_truth side) spells ∙ run_place side a k c v w some no' yes' in
    subst (λ (g : Stood). IsMade is_open inputs (block_turns 0 k) graph labels g.graph (Cell g.cell) (λ t. F (a + block_turn t))) (sym (ruled_is graph (gate side) (Cell u ∷ []) runs))
    (patterned_ok is_open inputs graph labels (gate side) rest runs n ans meet (stream (block_turns 0 k) (λ t. F (a + block_turn t))) (ap length spells ∙ length_three a k c v w ∙ count) (omega arith) (gate_fed side) (gate_side side 0 vs)
    (λ ext. at_one (λ p r. ArcFeeds _ (merge_place (family (gate side)) (suc p) vs) r.flow (filter r.wanted ts) r.value) (always (Cell u) f) (feeds_comes _ (merge_place (family (gate side)) 1 vs) u ts f (gate_side side 1 vs) (comes_more (site_of graph labels) _ u (stream ts f) ext stands.comes)))
    (λ p r t e. gate_wants side (hands (gate side) supplies t) p ∙ all_wanted supplies p r t (refl, (refl, tt)) e)
    (λ t. sym (gate_answers side (hands (gate side) supplies t)))
    (answered_on ts (takings supplies) ans (λ t. is_truth side (control_of vs t)) f (λ t. refl)
    ∙ ap (λ us. stream us f) passing
    ∙ moved_block (gate_place (family (gate side)) vs) a k F place))

-- the member of an array, and of a value
of_none : (z : ℤ) → value_at_place [] z ≡ miss
of_none (pos i) = refl
of_none (negsuc i) = refl

member_is : (m : Made) (k : ℤ) → element_at (lowest_of m) (members_of m) k ≡ member_of m k
member_is (Many lo members) k = refl
member_is (Single v) k = of_none (k -ℤ pos 0)

-- that patterns spell their parts is a law
module _ (spell : PatternsSpell) where
  long_three : (a k c n : ℕ) → a + (k + c) ≡ n → length (run_values (only_true a k c)) ≡ n
  long_three a k c n count = ap length (pattern_three spell a k c) ∙ length_three a k c (Truth false) (Truth true) ∙ count

  true_turns : (a k c n : ℕ) → a + (k + c) ≡ n → filter (λ t. is_truth true (control_of (run_values (only_true a k c)) t)) (block_turns 0 n) ≡ block_turns a k
  true_turns a k c n count =
      ap (λ vs. filter (λ t. is_truth true (control_of vs t)) (block_turns 0 n)) (pattern_three spell a k c)
      ∙ ap (λ j. filter (λ t. is_truth true (control_of (three_runs a k c (Truth false) (Truth true)) t)) (block_turns 0 j)) (sym count)
      ∙ run_passes true a k c (Truth false) (Truth true) refl refl

  true_place : (a k c : ℕ) → 0 < k → first_truth true (run_values (only_true a k c)) ≡ a
  true_place a k c some = ap (first_truth true) (pattern_three spell a k c) ∙ run_place true a k c (Truth false) (Truth true) some refl refl

  gate_window : (is_open : ℕ → Bool) (inputs : Ends) (graph : Graph) (labels : List Label) (u a k c n : ℕ) (F : ℕ → Value) → Meeting is_open graph inputs labels → a + (k + c) ≡ n → 0 < k
      → Stands (site_of graph labels) (Cell u) (block_turns 0 n) (λ t. F (block_turn t))
      → (let g = patterned whole graph kind.Tgate (Cell u ∷ []) ((a, false) ∷ (k, true) ∷ (c, false) ∷ []) in IsMade is_open inputs (block_turns 0 k) graph labels g.graph (Cell g.cell) (λ t. F (a + block_turn t)))
  gate_window is_open inputs graph labels u a k c n F meet count some stands =
      gate_runs true is_open inputs graph labels u a k c n (only_true a k c) (Truth false) (Truth true) F (pattern_three spell a k c) refl refl meet count stands

  -- ---- filling up

  fills : (c x w : Value) → chosen c x w ≡ chosen c (unwrap_or (only (is_truth true c) x) undef) w
  fills (Truth true) x w = refl
  fills (Truth false) x w = refl
  fills (Int n) x w = refl
  fills (Error e) x w = refl

  merge_window : (is_open : ℕ → Bool) (inputs : Ends) (graph : Graph) (labels : List Label) (u p k q n : ℕ) (H : ℕ → Value) → Meeting is_open graph inputs labels → p + (k + q) ≡ n → 0 < k
      → Stands (site_of graph labels) (Cell u) (block_turns 0 k) (λ t. H (block_turn t))
      → (let g = patterned whole graph kind.Merge (Cell u ∷ Constant miss ∷ []) ((p, false) ∷ (k, true) ∷ (q, false) ∷ []) in
      IsMade is_open inputs (block_turns 0 n) graph labels g.graph (Cell g.cell) (λ t. chosen (control_of (run_values (only_true p k q)) t) (H (block_turn t - p)) miss))
  merge_window is_open inputs graph labels u p k q n H meet count some stands =
      let runs = only_true p k q in
      let vs = run_values runs in
      let ts = block_turns 0 n in
      let x = λ (t : Turn). H (block_turn t - p) in
      let value = λ (t : Turn). chosen (control_of vs t) (x t) miss in
      let taken : Supply = record { flow = Cell u; wanted = λ t. is_truth true (control_of vs t); value = x } in
      let left : Supply = record { flow = Constant miss; wanted = λ t. is_truth false (control_of vs t); value = x } in
      let rest : List Supply = taken ∷ left ∷ [] in
      let control = always (Cell (length graph + 1)) (control_of vs) in
      let supplies : List Supply = control ∷ rest in
      let part = stream (block_turns 0 k) (λ t. H (block_turn t)) in
      let moved : (i : ℕ) → i < k → H (0 + i) ≡ H (0 + p + i - p) = λ i h. let e : 0 + i ≡ 0 + p + i - p = omega arith in ap H e in
      let z : 0 + p ≡ p = omega arith in
      subst (λ (g : Stood). IsMade is_open inputs ts graph labels g.graph (Cell g.cell) value) (sym (ruled_is graph kind.Merge (Cell u ∷ Constant miss ∷ []) runs))
      (patterned_ok is_open inputs graph labels kind.Merge rest runs n (λ t. Some (value t)) meet (stream ts value) (long_three p k q n count) (omega arith) (record { source = λ values. refl; output = refl; buffer = refl; control = refl }) refl
      (λ ext. at_two (λ i r. ArcFeeds _ (merge_place (family kind.Merge) (suc i) vs) r.flow (filter r.wanted ts) r.value) taken left (
        part,
        comes_more (site_of graph labels) _ u part ext stands.comes,
        ap (λ us. stream us x) (true_turns p k q n count)
            ∙ sym (ap (λ g. delayed g part) (true_place p k q some) ∙ delayed_block p 0 k H (λ i. H (i - p)) moved ∙ ap (λ j. stream (block_turns j k) x) z),
      )
      tt)
      (λ i r t e. at_three (λ i r. wants kind.Merge (hands kind.Merge supplies t) i ≡ r.wanted t) control taken left (takes_both (control_of vs t)) (takes_true (control_of vs t)) (takes_false (control_of vs t)) i r e)
      (λ t. ap Some (fills (control_of vs t) (x t) miss) ∙ sym (merge_answers (hands kind.Merge supplies t)))
      (answered_on ts (takings supplies) (λ t. Some (value t)) (λ _. true) value (λ t. refl) ∙ ap (λ us. stream us value) (filter_all ts) ∙ sym (delayed_none (stream ts value))))

  -- ---- numbers

  record Lesser (x y k : ℕ) : Type 0 where
    first : k ≤ x
    second : k ≤ y
    one : (k ≡ x) ⊎ (k ≡ y)

  min_is : (x y : ℕ) → Lesser x y (min x y)
  min_is x y = go (nat_lt x y) refl
    where
      go : (b : Bool) → nat_lt x y ≡ b → Lesser x y (min x y)
      go true h = let less = ltb-true x y h in record { first = omega arith; second = omega arith; one = inl (omega (arith, less)) }
      go false h = let more = ltb-false x y h in record { first = omega arith; second = omega arith; one = inr (omega (arith, more)) }

  -- the place in a block is below its length
  lesser_below : (x y : ℕ) → lesser x y ≤ y
  lesser_below x y = go (nat_lt x y) refl
    where
      go : (b : Bool) → nat_lt x y ≡ b → (if b then x else y) ≤ y
      go true h = let less = ltb-true x y h in omega (arith, less)
      go false h = omega arith

  some_of : (k : ℕ) → (k == 0) ≡ false → 0 < k
  some_of zero h = absurd (never h)
    where
      never : true ≡ false → ⊥
      never e = cc
  some_of (suc k) h = omega arith

  -- before the turn p
  shown_before : (p left : ℕ) (vs : List Value) (i : ℕ) → i < p → shown p left vs i ≡ miss
  shown_before p left vs i h = ap (λ b. if b then miss else get_or vs (left + (i - p)) miss) (lt-ltb i p h)

  shown_from : (p left : ℕ) (vs : List Value) (i : ℕ) → p ≤ i → shown p left vs i ≡ get_or vs (left + (i - p)) miss
  shown_from p left vs i h = ap (λ b. if b then miss else get_or vs (left + (i - p)) miss) (le-ltb i p h)

  -- past the elements
  shown_past : (p left : ℕ) (vs : List Value) (i : ℕ) → p ≤ i → length vs ≤ left + (i - p) → shown p left vs i ≡ miss
  shown_past p left vs i h past = shown_from p left vs i h ∙ get_or_past vs (left + (i - p)) miss past

  module _ (is_open : ℕ → Bool) (inputs : Ends) (graph : Graph) (labels : List Label) (meet : Meeting is_open graph inputs labels) (u p left n k : ℕ) (members : List Value) (turns : 0 < n) (lo : ℤ) where
    abbrev here : Site
    here = site_of graph labels

    -- at the block's turns the place in the block is the turn itself
    abbrev value : Turn → Value
    value t = shown p left members (lesser (block_turn t) (n - 1))

    abbrev H : ℕ → Value
    H i = get_or members (left + i) miss

    at_turn : (i : ℕ) → i < n → value ((0 + i) ∷ []) ≡ shown p left members i
    at_turn i h = let e : 0 + i ≡ i = omega arith in ap (λ j. shown p left members (lesser j (n - 1))) e ∙ ap (shown p left members) (lesser_first i (n - 1) (omega (arith, h)))

    none_shown : Lesser (n - p) (length members - left) k → k ≡ 0 → (i : ℕ) → i < n → shown p left members i ≡ miss
    none_shown l none i h = go (nat_lt i p) refl
      where
        go : (b : Bool) → nat_lt i p ≡ b → shown p left members i ≡ miss
        go true e = shown_before p left members i (ltb-true i p e)
        go false e =
            let more = ltb-false i p e in
            let few : length members ≤ left = elim l.one [ inl first ↦ absurd (clash first more) | inr second ↦ omega (arith, second, none) ] in
            shown_past p left members i more (omega (arith, few))
          where
            clash : k ≡ n - p → p ≤ i → ⊥
            clash first more = omega (arith, first, none, more, h)

    constant_shown : Lesser (n - p) (length members - left) k → k ≡ 0 → (t : Turn) → value t ≡ miss
    constant_shown l none t =
        let least = lesser_below (block_turn t) (n - 1) in
        none_shown l none (lesser (block_turn t) (n - 1)) (omega (arith, least, turns))

    -- the filled stream shows what is there
    filled_shown : (q : ℕ) → Lesser (n - p) (length members - left) k → 0 < k → p + (k + q) ≡ n → (i : ℕ) → i < n
        → chosen (control_of (run_values (only_true p k q)) ((0 + i) ∷ [])) (H ((0 + i) - p)) miss ≡ value ((0 + i) ∷ [])
    filled_shown q l some count i h =
        let e : 0 + i ≡ i = omega arith in
        ap (λ j. chosen (get_or (run_values (only_true p k q)) j undef) (H (j - p)) miss) e
        ∙ ap (λ vs. chosen (get_or vs i undef) (H (i - p)) miss) (pattern_three spell p k q) ∙ go (nat_lt i p) refl (nat_lt i (p + k)) refl ∙ sym (at_turn i h)
      where
        go : (a : Bool) → nat_lt i p ≡ a → (b : Bool) → nat_lt i (p + k) ≡ b → chosen (get_or (three_runs p k q (Truth false) (Truth true)) i undef) (H (i - p)) miss ≡ shown p left members i
        go true e b f =
            ap (λ c. chosen c (H (i - p)) miss) (first_run p k q (Truth false) (Truth true) i (ltb-true i p e)) ∙ sym (shown_before p left members i (ltb-true i p e))
        go false e true f =
            let more = ltb-false i p e in let less = ltb-true i (p + k) f in
            let at : i ≡ p + (i - p) = omega (arith, more) in
            ap (λ j. chosen (get_or (three_runs p k q (Truth false) (Truth true)) j undef) (H (i - p)) miss) at
            ∙ ap (λ c. chosen c (H (i - p)) miss) (second_run p k q (Truth false) (Truth true) (i - p) (omega (arith, more, less)))
            ∙ sym (shown_from p left members i more)
        go false e false f =
            let more = ltb-false i p e in let over = ltb-false i (p + k) f in
            let at : i ≡ p + k + (i - (p + k)) = omega (arith, over) in
            let beyond : length members ≤ left + (i - p) = elim l.one [ inl first ↦ absurd (clash first over) | inr second ↦ omega (arith, second, over, some) ] in
            ap (λ j. chosen (get_or (three_runs p k q (Truth false) (Truth true)) j undef) (H (i - p)) miss) at
            ∙ ap (λ c. chosen c (H (i - p)) miss) (third_run p k q (Truth false) (Truth true) (i - (p + k)) (omega (arith, over, count, h)))
            ∙ sym (shown_past p left members i more beyond)
          where
            clash : k ≡ n - p → p + k ≤ i → ⊥
            clash first over = omega (arith, first, over, h, some)

    -- what is filled up, or needn't be
    merge_step : (grown : Graph) (w : ℕ) → Lesser (n - p) (length members - left) k → 0 < k → IsMade is_open inputs (block_turns 0 k) graph labels grown (Cell w) (λ t. H (block_turn t))
        → (let r = filled whole n (record { missed = p; skipped = left; kept = k }) (record { graph = grown; cell = w }) in IsMade is_open inputs (block_turns 0 n) graph labels r.graph (Cell r.cell) value)
    merge_step grown w l some made = go (nat_lt k n) refl
      where
        go : (b : Bool) → nat_lt k n ≡ b
            → (let r = (if b then patterned whole grown kind.Merge (Cell w ∷ Constant miss ∷ []) ((p, false) ∷ (k, true) ∷ (n - p - k, false) ∷ []) else record { graph = grown; cell = w }) in
            IsMade is_open inputs (block_turns 0 n) graph labels r.graph (Cell r.cell) value)
        go true e =
            let fits = l.first in
            let count : p + (k + (n - p - k)) ≡ n = omega (arith, fits, some) in
            let m = merge_window is_open inputs grown made.0 w p k (n - p - k) n H made.2 count some made.3 in
            let r = patterned whole grown kind.Merge (Cell w ∷ Constant miss ∷ []) ((p, false) ∷ (k, true) ∷ (n - p - k, false) ∷ []) in (
              m.0,
              extends_both here (site_of grown made.0) (site_of r.graph m.0) made.1 m.1,
              m.2,
              subst (Gives (site_of r.graph m.0) r.cell) (stream_on 0 n (λ t. chosen (control_of (run_values (only_true p k (n - p - k))) t) (H (block_turn t - p)) miss) value (filled_shown (n - p - k) l some count)) m.3,
            )
        go false e =
            let all = ltb-false k n e in
            let fits = l.first in
            let none : p ≡ 0 = omega (arith, fits, all, some) in
            let all_kept_here : k ≡ n = omega (arith, fits, all) in (
              made.0,
              made.1,
              made.2,
              subst (Gives (site_of grown made.0) w)
                  (ap (λ j. stream (block_turns 0 j) (λ t. H (block_turn t))) all_kept_here ∙ stream_on 0 n (λ t. H (block_turn t)) value (λ i h.
                  let z : 0 + i ≡ i - p = omega (arith, none) in let z' : p ≤ i = omega (arith, none) in
                  ap H z ∙ sym (shown_from p left members i z') ∙ sym (at_turn i h))) made.3,
            )

    window_ok : Lesser (n - p) (length members - left) k → 0 < k → Stands here (Cell u) (block_turns 0 (length members)) (λ t. get_or members (block_turn t) miss)
        → (let w : Window = record { missed = p; skipped = left; kept = k } in let r = filled whole n w (cut whole (record { cell = u; lo = lo; n = length members }) w graph) in IsMade is_open inputs (block_turns 0 n) graph labels r.graph (Cell r.cell) value)
    window_ok l some stands = go (nat_lt k (length members)) refl
      where
        go : (b : Bool) → nat_lt k (length members) ≡ b
            → (let g : Stood = (if b then patterned whole graph kind.Tgate (Cell u ∷ []) ((left, false) ∷ (k, true) ∷ (length members - left - k, false) ∷ []) else record { graph = graph; cell = u }) in
            let r = filled whole n (record { missed = p; skipped = left; kept = k }) g in IsMade is_open inputs (block_turns 0 n) graph labels r.graph (Cell r.cell) value)
        go true e =
            let fits = l.second in
            let count : left + (k + (length members - left - k)) ≡ length members = omega (arith, fits, some) in
            let g = patterned whole graph kind.Tgate (Cell u ∷ []) ((left, false) ∷ (k, true) ∷ (length members - left - k, false) ∷ []) in
            merge_step g.graph g.cell l some (gate_window is_open inputs graph labels u left k (length members - left - k) (length members) (λ i. get_or members i miss) meet count some stands)
        go false e =
            let all = ltb-false k (length members) e in
            let fits = l.second in
            let none : left ≡ 0 = omega (arith, fits, all, some) in
            let all_kept_here : length members ≡ k = omega (arith, fits, all) in
            merge_step graph u l some (
              labels,
              extends_same here,
              meet,
              subst (Gives here u) (ap (λ j. stream (block_turns 0 j) (λ t. get_or members (block_turn t) miss)) all_kept_here
                  ∙ stream_on 0 k (λ t. get_or members (block_turn t) miss) (λ t. H (block_turn t)) (λ i h. let z : 0 + i ≡ left + (0 + i) = omega (arith, none) in ap (λ j. get_or members j miss) z)) stands,
            )

  -- what a window is built to, by whether it is there
  abbrev window_grown : ℕ → Array → Graph → ℕ → ℕ → ℕ → Bool → Grown
  window_grown n a graph p left most b = windowed_by whole n a graph (if b then None else Some (record { missed = p; skipped = left; kept = most }))

  -- a window with so many turns before the first element that is there, and so many elements before it
  windowed_made : (k : Block) (a : Array) (m : Made) (p left : ℕ) (graph : Graph) (labels : List Label) → 0 < k.turns.n → Meeting k.is_open graph k.inputs labels → ArrayStands (site_of graph labels) a m
      → (let w = windowed_by whole k.turns.n a graph (window_with k.turns.n a.n p left) in
      IsMade k.is_open k.inputs (all_of k) graph labels w.graph w.flow (λ t. shown p left (members_of m) (place_in k.turns t)))
  unfolding windowed_by
  windowed_made k a m p left graph labels some meet stands = go (most == 0) refl
    where
      most : ℕ
      most = min (k.turns.n - p) (a.n - left)

      l : Lesser (k.turns.n - p) (length (members_of m) - left) (min (k.turns.n - p) (a.n - left))
      l = subst (λ j. Lesser (k.turns.n - p) (j - left) (min (k.turns.n - p) (a.n - left))) stands.count (min_is (k.turns.n - p) (a.n - left))

      go : (b : Bool) → (min (k.turns.n - p) (a.n - left) == 0) ≡ b
          → (let w = window_grown k.turns.n a graph p left (min (k.turns.n - p) (a.n - left)) b in
          IsMade k.is_open k.inputs (all_of k) graph labels w.graph w.flow (λ t. shown p left (members_of m) (place_in k.turns t)))
      go true e = (
        labels,
        extends_same (site_of graph labels),
        meet,
        constant_shown k.is_open k.inputs graph labels meet a.cell p left k.turns.n (min (k.turns.n - p) (a.n - left)) (members_of m) some a.lo l (eqb-true (min (k.turns.n - p) (a.n - left)) 0 e),
      )
      go false e =
          let most = min (k.turns.n - p) (a.n - left) in
          let more : 0 < most = some_of most e in
          let fits = (min_is (k.turns.n - p) (a.n - left)).second in
          let there : 0 < a.n = omega (arith, fits, more) in
          let f = λ (t : Turn). get_or (members_of m) (block_turn t) miss in
          subst (λ j. let w : Window = record { missed = p; skipped = left; kept = most } in let r = filled whole k.turns.n w (cut whole (record { cell = a.cell; lo = a.lo; n = j }) w graph) in
          IsMade k.is_open k.inputs (all_of k) graph labels r.graph (Cell r.cell) (λ t. shown p left (members_of m) (place_in k.turns t))) (sym stands.count)
          (window_ok k.is_open k.inputs graph labels meet a.cell p left k.turns.n most (members_of m) some a.lo l more
          (subst (λ j. Gives (site_of graph labels) a.cell (stream (block_turns 0 j) f)) stands.count (stands.comes there)))

  pub windows_stand : (k : Block) → WindowsStand k
  unfolding window_by
  windows_stand k a m c graph labels some meet stands =
      let lo = k.turns.lo in
      let gap = a.lo -ℤ (lo +ℤ c) in
      let p = up gap in
      let left = down gap in
      let members = members_of m in
      let value_is : (t : Turn) → shown p left members (place_in k.turns t) ≡ member_of m (at_in k.turns t +ℤ c) = λ t.
      sym (shown_is lo a.lo c members (place_in k.turns t)) ∙ ap (λ la. element_at la members (at_in k.turns t +ℤ c)) stands.lowest ∙ member_is m (at_in k.turns t +ℤ c) in
      let w = windowed whole k.turns.lo k.turns.n a c graph in
      let made = windowed_made k a m p left graph labels some meet stands in
      (made.0, made.1, made.2, stands_same (site_of w.graph made.0) w.flow (all_of k) (λ t. shown p left members (place_in k.turns t)) (λ t. member_of m (at_in k.turns t +ℤ c)) value_is made.3)
