-- BUF cells placed by a balance.
use Rattle.std.proofs.Common.{get_or, ◌≡◌, ◌≢◌, ℕ, zero, suc, ◌+◌, ◌<◌, ◌≤◌, eqb, ◌==◌, ◌&&◌, not, ℤ, Bool, true, false, cond, List, [], ◌∷◌, map, length, take, ◌-◌, All, Option, Some, None, inl, inr, refl, sym, ap, subst, ◌∙◌, arith}
use Rattle.std.specs.Option.{option_map}
use Rattle.std.specs.List.{count_by, flat_map, range_with_len}
use Rattle.std.proofs.lemmas.Int.{ints}
use Rattle.std.proofs.lemmas.Bool.{cases_lt, and_parts, eqb-true, eq-eqb}
use Rattle.std.proofs.lemmas.List.{length-map, length-take-le, same_lists, get_or-map, get_or-take, get_or_past}
use Rattle.std.proofs.lemmas.List.Elements.{All-head, All-tail}
use Rattle.std.proofs.lemmas.List.Sums.{sum_by-cons}
use Rattle.df_cells.specs.declared.cells.CellId.{CellId}
use Rattle.df_cells.specs.declared.cells.Cell.{Cell}
use Rattle.df_cells.specs.declared.cells.Dest.{Dest}
use Rattle.df_cells.specs.declared.cells.Feed.{Feed}
use Rattle.df_cells.specs.declared.cells.Feed.TheVariants.{Arc, Constant, Loaded}
use Rattle.df_cells.specs.declared.kinds.Kind.TheVariants as kind
use Rattle.df_cells.specs.Kinds.{is_output}
use Rattle.df_cells.specs.Cells.{no_cell, cell_at, cell_from, feed_of, producer_of, is_buf, same_port, skeleton_arcs, declared_by, inputs_of, outputs}
use Rattle.df_cells.specs.Paths.{mark_of}
use Rattle.df_cells.specs.Shifts.{origin, back, buffers_over, buffers_from}
use Rattle.df_cells.specs.WellFormed.{WellFormed}
use Rattle.df_stages.specs.Nodes.{node_of as node_of_cell, is_node}
use Rattle.df_stages.specs.Skeletons.{cell_id, nodes, arcs, skeleton_of}
use Rattle.df_stages.specs.Carried.{SuitsCells}
use Rattle.df_stages.specs.Laws.{CertifiesLeast, HasSkeletons}
use Rattle.df_stages.specs.Balance.{stage_of, IsCertificate}
use Rattle.df_stages.specs.Flows.{IsDualFlow}
use Rattle.df_cancel.specs.Balances.{numbered, IsBalance, IsTight}
use Rattle.df_wellformed.specs.Laws.{MarksAreUnique}
use Rattle.df_labels.specs.Graphs.{node_of, graph_of}
use Rattle.df_labels.specs.Members.{Labels}
use Rattle.df_buffers_laws.specs.HasSkeleton.{buffers_on, node_over, HasSkeleton}
use Rattle.df_buffers_laws.specs.Insertions.{ports_to_buffer, buffered}
use Rattle.df_buffers_laws.specs.Buffered.{over_buffers, IsBuffered}
use Rattle.df_labels.specs.Finishing.{HasNoBuffers}
use Rattle.df_buffers_laws.specs.Carried.{carried}
use Rattle.df_buffers_laws.specs.Staged.{HasLowestStage}
use Rattle.df_buffers_laws.specs.Placed.{counts_of, AreMade, ArePlaced}
use Rattle.df_buffers_laws.proofs.Origins.{buf, home, own, old_feed, was_fed, is_fed}
use Rattle.df_buffers_laws.proofs.Origins.{plain as plain_new}
use Rattle.df_buffers_laws.proofs.Paths.{StandBetweenNodes, marks_stay}
use Rattle.df_buffers_laws.proofs.Labelled.{old_label, carried_meet, carried_late, carried_single, none_loaded}
use Rattle.df_buffers_laws.proofs.Ports.{places}
use Rattle.df_buffers_laws.proofs.Tables.{fed_inside}
use Rattle.df_buffers_laws.proofs.Inserted.{is_buffered, new_length, on_arcs}
use Rattle.df_buffers_laws.proofs.Order.{arcs_end, each_fed, same_pieces, places_in_order}
use Rattle.df_buffers_laws.proofs.Skeleton.{nodes_stay, arcs_stay}
use Rattle.df_buffers_laws.proofs.Arcs.{within_old, all_fed, IsApart, all_apart}
use Rattle.df_buffers_laws.proofs.Counts.{filled_by}
use Rattle.df_buffers_laws.proofs.KindSums.{whole_sum, same_given}
use Rattle.df_buffers_laws.proofs.NodeCounts.{counted_nodes}
use Rattle.df_buffers_laws.proofs.Realized.{still_realize}
use Rattle.df_buffers_laws.proofs.Balance.{balanced, counted, certified}
use Rattle.df_buffers_laws.proofs.Rules.{keeps_rules}

-- what holds of each port holds of one that is counted
counted_port : (P : Dest → Type 0) (d : Dest) (ports : List Dest) → All P ports → 1 ≤ count_by (same_port d) ports → P d
counted_port P d [] all some = absurd (omega arith)
counted_port P d (e ∷ ports) all some =
    by (same_port d e) refl (omega (arith, sum_by-cons (λ x. cond (same_port d x) 1 0) e ports, some))
    (counted_port P d ports (All-tail P e ports all))
  where
    by : (b : Bool) → same_port d e ≡ b → 1 ≤ cond (same_port d e) 1 0 + count_by (same_port d) ports
        → (1 ≤ count_by (same_port d) ports → P d) → P d
    by true same more rest =
        let parts = and_parts (eqb d.cell.0 e.cell.0) (eqb d.port.0 e.port.0) same in
        let cells = eqb-true d.cell.0 e.cell.0 parts.0 in
        let numbers = eqb-true d.port.0 e.port.0 parts.1 in
        let one : e ≡ d =
        sym (ap (λ k. record { cell = record { 0 = k }; port = d.port }) cells
        ∙ ap (λ k. record { cell = e.cell; port = record { 0 = k } }) numbers) in
        subst P one (All-head P e ports all)
    by false other more rest =
        let none : 1 ≤ 0 + count_by (same_port d) ports =
        subst (λ b. 1 ≤ cond b 1 0 + count_by (same_port d) ports) other more in
        rest (omega arith)

-- from a BUF cell back at least one is met
some_buffer : (cells : List Cell) (b : ℕ) → b < length cells → is_buf cells b ≡ true → 1 ≤ buffers_from cells b
unfolding buffers_from
some_buffer cells b h is_one = by (length cells) h
  where
    by : (n : ℕ) → b < n → 1 ≤ buffers_over cells n b
    by zero h = absurd (omega arith)
    by (suc n) h = subst (λ t. 1 ≤ cond t 1 0 + buffers_over cells n (back cells b)) (sym is_one) (omega arith)

-- a feed that comes from a cell that is no BUF cell is the same over BUF cells
own_feed : (cells : List Cell) (o : Option Feed) (u : CellId) → cell_from o ≡ Some u → origin cells u.0 ≡ u.0
    → option_map (over_buffers cells) o ≡ o
own_feed cells None u fed own = refl
own_feed cells (Some (Constant v)) u fed own = refl
own_feed cells (Some (Arc w)) u fed own =
    let one : w ≡ u = cc in
    let number = ap (λ (k : CellId). k.0) one in
    ap (λ k. Some (Arc (record { 0 = k }))) (ap (origin cells) number ∙ own ∙ sym number)
own_feed cells (Some (Loaded w v)) u fed own =
    let one : w ≡ u = cc in
    let number = ap (λ (k : CellId). k.0) one in
    ap (λ k. Some (Loaded (record { 0 = k }) v)) (ap (origin cells) number ∙ own ∙ sym number)

pub buffers_stand : (old new : List Cell) (numbers : ℕ → ℤ) → WellFormed old → HasNoBuffers old
    → graph_of new ≡ buffered (graph_of old) (arcs old) numbers → IsBuffered old new (counts_of old numbers)
buffers_stand old new numbers well_formed plain graph =
    is_buffered old plain (within_old old well_formed plain) (ports_to_buffer (arcs old) numbers) new graph
    (all_fed old well_formed plain numbers)

more_than : (old new : List Cell) (ports : List Dest) → length new ≡ length old + length ports
    → length ports ≡ length new - length (graph_of old)
more_than old new ports long = let n = length-map old node_of in omega arith

module _ (unique : MarksAreUnique) (skeletons : HasSkeletons) (certifies : CertifiesLeast) (old new : List Cell)
    (stages : List ℤ)
    (flow : List ℕ) (well_formed : WellFormed old) (plain : HasNoBuffers old)
    (balance : IsBalance (skeleton_of old) stages flow)
    (made : AreMade old new (numbered stages)) where
  abbrev ports : List Dest
  ports = ports_to_buffer (arcs old) (numbered stages)

  abbrev count : Dest → ℕ
  count = counts_of old (numbered stages)

  is : IsBuffered old new count
  is = buffers_stand old new (numbered stages) well_formed plain made.graph

  -- the arcs with BUF cells lead from node to node
  between : StandBetweenNodes old new
  between d u h fed behind =
      let inside = is.within d.cell.0 d.port.0 u fed in
      let some = some_buffer new u.0 inside (buf old new count is u.0 behind inside) in
      counted_port (IsApart old well_formed plain) d ports (all_apart old well_formed plain (numbered stages))
      (subst (λ n. 1 ≤ n) (is.counts d u h fed) some) (home new u) (was_fed old new count is d u h fed)

  marks : (c : ℕ) → mark_of new c ≡ mark_of old c
  marks c = unique new (mark_of new) (mark_of old) made.loop (marks_stay old new count is well_formed.loop between) c

  rules : WellFormed new
  rules = keeps_rules old new count is well_formed made.shaped made.port made.dest made.loop marks between

  suits : SuitsCells old
  suits = skeletons old well_formed

  certificate : IsTight (skeleton_of old) stages flow → IsCertificate new flow
  certificate tight =
      certified old new count is marks suits.least (counted_nodes old) (numbered stages) made.staged
      (filled_by old (numbered stages) balance.respects) suits.lawful.ends flow (skeletons new rules).counted
      (subst (λ n. IsDualFlow n (arcs old) flow) (length-map (nodes old) cell_id) balance.dual) tight.equal

  -- ---- the skeleton

  long : length new ≡ length old + length ports
  long =
      new_length old plain (within_old old well_formed plain) ports new made.graph
      (all_fed old well_formed plain (numbered stages))

  same_node_over : (k : ℕ) → k < length old → node_over new (cell_at new k) ≡ node_of (cell_at old k)
  same_node_over k h =
      ap (λ it. record { kind = it; ports = map (over_buffers new) (cell_at new k).ports }) (is.kinds k h)
      ∙ ap (λ l. record { kind = (cell_at old k).kind; ports = l }) (is.feeds k h)

  graph_first : map (node_over new) (take (length (graph_of old)) new) ≡ graph_of old
  graph_first =
      let n = length-map old node_of in
      let few = is.few in
      let taken : length (take (length (graph_of old)) new) ≡ length old =
      length-take-le (length (graph_of old)) new (omega arith) ∙ n in
      same_lists (map (node_over new) (take (length (graph_of old)) new)) (graph_of old)
      (length-map (take (length (graph_of old)) new) (node_over new) ∙ taken ∙ sym n)
      (λ k d h.
      let inside : k < length old = omega (arith, length-map (take (length (graph_of old)) new) (node_over new)) in
      get_or-map (node_over new) (take (length (graph_of old)) new) k no_cell d (omega arith)
      ∙ ap (node_over new) (get_or-take (length (graph_of old)) new k no_cell (omega arith))
      ∙ same_node_over k inside ∙ sym (get_or-map node_of old k no_cell d inside))

  on_arc : (d : Dest) → (u : CellId) × (producer_of old d ≡ Some u) → buffers_on new d ≡ places (length old) d ports
  on_arc d old_fed =
      let inside = fed_inside old d old_fed.0 old_fed.1 in
      let now = is_fed old new count is d old_fed.0 inside old_fed.1 in
      on_arcs old plain (within_old old well_formed plain) ports new made.graph
      (all_fed old well_formed plain (numbered stages))
      d now.0 inside now.1

  skeleton : HasSkeleton new (graph_of old)
  skeleton = let n = length-map old node_of in record {
    plain = λ c h. plain_new old new count is c (omega arith);
    first = graph_first;
    order = ap (flat_map (buffers_on new)) (arcs_end old new count is)
        ∙ same_pieces (λ d. (u : CellId) × (producer_of old d ≡ Some u)) (buffers_on new)
        (λ d. places (length old) d ports) on_arc
        (skeleton_arcs old) (each_fed old)
        ∙ places_in_order old (numbered stages) (length old)
        ∙ ap (range_with_len (length old)) (more_than old new ports long)
        ∙ ap (λ k. range_with_len k (length new - length (graph_of old))) (sym n);
  }

  -- ---- inputs, results and loops

  inputs_stay : inputs_of new ≡ inputs_of old
  inputs_stay = same_given declared_by old new is.few is.kinds (λ b behind h. ap declared_by (is.others b behind h))

  outputs_stay : outputs new ≡ outputs old
  outputs_stay = whole_sum (λ cell. cond (is_output cell.kind) 1 0) old new is.few
      (λ c h. ap (λ k. cond (is_output k) 1 0) (is.kinds c h))
      (λ b behind h. ap (λ k. cond (is_output k) 1 0) (is.others b behind h))

  results_stay : (labels : Labels) (c k n : ℕ) → (cell_at new c).kind ≡ kind.Out k n
      → ((cell_at old c).kind ≡ kind.Out k n) × (carried old new labels c ≡ labels c)
  results_stay labels c k n out = elim (cases_lt c (length old)) [
    | inl here ↦ (sym (is.kinds c here) ∙ out, old_label old new labels c here)
    | inr behind ↦ elim (cases_lt c (length new)) [
      | inl inside ↦ let buf' = is.others c behind inside in absurd (cc)
      | inr past ↦ let none = ap (λ (cell : Cell). cell.kind) (get_or_past new c no_cell past) in absurd (cc)
    ]
  ]

  marked_inside : (c : ℕ) → mark_of new c ≢ 0 → c < length old
  marked_inside c some = elim (cases_lt c (length old)) [
    | inl here ↦ here
    | inr behind ↦ absurd (some (marks c ∙ ap (λ (cell : Cell). cell.mark) (get_or_past old c no_cell behind)))
  ]

  loops_stay : (d : Dest) (u : CellId) → producer_of new d ≡ Some u → mark_of new u.0 ≢ 0 → mark_of new d.cell.0 ≢ 0
      → feed_of new d ≡ feed_of old d
  loops_stay d u fed some other =
      sym (own_feed new (feed_of new d) u fed (own old new count is u.0 (marked_inside u.0 some)))
      ∙ sym (old_feed old new count is d (marked_inside d.cell.0 other))

  -- ---- stages

  lowest_of : 0 < length old → (c : ℕ) × (c < length new) × (stage_of new c ≡ 0)
  lowest_of some =
      let in_order = counted_nodes old in
      let first = in_order.least 0 some in
      let own : node_of_cell old 0 ≡ 0 = omega arith in
      let node : is_node old 0 ≡ true =
      ap (λ b. not b && (node_of_cell old 0 == 0)) (plain 0 some) ∙ eq-eqb (node_of_cell old 0) 0 own in
      let room = in_order.room 0 some node in
      let each = balance.each ∙ length-map (nodes old) cell_id in
      let at = balance.lowest.1 (omega arith) in
      let place : at.0 < length (nodes old) = let h = at.1 in omega arith in
      let c = get_or (nodes old) at.0 0 in
      let inside = in_order.within at.0 place in
      let stage = made.staged.cells c inside ∙ ap (numbered stages) (in_order.placed at.0 place) ∙ at.2 in
      let few = is.few in
      (c, omega arith, omega (arith, ints))

  lowest : HasLowestStage new
  lowest some = elim (cases_lt 0 (length old)) [
    | inl here ↦ lowest_of here
    | inr none ↦ let less = (is.chains 0 none some).2 in absurd (omega arith)
  ]

  pub are_placed : ArePlaced old new stages flow
  are_placed = record {
    stand = is;
    skeleton = skeleton;
    well_formed = rules;
    marks_stay = marks;
    nodes_stay = nodes_stay old new count is marks suits.least;
    arcs_stay = arcs_stay old new count is marks suits.least;
    inputs_stay = inputs_stay;
    outputs_stay = outputs_stay;
    loops_stay = loops_stay;
    balanced = balanced old new count is marks suits.least (counted_nodes old) (numbered stages) made.staged
        (filled_by old (numbered stages) balance.respects) suits.lawful.ends;
    lowest = lowest;
    counted = counted old new count is marks suits.least (counted_nodes old) (numbered stages) made.staged
        (filled_by old (numbered stages) balance.respects) suits.lawful.ends (skeletons new rules).counted;
    certified = certificate;
    least = λ tight. certifies new flow rules (certificate tight);
    labelled = λ inputs n labels meet late. carried_meet old new count is inputs n labels meet late;
    results_stay = results_stay;
    realized = λ meaning realizes.
        still_realize old new marks is.few inputs_stay outputs_stay loops_stay results_stay
        (λ inputs n labels meet late. carried_meet old new count is inputs n labels meet late)
        (carried_late old new count is) (carried_single old new count is) (none_loaded old new count is)
        meaning realizes;
  }
