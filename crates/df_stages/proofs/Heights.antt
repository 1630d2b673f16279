-- Heights rise by one over each arc between two nodes, but for the shift, and stay within a loop.
use Rattle.std.proofs.Common.{◌≡◌, ◌≢◌, ℕ, zero, suc, ◌+◌, ◌*◌, ◌<◌, ◌==◌, ◌&&◌, not, ℤ, pos, ◌+ℤ◌, ◌-ℤ◌, ◌*ℤ◌, Bool, true, false, cond, List, [], ◌∷◌, ◌++◌, get_or, length, Contains, Option, Some, None, refl, sym, ◌∙◌, ap, subst, inl, inr, arith, eq-eqb, length-append}
use Rattle.std.specs.Prelude.{slice_get}
use Rattle.std.specs.List.{filter, range_with_len}
use Rattle.std.proofs.lemmas.Int.{ints}
use Rattle.std.proofs.lemmas.List.{get_or_default, get_or_past}
use Rattle.std.proofs.lemmas.Option.{slice_get_within, none-some}
use Rattle.std.proofs.lemmas.Bool.{cases_Bool, cases_eq, cases_lt, or_cases, and_parts, both_ways, eqb-true, ne_eqb}
use Rattle.df_cells.specs.declared.cells.CellId.{CellId}
use Rattle.df_cells.specs.declared.cells.Dest.{Dest}
use Rattle.df_cells.specs.declared.cells.Cell.{Cell}
use Rattle.df_cells.specs.declared.cells.Feed.{Feed}
use Rattle.df_cells.specs.declared.kinds.Kind.{Kind}
use Rattle.df_cells.specs.declared.kinds.Kind.TheVariants as kind
use Rattle.df_cells.specs.Families.{family}
use Rattle.df_cells.specs.Kinds.{is_buffer, port_count}
use Rattle.df_cells.specs.Cells.{no_cell, cell_at, cell_from, feed_of, port_of, producer_of, is_buf}
use Rattle.df_cells.specs.Paths.{mark_of, Reaches}
use Rattle.df_cells.specs.Shifts.{first_from, back, back_over, buffers_over, origin, buffers_from, controls, gate_place, merge_place, gate_part, merge_part}
use Rattle.df_cells.specs.WellFormed.{WellFormed}
use Rattle.df_stages.specs.declared.skeleton.SkeletonArc.{SkeletonArc}
use Rattle.df_stages.specs.Nodes.{same_node, node_of, is_node}
use Rattle.df_stages.specs.Skeletons.{node_place, arc_from, arcs_at_ports, arcs_into, arcs}
use Rattle.df_stages.specs.Flows.{difference, IsBalancedArc}
use Rattle.df_stages.specs.Balance.{stage_of, node_stages, rise_of, height, IsBalanced}
use Rattle.df_stages.proofs.Backs.{back_stays, back_moves, no_buffers}
use Rattle.df_stages.proofs.Parts.{own_origin, begins, fed_within, origin_within}
use Rattle.df_stages.proofs.Named.{named}
use Rattle.df_stages.proofs.Marks.{node_within}
use Rattle.df_stages.proofs.Joined.{Comes, joined, reaches_then, origin_comes}
use Rattle.df_stages.proofs.Ranges.{filtered_more}
use Rattle.df_stages.proofs.Forward.{over_more, in_pieces}
use Rattle.df_stages.proofs.Skeletal.{IsArcOf, arc_of, all_arcs}
use Rattle.df_stages.specs.Laws.{EndsHaveStages, HeightsRise, HeightsStay}

abbrev bit : Bool → ℕ
bit b = cond b 1 0

-- ---- how many numbers below n pass a test

passed_more : (p : ℕ → Bool) (n : ℕ) → length (filter p (range_with_len 0 (suc n))) ≡ length (filter p (range_with_len 0 n)) + cond (p n) 1 0
passed_more p n =
    let next : suc n ≡ n + 1 = omega arith in
    let e = ap (λ (l : List ℕ). length l) (ap (λ k. filter p (range_with_len 0 k)) next ∙ filtered_more p n) in
    let s = length-append (filter p (range_with_len 0 n)) (cond (p n) (n ∷ []) []) in
    let t = last (p n) n in omega arith
  where
    last : (b : Bool) (n : ℕ) → length (cond b (n ∷ []) []) ≡ cond b 1 0
    last true n = refl
    last false n = refl

fewer : (p : ℕ → Bool) (n i : ℕ) → i < n → p i ≡ true → length (filter p (range_with_len 0 i)) < length (filter p (range_with_len 0 n))
fewer p zero i l q = absurd (omega arith)
fewer p (suc n) i l q = elim (cases_eq i n) [
  | inl same ↦ subst (λ k. length (filter p (range_with_len 0 i)) < length (filter p (range_with_len 0 (suc k)))) same
      (let m = passed_more p i in let one = ap bit q in omega arith)
  | inr other ↦ let rest = fewer p n i (omega arith) q in let m = passed_more p n in omega arith
]

-- ---- ports

-- a port that is fed is a port of a cell
fed_by_feed : (f : Option Feed) (u : CellId) → cell_from f ≡ Some u → (feed : Feed) × (f ≡ Some feed)
fed_by_feed None u h = cc
fed_by_feed (Some f) u h = (f, refl)

fed_port : (cells : List Cell) (d : Dest) (u : CellId) → producer_of cells d ≡ Some u → (d.cell.0 < length cells) × (d.port.0 < length (cell_at cells d.cell.0).ports)
fed_port cells d u h =
    let feed = fed_by_feed (feed_of cells d) u h in (
      elim (cases_lt d.cell.0 (length cells)) [
        | inl l ↦ l
        | inr m ↦ absurd (none-some feed.0 (ap (λ (c : Cell). slice_get c.ports d.port.0) (sym (get_or_past cells d.cell.0 no_cell m)) ∙ feed.1))
      ],
      slice_get_within (cell_at cells d.cell.0).ports d.port.0 feed.0 feed.1,
    )

-- ---- back over BUF cells

buffers_more : (cells : List Cell) (n c : ℕ) → buffers_over cells (suc n) c ≡ buffers_over cells n c + cond (is_buf cells (back_over cells n c)) 1 0
buffers_more cells zero c = omega arith
buffers_more cells (suc n) c = let rest = buffers_more cells n (back cells c) in omega arith

module _ (cells : List Cell) (well_formed : WellFormed cells) where
  -- the arc that a BUF cell carries goes on from what feeds it
  pub buffer_origin : (b : ℕ) (u : CellId) → b < length cells → is_buf cells b ≡ true → producer_of cells (port_of b 0) ≡ Some u → origin cells u.0 ≡ origin cells b
  unfolding origin
  buffer_origin b u within buf fed =
      let n = length cells in
      let moves = back_moves cells b u buf fed in
      let next : suc n ≡ n + 1 = omega arith in
      ap (back_over cells n) (sym moves) ∙ ap (λ k. back_over cells k b) next ∙ over_more cells n b ∙ back_stays cells (back_over cells n b) (begins cells well_formed b within)

  -- stages rise by one from BUF cell to BUF cell
  stage_over : IsBalanced cells → (n c : ℕ) → c < length cells → stage_of cells c ≡ stage_of cells (back_over cells n c) + buffers_over cells n c
  stage_over balanced zero c within = omega arith
  stage_over balanced (suc n) c within = elim (cases_Bool (is_buf cells c)) [
    | inl buf ↦
        let on = well_formed.buffer c within buf in
        let moves = back_moves cells c on.from buf on.fed in
        let up = balanced.buffers c on.from buf on.fed in
        let in' = fed_within cells well_formed (port_of c 0) on.from within on.fed in
        let rest = stage_over balanced n on.from.0 in' in
        let one = ap bit buf in
        let s = ap (λ k. stage_of cells (back_over cells n k)) moves in
        let b = ap (buffers_over cells n) moves in
        omega arith
    | inr other ↦
        let same = back_stays cells c other in
        let none = no_buffers cells (suc n) c other in
        let s = ap (λ k. stage_of cells (back_over cells n k)) same in
        let rest = stage_over balanced n c within in
        let none' = no_buffers cells n c other in
        omega arith
  ]

  stage_from : IsBalanced cells → (c : ℕ) → c < length cells → stage_of cells c ≡ stage_of cells (origin cells c) + buffers_from cells c
  unfolding origin buffers_from
  stage_from balanced c within = stage_over balanced (length cells) c within

-- ---- the stages of nodes, where each cell is a node of its own

at_count : (p : ℕ → Bool) (n i : ℕ) → i < n → p i ≡ true → get_or (filter p (range_with_len 0 n)) (length (filter p (range_with_len 0 i))) 0 ≡ i
at_count p zero i below passes = absurd (omega arith)
at_count p (suc n) i below passes =
    let next : suc n ≡ n + 1 = omega arith in
    let whole : filter p (range_with_len 0 (suc n)) ≡ filter p (range_with_len 0 n) ++ cond (p n) (n ∷ []) [] = ap (λ k. filter p (range_with_len 0 k)) next ∙ filtered_more p n in
    ap (λ (l : List ℕ). get_or l (length (filter p (range_with_len 0 i))) 0) whole
    ∙ elim (cases_eq i n) [
      | inl same ↦ subst (λ k. get_or (filter p (range_with_len 0 k) ++ cond (p k) (k ∷ []) []) (length (filter p (range_with_len 0 i))) 0 ≡ i) same
          (ap (λ b. get_or (filter p (range_with_len 0 i) ++ cond b (i ∷ []) []) (length (filter p (range_with_len 0 i))) 0) passes ∙ behind (filter p (range_with_len 0 i)) i)
      | inr other ↦ front (filter p (range_with_len 0 n)) (cond (p n) (n ∷ []) []) (length (filter p (range_with_len 0 i))) (fewer p n i (omega arith) passes) ∙ at_count p n i (omega arith) passes
    ]
  where
    behind : (xs : List ℕ) (x : ℕ) → get_or (xs ++ x ∷ []) (length xs) 0 ≡ x
    behind [] x = refl
    behind (y ∷ xs) x = behind xs x

    front : (xs ys : List ℕ) (k : ℕ) → k < length xs → get_or (xs ++ ys) k 0 ≡ get_or xs k 0
    front [] ys k h = absurd (omega arith)
    front (x ∷ xs) ys zero h = refl
    front (x ∷ xs) ys (suc k) h = front xs ys k (omega arith)

-- where each cell has the stage of its node's least cell, a node has that of each of its cells
module _ (cells : List Cell) (well_formed : WellFormed cells) (level : (c : ℕ) → c < length cells → stage_of cells c ≡ stage_of cells (node_of cells c)) where
  level_stage : (c : ℕ) → c < length cells → is_buf cells c ≡ false → node_stages cells (node_place cells c) ≡ pos (stage_of cells c)
  level_stage c within other =
      let h = node_of cells c in
      let node : is_node cells h ≡ true = named cells well_formed c within other in
      ap (λ k. pos (stage_of cells k)) (at_count (is_node cells) (length cells) h (node_within cells c within) node) ∙ ap (λ n. pos n) (sym (level c within))

  end_stages : (arc : SkeletonArc) → IsArcOf cells arc → (u : CellId) × (producer_of cells arc.name ≡ Some u) × (difference (node_stages cells) arc ≡ rise_of cells arc u)
  end_stages arc of =
      let in' = fed_within cells well_formed of.name of.via of.within of.fed in
      let from = level_stage (origin cells of.via.0) (origin_within cells well_formed of.via.0 in') (begins cells well_formed of.via.0 in') in
      let to = level_stage of.name.cell.0 of.within of.other in
      let whole : (u : CellId) × (producer_of cells (arc_of cells of.name of.via).name ≡ Some u) × (difference (node_stages cells) (arc_of cells of.name of.via) ≡ rise_of cells (arc_of cells of.name of.via) u) =
      (of.via, of.fed, ap (λ z. z -ℤ node_stages cells (node_place cells (origin cells of.via.0))) to ∙ ap (λ z. pos (stage_of cells of.name.cell.0) -ℤ z) from) in
      subst (λ (a : SkeletonArc). (u : CellId) × (producer_of cells a.name ≡ Some u) × (difference (node_stages cells) a ≡ rise_of cells a u)) (sym of.is) whole

pub ends_have_stages : EndsHaveStages
ends_have_stages cells well_formed level k d l = end_stages cells well_formed level (get_or (arcs cells) k d) (all_arcs cells k d l)

-- cells of one node have one mark, and one stage where they are balanced
module _ (cells : List Cell) (well_formed : WellFormed cells) (balanced : IsBalanced cells) where
  node_stage : (c : ℕ) → c < length cells → is_buf cells c ≡ false → node_stages cells (node_place cells c) ≡ pos (stage_of cells c)
  node_stage c within other = level_stage cells well_formed balanced.nodes c within other

  -- a marked cell is no BUF cell
  marked_other : (c : ℕ) → c < length cells → mark_of cells c ≢ 0 → is_buf cells c ≡ false
  marked_other c within marked = elim (cases_Bool (is_buf cells c)) [
    | inl buf ↦ absurd (marked (well_formed.buffer c within buf).unmarked)
    | inr other ↦ other
  ]

  -- cells of one mark have one stage
  stage_within : (c e : ℕ) → c < length cells → e < length cells → mark_of cells c ≢ 0 → mark_of cells c ≡ mark_of cells e → stage_of cells c ≡ stage_of cells e
  stage_within c e c_in e_in marked same =
      let first = loop_head c marked in
      let second = loop_head e (λ z. marked (same ∙ z)) in
      balanced.nodes c c_in ∙ ap (stage_of cells) (first ∙ ap (λ m. first_from (λ (cell : Cell). cell.mark == m) 0 cells) same ∙ sym second) ∙ sym (balanced.nodes e e_in)
    where
      loop_head : (c : ℕ) → mark_of cells c ≢ 0 → node_of cells c ≡ first_from (λ (cell : Cell). cell.mark == mark_of cells c) 0 cells
      loop_head c marked = ap (λ b. cond b c (first_from (λ (cell : Cell). cell.mark == mark_of cells c) 0 cells)) (ne_eqb (mark_of cells c) 0 marked)

  -- the two ends of an arc within a node are on a loop
  within_loop : (d : Dest) (u : CellId) → d.cell.0 < length cells → producer_of cells d ≡ Some u → same_node cells (origin cells u.0) d.cell.0 ≡ true
      → (mark_of cells u.0 ≢ 0) × (mark_of cells u.0 ≡ mark_of cells d.cell.0)
  within_loop d u within fed same =
      let o = origin cells u.0 in
      let c = d.cell.0 in
      let in' = fed_within cells well_formed d u within fed in
      let arc : Reaches cells u.0 c = ([], (d.port.0, u, fed, refl)) in
      let comes = origin_comes cells well_formed u.0 in' in
      elim (or_cases (o == c) (not (mark_of cells o == 0) && (mark_of cells o == mark_of cells c)) same) [
        | inl one ↦
            let e = eqb-true o c one in
            on_cycle u.0 c in' arc (reaches_then cells u.0 c u.0 arc (subst (λ k. Comes cells k u.0) e comes)) (ap (mark_of cells) e)
        | inr two ↦
            let parts = and_parts (not (mark_of cells o == 0)) (mark_of cells o == mark_of cells c) two in
            let marks = eqb-true (mark_of cells o) (mark_of cells c) parts.1 in
            let marked : mark_of cells c ≢ 0 = λ z. both_ways (not (mark_of cells o == 0)) (ap not (eq-eqb (mark_of cells o) 0 (marks ∙ z))) parts.0 in
            let back = well_formed.loop.together c o marked (sym marks) in
            on_cycle u.0 c in' arc (reaches_then cells u.0 o u.0 (joined cells u.0 c o arc back) comes) marks
      ]
    where
      on_cycle : (v c : ℕ) → v < length cells → Reaches cells v c → Reaches cells v v → mark_of cells (origin cells v) ≡ mark_of cells c
          → (mark_of cells v ≢ 0) × (mark_of cells v ≡ mark_of cells c)
      on_cycle v c v_in arc cycle marks =
          let marked = well_formed.loop.marked v cycle in
          let own = own_origin cells v (marked_other v v_in marked) in
          (marked, ap (mark_of cells) (sym own) ∙ marks)

  one_in : {A : Type 0} (x : A) → Contains (x ∷ []) x
  one_in x = (0, omega arith, refl)

  contained : (d : Dest) (u : CellId) → d.cell.0 < length cells → is_buf cells d.cell.0 ≡ false → producer_of cells d ≡ Some u → same_node cells (origin cells u.0) d.cell.0 ≡ false
      → Contains (arcs cells) (arc_of cells d u)
  contained d u within other fed apart =
      let a = arc_of cells d u in
      let c = d.cell.0 in
      let here : Contains (arc_from cells d (producer_of cells d)) a =
      subst (λ o. Contains (arc_from cells d o) a) (sym fed) (subst (λ b. Contains (cond b [] (a ∷ [])) a) (sym apart) (one_in a)) in
      let port = (fed_port cells d u fed).1 in
      let at : Contains (arcs_at_ports cells c) a = in_pieces (λ p. arc_from cells (port_of c p) (producer_of cells (port_of c p))) (length (cell_at cells c).ports) d.port.0 a port here in
      in_pieces (arcs_into cells) (length cells) c a within (subst (λ b. Contains (cond b [] (arcs_at_ports cells c)) a) (sym other) at)

  balanced_in : (arc : SkeletonArc) → Contains (arcs cells) arc → IsBalancedArc (node_stages cells) arc
  balanced_in arc (k, h, e) = subst (λ (a : SkeletonArc). IsBalancedArc (node_stages cells) a) (sym (get_or_default (arcs cells) k arc arc h) ∙ e) (balanced.arcs k arc h)

  -- from the cell at which a skeleton arc begins to that at which it ends
  stage_rises : (d : Dest) (u : CellId) → d.cell.0 < length cells → is_buf cells d.cell.0 ≡ false → producer_of cells d ≡ Some u → same_node cells (origin cells u.0) d.cell.0 ≡ false
      → stage_of cells d.cell.0 + 2 * merge_part cells d ≡ stage_of cells (origin cells u.0) + 1 + 2 * gate_part cells (origin cells u.0) + buffers_from cells u.0
  stage_rises d u within other fed apart =
      let o = origin cells u.0 in
      let in' = fed_within cells well_formed d u within fed in
      let o_in = origin_within cells well_formed u.0 in' in
      let e = balanced_in (arc_of cells d u) (contained d u within other fed apart) in
      let to = node_stage d.cell.0 within other in
      let from = node_stage o o_in (begins cells well_formed u.0 in') in
      whole (stage_of cells d.cell.0) (stage_of cells o) (gate_part cells o) (merge_part cells d) (buffers_from cells u.0) _ _ to from e
    where
      whole : (t f g m b : ℕ) (x y : ℤ) → x ≡ pos t → y ≡ pos f → x -ℤ y ≡ (pos 1 +ℤ pos 2 *ℤ (pos g -ℤ pos m)) +ℤ pos b → t + 2 * m ≡ f + 1 + 2 * g + b
      whole t f g m b x y p q r = omega (arith, ints)

  buffer_kind : (it : Kind) → is_buffer it ≡ true → it ≡ kind.Buf
  buffer_kind kind.Buf e = refl
  buffer_kind _ e = cc

  pub no_gate : (c : ℕ) → is_buf cells c ≡ true → gate_part cells c ≡ 0
  unfolding gate_part
  no_gate c buf = ap (λ it. gate_place (family it) (controls cells c)) (buffer_kind (cell_at cells c).kind buf)

  no_merge : (d : Dest) → is_buf cells d.cell.0 ≡ true → merge_part cells d ≡ 0
  unfolding merge_part
  no_merge d buf = ap (λ it. merge_place (family it) d.port.0 (controls cells d.cell.0)) (buffer_kind (cell_at cells d.cell.0).kind buf)

  pub height_buffer : (c : ℕ) → is_buf cells c ≡ true → height cells c ≡ stage_of cells c + 2 * gate_part cells (origin cells c)
  height_buffer c buf = ap (λ b. stage_of cells c + cond b (2 * gate_part cells (origin cells c)) 0) buf

  pub height_other : (c : ℕ) → is_buf cells c ≡ false → height cells c ≡ stage_of cells c
  height_other c other = ap (λ b. stage_of cells c + cond b (2 * gate_part cells (origin cells c)) 0) other ∙ omega arith

  -- the first part of a gate, seen from the cell behind it
  gate_seen : (u : ℕ) → u < length cells → height cells u + 2 * gate_part cells u ≡ stage_of cells u + 2 * gate_part cells (origin cells u)
  gate_seen u within = by (is_buf cells u) refl
    where
      by : (b : Bool) → is_buf cells u ≡ b → height cells u + 2 * gate_part cells u ≡ stage_of cells u + 2 * gate_part cells (origin cells u)
      by true buf = let h = height_buffer u buf in let z = no_gate u buf in omega arith
      by false other = let h = height_other u other in let o = ap (gate_part cells) (own_origin cells u other) in omega arith

  -- an arc into a BUF cell comes to its one port
  pub buffer_fed : (d : Dest) (u : CellId) → is_buf cells d.cell.0 ≡ true → producer_of cells d ≡ Some u → producer_of cells (port_of d.cell.0 0) ≡ Some u
  buffer_fed d u buf fed =
      let within = (fed_port cells d u fed).0 in
      let shape = (well_formed.shaped.each d.cell.0 no_cell within).ports in
      let one : port_count (cell_at cells d.cell.0).kind ≡ 1 = ap port_count (buffer_kind (cell_at cells d.cell.0).kind buf) in
      let few = (fed_port cells d u fed).1 in
      let first : d.port.0 ≡ 0 = omega arith in
      ap (λ p. producer_of cells (port_of d.cell.0 p)) (sym first) ∙ fed

  -- over each arc the height rises by one, and by twice the shift
  pub height_over : (d : Dest) (u : CellId) → producer_of cells d ≡ Some u → same_node cells (origin cells u.0) d.cell.0 ≡ false
      → height cells d.cell.0 + 2 * merge_part cells d ≡ height cells u.0 + 1 + 2 * gate_part cells u.0
  height_over d u fed apart = by (is_buf cells d.cell.0) refl
    where
      within : d.cell.0 < length cells
      within = (fed_port cells d u fed).0

      in' : u.0 < length cells
      in' = fed_within cells well_formed d u within fed

      by : (b : Bool) → is_buf cells d.cell.0 ≡ b → height cells d.cell.0 + 2 * merge_part cells d ≡ height cells u.0 + 1 + 2 * gate_part cells u.0
      by false other =
          let h = height_other d.cell.0 other in
          let s = stage_rises d u within other fed apart in
          let f = stage_from cells well_formed balanced u.0 in' in
          let g = gate_seen u.0 in' in
          omega arith
      by true buf =
          let on = well_formed.buffer d.cell.0 within buf in
          let h = height_buffer d.cell.0 buf in
          let z = no_merge d buf in
          let shape = (well_formed.shaped.each d.cell.0 no_cell within).ports in
          let one : port_count (cell_at cells d.cell.0).kind ≡ 1 = ap port_count (buffer_kind (cell_at cells d.cell.0).kind buf) in
          let few = (fed_port cells d u fed).1 in
          let first : d.port.0 ≡ 0 = omega arith in
          let fed0 : producer_of cells (port_of d.cell.0 0) ≡ Some u = ap (λ p. producer_of cells (port_of d.cell.0 p)) (sym first) ∙ fed in
          let up = balanced.buffers d.cell.0 u buf fed0 in
          let o = ap (gate_part cells) (buffer_origin cells well_formed d.cell.0 u within buf fed0) in
          let g = gate_seen u.0 in' in
          omega arith

  -- over an arc within a loop it stays
  pub height_stays : (d : Dest) (u : CellId) → producer_of cells d ≡ Some u → same_node cells (origin cells u.0) d.cell.0 ≡ true
      → (mark_of cells u.0 ≢ 0) × (mark_of cells u.0 ≡ mark_of cells d.cell.0) × (height cells u.0 ≡ height cells d.cell.0)
  height_stays d u fed same =
      let within = (fed_port cells d u fed).0 in
      let in' = fed_within cells well_formed d u within fed in
      let marks = within_loop d u within fed same in
      let h = height_other u.0 (marked_other u.0 in' marks.0) in
      let g = height_other d.cell.0 (marked_other d.cell.0 within (λ z. marks.0 (marks.1 ∙ z))) in
      (marks.0, marks.1, h ∙ stage_within u.0 d.cell.0 in' within marks.0 marks.1 ∙ sym g)

pub heights_rise : HeightsRise
heights_rise cells well_formed balanced d u fed apart = height_over cells well_formed balanced d u fed apart

pub heights_stay : HeightsStay
heights_stay cells well_formed balanced d u fed same = height_stays cells well_formed balanced d u fed same
