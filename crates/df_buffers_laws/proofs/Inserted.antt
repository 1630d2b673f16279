-- What one insertion after the other gives, over BUF cells.
use Rattle.std.proofs.Common.{◌≡◌, ℕ, zero, suc, ◌+◌, ◌-◌, ◌<◌, ◌≤◌, Bool, false, cond, List, [], ◌∷◌, ◌++◌, map, length, get_or, All, Some, inl, inr, refl, sym, ap, subst, ◌∙◌, arith}
use Rattle.std.specs.Prelude.{slice_get}
use Rattle.std.specs.List.{count_by}
use Rattle.std.proofs.lemmas.Bool.{cases_lt, le-ltb}
use Rattle.std.proofs.lemmas.List.{length-map}
use Rattle.std.proofs.lemmas.Option.{same_Some}
use Rattle.df_cells.specs.declared.cells.CellId.{CellId}
use Rattle.df_cells.specs.declared.cells.Cell.{Cell}
use Rattle.df_cells.specs.declared.cells.Dest.{Dest}
use Rattle.df_cells.specs.declared.cells.Feed.{Feed}
use Rattle.df_cells.specs.declared.cells.Feed.TheVariants.{Arc, Constant, Loaded}
use Rattle.df_cells.specs.declared.kinds.Kind.TheVariants as kind
use Rattle.df_cells.specs.Kinds.{is_buffer}
use Rattle.df_cells.specs.Cells.{cell_at, cell_from, feed_of, port_of, producer_of, is_buf, same_port}
use Rattle.df_cells.specs.Shifts.{cell_or, back, back_over, origin, buffers_over, buffers_from}
use Rattle.df_labels.specs.Graphs.{Node, node_at, node_of, graph_of}
use Rattle.df_labels.specs.Finishing.{ArcsWithin, HasNoBuffers}
use Rattle.df_buffers_laws.specs.Insertions.{inserted}
use Rattle.df_buffers_laws.specs.Buffered.{over_buffers, FeedsOne, IsBuffered}
use Rattle.df_buffers_laws.specs.HasSkeleton.{met_over, met_from, buffers_on}
use Rattle.df_buffers_laws.proofs.Origins.{back_moves, back_stays, stays}
use Rattle.df_buffers_laws.proofs.Ports.{places}
use Rattle.df_buffers_laws.proofs.Insertion.{over, feeds, Placed, IsBufferNode}
use Rattle.df_buffers_laws.proofs.Tables.{IsFed, fed_inside, node_is, same_feeds, home, depth, chain, own_home, own_depth, own_chain, ArePlacedAndUsed, whole}

abbrev bit : Bool → ℕ
bit b = cond b 1 0

pub no_buffers : (cells : List Cell) (n c : ℕ) → is_buf cells c ≡ false → buffers_over cells n c ≡ 0
no_buffers cells zero c e = refl
no_buffers cells (suc n) c e =
    let here : bit (is_buf cells c) ≡ 0 = ap bit e in
    let rest = ap (buffers_over cells n) (back_stays cells c e) ∙ no_buffers cells n c e in omega arith

over_same : (cells : List Cell) (feeds : List Feed) → map (over_buffers cells) feeds ≡ map (over (origin cells)) feeds
over_same cells [] = refl
over_same cells (Constant v ∷ feeds) = ap (λ l. Constant v ∷ l) (over_same cells feeds)
over_same cells (Arc w ∷ feeds) = ap (λ l. Arc (record { 0 = origin cells w.0 }) ∷ l) (over_same cells feeds)
over_same cells (Loaded w v ∷ feeds) = ap (λ l. Loaded (record { 0 = origin cells w.0 }) v ∷ l) (over_same cells feeds)

module _ (old : List Cell) (plain : HasNoBuffers old) (arcs : ArcsWithin old) (all : List Dest) (new : List Cell)
    (graph : graph_of new ≡ inserted (graph_of old) all) (fed : All (IsFed old) all) where
  end : ArePlacedAndUsed old arcs all all (graph_of new)
  end = subst (ArePlacedAndUsed old arcs all all) (sym graph) (whole old arcs all fed)

  placed : Placed old (home old arcs all) (depth old arcs all) (chain old arcs all) all (graph_of new)
  placed = end.placed

  long : length (graph_of new) ≡ length new
  long = length-map new node_of

  pub new_length : length new ≡ length old + length all
  new_length = sym long ∙ placed.count

  kind_is : (c : ℕ) → (node_at (graph_of new) c).kind ≡ (cell_at new c).kind
  kind_is c = ap (λ (n : Node). n.kind) (node_is new c)

  ports_are : (c : ℕ) → (node_at (graph_of new) c).ports ≡ (cell_at new c).ports
  ports_are c = ap (λ (n : Node). n.ports) (node_is new c)

  feeds_are : (e : Dest) → feeds (graph_of new) e ≡ feed_of new e
  feeds_are e = ap (λ (l : List Feed). slice_get l e.port.0) (ports_are e.cell.0)

  new_kinds : (c : ℕ) → c < length old → (cell_at new c).kind ≡ (cell_at old c).kind
  new_kinds c h = sym (kind_is c) ∙ placed.kinds c h

  plain_new : (c : ℕ) → c < length old → is_buf new c ≡ false
  plain_new c h = ap is_buffer (new_kinds c h) ∙ plain c h

  -- ---- BUF cells

  other : (b : ℕ) → length old ≤ b → b < length new
      → IsBufferNode (home old arcs all) (depth old arcs all) (chain old arcs all) (node_at (graph_of new) b) b
  other b behind h = placed.others b behind (omega (arith, long))

  other_kind : (b : ℕ) (behind : length old ≤ b) (h : b < length new) → (cell_at new b).kind ≡ kind.Buf
  other_kind b behind h = sym (kind_is b) ∙ ap (λ (n : Node). n.kind) (other b behind h).is

  other_ports : (b : ℕ) (behind : length old ≤ b) (h : b < length new)
      → (cell_at new b).ports ≡ Arc (other b behind h).from ∷ []
  other_ports b behind h = sym (ports_are b) ∙ ap (λ (n : Node). n.ports) (other b behind h).is

  moves : (b : ℕ) (behind : length old ≤ b) (h : b < length new) → back new b ≡ (other b behind h).from.0
  moves b behind h =
      back_moves new b (other b behind h).from (ap is_buffer (other_kind b behind h))
      (ap (λ (l : List Feed). cell_from (slice_get l 0)) (other_ports b behind h))

  -- ---- the tables are what is found on the way back

  homeward : (m c : ℕ) → c ≤ m → c < length new → back_over new m c ≡ home old arcs all c
  homeward zero c few h = elim (cases_lt c (length old)) [
    | inl here ↦ stays new zero c (plain_new c here) ∙ sym (own_home old arcs all c here)
    | inr behind ↦ let less = (other c behind h).less in absurd (omega arith)
  ]
  homeward (suc m) c few h = elim (cases_lt c (length old)) [
    | inl here ↦ stays new (suc m) c (plain_new c here) ∙ sym (own_home old arcs all c here)
    | inr behind ↦
        let node = other c behind h in
        let less = node.less in
        ap (back_over new m) (moves c behind h) ∙ homeward m node.from.0 (omega arith) (omega arith) ∙ sym node.homes
  ]

  passed : (m c : ℕ) → c ≤ m → c < length new → buffers_over new m c ≡ depth old arcs all c
  passed zero c few h = elim (cases_lt c (length old)) [
    | inl here ↦ no_buffers new zero c (plain_new c here) ∙ sym (own_depth old arcs all c here)
    | inr behind ↦ let less = (other c behind h).less in absurd (omega arith)
  ]
  passed (suc m) c few h = elim (cases_lt c (length old)) [
    | inl here ↦ no_buffers new (suc m) c (plain_new c here) ∙ sym (own_depth old arcs all c here)
    | inr behind ↦
        let node = other c behind h in
        let less = node.less in
        let one : bit (is_buf new c) ≡ 1 = ap bit (ap is_buffer (other_kind c behind h)) in
        let rest = ap (buffers_over new m) (moves c behind h) ∙ passed m node.from.0 (omega arith) (omega arith) in
        let all = node.depths in omega arith
  ]

  met : (m c : ℕ) → c ≤ m → c < length new → met_over new m c ≡ chain old arcs all c
  met zero c few h = elim (cases_lt c (length old)) [
    | inl here ↦ sym (own_chain old arcs all c here)
    | inr behind ↦ let less = (other c behind h).less in absurd (omega arith)
  ]
  met (suc m) c few h = elim (cases_lt c (length old)) [
    | inl here ↦
        ap (λ b. cond b (met_over new m (back new c) ++ c ∷ []) []) (plain_new c here)
        ∙ sym (own_chain old arcs all c here)
    | inr behind ↦
        let node = other c behind h in
        let less = node.less in
        ap (λ b. cond b (met_over new m (back new c) ++ c ∷ []) []) (ap is_buffer (other_kind c behind h))
        ∙ ap (λ k. met_over new m k ++ c ∷ []) (moves c behind h)
        ∙ ap (λ l. l ++ c ∷ []) (met m node.from.0 (omega arith) (omega arith)) ∙ sym node.chains
  ]

  origin_home : (c : ℕ) → c < length new → origin new c ≡ home old arcs all c
  unfolding origin
  origin_home c h = homeward (length new) c (omega arith) h

  from_depth : (c : ℕ) → c < length new → buffers_from new c ≡ depth old arcs all c
  unfolding buffers_from
  from_depth c h = passed (length new) c (omega arith) h

  -- ---- what feeds old ports

  abbrev IsRight : Dest → CellId → Type 0
  IsRight d u = (depth old arcs all u.0 ≡ count_by (same_port d) all) × (u.0 < length new)
      × (chain old arcs all u.0 ≡ places (length old) d all)

  fed_old : (d : Dest) (u : CellId) → d.cell.0 < length old → producer_of new d ≡ Some u → IsRight d u
  fed_old d u h fed =
      let right = placed.fed d u h (ap cell_from (feeds_are d) ∙ fed) in
      (right.0, omega (arith, right.1, long), right.2)

  -- the BUF cells on the arc to an old port
  pub on_arcs : (d : Dest) (u : CellId) → d.cell.0 < length old → producer_of new d ≡ Some u
      → buffers_on new d ≡ places (length old) d all
  on_arcs d u h fed =
      let right = fed_old d u h fed in
      ap (met_from new) fed ∙ met (length new) u.0 (omega (arith, right.1)) right.1 ∙ right.2

  within_new : (c p : ℕ) (u : CellId) → producer_of new (port_of c p) ≡ Some u → u.0 < length new
  within_new c p u fed = elim (cases_lt c (length old)) [
    | inl here ↦ (fed_old (port_of c p) u here fed).1
    | inr behind ↦
        let h = fed_inside new (port_of c p) u fed in
        let less = (other c behind h).less in
        let at =
        only p (other c behind h).from
        (ap (λ (l : List Feed). cell_from (slice_get l p)) (sym (other_ports c behind h)) ∙ fed) in
        omega arith
  ]
    where
      only : (p : ℕ) (from : CellId) → cell_from (slice_get (Arc from ∷ []) p) ≡ Some u → from.0 ≡ u.0
      only zero from e = ap (λ (k : CellId). k.0) (same_Some from u e)
      only (suc p) from e = absurd (cc)

  -- ---- what BUF cells feed

  new_ends : (b : ℕ) → length old ≤ b → b < length new → FeedsOne new b
  new_ends b behind h =
      let used = end.used b behind (omega (arith, long)) in
      record {
        port = used.port;
        fed = ap cell_from (sym (feeds_are used.port)) ∙ used.fed;
        alone = λ e fed. used.alone e (ap cell_from (feeds_are e) ∙ fed);
      }

  new_stands : (b : ℕ) → length old ≤ b → b < length new
      → (d : Dest) × (producer_of old d ≡ Some (record { 0 = origin new b }))
  new_stands b behind h =
      let count = placed.count in
      let place : b - length old < length all = omega (arith, long) in
      let d = get_or all (b - length old) (port_of 0 0) in
      let is_fed = fed (b - length old) (port_of 0 0) place in
      let from : producer_of old d ≡ Some is_fed.0 = ap cell_from is_fed.1 in (
        d,
        from ∙ ap (λ k. Some (record { 0 = k })) (sym (ap (cell_or 0) from)
            ∙ sym (ap (λ t. cond t b (cell_or 0 (producer_of old d))) (le-ltb b (length old) behind))
            ∙ sym (origin_home b h)),
      )

  pub is_buffered : IsBuffered old new (λ d. count_by (same_port d) all)
  is_buffered = record {
    few = let count = placed.count in omega (arith, long);
    plain = plain;
    kinds = new_kinds;
    feeds = λ c h.
        over_same new (cell_at new c).ports
        ∙ same_feeds (origin new) (home old arcs all) (cell_at new c).ports
        (λ p u fed. origin_home u.0 (within_new c p u fed))
        ∙ ap (λ l. map (over (home old arcs all)) l) (sym (ports_are c)) ∙ placed.ports c h;
    counts = λ d u h fed. let right = fed_old d u h fed in from_depth u.0 right.1 ∙ right.0;
    others = λ b behind h. other_kind b behind h;
    chains = λ b behind h. ((other b behind h).from, other_ports b behind h, (other b behind h).less);
    within = within_new;
    ends = new_ends;
    stands = new_stands;
  }
