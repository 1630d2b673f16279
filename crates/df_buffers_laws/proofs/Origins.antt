-- From where cells with BUF cells on their arcs take their values.
use Rattle.std.proofs.Common.{◌≡◌, ℕ, zero, suc, ◌<◌, ◌≤◌, true, false, cond, List, [], ◌∷◌, length, Option, Some, None, refl, sym, ap, subst, ◌∙◌, inl, inr, arith}
use Rattle.std.specs.Prelude.{slice_get}
use Rattle.std.specs.Option.{option_map}
use Rattle.std.proofs.lemmas.Bool.{cases_lt}
use Rattle.std.proofs.lemmas.Option.{slice_get-map}
use Rattle.df_cells.specs.declared.cells.CellId.{CellId}
use Rattle.df_cells.specs.declared.cells.Cell.{Cell}
use Rattle.df_cells.specs.declared.cells.Dest.{Dest}
use Rattle.df_cells.specs.declared.cells.Feed.{Feed}
use Rattle.df_cells.specs.declared.cells.Feed.TheVariants.{Arc, Constant, Loaded}
use Rattle.df_cells.specs.Families.{family}
use Rattle.df_cells.specs.Kinds.{is_buffer}
use Rattle.df_cells.specs.Cells.{cell_at, cell_from, loaded_from, feed_of, is_buf, loaded_at, port_of, producer_of}
use Rattle.df_cells.specs.Shifts.{back, back_over, cell_or, origin, control_values, controls_from, controls, gate_place, gate_part, merge_place, merge_part}
use Rattle.df_buffers_laws.specs.Buffered.{over_buffers, IsBuffered}

-- ---- any cells

pub back_stays : (cells : List Cell) (c : ℕ) → is_buf cells c ≡ false → back cells c ≡ c
back_stays cells c e = ap (λ b. cond b (cell_or c (producer_of cells (port_of c 0))) c) e

pub back_moves : (cells : List Cell) (c : ℕ) (u : CellId) → is_buf cells c ≡ true
    → producer_of cells (port_of c 0) ≡ Some u → back cells c ≡ u.0
back_moves cells c u e fed = ap (λ b. cond b (cell_or c (producer_of cells (port_of c 0))) c) e ∙ ap (cell_or c) fed

pub stays : (cells : List Cell) (n c : ℕ) → is_buf cells c ≡ false → back_over cells n c ≡ c
stays cells zero c e = refl
stays cells (suc n) c e = ap (back_over cells n) (back_stays cells c e) ∙ stays cells n c e

pub origin_stays : (cells : List Cell) (c : ℕ) → is_buf cells c ≡ false → origin cells c ≡ c
unfolding origin
origin_stays cells c e = stays cells (length cells) c e

-- ---- cells with BUF cells on their arcs

abbrev pub home : List Cell → CellId → CellId
home cells u = record { 0 = origin cells u.0 }

over_producer : (cells : List Cell) (feed : Option Feed)
    → cell_from (option_map (over_buffers cells) feed) ≡ option_map (home cells) (cell_from feed)
over_producer cells None = refl
over_producer cells (Some (Arc u)) = refl
over_producer cells (Some (Constant v)) = refl
over_producer cells (Some (Loaded u v)) = refl

over_loaded : (cells : List Cell) (feed : Option Feed)
    → loaded_from (option_map (over_buffers cells) feed) ≡ loaded_from feed
over_loaded cells None = refl
over_loaded cells (Some (Arc u)) = refl
over_loaded cells (Some (Constant v)) = refl
over_loaded cells (Some (Loaded u v)) = refl

some_home : (cells : List Cell) (o : Option CellId) (u : CellId) → option_map (home cells) o ≡ Some u
    → (v : CellId) × (o ≡ Some v) × (origin cells v.0 ≡ u.0)
some_home cells None u e = cc
some_home cells (Some v) u e = (v, refl, ap (λ (o : CellId). o.0) (same v u e))
  where
    same : (v u : CellId) → Some (home cells v) ≡ Some u → home cells v ≡ u
    same v u e = cc

module _ (old new : List Cell) (count : Dest → ℕ) (is : IsBuffered old new count) where
  pub plain : (c : ℕ) → c < length old → is_buf new c ≡ false
  plain c h = ap is_buffer (is.kinds c h) ∙ is.plain c h

  pub buf : (b : ℕ) → length old ≤ b → b < length new → is_buf new b ≡ true
  buf b h l = ap is_buffer (is.others b h l)

  pub own : (c : ℕ) → c < length old → origin new c ≡ c
  own c h = origin_stays new c (plain c h)

  pub buf_feed : (b : ℕ) → length old ≤ b → b < length new
      → (u : CellId) × (producer_of new (port_of b 0) ≡ Some u) × (u.0 < b)
  buf_feed b h l =
      let chain = is.chains b h l in
      (chain.0, ap (λ (ports : List Feed). cell_from (slice_get ports 0)) chain.1, chain.2)

  -- what feeds an old port, over BUF cells, is what fed it before
  pub old_feed : (d : Dest) → d.cell.0 < length old → feed_of old d ≡ option_map (over_buffers new) (feed_of new d)
  old_feed d h =
      ap (λ (ports : List Feed). slice_get ports d.port.0) (sym (is.feeds d.cell.0 h))
      ∙ slice_get-map (over_buffers new) (cell_at new d.cell.0).ports d.port.0

  pub producers : (d : Dest) → d.cell.0 < length old → producer_of old d ≡ option_map (home new) (producer_of new d)
  producers d h = ap cell_from (old_feed d h) ∙ over_producer new (feed_of new d)

  -- and so is the value that lies there
  pub loads_stay : (d : Dest) → d.cell.0 < length old → loaded_at new d ≡ loaded_at old d
  loads_stay d h = sym (over_loaded new (feed_of new d)) ∙ ap loaded_from (sym (old_feed d h))

  pub buf_unloaded : (b p : ℕ) → length old ≤ b → b < length new → loaded_at new (port_of b p) ≡ None
  buf_unloaded b p h l =
      ap (λ (ports : List Feed). loaded_from (slice_get ports p)) (is.chains b h l).1 ∙ by p (is.chains b h l).0
    where
      by : (p : ℕ) (u : CellId) → loaded_from (slice_get (Arc u ∷ []) p) ≡ None
      by zero u = refl
      by (suc p) u = refl

  pub was_fed : (d : Dest) (u : CellId) → d.cell.0 < length old → producer_of new d ≡ Some u
      → producer_of old d ≡ Some (home new u)
  was_fed d u h fed = producers d h ∙ ap (option_map (home new)) fed

  pub is_fed : (d : Dest) (u : CellId) → d.cell.0 < length old → producer_of old d ≡ Some u
      → (v : CellId) × (producer_of new d ≡ Some v) × (origin new v.0 ≡ u.0)
  is_fed d u h fed = some_home new (producer_of new d) u (sym (producers d h) ∙ fed)

  -- so many steps back or more are as many as are needed
  settled : (m k c : ℕ) → c ≤ m → c ≤ k → c < length new → back_over new m c ≡ back_over new k c
  settled zero k c h l inside = elim (cases_lt c (length old)) [
    | inl there ↦ sym (stays new k c (plain c there))
    | inr behind ↦ let less = (buf_feed c behind inside).2 in absurd (omega arith)
  ]
  settled (suc m) zero c h l inside = elim (cases_lt c (length old)) [
    | inl there ↦ stays new (suc m) c (plain c there)
    | inr behind ↦ let less = (buf_feed c behind inside).2 in absurd (omega arith)
  ]
  settled (suc m) (suc k) c h l inside = elim (cases_lt c (length old)) [
    | inl there ↦ stays new (suc m) c (plain c there) ∙ sym (stays new (suc k) c (plain c there))
    | inr behind ↦
        let fed = buf_feed c behind inside in
        let less = fed.2 in
        let moves = back_moves new c fed.0 (buf c behind inside) fed.1 in
        ap (back_over new m) moves ∙ settled m k fed.0.0 (omega arith) (omega arith) (omega arith)
        ∙ sym (ap (back_over new k) moves)
  ]

  lands : (m c : ℕ) → c ≤ m → c < length new → back_over new m c < length old
  lands zero c h inside = elim (cases_lt c (length old)) [
    | inl there ↦ there
    | inr behind ↦ let less = (buf_feed c behind inside).2 in absurd (omega arith)
  ]
  lands (suc m) c h inside = elim (cases_lt c (length old)) [
    | inl there ↦ subst (λ k. k < length old) (sym (stays new (suc m) c (plain c there))) there
    | inr behind ↦
        let fed = buf_feed c behind inside in
        let less = fed.2 in
        subst (λ k. back_over new m k < length old) (sym (back_moves new c fed.0 (buf c behind inside) fed.1))
        (lands m fed.0.0 (omega arith) (omega arith))
  ]

  pub lands_there : (c : ℕ) → c < length new → origin new c < length old
  unfolding origin
  lands_there c h = lands (length new) c (omega arith) h

  -- a BUF cell takes its values from where those of its feed come
  pub buf_origin : (b : ℕ) (u : CellId) → length old ≤ b → b < length new → producer_of new (port_of b 0) ≡ Some u
      → u.0 < b → origin new b ≡ origin new u.0
  unfolding origin
  buf_origin b u behind inside fed less =
      let moves = back_moves new b u (buf b behind inside) fed in
      settled (length new) (suc (length new)) b (omega arith) (omega arith) inside
      ∙ ap (back_over new (length new)) moves

  -- ---- gates and MERGEs

  same_controls : (o : Option CellId) → ((u : CellId) → o ≡ Some u → u.0 < length new)
      → controls_from new o ≡ controls_from old (option_map (home new) o)
  same_controls None inside = refl
  same_controls (Some u) inside =
      let h = lands_there u.0 (inside u refl) in
      ap control_values (is.kinds (origin new u.0) h)
      ∙ ap (λ k. control_values (cell_at old k).kind)
      (sym (origin_stays old (origin new u.0) (is.plain (origin new u.0) h)))

  pub controls_stay : (c : ℕ) → c < length old → controls new c ≡ controls old c
  controls_stay c h =
      same_controls (producer_of new (port_of c 0)) (λ u fed. is.within c 0 u fed)
      ∙ ap (controls_from old) (sym (producers (port_of c 0) h))

  pub gates_stay : (c : ℕ) → c < length old → gate_part new c ≡ gate_part old c
  unfolding gate_part
  gates_stay c h =
      ap (λ k. gate_place (family k) (controls new c)) (is.kinds c h)
      ∙ ap (gate_place (family (cell_at old c).kind)) (controls_stay c h)

  pub merges_stay : (d : Dest) → d.cell.0 < length old → merge_part new d ≡ merge_part old d
  unfolding merge_part
  merges_stay d h =
      ap (λ k. merge_place (family k) d.port.0 (controls new d.cell.0)) (is.kinds d.cell.0 h)
      ∙ ap (merge_place (family (cell_at old d.cell.0).kind) d.port.0) (controls_stay d.cell.0 h)

  pub no_gate : (b : ℕ) → length old ≤ b → b < length new → gate_part new b ≡ 0
  unfolding gate_part
  no_gate b h l = ap (λ k. gate_place (family k) (controls new b)) (is.others b h l)

  pub no_merge : (b p : ℕ) → length old ≤ b → b < length new → merge_part new (port_of b p) ≡ 0
  unfolding merge_part
  no_merge b p h l = ap (λ k. merge_place (family k) p (controls new b)) (is.others b h l)
