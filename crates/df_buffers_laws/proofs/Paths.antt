-- BUF cells on arcs between nodes change no loop: old cells reach one another as before, and no BUF cell is on a loop.
use Rattle.std.proofs.Common.{◌≡◌, ◌≢◌, ℕ, zero, suc, ◌<◌, ◌≤◌, eqb, ◌==◌, ◌&&◌, ◌||◌, not, true, false, List, [], ◌∷◌, ◌++◌, length, Some, None, ◌⊎◌, inl, inr, refl, sym, ap, subst, ◌∙◌, arith, eq-eqb}
use Rattle.std.specs.Prelude.{slice_get}
use Rattle.std.proofs.lemmas.Bool.{cases_lt, or_right, and_from, ne_eqb}
use Rattle.std.proofs.lemmas.List.{get_or_past}
use Rattle.std.proofs.lemmas.Option.{same_Some}
use Rattle.df_cells.specs.declared.cells.CellId.{CellId}
use Rattle.df_cells.specs.declared.cells.Cell.{Cell}
use Rattle.df_cells.specs.declared.cells.Dest.{Dest}
use Rattle.df_cells.specs.declared.cells.Feed.{Feed}
use Rattle.df_cells.specs.Cells.{no_cell, cell_from, port_of, producer_of}
use Rattle.df_cells.specs.Shifts.{origin}
use Rattle.df_cells.specs.Paths.{HasArc, IsPath, Reaches, AreMarks, mark_of, HasMarks}
use Rattle.df_stages.specs.Nodes.{same_node}
use Rattle.df_buffers_laws.specs.Buffered.{IsBuffered}
use Rattle.df_buffers_laws.proofs.Origins.{home, own, buf_feed, was_fed, is_fed, buf_origin}

-- where a BUF cell feeds an old port, the cell from which its values come is in another node
abbrev pub StandBetweenNodes : List Cell → List Cell → Type 0
StandBetweenNodes old new =
    (d : Dest) (u : CellId) → d.cell.0 < length old → producer_of new d ≡ Some u → length old ≤ u.0
    → same_node old (origin new u.0) d.cell.0 ≡ false

-- ---- any cells

path-append : (cells : List Cell) (u v w : ℕ) (first second : List ℕ) → IsPath cells u first v → IsPath cells v second w
    → IsPath cells u (first ++ v ∷ second) w
path-append cells u v w [] second one two = (one, two)
path-append cells u v w (x ∷ first) second one two = (one.0, path-append cells x v w first second one.1 two)

joins : (cells : List Cell) (u v w : ℕ) → Reaches cells u v → Reaches cells v w → Reaches cells u w
joins cells u v w one two = (one.0 ++ v ∷ two.0, path-append cells u v w one.0 two.0 one.1 two.1)

fed_reaches : (cells : List Cell) (v p : ℕ) (u : CellId) → producer_of cells (port_of v p) ≡ Some u
    → Reaches cells u.0 v
fed_reaches cells v p u fed = ([], (p, u, fed, refl))

-- nothing leads to a cell that is not there
pub none_past : (cells : List Cell) (c : ℕ) → length cells ≤ c → (p : ℕ) (u : CellId)
    → producer_of cells (port_of c p) ≡ Some u → ⊥
none_past cells c past p u fed =
    let none : producer_of cells (port_of c p) ≡ None =
    ap (λ (cell : Cell). cell_from (slice_get cell.ports p)) (get_or_past cells c no_cell past) in
    let e : Some u ≡ None = sym fed ∙ none in cc

target_inside : (cells : List Cell) (u v : ℕ) → HasArc cells u v → v < length cells
target_inside cells u v (p, w, fed, at) = elim (cases_lt v (length cells)) [
  | inl inside ↦ inside
  | inr past ↦ absurd (none_past cells v past p w fed)
]

end_inside : (cells : List Cell) (u : ℕ) (between : List ℕ) (v : ℕ) → IsPath cells u between v → v < length cells
end_inside cells u [] v path = target_inside cells u v path
end_inside cells u (w ∷ between) v path = end_inside cells w between v path.1

module _ (old new : List Cell) (count : Dest → ℕ) (is : IsBuffered old new count) where
  -- ---- from the old cells to the new

  walks : (m u v : ℕ) → u ≤ m → u < length new → Reaches new u v → Reaches new (origin new u) v
  walks zero u v h inside path = elim (cases_lt u (length old)) [
    | inl there ↦ subst (λ k. Reaches new k v) (sym (own old new count is u there)) path
    | inr behind ↦ let less = (buf_feed old new count is u behind inside).2 in absurd (omega arith)
  ]
  walks (suc m) u v h inside path = elim (cases_lt u (length old)) [
    | inl there ↦ subst (λ k. Reaches new k v) (sym (own old new count is u there)) path
    | inr behind ↦
        let fed = buf_feed old new count is u behind inside in
        let less = fed.2 in
        subst (λ k. Reaches new k v) (sym (buf_origin old new count is u fed.0 behind inside fed.1 less))
        (walks m fed.0.0 v (omega arith) (omega arith) (joins new fed.0.0 u v (fed_reaches new u 0 fed.0 fed.1) path))
  ]

  arc_there : (u v : ℕ) → v < length old → HasArc old u v → Reaches new u v
  arc_there u v inside (p, w, fed, at) =
      let now = is_fed old new count is (port_of v p) w inside fed in
      subst (λ k. Reaches new k v) (now.2 ∙ at)
      (walks now.0.0 now.0.0 v (omega arith) (is.within v p now.0 now.1) (fed_reaches new v p now.0 now.1))

  path_there : (u : ℕ) (between : List ℕ) (v : ℕ) → IsPath old u between v → Reaches new u v
  path_there u [] v path = arc_there u v (target_inside old u v path) path
  path_there u (w ∷ between) v path =
      joins new u w v (arc_there u w (target_inside old u w path.0) path.0) (path_there w between v path.1)

  pub there : (u v : ℕ) → Reaches old u v → Reaches new u v
  there u v (between, path) = path_there u between v path

  -- ---- from the new cells to the old

  -- over BUF cells alone
  record Onward (x y : ℕ) : Type 0 where
    origins : origin new x ≡ origin new y
    behind : length old ≤ y
    less : x < y

  -- over BUF cells to the port p of an old cell w, which v feeds, and from there on
  record Met (x y : ℕ) : Type 0 where
    w : ℕ
    p : ℕ
    v : CellId
    inside : w < length old
    fed : producer_of new (port_of w p) ≡ Some v
    origins : origin new v.0 ≡ origin new x
    buffer : length old ≤ x → length old ≤ v.0
    rest : (w ≡ origin new y) ⊎ Reaches old w (origin new y)

  met_arc : (x y : ℕ) (met : Met x y) → Reaches old (origin new x) met.w
  met_arc x y met =
      subst (λ k. Reaches old k met.w) met.origins
      (fed_reaches old met.w met.p (home new met.v)
      (was_fed old new count is (port_of met.w met.p) met.v met.inside met.fed))

  met_end : (x y : ℕ) → Met x y → Reaches old (origin new x) (origin new y)
  met_end x y met = elim met.rest [
    | inl here ↦ subst (Reaches old (origin new x)) here (met_arc x y met)
    | inr more ↦ joins old (origin new x) met.w (origin new y) (met_arc x y met) more
  ]

  pub only_feed : (b p : ℕ) (v : CellId) → (behind : length old ≤ b) (inside : b < length new)
      → producer_of new (port_of b p) ≡ Some v → v.0 ≡ (buf_feed old new count is b behind inside).0.0
  only_feed b zero v behind inside fed =
      let first = buf_feed old new count is b behind inside in
      ap (λ (k : CellId). k.0) (same_Some v first.0 (sym fed ∙ first.1))
  only_feed b (suc p) v behind inside fed =
      let none = ap (λ (ports : List Feed). cell_from (slice_get ports (suc p))) (is.chains b behind inside).1 in
      absurd (cc)

  step : (x y : ℕ) → HasArc new x y → Onward x y ⊎ Met x y
  step x y (p, v, fed, at) = elim (cases_lt y (length old)) [
    | inl there ↦ inr (record {
      w = y;
      p = p;
      v = v;
      inside = there;
      fed = fed;
      origins = ap (origin new) at;
      buffer = λ h. subst (λ k. length old ≤ k) (sym at) h;
      rest = inl (sym (own old new count is y there));
    })
    | inr behind ↦
        let inside = target_inside new x y (p, v, fed, at) in
        let feed = buf_feed old new count is y behind inside in
        let same = sym at ∙ only_feed y p v behind inside fed in
        let less = feed.2 in
        inl (record {
          origins = ap (origin new) same ∙ sym (buf_origin old new count is y feed.0 behind inside feed.1 less);
          behind = behind;
          less = subst (λ k. k < y) (sym same) less;
        })
  ]

  after : (x z y : ℕ) → Onward x z ⊎ Met x z → Onward z y ⊎ Met z y → Onward x y ⊎ Met x y
  after x z y (inl one) (inl two) =
      inl (record {
        origins = one.origins ∙ two.origins;
        behind = two.behind;
        less = let a = one.less in let b = two.less in omega arith;
      })
  after x z y (inl one) (inr two) = inr (record {
    w = two.w;
    p = two.p;
    v = two.v;
    inside = two.inside;
    fed = two.fed;
    origins = two.origins ∙ sym one.origins;
    buffer = λ h. two.buffer one.behind;
    rest = two.rest;
  })
  after x z y (inr one) two = inr (record {
    w = one.w;
    p = one.p;
    v = one.v;
    inside = one.inside;
    fed = one.fed;
    origins = one.origins;
    buffer = one.buffer;
    rest = by one.rest two;
  })
    where
      by : (one.w ≡ origin new z) ⊎ Reaches old one.w (origin new z) → Onward z y ⊎ Met z y
          → (one.w ≡ origin new y) ⊎ Reaches old one.w (origin new y)
      by (inl at) (inl on) = inl (at ∙ on.origins)
      by (inl at) (inr met) = inr (subst (λ k. Reaches old k (origin new y)) (sym at) (met_end z y met))
      by (inr way) (inl on) = inr (subst (Reaches old one.w) on.origins way)
      by (inr way) (inr met) = inr (joins old one.w (origin new z) (origin new y) way (met_end z y met))

  along : (x : ℕ) (between : List ℕ) (y : ℕ) → IsPath new x between y → Onward x y ⊎ Met x y
  along x [] y path = step x y path
  along x (z ∷ between) y path = after x z y (step x z path.0) (along z between y path.1)

  pub back : (u v : ℕ) → u < length old → v < length old → Reaches new u v → Reaches old u v
  back u v here there (between, path) = elim (along u between v path) [
    | inl on ↦ let behind = on.behind in absurd (omega arith)
    | inr met ↦
        subst (λ k. Reaches old k v) (own old new count is u here)
        (subst (Reaches old (origin new u)) (own old new count is v there) (met_end u v met))
  ]

  -- ---- loops and marks

  module _ (marks : HasMarks old) (between : StandBetweenNodes old new) where
    not_one : (u v : ℕ) → (v ≡ u) ⊎ Reaches old v u → Reaches old u v → same_node old u v ≡ true
    not_one u v (inl same) way =
        ap (λ b. b || (not (mark_of old u == 0) && (mark_of old u == mark_of old v))) (eq-eqb u v (sym same))
    not_one u v (inr home) way =
        let some = marks.marked u (joins old u v u way home) in
        let one = marks.one_mark u v way home in
        or_right (eqb u v) (not (eqb (mark_of old u) 0) && eqb (mark_of old u) (mark_of old v))
        (and_from (not (eqb (mark_of old u) 0)) (eqb (mark_of old u) (mark_of old v))
        (ap not (ne_eqb (mark_of old u) 0 some)) (eq-eqb (mark_of old u) (mark_of old v) one))

    pub no_loop : (b : ℕ) → length old ≤ b → Reaches new b b → ⊥
    no_loop b behind (steps, path) = elim (along b steps b path) [
      | inl on ↦ let less = on.less in absurd (omega arith)
      | inr met ↦
          let apart = between (port_of met.w met.p) met.v met.inside met.fed (met.buffer behind) in
          let same = not_one (origin new b) met.w met.rest (met_arc b b met) in
          let e : true ≡ false = sym same ∙ ap (λ k. same_node old k met.w) (sym met.origins) ∙ apart in cc
    ]

    loop_inside : (c : ℕ) → Reaches new c c → c < length old
    loop_inside c loop = elim (cases_lt c (length old)) [
      | inl here ↦ here
      | inr behind ↦ absurd (no_loop c behind loop)
    ]

    marked_inside : (c : ℕ) → mark_of old c ≢ 0 → c < length old
    marked_inside c some = let loop = marks.cyclic c some in end_inside old c loop.0 c loop.1

    -- the old marks are right marks, with 0 for the BUF cells
    pub marks_stay : AreMarks new (mark_of old)
    marks_stay = record {
      cyclic = λ c some. there c c (marks.cyclic c some);
      marked = λ c loop. let here = loop_inside c loop in marks.marked c (back c c here here loop);
      together = λ c d some one. there c d (marks.together c d some one);
      one_mark = λ c d there' home.
          let here = loop_inside c (joins new c d c there' home) in
          let also = loop_inside d (joins new d c d home there') in
          marks.one_mark c d (back c d here also there') (back d c also here home);
      in_order = marks.in_order;
    }
