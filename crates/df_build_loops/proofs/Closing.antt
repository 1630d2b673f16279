-- A loop that is closed: the MERGE is fed from its own zone, one turn later.
use Rattle.std.proofs.Common.{◌≡◌, ◌≢◌, ◌⊎◌, ◌<◌, ◌+◌, ℕ, zero, suc, Bool, true, false, List, [], ◌∷◌, length, set, Option, Some, None, refl, sym, subst, ap, inl, inr, arith, ◌∙◌}
use Rattle.std.specs.Prelude.{slice_get, ◌==◌}
use Rattle.std.proofs.lemmas.List.{get_or-set_same, get_or-set_other}
use Rattle.df_cells.specs.declared.cells.CellId.{CellId}
use Rattle.df_cells.specs.declared.cells.Feed.{Feed}
use Rattle.df_cells.specs.declared.kinds.Kind.{Kind}
use Rattle.df_cells.specs.declared.kinds.Kind.TheVariants as kind
use Rattle.df_cells.specs.Cells.{from_cell, cell_from}
use Rattle.df_cells.specs.Families.{family}
use Rattle.df_cells.specs.Kinds.{run_values}
use Rattle.df_cells.specs.Shifts.{control_values, first_truth, gate_place, merge_place}
use Rattle.df_labels.specs.declared.graphs.Flow.{Flow}
use Rattle.df_labels.specs.declared.graphs.Flow.TheVariants.{Constant, Cell}
use Rattle.df_labels.specs.Flows.{feed_of}
use Rattle.df_labels.specs.Graphs.{Graph, Node, node_at, no_node}
use Rattle.df_labels.specs.Patterns.{pattern}
use Rattle.df_build_cond.specs.Orderly.{controls_by, controls_in, gate_in, side_in, AreNeverFalse, StaysIn, KeepsZone, Orderly}
use Rattle.df_build_cond.specs.InZone.{Suits, FlowSuits, KeepsCells}
use Rattle.df_build_loops.specs.Frames.{closed}
use Rattle.df_build_loops.specs.Laws.{IsOpen}
use Rattle.df_build_loops.proofs.Arcs.{closed_length}
use Rattle.df_build_loops.proofs.Zones.{no_arc, the_cell}

pub open_more : (g h : Graph) (x y : List ℕ) (z n merge : ℕ) → KeepsCells g x h y → IsOpen g x z n merge → IsOpen h y z n merge
open_more g h x y z n merge k o =
    let less = o.there in
    let longer = k.longer in
    record {
      there = omega (arith, less, longer);
      merges = k.kind merge less ∙ o.merges;
      zone = k.zone merge less ∙ o.zone;
      controls = k.controls merge less ∙ o.controls;
    }

-- ---- feeding the last port of a MERGE

-- what feeds a port then fed it before, or it is the last of the MERGE
set_port : (ports : List Feed) (x y : Feed) (p : ℕ) → slice_get (set ports 2 x) p ≡ Some y → (slice_get ports p ≡ Some y) ⊎ ((p ≡ 2) × (x ≡ y))
set_port [] x y p is = inl is
set_port (a ∷ ports) x y zero is = inl is
set_port (a ∷ []) x y (suc p) is = inl is
set_port (a ∷ b ∷ ports) x y (suc zero) is = inl is
set_port (a ∷ b ∷ []) x y (suc (suc p)) is = inl is
set_port (a ∷ b ∷ c ∷ ports) x y (suc (suc zero)) is = inr (refl, cc)
set_port (a ∷ b ∷ c ∷ ports) x y (suc (suc (suc p))) is = inl is

port_arc : (ports : List Feed) (x : Feed) (p : ℕ) (u : CellId) → cell_from (slice_get (set ports 2 x) p) ≡ Some u
    → (cell_from (slice_get ports p) ≡ Some u) ⊎ ((p ≡ 2) × (from_cell x ≡ Some u))
port_arc ports x p u is = go (slice_get (set ports 2 x) p) refl
  where
    go : (o : Option Feed) → slice_get (set ports 2 x) p ≡ o → (cell_from (slice_get ports p) ≡ Some u) ⊎ ((p ≡ 2) × (from_cell x ≡ Some u))
    go None e = no_arc (sym (ap cell_from e) ∙ is)
    go (Some y) e = elim (set_port ports x y p e) [
      | inl old ↦ inl (ap cell_from old ∙ (sym (ap cell_from e) ∙ is))
      | inr new ↦ inr (new.0, ap from_cell new.1 ∙ (sym (ap cell_from e) ∙ is))
    ]

first_port : (ports : List Feed) (x : Feed) → slice_get (set ports 2 x) 0 ≡ slice_get ports 0
first_port [] x = refl
first_port (a ∷ ports) x = refl

module _ (g : Graph) (merge : ℕ) (next : Flow) (there : merge < length g) where
  abbrev x : Feed
  x = feed_of next

  abbrev fed_node : Node
  fed_node = let n = node_at g merge in record n { ports = set n.ports 2 x }

  abbrev h : Graph
  h = closed g merge next

  node_is : (c : ℕ) → (c ≡ merge) ⊎ (node_at h c ≡ node_at g c)
  node_is c = go (c == merge) refl
    where
      go : (t : Bool) → (c == merge) ≡ t → (c ≡ merge) ⊎ (node_at h c ≡ node_at g c)
      go true is = inl (grind (arith, is))
      go false is = let apart : c ≢ merge = grind (arith, is) in inr (get_or-set_other g merge c fed_node no_node apart)

  at_merge : node_at h merge ≡ fed_node
  at_merge = get_or-set_same g merge fed_node no_node there

  same_kind : (c : ℕ) → (node_at h c).kind ≡ (node_at g c).kind
  same_kind c = elim (node_is c) [
    | inl is ↦ subst (λ k. (node_at h k).kind ≡ (node_at g k).kind) (sym is) (ap (λ (n : Node). n.kind) at_merge)
    | inr is ↦ ap (λ (n : Node). n.kind) is
  ]

  same_first : (c : ℕ) → slice_get (node_at h c).ports 0 ≡ slice_get (node_at g c).ports 0
  same_first c = elim (node_is c) [
    | inl is ↦ subst (λ k. slice_get (node_at h k).ports 0 ≡ slice_get (node_at g k).ports 0) (sym is)
        (ap (λ (n : Node). slice_get n.ports 0) at_merge ∙ first_port (node_at g merge).ports x)
    | inr is ↦ ap (λ (n : Node). slice_get n.ports 0) is
  ]

  same_controls : (c : ℕ) → controls_in h c ≡ controls_in g c
  same_controls c = ap (λ o. controls_by h (cell_from o)) (same_first c) ∙ go (cell_from (slice_get (node_at g c).ports 0))
    where
      go : (o : Option CellId) → controls_by h o ≡ controls_by g o
      go None = refl
      go (Some u) = ap control_values (same_kind u.0)

  same_gate : (c : ℕ) → gate_in h c ≡ gate_in g c
  same_gate c = ap (λ (it : Kind). gate_place (family it) (controls_in h c)) (same_kind c) ∙ ap (gate_place (family (node_at g c).kind)) (same_controls c)

  same_side : (c p : ℕ) → side_in h c p ≡ side_in g c p
  same_side c p = ap (λ (it : Kind). merge_place (family it) p (controls_in h c)) (same_kind c) ∙ ap (merge_place (family (node_at g c).kind) p) (same_controls c)

  still_stays : (c p u : ℕ) → StaysIn g c p u → StaysIn h c p u
  still_stays c p u (inl f) = inl (same_gate u ∙ f.0, same_side c p ∙ f.1, f.2)
  still_stays c p u (inr (inl f)) = inr (inl (same_gate u ∙ f.0, same_side c p ∙ f.1, f.2))
  still_stays c p u (inr (inr f)) = inr (inr (f.0, f.1, subst AreNeverFalse (sym (same_controls c)) f.2))

  -- an arc was there, or is the new one
  arc_is : (c p : ℕ) (u : CellId) → cell_from (slice_get (node_at h c).ports p) ≡ Some u
      → (cell_from (slice_get (node_at g c).ports p) ≡ Some u) ⊎ ((c ≡ merge) × (p ≡ 2) × (from_cell x ≡ Some u))
  arc_is c p u is = elim (node_is c) [
    | inl e ↦ at e
    | inr same ↦ inl (sym (ap (λ (n : Node). cell_from (slice_get n.ports p)) same) ∙ is)
  ]
    where
      at : c ≡ merge → (cell_from (slice_get (node_at g c).ports p) ≡ Some u) ⊎ ((c ≡ merge) × (p ≡ 2) × (from_cell x ≡ Some u))
      at e =
          let was : cell_from (slice_get fed_node.ports p) ≡ Some u =
          sym (ap (λ (n : Node). cell_from (slice_get n.ports p)) at_merge) ∙ (sym (ap (λ k. cell_from (slice_get (node_at h k).ports p)) e) ∙ is) in
          elim (port_arc (node_at g merge).ports x p u was) [
            | inl old ↦ inl (ap (λ k. cell_from (slice_get (node_at g k).ports p)) e ∙ old)
            | inr new ↦ inr (e, new.0, new.1)
          ]

  kept : (zones : List ℕ) → KeepsCells g zones h zones
  kept zones =
      let same = closed_length g merge next in
      record { longer = omega (arith, same); zone = λ c less. refl; kind = λ c less. same_kind c; controls = λ c less. same_controls c }

-- the value that the MERGE is fed with
fed_by : (g : Graph) (zones : List ℕ) (z first : ℕ) (next : Flow) (u : CellId) → FlowSuits g zones z first next → from_cell (feed_of next) ≡ Some u → Suits g zones z first u.0
fed_by g zones z first (Constant v) u s is = no_arc is
fed_by g zones z first (Cell c) u s is = subst (Suits g zones z first) (sym (the_cell is)) s

-- the place of the first false in 1*true n*false, or there is none
side_or_never : (n : ℕ) → (first_truth false (run_values (pattern ((1, true) ∷ (n, false) ∷ []))) ≡ 1)
    ⊎ AreNeverFalse (run_values (pattern ((1, true) ∷ (n, false) ∷ [])))
side_or_never zero = inr (omega arith, (refl, tt))
side_or_never (suc n) = inl refl

pub closed_in : (g : Graph) (merge : ℕ) (next : Flow) (zones : List ℕ) (z n : ℕ) → Orderly zones g → IsOpen g zones z n merge → FlowSuits g zones z (merge + 1) next
    → Orderly zones (closed g merge next) × KeepsCells g zones (closed g merge next) zones
closed_in g merge next zones z n o opens suits = (
  record {
    count = let count = o.count in let same = closed_length g merge next in omega (arith, count, same);
    there = λ c p u is.
        let same = closed_length g merge next in
        elim (arc_is g merge next opens.there c p u is) [
          | inl old ↦ (let less = o.there c p u old in omega (arith, less, same))
          | inr new ↦ (let s = fed_by g zones z (merge + 1) next u suits new.2 in let less = s.there in omega (arith, less, same))
        ];
    arcs = λ c p u is. elim (arc_is g merge next opens.there c p u is) [
      | inl old ↦ elim (o.arcs c p u old) [ inl lower ↦ inl lower | inr both ↦ inr (both.0, still_stays g merge next opens.there c p u.0 both.1) ]
      | inr new ↦ subst (λ k. KeepsZone h zones k p u.0) (sym new.0) (subst (λ q. KeepsZone h zones merge q u.0) (sym new.1) (back u (fed_by g zones z (merge + 1) next u suits new.2)))
    ];
  },
  kept g merge next opens.there zones,
)
  where
    h : Graph
    h = closed g merge next

    controls : controls_in h merge ≡ run_values (pattern ((1, true) ∷ (n, false) ∷ []))
    controls = same_controls g merge next opens.there merge ∙ opens.controls

    merges : (node_at h merge).kind ≡ kind.Merge
    merges = same_kind g merge next opens.there merge ∙ opens.merges

    side : side_in h merge 2 ≡ first_truth false (run_values (pattern ((1, true) ∷ (n, false) ∷ [])))
    side = ap (λ (it : Kind). merge_place (family it) 2 (controls_in h merge)) merges ∙ ap (first_truth false) controls

    back : (u : CellId) → Suits g zones z (merge + 1) u.0 → KeepsZone h zones merge 2 u.0
    back u s = elim s.zone [
      | inl lower ↦ (let at = opens.zone in inl (omega (arith, lower, at)))
      | inr both ↦ (let behind = both.2 in let after : merge < u.0 = omega (arith, behind) in inr (
        both.0 ∙ sym opens.zone,
        elim (side_or_never n) [
          | inl one ↦ inr (inl (same_gate g merge next opens.there u.0 ∙ both.1, side ∙ one, after))
          | inr never ↦ inr (inr (refl, after, subst AreNeverFalse (sym controls) never))
        ],
      ))
    ]
