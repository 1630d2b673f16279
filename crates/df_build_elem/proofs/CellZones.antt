-- Zones of a graph are zones of its cells, where none is a BUF.
use Rattle.std.proofs.Common.{◌≡◌, ◌<◌, ℕ, Bool, false, zero, suc, List, length, Option, Some, None, refl, sym, ap, subst, ◌∙◌, inl, inr}
use Rattle.std.proofs.lemmas.List.{length-map}
use Rattle.std.specs.Prelude.{slice_get, cond}
use Rattle.df_cells.specs.Cells.{cell_at, cell_from, is_buf, port_of, producer_of}
use Rattle.df_cells.specs.Families.{family}
use Rattle.df_cells.specs.Shifts.{back, back_over, cell_or, origin, control_values, controls, controls_from, gate_place, merge_place, gate_part, merge_part}
use Rattle.df_cells.specs.declared.cells.Cell.{Cell}
use Rattle.df_cells.specs.declared.cells.CellId.{CellId}
use Rattle.df_labels.specs.Graphs.{Node, node_at, node_of, graph_of}
use Rattle.df_build_cond.specs.Made.{AreMade}
use Rattle.df_build_cond.specs.Orderly.{zone_at, controls_by, controls_in, gate_in, side_in, AreNeverFalse, StaysIn, Orderly}
use Rattle.df_build_elem.specs.Finished.{StaysWithin, AreInZones, SkeletonsHaveZones}
use Rattle.df_build_elem.specs.Laws.{ProgramsAreMade, ProgramsAreOrderly}
use Rattle.df_build_elem.proofs.Finished.{same_node, plain}

module _ (cells : List Cell) (no_buf : (c : ℕ) → c < length cells → is_buf cells c ≡ false) where
  back_stays : (c : ℕ) → c < length cells → back cells c ≡ c
  back_stays c less = ap (λ (t : Bool). cond t (cell_or c (producer_of cells (port_of c 0))) c) (no_buf c less)

  over_stays : (n c : ℕ) → c < length cells → back_over cells n c ≡ c
  over_stays zero c less = refl
  over_stays (suc n) c less = ap (back_over cells n) (back_stays c less) ∙ over_stays n c less

  origin_stays : (c : ℕ) → c < length cells → origin cells c ≡ c
  unfolding origin
  origin_stays c less = over_stays (length cells) c less

  module _ (there : (c p : ℕ) (u : CellId) → producer_of cells (port_of c p) ≡ Some u → u.0 < length cells) where
    same_controls : (c : ℕ) → controls_in (graph_of cells) c ≡ controls cells c
    same_controls c =
        ap (λ (n : Node). controls_by (graph_of cells) (cell_from (slice_get n.ports 0))) (same_node cells c) ∙ go (producer_of cells (port_of c 0)) refl
      where
        go : (o : Option CellId) → producer_of cells (port_of c 0) ≡ o
            → controls_by (graph_of cells) o ≡ controls_from cells o
        go None is = refl
        go (Some u) is =
            ap (λ (n : Node). control_values n.kind) (same_node cells u.0)
            ∙ ap (λ (k : ℕ). control_values (cell_at cells k).kind) (sym (origin_stays u.0 (there c 0 u is)))

    same_gate : (u : ℕ) → gate_in (graph_of cells) u ≡ gate_part cells u
    unfolding gate_part
    same_gate u =
        ap (λ (n : Node). gate_place (family n.kind) (controls_in (graph_of cells) u)) (same_node cells u)
        ∙ ap (gate_place (family (cell_at cells u).kind)) (same_controls u)

    same_side : (c p : ℕ) → side_in (graph_of cells) c p ≡ merge_part cells (port_of c p)
    unfolding merge_part
    same_side c p =
        ap (λ (n : Node). merge_place (family n.kind) p (controls_in (graph_of cells) c)) (same_node cells c)
        ∙ ap (merge_place (family (cell_at cells c).kind) p) (same_controls c)

    same_stays : (c p u : ℕ) → StaysIn (graph_of cells) c p u → StaysWithin cells (port_of c p) u
    same_stays c p u (inl f) = inl (sym (same_gate u) ∙ f.0, sym (same_side c p) ∙ f.1, f.2)
    same_stays c p u (inr (inl f)) = inr (inl (sym (same_gate u) ∙ f.0, sym (same_side c p) ∙ f.1, f.2))
    same_stays c p u (inr (inr f)) = inr (inr (f.0, f.1, subst AreNeverFalse (same_controls c) f.2))

in_graph : (cells : List Cell) (c p : ℕ) (u : CellId) → producer_of cells (port_of c p) ≡ Some u
    → cell_from (slice_get (node_at (graph_of cells) c).ports p) ≡ Some u
in_graph cells c p u is = subst (λ (n : Node). cell_from (slice_get n.ports p) ≡ Some u) (sym (same_node cells c)) is

in_zones : (cells : List Cell) (zones : List ℕ) → AreMade (graph_of cells) → Orderly zones (graph_of cells)
    → AreInZones cells (zone_at zones)
in_zones cells zones made o d u is =
    let c = d.cell.0 in
    let p = d.port.0 in
    elim (o.arcs c p u (in_graph cells c p u is)) [ inl lower ↦ inl lower | inr both ↦ inr (both.0, same_stays cells (plain cells made) there c p u.0 both.1) ]
  where
    there : (c p : ℕ) (u : CellId) → producer_of cells (port_of c p) ≡ Some u → u.0 < length cells
    there c p u is = subst (λ k. u.0 < k) (length-map cells node_of) (o.there c p u (in_graph cells c p u is))

pub skeletons_have_zones : ProgramsAreMade → ProgramsAreOrderly → SkeletonsHaveZones
skeletons_have_zones made orderly flat cells is same =
    let o = orderly flat in
    (zone_at o.0, in_zones cells o.0 (subst AreMade (sym same) (made flat is)) (subst (Orderly o.0) (sym same) o.1))
