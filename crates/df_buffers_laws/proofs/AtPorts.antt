-- The arcs of a skeleton, each at the port that names it.
use Rattle.std.proofs.Common.{◌≡◌, ℕ, ◌<◌, Bool, true, false, cond, List, [], ◌∷◌, length, All, Option, Some, None, refl, sym, ap, subst, ◌∙◌, arith}
use Rattle.std.proofs.lemmas.List.Elements.{All-nil, All-cons, All-weaker}
use Rattle.df_cells.specs.declared.cells.CellId.{CellId}
use Rattle.df_cells.specs.declared.cells.Cell.{Cell}
use Rattle.df_cells.specs.declared.cells.Dest.{Dest}
use Rattle.df_cells.specs.Cells.{cell_at, port_of, producer_of, is_buf}
use Rattle.df_cells.specs.Shifts.{origin, buffers_from, weight}
use Rattle.df_stages.specs.declared.skeleton.SkeletonArc.{SkeletonArc}
use Rattle.df_stages.specs.Nodes.{same_node}
use Rattle.df_stages.specs.Skeletons.{node_place, arc_between, arc_from, arcs_at_ports, arcs_into, arcs}
use Rattle.df_buffers_laws.proofs.Pieces.{all_pieces}

module _ (cells : List Cell) where
  abbrev pub at_port : ℕ → ℕ → List SkeletonArc
  at_port c p = arc_from cells (port_of c p) (producer_of cells (port_of c p))

  -- an arc is that of its port alone, and leads from another node
  pub record Stands (arc : SkeletonArc) : Type 0 where
    pub inside : arc.name.cell.0 < length cells
    pub plain : is_buf cells arc.name.cell.0 ≡ false
    pub there : arc.name.port.0 < length (cell_at cells arc.name.cell.0).ports
    pub only : at_port arc.name.cell.0 arc.name.port.0 ≡ arc ∷ []
    pub via : CellId
    pub fed : producer_of cells arc.name ≡ Some via
    pub apart : same_node cells (origin cells via.0) arc.name.cell.0 ≡ false

  -- the arc of a port
  pub record IsAt (c p : ℕ) (arc : SkeletonArc) : Type 0 where
    pub name : arc.name ≡ port_of c p
    pub only : at_port c p ≡ arc ∷ []
    pub via : CellId
    pub fed : producer_of cells (port_of c p) ≡ Some via
    pub apart : same_node cells (origin cells via.0) c ≡ false

  pub ports_at : (c p : ℕ) → All (IsAt c p) (at_port c p)
  ports_at c p = by (producer_of cells (port_of c p)) refl
    where
      by : (o : Option CellId) → producer_of cells (port_of c p) ≡ o → All (IsAt c p) (arc_from cells (port_of c p) o)
      by None fed = All-nil (IsAt c p)
      by (Some u) fed = by_node (same_node cells (origin cells u.0) c) refl (ap (arc_from cells (port_of c p)) fed)
        where
          arc : SkeletonArc
          arc = record {
            name = port_of c p;
            from = node_place cells (origin cells u.0);
            to = node_place cells c;
            weight = weight cells (origin cells u.0) (port_of c p);
            buffers = buffers_from cells u.0;
          }

          by_node : (b : Bool) → same_node cells (origin cells u.0) c ≡ b
              → at_port c p ≡ arc_between cells (port_of c p) u → All (IsAt c p) (cond b [] (arc ∷ []))
          by_node true e is = All-nil (IsAt c p)
          by_node false e is =
              All-cons (IsAt c p) arc []
              (record { name = refl; only = is ∙ ap (λ b. cond b [] (arc ∷ [])) e; via = u; fed = fed; apart = e })
              (All-nil (IsAt c p))

  stands_at : (c p : ℕ) → c < length cells → is_buf cells c ≡ false → p < length (cell_at cells c).ports
      → (arc : SkeletonArc) → IsAt c p arc → Stands arc
  stands_at c p inside plain there arc at =
      let name = sym at.name in
      record {
        inside = subst (λ (d : Dest). d.cell.0 < length cells) name inside;
        plain = subst (λ (d : Dest). is_buf cells d.cell.0 ≡ false) name plain;
        there = subst (λ (d : Dest). d.port.0 < length (cell_at cells d.cell.0).ports) name there;
        only = subst (λ (d : Dest). at_port d.cell.0 d.port.0 ≡ arc ∷ []) name at.only;
        via = at.via;
        fed = subst (λ (d : Dest). producer_of cells d ≡ Some at.via) name at.fed;
        apart = subst (λ (d : Dest). same_node cells (origin cells at.via.0) d.cell.0 ≡ false) name at.apart;
      }

  cell_arcs : (c : ℕ) → c < length cells → All Stands (arcs_into cells c)
  cell_arcs c inside = by (is_buf cells c) refl
    where
      by : (b : Bool) → is_buf cells c ≡ b → All Stands (cond b [] (arcs_at_ports cells c))
      by true buf = All-nil Stands
      by false plain =
          all_pieces Stands (at_port c) 0 (length (cell_at cells c).ports)
          (λ p k l. All-weaker (IsAt c p) Stands (λ arc at. stands_at c p inside plain (omega arith) arc at)
          (at_port c p) (ports_at c p))

  pub all_stand : All Stands (arcs cells)
  all_stand = all_pieces Stands (arcs_into cells) 0 (length cells) (λ c k l. cell_arcs c (omega arith))
