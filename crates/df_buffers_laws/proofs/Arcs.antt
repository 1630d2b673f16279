-- The arcs on which BUF cells are placed: each leads from node to node, and no value is loaded there.
use Rattle.std.proofs.Common.{◌≡◌, ◌≢◌, ℕ, ◌<◌, ◌==◌, ◌&&◌, not, ℤ, true, false, List, All, length, Option, Some, None, inl, inr, refl, sym, ap, subst, ◌∙◌, arith, eqb, eq-eqb}
use Rattle.std.proofs.lemmas.Bool.{cases_lt, or_right, and_from, ne_eqb}
use Rattle.std.proofs.lemmas.List.{length-map}
use Rattle.std.proofs.lemmas.Option.{same_Some}
use Rattle.df_values.specs.declared.values.Value.{Value}
use Rattle.df_cells.specs.declared.cells.CellId.{CellId}
use Rattle.df_cells.specs.declared.cells.Cell.{Cell}
use Rattle.df_cells.specs.declared.cells.Dest.{Dest}
use Rattle.df_cells.specs.declared.cells.Feed.{Feed}
use Rattle.df_cells.specs.declared.cells.Feed.TheVariants.{Arc, Constant, Loaded}
use Rattle.df_cells.specs.Cells.{cell_from, loaded_from, feed_of, loaded_at, producer_of}
use Rattle.df_cells.specs.Paths.{mark_of}
use Rattle.df_cells.specs.Shifts.{origin}
use Rattle.df_cells.specs.WellFormed.{WellFormed}
use Rattle.df_labels.specs.Graphs.{Node, node_of, graph_of, HasPort}
use Rattle.df_labels.specs.Finishing.{ArcsWithin, HasNoBuffers}
use Rattle.df_stages.specs.declared.skeleton.SkeletonArc.{SkeletonArc}
use Rattle.df_stages.specs.Nodes.{same_node}
use Rattle.df_stages.specs.Skeletons.{arcs}
use Rattle.df_buffers_laws.specs.Insertions.{ports_to_buffer}
use Rattle.df_buffers_laws.proofs.Origins.{origin_stays}
use Rattle.df_buffers_laws.proofs.Paths.{none_past}
use Rattle.df_buffers_laws.proofs.AtPorts.{Stands}
use Rattle.df_buffers_laws.proofs.Counts.{ports_are}
use Rattle.df_buffers_laws.proofs.Tables.{IsFed, node_is}

-- cells of one loop are in one node
pub one_loop : (cells : List Cell) (u c : ℕ) → mark_of cells u ≡ mark_of cells c → mark_of cells c ≢ 0
    → same_node cells u c ≡ true
one_loop cells u c same some =
    or_right (eqb u c) (not (mark_of cells u == 0) && (mark_of cells u == mark_of cells c))
    (and_from (not (mark_of cells u == 0)) (mark_of cells u == mark_of cells c)
    (ap not (ne_eqb (mark_of cells u) 0 (λ none. some (sym same ∙ none))))
    (eq-eqb (mark_of cells u) (mark_of cells c) same))

module _ (old : List Cell) (well_formed : WellFormed old) (plain : HasNoBuffers old) where
  pub within_old : ArcsWithin old
  within_old c p u fed = elim (cases_lt c (length old)) [
    | inl here ↦ (well_formed.port c here).feeds p u fed
    | inr past ↦ absurd (none_past old c past p u fed)
  ]

  straight : (d : Dest) (u : CellId) → producer_of old d ≡ Some u → origin old u.0 ≡ u.0
  straight d u fed = origin_stays old u.0 (plain u.0 (within_old d.cell.0 d.port.0 u fed))

  -- what is loaded stays on a loop, and so within a node
  arc_fed : (arc : SkeletonArc) → Stands old arc → IsFed old arc.name
  arc_fed arc stands = by (feed_of old arc.name) refl
    where
      loops : (v : Value) (w : CellId) → producer_of old arc.name ≡ Some w → loaded_at old arc.name ≡ Some v → ⊥
      loops v w fed loaded =
          let rule = (well_formed.load arc.name.cell.0 stands.inside).on_loop arc.name.port.0 w v fed loaded in
          let one : w ≡ stands.via = same_Some w stands.via (sym fed ∙ stands.fed) in
          let same : same_node old (origin old stands.via.0) arc.name.cell.0 ≡ true =
          ap (λ k. same_node old k arc.name.cell.0)
          (straight arc.name stands.via stands.fed ∙ ap (λ (k : CellId). k.0) (sym one))
          ∙ one_loop old w.0 arc.name.cell.0 rule.0 rule.1 in
          let e : true ≡ false = sym same ∙ stands.apart in cc

      by : (o : Option Feed) → feed_of old arc.name ≡ o → IsFed old arc.name
      by None e = let none : None ≡ Some stands.via = ap cell_from (sym e) ∙ stands.fed in absurd (cc)
      by (Some (Constant v)) e = let none : None ≡ Some stands.via = ap cell_from (sym e) ∙ stands.fed in absurd (cc)
      by (Some (Arc w)) e = (w, e)
      by (Some (Loaded w v)) e = absurd (loops v w (ap cell_from e) (ap loaded_from e))

  pub all_fed : (numbers : ℕ → ℤ) → All (IsFed old) (ports_to_buffer (arcs old) numbers)
  all_fed numbers = ports_are old numbers (IsFed old) arc_fed

  -- each leads from another node
  abbrev pub IsApart : Dest → Type 0
  IsApart d = (u : CellId) → producer_of old d ≡ Some u → same_node old u.0 d.cell.0 ≡ false

  pub all_apart : (numbers : ℕ → ℤ) → All IsApart (ports_to_buffer (arcs old) numbers)
  all_apart numbers = ports_are old numbers IsApart (λ arc stands u fed.
      let one : stands.via ≡ u = same_Some stands.via u (sym stands.fed ∙ fed) in
      ap (λ (k : CellId). same_node old k.0 arc.name.cell.0) (sym one)
      ∙ ap (λ k. same_node old k arc.name.cell.0) (sym (straight arc.name stands.via stands.fed)) ∙ stands.apart)

pub at_ports : (cells : List Cell) (numbers : ℕ → ℤ)
    → All (HasPort (graph_of cells)) (ports_to_buffer (arcs cells) numbers)
at_ports cells numbers = ports_are cells numbers (HasPort (graph_of cells)) (λ arc stands.
    let inside = stands.inside in
    let long = length-map cells node_of in (
      omega arith,
      subst (λ (n : Node). arc.name.port.0 < length n.ports) (sym (node_is cells arc.name.cell.0)) stands.there,
    ))
