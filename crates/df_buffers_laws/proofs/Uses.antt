-- Each BUF cell feeds one port, insertion after insertion.
use Rattle.std.proofs.Common.{◌≡◌, ℕ, zero, suc, ◌<◌, ◌≤◌, List, [], ◌∷◌, length, Some, None, ◌⊎◌, inl, inr, refl, sym, ap, subst, ◌∙◌, arith}
use Rattle.std.specs.Prelude.{slice_get}
use Rattle.std.proofs.lemmas.Bool.{cases_lt, cases_eq, cases_order}
use Rattle.std.proofs.lemmas.List.{get_or_past}
use Rattle.std.proofs.lemmas.Option.{slice_get_within, get_or_from_slice_get}
use Rattle.df_cells.specs.declared.cells.CellId.{CellId}
use Rattle.df_cells.specs.declared.cells.Cell.{Cell}
use Rattle.df_cells.specs.declared.cells.Dest.{Dest}
use Rattle.df_cells.specs.declared.cells.Feed.TheVariants.{Arc}
use Rattle.df_cells.specs.Cells.{cell_from, port_of}
use Rattle.df_stages.specs.Skeletons.{cell_id}
use Rattle.df_labels.specs.Graphs.{Graph, Node, no_node, no_feed, node_at}
use Rattle.df_labels.specs.Flows.{arc}
use Rattle.df_buffers_laws.specs.Insertions.{insert}
use Rattle.df_buffers_laws.proofs.Ports.{slice_get-set_same, slice_get-set_other, dest_is}
use Rattle.df_buffers_laws.proofs.Insertion.{insert_length, insert_same, insert_other, insert_last, feeds, Placed}

-- a cell of a graph feeds one port
pub record Ends (graph : Graph) (b : ℕ) : Type 0 where
  pub port : Dest
  pub fed : cell_from (feeds graph port) ≡ Some (record { 0 = b })
  pub alone : (e : Dest) → cell_from (feeds graph e) ≡ Some (record { 0 = b }) → e ≡ port

same_number : (u v : ℕ) → Some (cell_id u) ≡ Some (cell_id v) → u ≡ v
same_number u v e = ap (λ (k : CellId). k.0) (by (cell_id u) (cell_id v) e)
  where
    by : (k l : CellId) → Some k ≡ Some l → k ≡ l
    by k l e = cc

only_port : (p : ℕ) (from v : CellId) → cell_from (slice_get (Arc from ∷ []) p) ≡ Some v → from ≡ v
only_port zero from v e = cc
only_port (suc p) from v e = absurd (cc)

module _ (old : List Cell) (home depth : ℕ → ℕ) (chain : ℕ → List ℕ) (done : List Dest) (graph : Graph)
    (placed : Placed old home depth chain done graph) where
  pub past_none : (e : Dest) → length graph ≤ e.cell.0 → feeds graph e ≡ None
  past_none e past = ap (λ (n : Node). slice_get n.ports e.port.0) (get_or_past graph e.cell.0 no_node past)

  pub all_within : (e : Dest) (v : CellId) → cell_from (feeds graph e) ≡ Some v → v.0 < length graph
  all_within e v here = elim (cases_lt e.cell.0 (length old)) [
    | inl inner ↦ (placed.fed e v inner here).1
    | inr behind ↦ elim (cases_lt e.cell.0 (length graph)) [
      | inl low ↦
          let node = placed.others e.cell.0 behind low in
          let less = node.less in
          let number = ap (λ (k : CellId). k.0) (only_port e.port.0 node.from v
          (ap (λ (n : Node). cell_from (slice_get n.ports e.port.0)) (sym node.is) ∙ here)) in
          omega arith
      | inr past ↦ let none : None ≡ Some v = ap cell_from (sym (past_none e past)) ∙ here in absurd (cc)
    ]
  ]

module _ (old : List Cell) (home depth : ℕ → ℕ) (chain : ℕ → List ℕ) (done : List Dest) (graph : Graph)
    (placed : Placed old home depth chain done graph)
    (d : Dest) (from : CellId) (fed : feeds graph d ≡ Some (Arc from)) (inside : d.cell.0 < length old) where
  within : d.cell.0 < length graph
  within = let count = placed.count in omega arith

  abbrev node : Node
  node = node_at graph d.cell.0

  at_last : (p : ℕ) → feeds (insert graph d) (port_of (length graph) p) ≡ slice_get (Arc from ∷ []) p
  at_last p =
      ap (λ (n : Node). slice_get n.ports p) (insert_last graph d within)
      ∙ ap (λ f. slice_get (f ∷ []) p) (get_or_from_slice_get node.ports d.port.0 (Arc from) no_feed fed)

  at_port : cell_from (feeds (insert graph d) d) ≡ Some (record { 0 = length graph })
  at_port =
      ap (λ (n : Node). cell_from (slice_get n.ports d.port.0)) (insert_same graph d within)
      ∙ ap cell_from (slice_get-set_same node.ports d.port.0 (arc (length graph))
      (slice_get_within node.ports d.port.0 (Arc from) fed))

  past_insert : (c : ℕ) → length graph < c → node_at (insert graph d) c ≡ no_node
  past_insert c past = get_or_past (insert graph d) c no_node (let long = insert_length graph d within in omega arith)

  -- a port is the one at which the BUF cell was inserted, or that of the BUF cell, or is fed as before
  abbrev Looks : Dest → Type 0
  Looks e = (e ≡ d) ⊎ (((e ≡ port_of (length graph) 0) × (feeds (insert graph d) e ≡ Some (Arc from)))
      ⊎ ((e ≡ d → ⊥) × (feeds (insert graph d) e ≡ feeds graph e)))

  looks_last : (p : ℕ) → Looks (port_of (length graph) p)
  looks_last zero = inr (inl (refl, at_last 0))
  looks_last (suc p) = inr (inr (
    (λ e. let number = ap (λ (x : Dest). x.cell.0) e in let h = within in absurd (omega arith)),
    at_last (suc p)
        ∙ sym (past_none old home depth chain done graph placed (port_of (length graph) (suc p)) (omega arith)),
  ))

  looks : (e : Dest) → Looks e
  looks e = elim (cases_eq e.cell.0 d.cell.0) [
    | inl same ↦ elim (cases_eq e.port.0 d.port.0) [
      | inl port ↦ inl (dest_is e d.cell.0 d.port.0 same port)
      | inr other ↦ inr (inr (
        (λ is. other (ap (λ (x : Dest). x.port.0) is)),
        ap (λ k. slice_get (node_at (insert graph d) k).ports e.port.0) same
            ∙ ap (λ (n : Node). slice_get n.ports e.port.0) (insert_same graph d within)
            ∙ slice_get-set_other node.ports d.port.0 e.port.0 (arc (length graph)) other
            ∙ ap (λ k. slice_get (node_at graph k).ports e.port.0) (sym same),
      ))
    ]
    | inr other ↦
        let differ = λ (is : e ≡ d). other (ap (λ (x : Dest). x.cell.0) is) in
        elim (cases_order e.cell.0 (length graph)) [
          | inl last ↦ subst Looks (sym (dest_is e (length graph) e.port.0 last refl)) (looks_last e.port.0)
          | inr (inl low) ↦
              inr (inr (differ, ap (λ (n : Node). slice_get n.ports e.port.0) (insert_other graph d within e.cell.0 low other)))
          | inr (inr past) ↦
              let none = past_none old home depth chain done graph placed e (omega arith) in
              inr (inr (differ, ap (λ (n : Node). slice_get n.ports e.port.0) (past_insert e.cell.0 past) ∙ sym none))
        ]
  ]

  last_used : Ends (insert graph d) (length graph)
  last_used = record {
    port = d;
    fed = at_port;
    alone = λ e here. elim (looks e) [
      | inl is ↦ is
      | inr (inl (at, is)) ↦
          let number = same_number from.0 (length graph) (ap cell_from (sym is) ∙ here) in
          let low = all_within old home depth chain done graph placed d from (ap cell_from fed) in absurd (omega arith)
      | inr (inr (other, is)) ↦
          let low =
          all_within old home depth chain done graph placed e (record { 0 = length graph })
          (ap cell_from (sym is) ∙ here) in
          absurd (omega arith)
    ];
  }

  -- the new BUF cell is what feeds the port, and no older one
  not_older : (b : ℕ) → b < length graph → (e : Dest) → e ≡ d
      → cell_from (feeds (insert graph d) e) ≡ Some (record { 0 = b }) → ⊥
  not_older b low e is here =
      let number =
      same_number (length graph) b (sym at_port ∙ ap (λ x. cell_from (feeds (insert graph d) x)) (sym is) ∙ here) in
      omega arith

  still_used : (b : ℕ) → b < length graph → Ends graph b → Ends (insert graph d) b
  still_used b low ends = elim (cases_eq b from.0) [
    | inl same ↦
        let comes : Some from ≡ Some (record { 0 = b }) = ap (λ k. Some (record { 0 = k })) (sym same) in
        record {
          port = port_of (length graph) 0;
          fed = ap cell_from (at_last 0) ∙ comes;
          alone = λ e here. elim (looks e) [
            | inl is ↦ absurd (not_older b low e is here)
            | inr (inl (at, is)) ↦ at
            | inr (inr (other, is)) ↦
                absurd (other (ends.alone e (ap cell_from (sym is) ∙ here) ∙ sym (ends.alone d (ap cell_from fed ∙ comes))))
          ];
        }
    | inr differ ↦ record {
      port = ends.port;
      fed = elim (looks ends.port) [
        | inl is ↦
            absurd (differ (same_number b from.0
            (sym ends.fed ∙ ap (λ x. cell_from (feeds graph x)) is ∙ ap cell_from fed)))
        | inr (inl (at, is)) ↦
            let none : None ≡ Some (record { 0 = b }) =
            ap cell_from (sym (ap (feeds graph) at
            ∙ past_none old home depth chain done graph placed (port_of (length graph) 0) (omega arith)))
            ∙ ends.fed in absurd (cc)
        | inr (inr (other, is)) ↦ ap cell_from is ∙ ends.fed
      ];
      alone = λ e here. elim (looks e) [
        | inl is ↦ absurd (not_older b low e is here)
        | inr (inl (at, is)) ↦ absurd (differ (sym (same_number from.0 b (ap cell_from (sym is) ∙ here))))
        | inr (inr (other, is)) ↦ ends.alone e (ap cell_from (sym is) ∙ here)
      ];
    }
  ]

  pub next_used : ((b : ℕ) → length old ≤ b → b < length graph → Ends graph b)
      → (b : ℕ) → length old ≤ b → b < length (insert graph d) → Ends (insert graph d) b
  next_used used b behind h = let long = insert_length graph d within in elim (cases_eq b (length graph)) [
    | inl last ↦ subst (Ends (insert graph d)) (sym last) last_used
    | inr other ↦ let low : b < length graph = omega (arith, other) in still_used b low (used b behind low)
  ]
