-- Graphs keep their ports while BUF cells are inserted.
use Rattle.std.proofs.Common.{◌≡◌, ℕ, ◌+◌, ◌<◌, ◌≤◌, List, [], ◌∷◌, length, take, get_or, set, ◌++◌, All, refl, sym, ap, subst, ◌∙◌, inl, inr, arith}
use Rattle.std.proofs.lemmas.Bool.{cases_eq}
use Rattle.std.proofs.lemmas.List.{get_or-set_same, get_or-set_other, get_or_append_left, length-set, length_push, length-take-le}
use Rattle.std.proofs.lemmas.List.Elements.{All-head, All-tail, All-weaker, All-take}
use Rattle.df_cells.specs.declared.cells.Dest.{Dest}
use Rattle.df_labels.specs.Graphs.{Graph, Node, no_node, node_at, HasPort}
use Rattle.df_labels.specs.Flows.{arc}
use Rattle.df_buffers_laws.specs.Insertions.{buffer_for, insert, inserted}

-- one more cell, and all others have as many ports as before
module _ (graph : Graph) (d : Dest) where
  insert_length : length (insert graph d) ≡ length graph + 1
  insert_length = length-set (graph ++ buffer_for graph d ∷ []) d.cell.0 _ ∙ length_push graph (buffer_for graph d)

  abbrev fed_node : Node → Node
  fed_node node = record node { ports = set node.ports d.port.0 (arc (length graph)) }

  ports_kept : d.cell.0 < length graph → (c : ℕ) → c < length graph
      → length (node_at (insert graph d) c).ports ≡ length (node_at graph c).ports
  ports_kept within c h = elim (cases_eq c d.cell.0) [
    | inl same ↦
        let long = length_push graph (buffer_for graph d) in
        let old = get_or_append_left graph (buffer_for graph d ∷ []) no_node d.cell.0 within in
        ap (λ k. length (node_at (insert graph d) k).ports) same
        ∙ ap (λ (n : Node). length n.ports)
        (get_or-set_same (graph ++ buffer_for graph d ∷ []) d.cell.0 _ no_node (omega arith))
        ∙ ap (λ (n : Node). length (fed_node n).ports) old
        ∙ length-set (node_at graph d.cell.0).ports d.port.0 (arc (length graph))
        ∙ ap (λ k. length (node_at graph k).ports) (sym same)
    | inr other ↦
        ap (λ (n : Node). length n.ports)
        (get_or-set_other (graph ++ buffer_for graph d ∷ []) d.cell.0 c _ no_node other
        ∙ get_or_append_left graph (buffer_for graph d ∷ []) no_node c h)
  ]

record Grows (graph grown : Graph) (n : ℕ) : Type 0 where
  count : length grown ≡ length graph + n
  ports : (c : ℕ) → c < length graph → length (node_at grown c).ports ≡ length (node_at graph c).ports

grows : (ports : List Dest) (graph : Graph) → All (λ d. d.cell.0 < length graph) ports
    → Grows graph (inserted graph ports) (length ports)
grows [] graph all = record { count = omega arith; ports = λ c h. refl }
grows (d ∷ ports) graph all =
    let P = λ (e : Dest). e.cell.0 < length graph in
    let within : d.cell.0 < length graph = All-head P d ports all in
    let long = insert_length graph d in
    let all_rest =
    All-weaker P (λ e. e.cell.0 < length (insert graph d)) (λ e h. omega (arith, h, long)) ports
    (All-tail P d ports all) in
    let rest = grows ports (insert graph d) all_rest in
    record {
      count = let more = rest.count in omega arith;
      ports = λ c h. rest.ports c (omega arith) ∙ ports_kept graph d within c h;
    }

module _ (graph now : Graph) (ports : List Dest) (i : ℕ) (all : All (HasPort graph) ports) (few : i < length ports)
    (is : now ≡ inserted graph (take i ports)) where
  so_far : Grows graph now i
  so_far =
      subst (λ g. Grows graph g i) (sym is)
      (subst (Grows graph (inserted graph (take i ports))) (length-take-le i ports (omega arith))
      (grows (take i ports) graph (All-take (λ (d : Dest). d.cell.0 < length graph) i ports (λ k d h. (all k d h).0))))

  pub has_room : length graph + length ports ≤ 65536 → length now < 65536
  has_room room = let count = so_far.count in omega arith

  pub still_port : (d : Dest) → HasPort now (get_or ports i d)
  still_port d =
      let at = all i d few in
      let cell = at.0 in
      let count = so_far.count in (
        omega arith,
        subst (λ n. (get_or ports i d).port.0 < n) (sym (so_far.ports (get_or ports i d).cell.0 cell)) at.1,
      )
