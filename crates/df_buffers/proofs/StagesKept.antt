-- Cells that are given stages are the same but for these.
use Rattle.std.proofs.Common.{◌≡◌, ℕ, ◌<◌, List, [], ◌∷◌, get_or, length, All, Some, sym, ◌∙◌, ap, subst, inl, inr, arith}
use Rattle.std.specs.Prelude.{slice_get}
use Rattle.std.proofs.lemmas.Bool.{cases_lt}
use Rattle.std.proofs.lemmas.List.{get_or_default, length-map, same_lists, get_or-map}
use Rattle.df_cells.specs.declared.cells.Cell.{Cell}
use Rattle.df_cells.specs.declared.cells.Dest.{Dest}
use Rattle.df_cells.specs.Cells.{IsCell, AreCells, no_cell, cell_at, cell_from, is_buf, port_of, producer_of}
use Rattle.df_cells.specs.Kinds.{is_buffer}
use Rattle.df_cells.specs.Paths.{IsPath, Reaches, mark_of, HasMarks}
use Rattle.df_cells.specs.WellFormed.{AreRising, IsPort, ListsItsArcs, NamesWithin}
use Rattle.df_stages.specs.Balance.{stage_of}
use Rattle.df_labels.specs.Graphs.{node_of, graph_of}
use Rattle.df_buffers.specs.Staging.{StagedSoFar}

module _ (old new : List Cell) (stages : List ℕ) (staged : StagedSoFar old stages (length old) new) where
  same_but : (c : ℕ) → record (cell_at new c) { stage = 0 } ≡ record (cell_at old c) { stage = 0 }
  same_but c = elim (cases_lt c (length old)) [
    | inl here ↦ ap (λ (cell : Cell). record cell { stage = 0 }) (staged.staged c here)
    | inr past ↦ ap (λ (cell : Cell). record cell { stage = 0 }) (staged.others c past)
  ]

  pub same_producer : (d : Dest) → producer_of new d ≡ producer_of old d
  same_producer d = ap (λ (cell : Cell). cell_from (slice_get cell.ports d.port.0)) (same_but d.cell.0)

  pub same_buf : (c : ℕ) → is_buf new c ≡ is_buf old c
  same_buf c = ap (λ (cell : Cell). is_buffer cell.kind) (same_but c)

  pub same_mark : (c : ℕ) → mark_of new c ≡ mark_of old c
  same_mark c = ap (λ (cell : Cell). cell.mark) (same_but c)

  pub same_graph : graph_of new ≡ graph_of old
  same_graph =
      let long_new = length-map new node_of in
      let long_old = length-map old node_of in
      let count = staged.count in
      same_lists (graph_of new) (graph_of old) (omega arith)
      (λ k d h.
      get_or-map node_of new k no_cell d (omega arith) ∙ ap node_of (same_but k)
      ∙ sym (get_or-map node_of old k no_cell d (omega arith)))

  pub stage_is : (c : ℕ) → c < length old → stage_of new c ≡ get_or stages c 0
  stage_is c h = ap (λ (cell : Cell). cell.stage) (staged.staged c h)

  pub cells_stay : AreCells old → AreCells new
  cells_stay cells = record {
    few = let few = cells.few in let count = staged.count in omega arith;
    each = λ k d h.
        let count = staged.count in
        let was = cells.each k no_cell (omega arith) in
        let bare : IsCell (record (cell_at old k) { stage = 0 }) = record { ports = was.ports; runs = was.runs } in
        let now = subst IsCell (sym (same_but k)) bare in
        let is : IsCell (cell_at new k) = record { ports = now.ports; runs = now.runs } in
        subst IsCell (get_or_default new k no_cell d h) is;
  }

  pub names_stay : (c : ℕ) → NamesWithin old c → NamesWithin new c
  names_stay c names =
      let count = staged.count in
      let dests = ap (λ (cell : Cell). cell.dests) (same_but c) in
      record {
        feeds = λ p u fed. let inside = names.feeds p u (sym (same_producer (port_of c p)) ∙ fed) in omega arith;
        dests = subst (All (IsPort new)) (sym dests) (λ k d h.
            let at = names.dests k d h in
            let first = at.0 in
            let dest = get_or (cell_at old c).dests k d in
            (omega arith, subst (λ (cell : Cell). dest.port.0 < length cell.ports) (sym (same_but dest.cell.0)) at.1));
      }

  pub lists_stay : (u : ℕ) → ListsItsArcs old u → ListsItsArcs new u
  lists_stay u lists =
      let dests = ap (λ (cell : Cell). cell.dests) (same_but u) in
      record {
        rising = subst AreRising (sym dests) lists.rising;
        fed = subst (All (λ d. producer_of new d ≡ Some (record { 0 = u }))) (sym dests)
            (λ i default within. same_producer _ ∙ lists.fed i default within);
        listed = λ d fed. let at = lists.listed d (sym (same_producer d) ∙ fed) in
            subst (λ (l : List Dest). (i : ℕ) × (i < length l) × (get_or l i d ≡ d)) (sym dests) at;
      }

-- ---- loops are the same where producers are

module _ (old new : List Cell) (same : (d : Dest) → producer_of new d ≡ producer_of old d) where
  path_there : (u : ℕ) (between : List ℕ) (v : ℕ) → IsPath old u between v → IsPath new u between v
  path_there u [] v (p, w, fed, at) = (p, w, same (port_of v p) ∙ fed, at)
  path_there u (x ∷ between) v ((p, w, fed, at), rest) =
      ((p, w, same (port_of x p) ∙ fed, at), path_there x between v rest)

  path_back : (u : ℕ) (between : List ℕ) (v : ℕ) → IsPath new u between v → IsPath old u between v
  path_back u [] v (p, w, fed, at) = (p, w, sym (same (port_of v p)) ∙ fed, at)
  path_back u (x ∷ between) v ((p, w, fed, at), rest) =
      ((p, w, sym (same (port_of x p)) ∙ fed, at), path_back x between v rest)

  there : (u v : ℕ) → Reaches old u v → Reaches new u v
  there u v (between, path) = (between, path_there u between v path)

  back : (u v : ℕ) → Reaches new u v → Reaches old u v
  back u v (between, path) = (between, path_back u between v path)

  pub marks_stay : (mark : (c : ℕ) → mark_of new c ≡ mark_of old c) → HasMarks old → HasMarks new
  marks_stay is marks = record {
    cyclic = λ c some. there c c (marks.cyclic c (λ none. some (is c ∙ none)));
    marked = λ c loop none. marks.marked c (back c c loop) (sym (is c) ∙ none);
    together = λ c d some one. there c d (marks.together c d (λ none. some (is c ∙ none)) (sym (is c) ∙ one ∙ is d));
    one_mark = λ c d there' home. is c ∙ marks.one_mark c d (back c d there') (back d c home) ∙ sym (is d);
    in_order = λ c m some less.
        let first = marks.in_order c m some (subst (λ n. m < n) (is c) less) in
        (first.0, first.1, is first.0 ∙ first.2);
  }
