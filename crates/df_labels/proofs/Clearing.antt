-- Cells that lose their stages and destinations.
use Rattle.std.proofs.Common.{◌≡◌, ℕ, zero, suc, ◌+◌, ◌<◌, List, [], ◌∷◌, get_or, length, set, Option, None, refl, sym, ◌∙◌, ap, subst, inl, inr, arith}
use Rattle.std.specs.Prelude.{slice_get}
use Rattle.std.proofs.lemmas.Bool.{cases_eq, cases_lt}
use Rattle.std.proofs.lemmas.List.{get_or_past, get_or-set_same, get_or-set_other, length-set}
use Rattle.std.proofs.lemmas.Option.{slice_get-get_or}
use Rattle.df_cells.specs.declared.cells.Dest.{Dest}
use Rattle.df_cells.specs.declared.cells.Cell.{Cell}
use Rattle.df_cells.specs.declared.cells.Feed.{Feed}
use Rattle.df_cells.specs.Cells.{no_cell, cell_at, with_nothing}
use Rattle.df_labels.specs.Finishing.{AreBare, ClearedSoFar}
use Rattle.df_labels.specs.Graphs.{Graph, Node, node_at, node_of, graph_of, no_feed}
use Rattle.df_labels.proofs.Marking.{graphs_equal}

pub none_cleared : (cells : List Cell) → ClearedSoFar cells 0 cells
none_cleared cells = record { count = refl; cleared = λ c h. absurd (omega arith); others = λ c h. refl }

pub next_cleared : (old now new : List Cell) (n : ℕ) → n < length old → ClearedSoFar old n now → new ≡ with_nothing now n → ClearedSoFar old (n + 1) new
next_cleared old now new n within so_far e =
    let own = record (cell_at now n) { stage = 0; dests = [] } in
    let count = so_far.count in
    let whole : ClearedSoFar old (n + 1) (with_nothing now n) = record {
      count = length-set now n own ∙ so_far.count;
      cleared = λ c h. elim (cases_eq c n) [
        | inl same ↦
            ap (λ j. get_or (set now n own) j no_cell) same ∙ get_or-set_same now n own no_cell (omega arith)
            ∙ ap (λ (cell : Cell). record cell { stage = 0; dests = [] }) (so_far.others n (omega arith))
            ∙ ap (λ j. record (cell_at old j) { stage = 0; dests = [] }) (sym same)
        | inr other ↦ get_or-set_other now n c own no_cell other ∙ so_far.cleared c (omega (arith, other))
      ];
      others = λ c h. get_or-set_other now n c own no_cell (λ same. omega arith) ∙ so_far.others c (omega arith);
    } in
    subst (ClearedSoFar old (n + 1)) (sym e) whole

module _ (old new : List Cell) (cleared : ClearedSoFar old (length old) new) where
  same_but : (c : ℕ) → record (cell_at new c) { stage = 0; dests = [] } ≡ record (cell_at old c) { stage = 0; dests = [] }
  same_but c = elim (cases_lt c (length old)) [
    | inl here ↦ ap (λ (cell : Cell). record cell { stage = 0; dests = [] }) (cleared.cleared c here)
    | inr past ↦ ap (λ (cell : Cell). record cell { stage = 0; dests = [] }) (cleared.others c past)
  ]

  pub cleared_graph : graph_of new ≡ graph_of old
  cleared_graph = graphs_equal new old cleared.count (λ c. ap node_of (same_but c))

  pub cleared_bare : AreBare new
  cleared_bare = record {
    stage = λ c. elim (cases_lt c (length old)) [
      | inl here ↦ ap (λ (cell : Cell). cell.stage) (cleared.cleared c here)
      | inr past ↦ ap (λ (cell : Cell). cell.stage) (cleared.others c past ∙ get_or_past old c no_cell past)
    ];
    dests = λ c. elim (cases_lt c (length old)) [
      | inl here ↦ ap (λ (cell : Cell). cell.dests) (cleared.cleared c here)
      | inr past ↦ ap (λ (cell : Cell). cell.dests) (cleared.others c past ∙ get_or_past old c no_cell past)
    ];
  }

-- ---- what feeds a port

node_at-is : (cells : List Cell) (c : ℕ) → node_at (graph_of cells) c ≡ node_of (cell_at cells c)
node_at-is [] c = refl
node_at-is (cell ∷ cells) zero = refl
node_at-is (cell ∷ cells) (suc c) = node_at-is cells c

pub fed_there : {A : Type 0} (cells : List Cell) (graph : Graph) (d : Dest) (cell : Cell) (o : Option Feed) → graph_of cells ≡ graph → cell ≡ cell_at cells d.cell.0
    → o ≡ slice_get cell.ports d.port.0 → o ≡ None → d.port.0 < length (node_at graph d.cell.0).ports → A
fed_there cells graph d cell o is at got none there =
    let same : length (node_at graph d.cell.0).ports ≡ length cell.ports =
    ap (λ (g : Graph). length (node_at g d.cell.0).ports) (sym is) ∙ ap (λ (n : Node). length n.ports) (node_at-is cells d.cell.0) ∙ ap (λ (x : Cell). length x.ports) (sym at) in
    let some = slice_get-get_or cell.ports d.port.0 no_feed (omega arith) in
    absurd (cc)
