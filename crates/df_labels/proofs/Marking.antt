-- Cells that are given marks, and graphs that became well-formed cells.
use Rattle.std.proofs.Common.{◌≡◌, ℕ, suc, ◌+◌, ◌<◌, List, [], ◌∷◌, get_or, length, set, Some, refl, sym, ◌∙◌, ap, subst, inl, inr, arith}
use Rattle.std.specs.Prelude.{All, slice_get}
use Rattle.std.proofs.lemmas.Bool.{cases_eq, cases_lt}
use Rattle.std.proofs.lemmas.List.{get_or_past, get_or-set_same, get_or-set_other, length-set}
use Rattle.df_cells.specs.declared.cells.CellId.{CellId}
use Rattle.df_cells.specs.declared.cells.Cell.{Cell}
use Rattle.df_cells.specs.declared.cells.Dest.{Dest}
use Rattle.df_cells.specs.Cells.{no_cell, cell_at, cell_from, port_of, producer_of, with_mark}
use Rattle.df_cells.specs.Paths.{HasArc, IsPath, Reaches, AreMarks, mark_of, HasMarks}
use Rattle.df_cells.specs.WellFormed.{ListsItsArcs, NamesWithin, AreRising}
use Rattle.df_wellformed.specs.Loops.{AreRightMarks}
use Rattle.df_labels.specs.Finishing.{AreBare, ArcsWithin, ListsSoFar, MarkedSoFar}
use Rattle.df_labels.specs.Graphs.{node_of, graph_of}
use Rattle.df_labels.proofs.Listing.{all_listed, arcs_kept, names_within}

-- ---- marks one by one

pub none_marked : (cells : List Cell) (marks : List ℕ) → MarkedSoFar cells marks 0 cells
none_marked cells marks = record { count = refl; marked = λ c h. absurd (omega arith); others = λ c h. refl }

pub next_marked : (old now new : List Cell) (marks : List ℕ) (n mark : ℕ) → n < length old → mark ≡ get_or marks n 0 → MarkedSoFar old marks n now
    → new ≡ with_mark now n mark → MarkedSoFar old marks (n + 1) new
next_marked old now new marks n mark within is so_far e =
    let own = record (cell_at now n) { mark = mark } in
    let whole : MarkedSoFar old marks (n + 1) (with_mark now n mark) = record {
      count = length-set now n own ∙ so_far.count;
      marked = λ c h. elim (cases_eq c n) [
        | inl same ↦
            ap (λ j. get_or (set now n own) j no_cell) same ∙ get_or-set_same now n own no_cell (omega (arith, so_far.count))
            ∙ ap (λ (cell : Cell). record cell { mark = mark }) (so_far.others n (omega arith))
            ∙ ap (λ m. record (cell_at old n) { mark = m }) is
            ∙ ap (λ j. record (cell_at old j) { mark = get_or marks j 0 }) (sym same)
        | inr other ↦ get_or-set_other now n c own no_cell other ∙ so_far.marked c (omega (arith, other))
      ];
      others = λ c h. get_or-set_other now n c own no_cell (λ same. omega arith) ∙ so_far.others c (omega arith);
    } in
    subst (MarkedSoFar old marks (n + 1)) (sym e) whole

-- ---- the same cells but for marks

record SameButMarks (old new : List Cell) : Type 0 where
  count : length new ≡ length old
  each : (c : ℕ) → record (cell_at new c) { mark = 0 } ≡ record (cell_at old c) { mark = 0 }

same_from_marked : (old new : List Cell) (marks : List ℕ) → MarkedSoFar old marks (length old) new → SameButMarks old new
same_from_marked old new marks marked = record {
  count = marked.count;
  each = λ c. elim (cases_lt c (length old)) [
    | inl within ↦ ap (λ (cell : Cell). record cell { mark = 0 }) (marked.marked c within)
    | inr past ↦ ap (λ (cell : Cell). record cell { mark = 0 }) (marked.others c (omega arith))
  ];
}

same_producer : (old new : List Cell) → SameButMarks old new → (d : Dest) → producer_of new d ≡ producer_of old d
same_producer old new same d = ap (λ (cell : Cell). cell_from (slice_get cell.ports d.port.0)) (same.each d.cell.0)

same_dests : (old new : List Cell) → SameButMarks old new → (c : ℕ) → (cell_at new c).dests ≡ (cell_at old c).dests
same_dests old new same c = ap (λ (cell : Cell). cell.dests) (same.each c)

-- ---- loops are the same

module _ (old new : List Cell) (same : (d : Dest) → producer_of new d ≡ producer_of old d) where
  arc_there : (u v : ℕ) → HasArc old u v → HasArc new u v
  arc_there u v (p, w, fed, at) = (p, w, same (port_of v p) ∙ fed, at)

  arc_back : (u v : ℕ) → HasArc new u v → HasArc old u v
  arc_back u v (p, w, fed, at) = (p, w, sym (same (port_of v p)) ∙ fed, at)

  path_there : (u v : ℕ) (between : List ℕ) → IsPath old u between v → IsPath new u between v
  path_there u v [] path = arc_there u v path
  path_there u v (w ∷ between) path = (arc_there u w path.0, path_there w v between path.1)

  path_back : (u v : ℕ) (between : List ℕ) → IsPath new u between v → IsPath old u between v
  path_back u v [] path = arc_back u v path
  path_back u v (w ∷ between) path = (arc_back u w path.0, path_back w v between path.1)

  reaches_there : (u v : ℕ) → Reaches old u v → Reaches new u v
  reaches_there u v (between, path) = (between, path_there u v between path)

  reaches_back : (u v : ℕ) → Reaches new u v → Reaches old u v
  reaches_back u v (between, path) = (between, path_back u v between path)

  -- marks that are right stay right
  marks_stay : (before after : ℕ → ℕ) → ((c : ℕ) → after c ≡ before c) → AreMarks old before → AreMarks new after
  marks_stay before after is marks = record {
    cyclic = λ c some. reaches_there c c (marks.cyclic c (λ none. some (is c ∙ none)));
    marked = λ c loop none. marks.marked c (reaches_back c c loop) (sym (is c) ∙ none);
    together = λ c d some one. reaches_there c d (marks.together c d (λ none. some (is c ∙ none)) (sym (is c) ∙ one ∙ is d));
    one_mark = λ c d there back. is c ∙ marks.one_mark c d (reaches_back c d there) (reaches_back d c back) ∙ sym (is d);
    in_order = λ c m some less. let first = marks.in_order c m some (subst (λ n. m < n) (is c) less) in (first.0, first.1, is first.0 ∙ first.2);
  }

mark_given : (old new : List Cell) (marks : List ℕ) → length marks ≡ length old → MarkedSoFar old marks (length old) new → (c : ℕ) → mark_of new c ≡ get_or marks c 0
mark_given old new marks all marked c = elim (cases_lt c (length old)) [
  | inl within ↦ ap (λ (cell : Cell). cell.mark) (marked.marked c within)
  | inr past ↦ ap (λ (cell : Cell). cell.mark) (get_or_past new c no_cell (omega (arith, marked.count))) ∙ sym (get_or_past marks c 0 (omega arith))
]

-- ---- rules and graphs

arcs_listed : (old new : List Cell) → SameButMarks old new → (u : ℕ) → ListsItsArcs old u → ListsItsArcs new u
arcs_listed old new same u lists =
    let dests = same_dests old new same u in
    record {
      rising = subst AreRising (sym dests) lists.rising;
      fed = subst (All (λ d. producer_of new d ≡ Some (record { 0 = u }))) (sym dests) (λ i default within. same_producer old new same _ ∙ lists.fed i default within);
      listed = λ d fed. let at = lists.listed d (sym (same_producer old new same d) ∙ fed) in
          subst (λ (l : List Dest). (i : ℕ) × (i < length l) × (get_or l i d ≡ d)) (sym dests) at;
    }

pub graphs_equal : (xs ys : List Cell) → length xs ≡ length ys → ((c : ℕ) → node_of (cell_at xs c) ≡ node_of (cell_at ys c)) → graph_of xs ≡ graph_of ys
graphs_equal [] [] count each = refl
graphs_equal [] (y ∷ ys) count each = absurd (omega arith)
graphs_equal (x ∷ xs) [] count each = absurd (omega arith)
graphs_equal (x ∷ xs) (y ∷ ys) count each =
    ap (λ n. n ∷ graph_of xs) (each 0) ∙ ap (λ l. node_of y ∷ l) (graphs_equal xs ys (omega arith) (λ c. each (suc c)))

-- ---- all together

-- what the builder gives in the end
pub record AreFinished (cells : List Cell) : Type 0 where
  pub stage : (c : ℕ) → (cell_at cells c).stage ≡ 0
  pub port : (c : ℕ) → c < length cells → NamesWithin cells c
  pub dest : (c : ℕ) → c < length cells → ListsItsArcs cells c
  pub loop : HasMarks cells

pub finished : (old now new : List Cell) (marks : List ℕ) → AreBare old → ArcsWithin old → ListsSoFar old (length old) 0 now → AreRightMarks now marks → MarkedSoFar now marks (length now) new → AreFinished new
finished old now new marks bare within listed right marked =
    let same = same_from_marked now new marks marked in
    let producers = same_producer now new same in
    let lists = λ (u : ℕ). arcs_listed now new same u (all_listed old now listed u) in
    let arcs = λ (c p : ℕ) (u : CellId) (fed : producer_of new (port_of c p) ≡ Some u).
    subst (λ n. u.0 < n) (sym same.count) (arcs_kept old now listed.same within c p u (sym (producers (port_of c p)) ∙ fed)) in
    record {
      stage = λ c. ap (λ (cell : Cell). cell.stage) (same.each c) ∙ ap (λ (cell : Cell). cell.stage) (listed.same.each c) ∙ bare.stage c;
      port = λ c within. names_within new arcs lists c;
      dest = λ c within. lists c;
      loop = marks_stay now new producers (λ c. get_or marks c 0) (mark_of new) (mark_given now new marks right.0 marked) right.1;
    }

pub finished_graph : (old now new : List Cell) (marks : List ℕ) → ListsSoFar old (length old) 0 now → MarkedSoFar now marks (length now) new → graph_of new ≡ graph_of old
finished_graph old now new marks listed marked =
    let same = same_from_marked now new marks marked in
    graphs_equal new now same.count (λ c. ap node_of (same.each c)) ∙ graphs_equal now old listed.same.count (λ c. ap node_of (listed.same.each c))

-- cells whose arcs are within, and which list them, name cells that are there
pub listed_within : (old now : List Cell) → ArcsWithin old → ListsSoFar old (length old) 0 now → (c : ℕ) → c < length now → NamesWithin now c
listed_within old now within listed c less =
    names_within now (arcs_kept old now listed.same within) (λ u. all_listed old now listed u) c
