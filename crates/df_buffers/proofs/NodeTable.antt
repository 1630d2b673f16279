-- The table of the stages of nodes, cell by cell.
use Rattle.std.proofs.Common.{◌≡◌, ℕ, ◌+◌, ◌<◌, ◌≤◌, ◌==◌, ◌&&◌, not, ℤ, pos, Bool, true, false, cond, List, [], ◌∷◌, ◌++◌, get_or, length, sym, ◌∙◌, ap, subst, inl, inr, arith, eq-eqb}
use Rattle.std.proofs.lemmas.Bool.{cases_lt, ne_eqb, and_right}
use Rattle.std.proofs.lemmas.List.{get_or_append_left, get_or_push, length_push}
use Rattle.std.proofs.lemmas.List.FromFn.{get_or-map-range_with_len, length-map-range_with_len}
use Rattle.df_cells.specs.declared.cells.CellId.{CellId}
use Rattle.df_cells.specs.declared.cells.Cell.{Cell}
use Rattle.df_cells.specs.Cells.{is_buf}
use Rattle.df_stages.specs.SkeletonLists.{SkeletonLists}
use Rattle.df_stages.specs.Nodes.{node_of, is_node}
use Rattle.df_stages.specs.Skeletons.{no_cell_id, count_below, node_place, least_of, skeleton_of}
use Rattle.df_cancel.specs.Balances.{numbered}
use Rattle.df_buffers_laws.specs.Nodes.{HasCountedNodes}
use Rattle.df_buffers.specs.Staging.{AreNodeStages}

-- the table after the first c cells, and the place of the next node
pub record StagesSoFar (old : List Cell) (stages : List ℤ) (c next : ℕ) (table : List ℕ) : Type 0 where
  pub stages_are : AreNodeStages old (numbered stages) c table
  pub next_is : next ≡ count_below old c

pub least_length : (s : SkeletonLists) (cells : List Cell) → s ≡ skeleton_of cells → length s.least ≡ length cells
least_length s cells is =
    ap (λ (t : SkeletonLists). length t.least) is ∙ length-map-range_with_len (least_of cells) 0 (length cells)

-- the least cell of a cell's node, as the skeleton tells it
pub least_is : (s : SkeletonLists) (cells : List Cell) (c : ℕ) (least : CellId) → s ≡ skeleton_of cells → c < length cells
    → least ≡ get_or s.least c no_cell_id → least.0 ≡ node_of cells c
least_is s cells c least is h told =
    ap (λ (k : CellId). k.0) told
    ∙ ap (λ (t : SkeletonLists). (get_or t.least c no_cell_id).0) is
    ∙ ap (λ (k : CellId). k.0)
    (get_or-map-range_with_len (least_of cells) 0 (length cells) c c no_cell_id h (omega arith))

pub node_here : (cells : List Cell) (c : ℕ) → is_buf cells c ≡ false → node_of cells c ≡ c → is_node cells c ≡ true
node_here cells c plain own = ap (λ b. not b && (node_of cells c == c)) plain ∙ eq-eqb (node_of cells c) c own

no_node_here : (cells : List Cell) (c : ℕ) → (node_of cells c ≡ c → ⊥) → is_node cells c ≡ false
no_node_here cells c other = and_right (not (is_buf cells c)) (node_of cells c == c) (ne_eqb (node_of cells c) c other)

abbrev bit : Bool → ℕ
bit b = cond b 1 0

module _ (old : List Cell) (counted : HasCountedNodes old) (stages : List ℤ) (c next : ℕ) (table : List ℕ)
    (so_far : StagesSoFar old stages c next table) (inside : c < length old) (x : ℕ) where
  pushed : pos x ≡ numbered stages (node_place old c) → (n : ℕ) → n ≡ count_below old (c + 1) → x ≤ 4000000000
      → StagesSoFar old stages (c + 1) n (table ++ x ∷ [])
  pushed is n next_is small =
      let count = so_far.stages_are.count in
      let long = length_push table x in
      record {
        stages_are = record {
          count = long ∙ ap (λ m. m + 1) count;
          each = λ j h. elim (cases_lt j c) [
            | inl low ↦ ap pos (get_or_append_left table (x ∷ []) 0 j (omega arith)) ∙ so_far.stages_are.each j low
            | inr high ↦
                let last : c ≡ j = omega arith in
                subst (λ k. pos (get_or (table ++ x ∷ []) k 0) ≡ numbered stages (node_place old k)) last
                (ap pos (get_or_push table x 0 c count) ∙ is)
          ];
          small = λ j h. elim (cases_lt j c) [
            | inl low ↦
                subst (λ k. k ≤ 4000000000) (sym (get_or_append_left table (x ∷ []) 0 j (omega arith)))
                (so_far.stages_are.small j low)
            | inr high ↦
                let last : c ≡ j = omega arith in
                subst (λ k. get_or (table ++ x ∷ []) k 0 ≤ 4000000000) last
                (subst (λ k. k ≤ 4000000000) (sym (get_or_push table x 0 c count)) small)
          ];
        };
        next_is = next_is;
      }

  pub next_node : is_buf old c ≡ false → node_of old c ≡ c → pos x ≡ numbered stages next → x ≤ 4000000000
      → StagesSoFar old stages (c + 1) (next + 1) (table ++ x ∷ [])
  next_node plain own is small =
      let place : next ≡ node_place old c = so_far.next_is ∙ ap (count_below old) (sym own) in
      let more = counted.next c ∙ ap (λ b. count_below old c + bit b) (node_here old c plain own) in
      pushed (is ∙ ap (numbered stages) place) (next + 1) (ap (λ m. m + 1) so_far.next_is ∙ sym more) small

  pub next_other : (node_of old c ≡ c → ⊥) → x ≡ get_or table (node_of old c) 0
      → StagesSoFar old stages (c + 1) next (table ++ x ∷ [])
  next_other other is =
      let low = counted.least c inside in
      let less : node_of old c < c = omega (arith, other) in
      let more = counted.next c ∙ ap (λ b. count_below old c + bit b) (no_node_here old c other) in
      pushed
      (ap pos is ∙ so_far.stages_are.each (node_of old c) less
      ∙ ap (λ k. numbered stages (count_below old k)) (counted.named c inside))
      next
      (so_far.next_is ∙ (omega arith))
      (subst (λ k. k ≤ 4000000000) (sym is) (so_far.stages_are.small (node_of old c) less))
