-- One answer tells what is wrong with cells and a flow, and there is one where they aren't certified.
use Rattle.std.proofs.Common.{◌≡◌, ℕ, zero, suc, ◌<◌, List, length, All, inl, inr, refl, sym, ap, subst, ◌∙◌, arith}
use Rattle.std.proofs.lemmas.Bool.{cases_lt, cases_order}
use Rattle.std.proofs.lemmas.List.{length-map}
use Rattle.std.specs.Prelude.{slice_index_or}
use Rattle.df_cells.specs.declared.cells.CellId.{CellId}
use Rattle.df_cells.specs.declared.cells.Dest.{Dest}
use Rattle.df_cells.specs.declared.cells.Cell.{Cell}
use Rattle.df_cells.specs.Cells.{port_of}
use Rattle.df_cells.specs.WellFormed.{WellFormed}
use Rattle.df_stages.specs.Skeletons.{nodes, arcs, no_arc, no_cell_id, arc_at, buffers, skeleton_of, cell_id}
use Rattle.df_stages.specs.Flows.{IsConservedAt, IsDualFlow, flow_value}
use Rattle.df_stages.specs.Laws.{EndsHaveStages}
use Rattle.df_stages.specs.Balance.{IsBalanced}
use Rattle.df_stages.specs.Carried.{SuitsCells}
use Rattle.df_dual_check.specs.declared.answer.DualAnswer.{DualAnswer}
use Rattle.df_dual_check.specs.declared.answer.DualAnswer.TheVariants.{NotBalanced, BadFlow, NotEqual}
use Rattle.df_dual_check.specs.Checked.{IsBalancedAt, IsFirstUnbalanced, IsLevelAt, IsFirstOff, IsFirstUnconserved, IsCertified, ShownWrong}
use Rattle.df_dual_check.specs.DualTexts.{IsFlowOf}
use Rattle.df_dual_check.proofs.Verdicts.{all_found, all_balanced, each_balanced}

-- what can't fail first can't fail
least_fails : (P : ℕ → Type 0) (n : ℕ) → ((k : ℕ) → k < n → ¬ P k → ((j : ℕ) → j < k → P j) → ⊥) → ¬ ¬ ((k : ℕ) → k < n → P k)
least_fails P zero step not = not (λ k h. absurd (omega arith))
least_fails P (suc n) step not =
    least_fails P n (λ k h. step k (omega arith)) (λ below.
    step n (omega arith)
    (λ here. not (λ k h. elim (cases_lt k n) [
      | inl less ↦ below k less
      | inr past ↦ let same : n ≡ k = omega arith in subst P same here
    ]))
    below)

module _ (cells : List Cell) where
  same_arc : (d e : Dest) → IsFirstUnbalanced cells d → IsFirstUnbalanced cells e → d ≡ e
  same_arc d e (i, within, named, wrong, before) (j, within', named', wrong', before') =
      elim (cases_order i j) [
        | inl same ↦ sym named ∙ ap (λ k. (arc_at (arcs cells) k).name) same ∙ named'
        | inr rest ↦ elim rest [
          | inl less ↦ absurd (wrong (before' i less))
          | inr more ↦ absurd (wrong' (before j more))
        ]
      ]

  not_all : (d : Dest) → IsFirstUnbalanced cells d → All (IsBalancedAt cells) (arcs cells) → ⊥
  not_all d (i, within, named, wrong, before) all = wrong (all i no_arc within)

  same_cell : (c d : CellId) → IsFirstOff cells c → IsFirstOff cells d → c.0 ≡ d.0
  same_cell c d off off' =
      elim (cases_order c.0 d.0) [
        | inl same ↦ same
        | inr rest ↦ elim rest [
          | inl less ↦ absurd (off.1 (off'.2 c.0 less))
          | inr more ↦ absurd (off'.1 (off.2 d.0 more))
        ]
      ]

  same_node : (flow : List ℕ) (c d : CellId) → IsFirstUnconserved (skeleton_of cells) flow c → IsFirstUnconserved (skeleton_of cells) flow d → c ≡ d
  same_node flow c d (i, within, named, wrong, before) (j, within', named', wrong', before') =
      elim (cases_order i j) [
        | inl same ↦ sym named ∙ ap (λ k. slice_index_or (skeleton_of cells).nodes k no_cell_id) same ∙ named'
        | inr rest ↦ elim rest [
          | inl less ↦ absurd (wrong (before' i less))
          | inr more ↦ absurd (wrong' (before j more))
        ]
      ]

  not_dual : (flow : List ℕ) (c : CellId) → IsFirstUnconserved (skeleton_of cells) flow c → IsDualFlow (length (nodes cells)) (arcs cells) flow → ⊥
  not_dual flow c (node, within, named, wrong, before) dual = let long = length-map (nodes cells) cell_id in wrong (dual.conserved node (omega (arith, within, long)))

module _ (ends : EndsHaveStages) (cells : List Cell) (well_formed : WellFormed cells) (suits : SuitsCells cells) (flow : List ℕ) where
  not_balanced : (d : Dest) → ShownWrong cells flow (NotBalanced d) → IsBalanced cells → ⊥
  not_balanced d (inl (i, within, named, wrong, before)) balanced = wrong (each_balanced ends cells well_formed suits balanced i within)
  not_balanced d (inr (all, c, off, at)) balanced = off.1 (balanced.nodes c.0 off.0)

  same_port : (d e : Dest) → ShownWrong cells flow (NotBalanced d) → ShownWrong cells flow (NotBalanced e) → d ≡ e
  same_port d e (inl a) (inl b) = same_arc cells d e a b
  same_port d e (inl a) (inr (all, c, off, at)) = absurd (not_all cells d a all)
  same_port d e (inr (all, c, off, at)) (inl b) = absurd (not_all cells e b all)
  same_port d e (inr (all, c, off, at)) (inr (all', c', off', at')) = at ∙ ap (λ n. port_of n 0) (same_cell cells c c' off off') ∙ sym at'

  pub one_fault : (one other : DualAnswer) → ShownWrong cells flow one → ShownWrong cells flow other → one ≡ other
  one_fault (NotBalanced d) (NotBalanced e) g h = ap NotBalanced (same_port d e g h)
  one_fault (NotBalanced d) (BadFlow c) g h = absurd (not_balanced d g h.0)
  one_fault (NotBalanced d) (NotEqual value count) g h = absurd (not_balanced d g h.0)
  one_fault (BadFlow c) (NotBalanced d) g h = absurd (not_balanced d h g.0)
  one_fault (BadFlow c) (BadFlow d) g h = ap BadFlow (same_node cells flow c d g.1 h.1)
  one_fault (BadFlow c) (NotEqual value count) g h = absurd (not_dual cells flow c g.1 h.1)
  one_fault (NotEqual value count) (NotBalanced d) g h = absurd (not_balanced d h g.0)
  one_fault (NotEqual value count) (BadFlow c) g h = absurd (not_dual cells flow c h.1 g.1)
  one_fault (NotEqual value count) (NotEqual value' count') g h = ap (λ v. NotEqual v count) (g.2 ∙ sym h.2) ∙ ap (NotEqual value') (g.3 ∙ sym h.3)

  pub some_fault : IsFlowOf (arcs cells) flow → ¬ IsCertified cells flow → ¬ ((answer : DualAnswer) → ¬ ShownWrong cells flow answer)
  some_fault numbers not none =
      least_fails (λ k. IsBalancedAt cells (arc_at (arcs cells) k)) (length (arcs cells))
      (λ k h wrong before. none (NotBalanced (arc_at (arcs cells) k).name) (inl (k, h, refl, wrong, before)))
      (λ each.
      let all = all_found cells (arcs cells) (length (arcs cells)) refl (omega arith) each in
      least_fails (IsLevelAt cells) (length cells) (λ c h wrong before. none (NotBalanced (port_of c 0)) (inr (all, record { 0 = c }, (h, wrong, before), refl)))
      (λ level.
      let balanced = all_balanced ends cells well_formed suits all level in
      let long = length-map (nodes cells) cell_id in
      least_fails (IsConservedAt (arcs cells) flow) (length (nodes cells))
      (λ node h wrong before. none (BadFlow (slice_index_or (skeleton_of cells).nodes node no_cell_id)) (balanced, (node, omega (arith, h, long), refl, wrong, before)))
      (λ conserved.
      let dual : IsDualFlow (length (nodes cells)) (arcs cells) flow = record { each = numbers.each; small = numbers.small; conserved = conserved } in
      none (NotEqual (flow_value (arcs cells) flow) (buffers cells))
      (balanced, dual, refl, refl, λ e. not (record { balanced = balanced; certificate = record { dual = dual; value = e } })))))
