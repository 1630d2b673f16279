-- What an answer says, clause by clause.
use Rattle.std.proofs.Common.{◌≡◌, ℕ, ◌+◌, ◌<◌, ◌≤◌, nat_lt, Bool, true, false, List, [], length, All, Option, Some, None, MatchOption, Result, Ok, Err, MatchResult, IsOk, IfErr, ◌↔◌, inl, inr, pos, refl, sym, ap, subst, ◌∙◌, arith, rules}
use Rattle.std.specs.Prelude.{slice_get}
use Rattle.std.proofs.lemmas.Bool.{ltb-true, ltb-false}
use Rattle.std.proofs.lemmas.Option.{same_Some}
use Rattle.std.proofs.lemmas.List.{get_or_default, get_or_past, length-map}
use Rattle.df_cells.specs.declared.cells.CellId.{CellId}
use Rattle.df_cells.specs.declared.cells.Dest.{Dest}
use Rattle.df_cells.specs.declared.cells.Cell.{Cell}
use Rattle.df_cells.specs.Cells.{no_cell, cell_from, port_of, producer_of, is_buf}
use Rattle.df_cells.specs.WellFormed.{WellFormed}
use Rattle.df_stages.specs.declared.skeleton.SkeletonArc.{SkeletonArc}
use Rattle.df_stages.specs.Flows.{arc_length}
use Rattle.df_stages.specs.Skeletons.{nodes, arcs, no_arc, arc_at, cell_id}
use Rattle.df_stages.specs.Balance.{stage_of, rise_of, IsBalanced, IsLeast}
use Rattle.df_stages.specs.Laws.{CertifiesLeast, EndsHaveStages}
use Rattle.df_stages.specs.Carried.{SuitsCells, Carries}
use Rattle.df_stages.proofs.Backs.{back_moves}
use Rattle.df_stages.proofs.Parts.{fed_within}
use Rattle.df_stages.proofs.Forward.{over_within}
use Rattle.df_dual_check.specs.Checked.{IsCertified, ShownWrong, IsBalancedAt, IsLevel, Rises, IsFirstUnbalanced}
use Rattle.df_dual_check.specs.declared.answer.DualAnswer.{DualAnswer}
use Rattle.df_dual_check.specs.declared.answer.DualAnswer.TheVariants.{NotBalanced, BadFlow, NotEqual}

pub none_matched : {A : Type 0} (P : Type 0) (Q : A → Type 0) (r : Option A) → MatchOption r P Q → ((x : A) → r ≡ Some x → ⊥) → P
none_matched P Q None m other = m
none_matched P Q (Some x) m other = absurd (other x refl)

-- ---- arcs

pub first_found : (cells : List Cell) (list : List SkeletonArc) (i : ℕ) (d : Dest) → list ≡ arcs cells → i < length list → (arc_at list i).name ≡ d → (IsBalancedAt cells (arc_at list i) → ⊥)
    → ((j : ℕ) → j < i → IsBalancedAt cells (arc_at list j)) → IsFirstUnbalanced cells d
first_found cells list i d e within named wrong before = (
  i,
  subst (λ (l : List SkeletonArc). i < length l) e within,
  subst (λ (l : List SkeletonArc). (arc_at l i).name ≡ d) e named,
  subst (λ (l : List SkeletonArc). ¬ IsBalancedAt cells (arc_at l i)) e wrong,
  subst (λ (l : List SkeletonArc). (j : ℕ) → j < i → IsBalancedAt cells (arc_at l j)) e before,
)

pub all_found : (cells : List Cell) (list : List SkeletonArc) (n : ℕ) → list ≡ arcs cells → length list ≤ n → ((j : ℕ) → j < n → IsBalancedAt cells (arc_at list j)) → All (IsBalancedAt cells) (arcs cells)
all_found cells list n e whole before =
    subst (All (IsBalancedAt cells)) e (λ k d l. subst (IsBalancedAt cells) (get_or_default list k no_arc d l) (before k (omega (arith, l, whole))))

-- ---- the cells

no_port : (p : ℕ) → cell_from (slice_get [] p) ≡ None
no_port p = refl

-- a port that is fed is that of a cell
port_within : (cells : List Cell) (d : Dest) (u : CellId) → producer_of cells d ≡ Some u → d.cell.0 < length cells
port_within cells d u fed = by (nat_lt d.cell.0 (length cells)) refl
  where
    by : (b : Bool) → nat_lt d.cell.0 (length cells) ≡ b → d.cell.0 < length cells
    by true l = ltb-true d.cell.0 (length cells) l
    by false l =
        let past = get_or_past cells d.cell.0 no_cell (ltb-false d.cell.0 (length cells) l) in
        let none : producer_of cells d ≡ None = ap (λ (c : Cell). cell_from (slice_get c.ports d.port.0)) past ∙ no_port d.port.0 in
        let e : Some u ≡ None = sym fed ∙ none in cc

module _ (ends : EndsHaveStages) (cells : List Cell) (well_formed : WellFormed cells) (suits : SuitsCells cells) where
  pub all_balanced : All (IsBalancedAt cells) (arcs cells) → IsLevel cells → IsBalanced cells
  all_balanced all level = record {
    arcs = λ k d l. let e = ends cells well_formed level k d l in e.2 ∙ (all k d l).long e.0 e.1;
    buffers = risen;
    nodes = level;
  }
    where
      risen : (b : ℕ) (u : CellId) → is_buf cells b ≡ true → producer_of cells (port_of b 0) ≡ Some u → stage_of cells b ≡ stage_of cells u.0 + 1
      risen b u buf fed =
          let (arc, (k, within, is), carries) = suits.carried b (port_within cells (port_of b 0) u fed) buf in
          let at = subst (IsBalancedAt cells) is (all k arc within) in
          at.buffers b carries ∙ ap (λ c. stage_of cells c + 1) (back_moves cells b u buf fed)

  -- in balanced cells each arc is balanced
  pub each_balanced : IsBalanced cells → (i : ℕ) → i < length (arcs cells) → IsBalancedAt cells (arc_at (arcs cells) i)
  each_balanced balanced i within = record { long = long; buffers = risen }
    where
      long : (u : CellId) → producer_of cells (arc_at (arcs cells) i).name ≡ Some u → rise_of cells (arc_at (arcs cells) i) u ≡ arc_length (arc_at (arcs cells) i)
      long u fed =
          let e = ends cells well_formed balanced.nodes i no_arc within in
          ap (rise_of cells (arc_at (arcs cells) i)) (same_Some u e.0 (sym fed ∙ e.1)) ∙ sym e.2 ∙ balanced.arcs i no_arc within

      d : Dest
      d = (arc_at (arcs cells) i).name

      risen : (b : ℕ) → Carries cells d b → Rises cells b
      risen b (u, n, fed, met, buf) =
          let u_in = fed_within cells well_formed d u (suits.names i no_arc within) fed in
          let b_in : b < length cells = subst (λ k. k < length cells) met (over_within cells well_formed n u.0 u_in) in
          let on = well_formed.buffer b b_in buf in
          balanced.buffers b on.from buf on.fed ∙ ap (λ c. stage_of cells c + 1) (sym (back_moves cells b on.from buf on.fed))

-- ---- answers

module _ (ends : EndsHaveStages) (cells : List Cell) (well_formed : WellFormed cells) (suits : SuitsCells cells) (flow : List ℕ) where
  -- what is certified has none of the faults
  pub not_certified : (answer : DualAnswer) → ShownWrong cells flow answer → IsCertified cells flow → ⊥
  not_certified (NotBalanced d) (inl (i, within, named, wrong, before)) certified = wrong (each_balanced ends cells well_formed suits certified.balanced i within)
  not_certified (NotBalanced d) (inr (all, c, off, at)) certified = off.1 (certified.balanced.nodes c.0 off.0)
  not_certified (BadFlow c) (balanced, (node, within, named, wrong, before)) certified =
      let long = length-map (nodes cells) cell_id in wrong (certified.certificate.dual.conserved node (omega (arith, within, long)))
  not_certified (NotEqual value count) wrong certified = wrong.4 (wrong.2 ∙ certified.certificate.value ∙ ap pos (sym wrong.3))

  pub exact_answer : (r : Result (Unit {0}) DualAnswer) → MatchResult r (λ _. IsCertified cells flow) (ShownWrong cells flow) → IsOk r ↔ IsCertified cells flow
  exact_answer (Ok u) m = ((λ h. m), (λ h. refl))
  exact_answer (Err e) m = ((λ h. cc), (λ h. absurd (not_certified e m h)))

  pub least_answer : CertifiesLeast → (r : Result (Unit {0}) DualAnswer) → MatchResult r (λ _. IsCertified cells flow) (ShownWrong cells flow) → IsOk r → IsLeast cells
  least_answer law (Ok u) m h = law cells flow well_formed m.certificate
  least_answer law (Err e) m h = cc

  pub first_answer : (r : Result (Unit {0}) DualAnswer) → MatchResult r (λ _. IsCertified cells flow) (ShownWrong cells flow) → IfErr r (ShownWrong cells flow)
  first_answer (Ok u) m = search rules
  first_answer (Err e) m = m
