-- What makes a refusal the refusal: one answer of a check and one reading of a text.
use Rattle.std.specs.Prelude.{◌≡◌, ℕ, List}
use Rattle.df_cells.specs.declared.cells.Cell.{Cell}
use Rattle.df_cells.specs.WellFormed.{WellFormed}
use Rattle.df_stages.specs.declared.skeleton.SkeletonArc.{SkeletonArc}
use Rattle.df_stages.specs.Skeletons.{arcs}
use Rattle.df_dual_check.specs.declared.answer.DualAnswer.{DualAnswer}
use Rattle.df_dual_check.specs.Checked.{IsCertified, ShownWrong}
use Rattle.df_dual_check.specs.DualTexts.{IsFlowOf, IsDualText, IsFirstWrong}

-- ---- checks

abbrev pub FailsOnce : Type 0
FailsOnce = (cells : List Cell) (flow : List ℕ) (one other : DualAnswer) → WellFormed cells → ShownWrong cells flow one → ShownWrong cells flow other → one ≡ other

abbrev pub CertifiedDontFail : Type 0
CertifiedDontFail = (cells : List Cell) (flow : List ℕ) (answer : DualAnswer) → WellFormed cells → ShownWrong cells flow answer → ¬ IsCertified cells flow

-- it can't be that nothing is wrong with what is not certified
abbrev pub OthersFail : Type 0
OthersFail = (cells : List Cell) (flow : List ℕ) → WellFormed cells → IsFlowOf (arcs cells) flow → ¬ IsCertified cells flow
    → ¬ ((answer : DualAnswer) → ¬ ShownWrong cells flow answer)

-- ---- texts

abbrev pub TellsOneFlow : Type 0
TellsOneFlow = (list : List SkeletonArc) (text flow other : List ℕ) → IsDualText list text flow → IsDualText list text other → flow ≡ other

abbrev pub HasOneWrongLine : Type 0
HasOneWrongLine = (list : List SkeletonArc) (text : List ℕ) (m n : ℕ) → IsFirstWrong list text m → IsFirstWrong list text n → m ≡ n

-- it can't be that a text of no flow has no wrong line
abbrev pub OthersHaveWrongLines : Type 0
OthersHaveWrongLines = (list : List SkeletonArc) (text : List ℕ) → ((flow : List ℕ) → ¬ IsDualText list text flow) → ¬ ((n : ℕ) → ¬ IsFirstWrong list text n)
