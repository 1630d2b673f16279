-- Lines of a dual text that are read one after the other.
use Rattle.std.specs.Prelude.{◌≡◌, ℕ, ◌+◌, ◌<◌, ◌≤◌, ◌^◌, List, ◌++◌, All, length}
use Rattle.df_stages.specs.declared.skeleton.SkeletonArc.{SkeletonArc}
use Rattle.df_stages.specs.Skeletons.{arc_at}
use Rattle.df_dual_check.specs.DualTexts.{line, text_of, arc_line, flow_lines}
use Rattle.df_dual_check.specs.declared.dual_text.DualTextAnswer.{DualTextAnswer}
use Rattle.df_dual_check.specs.declared.dual_text.DualTextAnswer.TheVariants.{BadDual, Memory}

-- the text is the lines of the first arcs with these flows, and then the rest
pub record IsReadTo (arcs : List SkeletonArc) (text flow rest : List ℕ) : Type 0 where
  pub some : length flow ≤ length arcs
  pub small : All (λ f. f < 2 ^ 32) flow
  pub parts : text ≡ text_of (flow_lines arcs flow) ++ rest

-- the line of the arc behind them is none with a flow, and this is its number in a text with one line before
pub record StopsAt (arcs : List SkeletonArc) (text : List ℕ) (number : ℕ) : Type 0 where
  pub flow : List ℕ
  pub rest : List ℕ
  pub read : IsReadTo arcs text flow rest
  pub more : length flow < length arcs
  pub counted : number ≡ length flow + 2
  pub wrong : (f : ℕ) (behind : List ℕ) → f < 2 ^ 32 → ¬ (rest ≡ line (arc_line (arc_at arcs (length flow)) f) ++ behind)

abbrev pub StopsReading : List SkeletonArc → List ℕ → DualTextAnswer → Type 0
StopsReading arcs text (BadDual number) = StopsAt arcs text number
StopsReading arcs text Memory = Unit {0}
