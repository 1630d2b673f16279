-- The text of a dual flow: a line for each arc of the skeleton.
use Rattle.std.specs.Prelude.{◌≡◌, ℕ, suc, ◌+◌, ◌<◌, ◌≤◌, ◌^◌, List, [], ◌∷◌, ◌++◌, All, length, map, take, zip, codes}
use Rattle.std.specs.List.{flat_map}
use Rattle.std.specs.Fmt.{decimal}
use Rattle.df_cells.specs.declared.cells.Dest.{Dest}
use Rattle.df_stages.specs.declared.skeleton.SkeletonArc.{SkeletonArc}
use Rattle.df_dual_check.specs.declared.dual_text.DualTextAnswer.{DualTextAnswer}
use Rattle.df_dual_check.specs.declared.dual_text.DualTextAnswer.TheVariants.{BadDual, Memory}

-- ---- lines

-- a text with the line feed at its end
abbrev pub line : List ℕ → List ℕ
line text = text ++ 10 ∷ []

-- the text of lines
abbrev pub text_of : List (List ℕ) → List ℕ
text_of lines = flat_map line lines

-- a port, as `CELL.PORT` and a space
abbrev pub port_text : Dest → List ℕ
port_text d = decimal d.cell.0 ++ (codes "." ++ (decimal d.port.0 ++ codes " "))

abbrev pub arc_line : SkeletonArc → ℕ → List ℕ
arc_line arc flow = port_text arc.name ++ decimal flow

-- a line for each arc, with its flow
abbrev pub flow_lines : List SkeletonArc → List ℕ → List (List ℕ)
flow_lines arcs flow = map (λ p. arc_line p.0 p.1) (zip arcs flow)

-- the first line, with the number of arcs
abbrev pub head_line : ℕ → List ℕ
head_line count = codes "dual 1 " ++ decimal count

abbrev pub dual_lines : List SkeletonArc → List ℕ → List (List ℕ)
dual_lines arcs flow = head_line (length arcs) ∷ (flow_lines arcs flow ++ codes "end" ∷ [])

unfoldable pub dual_text : List SkeletonArc → List ℕ → List ℕ
dual_text arcs flow = text_of (dual_lines arcs flow)

-- ---- what is read

-- one number of 32 bits for each arc
pub record IsFlowOf (arcs : List SkeletonArc) (flow : List ℕ) : Type 0 where
  pub each : length flow ≡ length arcs
  pub small : All (λ f. f < 2 ^ 32) flow

-- this is the text of the flow
pub record IsDualText (arcs : List SkeletonArc) (text flow : List ℕ) : Type 0 where
  pub numbers : IsFlowOf arcs flow
  pub spelled : text ≡ dual_text arcs flow

-- the text begins with the first n lines of the text of some flow
pub record BeginsWell (arcs : List SkeletonArc) (text : List ℕ) (n : ℕ) : Type 0 where
  pub flow : List ℕ
  pub numbers : IsFlowOf arcs flow
  pub within : n ≤ length arcs + 2
  pub rest : List ℕ
  pub begins : text ≡ text_of (take n (dual_lines arcs flow)) ++ rest

-- The text is that of no flow. It begins with the lines before this one, counted from 1, and not with this one too.
pub record IsFirstWrong (arcs : List SkeletonArc) (text : List ℕ) (number : ℕ) : Type 0 where
  pub before : ℕ
  pub counted : number ≡ suc before
  pub well : BeginsWell arcs text before
  pub wrong : ¬ BeginsWell arcs text number
  pub none : (flow : List ℕ) → ¬ IsDualText arcs text flow

abbrev pub RefusesText : List SkeletonArc → List ℕ → DualTextAnswer → Type 0
RefusesText arcs text (BadDual number) = IsFirstWrong arcs text number
RefusesText arcs text Memory = Unit {0}
