-- What the reader of a text answers.
use Rattle.std.proofs.Common.{◌≡◌, ◌≢◌, ℕ, ◌==◌, true, false, List, [], ◌∷◌, Option, None, length, refl, sym, ap, subst, arith}
use Rattle.std.proofs.lemmas.Bool.{eqb-true, eqb-false}
use Rattle.df_cells.specs.declared.cells.Cell.{Cell}
use Rattle.df_celltext.specs.declared.reader.CellTextAnswer.{CellTextAnswer}
use Rattle.df_celltext.specs.declared.reader.CellTextAnswer.TheVariants.{BadCellText, Memory}
use Rattle.df_celltext.specs.declared.words.LineAnswer.{LineAnswer}
use Rattle.df_celltext.specs.declared.words.LineAnswer.TheVariants as line_answer
use Rattle.df_celltext.specs.declared.version.Version.{Version}
use Rattle.df_celltext.specs.Writable.{IsTextIn}
use Rattle.df_celltext.specs.WrongLines.{FirstWrongLineIn, answer_at, ShowsWrong}
use Rattle.df_celltext.specs.Reading.{Fails}

pub shows_wrong : {A : Type 0} (version : Version) (text : List ℕ) (why : LineAnswer) (n : ℕ) (answer : CellTextAnswer) (read : Option A) → Fails why read → (read ≡ None → FirstWrongLineIn version text n) → answer ≡ answer_at why n → ShowsWrong version text answer
shows_wrong version text line_answer.Wrong n answer read h wrong e = subst (ShowsWrong version text) (sym e) (wrong h)
shows_wrong version text line_answer.Memory n answer read h wrong e = subst (ShowsWrong version text) (sym e) tt

-- a text that a list has is refused for want of memory alone
pub wrong_only : (version : Version) (text : List ℕ) (answer : CellTextAnswer) → ShowsWrong version text answer → (cells : List Cell) → IsTextIn version text cells → answer ≡ Memory
wrong_only version text (BadCellText n) h cells is = absurd (h.no_text cells is)
wrong_only version text Memory h cells is = refl

pub is_nothing : (rest : List ℕ) → true ≡ (length rest == 0) → rest ≡ []
is_nothing [] h = refl
is_nothing (b ∷ rest) h = absurd (omega (arith, eqb-true (length (b ∷ rest)) 0 (sym h)))

pub is_something : (rest : List ℕ) → false ≡ (length rest == 0) → rest ≢ []
is_something rest h e = eqb-false (length rest) 0 (sym h) (ap length e)
