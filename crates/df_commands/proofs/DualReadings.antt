-- The text of a dual file has one reading: a flow that certifies the cells, or one refusal.
use Rattle.std.proofs.Common.{◌≡◌, inl, inr, ℕ, List, Ok, Err, refl, sym, ap, subst, ◌∙◌, codes, ◌++◌}
use Rattle.std.specs.Fmt.{decimal}
use Rattle.df_cells.specs.declared.cells.Cell.{Cell}
use Rattle.df_cells.specs.WellFormed.{WellFormed}
use Rattle.df_stages.specs.Skeletons.{arcs}
use Rattle.df_dual_check.specs.declared.answer.DualAnswer.{DualAnswer}
use Rattle.df_dual_check.specs.Checked.{IsCertified, ShownWrong}
use Rattle.df_dual_check.specs.Laws.{FailsOnce, CertifiedDontFail, OthersFail, TellsOneFlow, HasOneWrongLine, OthersHaveWrongLines}
use Rattle.df_commands.specs.Laws.{DualFilesHaveOneReading, DualFilesHaveReadings}
use Rattle.df_commands.specs.Lines.{refusal}
use Rattle.df_commands.specs.Texts.{and_word, dual_reason, ReadsDualFile}

abbrev wrong_line : ℕ → List ℕ
wrong_line n = refusal (codes "BadDual" ++ and_word (decimal n))

abbrev fault_line : DualAnswer → List ℕ
fault_line answer = refusal (dual_reason answer)

not_refused : TellsOneFlow → CertifiedDontFail → (cells : List Cell) (text flow line : List ℕ) → WellFormed cells → ReadsDualFile cells text (Ok flow) → ReadsDualFile cells text (Err line) → ⊥
not_refused tells dont cells text flow line well g (inl w) = w.first.none flow g.0
not_refused tells dont cells text flow line well g (inr n) =
    dont cells n.flow n.answer well n.first (subst (IsCertified cells) (tells (arcs cells) text flow n.flow g.0 n.read) g.1)

one_line : TellsOneFlow → HasOneWrongLine → FailsOnce → (cells : List Cell) (text line other : List ℕ) → WellFormed cells → ReadsDualFile cells text (Err line) → ReadsDualFile cells text (Err other) → line ≡ other
one_line tells wrong fails cells text line other well (inl w) (inl v) = w.says ∙ ap wrong_line (wrong (arcs cells) text w.number v.number w.first v.first) ∙ sym v.says
one_line tells wrong fails cells text line other well (inl w) (inr n) = absurd (w.first.none n.flow n.read)
one_line tells wrong fails cells text line other well (inr n) (inl w) = absurd (w.first.none n.flow n.read)
one_line tells wrong fails cells text line other well (inr n) (inr m) =
    let moved : ShownWrong cells n.flow m.answer = subst (λ flow. ShownWrong cells flow m.answer) (tells (arcs cells) text m.flow n.flow m.read n.read) m.first in
    n.says ∙ ap fault_line (fails cells n.flow n.answer m.answer well n.first moved) ∙ sym m.says

pub one_dual_reading : TellsOneFlow → HasOneWrongLine → FailsOnce → CertifiedDontFail → DualFilesHaveOneReading
one_dual_reading tells wrong fails dont cells text (Ok a) (Ok b) well g h = ap Ok (tells (arcs cells) text a b g.0 h.0)
one_dual_reading tells wrong fails dont cells text (Ok a) (Err line) well g h = absurd (not_refused tells dont cells text a line well g h)
one_dual_reading tells wrong fails dont cells text (Err line) (Ok b) well g h = absurd (not_refused tells dont cells text b line well h g)
one_dual_reading tells wrong fails dont cells text (Err line) (Err other) well g h = ap Err (one_line tells wrong fails cells text line other well g h)

pub some_dual_reading : OthersHaveWrongLines → OthersFail → DualFilesHaveReadings
some_dual_reading lines fails cells text well none =
    lines (arcs cells) text
    (λ flow read. fails cells flow well read.numbers (λ certified. none (Ok flow) (read, certified))
    (λ answer first. none (Err (fault_line answer)) (inr (record { flow = flow; read = read; answer = answer; says = refl; first = first }))))
    (λ n first. none (Err (wrong_line n)) (inl (record { number = n; says = refl; first = first })))
