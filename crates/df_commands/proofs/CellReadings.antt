-- The text of a cell file has one reading: the cells, or one refusal.
use Rattle.std.proofs.Common.{◌≡◌, ◌⊎◌, inl, inr, ℕ, List, Result, Ok, Err, refl, sym, ap, subst, ◌∙◌, codes, ◌++◌}
use Rattle.std.specs.Fmt.{decimal}
use Rattle.df_cells.specs.declared.cells.Cell.{Cell}
use Rattle.df_cells.specs.WellFormed.{WellFormed}
use Rattle.df_celltext.specs.declared.version.Version.{Version}
use Rattle.df_celltext.specs.Writable.{IsTextIn}
use Rattle.df_celltext.specs.WrongLines.{FirstWrongLineIn}
use Rattle.df_wellformed.specs.declared.answers.Rule.{Rule}
use Rattle.df_wellformed.specs.Rules.{FailsFirst}
use Rattle.df_wellformed.specs.Laws.{FailsOnce, RefusesAllBad, RefusesOnlyBad}
use Rattle.df_commands.specs.Lines.{refusal}
use Rattle.df_commands.specs.Texts.{and_word, rule_word, ReadsCellFile}

abbrev pub TellsTheCells : Type 0
TellsTheCells = (version : Version) (text : List ℕ) (a b : List Cell) → IsTextIn version text a → IsTextIn version text b → a ≡ b

abbrev pub HasOneWrongLine : Type 0
HasOneWrongLine = (version : Version) (text : List ℕ) (m n : ℕ) → FirstWrongLineIn version text m → FirstWrongLineIn version text n → m ≡ n

-- the line for a rule that fails at a cell
abbrev rule_line : Rule → ℕ → List ℕ
rule_line it c = refusal (codes "BadCells" ++ (and_word (rule_word it) ++ and_word (decimal c)))

abbrev wrong_line : ℕ → List ℕ
wrong_line n = refusal (codes "BadCellText" ++ and_word (decimal n))

not_refused : TellsTheCells → RefusesOnlyBad → (version : Version) (text : List ℕ) (cells : List Cell) (line : List ℕ) → ReadsCellFile version text (Ok cells) → ReadsCellFile version text (Err line) → ⊥
not_refused tells none version text cells line g (inl w) = w.first.no_text cells g.0
not_refused tells none version text cells line g (inr i) = none i.cells i.rule i.cell (subst WellFormed (tells version text cells i.cells g.0 i.read) g.1) i.first

one_line : TellsTheCells → HasOneWrongLine → FailsOnce → (version : Version) (text line other : List ℕ) → ReadsCellFile version text (Err line) → ReadsCellFile version text (Err other) → line ≡ other
one_line tells wrong fails version text line other (inl w) (inl v) = w.says ∙ ap wrong_line (wrong version text w.number v.number w.first v.first) ∙ sym v.says
one_line tells wrong fails version text line other (inl w) (inr i) = absurd (w.first.no_text i.cells i.read)
one_line tells wrong fails version text line other (inr i) (inl w) = absurd (w.first.no_text i.cells i.read)
one_line tells wrong fails version text line other (inr i) (inr j) =
    let moved : FailsFirst i.cells j.rule j.cell = subst (λ cells. FailsFirst cells j.rule j.cell) (tells version text j.cells i.cells j.read i.read) j.first in
    let same = fails i.cells i.rule j.rule i.cell j.cell i.first moved in
    i.says ∙ ap (λ it. rule_line it i.cell) same.0 ∙ ap (rule_line j.rule) same.1 ∙ sym j.says

pub one_cell_reading : TellsTheCells → HasOneWrongLine → FailsOnce → RefusesOnlyBad
    → (version : Version) (text : List ℕ) (one other : Result (List Cell) (List ℕ)) → ReadsCellFile version text one → ReadsCellFile version text other → one ≡ other
one_cell_reading tells wrong fails none version text (Ok a) (Ok b) g h = ap Ok (tells version text a b g.0 h.0)
one_cell_reading tells wrong fails none version text (Ok a) (Err line) g h = absurd (not_refused tells none version text a line g h)
one_cell_reading tells wrong fails none version text (Err line) (Ok b) g h = absurd (not_refused tells none version text b line h g)
one_cell_reading tells wrong fails none version text (Err line) (Err other) g h = ap Err (one_line tells wrong fails version text line other g h)

pub some_cell_reading : RefusesAllBad
    → (version : Version) (text : List ℕ) → ((cells : List Cell) × IsTextIn version text cells) ⊎ ((n : ℕ) × FirstWrongLineIn version text n)
    → ¬ ((reading : Result (List Cell) (List ℕ)) → ¬ ReadsCellFile version text reading)
some_cell_reading fails version text (inl (cells, read)) none =
    fails cells read.0.shaped (λ well. none (Ok cells) (read, well))
    (λ it c first. none (Err (rule_line it c)) (inr (record { cells = cells; read = read; rule = it; cell = c; says = refl; first = first })))
some_cell_reading fails version text (inr (n, first)) none = none (Err (wrong_line n)) (inl (record { number = n; says = refl; first = first }))
