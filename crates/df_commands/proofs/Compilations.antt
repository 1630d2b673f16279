-- Whether the text of a source can be compiled has one answer.
use Rattle.std.proofs.Common.{◌≡◌, ℕ, List, Result, Ok, Err, codes, refl, sym, ap, subst, ◌∙◌}
use Rattle.df_syntax.specs.declared.program.Program.{Program}
use Rattle.df_core.specs.declared.flat.Flat.{Flat}
use Rattle.df_compile.specs.Compiled.{IsOverfull, IsRefused, Fits}
use Rattle.df_compile.specs.declared.compile.CompileAnswer.{CompileAnswer}
use Rattle.df_compile.specs.declared.compile.CompileAnswer.TheVariants.{TooManyCells}
use Rattle.df_commands.specs.Judged.{GivesMeaning}
use Rattle.df_commands.specs.Laws.{CompilationsHaveOneReading, CompilationsHaveReadings, ProgramsHaveOneReading, ProgramsHaveReadings}
use Rattle.df_commands.specs.Lines.{refusal}
use Rattle.df_commands.specs.ProgramTexts.{flat_of, ReadsProgram, ReadsCompilable, IsNotCompilable}
use Rattle.df_commands.specs.ProgramTexts.IsNotCompilable.{unread, overfull}
use Rattle.df_commands.specs.Ready.{IsFlatOf}
use Rattle.df_commands.specs.declared.programs.Source.{Source}
use Rattle.df_commands.specs.declared.compilation.CompiledSource.{CompiledSource}
use Rattle.df_commands.specs.declared.stop.Stop.{Stop}
use Rattle.df_commands.specs.declared.stop.Stop.TheVariants as stop

the_ok : {A B : Type 0} (a b : A) → ◌≡◌ {A = Result A B} (Ok a) (Ok b) → a ≡ b
the_ok a b e = cc

the_err : {A B : Type 0} (a b : B) → ◌≡◌ {A = Result A B} (Err a) (Err b) → a ≡ b
the_err a b e = cc

no_mixture : {A B : Type 0} (a : A) (b : B) → ◌≡◌ {A = Result A B} (Ok a) (Err b) → ⊥
no_mixture a b e = cc

-- what can be compiled is not refused
not_both : ProgramsHaveOneReading → (text : List ℕ) (tree : Program) (line : List ℕ) → ReadsCompilable text (Ok tree) → IsNotCompilable text line → ⊥
not_both once text tree line read (unread refused) = no_mixture tree line (once text (Ok tree) (Err line) read.0 refused)
not_both once text tree line read (overfull other is accepted over says) =
    read.1 (subst (λ t. IsOverfull (flat_of t)) (the_ok other tree (once text (Ok other) (Ok tree) (is, accepted) read.0)) over)

one_line : ProgramsHaveOneReading → (text line other : List ℕ) → IsNotCompilable text line → IsNotCompilable text other → line ≡ other
one_line once text line other (unread a) (unread b) = the_err line other (once text (Err line) (Err other) a b)
one_line once text line other (unread a) (overfull tree is accepted over says) = absurd (no_mixture tree line (once text (Ok tree) (Err line) (is, accepted) a))
one_line once text line other (overfull tree is accepted over says) (unread b) = absurd (no_mixture tree other (once text (Ok tree) (Err other) (is, accepted) b))
one_line once text line other (overfull tree is accepted over says) (overfull that it fits more tells) = says ∙ sym tells

pub one_compilation : ProgramsHaveOneReading → CompilationsHaveOneReading
one_compilation once text (Ok a) (Ok b) p q = once text (Ok a) (Ok b) p.0 q.0
one_compilation once text (Ok a) (Err line) p q = absurd (not_both once text a line p q)
one_compilation once text (Err line) (Ok b) p q = absurd (not_both once text b line q p)
one_compilation once text (Err line) (Err other) p q = ap Err (one_line once text line other p q)

pub some_compilation : ProgramsHaveReadings → CompilationsHaveReadings
some_compilation some text none = some text read
  where
    read : (reading : Result Program (List ℕ)) → ¬ ReadsProgram text reading
    read (Ok tree) is = none (Ok tree) (is, λ over. none (Err (refusal (codes "TooManyCells"))) (overfull tree is.0 is.1 over refl))
    read (Err line) refused = none (Err line) (unread refused)

-- ---- what stops it

-- why the source isn't read is why it isn't compiled
pub not_read : (text : List ℕ) (why : Stop) → GivesMeaning (λ (s : Source). s.tree) (Err why) (ReadsProgram text) → GivesMeaning (λ (s : CompiledSource). s.tree) (Err why) (ReadsCompilable text)
not_read text (stop.Refused line) refused = unread refused
not_read text stop.ReadFault refused = refused
not_read text stop.Memory refused = tt

pub overfull_here : (text line : List ℕ) (tree : Program) (flat : Flat) (answer : CompileAnswer) → ReadsProgram text (Ok tree) → IsFlatOf tree flat → IsRefused flat answer → answer ≡ TooManyCells
    → line ≡ refusal (codes "TooManyCells") → IsNotCompilable text line
overfull_here text line tree flat answer read is refused cells says =
    overfull tree read.0 read.1 (subst IsOverfull is.is (subst (IsRefused flat) cells refused).1) says

pub compiled_here : (text : List ℕ) (tree : Program) (flat : Flat) → ReadsProgram text (Ok tree) → IsFlatOf tree flat → Fits flat → ReadsCompilable text (Ok tree)
compiled_here text tree flat read is fits = (read, (subst Fits is.is fits).room)
