-- The commands: the words, the texts that each reads and the files that it writes.
use Rattle.std.specs.Prelude.{ℕ, List, [], ◌∷◌, ◌+◌, ◌==◌, length, take, drop, Option, Some, None, Bool, true, not, ◌&&◌, ◌||◌, if◌then◌else◌, codes}
use Rattle.std.specs.List.{list_any, find}
use Rattle.std.specs.Str.{bytes_eq}
use Rattle.df_commands.specs.declared.command.Command.{Command}
use Rattle.df_commands.specs.declared.command.Command.TheVariants.{Check, Eval, Compile, Go, Run, Trace, Replay, Verify, Migrate, Lockstep}
use Rattle.df_commands.specs.declared.command.Text.{Text}
use Rattle.df_commands.specs.declared.command.Text.TheVariants.{Source, Input, Schedule, Cells, Dual}
use Rattle.df_commands.specs.declared.command.Text.TheVariants as text

-- ---- the texts

-- what a text is called where it is too long
abbrev pub label_of : Text → List ℕ
label_of Source = codes "source"
label_of Input = codes "input"
label_of Schedule = codes "schedule"
label_of Cells = codes "cells"
label_of Dual = codes "dual"
label_of text.Trace = codes "trace"

-- the most bytes of a text
abbrev pub limit_of : Text → ℕ
limit_of Source = 1_048_576
limit_of Input = 16_777_216
limit_of Schedule = 16_777_216
limit_of Cells = 33_554_432
limit_of Dual = 8_388_608
limit_of text.Trace = 67_108_864

-- ---- the commands

-- the word of a command
abbrev pub word_of : Command → List ℕ
word_of Check = codes "check"
word_of Eval = codes "eval"
word_of Compile = codes "compile"
word_of Go = codes "go"
word_of Run = codes "run"
word_of Trace = codes "trace"
word_of Replay = codes "replay"
word_of Verify = codes "verify"
word_of Migrate = codes "migrate"
word_of Lockstep = codes "lockstep"

-- the texts that it reads, in the order in which their files are named
abbrev pub texts_of : Command → List Text
texts_of Check = Source ∷ []
texts_of Eval = Source ∷ Input ∷ []
texts_of Compile = Source ∷ []
texts_of Go = Source ∷ Input ∷ Schedule ∷ []
texts_of Run = Cells ∷ Input ∷ Schedule ∷ []
texts_of Trace = Cells ∷ Input ∷ Schedule ∷ []
texts_of Replay = Cells ∷ Input ∷ text.Trace ∷ []
texts_of Verify = Cells ∷ Dual ∷ []
texts_of Migrate = Cells ∷ []
texts_of Lockstep = Cells ∷ Input ∷ []

-- how many files it writes; they are named behind those that it reads
abbrev pub written_by : Command → ℕ
written_by Compile = 2
written_by Go = 2
written_by Migrate = 1
written_by _ = 0

abbrev pub commands : List Command
commands = Check ∷ Eval ∷ Compile ∷ Go ∷ Run ∷ Trace ∷ Replay ∷ Verify ∷ Migrate ∷ Lockstep ∷ []

-- ---- the words

-- a command with the names of the files that it reads and of those that it writes
pub record Order : Type 0 where
  pub command : Command
  pub reads : List (List ℕ)
  pub writes : List (List ℕ)

abbrev pub is_among : List (List ℕ) → List ℕ → Bool
is_among names name = list_any (λ other. bytes_eq name other) names

-- none of these names is one of the others, or stands twice
abbrev pub are_apart : List (List ℕ) → List (List ℕ) → Bool
are_apart others [] = true
are_apart others (name ∷ names) = not (is_among others name || is_among names name) && are_apart others names

-- the names split between the files that are read and those that are written
abbrev pub order_with : Command → List (List ℕ) → Order
order_with command names = let reads = length (texts_of command) in
    record { command = command; reads = take reads names; writes = drop reads names }

-- A command has as many names as files, and a name that is to be written is no other name of the command.
abbrev pub fits : Command → List (List ℕ) → Bool
fits command names =
    (length names == length (texts_of command) + written_by command) && are_apart (order_with command names).reads (order_with command names).writes

abbrev pub ordered : List (List ℕ) → Option Command → Option Order
ordered names None = None
ordered names (Some command) = if fits command names then Some (order_with command names) else None

-- Which words are a command.
abbrev pub order_of : List (List ℕ) → Option Order
order_of [] = None
order_of (word ∷ names) = ordered names (find (λ command. bytes_eq word (word_of command)) commands)
