-- Reading, as a function of the words of a line: nothing where they are wrong.
use Rattle.std.specs.Prelude.{◌≡◌, ℕ, ℤ, ◌==◌, nat_le, not, Bool, true, false, cond, ◌&&◌, List, [], ◌∷◌, ◌++◌, suc, zero, Option, Some, None, Result, Ok, Err, codes, bytes_eq}
use Rattle.std.specs.Fmt.{decimal, signed_decimal}
use Rattle.std.specs.Str.Parse.{digits_value, signed_digits_value}
use Rattle.std.specs.Int.Signed.{lt_z}
use Rattle.df_values.specs.Values.{least, greatest}
use Rattle.df_values.specs.declared.values.Basic.{Basic}
use Rattle.df_values.specs.declared.values.Basic.TheVariants as basic
use Rattle.df_values.specs.declared.values.Value.{Value}
use Rattle.df_values.specs.declared.values.Value.TheVariants.{Int, Truth, Error}
use Rattle.df_values.specs.declared.values.ErrorValue.TheVariants.{Undef, MissElt, PosOver, NegOver, Unknown, ZeroDivide}
use Rattle.df_cells.specs.declared.cells.Cell.{Cell}
use Rattle.df_cells.specs.declared.cells.Dest.{Dest}
use Rattle.df_cells.specs.declared.cells.Feed.{Feed}
use Rattle.df_cells.specs.declared.cells.Feed.TheVariants.{Arc, Constant, Loaded}
use Rattle.df_cells.specs.declared.kinds.Run.{Run}
use Rattle.df_cells.specs.declared.kinds.Kind.{Kind}
use Rattle.df_cells.specs.declared.kinds.Kind.TheVariants as kind
use Rattle.df_cells.specs.Kinds.{port_count}
use Rattle.df_celltext.specs.declared.words.LineAnswer.{LineAnswer}
use Rattle.df_celltext.specs.declared.words.LineAnswer.TheVariants.{Wrong, Memory}
use Rattle.df_celltext.specs.declared.version.Version.{Version}
use Rattle.df_celltext.specs.Versions.{version_word, has_cell}
use Rattle.df_celltext.specs.Writable.{is_name}
use Rattle.df_celltext.specs.Cuts.{cut_at, words_of}

infixl 10 ◌>>=◌
abbrev pub ◌>>=◌ : {A B : Type 0} → Option A → (A → Option B) → Option B
None >>= f = None
(Some x) >>= f = f x

-- the value, where the test holds
abbrev pub passed : {A : Type 0} → Bool → A → Option A
passed test x = cond test (Some x) None

-- what is named so in a table
abbrev pub named_in : {A : Type 0} → List (List ℕ × A) → List ℕ → Option A
named_in [] name = None
named_in (entry ∷ entries) name = cond (bytes_eq name entry.0) (Some entry.1) (named_in entries name)

abbrev pub or_else : {A : Type 0} → Option A → Option A → Option A
or_else None other = other
or_else (Some x) other = Some x

-- ---- one word

-- the digits stand for one number, and spell it only where they are as its decimal
unfoldable pub number_in : List ℕ → Option ℕ
number_in word = passed (nat_le (digits_value 10 word) 4294967295 && bytes_eq word (decimal (digits_value 10 word))) (digits_value 10 word)

abbrev pub is_ordinary : ℤ → Bool
is_ordinary z = not (lt_z z least) && not (lt_z greatest z)

unfoldable pub integer_in : List ℕ → Option ℤ
integer_in word = passed (is_ordinary (signed_digits_value 10 word) && bytes_eq word (signed_decimal (signed_digits_value 10 word))) (signed_digits_value 10 word)

abbrev pub value_words : List (List ℕ × Value)
value_words =
    (codes "true", Truth true)
    ∷ (codes "false", Truth false)
    ∷ (codes "undef", Error Undef)
    ∷ (codes "miss_elt", Error MissElt)
    ∷ (codes "pos_over", Error PosOver)
    ∷ (codes "neg_over", Error NegOver)
    ∷ (codes "unknown", Error Unknown)
    ∷ (codes "zero_divide", Error ZeroDivide)
    ∷ []

unfoldable pub value_in : List ℕ → Option Value
value_in word = or_else (named_in value_words word) (integer_in word >>= λ z. Some (Int z))

-- an arc from a cell, or from the cell before a `!` with the value behind it
abbrev pub arc_from : List ℕ → Option (List ℕ × List ℕ) → Option Feed
arc_from word None = number_in word >>= λ n. Some (Arc (record { 0 = n }))
arc_from word (Some parts) = number_in parts.0 >>= λ n. value_in parts.1 >>= λ v. Some (Loaded (record { 0 = n }) v)

unfoldable pub arc_in : List ℕ → Option Feed
arc_in word = arc_from word (cut_at 33 word)

unfoldable pub feed_in : List ℕ → Option Feed
feed_in [] = None
feed_in (b ∷ word) = cond (b == 64) (arc_in word) (cond (b == 61) (value_in word >>= λ v. Some (Constant v)) None)

unfoldable pub dest_in : List ℕ → Option Dest
dest_in word = do
  parts ← cut_at 46 word
  cell ← number_in parts.0
  port ← number_in parts.1
  passed (nat_le port 255) (record { cell = record { 0 = cell }; port = record { 0 = port } })

-- a run, and how its value is spelled: not as the last one
unfoldable pub run_in : List ℕ → List ℕ → Option (Run × List ℕ)
run_in last word = do
  parts ← cut_at 42 word
  count ← number_in parts.0
  value ← value_in parts.1
  passed (nat_le 1 count && not (bytes_eq parts.1 last)) (record { count = count; value = value }, parts.1)

abbrev pub basic_words : List (List ℕ × Basic)
basic_words = (codes "integer", basic.Integer) ∷ (codes "boolean", basic.Boolean) ∷ []

-- ---- words

abbrev pub with_rest : {A : Type 0} → List (List ℕ) → Option A → Option (A × List (List ℕ))
with_rest rest None = None
with_rest rest (Some x) = Some (x, rest)

-- what stands behind this word
unfoldable pub after_word : List ℕ → List (List ℕ) → Option (List (List ℕ))
after_word wanted [] = None
after_word wanted (word ∷ rest) = cond (bytes_eq word wanted) (Some rest) None

unfoldable pub number_at : List (List ℕ) → Option (ℕ × List (List ℕ))
number_at [] = None
number_at (word ∷ rest) = with_rest rest (number_in word)

unfoldable pub integer_at : List (List ℕ) → Option (ℤ × List (List ℕ))
integer_at [] = None
integer_at (word ∷ rest) = with_rest rest (integer_in word)

unfoldable pub name_at : List (List ℕ) → Option (List ℕ × List (List ℕ))
name_at [] = None
name_at (word ∷ rest) = passed (is_name word) (word, rest)

unfoldable pub basic_at : List (List ℕ) → Option (Basic × List (List ℕ))
basic_at [] = None
basic_at (word ∷ rest) = with_rest rest (named_in basic_words word)

-- ---- kinds, with the word `stage` behind them

abbrev pub stage : List ℕ
stage = codes "stage"

-- the kinds that have nothing with them in a cell's line
abbrev pub operators : List (List ℕ × Kind)
operators =
    (codes "ADD", kind.Add)
    ∷ (codes "SUB", kind.Sub)
    ∷ (codes "MUL", kind.Mul)
    ∷ (codes "DIV", kind.Div)
    ∷ (codes "MOD", kind.Mod)
    ∷ (codes "MIN", kind.Min)
    ∷ (codes "MAX", kind.Max)
    ∷ []

abbrev pub relations : List (List ℕ × Kind)
relations =
    (codes "LT", kind.Lt)
    ∷ (codes "LE", kind.Le)
    ∷ (codes "GT", kind.Gt)
    ∷ (codes "GE", kind.Ge)
    ∷ (codes "EQ", kind.Eq)
    ∷ (codes "NE", kind.Ne)
    ∷ []

abbrev pub controls : List (List ℕ × Kind)
controls =
    (codes "AND", kind.And)
    ∷ (codes "OR", kind.Or)
    ∷ (codes "NEG", kind.Neg)
    ∷ (codes "NOT", kind.Not)
    ∷ (codes "BUF", kind.Buf)
    ∷ (codes "TGATE", kind.Tgate)
    ∷ (codes "FGATE", kind.Fgate)
    ∷ (codes "MERGE", kind.Merge)
    ∷ []

abbrev pub tests : List (List ℕ × Kind)
tests =
    (codes "IS_UNDEF", kind.IsUndef)
    ∷ (codes "IS_MISS_ELT", kind.IsMissElt)
    ∷ (codes "IS_POS_OVER", kind.IsPosOver)
    ∷ (codes "IS_NEG_OVER", kind.IsNegOver)
    ∷ (codes "IS_UNKNOWN", kind.IsUnknown)
    ∷ (codes "IS_ZERO_DIVIDE", kind.IsZeroDivide)
    ∷ (codes "IS_ERROR", kind.IsError)
    ∷ []

unfoldable pub plain_named : List ℕ → Option Kind
plain_named name = or_else (named_in operators name) (or_else (named_in relations name) (or_else (named_in controls name) (named_in tests name)))

unfoldable pub plain_at : List ℕ → List (List ℕ) → Option (Kind × List (List ℕ))
plain_at name words = do
  plain ← plain_named name
  rest ← after_word stage words
  Some (plain, rest)

unfoldable pub in_at : List (List ℕ) → Option (Kind × List (List ℕ))
in_at words = do
  name ← name_at words
  basic ← basic_at name.1
  n ← number_at basic.1
  rest ← after_word stage n.1
  Some (kind.In name.0 basic.0 n.0, rest)

unfoldable pub idx_at : List (List ℕ) → Option (Kind × List (List ℕ))
idx_at words = do
  lo ← integer_at words
  n ← number_at lo.1
  rest ← after_word stage n.1
  Some (kind.Idx lo.0 n.0, rest)

unfoldable pub out_at : List (List ℕ) → Option (Kind × List (List ℕ))
out_at words = do
  k ← number_at words
  n ← number_at k.1
  rest ← after_word stage n.1
  Some (kind.Out k.0 n.0, rest)

abbrev pub with_front : {A B : Type 0} → List A → Option (List A × B) → Option (List A × B)
with_front front None = None
with_front front (Some found) = Some (front ++ found.0, found.1)

unfoldable pub runs_at : List ℕ → List (List ℕ) → Option (List Run × List (List ℕ))
runs_at last [] = None
runs_at last (word ∷ rest) = cond (bytes_eq word stage) (Some ([], rest)) (run_in last word >>= λ r. with_front (r.0 ∷ []) (runs_at r.1 rest))

unfoldable pub ctl_at : List (List ℕ) → Option (Kind × List (List ℕ))
ctl_at words = do
  runs ← runs_at [] words
  Some (kind.Ctl runs.0, runs.1)

unfoldable pub kind_at : List (List ℕ) → Option (Kind × List (List ℕ))
kind_at [] = None
kind_at (name ∷ words) =
    cond (bytes_eq name (codes "IN")) (in_at words)
    (cond (bytes_eq name (codes "IDX")) (idx_at words)
    (cond (bytes_eq name (codes "CTL")) (ctl_at words)
    (cond (bytes_eq name (codes "OUT")) (out_at words) (plain_at name words))))

-- ---- ports and destinations

unfoldable pub feeds_at : ℕ → List (List ℕ) → Option (List Feed × List (List ℕ))
feeds_at zero words = Some ([], words)
feeds_at (suc count) [] = None
feeds_at (suc count) (word ∷ rest) = feed_in word >>= λ feed. with_front (feed ∷ []) (feeds_at count rest)

-- all words that are left
unfoldable pub dests_at : List (List ℕ) → Option (List Dest × List (List ℕ))
dests_at [] = Some ([], [])
dests_at (word ∷ rest) = dest_in word >>= λ dest. with_front (dest ∷ []) (dests_at rest)

-- ---- lines

-- what stands behind the word `ports` of a cell's line
unfoldable pub ends_in : Kind → ℕ → ℕ → List (List ℕ) → Option (Cell × List (List ℕ))
ends_in it depth mark words = do
  ports ← feeds_at (port_count it) words
  back ← after_word (codes "dests") ports.1
  dests ← dests_at back
  Some (record { kind = it; stage = depth; mark = mark; ports = ports.0; dests = dests.0 }, dests.1)

-- what stands behind the word `stage`
unfoldable pub depth_in : Kind → List (List ℕ) → Option (Cell × List (List ℕ))
depth_in it words = do
  depth ← number_at words
  loop ← after_word (codes "loop") depth.1
  mark ← number_at loop
  front ← after_word (codes "ports") mark.1
  ends_in it depth.0 mark.0 front

unfoldable pub cell_in : ℕ → List (List ℕ) → Option (Cell × List (List ℕ))
cell_in number words = do
  n ← number_at words
  _ ← passed (n.0 == number) number
  it ← kind_at n.1
  depth_in it.0 it.1

abbrev pub nothing_after : {A : Type 0} → A → List (List ℕ) → Option (A × List (List ℕ))
nothing_after x [] = Some (x, [])
nothing_after x (word ∷ rest) = None

-- how many cells the first line says that there are
unfoldable pub count_in : Version → List (List ℕ) → Option (ℕ × List (List ℕ))
count_in version words = do
  name ← after_word (codes "dataflow") words
  number ← after_word (version_word version) name
  count ← number_at number
  _ ← passed (nat_le count.0 65536) count.0
  nothing_after count.0 count.1

-- ---- the front of a text

unfoldable pub count_line : Version → List ℕ → Option (ℕ × List ℕ)
count_line version text = do
  line ← cut_at 10 text
  count ← count_in version (words_of line.0)
  Some (count.0, line.1)

unfoldable pub cell_line_in : Version → ℕ → List ℕ → Option (Cell × List ℕ)
cell_line_in version number text = do
  line ← cut_at 10 text
  cell ← cell_in number (words_of line.0)
  _ ← passed (has_cell version cell.0) number
  Some (cell.0, line.1)

unfoldable pub end_line : List ℕ → Option (List ℕ)
end_line text = do
  line ← cut_at 10 text
  passed (bytes_eq line.0 (codes "end")) line.1

-- ---- what a reader of the code answers

abbrev pub Fails : {A : Type 0} → LineAnswer → Option A → Type 0
Fails Wrong read = read ≡ None
Fails Memory read = Unit {0}

-- the value that reading gives, and what it leaves
abbrev pub Gives : {A B : Type 0} → Result A LineAnswer → B → Option (A × B) → Type 0
Gives (Ok x) left read = read ≡ Some (x, left)
Gives (Err e) left read = Fails e read

abbrev pub Passes : {A B : Type 0} → Result A LineAnswer → B → Option B → Type 0
Passes (Ok x) left read = read ≡ Some left
Passes (Err e) left read = Fails e read
