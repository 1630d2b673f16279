-- The words of a text: what stands between gaps.
use Rattle.std.specs.Prelude.{ℕ, Bool, ◌||◌, ◌==◌, not, List, length, filter}
use Rattle.std.specs.List.{slice_split}
use Rattle.df_iotext.specs.declared.words.Gaps.{Gaps}
use Rattle.df_iotext.specs.declared.words.Gaps.TheVariants.{Blanks, BlanksAndLineEnds}

-- a space or a tab
abbrev pub is_blank : ℕ → Bool
is_blank byte = (byte == 32) || (byte == 9)

-- a carriage return or a line feed
abbrev pub is_line_end : ℕ → Bool
is_line_end byte = (byte == 13) || (byte == 10)

-- what parts words: on a line the blanks, and elsewhere line ends too
abbrev pub is_gap : Gaps → ℕ → Bool
is_gap Blanks byte = is_blank byte
is_gap BlanksAndLineEnds byte = is_blank byte || is_line_end byte

-- the parts of a text between gaps, in order, without those of no bytes
abbrev pub words : Gaps → List ℕ → List (List ℕ)
words gaps text = filter (λ word. not (length word == 0)) (slice_split (is_gap gaps) text)
