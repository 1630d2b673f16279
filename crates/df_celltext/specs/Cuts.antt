-- A text cut at the first place of a byte, and at all places of one.
use Rattle.std.specs.Prelude.{ℕ, ◌==◌, Bool, cond, List, [], ◌∷◌, Option, Some, None}
use Rattle.std.specs.List.{slice_split}

abbrev pub with_byte : ℕ → Option (List ℕ × List ℕ) → Option (List ℕ × List ℕ)
with_byte b None = None
with_byte b (Some parts) = Some (b ∷ parts.0, parts.1)

-- what stands before the first such byte, and what stands behind it
abbrev pub cut_at : ℕ → List ℕ → Option (List ℕ × List ℕ)
cut_at mark [] = None
cut_at mark (b ∷ text) = cond (b == mark) (Some ([], text)) (with_byte b (cut_at mark text))

abbrev pub is_space : ℕ → Bool
is_space b = b == 32

-- the words of a line, which single spaces part
abbrev pub words_of : List ℕ → List (List ℕ)
words_of line = slice_split is_space line
