-- Symbols at the front of a text.
use Rattle.std.specs.Prelude.{◌≡◌, ℕ, ◌≤◌, Bool, false, ◌==◌, List, [], ◌∷◌, ◌++◌, length}
use Rattle.df_syntax.specs.declared.symbol.Symbol.{Symbol}
use Rattle.df_syntax.specs.Symbols.{sign}

-- whether the second byte is an equals sign
abbrev pub is_equals_second : List ℕ → Bool
is_equals_second [] = false
is_equals_second (a ∷ []) = false
is_equals_second (a ∷ b ∷ more) = b == 61

-- the text begins with this symbol, and with none that is longer
pub record IsLongestSymbol (text : List ℕ) (s : Symbol) : Type 0 where
  pub begins : (rest : List ℕ) × (text ≡ sign s ++ rest)
  pub longest : (t : Symbol) (rest : List ℕ) → text ≡ sign t ++ rest → length (sign t) ≤ length (sign s)

-- the text begins with no symbol
pub record BeginsNoSymbol (text : List ℕ) : Type 0 where
  pub none : (s : Symbol) (rest : List ℕ) → text ≡ sign s ++ rest → ⊥
