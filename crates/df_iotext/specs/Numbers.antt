-- Numbers and values as a reader takes them: leading zeros and -0 are fine.
use Rattle.std.specs.Prelude.{◌≡◌, ◌<◌, ℕ, ℤ, pos, neg_ℤ, true, List, [], ◌∷◌, length, ◌==◌, if◌then◌else◌}
use Rattle.std.specs.List.{list_all}
use Rattle.std.specs.Char.{is_ascii_digit}
use Rattle.std.specs.Str.Parse.{digits_value}
use Rattle.df_values.specs.Values.{IsOrdinary}
use Rattle.df_values.specs.Spelling.{spelled}
use Rattle.df_values.specs.declared.values.Value.{Value}
use Rattle.df_values.specs.declared.values.Value.TheVariants.{Int, Truth, Error}

-- one digit or more, whose number in decimal is n
pub record IsNumber (word : List ℕ) (n : ℕ) : Type 0 where
  pub some : 0 < length word
  pub digits : list_all is_ascii_digit word ≡ true
  pub value : digits_value 10 word ≡ n

-- a number, or a minus and a number
pub data IsInteger : List ℕ → ℤ → Type 0 where
  plain : (word : List ℕ) (n : ℕ) → IsNumber word n → IsInteger word (pos n)
  minus : (word : List ℕ) (n : ℕ) → IsNumber word n → IsInteger (45 ∷ word) (neg_ℤ (pos n))

-- a word without a minus at its front
abbrev pub without_minus : List ℕ → List ℕ
without_minus [] = []
without_minus (byte ∷ word) = if byte == 45 then word else byte ∷ word

-- an ordinary integer in any of its decimals, and all else by its word
abbrev pub Spells : List ℕ → Value → Type 0
Spells word (Int z) = IsInteger word z × IsOrdinary z
Spells word (Truth b) = word ≡ spelled (Truth b)
Spells word (Error e) = word ≡ spelled (Error e)
