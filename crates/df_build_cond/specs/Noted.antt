-- What is noted at numbers, as functions.
use Rattle.std.specs.Prelude.{◌≡◌, ◌<◌, ◌≤◌, ◌==◌, ℕ, if◌then◌else◌, List, [], ◌∷◌, get_or, length, Option, Some, None}

-- the cell that is noted at each number
abbrev pub Noted : Type 0
Noted = ℕ → Option ℕ

-- where nothing is noted
abbrev pub nothing : Noted
nothing = λ _. None

-- one entry more
unfoldable pub noted : Noted → ℕ → ℕ → Noted
noted table number cell = λ other. if number == other then Some cell else table other

-- all numbers at which something is noted are below this one
abbrev pub AreBelow : ℕ → Noted → Type 0
AreBelow number table = (other : ℕ) → number ≤ other → table other ≡ None

-- ---- entries

-- a number with the cell that is noted at it
abbrev pub Entry : Type 0
Entry = ℕ × ℕ

-- what the first entry of a number has
abbrev pub entry_in : List Entry → Noted
entry_in [] number = None
entry_in (entry ∷ entries) number = if entry.0 == number then Some entry.1 else entry_in entries number

-- one cell for each number, and the numbers rise
pub record AreRows (numbers cells : List ℕ) : Type 0 where
  pub each : length cells ≡ length numbers
  pub rise : (i j : ℕ) → i < j → j < length numbers → get_or numbers i 0 < get_or numbers j 0
