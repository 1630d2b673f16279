-- What files hold after several are made.
use Rattle.std.specs.Prelude.{ℕ, Bool, ◌≡◌, ◌⊎◌, List, [], ◌∷◌, take}
use Rattle.std.specs.FinMap as table
use Rattle.df_io.specs.Told.{Holds}

-- what a command writes: the files in order, then the text to the sink; and whether it ends in `Done`
pub record Effect : Type 0 where
  pub files : List (List ℕ × List ℕ)
  pub text : List ℕ
  pub is_done : Bool

-- each of the files is made, in order
abbrev pub over : List (List ℕ × List ℕ) → Holds → Holds
over [] holds = holds
over (file ∷ files) holds = over files (table.insert holds file.0 file.1)

-- some of them are made, in order and none skipped, and perhaps a prefix of one more
abbrev pub PartOf : List (List ℕ × List ℕ) → Holds → Holds → Type 0
PartOf [] old new = new ≡ old
PartOf (file ∷ files) old new =
    ((new ≡ old) ⊎ ((n : ℕ) × (new ≡ table.insert old file.0 (take n file.1)))) ⊎ PartOf files (table.insert old file.0 file.1) new
