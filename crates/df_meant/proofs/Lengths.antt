-- The lengths of valid inputs.
use Rattle.std.proofs.Common.{◌≡◌, ℕ, suc, [], ◌∷◌, length, arith, refl}
use Rattle.df_values.specs.Inputs.{declared}
use Rattle.df_meant.specs.Programs.{ValidInputsHaveLengths}

pub valid_inputs_have_lengths : ValidInputsHaveLengths
valid_inputs_have_lengths [] [] valid = tt
valid_inputs_have_lengths [] (values ∷ inputs) valid = absurd (never (length inputs) valid.count)
  where
    never : (n : ℕ) → suc n ≡ 0 → ⊥
    never n e = omega (arith, e)
valid_inputs_have_lengths (p ∷ parameters) [] valid = absurd (never (length (declared parameters)) valid.count)
  where
    never : (n : ℕ) → 0 ≡ suc n → ⊥
    never n e = omega (arith, e)
valid_inputs_have_lengths (p ∷ parameters) (values ∷ inputs) valid = (
  (valid.each 0 _ refl).count,
  valid_inputs_have_lengths parameters inputs (record {
    count = fewer (length inputs) (length (declared parameters)) valid.count;
    each = λ k d e. valid.each (suc k) d e;
  }),
)
  where
    fewer : (m n : ℕ) → suc m ≡ suc n → m ≡ n
    fewer m n e = omega (arith, e)
