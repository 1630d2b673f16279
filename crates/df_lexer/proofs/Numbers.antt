-- A number is no smaller than the number of its first digits.
use Rattle.std.proofs.Common.{◌≡◌, ℕ, ◌+◌, ◌-◌, ◌*◌, ◌≤◌, List, [], ◌∷◌, take, drop, subst, arith}
use Rattle.std.specs.List.{fold}
use Rattle.std.proofs.lemmas.List.{take-append-drop}
use Rattle.std.proofs.lemmas.List.Sums.{fold-append}
use Rattle.df_syntax.specs.Pieces.{number_of}

abbrev next : ℕ → ℕ → ℕ
next n b = 10 * n + (b - 48)

grows : (n : ℕ) (w : List ℕ) → n ≤ fold next n w
grows n [] = omega arith
grows n (b ∷ w) = omega (arith, grows (next n b) w)

pub prefix_small : (w : List ℕ) (k : ℕ) → number_of (take k w) ≤ number_of w
prefix_small w k =
    let parts : number_of w ≡ fold next (number_of (take k w)) (drop k w) =
    subst (λ (z : List ℕ). number_of z ≡ fold next (number_of (take k w)) (drop k w)) (take-append-drop k w) (fold-append next 0 (take k w) (drop k w)) in
    omega (arith, grows (number_of (take k w)) (drop k w), parts)
