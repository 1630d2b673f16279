-- The terms of the value of a flow, within their bounds.
use Rattle.std.proofs.Common.{ℕ, ◌+◌, ◌<◌, ◌≤◌, ◌^◌, ℤ, pos, negsuc, neg_ℤ, ◌*ℤ◌, ◌≤ℤ◌, arith, SFits, w64}
use Rattle.std.specs.Int.{w128}
use Rattle.std.proofs.lemmas.Int.{ints}
use Rattle.std.proofs.Math.Nat.{mul-le-mul_left, mul-le-mul_right}
use borrow.Author.Differences.{product_is, fits_out}

le_of : (x y : ℕ) → x ≤ y → x ≤ y
le_of x y h = h

pub term_bound : (w : ℤ) (f : ℕ) → SFits w64 w → f < 2 ^ 32 → (neg_ℤ (pos (2 ^ 95)) ≤ℤ (w *ℤ pos f)) × ((w *ℤ pos f) ≤ℤ pos (2 ^ 95))
term_bound (pos n) f fits small =
    let p = product_is (pos n) (pos f) in let m = fits_out w64 (pos n) fits in
    let a = mul-le-mul_right f (le_of n (2 ^ 63) (omega arith)) in let b = mul-le-mul_left (2 ^ 63) (le_of f (2 ^ 32) (omega arith)) in (omega (arith, ints), omega (arith, ints))
term_bound (negsuc n) f fits small =
    let p = product_is (negsuc n) (pos f) in let m = fits_out w64 (negsuc n) fits in
    let a = mul-le-mul_right f (le_of (n + 1) (2 ^ 63) (omega arith)) in let b = mul-le-mul_left (2 ^ 63) (le_of f (2 ^ 32) (omega arith)) in (omega (arith, ints), omega (arith, ints))

pub term_fits : (z : ℤ) → neg_ℤ (pos (2 ^ 95)) ≤ℤ z → z ≤ℤ pos (2 ^ 95) → SFits w128 z
term_fits z low high = omega (arith, ints)
