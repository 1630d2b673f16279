use Rattle.std.proofs.Common.{◌≡◌, ℕ, ℤ, pos, negsuc, ◌+ℤ◌, ◌-ℤ◌, ◌≤ℤ◌, w64, arith}
use Rattle.std.proofs.lemmas.Int.{ints, to_z-of_z}
use lib.IntN.{nat_abs}
use Rattle.df_values.specs.Values.{least, greatest}
use Rattle.df_shape.proofs.extents.extent.Goals as goal

-- the index behind the last one
behind : (lo hi top z : ℤ) (n : ℕ) → pos 0 ≤ℤ z → n ≡ nat_abs z → z ≡ hi -ℤ lo +ℤ pos 1 → hi ≤ℤ top → (lo +ℤ pos n) ≤ℤ (top +ℤ pos 1)
behind lo hi top (pos m) n low is z h = omega (arith, ints)
behind lo hi top (negsuc m) n low is z h = absurd (omega (arith, ints))

pub returns-then-hi-lo-clause-bounds : goal.returns-then-hi-lo-clause-bounds
unfolding least greatest
returns-then-hi-lo-clause-bounds c = record { low = (omega (arith, ints), omega (arith, ints)); high = omega (arith, ints) }

pub returns-in-Ok-clause-bounds : goal.returns-in-Ok-clause-bounds
unfolding least greatest
returns-in-Ok-clause-bounds c = record {
  low = (omega (arith, ints), omega (arith, ints));
  high =
      rw (to_z-of_z w64 c.args.lo c.ranges.lo)
      (behind c.args.lo c.args.hi greatest _ c.in-Ok.n c.in-Ok.ensures.0.0 c.in-Ok.ensures.1 (omega (arith, ints)) (omega (arith, ints)));
}
