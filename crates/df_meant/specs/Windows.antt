-- The lesser of two numbers.
use Rattle.std.specs.Prelude.{ℕ, nat_lt, if◌then◌else◌}

abbrev pub lesser : ℕ → ℕ → ℕ
lesser m n = if nat_lt m n then m else n
