-- The number so far is that of the digits so far, and small.
use Rattle.std.proofs.Common.{◌≡◌, pos, ◌≤ℤ◌, take}
use Rattle.df_values.specs.Values.{greatest}
use Rattle.df_syntax.specs.Pieces.{number_of}
use Rattle.df_lexer.proofs.number.number_of.Given as goal

abbrev pub invariant-loop-digit : goal.invariant-loop-digit
invariant-loop-digit l = record {
  value : l.number ≡ pos (number_of (take l.digit-index l.digits));
  small : pos (number_of (take l.digit-index l.digits)) ≤ℤ greatest;
}
