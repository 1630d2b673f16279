-- The place behind the bytes so far, which are no fewer than the lines and columns passed.
use Rattle.std.proofs.Common.{◌≡◌, ◌+◌, ◌≤◌, take}
use Rattle.df_syntax.specs.Places.{moved}
use Rattle.df_lexer.proofs.place.moved.Given as goal

abbrev pub invariant-loop-byte : goal.invariant-loop-byte
invariant-loop-byte l = record {
  here : l.at ≡ moved l.fn.place (take l.byte-index l.bytes);
  line : l.at.line ≤ l.fn.place.line + l.byte-index;
  column : l.at.column ≤ l.fn.place.column + l.byte-index;
}
