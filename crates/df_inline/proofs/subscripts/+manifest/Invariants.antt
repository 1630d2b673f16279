use Rattle.std.proofs.Common.{◌≡◌, take}
use Rattle.df_syntax.specs.WellShaped.{chain_value}
use Rattle.df_inline.specs.Parts.{looks_of}
use Rattle.df_inline.proofs.subscripts.+manifest.Given as goal

abbrev pub invariant-joined-loop-link : goal.invariant-joined-loop-link
invariant-joined-loop-link l = l.joined ≡ chain_value l.fn.first (looks_of (take l.link-index l.rest))
