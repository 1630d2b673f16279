use Rattle.std.proofs.Common.{◌≡◌, take, pos, Some}
use Rattle.df_syntax.specs.WellShaped.{chain_offset}
use Rattle.df_inline.specs.Parts.{looks_of}
use Rattle.df_inline.proofs.subscripts.sum.Given as goal

abbrev pub invariant-loop-link : goal.invariant-loop-link
invariant-loop-link l = l.sum ≡ chain_offset (Some (pos 0)) (looks_of (take l.link-index l.rest))
