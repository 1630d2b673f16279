use Rattle.std.proofs.Common.{◌≡◌, take, fold, pos, Some, ◌^◌, ◌*◌, ◌+◌}
use Rattle.df_names.specs.Found.{names_of}
use Rattle.df_shape.specs.Demands.{offset_link}
use Rattle.df_ranges.specs.Sizes.{Within}
use Rattle.df_shape.proofs.subscripts.shift.Given as goal

abbrev pub invariant-loop-link : goal.invariant-loop-link
invariant-loop-link l = record {
  sum : l.sum ≡ fold (offset_link (names_of l.numbers)) (Some (pos 0)) (take l.link-index l.rest);
  small : Within (2 ^ 63 * (l.link-index + 1)) l.sum;
}
