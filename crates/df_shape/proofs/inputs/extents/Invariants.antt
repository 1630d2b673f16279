use Rattle.std.proofs.Common.{◌≡◌, take}
use Rattle.df_names.specs.Found.{names_of}
use Rattle.df_shape.specs.Bounded.{AreBounded}
use Rattle.df_shape.specs.Entries.{bound_in, extents_found}
use Rattle.df_shape.proofs.inputs.extents.Given as goal

abbrev pub invariant-loop-range : goal.invariant-loop-range
invariant-loop-range l = record {
  extents : names_of l.extents ≡ extents_found (bound_in (names_of l.numbers)) (take l.range-index l.ranges);
  bounds : AreBounded (names_of l.extents);
}
