use Rattle.std.proofs.Common.{◌≡◌, drop}
use Rattle.std.specs.Prelude.{flat_map}
use Rattle.df_syntax.specs.Demands.{first_refusal}
use Rattle.df_names.specs.Found.{names_of}
use Rattle.df_shape.specs.Sources.{one_range_demands}
use Rattle.df_shape.proofs.constants.ask_ranges.Given as goal

abbrev pub invariant-loop-range : goal.invariant-loop-range
invariant-loop-range l =
    first_refusal (flat_map (one_range_demands (names_of l.numbers)) l.ranges) ≡ first_refusal (flat_map (one_range_demands (names_of l.numbers)) (drop l.range-index l.ranges))
