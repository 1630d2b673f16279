use Rattle.std.proofs.Common.{◌∙◌}
use Rattle.df_names.specs.Found.{names_of}
use Rattle.df_shape.specs.Sources.{one_range_demands}
use Rattle.df_shape.proofs.Passes.{each_stop, each_step}
use Rattle.df_shape.proofs.constants.ask_ranges.Goals as goal

pub returns-in_err-ask_range : goal.returns-in_err-ask_range
returns-in_err-ask_range c =
    each_stop (one_range_demands (names_of c.args.numbers.now)) _ c.args.ranges.now c.loop-range.range-index c.range-item.result _ _ c.loop-range.invariant c.loop-range-test.true c.range-item.is c.from_residual.ensures.1 c.in_err-ask_range.ensures.demands

pub loop-range-preserved : goal.loop-range-preserved
loop-range-preserved c =
    c.loop-range.invariant
    ∙ each_step (one_range_demands (names_of c.args.numbers.now)) c.args.ranges.now c.loop-range.range-index c.range-item.result c.loop-range-test.true c.range-item.is c.in_ok-ask_range.ensures.demands
