use Rattle.std.proofs.Common.{below_more, arith}
use Rattle.df_cells.specs.WellFormed.{LoadsLoops}
use Rattle.df_wellformed.proofs.loads.load_failure.Goals as goal

pub loop-c-preserved : goal.loop-c-preserved
loop-c-preserved c = below_more (LoadsLoops c.args.cells.now) _ c.loop-c.invariant (c.loads_loops.ensures.0 c.if-not-loads_loops.false)

pub returns : goal.returns
returns c = λ b h. c.loop-c.invariant b (omega (arith, c.len-c-end.ensures.count))
