use Rattle.std.proofs.Common.{get_or, refl, pos}
use Rattle.df_values.specs.declared.values.Value.TheVariants.{Int}
use Rattle.df_iotext.proofs.ValueLemmas.{values_more}
use Rattle.df_iotext.proofs.lists.add_list.Goals as goal

pub loop-value-preserved : goal.loop-value-preserved
loop-value-preserved c =
    values_more c.args.streams.now.lists c.args.values.now c.count-k.result c.loop-value.value-index (get_or c.args.values.now c.loop-value.value-index (Int (pos 0))) (Int (pos 0)) c.loop-value.streams.lists c.add_value.new.self.lists
    c.count-k.ensures c.loop-value-test.true refl c.loop-value.invariant c.in_ok-add_value.ensures.lists
