use Rattle.df_iotext.proofs.ValueLemmas.{parts_few, parts_more, parts_all}
use Rattle.df_iotext.proofs.lists.Lists.into_streams.Goals as goal

pub add_list-requires : goal.add_list-requires
add_list-requires c =
    parts_few (λ values. values.items) c.self.inside.lists.items c.deref-values-items.result.now c.loop-values.values-index c.args.self c.deref-values-items.ensures.value c.self.view_is
    4294967294 c.loop-values.streams.lists c.loop-values-test.true c.loop-values.invariant c.requires

pub loop-values-preserved : goal.loop-values-preserved
loop-values-preserved c =
    parts_more (λ values. values.items) c.deref-values-items.result.now c.loop-values.values-index c.values-item.result c.deref.result.now c.loop-values.streams.lists c.add_list.new.streams.lists
    c.loop-values-test.true c.values-item.is c.deref.ensures.value c.loop-values.invariant c.in_ok-add_list.ensures

pub returns : goal.returns
returns c =
    parts_all (λ values. values.items) c.self.inside.lists.items c.deref-values-items.result.now c.loop-values.values-index c.args.self c.deref-values-items.ensures.value c.self.view_is
    c.loop-values.streams.lists c.loop-values-test.false c.loop-values.invariant
