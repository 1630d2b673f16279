use Rattle.df_iotext.proofs.AssignmentLemmas.{one_value_more, no_values}
use Rattle.df_iotext.proofs.assignments.read_values.Goals as goal

pub returns-in_default-read_value-clause-form : goal.returns-in_default-read_value-clause-form
returns-in_default-read_value-clause-form c =
    no_values c.args.text.now c.loop-word.rest.now c.in-Some.word.now c.in-Some.behind.now c.loop-word.values.items c.loop-word.invariant c.in-Some.ensures.word c.in_default-read_value.ensures.none

pub loop-word-preserved : goal.loop-word-preserved
loop-word-preserved c =
    one_value_more c.args.text.now c.loop-word.rest.now c.in-Some.word.now c.in-Some.behind.now c.loop-word.values.items c.push.new.self.items c.in-Some-read_value.value
    c.loop-word.invariant c.in-Some.ensures.word c.in-Some.ensures.shorter c.in-Some-read_value.ensures.value c.in_ok-push.ensures.items
