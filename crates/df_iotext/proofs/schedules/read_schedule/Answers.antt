use Rattle.std.proofs.Common.{◌≡◌, ◌≢◌, ◌+◌, [], arith, rules, ap, ◌∙◌, inl, inr, Err, refl}
use Rattle.df_iotext.specs.Schedules.{drain_word}
use Rattle.df_iotext.specs.declared.schedules.ScheduleAnswer.TheVariants.{BadSchedule}
use Rattle.df_iotext.proofs.ScheduleLemmas.{one_more_read, is_schedule, bad_choice, bad_behind, drained_schedule, answered, handed_on}
use Rattle.df_iotext.proofs.schedules.read_schedule.Goals as goal

pub returns-in_err-drain-clause-refused : goal.returns-in_err-drain-clause-refused
returns-in_err-drain-clause-refused c k e =
    let is : c.in-Some.word.now ≡ drain_word = search rules in
    let read = c.in_err-drain.was ∙ ap Err (handed_on c.from_residual.result c.in_err-drain.field-0.0 (BadSchedule k) e c.from_residual.ensures.1) in
    bad_behind c.args.text.now c.loop-word.rest.now c.in-Some.word.now c.in-Some.behind.now c.loop-word.choices _ k c.loop-word.invariant c.in-Some.ensures.word is
    (omega arith) (c.read_drain.ensures.refused k read)

pub returns-then-eq-clause-found : goal.returns-then-eq-clause-found
returns-then-eq-clause-found c =
    let is : c.in-Some.word.now ≡ drain_word = search rules in
    drained_schedule c.args.text.now c.loop-word.rest.now c.in-Some.word.now c.in-Some.behind.now c.loop-word.choices c.in_ok-drain.ensures.count.0 c.in_ok-drain.drain
    c.loop-word.invariant c.in-Some.ensures.word is c.in_ok-drain.ensures.count.1.0 c.in_ok-drain.ensures.count.1.1

pub returns-then-len-eq-MOST_CHOICES-clause-refused : goal.returns-then-len-eq-MOST_CHOICES-clause-refused
returns-then-len-eq-MOST_CHOICES-clause-refused c k e =
    let is : c.in-Some.word.now ≢ drain_word = search rules in
    bad_choice c.args.text.now c.loop-word.rest.now c.in-Some.word.now c.in-Some.behind.now c.loop-word.choices k c.loop-word.invariant c.in-Some.ensures.word is
    (inl (omega arith)) (let place = answered (c.len.result + 1) k e in omega (arith, place))

pub returns-in_default-read_number-clause-refused : goal.returns-in_default-read_number-clause-refused
returns-in_default-read_number-clause-refused c k e =
    let is : c.in-Some.word.now ≢ drain_word = search rules in
    bad_choice c.args.text.now c.loop-word.rest.now c.in-Some.word.now c.in-Some.behind.now c.loop-word.choices k c.loop-word.invariant c.in-Some.ensures.word is
    (inr c.in_default-read_number.ensures.none) (let place = answered (c.len.result + 1) k e in omega (arith, place))

pub loop-word-preserved : goal.loop-word-preserved
loop-word-preserved c =
    one_more_read c.args.text.now c.loop-word.rest.now c.in-Some.word.now c.in-Some.behind.now c.loop-word.choices c.push.new.self c.in-Some-read_number.choice
    c.loop-word.invariant c.in-Some.ensures.word (omega arith) c.in-Some-read_number.ensures.number c.in-Some-read_number.ensures.bound (search rules)

pub returns-clause-found : goal.returns-clause-found
returns-clause-found c =
    is_schedule c.args.text.now c.loop-word.rest.now c.loop-word.choices [] 0 c.loop-word.invariant c.in_default.ensures.none refl
