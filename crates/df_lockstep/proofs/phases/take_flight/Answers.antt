use Rattle.std.proofs.Common.{length, ◌∙◌, ap, arith}
use Rattle.df_pick.specs.Sums.{up_count}
use Rattle.df_machine.specs.Indexes.{enabled_flags}
use Rattle.df_machine.specs.Seen.{Loaded}
use Rattle.df_lockstep.proofs.Flights.{keeps, taken_one}
use Rattle.df_lockstep.proofs.phases.take_flight.Goals as goal

pub loop-preserved : goal.loop-preserved
loop-preserved c =
    let count = c.count-packets.ensures in
    let packets = c.packet_picks.ensures in
    let same = ap (λ (m : Loaded). length m.state.packets) c.machine.ensures.machine in
    let test = c.loop-test.true in
    taken_one c.tells_possible.ensures c.joins_runs.ensures c.args.t.now c.loop.t c.step.new.self c.loop.counter c.count-choice.result (c.machine.ensures.reached).well_formed c.loop.invariant
    (omega (arith, count, packets, same, test))
    (c.count-choice.ensures ∙ ap up_count c.enabled_picks.ensures ∙ ap (λ (m : Loaded). up_count (enabled_flags m.cells m.state)) c.machine-in-loop.ensures.machine)
    (keeps c.loop.t c.step.new.self _ c.step.ensures.state) c.step.ensures.reached
