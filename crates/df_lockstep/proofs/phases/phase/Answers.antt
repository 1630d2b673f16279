use Rattle.df_lockstep.proofs.Ends.{ended}
use Rattle.df_lockstep.proofs.Flights.{phased}
use Rattle.df_lockstep.proofs.phases.phase.Goals as goal

pub returns-clause-reached : goal.returns-clause-reached
returns-clause-reached c choices at =
    (phased c.joins_runs.ensures c.args.t.now c.fire_all-fires.new.t c.take_flight-operations.new.t c.take_flight-deliveries.new.t
    c.fire_all-fires.result c.take_flight-operations.result c.take_flight-deliveries.result c.fire_all-fires.ensures.machine c.take_flight-operations.ensures.machine
    (c.fire_all-fires.ensures.count, c.fire_all-fires.ensures.reached) (c.take_flight-operations.ensures.count, c.take_flight-operations.ensures.reached)
    (c.take_flight-deliveries.ensures.count, c.take_flight-deliveries.ensures.reached) choices at).reached

pub returns-clause-events : goal.returns-clause-events
returns-clause-events c choices at =
    (phased c.joins_runs.ensures c.args.t.now c.fire_all-fires.new.t c.take_flight-operations.new.t c.take_flight-deliveries.new.t
    c.fire_all-fires.result c.take_flight-operations.result c.take_flight-deliveries.result c.fire_all-fires.ensures.machine c.take_flight-operations.ensures.machine
    (c.fire_all-fires.ensures.count, c.fire_all-fires.ensures.reached) (c.take_flight-operations.ensures.count, c.take_flight-operations.ensures.reached)
    (c.take_flight-deliveries.ensures.count, c.take_flight-deliveries.ensures.reached) choices at).events

pub returns-clause-quiet : goal.returns-clause-quiet
returns-clause-quiet c = (ended c.joins_runs.ensures c.tells_possible.ensures c.args.t.now c.fire_all-fires.new.t c.take_flight-operations.new.t c.take_flight-deliveries.new.t
    c.fire_all-fires.result c.take_flight-operations.result c.take_flight-deliveries.result c.fire_all-fires.ensures.machine c.take_flight-operations.ensures.machine
    c.take_flight-deliveries.ensures.machine
    (c.fire_all-fires.ensures.count, c.fire_all-fires.ensures.reached) (c.take_flight-operations.ensures.count, c.take_flight-operations.ensures.reached)
    (c.take_flight-deliveries.ensures.count, c.take_flight-deliveries.ensures.reached)
    (c.machine-machine.ensures.reached).well_formed (c.machine-machine.ensures.reached).choices (c.machine-machine.ensures.reached).after_these).quiet

pub returns-clause-none : goal.returns-clause-none
returns-clause-none c = (ended c.joins_runs.ensures c.tells_possible.ensures c.args.t.now c.fire_all-fires.new.t c.take_flight-operations.new.t c.take_flight-deliveries.new.t
    c.fire_all-fires.result c.take_flight-operations.result c.take_flight-deliveries.result c.fire_all-fires.ensures.machine c.take_flight-operations.ensures.machine
    c.take_flight-deliveries.ensures.machine
    (c.fire_all-fires.ensures.count, c.fire_all-fires.ensures.reached) (c.take_flight-operations.ensures.count, c.take_flight-operations.ensures.reached)
    (c.take_flight-deliveries.ensures.count, c.take_flight-deliveries.ensures.reached)
    (c.machine-machine.ensures.reached).well_formed (c.machine-machine.ensures.reached).choices (c.machine-machine.ensures.reached).after_these).none
