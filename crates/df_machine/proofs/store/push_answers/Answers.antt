use Rattle.std.proofs.Common.{◌++◌, subst, arith}
use Rattle.df_cells.specs.Cells.{port_of}
use Rattle.df_machine.specs.declared.packets.Packet.TheVariants.{Operand}
use Rattle.df_machine.specs.Events.{answers}
use Rattle.df_machine.specs.Flights.{Fits}
use Rattle.df_machine.proofs.FlightNames.{fits_next}
use Rattle.df_machine.proofs.store.push_answers.Goals as goal

pub push-requires-clause-fits : goal.push-requires-clause-fits
push-requires-clause-fits c =
    let old = c.args.packets.now in
    fits_next old.names c.loop-dest.packets.names old.packets c.loop-dest.packets.packets (λ d. Operand d c.in-Some.value) c.args.dests.now c.loop-dest.dest-index (port_of 0 0)
    (subst (λ a. Fits old.names (old.packets ++ answers a c.args.dests.now)) c.in-Some.is c.requires.fits) (let h = c.loop-dest-test.true in omega arith) c.loop-dest.invariant.0 c.loop-dest.invariant.2
