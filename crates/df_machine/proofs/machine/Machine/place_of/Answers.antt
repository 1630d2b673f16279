use Rattle.df_machine.proofs.Steps as steps
use Rattle.df_machine.proofs.machine.Machine.place_of.Goals as goal

pub place_of-requires-clause-room : goal.place_of-requires-clause-room
place_of-requires-clause-room c = steps.packets_few c.self.inside.cells c.self.inside.store c.self.invariant
