use Rattle.df_buffers.proofs.Growing.{has_room, still_port}
use Rattle.df_buffers.proofs.inserting.insert_all.Goals as goal

pub insert_one-requires-clause-room : goal.insert_one-requires-clause-room
insert_one-requires-clause-room c =
    has_room c.args.builder.now c.loop-port.builder c.args.ports.now c.loop-port.port-index
    c.requires.ports c.loop-port-test.true c.loop-port.invariant c.requires.room

pub insert_one-requires-clause-port : goal.insert_one-requires-clause-port
insert_one-requires-clause-port c =
    still_port c.args.builder.now c.loop-port.builder c.args.ports.now c.loop-port.port-index
    c.requires.ports c.loop-port-test.true c.loop-port.invariant _
