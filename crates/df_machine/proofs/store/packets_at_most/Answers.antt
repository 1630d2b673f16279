use Rattle.std.proofs.Common.{arith}
use Rattle.df_machine.proofs.Room.{room_next, room_all}
use Rattle.df_machine.proofs.store.packets_at_most.Goals as goal

pub overflow_add-room : goal.overflow_add-room
overflow_add-room c =
    let below = c.loop-c-test.true in let all = c.len-c-end.ensures.count in
    let more = c.max-room.ensures in let long = c.len.ensures in
    let both = room_next c.args.cells.now c.loop-c.c c.loop-c.room c.max-room.result c.get.result.now c.requires (omega arith) c.loop-c.invariant
    c.get.ensures.cell (omega arith) in
    omega (arith, both.1)

pub loop-c-preserved : goal.loop-c-preserved
loop-c-preserved c =
    let below = c.loop-c-test.true in let all = c.len-c-end.ensures.count in
    let more = c.max-room.ensures in let long = c.len.ensures in
    let both = room_next c.args.cells.now c.loop-c.c c.loop-c.room c.max-room.result c.get.result.now c.requires (omega arith) c.loop-c.invariant
    c.get.ensures.cell (omega arith) in
    both.0

pub returns-clause-room : goal.returns-clause-room
returns-clause-room c =
    let past = c.loop-c-test.false in let all = c.len-c-end.ensures.count in
    (room_all c.args.cells.now c.loop-c.c c.loop-c.room c.requires (omega arith) c.loop-c.invariant).0

pub returns-clause-few : goal.returns-clause-few
returns-clause-few c =
    let past = c.loop-c-test.false in let all = c.len-c-end.ensures.count in
    (room_all c.args.cells.now c.loop-c.c c.loop-c.room c.requires (omega arith) c.loop-c.invariant).1
