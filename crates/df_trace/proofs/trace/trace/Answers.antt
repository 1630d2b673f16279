use Rattle.std.proofs.Common.{◌++◌, ◌∷◌, [], ap, ◌∙◌}
use Rattle.df_machine.specs.Events.{possible}
use Rattle.df_machine.specs.Seen.{Loaded}
use Rattle.df_trace.specs.Lines.{line_of}
use Rattle.df_trace.proofs.Traced.{traced_more, traced_all, traced_front, moved_more, moved_all, moved_front, then_cause, fewer_causes, on_err, test_is}
use Rattle.df_trace.proofs.trace.trace.Goals as goal

pub returns-in_err-make_room-clause-front : goal.returns-in_err-make_room-clause-front
returns-in_err-make_room-clause-front g c = λ tells.
    let i = c.loop-event.invariant.0 in
    let whole = traced_front c.args.t.now c.loop-event.t _ _ i.0 i.1 in
    let front = c.in_err-make_room.ensures.front tells in
    on_err _ c.from_residual.result (moved_front i.0 _ _ _ _ _ whole.0 front.0 (i.2 tells) whole.1 front.1)

pub loop-event-preserved : goal.loop-event-preserved
loop-event-preserved g c =
    let i = c.loop-event.invariant.0 in let line = line_of c.in-Some.event ++ 10 ∷ [] in (
      (
        i.0 ++ line,
        traced_more c.args.t.now c.loop-event.t c.turn.new.t _ _ _ i.0 c.in-Some.event i.1 c.in-Some.ensures.some,
        λ tells. moved_more i.0 _ _ line _ _ _ _ (i.2 tells) (c.in_ok-make_room.ensures.written tells)
            (c.add.ensures ∙ ap (λ l. c.make_room.new.self ++ (l ++ 10 ∷ [])) c.event_line.ensures),
      ),
      then_cause _ _ _ c.loop-event.invariant.1 (fewer_causes _ _ (λ h. absurd h) c.in_ok-make_room.ensures.cause),
    )

pub returns-in_err-write-clause-front : goal.returns-in_err-write-clause-front
returns-in_err-write-clause-front g c = λ tells.
    let i = c.loop-event.invariant.0 in
    let whole = traced_front c.args.t.now c.loop-event.t _ _ i.0 i.1 in
    let front = (c.in_err-write.ensures.written tells).front in
    on_err _ c.from_residual-in_err-write.result (moved_front i.0 _ _ _ _ _ whole.0 front.0 (i.2 tells) whole.1 front.1)

pub returns-clause-written : goal.returns-clause-written
returns-clause-written g c = λ tells.
    let i = c.loop-event.invariant.0 in
    let end = traced_all c.stays_drained.ensures c.tells_possible.ensures c.args.t.now c.loop-event.t c.turn.new.t _ _ _ i.0 c.machine-machine.ensures.reached.well_formed i.1 c.in_default.ensures.none in
    moved_all i.0 _ _ _ _ (i.2 tells) (c.in_ok-write.ensures.written tells).whole ∙ ap (λ x. g.K.Sink.written c.args.out.now ++ x) end.0

pub returns-clause-drained : goal.returns-clause-drained
returns-clause-drained g c =
    let i = c.loop-event.invariant.0 in
    let end = traced_all c.stays_drained.ensures c.tells_possible.ensures c.args.t.now c.loop-event.t c.turn.new.t _ _ _ i.0 c.machine-machine.ensures.reached.well_formed i.1 c.in_default.ensures.none in
    test_is c.possible.result _ (c.possible.ensures ∙ ap (λ (m : Loaded). possible m.cells m.state) c.machine.ensures.machine ∙ end.1)
