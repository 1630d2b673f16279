use Rattle.std.proofs.Common.{◌≡◌, ◌≢◌, get_or, sym, ap, ◌∙◌, subst, arith}
use Rattle.std.specs.Prelude.{slice_get}
use Rattle.std.specs.Option.{unwrap_or}
use Rattle.std.specs.List.{AllByRecursion}
use Rattle.df_cells.specs.Cells.{port_of}
use Rattle.df_machine.specs.declared.packets.Packet.TheVariants.{Acknowledgement}
use Rattle.df_machine.specs.Events.{event_of, action_of}
use Rattle.df_machine.specs.Flights.{InFlight, packet_under}
use Rattle.df_machine.proofs.Places.{key_read}
use Rattle.df_machine.proofs.FlightKeys.{packet_there, there_within}
use Rattle.df_machine.proofs.FlightNames.{absent_past, absent, none_there}
use Rattle.df_machine.proofs.flight.Flight.place_of.Goals as goal

pub returns-then-name-len-clause-none : goal.returns-then-name-len-clause-none
returns-then-name-len-clause-none c =
    let i = c.self.inside in
    subst (λ l. AllByRecursion (λ packet. action_of (event_of packet) ≢ c.args.action) l) (ap (λ (f : InFlight). f.packets) c.self.view_is)
    (absent_past i.packets i.names.items i.keys.keys c.args.action (omega (arith, c.if-name-len.true, c.len.ensures, c.name_of-name.ensures, i.names.ok.0)) c.self.invariant.named)

pub returns-then-is_same-clause-some : goal.returns-then-is_same-clause-some
returns-then-is_same-clause-some c =
    let i = c.self.inside in (
      c.in-Some.packet.now,
      ap (λ (f : InFlight). slice_get f.packets c.place_of.result) (sym c.self.view_is)
          ∙ packet_there i.packets i.keys.keys c.place_of.result c.index-key.result.now c.in-Some.packet.now c.place_of.ensures (sym c.in-Some.ensures),
      sym (c.action.ensures ∙ ap action_of c.event.ensures) ∙ c.if-is_same.ensures.same,
    )

pub returns-then-is_same-clause-within : goal.returns-then-is_same-clause-within
returns-then-is_same-clause-within c =
    let below = there_within c.self.inside.keys.keys c.place_of.result c.index-key.result.now c.place_of.ensures in
    let most = c.self.invariant.kept.within in let room = ap (λ (f : InFlight). f.room) c.self.view_is in omega (arith, below, most, room)

pub returns-else-is_same-clause-none : goal.returns-else-is_same-clause-none
returns-else-is_same-clause-none c =
    let i = c.self.inside in let key = c.index-key.result.now in
    let is = key_read i.names.items c.name_of-name.result key c.index-key.ensures (omega (arith, c.if-name-len.false, c.len.ensures, i.names.ok.0)) in
    let under : packet_under i.packets key ≡ c.in-Some.packet.now = ap (λ o. unwrap_or o (Acknowledgement (port_of 0 0))) (sym c.in-Some.ensures) in
    subst (λ l. AllByRecursion (λ packet. action_of (event_of packet) ≢ c.args.action) l) (ap (λ (f : InFlight). f.packets) c.self.view_is)
    (absent i.packets i.names.items i.keys.keys c.args.action key (sym is ∙ ap (λ n. get_or i.names.items n 0) c.name_of-name.ensures)
    (λ some e. c.if-is_same.ensures.others (c.action.ensures ∙ ap action_of (c.event.ensures ∙ ap event_of (sym under)) ∙ e)) c.self.invariant.kept.used c.self.invariant.named)

pub returns-in-None-clause-none : goal.returns-in-None-clause-none
returns-in-None-clause-none c =
    let i = c.self.inside in let key = c.index-key.result.now in
    let is = key_read i.names.items c.name_of-name.result key c.index-key.ensures (omega (arith, c.if-name-len.false, c.len.ensures, i.names.ok.0)) in
    subst (λ l. AllByRecursion (λ packet. action_of (event_of packet) ≢ c.args.action) l) (ap (λ (f : InFlight). f.packets) c.self.view_is)
    (absent i.packets i.names.items i.keys.keys c.args.action key (sym is ∙ ap (λ n. get_or i.names.items n 0) c.name_of-name.ensures)
    (λ some e. none_there _ (sym c.in-None.ensures) some) c.self.invariant.kept.used c.self.invariant.named)
