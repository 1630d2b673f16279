use Rattle.std.proofs.Common.{◌≡◌, ◌≢◌, ℕ, Some, sym, ap, ◌∙◌, subst}
use Rattle.std.specs.Option.{IfNone, option_map}
use Rattle.df_machine.specs.Events.{chosen_event, action_of}
use Rattle.df_machine.specs.Seen.{Loaded}
use Rattle.df_trace.specs.Lines.{line_of}
use Rattle.df_trace.specs.Traces.{IsNoLine}
use Rattle.df_trace.proofs.Choices.{unread, impossible, otherwise, line_led}
use Rattle.df_trace.proofs.replay.choice_of.Goals as goal

pub returns-in_err-action-clause-none : goal.returns-in_err-action-clause-none
returns-in_err-action-clause-none c =
    let t = c.args.t.now in
    subst (λ r. IfNone r (IsNoLine t.cells t.state c.args.line.now)) (sym c.from_residual.ensures)
    (unread c.tells_events.ensures c.events_are_of_cells.ensures t c.machine-machine.ensures.reached c.args.line.now c.in_err-action.ensures)

pub returns-in_err-choice-clause-none : goal.returns-in_err-choice-clause-none
returns-in_err-choice-clause-none c =
    let t = c.args.t.now in
    subst (λ r. IfNone r (IsNoLine t.cells t.state c.args.line.now)) (sym c.from_residual-in_err-choice.ensures)
    (impossible c.tells_events.ensures c.events_are_of_cells.ensures t c.machine-machine.ensures.reached c.args.line.now c.in_ok-action.action c.in_ok-action.ensures
    (subst (λ (m : Loaded). (k : ℕ) → option_map action_of (chosen_event m.cells m.state k) ≢ Some c.in_ok-action.action) c.machine-machine.ensures.machine c.in_err-choice.ensures.none))

pub returns-else-is_same-clause-none : goal.returns-else-is_same-clause-none
returns-else-is_same-clause-none c =
    let t = c.args.t.now in
    otherwise c.tells_events.ensures c.events_are_of_cells.ensures c.events_are_apart.ensures t c.machine-machine.ensures.reached c.args.line.now c.in_ok-action.action c.in_ok-choice.choice c.in_ok-event.event
    c.in_ok-action.ensures
    (subst (λ (m : Loaded). option_map action_of (chosen_event m.cells m.state c.in_ok-choice.choice) ≡ Some c.in_ok-action.action) c.machine-machine.ensures.machine c.in_ok-choice.ensures.some)
    (subst (λ (m : Loaded). Some c.in_ok-event.event ≡ chosen_event m.cells m.state c.in_ok-choice.choice) c.machine-machine.ensures.machine c.in_ok-event.ensures.event)
    (λ e. c.if-is_same.ensures.others (c.bytes.ensures.bytes ∙ c.event_line.ensures ∙ e))

pub returns-then-is_same-clause-led : goal.returns-then-is_same-clause-led
returns-then-is_same-clause-led c =
    let t = c.args.t.now in
    line_led c.tells_events.ensures t c.machine-machine.ensures.reached c.args.line.now c.in_ok-choice.choice
    (ap (option_map line_of) (sym (subst (λ (m : Loaded). Some c.in_ok-event.event ≡ chosen_event m.cells m.state c.in_ok-choice.choice) c.machine-machine.ensures.machine c.in_ok-event.ensures.event))
    ∙ ap (λ l. Some l) (sym c.event_line.ensures ∙ sym c.bytes.ensures.bytes ∙ c.if-is_same.ensures.same))
