-- Which choice a line is of.
use Rattle.std.proofs.Common.{◌≡◌, ◌≢◌, ℕ, ◌%◌, ◌≤◌, List, length, Option, Some, None, refl, sym, ◌∙◌, ap, arith}
use Rattle.std.specs.Option.{option_map}
use Rattle.df_machine.specs.declared.packets.Event.{Event}
use Rattle.df_machine.specs.declared.packets.Event.TheVariants.{Fire, Perform, Arrive, Ack}
use Rattle.df_machine.specs.declared.packets.Action.{Action}
use Rattle.df_machine.specs.Events.{possible, event_at, chosen_event, action_of}
use Rattle.df_machine.specs.Laws.{IsOfCells, TellsEvents, EventsAreOfCells, EventsAreApart}
use Rattle.df_machine.specs.Runs.{after}
use Rattle.df_machine.specs.Seen.{Loaded}
use Rattle.df_machine.specs.States.{State}
use Rattle.df_histories.specs.Reached.{IsReached, IsAfter}
use Rattle.df_trace.specs.Lines.{line_of}
use Rattle.df_trace.specs.Traces.{IsNoLine}

-- the state to which the choices led, with all its firings
abbrev led_to : (t : Loaded) → IsReached t → State
led_to t reached = after t.cells t.inputs reached.choices

event_led : TellsEvents → (t : Loaded) (reached : IsReached t) (k : ℕ) → chosen_event t.cells t.state k ≡ chosen_event t.cells (led_to t reached) k
event_led law t reached k = ap (λ s. chosen_event t.cells s k) reached.after_these ∙ law t.cells t.inputs reached.choices k reached.well_formed

some_same : (x y : List ℕ) → Some x ≡ Some y → x ≡ y
some_same x y is = cc

-- an event with a line
pub with_line : (found : Option Event) (line : List ℕ) → option_map line_of found ≡ Some line → (e : Event) × (found ≡ Some e) × (line ≡ line_of e)
with_line None line is = cc
with_line (Some e) line is = (e, refl, some_same line (line_of e) (sym is))

pub all_cells : (n : ℕ) (e : Event) → n ≤ 65536 → IsOfCells n e → IsOfCells 65536 e
all_cells n (Fire c) most within = omega arith
all_cells n (Perform c) most within = omega arith
all_cells n (Arrive d v) most within = (let a = within.0 in omega arith, within.1)
all_cells n (Ack d) most within = (let a = within.0 in omega arith, within.1)

-- the event whose line it is, and that it is one of the cells
event_of_line : TellsEvents → EventsAreOfCells → (t : Loaded) → IsReached t → (line : List ℕ) (k : ℕ) → option_map line_of (chosen_event t.cells t.state k) ≡ Some line
    → (e : Event) × (chosen_event t.cells t.state k ≡ Some e) × (line ≡ line_of e) × IsOfCells 65536 e
event_of_line tells law t reached line k is =
    let found = with_line (chosen_event t.cells t.state k) line is in
    let there = sym (event_led tells t reached k) ∙ found.1 in (
      found.0,
      found.1,
      found.2,
      all_cells (length t.cells) found.0 reached.well_formed.shaped.few (law t.cells t.inputs reached.choices k found.0 reached.well_formed there),
    )

-- ---- no choice

pub unread : TellsEvents → EventsAreOfCells → (t : Loaded) → IsReached t → (line : List ℕ)
    → ((e : Event) → IsOfCells 65536 e → line ≡ line_of e → None ≡ Some (action_of e)) → IsNoLine t.cells t.state line
unread tells law t reached line reads k is =
    let found = event_of_line tells law t reached line k is in let e = reads found.0 found.3 found.2 in cc

pub impossible : TellsEvents → EventsAreOfCells → (t : Loaded) → IsReached t → (line : List ℕ) (action : Action)
    → ((e : Event) → IsOfCells 65536 e → line ≡ line_of e → Some action ≡ Some (action_of e))
    → ((k : ℕ) → option_map action_of (chosen_event t.cells t.state k) ≢ Some action) → IsNoLine t.cells t.state line
impossible tells law t reached line action reads none k is =
    let found = event_of_line tells law t reached line k is in
    none k (ap (option_map action_of) found.1 ∙ sym (reads found.0 found.3 found.2))

-- ---- another line

same_action : (a b : Action) → Some a ≡ Some b → a ≡ b
same_action a b is = cc

with_action : (found : Option Event) (e : Event) (a : Action) → found ≡ Some e → option_map action_of found ≡ Some a → action_of e ≡ a
with_action (Some f) e a is acts = same_action (action_of e) a (ap (option_map action_of) (sym is) ∙ acts)
with_action None e a is acts = cc

same_event : (e f : Event) → Some e ≡ Some f → e ≡ f
same_event e f is = cc

-- an event in which the same happens is the same one
pub alone : TellsEvents → EventsAreApart → (t : Loaded) → IsReached t → (j k : ℕ) (e f : Event) → chosen_event t.cells t.state j ≡ Some e → chosen_event t.cells t.state k ≡ Some f
    → action_of e ≡ action_of f → e ≡ f
unfolding chosen_event
alone tells law t reached j k e f first second same =
    let s = led_to t reached in
    let a : event_at t.cells s (j % possible t.cells s) ≡ Some e = sym (event_led tells t reached j) ∙ first in
    let b : event_at t.cells s (k % possible t.cells s) ≡ Some f = sym (event_led tells t reached k) ∙ second in
    let place = law t.cells t.inputs reached.choices j k e f reached.well_formed a b same in
    same_event e f (sym a ∙ ap (event_at t.cells s) place ∙ b)

pub otherwise : TellsEvents → EventsAreOfCells → EventsAreApart → (t : Loaded) → IsReached t → (line : List ℕ) (action : Action) (choice : ℕ) (event : Event)
    → ((e : Event) → IsOfCells 65536 e → line ≡ line_of e → Some action ≡ Some (action_of e))
    → option_map action_of (chosen_event t.cells t.state choice) ≡ Some action → Some event ≡ chosen_event t.cells t.state choice → line_of event ≢ line → IsNoLine t.cells t.state line
otherwise tells law apart t reached line action choice event reads acts at other k is =
    let found = event_of_line tells law t reached line k is in
    let same : action_of event ≡ action_of found.0 = with_action (chosen_event t.cells t.state choice) event action (sym at) acts ∙ same_action action (action_of found.0) (reads found.0 found.3 found.2) in
    let one = alone tells apart t reached choice k event found.0 (sym at) found.1 same in
    other (ap line_of one ∙ sym found.2)

-- ---- the line of a choice, with all firings

pub line_led : TellsEvents → (t : Loaded) → IsReached t → (line : List ℕ) (k : ℕ) → option_map line_of (chosen_event t.cells t.state k) ≡ Some line → (choices : List ℕ) → IsAfter t choices
    → option_map line_of (chosen_event t.cells (after t.cells t.inputs choices) k) ≡ Some line
line_led law t reached line k is choices led =
    ap (option_map line_of) (sym (ap (λ s. chosen_event t.cells s k) led ∙ law t.cells t.inputs choices k reached.well_formed)) ∙ is
