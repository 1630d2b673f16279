-- A traced run under way: what was written and what waits are the lines of the events so far.
use Rattle.std.proofs.Common.{◌≡◌, ℕ, ◌-◌, ◌%◌, ◌==◌, List, [], ◌∷◌, ◌++◌, take, drop, length, Some, None, IsTrue, ◌↔◌, inl, inr, refl, sym, ◌∙◌, ap, subst, arith, append_assoc, append-nil}
use Rattle.std.specs.Prelude.{slice_get}
use Rattle.std.proofs.lemmas.List.{take_at, take-append-drop}
use Rattle.std.proofs.lemmas.Bool.{eq-eqb, eqb-true}
use Rattle.std.specs.Result.{OnErr}
use Rattle.std.specs.Prelude.{Result, Ok, Err}
use Rattle.df_io.specs.Faults.{SinkFaults, HasSinkCause}
use Rattle.df_values.specs.declared.values.Value.{Value}
use Rattle.df_cells.specs.declared.cells.Cell.{Cell}
use Rattle.df_cells.specs.WellFormed.{WellFormed}
use Rattle.df_machine.specs.declared.packets.Event.{Event}
use Rattle.df_machine.specs.Events.{enabled, possible, event_from, event_at, chosen, chosen_event}
use Rattle.df_machine.specs.Laws.{StaysDrained, TellsPossible}
use Rattle.df_machine.specs.Runs.{run, after}
use Rattle.df_machine.specs.Seen.{Loaded}
use Rattle.df_machine.specs.States.{State, start, told}
use Rattle.df_machine.specs.Turns.{HasNoTurn}
use Rattle.df_histories.specs.Reached.{IsAfter}
use Rattle.df_trace.specs.Lines.{line_of}
use Rattle.df_trace.specs.Traces.{line_text, trace_text}
use Rattle.df_trace.specs.Tracing.{Happens, IsMoved}

-- the events of the choices used so far have this text
pub record IsTraced (old t : Loaded) (all left text : List ℕ) : Type 0 where
  pub cells : t.cells ≡ old.cells
  pub inputs : t.inputs ≡ old.inputs
  pub used : List ℕ
  pub parts : all ≡ used ++ left
  pub led : IsAfter t used
  pub lines : text ≡ trace_text old.cells old.inputs (start old.cells) used

-- ---- texts of runs that go on

trace_append : (cells : List Cell) (inputs : List (List Value)) (s : State) (ks more : List ℕ)
    → trace_text cells inputs s (ks ++ more) ≡ trace_text cells inputs s ks ++ trace_text cells inputs (run cells inputs s ks) more
trace_append cells inputs s [] more = refl
trace_append cells inputs s (k ∷ ks) more =
    ap (λ t. line_text (chosen_event cells s k) ++ t) (trace_append cells inputs (chosen cells inputs s k) ks more)
    ∙ sym (append_assoc (line_text (chosen_event cells s k)) (trace_text cells inputs (chosen cells inputs s k) ks) (trace_text cells inputs (run cells inputs (chosen cells inputs s k) ks) more))

nothing_in : {A : Type 0} (xs : List A) (i : ℕ) → length xs ≡ 0 → slice_get xs i ≡ None
nothing_in [] i none = refl
nothing_in (x ∷ xs) i none = absurd (omega arith)

pub no_event : (cells : List Cell) (s : State) (k : ℕ) → possible cells s ≡ 0 → chosen_event cells s k ≡ None
unfolding possible chosen_event event_at
no_event cells s k none =
    let n = length (enabled cells s) in let m = k % possible cells s in
    ap (λ o. event_from o (slice_get s.packets (m - n))) (nothing_in (enabled cells s) m (omega arith)) ∙ ap (event_from None) (nothing_in s.packets (m - n) (omega arith))

-- where no event is possible, there is no more text
no_text : StaysDrained → (cells : List Cell) (inputs : List (List Value)) (s : State) (ks : List ℕ) → possible cells s ≡ 0 → trace_text cells inputs s ks ≡ []
no_text law cells inputs s [] none = refl
no_text law cells inputs s (k ∷ ks) none =
    let same = (law cells inputs s (k ∷ []) none).0 in
    ap (λ e. line_text e ++ trace_text cells inputs (chosen cells inputs s k) ks) (no_event cells s k none)
    ∙ ap (λ t. trace_text cells inputs t ks) same ∙ no_text law cells inputs s ks none

-- ---- one event more

pub traced_none : (t : Loaded) (left : List ℕ) → IsAfter t [] → IsTraced t t left left []
traced_none t left begun = record { cells = refl; inputs = refl; used = []; parts = refl; led = begun; lines = refl }

pub traced_more : (old t new : Loaded) (all before left text : List ℕ) (event : Event) → IsTraced old t all before text → Happens t new before left event
    → IsTraced old new all left (text ++ (line_of event ++ 10 ∷ []))
unfolding after
traced_more old t new all before left text event w h =
    let here : chosen_event old.cells (run old.cells old.inputs (start old.cells) w.used) h.choice ≡ Some event =
    subst (λ cells. chosen_event cells (run cells old.inputs (start cells) w.used) h.choice ≡ Some event) w.cells
    (subst (λ inputs. chosen_event t.cells (run t.cells inputs (start t.cells) w.used) h.choice ≡ Some event) w.inputs (h.happens w.used w.led)) in
    record {
      cells = h.cells ∙ w.cells;
      inputs = h.inputs ∙ w.inputs;
      used = w.used ++ h.choice ∷ [];
      parts = w.parts ∙ ap (λ l. w.used ++ l) h.taken ∙ sym (append_assoc w.used (h.choice ∷ []) left);
      led = h.led w.used w.led;
      lines = ap (λ x. x ++ (line_of event ++ 10 ∷ [])) w.lines
          ∙ sym (trace_append old.cells old.inputs (start old.cells) w.used (h.choice ∷ [])
          ∙ ap (λ e. trace_text old.cells old.inputs (start old.cells) w.used ++ (line_text e ++ [])) here
          ∙ ap (λ x. trace_text old.cells old.inputs (start old.cells) w.used ++ x) (append-nil (line_of event ++ 10 ∷ [])));
    }

-- ---- the end

pub run_append : (cells : List Cell) (inputs : List (List Value)) (s : State) (ks more : List ℕ) → run cells inputs s (ks ++ more) ≡ run cells inputs (run cells inputs s ks) more
run_append cells inputs s [] more = refl
run_append cells inputs s (k ∷ ks) more = run_append cells inputs (chosen cells inputs s k) ks more

led_possible : TellsPossible → (old t : Loaded) (used : List ℕ) → WellFormed old.cells → t.cells ≡ old.cells → t.inputs ≡ old.inputs → IsAfter t used
    → possible t.cells t.state ≡ possible old.cells (after old.cells old.inputs used)
led_possible law old t used formed cells inputs led =
    ap (possible t.cells) led
    ∙ ap (λ c. possible c (told (after c t.inputs used))) cells
    ∙ ap (λ i. possible old.cells (told (after old.cells i used))) inputs
    ∙ law old.cells old.inputs used formed

-- all of the text, once there is no turn
pub traced_all : StaysDrained → TellsPossible → (old t new : Loaded) (all before left text : List ℕ) → WellFormed old.cells → IsTraced old t all before text → HasNoTurn t new before left
    → (text ≡ trace_text old.cells old.inputs (start old.cells) all)
    × (possible new.cells new.state ≡ possible old.cells (after old.cells old.inputs all))
unfolding after
traced_all law tells old t new all before left text formed w turn = elim turn.cause [
  | inl none ↦
      let s = after old.cells old.inputs w.used in
      let drained : possible old.cells s ≡ 0 = sym (led_possible tells old t w.used formed w.cells w.inputs w.led) ∙ none in
      let rest = law old.cells old.inputs s before drained in (
        w.lines ∙ sym (append-nil (trace_text old.cells old.inputs (start old.cells) w.used))
            ∙ ap (λ x. trace_text old.cells old.inputs (start old.cells) w.used ++ x) (sym (no_text law old.cells old.inputs s before drained))
            ∙ sym (trace_append old.cells old.inputs (start old.cells) w.used before) ∙ ap (trace_text old.cells old.inputs (start old.cells)) (sym w.parts),
        ap (λ (l : Loaded). possible l.cells l.state) turn.state ∙ led_possible tells old t w.used formed w.cells w.inputs w.led
            ∙ ap (possible old.cells) (sym (run_append old.cells old.inputs (start old.cells) w.used before ∙ rest.0)) ∙ ap (λ l. possible old.cells (after old.cells old.inputs l)) (sym w.parts),
      )
  | inr nil ↦
      let same : all ≡ w.used = w.parts ∙ ap (λ l. w.used ++ l) nil ∙ append-nil w.used in (
        w.lines ∙ ap (trace_text old.cells old.inputs (start old.cells)) (sym same),
        ap (λ (l : Loaded). possible l.cells l.state) turn.state ∙ led_possible tells old t w.used formed w.cells w.inputs w.led ∙ ap (λ l. possible old.cells (after old.cells old.inputs l)) (sym same),
      )
]

-- whatever is written so far is a front of all of it
pub traced_front : (old t : Loaded) (all left text : List ℕ) → IsTraced old t all left text → (more : List ℕ) × (trace_text old.cells old.inputs (start old.cells) all ≡ text ++ more)
traced_front old t all left text w =
    let more = trace_text old.cells old.inputs (run old.cells old.inputs (start old.cells) w.used) left in
    (more, ap (trace_text old.cells old.inputs (start old.cells)) w.parts ∙ trace_append old.cells old.inputs (start old.cells) w.used left ∙ ap (λ x. x ++ more) (sym w.lines))

-- ---- what is written

pub moved_none : (old : List ℕ) → IsMoved [] [] old old
moved_none old = record { front = []; parts = refl; written = sym (append-nil old) }

pub moved_more : (text waited waits line behind out before after : List ℕ) → IsMoved text waited out before → IsMoved waited waits before after → behind ≡ waits ++ line
    → IsMoved (text ++ line) behind out after
moved_more text waited waits line behind out before after w m is = record {
  front = w.front ++ m.front;
  parts = ap (λ x. x ++ line) (w.parts ∙ ap (λ x. w.front ++ x) m.parts ∙ sym (append_assoc w.front m.front waits))
      ∙ append_assoc (w.front ++ m.front) waits line ∙ ap (λ x. (w.front ++ m.front) ++ x) (sym is);
  written = m.written ∙ ap (λ x. x ++ m.front) w.written ∙ append_assoc out w.front m.front;
}

pub moved_all : (text waited out before after : List ℕ) → IsMoved text waited out before → after ≡ before ++ waited → after ≡ out ++ text
moved_all text waited out before after w is =
    is ∙ ap (λ x. x ++ waited) w.written ∙ append_assoc out w.front waited ∙ ap (λ x. out ++ x) (sym w.parts)

front_is : (p q : List ℕ) → p ≡ take (length p) (p ++ q)
front_is p q = sym (take_at p q (length p) refl)

pub moved_front : (text waited out before after all more : List ℕ) (n : ℕ) → IsMoved text waited out before → all ≡ text ++ more → after ≡ before ++ take n waited
    → (m : ℕ) × (after ≡ out ++ take m all)
moved_front text waited out before after all more n w whole is =
    let p = w.front ++ take n waited in let q = drop n waited ++ more in
    let parts : all ≡ p ++ q =
    whole ∙ ap (λ x. x ++ more) w.parts ∙ append_assoc w.front waited more
    ∙ ap (λ x. w.front ++ (x ++ more)) (sym (take-append-drop n waited)) ∙ ap (λ x. w.front ++ x) (append_assoc (take n waited) (drop n waited) more)
    ∙ sym (append_assoc w.front (take n waited) (drop n waited ++ more)) in (
      length p,
      is ∙ ap (λ x. x ++ take n waited) w.written ∙ append_assoc out w.front (take n waited) ∙ ap (λ x. out ++ x) (front_is p q ∙ ap (take (length p)) (sym parts)),
    )

-- ---- faults over several calls

pub then_cause : {A B : Type 0} (a b c : SinkFaults) → HasSinkCause A a b → HasSinkCause B b c → HasSinkCause B a c
then_cause a b c f g = record {
  later = let x = f.later in let y = g.later in omega arith;
  cause = λ h. let r = g.cause h in let x = f.later in grind arith;
  stays = g.stays ∙ f.stays;
  none = λ h. g.none (subst IsTrue (sym f.stays) h) ∙ f.none h;
}

pub fewer_causes : {A B : Type 0} (a b : SinkFaults) → (B → A) → HasSinkCause A a b → HasSinkCause B a b
fewer_causes a b only f = record { later = f.later; cause = λ h. f.cause (only h); stays = f.stays; none = f.none }

pub on_err : {A E : Type 0} (P : Type 0) (r : Result A E) → P → OnErr r P
on_err P (Ok x) p = tt
on_err P (Err e) p = p

pub test_is : (n m : ℕ) → n ≡ m → (IsTrue (n == 0) ↔ (m ≡ 0))
test_is n m same = (λ h. sym same ∙ eqb-true n 0 h, λ h. eq-eqb n 0 (same ∙ h))
