-- A replay under way: the lines so far are done.
use Rattle.std.proofs.Common.{◌≡◌, ℕ, ◌+◌, List, [], ◌∷◌, ◌++◌, length, Some, sym, ◌∙◌, ap, subst, arith, append_assoc}
use Rattle.std.specs.Option.{option_map}
use Rattle.std.proofs.lemmas.List.{length_push}
use Rattle.df_values.specs.declared.values.Value.{Value}
use Rattle.df_cells.specs.declared.cells.Cell.{Cell}
use Rattle.df_machine.specs.Events.{chosen, chosen_event}
use Rattle.df_machine.specs.Runs.{run, after}
use Rattle.df_machine.specs.Seen.{Loaded}
use Rattle.df_machine.specs.States.{State, start, told}
use Rattle.df_histories.specs.Reached.{IsAfter}
use Rattle.df_trace.specs.Lines.{line_of}
use Rattle.df_trace.specs.Traces.{HaveLines, HasDone}

pub record IsUnderWay (old t : Loaded) (all left : List (List ℕ)) (events : ℕ) : Type 0 where
  pub cells : t.cells ≡ old.cells
  pub inputs : t.inputs ≡ old.inputs
  pub before : List (List ℕ)
  pub parts : all ≡ before ++ left
  pub count : events ≡ length before
  pub done : HasDone t before

have_one_more : (cells : List Cell) (inputs : List (List Value)) (s : State) (choices : List ℕ) (lines : List (List ℕ)) (k : ℕ) (line : List ℕ) → HaveLines cells inputs s choices lines
    → option_map line_of (chosen_event cells (run cells inputs s choices) k) ≡ Some line → HaveLines cells inputs s (choices ++ k ∷ []) (lines ++ line ∷ [])
have_one_more cells inputs s [] [] k line have is = (is, tt)
have_one_more cells inputs s [] (l ∷ lines) k line have is = absurd have
have_one_more cells inputs s (c ∷ choices) [] k line have is = absurd have
have_one_more cells inputs s (c ∷ choices) (l ∷ lines) k line have is = (have.0, have_one_more cells inputs (chosen cells inputs s c) choices lines k line have.1 is)

pub one_line_more : (old t new : Loaded) (all left behind : List (List ℕ)) (events choice : ℕ) (line : List ℕ) → IsUnderWay old t all left events → left ≡ line ∷ behind
    → ((choices : List ℕ) → IsAfter t choices → option_map line_of (chosen_event t.cells (after t.cells t.inputs choices) choice) ≡ Some line)
    → new ≡ record t { state = told (chosen t.cells t.inputs t.state choice) } → ((choices : List ℕ) → IsAfter t choices → IsAfter new (choices ++ choice ∷ []))
    → IsUnderWay old new all behind (events + 1)
unfolding after
one_line_more old t new all left behind events choice line w next is state led =
    let cells : new.cells ≡ t.cells = ap (λ (l : Loaded). l.cells) state in
    let inputs : new.inputs ≡ t.inputs = ap (λ (l : Loaded). l.inputs) state in
    let have : HaveLines t.cells t.inputs (start t.cells) (w.done.choices ++ choice ∷ []) (w.before ++ line ∷ []) =
    have_one_more t.cells t.inputs (start t.cells) w.done.choices w.before choice line w.done.have (is w.done.choices w.done.led) in
    record {
      cells = cells ∙ w.cells;
      inputs = inputs ∙ w.inputs;
      before = w.before ++ line ∷ [];
      parts = w.parts ∙ ap (λ l. w.before ++ l) next ∙ sym (append_assoc w.before (line ∷ []) behind);
      count = let l = length_push w.before line in let n = w.count in omega arith;
      done = record {
        choices = w.done.choices ++ choice ∷ [];
        have = subst (λ (l : Loaded). HaveLines l.cells l.inputs (start l.cells) (w.done.choices ++ choice ∷ []) (w.before ++ line ∷ [])) (sym state) have;
        led = led w.done.choices w.done.led;
      };
    }
