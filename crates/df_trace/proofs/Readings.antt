-- Which lines are those of a run, and which is the first that is wrong.
use Rattle.std.proofs.Common.{◌≡◌, ◌≢◌, ℕ, zero, suc, ◌+◌, ◌-◌, ◌%◌, ◌==◌, ◌<◌, ◌≤◌, cond, Bool, false, List, [], ◌∷◌, ◌++◌, get_or, take, drop, length, Option, Some, None, ◌⊎◌, inl, inr, refl, sym, ◌∙◌, ap, subst, arith}
use Rattle.std.specs.Option.{option_map}
use Rattle.std.proofs.lemmas.List.{take-append-drop, drop_more, length-take-le}
use Rattle.std.proofs.lemmas.Bool.{ne_eqb, cases_lt, cases_eq}
use Rattle.df_values.specs.declared.values.Value.{Value}
use Rattle.df_cells.specs.declared.cells.Cell.{Cell}
use Rattle.df_cells.specs.WellFormed.{WellFormed}
use Rattle.df_machine.specs.declared.packets.Event.{Event}
use Rattle.df_machine.specs.Events.{possible, next, chosen, chosen_event}
use Rattle.df_machine.specs.Runs.{run, after, events_from, events}
use Rattle.df_machine.specs.States.{State, start}
use Rattle.df_trace.specs.Laws.{LinesAreApart}
use Rattle.df_trace.specs.Lines.{line_of}
use Rattle.df_trace.specs.Traces.{HaveLines, IsNoLine, AreLines, IsWrongAt}
use Rattle.df_trace.proofs.Choices.{with_line}
use Rattle.df_trace.proofs.Traced.{run_append, no_event}

-- ---- the same lines lead to one state

same_next : (cells : List Cell) (inputs : List (List Value)) (s : State) (j k : ℕ) → j % possible cells s ≡ k % possible cells s → chosen cells inputs s j ≡ chosen cells inputs s k
unfolding chosen
same_next cells inputs s j k same = ap (next cells inputs s) same

one_choice : LinesAreApart → (cells : List Cell) (inputs : List (List Value)) (before : List ℕ) (j k : ℕ) (line : List ℕ) → WellFormed cells
    → option_map line_of (chosen_event cells (after cells inputs before) j) ≡ Some line → option_map line_of (chosen_event cells (after cells inputs before) k) ≡ Some line
    → chosen cells inputs (after cells inputs before) j ≡ chosen cells inputs (after cells inputs before) k
one_choice law cells inputs before j k line w first second =
    let s = after cells inputs before in
    let e = with_line (chosen_event cells s j) line first in let f = with_line (chosen_event cells s k) line second in
    same_next cells inputs s j k (law cells inputs before j k e.0 f.0 w e.1 f.1 (sym e.2 ∙ f.2))

after_one : (cells : List Cell) (inputs : List (List Value)) (before : List ℕ) (k : ℕ) → chosen cells inputs (after cells inputs before) k ≡ after cells inputs (before ++ k ∷ [])
unfolding after
after_one cells inputs before k = sym (run_append cells inputs (start cells) before (k ∷ []))

one_state : LinesAreApart → (cells : List Cell) (inputs : List (List Value)) (before choices others : List ℕ) (lines : List (List ℕ)) → WellFormed cells
    → HaveLines cells inputs (after cells inputs before) choices lines → HaveLines cells inputs (after cells inputs before) others lines
    → run cells inputs (after cells inputs before) choices ≡ run cells inputs (after cells inputs before) others
one_state law cells inputs before [] [] lines w h g = refl
one_state law cells inputs before [] (j ∷ others) [] w h g = absurd g
one_state law cells inputs before [] (j ∷ others) (line ∷ lines) w h g = absurd h
one_state law cells inputs before (k ∷ choices) [] [] w h g = absurd h
one_state law cells inputs before (k ∷ choices) [] (line ∷ lines) w h g = absurd g
one_state law cells inputs before (k ∷ choices) (j ∷ others) [] w h g = absurd h
one_state law cells inputs before (k ∷ choices) (j ∷ others) (line ∷ lines) w h g =
    let same = one_choice law cells inputs before k j line w h.0 g.0 in
    let step = after_one cells inputs before k in
    let left = subst (λ s. HaveLines cells inputs s choices lines) step h.1 in
    let right = subst (λ s. HaveLines cells inputs s others lines) (sym same ∙ step) g.1 in
    ap (λ s. run cells inputs s choices) step ∙ one_state law cells inputs (before ++ k ∷ []) choices others lines w left right ∙ ap (λ s. run cells inputs s others) (sym step ∙ same)

pub lead_to_one : LinesAreApart → (cells : List Cell) (inputs : List (List Value)) (choices others : List ℕ) (lines : List (List ℕ)) → WellFormed cells
    → HaveLines cells inputs (start cells) choices lines → HaveLines cells inputs (start cells) others lines → after cells inputs choices ≡ after cells inputs others
unfolding after
lead_to_one law cells inputs choices others lines w h g = one_state law cells inputs [] choices others lines w h g

-- ---- each line is an event

some_possible : (cells : List Cell) (s : State) (k : ℕ) (line : List ℕ) → option_map line_of (chosen_event cells s k) ≡ Some line → possible cells s ≢ 0
some_possible cells s k line is none = let e = ap (option_map line_of) (sym (no_event cells s k none)) ∙ is in cc

abbrev counts : Bool → ℕ
counts b = cond b 0 1

abbrev counted : ℕ → ℕ
counted n = counts (n == 0)

counts_one : (n : ℕ) → n ≢ 0 → counted n ≡ 1
counts_one zero some = absurd (some refl)
counts_one (suc n) some = ap (λ b. counts b) (ne_eqb (suc n) 0 some)

count_from : (cells : List Cell) (inputs : List (List Value)) (s : State) (choices : List ℕ) (lines : List (List ℕ)) → HaveLines cells inputs s choices lines
    → events_from cells inputs s choices ≡ length lines
count_from cells inputs s [] [] h = refl
count_from cells inputs s [] (line ∷ lines) h = absurd h
count_from cells inputs s (k ∷ choices) [] h = absurd h
count_from cells inputs s (k ∷ choices) (line ∷ lines) h =
    let one = counts_one (possible cells s) (some_possible cells s k line h.0) in
    let more = count_from cells inputs (chosen cells inputs s k) choices lines h.1 in omega (arith, one, more)

pub count_all : (cells : List Cell) (inputs : List (List Value)) (choices : List ℕ) (lines : List (List ℕ)) → HaveLines cells inputs (start cells) choices lines
    → events cells inputs choices ≡ length lines
unfolding events
count_all cells inputs choices lines h = count_from cells inputs (start cells) choices lines h

-- ---- at most one answer

record Split (cells : List Cell) (inputs : List (List Value)) (s : State) (before : List (List ℕ)) (line : List ℕ) : Type 0 where
  pub choices : List ℕ
  pub have : HaveLines cells inputs s choices before
  pub choice : ℕ
  pub is : option_map line_of (chosen_event cells (run cells inputs s choices) choice) ≡ Some line

split_at : (cells : List Cell) (inputs : List (List Value)) (s : State) (choices : List ℕ) (before : List (List ℕ)) (line : List ℕ) (more : List (List ℕ))
    → HaveLines cells inputs s choices (before ++ line ∷ more) → Split cells inputs s before line
split_at cells inputs s [] [] line more h = absurd h
split_at cells inputs s (k ∷ choices) [] line more h = record { choices = []; have = tt; choice = k; is = h.0 }
split_at cells inputs s [] (b ∷ before) line more h = absurd h
split_at cells inputs s (k ∷ choices) (b ∷ before) line more h =
    let r = split_at cells inputs (chosen cells inputs s k) choices before line more h.1 in record { choices = k ∷ r.choices; have = (h.0, r.have); choice = r.choice; is = r.is }

cut_at : (lines : List (List ℕ)) (i : ℕ) → i < length lines → lines ≡ take i lines ++ (get_or lines i [] ∷ drop (i + 1) lines)
cut_at lines i within = sym (take-append-drop i lines) ∙ ap (λ l. take i lines ++ l) (drop_more lines i [] within)

pub not_both : LinesAreApart → (cells : List Cell) (inputs : List (List Value)) (lines : List (List ℕ)) (number : ℕ) → WellFormed cells
    → AreLines cells inputs lines → IsWrongAt cells inputs lines number → ⊥
unfolding after
not_both law cells inputs lines number w right wrong =
    let i = number - 1 in
    let within : i < length lines = let a = wrong.some in let b = wrong.within in omega arith in
    let r = split_at cells inputs (start cells) right.choices (take i lines) (get_or lines i []) (drop (i + 1) lines)
    (subst (λ l. HaveLines cells inputs (start cells) right.choices l) (cut_at lines i within) right.have) in
    let same = lead_to_one law cells inputs r.choices wrong.choices (take i lines) w r.have wrong.have in
    wrong.wrong r.choice (subst (λ s. option_map line_of (chosen_event cells s r.choice) ≡ Some (get_or lines i [])) same r.is)

take_less : (lines : List (List ℕ)) (i j : ℕ) → i ≤ j → take i (take j lines) ≡ take i lines
take_less lines zero j less = refl
take_less [] (suc i) zero less = absurd (omega arith)
take_less [] (suc i) (suc j) less = refl
take_less (l ∷ lines) (suc i) zero less = absurd (omega arith)
take_less (l ∷ lines) (suc i) (suc j) less = ap (λ t. l ∷ t) (take_less lines i j (omega arith))

get_less : (lines : List (List ℕ)) (i j : ℕ) → i < j → get_or (take j lines) i [] ≡ get_or lines i []
get_less lines i zero less = absurd (omega arith)
get_less [] i (suc j) less = refl
get_less (l ∷ lines) zero (suc j) less = refl
get_less (l ∷ lines) (suc i) (suc j) less = get_less lines i j (omega arith)

no_earlier : LinesAreApart → (cells : List Cell) (inputs : List (List Value)) (lines : List (List ℕ)) (m n : ℕ) → WellFormed cells
    → IsWrongAt cells inputs lines m → IsWrongAt cells inputs lines n → m < n → ⊥
no_earlier law cells inputs lines m n w first second less =
    let fewer : length (take (n - 1) lines) ≡ n - 1 = length-take-le (n - 1) lines (let a = second.within in omega arith) in
    not_both law cells inputs (take (n - 1) lines) m w (record { choices = second.choices; have = second.have }) (record {
      some = first.some;
      within = omega arith;
      choices = first.choices;
      have = subst (λ l. HaveLines cells inputs (start cells) first.choices l) (sym (take_less lines (m - 1) (n - 1) (omega arith))) first.have;
      wrong = subst (λ l. IsNoLine cells (after cells inputs first.choices) l) (sym (get_less lines (m - 1) (n - 1) (let a = first.some in omega arith))) first.wrong;
    })

pub one_wrong : LinesAreApart → (cells : List Cell) (inputs : List (List Value)) (lines : List (List ℕ)) (m n : ℕ) → WellFormed cells
    → IsWrongAt cells inputs lines m → IsWrongAt cells inputs lines n → m ≡ n
one_wrong law cells inputs lines m n w first second = elim (cases_lt m n) [
  | inl less ↦ absurd (no_earlier law cells inputs lines m n w first second less)
  | inr most ↦ elim (cases_eq m n) [
    | inl same ↦ same
    | inr other ↦ absurd (no_earlier law cells inputs lines n m w second first (omega arith))
  ]
]

-- ---- some answer

record WrongFrom (cells : List Cell) (inputs : List (List Value)) (s : State) (lines : List (List ℕ)) : Type 0 where
  pub place : ℕ
  pub within : place < length lines
  pub choices : List ℕ
  pub have : HaveLines cells inputs s choices (take place lines)
  pub wrong : IsNoLine cells (run cells inputs s choices) (get_or lines place [])

decided : (cells : List Cell) (inputs : List (List Value)) (s : State) (lines : List (List ℕ))
    → (((choices : List ℕ) → HaveLines cells inputs s choices lines → ⊥) × (WrongFrom cells inputs s lines → ⊥)) → ⊥
decided cells inputs s [] neither = neither.0 [] tt
decided cells inputs s (line ∷ lines) neither = neither.1 (record {
  place = 0;
  within = omega arith;
  choices = [];
  have = tt;
  wrong = λ k is. decided cells inputs (chosen cells inputs s k) lines (
    λ choices have. neither.0 (k ∷ choices) (is, have),
    λ w. neither.1 (record {
      place = suc w.place;
      within = let a = w.within in omega arith;
      choices = k ∷ w.choices;
      have = (is, w.have);
      wrong = w.wrong;
    }),
  );
})

pub some_answer : (cells : List Cell) (inputs : List (List Value)) (lines : List (List ℕ))
    → ((AreLines cells inputs lines → ⊥) × ((number : ℕ) → IsWrongAt cells inputs lines number → ⊥)) → ⊥
unfolding after
some_answer cells inputs lines neither = decided cells inputs (start cells) lines (
  λ choices have. neither.0 (record { choices = choices; have = have }),
  λ w.
      let e : w.place + 1 - 1 ≡ w.place = omega arith in
      neither.1 (w.place + 1) (record {
        some = omega arith;
        within = let a = w.within in omega arith;
        choices = w.choices;
        have = subst (λ i. HaveLines cells inputs (start cells) w.choices (take i lines)) (sym e) w.have;
        wrong = subst (λ i. IsNoLine cells (after cells inputs w.choices) (get_or lines i [])) (sym e) w.wrong;
      }),
)
