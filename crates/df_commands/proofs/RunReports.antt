-- The report of a run, from what the run gave.
use Rattle.std.proofs.Common.{◌≡◌, ◌==◌, ◌≤◌, ℕ, suc, zero, Bool, true, false, List, IsTrue, ◌↔◌, refl, sym, ◌∙◌, ap, subst, arith}
use Rattle.std.proofs.lemmas.Bool.{false≢true}
use Rattle.df_values.specs.declared.values.Value.{Value}
use Rattle.df_cells.specs.declared.cells.Cell.{Cell}
use Rattle.df_machine.specs.Events.{possible}
use Rattle.df_machine.specs.Reports.{Report, report}
use Rattle.df_machine.specs.Runs.{run, after, events, events_from}
use Rattle.df_machine.specs.Seen.{Loaded}
use Rattle.df_machine.specs.States.{start, told}
use Rattle.df_machine.specs.Laws.{TellsShortRuns}

other_than : (n : ℕ) → (suc n == 0) ≡ false
other_than n = grind arith

pub same_test : (b : Bool) (n : ℕ) → (IsTrue b ↔ (n ≡ 0)) → b ≡ (n == 0)
same_test true zero h = refl
same_test true (suc n) h = absurd (let e = h.0 refl in omega arith)
same_test false zero h = absurd (false≢true (h.1 refl))
same_test false (suc n) h = sym (other_than n)

abbrev pub loaded_with : List Cell → List (List Value) → Loaded
loaded_with cells inputs = record { cells = cells; inputs = inputs; state = start cells }

same_loaded : (cells : List Cell) (inputs : List (List Value)) (loaded : Loaded) → loaded.cells ≡ cells → loaded.inputs ≡ inputs → loaded.state ≡ start cells → loaded ≡ loaded_with cells inputs
same_loaded cells inputs loaded a b c =
    ap (λ x. record { cells = x; inputs = loaded.inputs; state = loaded.state }) a
    ∙ ap (λ x. record { cells = cells; inputs = x; state = loaded.state }) b
    ∙ ap (λ x. record { cells = cells; inputs = inputs; state = x }) c

abbrev reported : Loaded → ℕ → Bool → Report
reported ran n drained = record { drained = drained; events = n; results = ran.state.results; fired = ran.state.fired }

abbrev ran_from : Loaded → List ℕ → Loaded
ran_from loaded choices = record loaded { state = told (run loaded.cells loaded.inputs loaded.state choices) }

-- the same with all its firings
abbrev ran_whole : List Cell → List (List Value) → List ℕ → Loaded
ran_whole cells inputs choices = record { cells = cells; inputs = inputs; state = run cells inputs (start cells) choices }

whole_told : TellsShortRuns → (cells : List Cell) (inputs : List (List Value)) (choices : List ℕ) → events_from cells inputs (start cells) choices ≤ 4294967295
    → told (run cells inputs (start cells) choices) ≡ run cells inputs (start cells) choices
unfolding after events
whole_told law cells inputs choices few = law cells inputs choices few

report_of : (cells : List Cell) (inputs : List (List Value)) (choices : List ℕ) (drained : Bool) → (IsTrue drained ↔ (possible cells (run cells inputs (start cells) choices) ≡ 0))
    → reported (ran_whole cells inputs choices) (events_from cells inputs (start cells) choices) drained ≡ report cells inputs choices
unfolding report after events
report_of cells inputs choices drained h =
    ap (λ b. record { drained = b; events = events_from cells inputs (start cells) choices; results = (run cells inputs (start cells) choices).results; fired = (run cells inputs (start cells) choices).fired })
    (same_test drained (possible cells (run cells inputs (start cells) choices)) h)

pub same_report : TellsShortRuns → (cells : List Cell) (inputs : List (List Value)) (choices : List ℕ) (loaded ran : Loaded) (n : ℕ) (drained : Bool)
    → loaded.cells ≡ cells → loaded.inputs ≡ inputs → loaded.state ≡ start cells → ran ≡ ran_from loaded choices → n ≡ events_from loaded.cells loaded.inputs loaded.state choices → n ≤ 4294967295
    → (IsTrue drained ↔ (possible ran.cells ran.state ≡ 0)) → reported ran n drained ≡ report cells inputs choices
same_report law cells inputs choices loaded ran n drained a b c d e few h =
    let same = same_loaded cells inputs loaded a b c in
    let count : n ≡ events_from cells inputs (start cells) choices = e ∙ ap (λ (l : Loaded). events_from l.cells l.inputs l.state choices) same in
    let whole : ran ≡ ran_whole cells inputs choices = d ∙ ap (λ l. ran_from l choices) same
    ∙ ap (λ s. record { cells = cells; inputs = inputs; state = s }) (whole_told law cells inputs choices (omega (arith, few, count))) in
    ap (λ r. reported r n drained) whole ∙ ap (λ k. reported (ran_whole cells inputs choices) k drained) count
    ∙ report_of cells inputs choices drained (subst (λ (r : Loaded). IsTrue drained ↔ (possible r.cells r.state ≡ 0)) whole h)

-- The same where the choices taken are known to be those of the schedule, few enough to be counted.
pub schedule_report : TellsShortRuns → (cells : List Cell) (inputs : List (List Value)) (choices taken : List ℕ) (loaded ran : Loaded) (n : ℕ) (drained : Bool)
    → loaded.cells ≡ cells → loaded.inputs ≡ inputs → loaded.state ≡ start cells → taken ≡ choices → ran ≡ ran_from loaded taken → n ≡ events_from loaded.cells loaded.inputs loaded.state taken
    → n ≤ 4294967295 → (IsTrue drained ↔ (possible ran.cells ran.state ≡ 0)) → reported ran n drained ≡ report cells inputs choices
schedule_report law cells inputs choices taken loaded ran n drained a b c same d e few h =
    same_report law cells inputs choices loaded ran n drained a b c (d ∙ ap (ran_from loaded) same) (e ∙ ap (events_from loaded.cells loaded.inputs loaded.state) same) few h

-- whether a run is drained
pub drained_is : (cells : List Cell) (inputs : List (List Value)) (choices : List ℕ) → (possible cells (after cells inputs choices) == 0) ≡ (report cells inputs choices).drained
unfolding report
drained_is cells inputs choices = refl
