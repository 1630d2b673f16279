-- A machine tells all firings of fewer phases than a u32 counts.
use Rattle.std.proofs.Common.{◌≡◌, ℕ, zero, suc, ◌<◌, ◌≤◌, List, [], ◌∷◌, length, map, refl, ◌∙◌, ap, arith}
use Rattle.std.specs.Prelude.{get_or}
use Rattle.df_values.specs.declared.values.Value.{Value}
use Rattle.df_cells.specs.declared.cells.Cell.{Cell}
use Rattle.df_machine.specs.States.{firings, told, told_count}
use Rattle.df_lockstep.specs.Phases.{after_phases}
use Rattle.df_lockstep.proofs.Fired.{phases_length}
use Rattle.df_lockstep.proofs.Ranks.{firings_rise, none_at_start}

-- each cell has fired at most once a phase
few_firings : (cells : List Cell) (inputs : List (List Value)) (c k : ℕ) → c < length cells → firings (after_phases cells inputs k) c ≤ k
few_firings cells inputs c zero within = let none = none_at_start cells inputs c in omega arith
few_firings cells inputs c (suc k) within =
    let few = few_firings cells inputs c k within in
    let one = (firings_rise cells inputs c k within).1 in
    omega arith

count_told : (n : ℕ) → n ≤ 4294967295 → told_count n ≡ n
count_told n few = omega (arith, few)

all_told : (counts : List ℕ) → ((i : ℕ) → i < length counts → get_or counts i 0 ≤ 4294967295) → map told_count counts ≡ counts
all_told [] few = refl
all_told (n ∷ counts) few =
    ap (λ m. m ∷ map told_count counts) (count_told n (few 0 (omega arith)))
    ∙ ap (λ l. n ∷ l) (all_told counts (λ i below. few (suc i) (omega (arith, below))))

pub phases_told : (cells : List Cell) (inputs : List (List Value)) (k : ℕ) → k ≤ 4294967295 → told (after_phases cells inputs k) ≡ after_phases cells inputs k
phases_told cells inputs k few =
    let s = after_phases cells inputs k in
    let long = phases_length cells inputs k in
    let each : (i : ℕ) → i < length s.fired → get_or s.fired i 0 ≤ 4294967295 =
    λ i below. let most = few_firings cells inputs i k (omega (arith, below, long)) in omega (arith, most, few) in
    ap (λ l. record s { fired = l }) (all_told s.fired each)
