-- Without loops a run keeps the full rate, and is drained in time.
use Rattle.std.proofs.Common.{◌≡◌, ℕ, suc, ◌+◌, ◌*◌, ◌<◌, ◌≤◌, false, List, [], get_or, length, sym, ap, subst}
use Rattle.std.proofs.Common.{inl, inr, arith}
use Rattle.std.proofs.lemmas.Bool.{cases_Bool, cases_lt}
use Rattle.df_values.specs.declared.values.Value.{Value}
use Rattle.df_cells.specs.declared.cells.Cell.{Cell}
use Rattle.df_cells.specs.Cells.{is_buf}
use Rattle.df_cells.specs.WellFormed.{WellFormed}
use Rattle.df_machine.specs.States.{State, firings}
use Rattle.df_machine.specs.Events.{is_enabled, possible}
use Rattle.df_labels.specs.Labels.{block_turn}
use Rattle.df_labels.specs.Members.{Labels, turn_at}
use Rattle.df_labels.specs.ForAll.{IsAllMembers}
use Rattle.df_members.specs.Laws.{FollowsMembers}
use Rattle.df_stages.specs.Balance.{stage_of, IsBalanced}
use Rattle.df_stages.specs.Laws.{HeightsRise, HeightsStay}
use Rattle.df_stages.proofs.Heights.{height_other}
use Rattle.df_rank.specs.Ranks.{level}
use Rattle.df_ends.specs.Laws.{RealizingForAllIsGood}
use Rattle.df_rank.proofs.Counting.{rises}
use Rattle.df_lockstep.specs.Phases.{after_phases, choices_of_phases}
use Rattle.df_lockstep.specs.Rates.{HappensBy, phases_at_most}
use Rattle.df_lockstep.specs.Laws.{PhasesAreRuns, PhasesKeepRanks, Covers, KeepsFullRate, DrainsInTime, WholeInTime}
use Rattle.df_lockstep.proofs.Levels.{levels_rank}
use Rattle.df_lockstep.proofs.Short.{level_small}
use Rattle.df_lockstep.proofs.Quiet.{phases_quiet}
use Rattle.df_lockstep.proofs.Fired.{phase_counts, phases_length, none_enabled}
use Rattle.df_lockstep.proofs.Ranks.{next_phase, firings_rise, events_at_most, choices_rise}

-- the laws from which the rate follows
pub record RateLaws : Type 0 where
  pub keeps : PhasesKeepRanks
  pub heights_rise : HeightsRise
  pub heights_stay : HeightsStay

full_rate : (cells : List Cell) (inputs : List (List Value)) (labels : Labels) → WellFormed cells → IsBalanced cells
    → (c i : ℕ) → is_buf cells c ≡ false
    → HappensBy cells inputs c i (level cells labels c i)
    → HappensBy cells inputs c i (stage_of cells c + 2 * block_turn (turn_at labels c i))
full_rate cells inputs labels well_formed balanced c i other h =
    let e = height_other cells well_formed balanced c other in
    let le = h.1 in
    (h.0, omega (arith, e, le), h.2)

module _ (laws : RateLaws) (cells : List Cell) (inputs : List (List Value)) (n : ℕ) (labels : Labels)
    (covers : Covers cells inputs n labels) where
  small : (c i : ℕ) → c < length cells → i < length (labels c) → level cells labels c i < phases_at_most cells
  small = level_small laws.heights_rise laws.heights_stay cells inputs n labels covers.well_formed covers.balanced
      covers.free covers.meet covers.placed

  -- the phases up to the bound, and the one behind them, have fewer than n events
  few : (k : ℕ) → k ≤ suc (phases_at_most cells) → length (choices_of_phases cells inputs k) < n
  few k le =
      let up = choices_rise cells inputs k (suc (phases_at_most cells)) le in
      let most = covers.enough in
      omega (arith, up, most)

  pub happens : (c i : ℕ) → c < length cells → i < length (labels c)
      → HappensBy cells inputs c i (level cells labels c i)
  happens c i within left =
      let below = small c i within left in
      laws.keeps cells inputs n labels (level cells labels) covers.well_formed covers.fits covers.meet
      (levels_rank laws.heights_rise laws.heights_stay cells inputs n labels covers.well_formed covers.balanced
      covers.free covers.meet covers.placed) c i within left (few (level cells labels c i) (omega (arith, below)))

  module _ (runs : PhasesAreRuns) (follows : FollowsMembers) where
    begun : (c k : ℕ) → k ≤ suc (phases_at_most cells) → firings (after_phases cells inputs k) c ≤ length (labels c)
    begun c k le =
        let choices = choices_of_phases cells inputs k in
        let most = events_at_most cells inputs choices in
        let less = few k le in
        let a = (follows cells inputs n labels choices covers.well_formed covers.fits covers.meet
        (omega (arith, most, less))).begun c in
        let e = ap (λ (s : State). firings s c) (runs cells inputs k) in
        omega (arith, a, e)

    rise : (c a b : ℕ) → c < length cells → a ≤ b
        → firings (after_phases cells inputs a) c ≤ firings (after_phases cells inputs b) c
    rise c a b within le = rises (λ k. firings (after_phases cells inputs k) c) a b
        (λ k. (firings_rise cells inputs c k within).0) le

    pub all_over : (c : ℕ) → c < length cells
        → firings (after_phases cells inputs (phases_at_most cells)) c ≡ length (labels c)
    all_over c within =
        let last = phases_at_most cells in
        let most = begun c last (omega arith) in
        elim (cases_lt (firings (after_phases cells inputs last) c) (length (labels c))) [
          | inr none ↦ omega (arith, none, most)
          | inl left ↦
              let i = firings (after_phases cells inputs last) c in
              let h = happens c i within left in
              let below = small c i within left in
              let le = h.1 in
              let up = rise c (suc h.0) last within (omega (arith, below, le)) in
              let at = h.2.1 in
              absurd (omega (arith, up, at))
        ]

    pub none_left : possible cells (after_phases cells inputs (phases_at_most cells)) ≡ 0
    unfolding possible
    none_left =
        let last = phases_at_most cells in
        let s = after_phases cells inputs last in
        let quiet = ap (λ l. length l) (phases_quiet cells inputs last) in
        let none = none_enabled cells s (λ c within. elim (cases_Bool (is_enabled cells s c)) [
          | inr no' ↦ no'
          | inl yes' ↦
              let here : c < length s.fired = subst (λ k. c < k) (sym (phases_length cells inputs last)) within in
              let count = phase_counts cells inputs s c here within yes' in
              let next = ap (λ (t : State). firings t c) (next_phase cells inputs last) in
              let most = begun c (suc last) (omega arith) in
              let all = all_over c within in
              absurd (omega (arith, count, next, most, all))
        ]) in
        let empty = ap (λ (l : List ℕ). length l) none in
        omega (arith, quiet, empty)

pub keeps_full_rate : RateLaws → KeepsFullRate
keeps_full_rate laws cells inputs n labels covers c i within other left =
    full_rate cells inputs labels covers.well_formed covers.balanced c i other
    (happens laws cells inputs n labels covers c i within left)

pub drains_in_time : RateLaws → PhasesAreRuns → FollowsMembers → DrainsInTime
drains_in_time laws runs follows cells inputs n labels covers = (
  none_left laws cells inputs n labels covers runs follows,
  all_over laws cells inputs n labels covers runs follows,
)

pub whole_in_time : PhasesAreRuns → DrainsInTime → RealizingForAllIsGood → WholeInTime
whole_in_time runs drains good cells meaning well_formed balanced free realizes inputs n k fits enough =
    let last = phases_at_most cells in
    let choices = choices_of_phases cells inputs last in
    let t = realizes.tells inputs n fits in
    let covers : Covers cells inputs n t.labels = record {
      well_formed = well_formed;
      fits = fits;
      balanced = balanced;
      free = free;
      meet = t.meet;
      placed = t.placed;
      enough = enough;
    } in
    let run = runs cells inputs last in
    let most = events_at_most cells inputs choices in
    let up = choices_rise cells inputs last (suc last) (omega arith) in
    subst (λ (s : State). IsAllMembers (get_or s.results k []) (meaning inputs n) k) (sym run)
    ((good cells meaning well_formed balanced realizes).whole inputs choices n k fits (omega (arith, most, up, enough))
    (subst (λ (s : State). possible cells s ≡ 0) run (drains cells inputs n t.labels covers).0))
