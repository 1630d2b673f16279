-- Cells that realize a meaning for every number of firings are faithful to it, and good; and where a result is never
-- whole, no run ends.
use Rattle.std.proofs.Common.{◌≡◌, ℕ, zero, suc, ◌-◌, ◌<◌, List, [], ◌∷◌, get_or, length, None, refl, sym, ◌∙◌, subst}
use Rattle.std.proofs.Common.{inl, inr, arith}
use Rattle.std.specs.Prelude.{Contains}
use Rattle.std.proofs.lemmas.List.{get_or_past}
use Rattle.std.proofs.lemmas.Bool.{cases_lt}
use Rattle.df_values.specs.declared.values.Value.{Value}
use Rattle.df_cells.specs.declared.cells.Cell.{Cell}
use Rattle.df_cells.specs.declared.kinds.Kind.TheVariants as kind
use Rattle.df_cells.specs.Cells.{cell_at, outputs}
use Rattle.df_cells.specs.WellFormed.{WellFormed}
use Rattle.df_machine.specs.Runs.{after, events}
use Rattle.df_machine.specs.Events.{possible}
use Rattle.df_machine.specs.Seen.{Loaded}
use Rattle.df_machine.specs.Laws.{TellsPossible, HasAllResults}
use Rattle.df_histories.specs.Reached.{IsAfter, IsReached}
use Rattle.df_labels.specs.Histories.{IsPrefix}
use Rattle.df_histories.specs.Laws.{NeverClashes, ResultsHaveOutputs}
use Rattle.df_labels.specs.Members.{Member, sure}
use Rattle.df_members.specs.Laws.{FollowsMembers}
use Rattle.df_labels.specs.ForAll.{MemberOutcome, IsAllMembers}
use Rattle.df_ends.specs.Good.{HoldsAll, HasLabelResults, HasWholeResults}
use Rattle.df_rank.specs.Ranks.{rank_of}
use Rattle.df_rank.specs.Laws.{BalancedCellsHaveRanks}
use Rattle.df_ends.specs.Laws.{EndsWhole, RealizingForAllIsFaithful, RealizingForAllIsGood, EndlessRunsGoOn}

-- what holds at each OUT, and of nothing, holds of each result
each_result : HasAllResults → ResultsHaveOutputs
    → (cells : List Cell) (inputs : List (List Value)) (choices : List ℕ) (outcome : MemberOutcome) (P : List Value
    → List Member → Type 0) → WellFormed cells
    → outputs cells ≡ length outcome → P [] []
    → ((c k m : ℕ) → (cell_at cells c).kind ≡ kind.Out k m
    → P (get_or (after cells inputs choices).results (k - 1) []) (get_or outcome (k - 1) []))
    → (j : ℕ) → P (get_or (after cells inputs choices).results j []) (get_or outcome j [])
each_result all outs cells inputs choices outcome P w count nothing at j = elim (cases_lt j (outputs cells)) [
  | inl within ↦
      let out = outs cells w j within in
      subst (λ i. P (get_or (after cells inputs choices).results i []) (get_or outcome i [])) out.4
      (at out.0 out.1 out.2 out.3)
  | inr past ↦
      let size = all cells inputs choices w in
      let none = get_or_past (after cells inputs choices).results j [] (omega arith) in
      let other = get_or_past outcome j [] (omega arith) in
      subst (λ l. P l (get_or outcome j [])) (sym none) (subst (P []) (sym other) nothing)
]

pub realizing_for_all_is_faithful : NeverClashes → FollowsMembers → HasAllResults → ResultsHaveOutputs
    → RealizingForAllIsFaithful
realizing_for_all_is_faithful never follows all outs cells meaning w realizes = record {
  no_clash = λ inputs choices choice fits. never cells inputs choices choice w;
  results = λ inputs choices n fits. all cells inputs choices w ∙ realizes.outputs inputs n fits;
  prefixes = λ inputs choices n k fits few.
      let t = realizes.tells inputs n fits in
      each_result all outs cells inputs choices (meaning inputs n) (λ l m. IsPrefix (sure l) m) w
      (realizes.outputs inputs n fits) ([], refl)
      (λ c j m is. subst (IsPrefix (sure (get_or (after cells inputs choices).results (j - 1) []))) (t.whole c j m is)
      ((follows cells inputs n t.labels choices w fits t.meet few).results c j m is)) k;
}

pub realizing_for_all_is_good : RealizingForAllIsFaithful → BalancedCellsHaveRanks → EndsWhole → HasAllResults
    → ResultsHaveOutputs → RealizingForAllIsGood
realizing_for_all_is_good faithful ranks ends all outs cells meaning w balanced realizes = record {
  faithful = faithful cells meaning w realizes;
  whole = λ inputs choices n k fits few none.
      let t = realizes.tells inputs n fits in
      let ranked = ranks cells inputs n t.labels w balanced t.meet t.placed in
      let ended = ends cells inputs n t.labels (rank_of cells t.labels t.placed.place) choices w fits t.meet ranked few
      none in
      each_result all outs cells inputs choices (meaning inputs n) (λ l m. sure l ≡ m) w
      (realizes.outputs inputs n fits) refl (λ c j m is. (ended.1 c j m is).0 ∙ t.whole c j m is) k;
  full = λ inputs choices c k m fits none is.
      let n = suc (events cells inputs choices) in
      let t = realizes.tells inputs n fits in
      let ranked = ranks cells inputs n t.labels w balanced t.meet t.placed in
      let ended = ends cells inputs n t.labels (rank_of cells t.labels t.placed.place) choices w fits t.meet ranked
      (omega arith) none in
      (ended.1 c k m is).1;
}

-- ---- of a tracked machine

possible_here : TellsPossible → (t : Loaded) (reached : IsReached t) (choices : List ℕ) → IsAfter t choices
    → possible t.cells t.state ≡ 0
    → possible t.cells (after t.cells t.inputs choices) ≡ 0
possible_here tells t reached choices at none =
    sym (tells t.cells t.inputs choices reached.well_formed) ∙ subst (λ s. possible t.cells s ≡ 0) at none

pub label_results : TellsPossible → BalancedCellsHaveRanks → EndsWhole → (t : Loaded) → IsReached t
    → possible t.cells t.state ≡ 0
    → HasLabelResults t
label_results tells ranks ends t reached none choices at n labels balanced meet placed few =
    let w = reached.well_formed in
    let ranked = ranks t.cells t.inputs n labels w balanced meet placed in
    let ended = ends t.cells t.inputs n labels (rank_of t.cells labels placed.place) choices w reached.fits meet ranked few
    (possible_here tells t reached choices at none) in
    subst (HoldsAll t.cells labels) (sym at) (λ c k m is. (ended.1 c k m is).0)

pub whole_results : TellsPossible → RealizingForAllIsGood → (t : Loaded) → IsReached t → possible t.cells t.state ≡ 0
    → HasWholeResults t
whole_results tells good t reached none choices at meaning balanced realizes n k few =
    subst (λ s. IsAllMembers (get_or s.results k []) (meaning t.inputs n) k) (sym at)
    ((good t.cells meaning reached.well_formed balanced realizes).whole t.inputs choices n k reached.fits few
    (possible_here tells t reached choices at none))

-- ---- results that are never whole

sure_is : (values : List Value) (k : ℕ) → k < length (sure values) → get_or (sure values) k None ≡ None → ⊥
sure_is [] k within e = omega arith
sure_is (v ∷ values) zero within e = cc
sure_is (v ∷ values) (suc k) within e = sure_is values k (omega arith) e

pub endless_runs_go_on : EndlessRunsGoOn
endless_runs_go_on cells meaning inputs k good fits never choices none =
    let n = suc (events cells inputs choices) in
    let result = get_or (after cells inputs choices).results k [] in
    let e : sure result ≡ get_or (meaning inputs n) k [] = good.whole inputs choices n k fits (omega arith) none in
    let there : Contains (sure result) None = subst (λ (l : List Member). Contains l None) (sym e) (never n) in
    sure_is result there.0 there.1 there.2
