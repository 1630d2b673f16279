-- Where firings have ranks and no event is possible, all that the labels say has happened.
use Rattle.std.proofs.Common.{◌≡◌, ℕ, ◌-◌, ◌<◌, Bool, true, false, nat_lt, List, [], ◌∷◌, get_or, length, Some, None}
use Rattle.std.proofs.Common.{◌∙◌, ap, inl, inr, arith}
use Rattle.std.specs.Prelude.{slice_get, is_some}
use Rattle.std.specs.List.{AllByRecursion}
use Rattle.std.proofs.lemmas.List.{take_all, length-map}
use Rattle.std.proofs.lemmas.Bool.{cases_lt, both_ways, and_from, lt-ltb, ltb-true}
use Rattle.df_values.specs.declared.values.Value.{Value}
use Rattle.df_values.specs.Inputs.{AreValid}
use Rattle.df_cells.specs.declared.cells.Cell.{Cell}
use Rattle.df_cells.specs.declared.kinds.Kind.TheVariants as kind
use Rattle.df_cells.specs.Kinds.{limit}
use Rattle.df_cells.specs.Firings.{wants, with_constants}
use Rattle.df_cells.specs.Cells.{cell_at, cell_from, declarations}
use Rattle.df_cells.specs.WellFormed.{WellFormed}
use Rattle.df_machine.specs.States.{firings}
use Rattle.df_machine.specs.Events.{is_enabled, possible}
use Rattle.df_machine.specs.Runs.{after, events}
use Rattle.df_machine.specs.Laws.{NothingIsPossible}
use Rattle.df_labels.proofs.Firings.{wants_first}
use Rattle.df_labels.specs.Members.{Member, Firing, Labels, LabelsMeet, IsWanted, sure, values, received, members}
use Rattle.df_members.proofs.Following.{out_fed, out_within}
use Rattle.df_members.specs.Laws.{FollowsMembers}
use Rattle.df_rank.specs.Ranks.{is_lower, HasRanks}
use Rattle.df_ends.specs.Laws.{WaitsForLowerRank, EndsWhole}
use Rattle.df_ends.proofs.Order.{least}
use Rattle.df_rank.proofs.Streams.{size_each}

-- a firing of a cell whose first port an arc feeds takes a member there
first_taken : (cell : Cell) → is_some (cell_from (slice_get cell.ports 0)) ≡ true → (label : List Firing)
    → AllByRecursion (IsWanted cell) label
    → AllByRecursion (λ f. is_some (get_or f.taken 0 None) ≡ true) label
first_taken cell fed [] all = tt
first_taken cell fed (f ∷ label) all =
    let x = with_constants cell (values f.taken) in (
      all.0.takes 0 ∙ and_from (is_some (cell_from (slice_get cell.ports 0))) (wants cell.kind x 0) fed
          (wants_first cell.kind x),
      first_taken cell fed label all.1,
    )

module _ (waits : WaitsForLowerRank) (follow : FollowsMembers) (nothing : NothingIsPossible) (cells : List Cell)
    (inputs : List (List Value)) (n : ℕ) (labels : Labels) (rank : ℕ → ℕ → List ℕ) (choices : List ℕ)
    (w : WellFormed cells) (fits : AreValid (declarations cells) inputs) (meet : LabelsMeet cells inputs n labels)
    (ranked : HasRanks cells labels rank) (few : events cells inputs choices < n)
    (none : possible cells (after cells inputs choices) ≡ 0) where
  ended : ((after cells inputs choices).packets ≡ []) × ((c : ℕ) → c < length cells
      → is_enabled cells (after cells inputs choices) c ≡ false)
  ended = nothing cells (after cells inputs choices) none

  abbrev is_left : ℕ → Bool
  is_left c = nat_lt (firings (after cells inputs choices) c) (length (labels c))

  abbrev next_rank : ℕ → List ℕ
  next_rank c = rank c (firings (after cells inputs choices) c)

  -- of the cells with firings left one has the least rank, and it waits for nothing
  none_left : (c : ℕ) → c < length cells → firings (after cells inputs choices) c < length (labels c) → ⊥
  none_left c within left = elim (least is_left next_rank (length cells)) [
    | inl over ↦ both_ways (is_left c) (over c within)
        (lt-ltb (firings (after cells inputs choices) c) (length (labels c)) left)
    | inr found ↦
        let m = found.0 in
        elim (waits cells inputs n labels rank choices w fits meet ranked few ended.0 m found.1.0
        (ltb-true (firings (after cells inputs choices) m) (length (labels m)) found.1.1)) [
          | inl on ↦ both_ways (is_enabled cells (after cells inputs choices) m) (ended.1 m found.1.0) on
          | inr lower ↦ both_ways (is_lower (next_rank lower.0) (next_rank m))
              (found.1.2 lower.0 lower.1
              (lt-ltb (firings (after cells inputs choices) lower.0) (length (labels lower.0)) lower.2)) lower.3
        ]
  ]

  all_over : (c : ℕ) → c < length cells → firings (after cells inputs choices) c ≡ length (labels c)
  all_over c within =
      let most = (follow cells inputs n labels choices w fits meet few).begun c in
      elim (cases_lt (firings (after cells inputs choices) c) (length (labels c))) [
        | inl left ↦ absurd (none_left c within left)
        | inr over ↦ omega arith
      ]

  whole_at : (c k m : ℕ) → (cell_at cells c).kind ≡ kind.Out k m
      → sure (get_or (after cells inputs choices).results (k - 1) []) ≡ members (received 0 (labels c))
  whole_at c k m is =
      let over = all_over c (out_within cells c k m is) in
      (follow cells inputs n labels choices w fits meet few).written ended.0 c k m is
      ∙ ap (λ (l : List Firing). members (received 0 l))
      (take_all (firings (after cells inputs choices) c) (labels c) (omega arith))

  -- the OUT took a value in each of its firings, of which there are as many as it declares
  full_at : (c k m : ℕ) → (cell_at cells c).kind ≡ kind.Out k m
      → length (get_or (after cells inputs choices).results (k - 1) []) ≡ m
  full_at c k m is =
      let fed = out_fed cells w c k m (out_within cells c k m is) is in
      let count = size_each (λ f. get_or f.taken 0 None) (labels c)
      (first_taken (cell_at cells c) fed (labels c) (meet c).wanted) in
      let declared = (meet c).counts m (ap limit is) in
      let whole = ap (λ (l : List Member). length l) (whole_at c k m is) in
      let one = length-map (get_or (after cells inputs choices).results (k - 1) []) (λ v. Some v) in
      let other = length-map (received 0 (labels c)) (λ x. x.1) in
      omega (arith, count, declared, whole, one, other)

pub ends_whole : WaitsForLowerRank → FollowsMembers → NothingIsPossible → EndsWhole
ends_whole waits follow nothing cells inputs n labels rank choices w fits meet ranked few none = (
  all_over waits follow nothing cells inputs n labels rank choices w fits meet ranked few none,
  λ c k m is. (
    whole_at waits follow nothing cells inputs n labels rank choices w fits meet ranked few none c k m is,
    full_at waits follow nothing cells inputs n labels rank choices w fits meet ranked few none c k m is,
  ),
)
