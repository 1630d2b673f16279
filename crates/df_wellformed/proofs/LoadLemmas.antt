-- The rule on loaded values, port by port.
use Rattle.std.proofs.Common.{◌≡◌, ℕ, ◌+◌, ◌<◌, List, get_or, length, Option, Some, None, refl, sym, ap, ◌∙◌, subst, inl, inr, arith}
use Rattle.std.specs.Prelude.{slice_get}
use Rattle.std.proofs.lemmas.Bool.{cases_lt}
use Rattle.std.proofs.lemmas.List.{get_or_default}
use Rattle.std.proofs.lemmas.Option.{slice_get-get_or, slice_get_within, get_or_from_slice_get, same_Some, none-some}
use Rattle.df_values.specs.declared.values.Value.{Value}
use Rattle.df_cells.specs.declared.cells.CellId.{CellId}
use Rattle.df_cells.specs.declared.cells.Cell.{Cell}
use Rattle.df_cells.specs.declared.cells.Feed.{Feed}
use Rattle.df_cells.specs.declared.cells.Feed.TheVariants.{Arc, Constant, Loaded}
use Rattle.df_cells.specs.Cells.{cell_from, loaded_from, cell_at}
use Rattle.df_cells.specs.Paths.{mark_of}
use Rattle.df_cells.specs.WellFormed.{LoadsLoops}
use Rattle.df_wellformed.specs.Loads.{GoesRound}

-- what a feed tells of itself
round_of : (cells : List Cell) (mark : ℕ) (feed : Feed) (u : CellId) (v : Value) → cell_from (Some feed) ≡ Some u → loaded_from (Some feed) ≡ Some v → GoesRound cells mark feed
    → (mark_of cells u.0 ≡ mark) × (mark ≡ 0 → ⊥)
round_of cells mark (Arc w) u v fed is round = cc
round_of cells mark (Constant w) u v fed is round = cc
round_of cells mark (Loaded w x) u v fed is round = (ap (λ (e : CellId). mark_of cells e.0) (sym (same_Some w u fed)) ∙ round.0, round.1)

of_round : (cells : List Cell) (mark : ℕ) (feed : Feed) → ((u : CellId) (v : Value) → cell_from (Some feed) ≡ Some u → loaded_from (Some feed) ≡ Some v → (mark_of cells u.0 ≡ mark) × (mark ≡ 0 → ⊥))
    → GoesRound cells mark feed
of_round cells mark (Arc w) h = tt
of_round cells mark (Constant w) h = tt
of_round cells mark (Loaded w x) h = h w x refl refl

-- a port that is loaded is there
from_slot : (cells : List Cell) (mark : ℕ) (feeds : List Feed) (p : ℕ) (u : CellId) (v : Value) (o : Option Feed) → slice_get feeds p ≡ o → cell_from o ≡ Some u → loaded_from o ≡ Some v
    → ((d : Feed) → p < length feeds → GoesRound cells mark (get_or feeds p d)) → (mark_of cells u.0 ≡ mark) × (mark ≡ 0 → ⊥)
from_slot cells mark feeds p u v None is fed loaded all = absurd (none-some u fed)
from_slot cells mark feeds p u v (Some feed) is fed loaded all =
    round_of cells mark feed u v fed loaded (subst (GoesRound cells mark) (get_or_from_slice_get feeds p feed feed is) (all feed (slice_get_within feeds p feed is)))

-- all ports were looked at
pub all_round : (cells : List Cell) (c mark : ℕ) (feeds : List Feed) → feeds ≡ (cell_at cells c).ports → mark ≡ mark_of cells c → ((p : ℕ) (d : Feed) → p < length feeds → GoesRound cells mark (get_or feeds p d))
    → LoadsLoops cells c
all_round cells c mark feeds same mine all = record {
  on_loop = λ p u v fed is.
      let at = ap (λ (l : List Feed). slice_get l p) same in
      let both = from_slot cells mark feeds p u v (slice_get feeds p) refl (ap cell_from at ∙ fed) (ap loaded_from at ∙ is) (all p) in
      (both.0 ∙ mine, λ none. both.1 (mine ∙ none));
}

-- one port doesn't
pub one_not_round : (cells : List Cell) (c mark : ℕ) (feeds : List Feed) (p : ℕ) (d : Feed) → feeds ≡ (cell_at cells c).ports → mark ≡ mark_of cells c → p < length feeds
    → (GoesRound cells mark (get_or feeds p d) → ⊥) → LoadsLoops cells c → ⊥
one_not_round cells c mark feeds p d same mine h not loads =
    not (of_round cells mark (get_or feeds p d) (λ u v fed is.
    let at = sym (slice_get-get_or feeds p d h) ∙ ap (λ (l : List Feed). slice_get l p) same in
    let both = loads.on_loop p u v (ap cell_from (sym at) ∙ fed) (ap loaded_from (sym at) ∙ is) in
    (both.0 ∙ sym mine, λ none. both.1 (sym mine ∙ none))))

pub round_more : (cells : List Cell) (mark : ℕ) (feeds : List Feed) (i : ℕ) (d : Feed) → i < length feeds → GoesRound cells mark (get_or feeds i d)
    → ((p : ℕ) (e : Feed) → p < i → GoesRound cells mark (get_or feeds p e)) → (p : ℕ) (e : Feed) → p < i + 1 → GoesRound cells mark (get_or feeds p e)
round_more cells mark feeds i d h here below p e lt = elim (cases_lt p i) [
  | inl less ↦ below p e less
  | inr more ↦ let same : i ≡ p = omega arith in subst (λ j. GoesRound cells mark (get_or feeds j e)) same (subst (GoesRound cells mark) (get_or_default feeds i d e h) here)
]
