-- No turn is longer than the longest source.
use Rattle.std.proofs.Common.{◌≡◌, ◌⊎◌, ℕ, zero, suc, ◌+◌, ◌<◌, ◌≤◌, ◌==◌, not, Bool, true, false, cond, nat_lt, List, [], ◌∷◌, get_or, length, map, Option, Some, None, refl, sym, ◌∙◌, ap, subst, inl, inr, arith}
use Rattle.std.specs.Prelude.{is_some, ◌&&◌, pos, ◌+ℤ◌}
use Rattle.std.specs.List.{AllByRecursion, range_with_len}
use Rattle.std.proofs.lemmas.Bool.{cases_Bool, ltb-true, ltb-false}
use Rattle.df_values.specs.declared.values.Value.{Value}
use Rattle.df_values.specs.declared.values.Value.TheVariants.{Int, Truth}
use Rattle.df_cells.specs.declared.cells.CellId.{CellId}
use Rattle.df_cells.specs.declared.cells.Dest.{Dest}
use Rattle.df_cells.specs.declared.cells.Cell.{Cell}
use Rattle.df_cells.specs.declared.kinds.Kind.{Kind}
use Rattle.df_cells.specs.declared.kinds.Kind.TheVariants as kind
use Rattle.df_cells.specs.Kinds.{is_buffer, source_length, run_values}
use Rattle.df_cells.specs.declared.kinds.Family.{Family}
use Rattle.df_cells.specs.declared.kinds.Family.TheVariants as of
use Rattle.df_cells.specs.Families.{family}
use Rattle.df_cells.specs.Firings.{Operands, family_wants, wants, with_constants}
use Rattle.df_cells.specs.Cells.{cell_at, port_of, producer_of, is_buf, values_of}
use Rattle.df_cells.specs.Shifts.{origin, controls, gate_part, merge_part, merge_place}
use Rattle.df_cells.specs.WellFormed.{WellFormed, number_or_none}
use Rattle.df_labels.specs.Histories.{listed}
use Rattle.df_labels.specs.Labels.{block_turn, source_list}
use Rattle.df_labels.specs.Members.{Firing, Labels, LabelsMeet, IsWanted, Pairs, values, firing_at, in_order_from}
use Rattle.df_labels.specs.Members.{turn_at}
use Rattle.df_labels.specs.MemberPlaces.{HasPlaces}
use Rattle.df_stages.specs.Balance.{IsBalanced}
use Rattle.df_stages.specs.Laws.{HeightsRise, HeightsStay}
use Rattle.df_stages.proofs.Heights.{buffer_fed, buffer_origin, no_gate, height_buffer, height_other}
use Rattle.df_stages.proofs.Parts.{own_origin}
use Rattle.df_rank.specs.Ranks.{level}
use Rattle.df_rank.proofs.Counting.{step, rises}
use Rattle.df_ends.proofs.Lower.{given, took_by, totals}
use Rattle.df_rank.proofs.Ranked.{turns_go_over}
use Rattle.df_rank.proofs.Streams.{size_next, size_here}
use Rattle.df_lockstep.specs.Rates.{HasNoLoops, greatest, longest_source, phases_at_most}
use Rattle.df_lockstep.proofs.Driven.{IsDriven, IsSource, source_or_driven, source_limit, end_within}
use Rattle.df_lockstep.proofs.Levels.{level_over}

-- ---- the greatest of numbers

greater : (a b : ℕ) → (a ≤ cond (nat_lt a b) b a) × (b ≤ cond (nat_lt a b) b a)
greater a b = by (nat_lt a b) refl
  where
    by : (t : Bool) → nat_lt a b ≡ t → (a ≤ cond t b a) × (b ≤ cond t b a)
    by true e = let l = ltb-true a b e in (omega arith, omega arith)
    by false e = let l = ltb-false a b e in (omega arith, omega arith)

at_most : (f : Cell → ℕ) (cells : List Cell) (c : ℕ) → c < length cells → f (cell_at cells c) ≤ greatest f cells
at_most f [] c within = absurd (omega arith)
at_most f (cell ∷ cells) zero within = (greater (f cell) (greatest f cells)).0
at_most f (cell ∷ cells) (suc c) within =
    let rest = at_most f cells c (omega arith) in
    let more = (greater (f cell) (greatest f cells)).1 in omega arith

-- ---- turns of sources

source_has : (it : Kind) (values : List Value) (n : ℕ) → source_length it ≡ Some n → (list : List Value) × (source_list it values ≡ Some list)
source_has (kind.In name basic m) values n is = (values, refl)
source_has (kind.Idx lo m) values n is = (map (λ i. Int (lo +ℤ pos i)) (range_with_len 0 m), refl)
source_has (kind.Ctl runs) values n is = (run_values runs, refl)
source_has _ values n is = cc

turn_in_order : (n : ℕ) (list : List Value) (i : ℕ) → i < length (in_order_from n list)
    → block_turn (firing_at (in_order_from n list) i).turn ≡ n + i
turn_in_order n [] i within = absurd (omega arith)
turn_in_order n (v ∷ list) zero within = omega arith
turn_in_order n (v ∷ list) (suc i) within = let rest = turn_in_order (n + 1) list i (omega arith) in omega arith

not_buffer : (it : Kind) (n : ℕ) → source_length it ≡ Some n → is_buffer it ≡ false
not_buffer (kind.In name basic m) n is = refl
not_buffer (kind.Idx lo m) n is = refl
not_buffer (kind.Ctl runs) n is = refl
not_buffer _ n is = cc

-- ---- a port at which every firing takes

true_alone : Operands
true_alone = Some (Truth true) ∷ []

false_alone : Operands
false_alone = Some (Truth false) ∷ []

not_true : (b : Bool) → not b ≡ true → b ≡ false
not_true true h = cc
not_true false h = refl

no_side : (it : Family) (p : ℕ) (values : List Value) → ((x : Operands) → family_wants it x p ≡ true) → merge_place it p values ≡ 0
unfolding true_alone false_alone
no_side of.Merge p values always =
    let two = not_true (p == 2) (always true_alone) in
    let one = not_true (p == 1) (always false_alone) in
    rw (one, two) refl
no_side _ p values always = refl

wanted_at : (cell : Cell) (label : List Firing) (i : ℕ) → AllByRecursion (IsWanted cell) label → i < length label
    → IsWanted cell (firing_at label i)
wanted_at cell [] i all h = absurd (omega arith)
wanted_at cell (f ∷ label) zero all h = all.0
wanted_at cell (f ∷ label) (suc i) all h = wanted_at cell label i all.1 (omega arith)

module _ (heights_rise : HeightsRise) (heights_stay : HeightsStay) (cells : List Cell) (inputs : List (List Value))
    (n : ℕ) (labels : Labels) (well_formed : WellFormed cells) (balanced : IsBalanced cells) (free : HasNoLoops cells)
    (meet : LabelsMeet cells inputs n labels) (places : HasPlaces cells labels) where
  -- the turn of a firing, and for a BUF cell the turn of the gate from which its member comes
  abbrev full_turn : ℕ → ℕ → ℕ
  full_turn c i = block_turn (turn_at labels c i) + cond (is_buf cells c) (gate_part cells (origin cells c)) 0

  source_turn : (c i : ℕ) → c < length cells → i < length (labels c) → IsSource cells c
      → full_turn c i < longest_source cells
  source_turn c i within left source =
      let m = source.0 in
      let count = (meet c).counts m (source_limit (cell_at cells c).kind m source.1) in
      let has = source_has (cell_at cells c).kind (values_of cells inputs c) m source.1 in
      let all = (meet c).source has.0 has.1 in
      let here = ap (λ (l : List Firing). block_turn (firing_at l i).turn) all in
      let inside : i < length (in_order_from 0 has.0) = let e = ap (λ (l : List Firing). length l) all in omega arith in
      let at = turn_in_order 0 has.0 i inside in
      let none = ap (λ (b : Bool). cond b (gate_part cells (origin cells c)) 0)
      (not_buffer (cell_at cells c).kind m source.1) in
      let most = at_most (λ cell. number_or_none (source_length cell.kind)) cells c within in
      let num = ap number_or_none source.1 in
      omega arith

  -- the firing whose answer a firing takes at a port at which every firing takes
  record Feeds (c i : ℕ) : Type 0 where
    d : Dest
    at : d.cell.0 ≡ c
    from : CellId
    fed : producer_of cells d ≡ Some from
    j : ℕ
    inside : j < length (labels from.0)
    pair : Pairs cells labels d from.0 j i
    none : merge_part cells d ≡ 0

  feeds : (c i : ℕ) → i < length (labels c) → IsDriven cells c → Feeds c i
  unfolding merge_part
  feeds c i left driven =
      let p = driven.port in let u = driven.from in
      let d = port_of c p in
      let cell = cell_at cells c in
      let here = with_constants cell (values (firing_at (labels c) i).taken) in
      let some : is_some (get_or (firing_at (labels c) i).taken p None) ≡ true =
      (wanted_at cell (labels c) i (meet c).wanted left).takes p
      ∙ ap (λ (g : Option CellId). is_some g && wants cell.kind here p) driven.fed
      ∙ driven.always here in
      let unloaded = ap (λ (o : Option Value). length (listed o)) (places.unloaded d) in
      let one = size_here (λ f. get_or f.taken p None) (labels c) i (firing_at [] 0) left some in
      let all = totals cells inputs n labels meet d u driven.fed in
      let up = rises (took_by labels d) (suc i) (length (labels c))
      (λ k. (size_next (λ f. get_or f.taken p None) (labels c) k).0) (omega arith) in
      let r = step (given labels u.0) 0 (length (labels u.0)) (took_by labels d i)
      (λ k. (size_next (λ f. f.answer) (labels u.0) k).1) (omega arith) (omega arith) (omega arith) in
      let same = r.3 in let next = r.4 in
      record {
        d = d;
        at = refl;
        from = u;
        fed = driven.fed;
        j = r.0;
        inside = r.2;
        pair = record { gives = omega (arith, same, next); takes = one; same = omega (arith, unloaded, same) };
        none = no_side (family cell.kind) p (controls cells c) driven.always;
      }

  -- over an arc at which every firing takes no full turn grows
  turn_falls : (c i : ℕ) → (x : Feeds c i) → full_turn c i ≤ full_turn x.from.0 x.j
  turn_falls c i x = by (cases_Bool (is_buf cells c)) (cases_Bool (is_buf cells u.0))
    where
      u : CellId
      u = x.from

      shift : block_turn (turn_at labels c i) + gate_part cells u.0 ≡ block_turn (turn_at labels u.0 x.j)
      shift =
          let e = turns_go_over cells inputs n labels meet places x.d u x.j i x.fed x.pair in
          let at = ap (λ k. block_turn (turn_at labels k i)) x.at in
          let none = x.none in
          omega arith

      part : (k : ℕ) (b : Bool) → is_buf cells k ≡ b
          → cond (is_buf cells k) (gate_part cells (origin cells k)) 0
          ≡ cond b (gate_part cells (origin cells k)) 0
      part k b e = ap (λ t. cond t (gate_part cells (origin cells k)) 0) e

      within : c < length cells
      within = subst (λ k. k < length cells) x.at (end_within cells x.d u x.fed)

      by : (is_buf cells c ≡ true) ⊎ (is_buf cells c ≡ false)
          → (is_buf cells u.0 ≡ true) ⊎ (is_buf cells u.0 ≡ false)
          → full_turn c i ≤ full_turn u.0 x.j
      by (inr other) both = let s = shift in let p = part c false other in omega arith
      by (inl buf) both =
          let fed = buffer_fed cells well_formed balanced x.d u
          (subst (λ k. is_buf cells k ≡ true) (sym x.at) buf) x.fed in
          let fed' : producer_of cells (port_of c 0) ≡ Some u =
          subst (λ k. producer_of cells (port_of k 0) ≡ Some u) x.at fed in
          let o = ap (gate_part cells) (buffer_origin cells well_formed c u within buf fed') in
          let s = shift in
          let p = part c true buf in
          elim both [
            | inl again ↦
                let q = part u.0 true again in
                let none = no_gate cells well_formed balanced u.0 again in
                omega arith
            | inr first ↦
                let q = part u.0 false first in
                let own = ap (gate_part cells) (own_origin cells u.0 first) in
                omega arith
          ]

  turns_short : (r c i : ℕ) → level cells labels c i < r → c < length cells → i < length (labels c)
      → full_turn c i < longest_source cells
  turns_short zero c i below within left = absurd (omega arith)
  turns_short (suc r) c i below within left = elim (source_or_driven cells c well_formed within) [
    | inl source ↦ source_turn c i within left source
    | inr driven ↦
        let x = feeds c i left driven in
        let u = x.from in
        let inside = (well_formed.port x.d.cell.0 (end_within cells x.d u x.fed)).feeds x.d.port.0 u x.fed in
        let up = level_over heights_rise heights_stay cells inputs n labels well_formed balanced free meet places x.d u
        x.j i x.fed x.pair in
        let at = ap (λ k. level cells labels k i) x.at in
        let rest = turns_short r u.0 x.j (omega arith) inside x.inside in
        let le = turn_falls c i x in
        omega arith
  ]

  pub level_small : (c i : ℕ) → c < length cells → i < length (labels c)
      → level cells labels c i < phases_at_most cells
  level_small c i within left =
      let short = turns_short (suc (level cells labels c i)) c i (omega arith) within left in
      let most = at_most (λ cell. cell.stage) cells c within in
      elim (cases_Bool (is_buf cells c)) [
        | inl buf ↦
            let h = height_buffer cells well_formed balanced c buf in
            let p = ap (λ t. cond t (gate_part cells (origin cells c)) 0) buf in
            omega arith
        | inr other ↦
            let h = height_other cells well_formed balanced c other in
            let p = ap (λ t. cond t (gate_part cells (origin cells c)) 0) other in
            omega arith
      ]
