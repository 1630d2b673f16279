-- In balanced cells, where loops have places, what a firing waits for has a lower rank.
use Rattle.std.proofs.Common.{◌≡◌, ℕ, zero, suc, ◌+◌, ◌<◌, ◌≤◌, ◌==◌, ◌&&◌, ◌||◌, Bool, true, false, nat_lt, List}
use Rattle.std.proofs.Common.{[], ◌∷◌, ◌++◌, get_or, length, map, take, Option, Some, None, refl, sym, ◌∙◌, ap, inl}
use Rattle.std.proofs.Common.{inr, arith}
use Rattle.std.specs.Prelude.{◌⊎◌, is_some, IsTrue}
use Rattle.std.specs.List.{AllByRecursion, flat_map}
use Rattle.std.proofs.lemmas.List.{length-map, get_or-map}
use Rattle.std.proofs.lemmas.Bool.{both_ways, cases_Bool, cases_lt, or_left, or_right, and_from, eq-eqb, lt-ltb}
use Rattle.std.proofs.lemmas.Bool.{ltb-true}
use Rattle.df_values.specs.declared.values.Value.{Value}
use Rattle.df_cells.specs.declared.cells.CellId.{CellId}
use Rattle.df_cells.specs.declared.cells.Dest.{Dest}
use Rattle.df_cells.specs.declared.cells.Cell.{Cell}
use Rattle.df_cells.specs.Cells.{producer_of, loaded_at}
use Rattle.df_cells.specs.Shifts.{origin, gate_part, merge_part}
use Rattle.df_cells.specs.WellFormed.{WellFormed}
use Rattle.df_labels.specs.Histories.{listed}
use Rattle.df_labels.specs.Labels.{Turn, is_earlier, AreRising, block_turn}
use Rattle.df_labels.specs.Members.{Member, Firing, Labels, LabelsMeet, Pairs, Stream, at_turn, answered, received}
use Rattle.df_labels.specs.Members.{block_turns, firing_at, turn_at}
use Rattle.df_labels.specs.MemberPlaces.{HasPlaces, Proceeds}
use Rattle.df_stages.specs.Laws.{HeightsRise, HeightsStay}
use Rattle.df_stages.specs.Nodes.{same_node}
use Rattle.df_stages.specs.Balance.{height, IsBalanced}
use Rattle.df_rank.specs.Ranks.{is_lower, IsLower, HasRanks, level, rank_of}
use Rattle.df_rank.specs.Laws.{BalancedCellsHaveRanks}
use Rattle.df_rank.proofs.Counting.{rises}
use Rattle.df_rank.proofs.Streams.{size, size_next, size_all, size_within}

-- ---- turns of one cell

single_at : (label : List Firing) (i : ℕ) → AllByRecursion (λ (f : Firing). length f.turn ≡ 1) label
    → i < length label → length (firing_at label i).turn ≡ 1
single_at [] i all h = absurd (omega arith)
single_at (f ∷ label) zero all h = all.0
single_at (f ∷ label) (suc i) all h = single_at label i all.1 (omega arith)

all_from : (t : Turn) (label : List Firing) (j : ℕ)
    → AllByRecursion (λ u. IsTrue (is_earlier t u)) (map (λ (f : Firing). f.turn) label) → j < length label
    → IsTrue (is_earlier t (firing_at label j).turn)
all_from t [] j all h = absurd (omega arith)
all_from t (f ∷ label) zero all h = all.0
all_from t (f ∷ label) (suc j) all h = all_from t label j all.1 (omega arith)

rising_at : (label : List Firing) (i j : ℕ) → AreRising (map (λ (f : Firing). f.turn) label) → i < j → j < length label
    → IsTrue (is_earlier (firing_at label i).turn (firing_at label j).turn)
rising_at [] i j rising less h = absurd (omega arith)
rising_at (f ∷ label) zero zero rising less h = absurd (omega arith)
rising_at (f ∷ label) zero (suc j) rising less h = all_from f.turn label j rising.0 (omega arith)
rising_at (f ∷ label) (suc i) zero rising less h = absurd (omega arith)
rising_at (f ∷ label) (suc i) (suc j) rising less h = rising_at label i j rising.1 (omega arith) (omega arith)

earlier_block : (s t : Turn) → length s ≡ 1 → length t ≡ 1 → IsTrue (is_earlier s t) → block_turn s < block_turn t
earlier_block [] t a b e = absurd (omega arith)
earlier_block (i ∷ s) [] a b e = absurd (omega arith)
earlier_block (i ∷ []) (j ∷ []) a b e = by (cases_Bool (nat_lt i j))
  where
    both : (b : Bool) → (b && false) ≡ false
    both true = refl
    both false = refl

    is_true : (b : Bool) → IsTrue b → true ≡ b
    is_true b h = sym h

    by : (nat_lt i j ≡ true) ⊎ (nat_lt i j ≡ false) → i < j
    by (inl l) = ltb-true i j l
    by (inr n) =
        let x : true ≡ false =
        is_true (is_earlier (i ∷ []) (j ∷ [])) e ∙ ap (λ b. b || ((i == j) && false)) n ∙ both (i == j) in cc
earlier_block (i ∷ []) (j ∷ k ∷ t) a b e = absurd (omega arith)
earlier_block (i ∷ k ∷ s) (j ∷ t) a b e = absurd (omega arith)

-- ---- turns of what firings answer or take

module _ (g : Firing → Option Member) where
  abbrev stream : List Firing → Stream
  stream label = flat_map (λ f. at_turn f.turn (g f)) label

  -- a firing that has a member has its turn in the stream, behind those of the firings before it
  turn_in : (label : List Firing) (i : ℕ) → length (stream (take (suc i) label)) ≡ suc (length (stream (take i label)))
      → get_or (block_turns (stream label)) (length (stream (take i label))) 0 ≡ block_turn (firing_at label i).turn
  turn_in [] i one = absurd (omega arith)
  turn_in (f ∷ label) zero one = first (g f) refl one
    where
      first : (o : Option Member) → g f ≡ o → length (at_turn f.turn (g f) ++ []) ≡ 1
          → get_or (block_turns (at_turn f.turn (g f) ++ stream label)) 0 0 ≡ block_turn f.turn
      first None is one = absurd (let e = ap (λ o. length (at_turn f.turn o ++ [])) is in omega arith)
      first (Some v) is one = ap (λ o. get_or (block_turns (at_turn f.turn o ++ stream label)) 0 0) is
  turn_in (f ∷ label) (suc i) one = next (g f) refl (turn_in label i)
    where
      next : (o : Option Member) → g f ≡ o
          → (length (stream (take (suc i) label)) ≡ suc (length (stream (take i label)))
          → get_or (block_turns (stream label)) (length (stream (take i label))) 0
          ≡ block_turn (firing_at label i).turn)
          → get_or (block_turns (at_turn f.turn (g f) ++ stream label))
          (length (at_turn f.turn (g f) ++ stream (take i label))) 0
          ≡ block_turn (firing_at label i).turn
      next None is rest =
          ap (λ o. get_or (block_turns (at_turn f.turn o ++ stream label))
          (length (at_turn f.turn o ++ stream (take i label))) 0) is
          ∙ rest (let e = ap (λ o. length (at_turn f.turn o ++ stream (take (suc i) label))) is in
          let e' = ap (λ o. length (at_turn f.turn o ++ stream (take i label))) is in omega arith)
      next (Some v) is rest =
          ap (λ o. get_or (block_turns (at_turn f.turn o ++ stream label))
          (length (at_turn f.turn o ++ stream (take i label))) 0) is
          ∙ rest (let e = ap (λ o. length (at_turn f.turn o ++ stream (take (suc i) label))) is in
          let e' = ap (λ o. length (at_turn f.turn o ++ stream (take i label))) is in omega arith)

  -- and it is one of all
  within : (label : List Firing) (i : ℕ) → length (stream (take (suc i) label)) ≡ suc (length (stream (take i label)))
      → length (stream (take i label)) < length (stream label)
  within label i one =
      let there = size_within g label i one in
      let up = rises (size g label) (suc i) (length label) (λ k. (size_next g label k).0) (omega arith) in
      let all = size_all g label in
      omega (arith, one, up, all)

module _ (cells : List Cell) (inputs : List (List Value)) (n : ℕ) (labels : Labels)
    (meet : LabelsMeet cells inputs n labels) (places : HasPlaces cells labels) where
  pub turns_go_up : (c i j : ℕ) → i < j → j < length (labels c)
      → block_turn (turn_at labels c i) < block_turn (turn_at labels c j)
  turns_go_up c i j less there =
      earlier_block (turn_at labels c i) (turn_at labels c j) (single_at (labels c) i (places.single c) (omega arith))
      (single_at (labels c) j (places.single c) there) (rising_at (labels c) i j (meet c).rising less there)

  -- from a firing to one that takes its answer
  pub turns_go_over : (d : Dest) (u : CellId) (i j : ℕ) → producer_of cells d ≡ Some u → Pairs cells labels d u.0 i j
      → block_turn (turn_at labels d.cell.0 j) + gate_part cells u.0
      ≡ block_turn (turn_at labels u.0 i) + merge_part cells d
  turns_go_over d u i j fed pairs =
      let none = places.unloaded d in
      let gate = gate_part cells u.0 in
      let merge = merge_part cells d in
      let take' = λ (f : Firing). get_or f.taken d.port.0 None in
      let give = λ (f : Firing). f.answer in
      let taken = block_turns (received d.port.0 (labels d.cell.0)) in
      let given = block_turns (answered (labels u.0)) in
      let k = length (answered (take i (labels u.0))) in
      let k' = length (received d.port.0 (take j (labels d.cell.0))) in
      let bare = ap (λ o. length (listed o)) none in
      let same = pairs.same in
      let at : k' ≡ k = omega (arith, bare, same) in
      let few = within give (labels u.0) i pairs.gives in
      let few' = within take' (labels d.cell.0) j pairs.takes in
      let long = length-map (answered (labels u.0)) (λ x. block_turn x.0) in
      let long' = length-map (received d.port.0 (labels d.cell.0)) (λ x. block_turn x.0) in
      let shifts = (meet d.cell.0).shifts d.port.0 u fed none in
      let here : get_or (map (λ t. t + gate) taken) k 0 ≡ get_or taken k 0 + gate =
      get_or-map (λ t. t + gate) taken k 0 0 (omega (arith, at, few', long')) in
      let there : get_or (map (λ t. t + merge) given) k 0 ≡ get_or given k 0 + merge =
      get_or-map (λ t. t + merge) given k 0 0 (omega (arith, few, long)) in
      let mine : get_or taken k 0 ≡ block_turn (turn_at labels d.cell.0 j) =
      ap (λ m. get_or taken m 0) (sym at) ∙ turn_in take' (labels d.cell.0) j pairs.takes in
      let theirs : get_or given k 0 ≡ block_turn (turn_at labels u.0 i) = turn_in give (labels u.0) i pairs.gives in
      ap (λ t. t + gate) (sym mine) ∙ sym here ∙ ap (λ l. get_or l k 0) shifts ∙ there ∙ ap (λ t. t + merge) theirs

  pub level_rises : (c i j : ℕ) → i < j → j < length (labels c) → level cells labels c i + 2 ≤ level cells labels c j
  level_rises c i j less there = let t = turns_go_up c i j less there in omega arith

  lower_level : (c i e j : ℕ) → level cells labels c i < level cells labels e j
      → IsLower (rank_of cells labels places.place c i) (rank_of cells labels places.place e j)
  lower_level c i e j less = or_left (nat_lt (level cells labels c i) (level cells labels e j))
      ((level cells labels c i == level cells labels e j) && is_lower (places.place c ∷ []) (places.place e ∷ []))
      (lt-ltb (level cells labels c i) (level cells labels e j) less)

  lower_place : (c i e j : ℕ) → level cells labels c i ≤ level cells labels e j → places.place c < places.place e
      → IsLower (rank_of cells labels places.place c i) (rank_of cells labels places.place e j)
  lower_place c i e j le less = elim (cases_lt (level cells labels c i) (level cells labels e j)) [
    | inl below ↦ lower_level c i e j below
    | inr not_below ↦
        let p = places.place c in
        let q = places.place e in
        or_right (nat_lt (level cells labels c i) (level cells labels e j)) ((level cells labels c i == level cells labels e j) && is_lower (p ∷ []) (q ∷ []))
        (and_from (level cells labels c i == level cells labels e j) (is_lower (p ∷ []) (q ∷ [])) (eq-eqb (level cells labels c i) (level cells labels e j) (omega arith))
        (or_left (nat_lt p q) ((p == q) && false) (lt-ltb p q less)))
  ]

  -- what one member joins: within a loop, or between two nodes
  data Joins (u d i j : ℕ) : Type 0 where
    Across : level cells labels d j ≡ level cells labels u i + 1 → Joins u d i j
    Forward : level cells labels d j ≡ level cells labels u i → places.place u < places.place d → Joins u d i j
    Around : level cells labels d j ≡ level cells labels u i + 2 → places.place d < places.place u → Joins u d i j

  proceeds : (u d i j : ℕ) → height cells u ≡ height cells d → Proceeds labels places.place u d i j → Joins u d i j
  proceeds u d i j h (inl p) = let t = p.0 in Forward (omega (arith, h, t)) p.1
  proceeds u d i j h (inr p) = let t = p.0 in Around (omega (arith, h, t)) p.1

  module _ (rise : HeightsRise) (stay : HeightsStay) (well_formed : WellFormed cells)
      (balanced : IsBalanced cells) where
    joins : (d : Dest) (u : CellId) (i j : ℕ) → producer_of cells d ≡ Some u → Pairs cells labels d u.0 i j
        → Joins u.0 d.cell.0 i j
    joins d u i j fed pairs = elim (cases_Bool (same_node cells (origin cells u.0) d.cell.0)) [
      | inl same ↦
          let stays = stay cells well_formed balanced d u fed same in
          proceeds u.0 d.cell.0 i j stays.2 (places.passing d u i j fed stays.0 stays.1 pairs)
      | inr apart ↦
          let h = rise cells well_formed balanced d u fed apart in
          let t = turns_go_over d u i j fed pairs in
          Across (omega (arith, h, t))
    ]

    operand_lower : (u d i j : ℕ) → Joins u d i j
        → IsLower (rank_of cells labels places.place u i) (rank_of cells labels places.place d j)
    operand_lower u d i j (Across up) = lower_level u i d j (omega (arith, up))
    operand_lower u d i j (Forward same less) = lower_place u i d j (omega (arith, same)) less
    operand_lower u d i j (Around up less) = lower_level u i d j (omega (arith, up))

    acknowledgement_lower : (u d i j k : ℕ) → level cells labels u i + 2 ≤ level cells labels u k → Joins u d i j
        → IsLower (rank_of cells labels places.place d j) (rank_of cells labels places.place u k)
    acknowledgement_lower u d i j k next (Across up) = lower_level d j u k (omega (arith, up, next))
    acknowledgement_lower u d i j k next (Forward same less) = lower_level d j u k (omega (arith, same, next))
    acknowledgement_lower u d i j k next (Around up less) = lower_place d j u k (omega (arith, up, next)) less

    ranked : HasRanks cells labels (rank_of cells labels places.place)
    ranked = record {
      rising = λ c i j less there. let r = level_rises c i j less there in lower_level c i c j (omega (arith, r));
      operands = λ d u i j fed pairs. operand_lower u.0 d.cell.0 i j (joins d u i j fed pairs);
      acknowledgements = λ d u i j k fed pairs less there.
          acknowledgement_lower u.0 d.cell.0 i j k (level_rises u.0 i k less there) (joins d u i j fed pairs);
      loads = λ d u j k fed loaded there. absurd
          (both_ways (is_some (loaded_at cells d))
          (ap (λ (o : Option Value). is_some o) (places.unloaded d)) loaded.some);
    }

pub balanced_cells_have_ranks : HeightsRise → HeightsStay → BalancedCellsHaveRanks
balanced_cells_have_ranks rise stay cells inputs n labels well_formed balanced meet places =
    ranked cells inputs n labels meet places rise stay well_formed balanced
