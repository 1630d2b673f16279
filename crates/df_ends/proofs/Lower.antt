-- A cell that is not enabled between phases waits for a firing of lower rank.
use Rattle.std.proofs.Common.{◌≡◌, ℕ, suc, ◌+◌, ◌-◌, ◌<◌, ◌≤◌, Bool, true, false, List, [], ◌++◌, get_or, length}
use Rattle.std.proofs.Common.{Option, Some, None, refl, sym, ◌∙◌, ap, inl, inr, arith, length-append}
use Rattle.std.specs.Prelude.{is_some, slice_get}
use Rattle.std.specs.List.{flat_map}
use Rattle.std.proofs.lemmas.List.{append-nil, length-map, length-take-le, get_or_past}
use Rattle.std.proofs.lemmas.Bool.{cases_Bool, cases_eq, cases_lt}
use Rattle.std.proofs.lemmas.Option.{none-some}
use Rattle.df_values.specs.declared.values.Value.{Value}
use Rattle.df_cells.specs.declared.cells.CellId.{CellId}
use Rattle.df_cells.specs.declared.cells.Dest.{Dest}
use Rattle.df_cells.specs.declared.cells.Cell.{Cell}
use Rattle.df_cells.specs.Cells.{no_cell, cell_from, port_of, producer_of, loaded_at}
use Rattle.df_cells.specs.WellFormed.{WellFormed}
use Rattle.df_machine.specs.declared.packets.Packet.{Packet}
use Rattle.df_machine.specs.States.{place, firings}
use Rattle.df_machine.specs.Events.{is_enabled}
use Rattle.df_machine.specs.Runs.{after}
use Rattle.df_machine.specs.Sound.{bit}
use Rattle.df_machine.specs.Waiting.{Awaits, Lacks}
use Rattle.df_machine.specs.Laws.{DisabledCellsWait}
use Rattle.df_labels.specs.Histories.{listed}
use Rattle.df_histories.specs.Traces.{arriving, finishing}
use Rattle.df_labels.specs.Members.{Member, Labels, LabelsMeet, sure, answered, received, members, coming, firing_at}
use Rattle.df_members.specs.Following.{Follows, fired_so_far}
use Rattle.df_members.specs.Laws.{FollowsMembers}
use Rattle.df_labels.specs.Members.{Pairs}
use Rattle.df_rank.specs.Ranks.{is_lower, IsLower, HasRanks}
use Rattle.df_ends.specs.Laws.{WaitsForLowerRank}
use Rattle.df_rank.proofs.Counting.{step, rises}
use Rattle.df_rank.proofs.Streams.{size, size_next, size_here, size_all, size_most, size_each}
use Rattle.df_ends.proofs.Order.{lower_through}

-- a run that has come to a state without packets, and labels that it follows
record Between (cells : List Cell) (inputs : List (List Value)) (n : ℕ) (labels : Labels)
    (choices : List ℕ) : Type 0 where
  w : WellFormed cells
  meet : LabelsMeet cells inputs n labels
  follows : Follows cells inputs choices labels
  none : (after cells inputs choices).packets ≡ []

abbrev pub given : Labels → ℕ → ℕ → ℕ
given labels u n = size (λ f. f.answer) (labels u) n

abbrev pub took_by : Labels → Dest → ℕ → ℕ
took_by labels d n = size (λ f. get_or f.taken d.port.0 None) (labels d.cell.0) n

abbrev loads : List Cell → Dest → ℕ
loads cells d = length (listed (loaded_at cells d))

length_listed : (o : Option Value) → length (listed o) ≡ bit (is_some o)
length_listed None = refl
length_listed (Some v) = refl

bit_le : (b : Bool) → bit b ≤ 1
bit_le true = omega arith
bit_le false = omega arith

some_bit : (b : Bool) → 0 < bit b → b ≡ true
some_bit true h = refl
some_bit false h = absurd (omega arith)

-- a port that is fed is a port of a cell
pub end_within : (cells : List Cell) (d : Dest) (u : CellId) → producer_of cells d ≡ Some u → d.cell.0 < length cells
end_within cells d u fed = elim (cases_lt d.cell.0 (length cells)) [
  | inl within ↦ within
  | inr past ↦ absurd (none-some u
      (ap (λ (c : Cell). cell_from (slice_get c.ports d.port.0)) (sym (get_or_past cells d.cell.0 no_cell past))
      ∙ fed))
]

-- in all, as many members are taken as are answered
pub totals : (cells : List Cell) (inputs : List (List Value)) (n : ℕ) (labels : Labels) → LabelsMeet cells inputs n labels
    → (d : Dest) (u : CellId) → producer_of cells d ≡ Some u
    → took_by labels d (length (labels d.cell.0)) ≡ given labels u.0 (length (labels u.0))
totals cells inputs n labels meet d u fed =
    let e = ap (λ (l : List Member). length l) ((meet d.cell.0).arcs d.port.0 u fed) in
    let loaded = sure (listed (loaded_at cells d)) in
    let a = length-append loaded (members (answered (labels u.0))) in
    let m = length-map (answered (labels u.0)) (λ x. x.1) in
    let short = length-take-le (length (answered (labels u.0))) (coming cells labels d u.0) (omega arith) in
    let n' = length-map (received d.port.0 (labels d.cell.0)) (λ x. x.1) in
    let g = size_all (λ f. f.answer) (labels u.0) in
    let t = size_all (λ f. get_or f.taken d.port.0 None) (labels d.cell.0) in
    omega arith

-- where a later firing of a cell is lower, so is the next one
next_lower : (cells : List Cell) (labels : Labels) (rank : ℕ → ℕ → List ℕ) → HasRanks cells labels rank
    → (c i j : ℕ) (r : List ℕ) → i ≤ j → j < length (labels c)
    → IsLower (rank c j) r → IsLower (rank c i) r
next_lower cells labels rank ranked c i j r later within below = elim (cases_eq j i) [
  | inl same ↦ ap (λ k. is_lower (rank c k) r) (sym same) ∙ below
  | inr other ↦ lower_through (rank c i) (rank c j) r (ranked.rising c i j (omega arith) within) below
]

abbrev IsLowerLeft : List Cell → List (List Value) → Labels → List ℕ → (ℕ → ℕ → List ℕ) → ℕ → Type 0
IsLowerLeft cells inputs labels choices rank c =
    (v : ℕ) × (v < length cells) × (firings (after cells inputs choices) v < length (labels v))
    × IsLower (rank v (firings (after cells inputs choices) v)) (rank c (firings (after cells inputs choices) c))

module _ (cells : List Cell) (inputs : List (List Value)) (n : ℕ) (labels : Labels) (choices : List ℕ) (rank : ℕ → ℕ
    → List ℕ) (b : Between cells inputs n labels choices) (ranked : HasRanks cells labels rank) where
  -- on each arc, what was loaded and given was taken, but for what lies in the place
  arc_now : (d : Dest) (u : CellId) → producer_of cells d ≡ Some u
      → loads cells d + given labels u.0 (firings (after cells inputs choices) u.0)
      ≡ took_by labels d (firings (after cells inputs choices) d.cell.0) + bit
      (is_some (place (after cells inputs choices) d))
  arc_now d u fed =
      let s = after cells inputs choices in
      let front = answered (fired_so_far cells inputs choices labels u.0) in
      let behind = received d.port.0 (fired_so_far cells inputs choices labels d.cell.0) in
      let rest = λ (ps : List Packet). flat_map (arriving d) ps
      ++ flat_map (finishing cells inputs (firings s u.0 - 1) u.0) ps in
      let e : sure (listed (loaded_at cells d)) ++ members front ≡ members behind ++ sure (listed (place s d) ++ []) =
      b.follows.arcs d u fed ∙ ap (λ ps. members behind ++ sure (listed (place s d) ++ rest ps)) b.none in
      let lens = ap (λ (l : List Member). length l) e in
      let left = length-append (sure (listed (loaded_at cells d))) (members front) in
      let right = length-append (members behind) (sure (listed (place s d) ++ [])) in
      let last = ap (λ (l : List Value). length l) (append-nil (listed (place s d))) in
      let one = length_listed (place s d) in
      let m = length-map front (λ x. x.1) in let k = length-map behind (λ x. x.1) in
      let p = length-map (listed (place s d) ++ []) (λ v. Some v) in
      let q = length-map (listed (loaded_at cells d)) (λ v. Some v) in
      omega arith

  from_missing : (c : ℕ) → firings (after cells inputs choices) c < length (labels c)
      → Lacks cells (after cells inputs choices) c → IsLowerLeft cells inputs labels choices rank c
  from_missing c left lacks =
      let s = after cells inputs choices in
      let p = lacks.0 in let u = lacks.1 in let fed = lacks.2 in
      let d = port_of c p in
      let j = firings s c in
      let m = firings s u.0 in
      let some = b.follows.wanted c left p u fed lacks.3 in
      let one = size_here (λ f. get_or f.taken p None) (labels c) j (firing_at [] 0) left some in
      let now = arc_now d u fed in
      let empty = ap (λ (o : Option Value). bit (is_some o)) lacks.4 in
      let all = totals cells inputs n labels b.meet d u fed in
      let up = rises (took_by labels d) (suc j) (length (labels c))
      (λ k. (size_next (λ f. get_or f.taken p None) (labels c) k).0) (omega arith) in
      let begun = b.follows.begun u.0 in
      let r = step (given labels u.0) m (length (labels u.0)) (took_by labels d j - loads cells d)
      (λ k. (size_next (λ f. f.answer) (labels u.0) k).1) begun (omega arith) (omega arith) in
      let i = r.0 in let r3 = r.3 in let r4 = r.4 in
      let pair : Pairs cells labels d u.0 i j = record { gives = omega arith; takes = one; same = omega arith } in
      let low = ranked.operands d u i j fed pair in
      let within = (b.w.port c (end_within cells d u fed)).feeds p u fed in
      (u.0, within, omega (arith, r.1, r.2), next_lower cells labels rank ranked u.0 m i (rank c j) r.1 r.2 low)

  -- the next answer of a cell that awaits an acknowledgement is one that the labels give after what lies in the place
  more_to_take : (c : ℕ) (d : Dest) → firings (after cells inputs choices) c < length (labels c)
      → producer_of cells d ≡ Some (record { 0 = c }) → is_some (place (after cells inputs choices) d) ≡ true
      → took_by labels d (firings (after cells inputs choices) d.cell.0) < took_by labels d (length (labels d.cell.0))
  more_to_take c d left fed there =
      let u : CellId = record { 0 = c } in
      let m = firings (after cells inputs choices) c in
      let now = arc_now d u fed in
      let full = ap bit there in
      let all = totals cells inputs n labels b.meet d u fed in
      let load = length_listed (loaded_at cells d) in
      elim (cases_Bool (is_some (loaded_at cells d))) [
        | inl some ↦
            let sb = ap bit some in
            let each = size_each (λ f. f.answer) (labels c) ((b.meet c).steady d fed some) in
            let whole = size_all (λ f. f.answer) (labels c) in
            let most = size_most (λ f. f.answer) (labels c) m in
            omega arith
        | inr none ↦
            let sb = ap bit none in
            let up = rises (given labels c) m (length (labels c)) (λ k. (size_next (λ f. f.answer) (labels c) k).0)
            (omega arith) in
            omega arith
      ]

  from_awaiting : (c : ℕ) → firings (after cells inputs choices) c < length (labels c)
      → Awaits cells (after cells inputs choices) c → IsLowerLeft cells inputs labels choices rank c
  from_awaiting c left awaits =
      let s = after cells inputs choices in
      let d = awaits.0 in let fed = awaits.1 in
      let u : CellId = record { 0 = c } in
      let v = d.cell.0 in
      let i = firings s c in
      let m = firings s v in
      let k = took_by labels d m in
      let now = arc_now d u fed in
      let full = ap bit awaits.2 in
      let load = length_listed (loaded_at cells d) in
      let begun = b.follows.begun v in
      let t = step (took_by labels d) m (length (labels v)) k
      (λ l. (size_next (λ f. get_or f.taken d.port.0 None) (labels v) l).1) begun (omega arith)
      (more_to_take c d left fed awaits.2) in
      let j = t.0 in let t3 = t.3 in let t4 = t.4 in
      let low : IsLower (rank v j) (rank c i) = elim (cases_lt k (loads cells d)) [
        | inl loaded ↦
            let some = some_bit (is_some (loaded_at cells d)) (omega arith) in
            let most = bit_le (is_some (loaded_at cells d)) in
            ranked.loads d u j i fed (record { some = some; takes = omega arith; first = omega arith }) left
        | inr answer ↦
            let g = step (given labels c) 0 i (k - loads cells d) (λ l. (size_next (λ f. f.answer) (labels c) l).1)
            (omega arith) (omega arith) (omega arith) in
            let g3 = g.3 in let g4 = g.4 in
            let pair : Pairs cells labels d c g.0 j =
            record { gives = omega arith; takes = omega arith; same = omega arith } in
            ranked.acknowledgements d u g.0 j i fed pair g.2 left
      ] in (
        v,
        end_within cells d u fed,
        omega (arith, t.1, t.2),
        next_lower cells labels rank ranked v m j
            (rank c i) t.1 t.2 low,
      )

pub waits_for_lower_rank : FollowsMembers → DisabledCellsWait → WaitsForLowerRank
waits_for_lower_rank follow wait cells inputs n labels rank choices w fits meet ranked few none c within left =
    let s = after cells inputs choices in
    let b : Between cells inputs n labels choices =
    record { w = w; meet = meet; follows = follow cells inputs n labels choices w fits meet few; none = none } in
    elim (cases_Bool (is_enabled cells s c)) [
      | inl yes' ↦ inl yes'
      | inr no' ↦ elim (wait cells inputs choices c w none
          (λ m most. let e = (meet c).counts m most in omega arith) no') [
            | inl awaits ↦ inr (from_awaiting cells inputs n labels choices rank b ranked c left awaits)
            | inr lacks ↦ inr (from_missing cells inputs n labels choices rank b ranked c left lacks)
          ]
    ]
