-- The labels of the countdown meet its cells, for every number of firings.
use Rattle.std.proofs.Common.{◌≡◌, ℕ, zero, suc, ◌+◌, ◌<◌, ◌≤◌, ◌&&◌, Bool, true, false, List, [], ◌∷◌, length, map}
use Rattle.std.proofs.Common.{Option, Some, None, get_or, refl, ◌∙◌, ap, subst, arith}
use Rattle.std.specs.Prelude.{is_some, slice_get, take}
use Rattle.std.specs.List.{AllByRecursion}
use Rattle.std.proofs.lemmas.Option.{same_Some}
use Rattle.df_values.specs.declared.values.Value.{Value}
use Rattle.df_values.specs.declared.values.Value.TheVariants.{Truth}
use Rattle.df_values.specs.Values.{least, greatest}
use Rattle.df_values.specs.Tables as tables
use Rattle.df_cells.specs.declared.cells.Cell.{Cell}
use Rattle.df_cells.specs.declared.cells.CellId.{CellId}
use Rattle.df_cells.specs.Kinds.{limit}
use Rattle.df_cells.specs.Firings.{answer, wants, with_constants}
use Rattle.df_cells.specs.Cells.{cell_at, cell_from, port_of, producer_of, loaded_at}
use Rattle.df_cells.specs.Shifts.{origin, gate_part, merge_part}
use Rattle.df_labels.specs.Histories.{answer_at}
use Rattle.df_labels.specs.Labels.{AreRising, source_values}
use Rattle.df_labels.specs.Members.{Member, Firing, Labels, MeetsAt, IsWanted, IsOver, IsSure, as_member, values}
use Rattle.df_labels.specs.Members.{firing_at, answered, received, members, block_turns, coming, in_order_from}
use Rattle.df_members.specs.Countdown.{countdown, two, number, known, in_turn, goes_on, of_one, gate, turned, CountdownMeets}

-- ---- what holds of the arcs, or of the cells, holds of each

no_arc : {A : Type 0} (u : CellId) → None ≡ Some u → A
no_arc u none = absurd (cc)

the_arc : (P : ℕ → Type 0) (u : CellId) (v : ℕ) → Some (record { 0 = v }) ≡ Some u → P v → P u.0
the_arc P u v is here = subst P (ap (λ (w : CellId). w.0) (same_Some _ u is)) here

record OfArcs (P : ℕ → ℕ → ℕ → Type 0) : Type 0 where
  control : P 1 0 2
  back : P 1 1 4
  begin : P 1 2 0
  test : P 2 0 1
  less : P 3 0 1
  goes : P 4 0 2
  next : P 4 1 3
  ends : P 5 0 2
  last : P 5 1 1
  out : P 6 0 5

of_arcs : {P : ℕ → ℕ → ℕ → Type 0} → P 1 0 2 → P 1 1 4 → P 1 2 0 → P 2 0 1 → P 3 0 1 → P 4 0 2 → P 4 1 3 → P 5 0 2
    → P 5 1 1 → P 6 0 5 → OfArcs P
of_arcs a b c d e f g h i j = record {
  control = a;
  back = b;
  begin = c;
  test = d;
  less = e;
  goes = f;
  next = g;
  ends = h;
  last = i;
  out = j;
}

each_arc : (P : ℕ → ℕ → ℕ → Type 0) → OfArcs P → (c p : ℕ) (u : CellId)
    → producer_of countdown (port_of c p) ≡ Some u → P c p u.0
each_arc P a zero p u fed = no_arc u fed
each_arc P a (suc zero) zero u fed = the_arc (P 1 0) u 2 fed a.control
each_arc P a (suc zero) (suc zero) u fed = the_arc (P 1 1) u 4 fed a.back
each_arc P a (suc zero) (suc (suc zero)) u fed = the_arc (P 1 2) u 0 fed a.begin
each_arc P a (suc zero) (suc (suc (suc p))) u fed = no_arc u fed
each_arc P a (suc (suc zero)) zero u fed = the_arc (P 2 0) u 1 fed a.test
each_arc P a (suc (suc zero)) (suc zero) u fed = no_arc u fed
each_arc P a (suc (suc zero)) (suc (suc p)) u fed = no_arc u fed
each_arc P a (suc (suc (suc zero))) zero u fed = the_arc (P 3 0) u 1 fed a.less
each_arc P a (suc (suc (suc zero))) (suc zero) u fed = no_arc u fed
each_arc P a (suc (suc (suc zero))) (suc (suc p)) u fed = no_arc u fed
each_arc P a (suc (suc (suc (suc zero)))) zero u fed = the_arc (P 4 0) u 2 fed a.goes
each_arc P a (suc (suc (suc (suc zero)))) (suc zero) u fed = the_arc (P 4 1) u 3 fed a.next
each_arc P a (suc (suc (suc (suc zero)))) (suc (suc p)) u fed = no_arc u fed
each_arc P a (suc (suc (suc (suc (suc zero))))) zero u fed = the_arc (P 5 0) u 2 fed a.ends
each_arc P a (suc (suc (suc (suc (suc zero))))) (suc zero) u fed = the_arc (P 5 1) u 1 fed a.last
each_arc P a (suc (suc (suc (suc (suc zero))))) (suc (suc p)) u fed = no_arc u fed
each_arc P a (suc (suc (suc (suc (suc (suc zero)))))) zero u fed = the_arc (P 6 0) u 5 fed a.out
each_arc P a (suc (suc (suc (suc (suc (suc zero)))))) (suc p) u fed = no_arc u fed
each_arc P a (suc (suc (suc (suc (suc (suc (suc c))))))) p u fed = no_arc u fed

record OfCells (P : ℕ → Type 0) : Type 0 where
  source : P 0
  entry : P 1
  test : P 2
  less : P 3
  goes : P 4
  ends : P 5
  out : P 6
  past : (c : ℕ) → P (suc (suc (suc (suc (suc (suc (suc c)))))))

of_cells : {P : ℕ → Type 0} → P 0 → P 1 → P 2 → P 3 → P 4 → P 5 → P 6
    → ((c : ℕ) → P (suc (suc (suc (suc (suc (suc (suc c)))))))) → OfCells P
of_cells a b c d e f g h = record {
  source = a;
  entry = b;
  test = c;
  less = d;
  goes = e;
  ends = f;
  out = g;
  past = h;
}

each_cell : (P : ℕ → Type 0) → OfCells P → (c : ℕ) → P c
each_cell P a zero = a.source
each_cell P a (suc zero) = a.entry
each_cell P a (suc (suc zero)) = a.test
each_cell P a (suc (suc (suc zero))) = a.less
each_cell P a (suc (suc (suc (suc zero)))) = a.goes
each_cell P a (suc (suc (suc (suc (suc zero))))) = a.ends
each_cell P a (suc (suc (suc (suc (suc (suc zero)))))) = a.out
each_cell P a (suc (suc (suc (suc (suc (suc (suc c))))))) = a.past c

-- ---- what each firing wants

-- at the port p
abbrev Wants : Cell → Firing → ℕ → Type 0
Wants cell f p = is_some (get_or f.taken p None)
    ≡ (is_some (cell_from (slice_get cell.ports p)) && wants cell.kind (with_constants cell (values f.taken)) p)

wanted_of : (cell : Cell) (f : Firing) → length f.taken ≡ 3 → Wants cell f 0 → Wants cell f 1 → Wants cell f 2
    → ((p : ℕ) → Wants cell f (suc (suc (suc p)))) → IsWanted cell f
wanted_of cell f ports first second third past = record { ports = ports; takes = each }
  where
    each : (p : ℕ) → Wants cell f p
    each zero = first
    each (suc zero) = second
    each (suc (suc zero)) = third
    each (suc (suc (suc p))) = past p

source_wants : AllByRecursion (IsWanted (cell_at countdown 0)) (turned 0 None 0)
source_wants = (wanted_of _ _ refl refl refl refl (λ p. refl), tt)

first_wants : IsWanted (cell_at countdown 1)
    (in_turn 0 (known (Truth false) ∷ None ∷ known (number 2) ∷ []) (known (number 2)))
first_wants = wanted_of _ _ refl refl refl refl (λ p. refl)

entry_wants : (r : ℕ) (v : Value) → IsWanted (cell_at countdown 1) (goes_on r v)
entry_wants r v = wanted_of _ _ refl refl refl refl (λ p. refl)

test_wants : (r : ℕ) (v w : Value) → IsWanted (cell_at countdown 2) (of_one r v w)
test_wants r v w = wanted_of _ _ refl refl refl refl (λ p. refl)

less_wants : (r : ℕ) (v w : Value) → IsWanted (cell_at countdown 3) (of_one r v w)
less_wants r v w = wanted_of _ _ refl refl refl refl (λ p. refl)

goes_wants : (r : ℕ) (b : Bool) (v : Value) (a : Option Member) → IsWanted (cell_at countdown 4) (gate r b v a)
goes_wants r b v a = wanted_of _ _ refl refl refl refl (λ p. refl)

ends_wants : (r : ℕ) (b : Bool) (v : Value) (a : Option Member) → IsWanted (cell_at countdown 5) (gate r b v a)
ends_wants r b v a = wanted_of _ _ refl refl refl refl (λ p. refl)

out_wants : (m : Member) → AllByRecursion (IsWanted (cell_at countdown 6)) (turned 0 m 6)
out_wants m = (wanted_of _ _ refl refl refl refl (λ p. refl), tt)

-- ---- what answers rightly

-- these firings of a cell, of which the first is number i, answer as the kind does
abbrev AllRight : ℕ → ℕ → List Firing → Type 0
AllRight c i [] = Unit {0}
AllRight c i (f ∷ label) =
    (f.answer ≡ as_member (answer_at countdown two i c (values f.taken))) × AllRight c (suc i) label

right_at : (c i k : ℕ) (label : List Firing) → AllRight c i label → k < length label
    → (firing_at label k).answer ≡ as_member (answer_at countdown two (i + k) c (values (firing_at label k).taken))
right_at c i k [] all within = absurd (omega (arith, within))
right_at c i zero (f ∷ label) all within =
    subst (λ m. f.answer ≡ as_member (answer_at countdown two m c (values f.taken))) (omega arith) all.0
right_at c i (suc k) (f ∷ label) all within =
    subst (λ m. (firing_at label k).answer
    ≡ as_member (answer_at countdown two m c (values (firing_at label k).taken))) (omega arith)
    (right_at c (suc i) k label all.1 (omega (arith, within)))

-- ---- labels without regard to the number of firings

record AreWhole (labels : Labels) : Type 0 where
  source : labels 0 ≡ in_order_from 0 (number 2 ∷ [])
  rising : OfCells (λ c. AreRising (map (λ (f : Firing). f.turn) (labels c)))
  arcs : OfArcs (λ c p u.
      members (received p (labels c)) ≡ take (length (answered (labels u))) (coming countdown labels (port_of c p) u))
  shifts : OfArcs (λ c p u. loaded_at countdown (port_of c p) ≡ None
      → map (λ t. t + gate_part countdown u) (block_turns (received p (labels c)))
      ≡ map (λ t. t + merge_part countdown (port_of c p)) (block_turns (answered (labels u))))
  wanted : OfCells (λ c. AllByRecursion (IsWanted (cell_at countdown c)) (labels c))
  steady : AllByRecursion (λ (f : Firing). is_some f.answer ≡ true) (labels 2)
  counts : OfCells (λ c. (m : ℕ) → limit (cell_at countdown c).kind ≡ Some m → length (labels c) ≡ m)

no_length : {A : Type 0} (m : ℕ) → None ≡ Some m → A
no_length m none = absurd (cc)

is_loaded : {A : Type 0} → Some (Truth false) ≡ None → A
is_loaded none = absurd (cc)

-- a whole label of the countdown, with what n asks
meets : (n : ℕ) (labels : Labels) → AreWhole labels
    → ((c i : ℕ) → i < n → i < length (labels c) → IsSure (firing_at (labels c) i)
    → (firing_at (labels c) i).answer ≡ as_member (answer_at countdown two i c (values (firing_at (labels c) i).taken)))
    → OfCells (λ c. c < 7 → length (labels c) < n → limit (cell_at countdown c).kind ≡ None
    → IsOver countdown labels c)
    → (c : ℕ) → MeetsAt countdown two n labels c
meets n labels whole right over c = record {
  source = source c;
  rising = each_cell _ whole.rising c;
  arcs = each_arc _ whole.arcs c;
  shifts = each_arc _ whole.shifts c;
  wanted = each_cell _ whole.wanted c;
  right = right c;
  over = each_cell _ over c;
  steady = λ d fed some. each_arc
      (λ e p u. is_some (loaded_at countdown (port_of e p)) ≡ true
      → AllByRecursion (λ (f : Firing). is_some f.answer ≡ true) (labels u))
      only_test d.cell.0 d.port.0 (record { 0 = c }) fed some;
  counts = each_cell _ whole.counts c;
}
  where
    no_source : {A : Type 0} (vs : List Value) → None ≡ Some vs → A
    no_source vs none = absurd (cc)

    source : (c : ℕ) (vs : List Value) → source_values countdown two c ≡ Some vs → labels c ≡ in_order_from 0 vs
    source = each_cell (λ c. (vs : List Value) → source_values countdown two c ≡ Some vs → labels c ≡ in_order_from 0 vs)
        (of_cells (λ vs is. whole.source ∙ ap (in_order_from 0) (same_Some _ vs is)) (λ vs e. no_source vs e) (λ vs e. no_source vs e)
        (λ vs e. no_source vs e) (λ vs e. no_source vs e) (λ vs e. no_source vs e) (λ vs e. no_source vs e)
        (λ c vs e. no_source vs e))

    no_load : {A : Type 0} → false ≡ true → A
    no_load e = absurd (cc)

    only_test : OfArcs (λ e p u. is_some (loaded_at countdown (port_of e p)) ≡ true
        → AllByRecursion (λ (f : Firing). is_some f.answer ≡ true) (labels u))
    only_test = of_arcs (λ some. whole.steady) (λ e. no_load e) (λ e. no_load e) (λ e. no_load e) (λ e. no_load e)
        (λ e. no_load e) (λ e. no_load e) (λ e. no_load e) (λ e. no_load e) (λ e. no_load e)

counted : (made : ℕ) (result : Member) → OfCells (λ c. (m : ℕ) → limit (cell_at countdown c).kind ≡ Some m
    → length (turned made result c) ≡ m)
counted made result = of_cells (λ m is. same_Some 1 m is) (λ m e. no_length m e) (λ m e. no_length m e)
    (λ m e. no_length m e) (λ m e. no_length m e) (λ m e. no_length m e) (λ m is. same_Some 1 m is)
    (λ c m e. no_length m e)

-- ---- the loop is given out at once

whole_none : AreWhole (turned 0 None)
unfolding gate_part merge_part origin
whole_none = record {
  source = refl;
  rising = of_cells (tt, tt) (tt, tt) (tt, tt) (tt, tt) (tt, tt) (tt, tt) (tt, tt) (λ c. tt);
  arcs = of_arcs refl refl refl refl refl refl refl refl refl refl;
  shifts = of_arcs (λ e. is_loaded e) (λ e. refl) (λ e. refl) (λ e. refl) (λ e. refl) (λ e. refl) (λ e. refl) (λ e. refl)
      (λ e. refl) (λ e. refl);
  wanted = of_cells source_wants (first_wants, tt) (test_wants _ _ _, tt) (less_wants _ _ _, tt)
      (goes_wants _ _ _ _, tt) (ends_wants _ _ _ _, tt) (out_wants None) (λ c. tt);
  steady = (refl, tt);
  counts = counted 0 None;
}

-- ---- it is given out after one turn

whole_one : AreWhole (turned 1 None)
unfolding gate_part merge_part origin
whole_one = record {
  source = refl;
  rising = of_cells (tt, tt) ((refl, tt), (tt, tt)) ((refl, tt), (tt, tt)) ((refl, tt), (tt, tt)) ((refl, tt), (tt, tt))
      ((refl, tt), (tt, tt)) (tt, tt) (λ c. tt);
  arcs = of_arcs refl refl refl refl refl refl refl refl refl refl;
  shifts = of_arcs (λ e. is_loaded e) (λ e. refl) (λ e. refl) (λ e. refl) (λ e. refl) (λ e. refl) (λ e. refl) (λ e. refl)
      (λ e. refl) (λ e. refl);
  wanted = of_cells source_wants (first_wants, (entry_wants _ _, tt)) (test_wants _ _ _, (test_wants _ _ _, tt))
      (less_wants _ _ _, (less_wants _ _ _, tt)) (goes_wants _ _ _ _, (goes_wants _ _ _ _, tt))
      (ends_wants _ _ _ _, (ends_wants _ _ _ _, tt)) (out_wants None) (λ c. tt);
  steady = (refl, (refl, tt));
  counts = counted 1 None;
}

-- the first firing of each cell answers as its kind does
first_right : OfCells (λ c. 0 < length (turned 1 None c)
    → (firing_at (turned 1 None c) 0).answer
    ≡ as_member (answer_at countdown two 0 c (values (firing_at (turned 1 None c) 0).taken)))
unfolding answer tables.answer least greatest tables.comparison
first_right = of_cells (λ h. refl) (λ h. refl) (λ h. refl) (λ h. refl) (λ h. refl) (λ h. refl) (λ h. refl)
    (λ c h. absurd (omega (arith, h)))

-- ---- it is over after two

whole_two : AreWhole (turned 2 (Some (number 0)))
unfolding gate_part merge_part origin
whole_two = record {
  source = refl;
  rising = of_cells (tt, tt) rising_three rising_three rising_three rising_three rising_three (tt, tt) (λ c. tt);
  arcs = of_arcs refl refl refl refl refl refl refl refl refl refl;
  shifts = of_arcs (λ e. is_loaded e) (λ e. refl) (λ e. refl) (λ e. refl) (λ e. refl) (λ e. refl) (λ e. refl) (λ e. refl)
      (λ e. refl) (λ e. refl);
  wanted = of_cells source_wants (first_wants, (entry_wants _ _, (entry_wants _ _, tt)))
      (test_wants _ _ _, (test_wants _ _ _, (test_wants _ _ _, tt)))
      (less_wants _ _ _, (less_wants _ _ _, (less_wants _ _ _, tt)))
      (goes_wants _ _ _ _, (goes_wants _ _ _ _, (goes_wants _ _ _ _, tt)))
      (ends_wants _ _ _ _, (ends_wants _ _ _ _, (ends_wants _ _ _ _, tt))) (out_wants (Some (number 0))) (λ c. tt);
  steady = (refl, (refl, (refl, tt)));
  counts = counted 2 (Some (number 0));
}
  where
    rising_three : AreRising ((0 ∷ 0 ∷ []) ∷ (0 ∷ 1 ∷ []) ∷ (0 ∷ 2 ∷ []) ∷ [])
    rising_three = ((refl, (refl, tt)), ((refl, tt), (tt, tt)))

-- all firings answer as the kinds do
all_right : OfCells (λ c. AllRight c 0 (turned 2 (Some (number 0)) c))
unfolding answer tables.answer least greatest tables.comparison
all_right = of_cells (refl, tt) (refl, (refl, (refl, tt))) (refl, (refl, (refl, tt))) (refl, (refl, (refl, tt)))
    (refl, (refl, (refl, tt))) (refl, (refl, (refl, tt))) (refl, tt) (λ c. tt)

-- and on what is left none can fire once more
all_over : (n : ℕ) → OfCells (λ c. c < 7 → length (turned 2 (Some (number 0)) c) < n
    → limit (cell_at countdown c).kind ≡ None → IsOver countdown (turned 2 (Some (number 0))) c)
all_over n = of_cells (λ w few none. no_limit none)
    (λ w few none. record { port = 2; from = record { 0 = 0 }; fed = refl; wanted = refl; missing = refl })
    (λ w few none. record { port = 0; from = record { 0 = 1 }; fed = refl; wanted = refl; missing = refl })
    (λ w few none. record { port = 0; from = record { 0 = 1 }; fed = refl; wanted = refl; missing = refl })
    (λ w few none. record { port = 0; from = record { 0 = 2 }; fed = refl; wanted = refl; missing = refl })
    (λ w few none. record { port = 0; from = record { 0 = 2 }; fed = refl; wanted = refl; missing = refl })
    (λ w few none. no_limit none) (λ c w few none. absurd (omega (arith, w)))
  where
    no_limit : {A : Type 0} → Some (suc zero) ≡ None → A
    no_limit none = absurd (cc)

-- ---- for each number of firings

none_over : (n : ℕ) (labels : Labels) → OfCells (λ c. c < 7 → n ≤ length (labels c))
    → OfCells (λ c. c < 7 → length (labels c) < n → limit (cell_at countdown c).kind ≡ None → IsOver countdown labels c)
none_over n labels all = of_cells (λ w few none. absurd (let a = all.source w in omega (arith, few, a)))
    (λ w few none. absurd (let a = all.entry w in omega (arith, few, a)))
    (λ w few none. absurd (let a = all.test w in omega (arith, few, a)))
    (λ w few none. absurd (let a = all.less w in omega (arith, few, a)))
    (λ w few none. absurd (let a = all.goes w in omega (arith, few, a)))
    (λ w few none. absurd (let a = all.ends w in omega (arith, few, a)))
    (λ w few none. absurd (let a = all.out w in omega (arith, few, a))) (λ c w few none. absurd (omega (arith, w)))

pub countdown_meets : CountdownMeets
countdown_meets zero = meets 0 (turned 0 None) whole_none (λ c i few. absurd (omega (arith, few)))
    (none_over 0 (turned 0 None) (of_cells (λ w. omega arith) (λ w. omega arith) (λ w. omega arith)
    (λ w. omega arith) (λ w. omega arith) (λ w. omega arith) (λ w. omega arith) (λ c w. omega arith)))
countdown_meets (suc zero) = meets 1 (turned 1 None) whole_one right
    (none_over 1 (turned 1 None) (of_cells (λ w. omega arith) (λ w. omega arith) (λ w. omega arith)
    (λ w. omega arith) (λ w. omega arith) (λ w. omega arith) (λ w. omega arith) (λ c w. absurd (omega (arith, w)))))
  where
    right : (c i : ℕ) → i < 1 → i < length (turned 1 None c) → IsSure (firing_at (turned 1 None c) i)
        → (firing_at (turned 1 None c) i).answer
        ≡ as_member (answer_at countdown two i c (values (firing_at (turned 1 None c) i).taken))
    right c zero few within sure = each_cell _ first_right c within
    right c (suc i) few within sure = absurd (omega (arith, few))
countdown_meets (suc (suc n)) = meets (suc (suc n)) (turned 2 (Some (number 0))) whole_two
    (λ c i few within sure. right c i within) (all_over (suc (suc n)))
  where
    right : (c i : ℕ) → i < length (turned 2 (Some (number 0)) c) → (firing_at (turned 2 (Some (number 0)) c) i).answer
        ≡ as_member (answer_at countdown two i c (values (firing_at (turned 2 (Some (number 0)) c) i).taken))
    right c i within =
        let from_zero : 0 + i ≡ i = omega arith in
        let label = turned 2 (Some (number 0)) c in
        subst (λ j. (firing_at label i).answer ≡ as_member (answer_at countdown two j c (values (firing_at label i).taken)))
        from_zero (right_at c 0 i label (each_cell _ all_right c) within)
