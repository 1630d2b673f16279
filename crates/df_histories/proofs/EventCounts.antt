-- How many events led to a state can be told from the state and what was taken.
use Rattle.std.proofs.Common.{◌≡◌, ℕ, zero, suc, ◌+◌, ◌-◌, ◌*◌, ◌%◌, ◌<◌, ◌≤◌, Bool, true, false, cond, ◌==◌, List, [], ◌∷◌, ◌++◌, get_or, set, length, Option, Some, None, refl, sym, ◌∙◌, ap, subst, inl, inr, arith, length-append, append-nil}
use Rattle.std.specs.Prelude.{slice_get, is_some, replicate}
use Rattle.std.specs.List.{sum_by, remove}
use Rattle.std.proofs.lemmas.List.{nil_from_length}
use Rattle.std.proofs.lemmas.List.Sums.{sum_by-cons, sum_by-append, sum_by_push, sum_by-set, sum_by-remove}
use Rattle.std.proofs.lemmas.Option.{slice_get_within, get_or_from_slice_get, slice_get-get_or}
use Rattle.std.proofs.lemmas.Bool.{cases_lt, cases_eq, eq-eqb, ne_eqb}
use Rattle.df_values.specs.declared.values.Value.{Value}
use Rattle.df_cells.specs.declared.cells.Cell.{Cell}
use Rattle.df_cells.specs.declared.cells.Dest.{Dest}
use Rattle.df_machine.specs.declared.packets.Packet.{Packet}
use Rattle.df_machine.specs.declared.packets.Packet.TheVariants.{Operation, Operand, Acknowledgement}
use Rattle.df_cells.specs.Firings.{Operands, takes}
use Rattle.df_cells.specs.Cells.{cell_at}
use Rattle.df_machine.specs.CanRun.{CanRun}
use Rattle.df_machine.specs.States.{State, start, row, place, firings}
use Rattle.df_machine.specs.Events.{is_enabled, enabled, possible, taken, left, fire, perform, arrive, acknowledge, answers, answer_now, acknowledgement, acknowledgements, state_from, next, chosen}
use Rattle.df_machine.specs.Runs.{run, after, events_from, events}
use Rattle.df_machine.specs.Sound.{bit, Sound}
use Rattle.df_labels.specs.Histories.{Histories, Comparable}
use Rattle.df_histories.specs.Traces.{noted, histories_from, histories}
use Rattle.df_machine.proofs.Counts.{same_port-refl}
use Rattle.df_machine.proofs.Formed.{ports-le}
use Rattle.df_machine.proofs.Performs.{without}
use Rattle.df_machine.proofs.Arrives.{on_arc, fed_within, no_clash}
use Rattle.df_machine.proofs.SoundRuns.{enabled_at, sound_chosen, sound_start}
use Rattle.df_histories.proofs.Determinate.{fires_at, traced_after, histories_agree}

-- ---- what counts

-- the operands among these
abbrev ops : Operands → ℕ
ops x = bit (is_some (get_or x 0 None)) + (bit (is_some (get_or x 1 None)) + bit (is_some (get_or x 2 None)))

-- what is still to come of a packet: the end of a firing, and an acknowledgement
abbrev weight : Packet → ℕ
weight (Operation c x) = 1 + ops x
weight (Operand d v) = 0
weight (Acknowledgement d) = 1

abbrev waiting : State → ℕ
waiting s = sum_by weight s.packets

abbrev lying : State → ℕ
lying s = sum_by ops s.places

abbrev begun : State → ℕ
begun s = sum_by (λ (n : ℕ). n) s.fired

-- all operands that the first n cells took
abbrev taken_by : Histories → ℕ → ℕ
taken_by h zero = 0
taken_by h (suc n) = sum_by ops (h n) + taken_by h n

-- Each firing begins and ends, and each operand that was taken came and is acknowledged.
record IsCounted (cells : List Cell) (s : State) (h : Histories) (first count : ℕ) : Type 0 where
  all : (count + first) + waiting s ≡ 2 * begun s + (2 * taken_by h (length cells) + lying s)

-- ---- a firing begins

split : (t : Bool) (x : Option Value) → bit (is_some (cond t None x)) + bit (is_some (cond t x None)) ≡ bit (is_some x)
split true x = omega arith
split false None = refl
split false (Some v) = refl

ops_split : (cell : Cell) (x : Operands) → ops (left cell x) + ops (taken cell x) ≡ ops x
ops_split cell x =
    let a = split (takes cell x 0) (get_or x 0 None) in let b = split (takes cell x 1) (get_or x 1 None) in let c = split (takes cell x 2) (get_or x 2 None) in omega arith

noted_same : (h : Histories) (x : Operands) (c n : ℕ) → n ≤ c → taken_by (λ j. cond (j == c) (h j ++ x ∷ []) (h j)) n ≡ taken_by h n
noted_same h x c zero le = refl
noted_same h x c (suc n) le =
    let rest = noted_same h x c n (omega arith) in
    let here = ap (λ b. sum_by ops (cond b (h n ++ x ∷ []) (h n))) (ne_eqb n c (λ e. omega arith)) in omega arith

noted_more : (h : Histories) (x : Operands) (c n : ℕ) → c < n → taken_by (λ j. cond (j == c) (h j ++ x ∷ []) (h j)) n ≡ taken_by h n + ops x
noted_more h x c zero below = absurd (omega arith)
noted_more h x c (suc n) below = elim (cases_eq n c) [
  | inl same ↦
      let rest = noted_same h x c n (omega arith) in
      let here = ap (λ b. sum_by ops (cond b (h n ++ x ∷ []) (h n))) (eq-eqb n c same) in
      let push = sum_by_push ops (h n) x in omega arith
  | inr other ↦
      let rest = noted_more h x c n (omega arith) in
      let here = ap (λ b. sum_by ops (cond b (h n ++ x ∷ []) (h n))) (ne_eqb n c other) in omega arith
]

counted_fire : (cells : List Cell) (s : State) (h : Histories) (first count c : ℕ) → Sound cells s → c < length cells → IsCounted cells s h first count
    → IsCounted cells (fire cells s c) (noted cells s (Some c) h) first (count + 1)
unfolding fire
counted_fire cells s h first count c sound within counted =
    let cell = cell_at cells c in
    let fired = sum_by-set (λ (n : ℕ). n) s.fired c (firings s c + 1) 0 (omega (arith, sound.fired)) in
    let places = sum_by-set ops s.places c (left cell (row s c)) [] (omega (arith, sound.places)) in
    let halves = ops_split cell (row s c) in
    let packets = sum_by_push weight s.packets (Operation (record { 0 = c }) (taken cell (row s c))) in
    let more = noted_more h (taken cell (row s c)) c (length cells) within in
    let old = counted.all in
    record { all = omega arith }

-- ---- a packet arrives

gone : (s : State) (i : ℕ) (packet : Packet) → slice_get s.packets i ≡ Some packet → waiting (without s i) + weight packet ≡ waiting s
gone s i packet at =
    ap (λ p. waiting (without s i) + weight p) (sym (get_or_from_slice_get s.packets i packet packet at)) ∙ sum_by-remove weight s.packets i packet (slice_get_within s.packets i packet at)

operands_wait : (v : Value) (dests : List Dest) → sum_by weight (answers (Some v) dests) ≡ 0
operands_wait v [] = refl
operands_wait v (d ∷ dests) = let rest = operands_wait v dests in let l = sum_by-cons weight (Operand d v) (answers (Some v) dests) in omega arith

answers_wait : (a : Option Value) (dests : List Dest) → sum_by weight (answers a dests) ≡ 0
answers_wait None dests = refl
answers_wait (Some v) dests = operands_wait v dests

one_waits : (c p : ℕ) (o : Option Value) → sum_by weight (acknowledgement c p o) ≡ bit (is_some o)
one_waits c p None = refl
one_waits c p (Some v) = refl

acknowledgements_wait : (c : ℕ) (x : Operands) → sum_by weight (acknowledgements c x) ≡ ops x
acknowledgements_wait c x =
    let a0 = acknowledgement c 0 (get_or x 0 None) in let a1 = acknowledgement c 1 (get_or x 1 None) in let a2 = acknowledgement c 2 (get_or x 2 None) in
    let s1 = sum_by-append weight a0 (a1 ++ a2) in let s2 = sum_by-append weight a1 a2 in
    let w0 = one_waits c 0 (get_or x 0 None) in let w1 = one_waits c 1 (get_or x 1 None) in let w2 = one_waits c 2 (get_or x 2 None) in
    omega arith

counted_perform : (cells : List Cell) (inputs : List (List Value)) (s : State) (h : Histories) (first count i c : ℕ) (x : Operands) → slice_get s.packets i ≡ Some (Operation (record { 0 = c }) x)
    → IsCounted cells s h first count → IsCounted cells (perform cells inputs (without s i) c x) h first (count + 1)
unfolding perform
counted_perform cells inputs s h first count i c x at counted =
    let sent = answers (answer_now cells inputs (without s i) c x) (cell_at cells c).dests in
    let less = gone s i (Operation (record { 0 = c }) x) at in
    let joined = sum_by-append weight (remove s.packets i) (sent ++ acknowledgements c x) in
    let both = sum_by-append weight sent (acknowledgements c x) in
    let none = answers_wait (answer_now cells inputs (without s i) c x) (cell_at cells c).dests in
    let acks = acknowledgements_wait c x in
    let old = counted.all in
    record { all = omega arith }

ops_set : (r : Operands) (p : ℕ) (v : Value) → length r ≡ 3 → p < 3 → get_or r p None ≡ None → ops (set r p (Some v)) ≡ ops r + 1
ops_set [] p v len within none = absurd (omega arith)
ops_set (a ∷ []) p v len within none = absurd (omega arith)
ops_set (a ∷ b ∷ []) p v len within none = absurd (omega arith)
ops_set (a ∷ b ∷ c ∷ more) zero v len within none = let z = ap (λ (o : Option Value). bit (is_some o)) none in omega arith
ops_set (a ∷ b ∷ c ∷ more) (suc zero) v len within none = let z = ap (λ (o : Option Value). bit (is_some o)) none in omega arith
ops_set (a ∷ b ∷ c ∷ more) (suc (suc zero)) v len within none = let z = ap (λ (o : Option Value). bit (is_some o)) none in omega arith
ops_set (a ∷ b ∷ c ∷ more) (suc (suc (suc p))) v len within none = absurd (omega arith)

counted_arrive : (cells : List Cell) (s : State) (h : Histories) (first count i : ℕ) (d : Dest) (v : Value) → CanRun cells → Sound cells s → slice_get s.packets i ≡ Some (Operand d v)
    → IsCounted cells s h first count → IsCounted cells (arrive (without s i) d v) h first (count + 1)
unfolding arrive
counted_arrive cells s h first count i d v w sound at counted =
    let here = on_arc cells s i (Operand d v) d sound at (same_port-refl d) in
    let fed = fed_within cells d here.1.0 here.1.1 in
    let few = ports-le cells w d.cell.0 in
    let port = fed.1 in
    let empty : place s d ≡ None = no_clash cells s i d v sound at in
    let places = sum_by-set ops s.places d.cell.0 (set (row s d.cell.0) d.port.0 (Some v)) [] (omega (arith, sound.places, fed.0)) in
    let one = ops_set (row s d.cell.0) d.port.0 v (sound.rows d.cell.0 fed.0) (omega arith) empty in
    let less = gone s i (Operand d v) at in
    let old = counted.all in
    record { all = omega arith }

counted_acknowledge : (cells : List Cell) (s : State) (h : Histories) (first count i : ℕ) (d : Dest) → slice_get s.packets i ≡ Some (Acknowledgement d)
    → IsCounted cells s h first count → IsCounted cells (acknowledge cells (without s i) d) h first (count + 1)
unfolding acknowledge
counted_acknowledge cells s h first count i d at counted =
    let less = gone s i (Acknowledgement d) at in
    let old = counted.all in
    record { all = omega arith }

-- ---- an event

abbrev one_of : Option ℕ → Option Packet → ℕ
one_of (Some c) packet = 1
one_of None (Some packet) = 1
one_of None None = 0

counted_from : (cells : List Cell) (inputs : List (List Value)) (s : State) (h : Histories) (first count i : ℕ) (fires : Option ℕ) (packet : Option Packet) → CanRun cells → Sound cells s
    → ((c : ℕ) → fires ≡ Some c → (c < length cells) × (is_enabled cells s c ≡ true)) → slice_get s.packets i ≡ packet → IsCounted cells s h first count
    → IsCounted cells (state_from cells inputs s i fires packet) (noted cells s fires h) first (count + one_of fires packet)
counted_from cells inputs s h first count i (Some c) packet w sound ready at counted = counted_fire cells s h first count c sound (ready c refl).0 counted
counted_from cells inputs s h first count i None (Some (Operation c x)) w sound ready at counted = counted_perform cells inputs s h first count i c.0 x at counted
counted_from cells inputs s h first count i None (Some (Operand d v)) w sound ready at counted = counted_arrive cells s h first count i d v w sound at counted
counted_from cells inputs s h first count i None (Some (Acknowledgement d)) w sound ready at counted = counted_acknowledge cells s h first count i d at counted
counted_from cells inputs s h first count i None None w sound ready at counted = let old = counted.all in record { all = omega arith }

abbrev no_event : Bool → ℕ
no_event none = cond none 0 1

some_one : (xs : List ℕ) (ps : List Packet) (m : ℕ) → m < length xs + length ps → one_of (slice_get xs m) (slice_get ps (m - length xs)) ≡ 1
some_one xs ps m within = elim (cases_lt m (length xs)) [
  | inl less ↦ ap (λ o. one_of o (slice_get ps (m - length xs))) (slice_get-get_or xs m 0 less)
  | inr past ↦ by_case (slice_get xs m) (slice_get ps (m - length xs)) (there past)
]
  where
    by_case : (o : Option ℕ) (p : Option Packet) → is_some p ≡ true → one_of o p ≡ 1
    by_case (Some c) p h = refl
    by_case None (Some q) h = refl
    by_case None None h = cc

    there : length xs ≤ m → is_some (slice_get ps (m - length xs)) ≡ true
    there past = ap (λ (o : Option Packet). is_some o) (slice_get-get_or ps (m - length xs) (Acknowledgement (record { cell = record { 0 = 0 }; port = record { 0 = 0 } })) (omega arith))

one_event : (cells : List Cell) (s : State) (k : ℕ)
    → one_of (slice_get (enabled cells s) (k % possible cells s)) (slice_get s.packets (k % possible cells s - length (enabled cells s))) ≡ no_event (possible cells s == 0)
unfolding possible
one_event cells s k =
    let n = length (enabled cells s) in
    let m = k % (n + length s.packets) in
    elim (cases_eq (n + length s.packets) 0) [
      | inl none ↦
          let e = nil_from_length (enabled cells s) (omega arith) in
          let g = nil_from_length s.packets (omega arith) in
          ap (λ l. one_of (slice_get l m) (slice_get s.packets (m - n))) e ∙ ap (λ l. one_of None (slice_get l (m - n))) g ∙ sym (ap no_event (eq-eqb (n + length s.packets) 0 none))
      | inr some ↦
          let within : m < n + length s.packets = omega arith in
          some_one (enabled cells s) s.packets m within ∙ sym (ap no_event (ne_eqb (n + length s.packets) 0 some))
    ]

counted_chosen : (cells : List Cell) (inputs : List (List Value)) (s : State) (h : Histories) (first count k : ℕ) → CanRun cells → Sound cells s → IsCounted cells s h first count
    → IsCounted cells (chosen cells inputs s k) (noted cells s (fires_at cells s k) h) first (count + no_event (possible cells s == 0))
unfolding chosen next
counted_chosen cells inputs s h first count k w sound counted =
    let m = k % possible cells s in
    let i = m - length (enabled cells s) in
    subst (λ n. IsCounted cells (state_from cells inputs s i (slice_get (enabled cells s) m) (slice_get s.packets i)) (noted cells s (fires_at cells s k) h) first (count + n)) (one_event cells s k)
    (counted_from cells inputs s h first count i (slice_get (enabled cells s) m) (slice_get s.packets i) w sound (λ c e. enabled_at cells s m c e) refl counted)

counted_run : (cells : List Cell) (inputs : List (List Value)) (s : State) (h : Histories) (first count : ℕ) (ks : List ℕ) → CanRun cells → Sound cells s → IsCounted cells s h first count
    → IsCounted cells (run cells inputs s ks) (histories_from cells inputs s h ks) first (count + events_from cells inputs s ks)
counted_run cells inputs s h first count [] w sound counted = let old = counted.all in record { all = omega arith }
counted_run cells inputs s h first count (k ∷ ks) w sound counted =
    let one = no_event (possible cells s == 0) in
    let rest = events_from cells inputs (chosen cells inputs s k) ks in
    let more = counted_run cells inputs (chosen cells inputs s k) (noted cells s (fires_at cells s k) h) first (count + one) ks w (sound_chosen cells inputs s k w sound)
    (counted_chosen cells inputs s h first count k w sound counted) in
    let sum : (count + one) + rest ≡ count + (one + rest) = omega arith in
    subst (IsCounted cells (run cells inputs (chosen cells inputs s k) ks) (histories_from cells inputs (chosen cells inputs s k) (noted cells s (fires_at cells s k) h) ks) first) sum more

-- ---- from the start

sum_zeros : (n : ℕ) → sum_by (λ (m : ℕ). m) (replicate n 0) ≡ 0
sum_zeros zero = refl
sum_zeros (suc n) = let rest = sum_zeros n in let l = sum_by-cons (λ (m : ℕ). m) 0 (replicate n 0) in omega arith

none_taken : (n : ℕ) → taken_by (λ _. []) n ≡ 0
none_taken zero = refl
none_taken (suc n) = let rest = none_taken n in omega arith

counted_start : (cells : List Cell) → IsCounted cells (start cells) (λ _. []) (lying (start cells)) 0
unfolding start
counted_start cells = let zeros = sum_zeros (length cells) in let none = none_taken (length cells) in record { all = omega arith }

counted_after : (cells : List Cell) (inputs : List (List Value)) (ks : List ℕ) → CanRun cells → IsCounted cells (after cells inputs ks) (histories cells inputs ks) (lying (start cells)) (0 + events cells inputs ks)
unfolding after histories events
counted_after cells inputs ks w = counted_run cells inputs (start cells) (λ _. []) (lying (start cells)) 0 ks w (sound_start cells w) (counted_start cells)

-- ---- equal states

nothing_more : {A : Type 0} (xs ys rest : List A) → ys ≡ xs ++ rest → length xs ≡ length ys → ys ≡ xs
nothing_more xs ys rest e same =
    let whole = ap (λ (l : List _). length l) e in
    let len = length-append xs rest in
    e ∙ ap (λ l. xs ++ l) (nil_from_length rest (omega arith)) ∙ append-nil xs

same_lists : {A : Type 0} (xs ys : List A) → length xs ≡ length ys → Comparable xs ys → xs ≡ ys
same_lists xs ys same (inl (rest, e)) = sym (nothing_more xs ys rest e same)
same_lists xs ys same (inr (rest, e)) = nothing_more ys xs rest e (sym same)

same_taken : (h g : Histories) (n : ℕ) → ((c : ℕ) → h c ≡ g c) → taken_by h n ≡ taken_by g n
same_taken h g zero same = refl
same_taken h g (suc n) same = let rest = same_taken h g n same in let here = ap (λ l. sum_by ops l) (same n) in omega arith

pub equally_many : (cells : List Cell) (inputs : List (List Value)) (ks js : List ℕ) → CanRun cells → after cells inputs ks ≡ after cells inputs js → events cells inputs ks ≡ events cells inputs js
equally_many cells inputs ks js w same =
    let one = (counted_after cells inputs ks w).all in
    let two = (counted_after cells inputs js w).all in
    let lengths = λ (c : ℕ). sym ((traced_after cells inputs ks w).counts c) ∙ ap (λ (s : State). firings s c) same ∙ (traced_after cells inputs js w).counts c in
    let taken' = same_taken (histories cells inputs ks) (histories cells inputs js) (length cells) (λ c. same_lists (histories cells inputs ks c) (histories cells inputs js c) (lengths c) (histories_agree cells inputs ks js c w)) in
    let a = ap waiting same in let b = ap begun same in let c = ap lying same in
    omega arith
