-- Lists of truth values in three runs: the turns that pass them, and how far they shift.
use Rattle.std.proofs.Common.{◌≡◌, ℕ, zero, suc, ◌+◌, ◌<◌, Bool, true, false, cond, List, [], ◌∷◌, ◌++◌, get_or, length, replicate, refl, sym, ◌∙◌, ap, arith}
use Rattle.std.specs.List.{filter}
use Rattle.std.proofs.lemmas.List.{get_or-replicate, get_or_append_left, get_or-append-add, length-append}
use Rattle.std.proofs.lemmas.List.Elements.{filter-append}
use Rattle.df_values.specs.declared.values.Value.{Value}
use Rattle.df_values.specs.declared.values.Value.TheVariants.{Truth}
use Rattle.df_cells.specs.Kinds.{run_values}
use Rattle.df_cells.specs.Shifts.{is_truth, first_from, first_truth}
use Rattle.df_labels.specs.Labels.{Turn, answered, in_order_from, block_turn}
use Rattle.df_build_loops.specs.Frames.{undef}
use Rattle.df_meant.specs.Sites.{delayed, stream, block_turns}
use Rattle.df_labels.specs.Patterns.{pattern, PatternsSpell}
use Rattle.df_meant.proofs.Streams.{answered_source}

-- ---- turns of a block

block_append : (j a b : ℕ) → block_turns j (a + b) ≡ block_turns j a ++ block_turns (j + a) b
block_append j zero b =
    let e : 0 + b ≡ b = omega arith in
    let f : j ≡ j + 0 = omega arith in
    ap (block_turns j) e ∙ ap (λ i. block_turns i b) f
block_append j (suc a) b =
    let e : suc a + b ≡ suc (a + b) = omega arith in
    let f : j + 1 + a ≡ j + suc a = omega arith in
    ap (block_turns j) e ∙ ap (λ ts. (j ∷ []) ∷ ts) (block_append (j + 1) a b ∙ ap (λ i. block_turns (j + 1) a ++ block_turns i b) f)

none_pass : (P : ℕ → Bool) (j n : ℕ) → ((i : ℕ) → i < n → P (j + i) ≡ false) → filter (λ t. P (block_turn t)) (block_turns j n) ≡ []
none_pass P j zero h = refl
none_pass P j (suc n) h =
    let z : j ≡ j + 0 = omega arith in
    let here : P j ≡ false = ap P z ∙ h 0 (omega arith) in
    let rest = none_pass P (j + 1) n (λ i l. let e : j + 1 + i ≡ j + suc i = omega arith in ap P e ∙ h (suc i) (omega arith)) in
    ap (λ b. cond b ((j ∷ []) ∷ filter (λ t. P (block_turn t)) (block_turns (j + 1) n)) (filter (λ t. P (block_turn t)) (block_turns (j + 1) n))) here ∙ rest

all_pass : (P : ℕ → Bool) (j n : ℕ) → ((i : ℕ) → i < n → P (j + i) ≡ true) → filter (λ t. P (block_turn t)) (block_turns j n) ≡ block_turns j n
all_pass P j zero h = refl
all_pass P j (suc n) h =
    let z : j ≡ j + 0 = omega arith in
    let here : P j ≡ true = ap P z ∙ h 0 (omega arith) in
    let rest = all_pass P (j + 1) n (λ i l. let e : j + 1 + i ≡ j + suc i = omega arith in ap P e ∙ h (suc i) (omega arith)) in
    ap (λ b. cond b ((j ∷ []) ∷ filter (λ t. P (block_turn t)) (block_turns (j + 1) n)) (filter (λ t. P (block_turn t)) (block_turns (j + 1) n))) here ∙ ap (λ ts. (j ∷ []) ∷ ts) rest

nothing_after : (ts : List Turn) → ts ++ [] ≡ ts
nothing_after [] = refl
nothing_after (t ∷ ts) = ap (λ us. t ∷ us) (nothing_after ts)

middle_pass : (P : ℕ → Bool) (a k c : ℕ) → ((i : ℕ) → i < a → P i ≡ false) → ((i : ℕ) → i < k → P (a + i) ≡ true) → ((i : ℕ) → i < c → P (a + k + i) ≡ false)
    → filter (λ t. P (block_turn t)) (block_turns 0 (a + (k + c))) ≡ block_turns a k
middle_pass P a k c before in' after =
    let test = λ (t : Turn). P (block_turn t) in
    let z : 0 + a ≡ a = omega arith in
    let first = none_pass P 0 a (λ i l. let e : 0 + i ≡ i = omega arith in ap P e ∙ before i l) in
    let second = all_pass P a k in' in
    let third = none_pass P (a + k) c after in
    ap (filter test) (block_append 0 a (k + c) ∙ ap (λ i. block_turns 0 a ++ block_turns i (k + c)) z ∙ ap (λ ts. block_turns 0 a ++ ts) (block_append a k c))
    ∙ filter-append test (block_turns 0 a) (block_turns a k ++ block_turns (a + k) c)
    ∙ ap (λ ts. ts ++ filter test (block_turns a k ++ block_turns (a + k) c)) first
    ∙ filter-append test (block_turns a k) (block_turns (a + k) c)
    ∙ ap (λ ts. ts ++ filter test (block_turns (a + k) c)) second
    ∙ ap (λ ts. block_turns a k ++ ts) third
    ∙ nothing_after (block_turns a k)

-- functions that agree at the block's turns have one stream there
pub stream_on : (j n : ℕ) (f g : Turn → Value) → ((i : ℕ) → i < n → f ((j + i) ∷ []) ≡ g ((j + i) ∷ [])) → stream (block_turns j n) f ≡ stream (block_turns j n) g
stream_on j zero f g h = refl
stream_on j (suc n) f g h =
    let z : j ≡ j + 0 = omega arith in
    let y : j + 0 ≡ j = omega arith in
    let here : f (j ∷ []) ≡ g (j ∷ []) = ap (λ i. f (i ∷ [])) z ∙ h 0 (omega arith) ∙ ap (λ i. g (i ∷ [])) y in
    let rest = stream_on (j + 1) n f g (λ i l. let e : j + 1 + i ≡ j + suc i = omega arith in let e' : j + suc i ≡ j + 1 + i = omega arith in ap (λ i. f (i ∷ [])) e ∙ h (suc i) (omega arith) ∙ ap (λ i. g (i ∷ [])) e') in
    ap (λ v. (j ∷ [], v) ∷ stream (block_turns (j + 1) n) f) here ∙ ap (λ s. (j ∷ [], g (j ∷ [])) ∷ s) rest

-- a block's stream, so many turns later
pub delayed_block : (g j n : ℕ) (f h : ℕ → Value) → ((i : ℕ) → i < n → f (j + i) ≡ h (j + g + i)) → delayed g (stream (block_turns j n) (λ t. f (block_turn t))) ≡ stream (block_turns (j + g) n) (λ t. h (block_turn t))
delayed_block g j zero f h e = refl
delayed_block g j (suc n) f h e =
    let z : j ≡ j + 0 = omega arith in
    let y : j + g + 0 ≡ j + g = omega arith in
    let v : f j ≡ h (j + g) = ap f z ∙ e 0 (omega arith) ∙ ap h y in
    let up : j + 1 + g ≡ j + g + 1 = omega arith in
    let rest = delayed_block g (j + 1) n f h (λ i l.
    let p : j + 1 + i ≡ j + suc i = omega arith in
    let q : j + g + suc i ≡ j + 1 + g + i = omega arith in ap f p ∙ e (suc i) (omega arith) ∙ ap h q) in
    ap (λ x. ((j + g) ∷ [], x) ∷ delayed g (stream (block_turns (j + 1) n) (λ t. f (block_turn t)))) v
    ∙ ap (λ s. ((j + g) ∷ [], h (j + g)) ∷ s) (rest ∙ ap (λ i. stream (block_turns i n) (λ t. h (block_turn t))) up)

-- ---- a list of three runs: u, then w, then u

abbrev pub three_runs : ℕ → ℕ → ℕ → Value → Value → List Value
three_runs a k c u w = replicate a u ++ (replicate k w ++ (replicate c u ++ []))

length_same : (n : ℕ) (v : Value) → length (replicate n v) ≡ n
length_same zero v = refl
length_same (suc n) v = ap suc (length_same n v)

pub length_three : (a k c : ℕ) (u w : Value) → length (three_runs a k c u w) ≡ a + (k + c)
length_three a k c u w =
    let e1 : length (three_runs a k c u w) ≡ length (replicate a u) + length (replicate k w ++ (replicate c u ++ [])) = length-append (replicate a u) (replicate k w ++ (replicate c u ++ [])) in
    let e2 : length (replicate k w ++ (replicate c u ++ [])) ≡ length (replicate k w) + length (replicate c u ++ []) = length-append (replicate k w) (replicate c u ++ []) in
    let e3 : length (replicate c u ++ []) ≡ length (replicate c u) + 0 = length-append (replicate c u) [] in
    let a1 : length (replicate a u) ≡ a = length_same a u in
    let a2 : length (replicate k w) ≡ k = length_same k w in
    let a3 : length (replicate c u) ≡ c = length_same c u in
    omega (arith, e1, e2, e3, a1, a2, a3)

pub first_run : (a k c : ℕ) (u w : Value) (i : ℕ) → i < a → get_or (three_runs a k c u w) i undef ≡ u
first_run a k c u w i h =
    let n : length (replicate a u) ≡ a = length_same a u in
    get_or_append_left (replicate a u) (replicate k w ++ (replicate c u ++ [])) undef i (omega arith) ∙ get_or-replicate a i u undef h

rest_runs : (a k c : ℕ) (u w : Value) (i : ℕ) → get_or (three_runs a k c u w) (a + i) undef ≡ get_or (replicate k w ++ (replicate c u ++ [])) i undef
rest_runs a k c u w i = ap (λ n. get_or (three_runs a k c u w) (n + i) undef) (sym (length_same a u)) ∙ get_or-append-add (replicate a u) (replicate k w ++ (replicate c u ++ [])) i undef

pub second_run : (a k c : ℕ) (u w : Value) (i : ℕ) → i < k → get_or (three_runs a k c u w) (a + i) undef ≡ w
second_run a k c u w i h =
    let n : length (replicate k w) ≡ k = length_same k w in
    rest_runs a k c u w i ∙ get_or_append_left (replicate k w) (replicate c u ++ []) undef i (omega arith) ∙ get_or-replicate k i w undef h

pub third_run : (a k c : ℕ) (u w : Value) (i : ℕ) → i < c → get_or (three_runs a k c u w) (a + k + i) undef ≡ u
third_run a k c u w i h =
    let e : a + k + i ≡ a + (k + i) = omega arith in
    let n : length (replicate c u) ≡ c = length_same c u in
    ap (λ j. get_or (three_runs a k c u w) j undef) e ∙ rest_runs a k c u w (k + i)
    ∙ ap (λ n. get_or (replicate k w ++ (replicate c u ++ [])) (n + i) undef) (sym (length_same k w)) ∙ get_or-append-add (replicate k w) (replicate c u ++ []) i undef
    ∙ get_or_append_left (replicate c u) [] undef i (omega arith) ∙ get_or-replicate c i u undef h

-- the control at a turn
abbrev pub control_of : List Value → Turn → Value
control_of vs t = get_or vs (block_turn t) undef

pub answered_control : (vs : List Value) (n : ℕ) → length vs ≡ n → answered (in_order_from 0 vs) ≡ stream (block_turns 0 n) (control_of vs)
answered_control vs n long = answered_source vs 0 n (λ i. get_or vs i undef) long (λ i h. let z : 0 + i ≡ i = omega arith in ap (λ j. get_or vs j undef) z)

-- the turns at which the middle run passes
pub run_passes : (side : Bool) (a k c : ℕ) (u w : Value) → is_truth side u ≡ false → is_truth side w ≡ true
    → filter (λ t. is_truth side (control_of (three_runs a k c u w) t)) (block_turns 0 (a + (k + c))) ≡ block_turns a k
run_passes side a k c u w no' yes' =
    middle_pass (λ i. is_truth side (get_or (three_runs a k c u w) i undef)) a k c
    (λ i h. ap (is_truth side) (first_run a k c u w i h) ∙ no')
    (λ i h. ap (is_truth side) (second_run a k c u w i h) ∙ yes')
    (λ i h. ap (is_truth side) (third_run a k c u w i h) ∙ no')

-- its place is where the middle run begins
place_from : (side : Bool) (a n : ℕ) (u w : Value) (rest : List Value) → is_truth side u ≡ false → is_truth side w ≡ true → first_from (is_truth side) n (replicate a u ++ w ∷ rest) ≡ n + a
place_from side zero n u w rest no' yes' =
    let e : n ≡ n + 0 = omega arith in ap (λ b. cond b n (first_from (is_truth side) (n + 1) rest)) yes' ∙ e
place_from side (suc a) n u w rest no' yes' =
    let e : n + 1 + a ≡ n + suc a = omega arith in
    ap (λ b. cond b n (first_from (is_truth side) (n + 1) (replicate a u ++ w ∷ rest))) no' ∙ place_from side a (n + 1) u w rest no' yes' ∙ e

pub run_place : (side : Bool) (a k c : ℕ) (u w : Value) → 0 < k → is_truth side u ≡ false → is_truth side w ≡ true → first_truth side (three_runs a k c u w) ≡ a
run_place side a zero c u w some no' yes' = absurd (omega arith)
run_place side a (suc k) c u w some no' yes' = let z : 0 + a ≡ a = omega arith in place_from side a 0 u w (replicate k w ++ (replicate c u ++ [])) no' yes' ∙ z

-- ---- runs

pub pattern_three : PatternsSpell → (a k c : ℕ) → run_values (pattern ((a, false) ∷ (k, true) ∷ (c, false) ∷ [])) ≡ three_runs a k c (Truth false) (Truth true)
pattern_three spell a k c = spell ((a, false) ∷ (k, true) ∷ (c, false) ∷ [])

pub pattern_two : PatternsSpell → (a c : ℕ) → run_values (pattern ((a, true) ∷ (c, false) ∷ [])) ≡ replicate a (Truth true) ++ (replicate c (Truth false) ++ [])
pattern_two spell a c = spell ((a, true) ∷ (c, false) ∷ [])

-- a part of a block's stream, so many turns later; of no turns, any number later
pub moved_block : (p a k : ℕ) (F : ℕ → Value) → (0 < k → p ≡ a) → stream (block_turns a k) (λ t. F (block_turn t)) ≡ delayed p (stream (block_turns 0 k) (λ t. F (a + block_turn t)))
moved_block p a zero F h = refl
moved_block p a (suc k) F h =
    let z : 0 + a ≡ a = omega arith in
    let moved : (i : ℕ) → i < suc k → F (a + (0 + i)) ≡ F (0 + a + i) = λ i l. let e : a + (0 + i) ≡ 0 + a + i = omega arith in ap F e in
    sym (ap (λ g. delayed g (stream (block_turns 0 (suc k)) (λ t. F (a + block_turn t)))) (h (omega arith)) ∙ delayed_block a 0 (suc k) (λ i. F (a + i)) F moved ∙ ap (λ j. stream (block_turns j (suc k)) (λ t. F (block_turn t))) z)
