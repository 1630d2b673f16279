-- Labels by turns, and the streams that they answer and take.
use Rattle.std.proofs.Common.{◌≡◌, ℕ, zero, suc, ◌+◌, ◌-◌, ◌<◌, Bool, true, false, cond, List, [], ◌∷◌, ◌++◌, get_or, length, map, Option, Some, None, refl, sym, ◌∙◌, ap, subst, arith}
use Rattle.std.specs.Prelude.{◌==◌, ◌||◌, ◌&&◌, IsTrue}
use Rattle.std.specs.List.{filter, AllByRecursion}
use Rattle.std.proofs.lemmas.Bool.{lt-ltb}
use Rattle.df_values.specs.declared.values.Value.{Value}
use Rattle.df_values.specs.declared.values.Value.TheVariants.{Int, Truth, Error}
use Rattle.df_cells.specs.Firings.{Operands, by_control}
use Rattle.df_cells.specs.Shifts.{is_truth}
use Rattle.df_labels.specs.Labels.{Turn, later, is_earlier, AreRising, turns_of, Stream, at_turn, answered, received, in_order_from, block_turn}
use Rattle.df_build_loops.specs.Frames.{undef}
use Rattle.df_meant.specs.Sites.{Label, delayed, stream, block_turns}

-- a value where a test holds
abbrev pub only : {A : Type 0} → Bool → A → Option A
only true v = Some v
only false v = None

-- what is taken and answered at each turn
abbrev pub on_turns : List Turn → (Turn → Operands) → (Turn → Option Value) → Label
on_turns ts x a = map (λ t. record { turn = t; taken = x t; answer = a t }) ts

one_more : (t : Turn) (ts : List Turn) (f : Turn → Value) (b : Bool) (o : Option Value) (rest : Stream) → o ≡ only b (f t) → rest ≡ stream ts f → at_turn t o ++ rest ≡ stream (cond b (t ∷ ts) ts) f
one_more t ts f true o rest e r = ap (λ x. at_turn t x ++ rest) e ∙ ap (λ s. (t, f t) ∷ s) r
one_more t ts f false o rest e r = ap (λ x. at_turn t x ++ rest) e ∙ r

pub answered_on : (ts : List Turn) (x : Turn → Operands) (a : Turn → Option Value) (q : Turn → Bool) (f : Turn → Value) → ((t : Turn) → a t ≡ only (q t) (f t)) → answered (on_turns ts x a) ≡ stream (filter q ts) f
answered_on [] x a q f h = refl
answered_on (t ∷ ts) x a q f h = one_more t (filter q ts) f (q t) (a t) (answered (on_turns ts x a)) (h t) (answered_on ts x a q f h)

pub received_on : (p : ℕ) (ts : List Turn) (x : Turn → Operands) (a : Turn → Option Value) (q : Turn → Bool) (f : Turn → Value) → ((t : Turn) → get_or (x t) p None ≡ only (q t) (f t)) → received p (on_turns ts x a) ≡ stream (filter q ts) f
received_on p [] x a q f h = refl
received_on p (t ∷ ts) x a q f h = one_more t (filter q ts) f (q t) (get_or (x t) p None) (received p (on_turns ts x a)) (h t) (received_on p ts x a q f h)

pub filter_all : (ts : List Turn) → filter (λ _. true) ts ≡ ts
filter_all [] = refl
filter_all (t ∷ ts) = ap (λ us. t ∷ us) (filter_all ts)

-- two functions with one stream have one stream on the turns that pass
kept_more : (t : Turn) (v : Value) (ts : List Turn) (f : Turn → Value) (b : Bool) (rest : Stream) → v ≡ f t → rest ≡ stream ts f → cond b ((t, v) ∷ rest) rest ≡ stream (cond b (t ∷ ts) ts) f
kept_more t v ts f true rest e r = ap (λ w. (t, w) ∷ rest) e ∙ ap (λ s. (t, f t) ∷ s) r
kept_more t v ts f false rest e r = r

kept : (ts : List Turn) (f : Turn → Value) (q : Turn → Bool) → filter (λ x. q x.0) (stream ts f) ≡ stream (filter q ts) f
kept [] f q = refl
kept (t ∷ ts) f q = kept_more t (f t) (filter q ts) f (q t) (filter (λ x. q x.0) (stream ts f)) refl (kept ts f q)

pub same_kept : (ts : List Turn) (f g : Turn → Value) (q : Turn → Bool) → stream ts f ≡ stream ts g → stream (filter q ts) f ≡ stream (filter q ts) g
same_kept ts f g q e = sym (kept ts f q) ∙ ap (filter (λ x. q x.0)) e ∙ kept ts g q

pub stream_same : (ts : List Turn) (f g : Turn → Value) → ((t : Turn) → f t ≡ g t) → stream ts f ≡ stream ts g
stream_same [] f g h = refl
stream_same (t ∷ ts) f g h = ap (λ v. (t, v) ∷ stream ts f) (h t) ∙ ap (λ r. (t, g t) ∷ r) (stream_same ts f g h)

-- ---- rising turns, of one number each

all_kept_more : (P : Turn → Type 0) (t : Turn) (ts : List Turn) (b : Bool) → P t → AllByRecursion P ts → AllByRecursion P (cond b (t ∷ ts) ts)
all_kept_more P t ts true p ps = (p, ps)
all_kept_more P t ts false p ps = ps

pub all_kept_on : (P : Turn → Type 0) (q : Turn → Bool) (ts : List Turn) → AllByRecursion P ts → AllByRecursion P (filter q ts)
all_kept_on P q [] ps = tt
all_kept_on P q (t ∷ ts) ps = all_kept_more P t (filter q ts) (q t) ps.0 (all_kept_on P q ts ps.1)

rising_kept_more : (t : Turn) (ts : List Turn) (b : Bool) → AllByRecursion (λ u. IsTrue (is_earlier t u)) ts → AreRising ts → AreRising (cond b (t ∷ ts) ts)
rising_kept_more t ts true a r = (a, r)
rising_kept_more t ts false a r = r

rising_kept : (q : Turn → Bool) (ts : List Turn) → AreRising ts → AreRising (filter q ts)
rising_kept q [] r = tt
rising_kept q (t ∷ ts) r = rising_kept_more t (filter q ts) (q t) (all_kept_on (λ u. IsTrue (is_earlier t u)) q ts r.0) (rising_kept q ts r.1)

abbrev pub AreSingle : List Turn → Type 0
AreSingle ts = AllByRecursion (λ t. length t ≡ 1) ts

-- turns that a label may have
pub record AreTurns (ts : List Turn) : Type 0 where
  pub single : AreSingle ts
  pub rising : AreRising ts

pub turns_kept : (q : Turn → Bool) (ts : List Turn) → AreTurns ts → AreTurns (filter q ts)
turns_kept q ts r = record { single = all_kept_on (λ t. length t ≡ 1) q ts r.single; rising = rising_kept q ts r.rising }

pub turns_on : (ts : List Turn) (x : Turn → Operands) (a : Turn → Option Value) → turns_of (on_turns ts x a) ≡ ts
turns_on [] x a = refl
turns_on (t ∷ ts) x a = ap (λ us. t ∷ us) (turns_on ts x a)

pub length_on : (ts : List Turn) (x : Turn → Operands) (a : Turn → Option Value) → length (on_turns ts x a) ≡ length ts
length_on [] x a = refl
length_on (t ∷ ts) x a = ap suc (length_on ts x a)

-- ---- the turns of a block

earlier_number : (j k : ℕ) → j < k → IsTrue (is_earlier (j ∷ []) (k ∷ []))
earlier_number j k h = ap (λ b. b || ((j == k) && false)) (lt-ltb j k h)

before_range : (j k n : ℕ) → j < k → AllByRecursion (λ u. IsTrue (is_earlier (j ∷ []) u)) (block_turns k n)
before_range j k zero h = tt
before_range j k (suc n) h = (earlier_number j k h, before_range j (k + 1) n (omega arith))

rising_block : (k n : ℕ) → AreRising (block_turns k n)
rising_block k zero = tt
rising_block k (suc n) = (before_range k (k + 1) n (omega arith), rising_block (k + 1) n)

single_block : (k n : ℕ) → AreSingle (block_turns k n)
single_block k zero = tt
single_block k (suc n) = (refl, single_block (k + 1) n)

pub turns_block : (k n : ℕ) → AreTurns (block_turns k n)
turns_block k n = record { single = single_block k n; rising = rising_block k n }

pub length_block : (k n : ℕ) → length (block_turns k n) ≡ n
length_block k zero = refl
length_block k (suc n) = ap suc (length_block (k + 1) n)

-- ---- sources

zero_suc : {A : Type 0} (n : ℕ) → 0 ≡ suc n → A
zero_suc n e = absurd (omega (arith, e))

-- a source whose values are those of a function of the place
pub answered_source : (vs : List Value) (k n : ℕ) (F : ℕ → Value) → length vs ≡ n → ((i : ℕ) → i < n → F (k + i) ≡ get_or vs i undef) → answered (in_order_from k vs) ≡ stream (block_turns k n) (λ t. F (block_turn t))
answered_source [] k zero F long h = refl
answered_source [] k (suc n) F long h = zero_suc n long
answered_source (v ∷ vs) k zero F long h = zero_suc (length vs) (sym long)
answered_source (v ∷ vs) k (suc n) F long h =
    let here : F k ≡ v = ap F (plus_zero k) ∙ h 0 (omega arith) in
    let rest : (i : ℕ) → i < n → F (k + 1 + i) ≡ get_or vs i undef = λ i l. ap F (next k i) ∙ h (suc i) (omega arith) in
    ap (λ w. (k ∷ [], w) ∷ answered (in_order_from (k + 1) vs)) (sym here)
    ∙ ap (λ s. (k ∷ [], F k) ∷ s) (answered_source vs (k + 1) n F (fewer (length vs) n long) rest)
  where
    plus_zero : (k : ℕ) → k ≡ k + 0
    plus_zero k = omega arith

    next : (k i : ℕ) → k + 1 + i ≡ k + suc i
    next k i = omega arith

    fewer : (m n : ℕ) → suc m ≡ suc n → m ≡ n
    fewer m n e = omega arith

source_turns : (k : ℕ) (vs : List Value) → turns_of (in_order_from k vs) ≡ block_turns k (length vs)
source_turns k [] = refl
source_turns k (v ∷ vs) = ap (λ us. (k ∷ []) ∷ us) (source_turns (k + 1) vs)

pub turns_source : (vs : List Value) → AreTurns (turns_of (in_order_from 0 vs))
turns_source vs = subst AreTurns (sym (source_turns 0 vs)) (turns_block 0 (length vs))

-- ---- streams without a delay, and one stream for each delayed one

later_none : (t : Turn) → later 0 t ≡ t
later_none [] = refl
later_none (k ∷ t) = let e : k + 0 ≡ k = omega arith in ap (λ j. j ∷ t) e

pub delayed_none : (s : Stream) → delayed 0 s ≡ s
delayed_none [] = refl
delayed_none (x ∷ s) = ap (λ t. (t, x.1) ∷ delayed 0 s) (later_none x.0) ∙ ap (λ r. x ∷ r) (delayed_none s)

-- so many turns earlier
abbrev less : ℕ → Turn → Turn
less n [] = []
less n (i ∷ inner) = (i - n) ∷ inner

less_later : (g : ℕ) (t : Turn) → less g (later g t) ≡ t
less_later g [] = refl
less_later g (k ∷ t) = let e : k + g - g ≡ k = omega arith in ap (λ j. j ∷ t) e

sooner_delayed : (g : ℕ) (s : Stream) → map (λ (x : Turn × Value). (less g x.0, x.1)) (delayed g s) ≡ s
sooner_delayed g [] = refl
sooner_delayed g (x ∷ s) = ap (λ t. (t, x.1) ∷ map (λ (x : Turn × Value). (less g x.0, x.1)) (delayed g s)) (less_later g x.0) ∙ ap (λ r. x ∷ r) (sooner_delayed g s)

pub one_delayed : (g : ℕ) (s r : Stream) → delayed g s ≡ delayed g r → s ≡ r
one_delayed g s r e = sym (sooner_delayed g s) ∙ ap (map (λ (x : Turn × Value). (less g x.0, x.1))) e ∙ sooner_delayed g r

-- ---- controls

pub passes_true : (v w : Value) → by_control v (Some w) None None ≡ only (is_truth true v) w
passes_true (Truth true) w = refl
passes_true (Truth false) w = refl
passes_true (Int n) w = refl
passes_true (Error e) w = refl

pub passes_false : (v w : Value) → by_control v None (Some w) None ≡ only (is_truth false v) w
passes_false (Truth true) w = refl
passes_false (Truth false) w = refl
passes_false (Int n) w = refl
passes_false (Error e) w = refl
