-- The first line of a text.
use Rattle.std.proofs.Common.{◌≡◌, ◌≢◌, ◌==◌, ℕ, zero, suc, ◌+◌, ◌-◌, ◌<◌, List, [], ◌∷◌, get_or, take, drop, length, refl, sym, ◌∙◌, ap, arith}
use Rattle.std.specs.List.{position_or_len}
use Rattle.std.proofs.lemmas.Bool.{eq-eqb, ne_eqb, eqb-true, eqb-false}
use Rattle.std.proofs.lemmas.List.Sums.{fails_before_first, passes_at_first}
use Rattle.df_trace.specs.Traces.{lines_of}
use Rattle.df_trace.proofs.Names.{all_left}

feed_at : (text : List ℕ) (i : ℕ) → i < length text → get_or text i 0 ≡ 10 → ((k : ℕ) → k < i → get_or text k 0 ≢ 10) → lines_of text ≡ take i text ∷ lines_of (drop (i + 1) text)
feed_at [] i within here before = absurd (omega arith)
feed_at (b ∷ text) zero within here before = rw (eq-eqb b 10 here) refl
feed_at (b ∷ text) (suc i) within here before =
    let other : b ≢ 10 = before 0 (omega arith) in
    let next : suc i + 1 ≡ suc (i + 1) = omega arith in
    rw (ne_eqb b 10 other, feed_at text i (omega arith) here (λ k below. before (suc k) (omega arith)), next) refl

feed_nowhere : (b : ℕ) (text : List ℕ) → ((k : ℕ) → k < length (b ∷ text) → get_or (b ∷ text) k 0 ≢ 10) → lines_of (b ∷ text) ≡ (b ∷ text) ∷ []
feed_nowhere b [] none = rw (ne_eqb b 10 (none 0 (omega arith))) refl
feed_nowhere b (c ∷ text) none = rw (ne_eqb b 10 (none 0 (omega arith)), feed_nowhere c text (λ k below. none (suc k) (omega arith))) refl

pub line_ends : (text : List ℕ) (end : ℕ) → end ≡ position_or_len (λ b. b == 10) text → end < length text
    → lines_of text ≡ take end text ∷ lines_of (take (length text - (end + 1)) (drop (end + 1) text))
line_ends text end is within =
    let at : position_or_len (λ b. b == 10) text < length text = omega arith in
    let here : get_or text end 0 ≡ 10 = ap (λ i. get_or text i 0) is ∙ eqb-true _ _ (passes_at_first (λ b. b == 10) text 0 at) in
    feed_at text end within here (λ k below. eqb-false _ _ (fails_before_first (λ b. b == 10) text k 0 (omega arith)))
    ∙ ap (λ t. take end text ∷ lines_of t) (sym (all_left text (end + 1)))

pub line_alone : (text : List ℕ) (end : ℕ) → end ≡ position_or_len (λ b. b == 10) text → end ≡ length text → 0 < length text → lines_of text ≡ text ∷ []
line_alone [] end is past some = absurd (omega arith)
line_alone (b ∷ text) end is past some = feed_nowhere b text (λ k below. eqb-false _ _ (fails_before_first (λ b. b == 10) (b ∷ text) k 0 (omega arith)))
