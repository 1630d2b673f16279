-- Cuts, and the words of a line.
use Rattle.std.proofs.Common.{◌≡◌, ◌≢◌, ℕ, suc, zero, ◌+◌, ◌-◌, ◌<◌, Bool, true, false, cond, ◌==◌, not, List, [], ◌∷◌, ◌++◌, Option, Some, None, length, get_or, take, drop, refl, ap, subst, eq-eqb, arith}
use Rattle.std.specs.List.{list_all, position, position_or_len}
use Rattle.std.proofs.lemmas.Bool.{eqb-true, eqb-false, ne_eqb}
use Rattle.std.proofs.lemmas.List.{take_rest}
use Rattle.std.proofs.lemmas.List.Quantifiers.{position-Some}
use Rattle.std.proofs.lemmas.List.Sums.{fails_before_first}
use Rattle.std.proofs.Math.Dec.{ltb}
use borrow.Author.Tests.{ltb-false}
use Rattle.df_celltext.specs.Cuts.{with_byte, cut_at, words_of}

not_some : {A : Type 0} (t : Bool) (x : A) → cond t (Some x) None ≡ None → t ≡ false
not_some true x h = cc
not_some false x h = refl

-- ---- where a byte stands first

pub cut_first : (mark : ℕ) (text : List ℕ) (i : ℕ) → i < length text → get_or text i 0 ≡ mark → ((k : ℕ) → k < i → get_or text k 0 ≢ mark) → cut_at mark text ≡ Some (take i text, drop (i + 1) text)
cut_first mark [] i within here before = absurd (omega arith)
cut_first mark (b ∷ text) zero within here before = rw (eq-eqb b mark here) refl
cut_first mark (b ∷ text) (suc i) within here before =
    let other : b ≢ mark = before 0 (omega arith) in
    let next : suc i + 1 ≡ suc (i + 1) = omega arith in
    rw (ne_eqb b mark other, cut_first mark text i (omega arith) here (λ k below. before (suc k) (omega arith)), next) refl

pub cut_nowhere : (mark : ℕ) (text : List ℕ) → ((k : ℕ) → k < length text → get_or text k 0 ≢ mark) → cut_at mark text ≡ None
cut_nowhere mark [] none = refl
cut_nowhere mark (b ∷ text) none =
    rw (ne_eqb b mark (none 0 (omega arith)), cut_nowhere mark text (λ k below. none (suc k) (omega arith))) refl

pub cut_at_place : (mark : ℕ) (text : List ℕ) (i : ℕ) → position (λ b. b == mark) text ≡ Some i
    → cut_at mark text ≡ Some (take i text, take (length text - (i + 1)) (drop (i + 1) text))
cut_at_place mark text i e =
    let h = position-Some (λ b. b == mark) text i 0 e in
    rw (take_rest text (i + 1)) (cut_first mark text i h.0 (eqb-true _ _ h.1) (λ k below. eqb-false _ _ (h.2 k below)))

pub cut_nowhere_placed : (mark : ℕ) (text : List ℕ) → position (λ b. b == mark) text ≡ None → cut_at mark text ≡ None
cut_nowhere_placed mark text e =
    let none : ltb (position_or_len (λ b. b == mark) text) (length text) ≡ false = not_some _ _ e in
    cut_nowhere mark text (λ k below. eqb-false _ _ (fails_before_first (λ b. b == mark) text k 0 (omega (arith, ltb-false _ _ none))))

-- ---- the parts

-- the byte isn't in the text
abbrev pub Lacks : ℕ → List ℕ → Type 0
Lacks mark text = list_all (λ b. not (b == mark)) text ≡ true

-- a cut text, with what was cut out put back
pub record IsCut (mark : ℕ) (text before behind : List ℕ) : Type 0 where
  pub parts : text ≡ before ++ mark ∷ behind
  pub lacks : Lacks mark before

abbrev pub CutsTo : ℕ → List ℕ → Option (List ℕ × List ℕ) → Type 0
CutsTo mark text None = Lacks mark text
CutsTo mark text (Some parts) = IsCut mark text parts.0 parts.1

cut_more : (mark b : ℕ) (text : List ℕ) (o : Option (List ℕ × List ℕ)) → (b == mark) ≡ false → CutsTo mark text o → CutsTo mark (b ∷ text) (with_byte b o)
cut_more mark b text None e h = rw e h
cut_more mark b text (Some parts) e h = record { parts = ap (λ l. b ∷ l) h.parts; lacks = rw e h.lacks }

cut_here : (mark b : ℕ) (text : List ℕ) (t : Bool) → (b == mark) ≡ t → CutsTo mark text (cut_at mark text) → CutsTo mark (b ∷ text) (cond t (Some ([], text)) (with_byte b (cut_at mark text)))
cut_here mark b text true e h = record { parts = ap (λ m. m ∷ text) (eqb-true b mark e); lacks = refl }
cut_here mark b text false e h = cut_more mark b text (cut_at mark text) e h

pub cuts : (mark : ℕ) (text : List ℕ) → CutsTo mark text (cut_at mark text)
cuts mark [] = refl
cuts mark (b ∷ text) = cut_here mark b text (b == mark) refl (cuts mark text)

lacks_cut : (mark b : ℕ) (before behind : List ℕ) (t : Bool) → (b == mark) ≡ t → Lacks mark (b ∷ before) → (Lacks mark before → cut_at mark (before ++ mark ∷ behind) ≡ Some (before, behind)) → cond t (Some ([], before ++ mark ∷ behind)) (with_byte b (cut_at mark (before ++ mark ∷ behind))) ≡ Some (b ∷ before, behind)
lacks_cut mark b before behind true e h again = let clash : false ≡ true = rw e at h in cc
lacks_cut mark b before behind false e h again = rw (again (rw e at h)) refl

pub cut_again : (mark : ℕ) (before behind : List ℕ) → Lacks mark before → cut_at mark (before ++ mark ∷ behind) ≡ Some (before, behind)
cut_again mark [] behind h = let same : (mark == mark) ≡ true = eq-eqb mark mark refl in rw same refl
cut_again mark (b ∷ before) behind h = lacks_cut mark b before behind (b == mark) refl h (cut_again mark before behind)

lacks_none : (mark b : ℕ) (text : List ℕ) (t : Bool) → (b == mark) ≡ t → Lacks mark (b ∷ text) → (Lacks mark text → cut_at mark text ≡ None) → cond t (Some ([], text)) (with_byte b (cut_at mark text)) ≡ None
lacks_none mark b text true e h none = let clash : false ≡ true = rw e at h in cc
lacks_none mark b text false e h none = rw (none (rw e at h)) refl

pub cut_none : (mark : ℕ) (text : List ℕ) → Lacks mark text → cut_at mark text ≡ None
cut_none mark [] h = refl
cut_none mark (b ∷ text) h = lacks_none mark b text (b == mark) refl h (cut_none mark text)

-- ---- words

abbrev SplitsTo : List ℕ → Option (List ℕ × List ℕ) → Type 0
SplitsTo line None = words_of line ≡ line ∷ []
SplitsTo line (Some parts) = words_of line ≡ parts.0 ∷ words_of parts.1

split_more : (b : ℕ) (line : List ℕ) (o : Option (List ℕ × List ℕ)) → (b == 32) ≡ false → SplitsTo line o → SplitsTo (b ∷ line) (with_byte b o)
split_more b line None e h = rw (e, h) refl
split_more b line (Some parts) e h = rw (e, h) refl

split_here : (b : ℕ) (line : List ℕ) (t : Bool) → (b == 32) ≡ t → SplitsTo line (cut_at 32 line) → SplitsTo (b ∷ line) (cond t (Some ([], line)) (with_byte b (cut_at 32 line)))
split_here b line true e h = rw e refl
split_here b line false e h = split_more b line (cut_at 32 line) e h

pub splits : (line : List ℕ) → SplitsTo line (cut_at 32 line)
splits [] = refl
splits (b ∷ line) = split_here b line (b == 32) refl (splits line)

pub words_cut : (line before behind : List ℕ) → cut_at 32 line ≡ Some (before, behind) → words_of line ≡ before ∷ words_of behind
words_cut line before behind e = subst (SplitsTo line) e (splits line)

pub words_whole : (line : List ℕ) → cut_at 32 line ≡ None → words_of line ≡ line ∷ []
words_whole line e = subst (SplitsTo line) e (splits line)
