-- The values that words spell, one after another.
use Rattle.std.proofs.Common.{◌≡◌, ℕ, ◌+◌, ◌<◌, ◌≤◌, List, [], ◌∷◌, ◌++◌, length, refl, sym, ap, ◌∙◌, subst, arith, append_assoc, append-nil}
use Rattle.std.specs.List.{AllZip}
use Rattle.std.proofs.lemmas.List.{length-append}
use Rattle.df_values.specs.declared.values.Value.{Value}
use Rattle.df_iotext.specs.Words.{words}
use Rattle.df_iotext.specs.Numbers.{Spells}
use Rattle.df_iotext.specs.declared.words.Gaps.TheVariants.{Blanks}

-- what was read of a text, and what is left of it
pub record ValuesRead (text rest : List ℕ) (values : List Value) : Type 0 where
  pub before : List (List ℕ)
  pub parts : words Blanks text ≡ before ++ words Blanks rest
  pub spelled : AllZip Spells before values
  pub room : length values + length rest ≤ length text

pub no_values_read : (text : List ℕ) (values : List Value) → values ≡ [] → ValuesRead text text values
no_values_read text values none =
    subst (ValuesRead text text) (sym none) (record { before = []; parts = refl; spelled = tt; room = omega arith })

spelled_push : (before : List (List ℕ)) (values : List Value) (word : List ℕ) (v : Value) → AllZip Spells before values → Spells word v → AllZip Spells (before ++ word ∷ []) (values ++ v ∷ [])
spelled_push [] [] word v p q = (q, tt)
spelled_push [] (x ∷ values) word v p q = absurd p
spelled_push (w ∷ before) [] word v p q = absurd p
spelled_push (w ∷ before) (x ∷ values) word v p q = (p.0, spelled_push before values word v p.1 q)

pub one_value_more : (text rest word behind : List ℕ) (values new : List Value) (v : Value) → ValuesRead text rest values → words Blanks rest ≡ word ∷ words Blanks behind → length behind < length rest → Spells word v
    → new ≡ values ++ v ∷ [] → ValuesRead text behind new
one_value_more text rest word behind values new v h next shorter is same =
    let room = h.room in
    subst (ValuesRead text behind) (sym same) (record {
      before = h.before ++ word ∷ [];
      parts = h.parts ∙ ap (λ ws. h.before ++ ws) next ∙ sym (append_assoc h.before (word ∷ []) (words Blanks behind));
      spelled = spelled_push h.before values word v h.spelled is;
      room = omega (arith, length-append values (v ∷ []));
    })

pub all_values_read : (text rest : List ℕ) (values : List Value) → ValuesRead text rest values → words Blanks rest ≡ [] → AllZip Spells (words Blanks text) values
all_values_read text rest values h none =
    subst (λ ws. AllZip Spells ws values) (sym (h.parts ∙ ap (λ ws. h.before ++ ws) none ∙ append-nil h.before)) h.spelled

no_value_there : (before : List (List ℕ)) (word : List ℕ) (behind : List (List ℕ)) (values : List Value) → ((v : Value) → ¬ Spells word v) → ¬ AllZip Spells (before ++ word ∷ behind) values
no_value_there [] word behind [] none h = h
no_value_there [] word behind (v ∷ values) none h = none v h.0
no_value_there (w ∷ before) word behind [] none h = h
no_value_there (w ∷ before) word behind (v ∷ values) none h = no_value_there before word behind values none h.1

pub no_values : (text rest word behind : List ℕ) (read : List Value) → ValuesRead text rest read → words Blanks rest ≡ word ∷ words Blanks behind → ((v : Value) → ¬ Spells word v) → (values : List Value) → ¬ AllZip Spells (words Blanks text) values
no_values text rest word behind read h next none values all =
    no_value_there h.before word (words Blanks behind) values none (subst (λ ws. AllZip Spells ws values) (h.parts ∙ ap (λ ws. h.before ++ ws) next) all)
