-- Values that were spelled, and the type of an input.
use Rattle.std.proofs.Common.{◌≡◌, ℕ, zero, suc, ◌<◌, ◌≤◌, ◌+◌, true, false, List, [], ◌∷◌, ◌++◌, length, take, get_or, set, sym, ap, ◌∙◌, refl, arith, ⊎_elim, inl, inr}
use Rattle.std.specs.Prelude.{All, map}
use Rattle.std.specs.List.{AllZip, list_all, after_first}
use Rattle.std.proofs.lemmas.List.{length-map, length-take-le, map_push, take_all, take_more}
use Rattle.std.proofs.lemmas.Bool.{false≢true, true≢false, and_parts, and_cases}
use Rattle.df_values.specs.Inputs.{HasType, IsAsDeclared}
use Rattle.df_values.specs.declared.values.Value.{Value}
use Rattle.df_values.specs.declared.values.Value.TheVariants.{Int, Truth, Error}
use Rattle.df_values.specs.declared.values.ErrorValue.TheVariants.{Undef, MissElt, PosOver, NegOver, Unknown, ZeroDivide}
use Rattle.df_values.specs.declared.values.Basic.{Basic}
use Rattle.df_values.specs.declared.values.Basic.TheVariants as basic
use Rattle.df_cells.specs.declared.cells.InputDecl.{InputDecl}
use Rattle.df_iotext.specs.Words.{words}
use Rattle.df_iotext.specs.Numbers.{Spells}
use Rattle.df_iotext.specs.Inputs.{Given, is_sign, IsAssignment, IsOpen, RefusesLine}
use Rattle.df_cells.specs.Cells.{declaration_of}
use Rattle.df_iotext.specs.declared.words.Gaps.TheVariants.{Blanks}
use Rattle.df_iotext.specs.Inputs.RefusesLine.{mistyped, miscounted}
use Rattle.df_iotext.specs.Readers.{has_type, FitValues, RefusesValues}
use Rattle.df_iotext.specs.declared.inputs.InputAnswer.{InputAnswer}
use Rattle.df_iotext.specs.declared.inputs.InputAnswer.TheVariants.{WrongLength}

fits : (b : Basic) (word : List ℕ) (v : Value) → Spells word v → has_type b v ≡ true → HasType b v
fits basic.Integer word (Int z) s e = s.1
fits basic.Integer word (Truth t) s e = absurd (false≢true e)
fits basic.Integer word (Error f) s e = tt
fits basic.Boolean word (Int z) s e = absurd (false≢true e)
fits basic.Boolean word (Truth t) s e = tt
fits basic.Boolean word (Error Undef) s e = tt
fits basic.Boolean word (Error MissElt) s e = tt
fits basic.Boolean word (Error PosOver) s e = absurd (false≢true e)
fits basic.Boolean word (Error NegOver) s e = absurd (false≢true e)
fits basic.Boolean word (Error Unknown) s e = absurd (false≢true e)
fits basic.Boolean word (Error ZeroDivide) s e = absurd (false≢true e)

misfits : (b : Basic) (v : Value) → has_type b v ≡ false → ¬ HasType b v
misfits basic.Integer (Int z) e h = true≢false e
misfits basic.Integer (Truth t) e h = h
misfits basic.Integer (Error f) e h = true≢false e
misfits basic.Boolean (Int z) e h = h
misfits basic.Boolean (Truth t) e h = true≢false e
misfits basic.Boolean (Error Undef) e h = true≢false e
misfits basic.Boolean (Error MissElt) e h = true≢false e
misfits basic.Boolean (Error PosOver) e h = h
misfits basic.Boolean (Error NegOver) e h = h
misfits basic.Boolean (Error Unknown) e h = h
misfits basic.Boolean (Error ZeroDivide) e h = h

all_fit : (b : Basic) (ws : List (List ℕ)) (values : List Value) → AllZip Spells ws values → list_all (has_type b) values ≡ true → All (HasType b) values
all_fit b [] [] s e k d h = absurd (omega arith)
all_fit b [] (v ∷ values) s e k d h = absurd s
all_fit b (w ∷ ws) [] s e k d h = absurd s
all_fit b (w ∷ ws) (v ∷ values) s e zero d h = fits b w v s.0 (and_parts (has_type b v) (list_all (has_type b) values) e).0
all_fit b (w ∷ ws) (v ∷ values) s e (suc k) d h = all_fit b ws values s.1 (and_parts (has_type b v) (list_all (has_type b) values) e).1 k d (omega arith)

one_misfits : (b : Basic) (values : List Value) → list_all (has_type b) values ≡ false → ¬ All (HasType b) values
one_misfits b [] e all = true≢false e
one_misfits b (v ∷ values) e all =
    ⊎_elim {C = ⊥} (λ first. misfits b v first (all zero v (omega arith))) (λ later. one_misfits b values later (λ k d h. all (suc k) d (omega arith)))
    (and_cases (has_type b v) (list_all (has_type b) values) e)

pub are_as_declared : (decl : InputDecl) (ws : List (List ℕ)) (values : List Value) → AllZip Spells ws values → FitValues decl values → IsAsDeclared (declaration_of decl) values
are_as_declared decl ws values s fit = record { count = fit.counted; types = all_fit decl.basic ws values s fit.typed }

pub values_refused : (decls : List InputDecl) (given : Given) (line name : List ℕ) (values : List Value) (k : ℕ) (decl : InputDecl) (number : ℕ) (answer : InputAnswer)
    → IsAssignment line name values → IsOpen decls given name k decl → RefusesValues decl values number answer → RefusesLine decls given line number answer
values_refused decls given line name values k decl number answer a o (inl h) = mistyped name values k decl a o (one_misfits decl.basic values h.1) h.0
values_refused decls given line name values k decl number answer a o (inr h) =
    miscounted name values k decl a o (all_fit decl.basic (words Blanks (after_first is_sign line)) values a.spelled h.1) h.2
    (h.0 ∙ ap (λ n. WrongLength n (length values) decl.length) o.named)

-- ---- one more list at the end

pub last_set : {A : Type 0} (xs : List A) (y z : A) → set (xs ++ y ∷ []) (length xs) z ≡ xs ++ z ∷ []
last_set [] y z = refl
last_set (x ∷ xs) y z = ap (λ l. x ∷ l) (last_set xs y z)

pub last_get : {A : Type 0} (xs : List A) (y d : A) → get_or (xs ++ y ∷ []) (length xs) d ≡ y
last_get [] y d = refl
last_get (x ∷ xs) y d = last_get xs y d

-- one more value at the end of the last list
pub values_more : (start : List (List Value)) (values : List Value) (k i : ℕ) (v d : Value) (lists new : List (List Value)) → k ≡ length start → i < length values → v ≡ get_or values i d
    → lists ≡ start ++ take i values ∷ [] → new ≡ set lists k (get_or lists k [] ++ v ∷ []) → new ≡ start ++ take (i + 1) values ∷ []
values_more start values k i v d lists new last below at so_far more =
    more ∙ ap (λ j. set lists j (get_or lists j [] ++ v ∷ [])) last
    ∙ ap (λ ls. set ls (length start) (get_or ls (length start) [] ++ v ∷ [])) so_far
    ∙ ap (λ l. set (start ++ take i values ∷ []) (length start) (l ++ v ∷ [])) (last_get start (take i values) [])
    ∙ last_set start (take i values) (take i values ++ v ∷ [])
    ∙ ap (λ l. start ++ l ∷ []) (ap (λ t. take i values ++ t ∷ []) at ∙ sym (take_more values i d below))

-- ---- lists of lists, as far as they were gone through

module _ {A B : Type 0} (f : A → B) (own items : List A) (i : ℕ) (self : List B) (is : items ≡ own) (view : map f own ≡ self) where
  pub parts_few : (n : ℕ) (parts : List B) → i < length items → parts ≡ map f (take i items) → length self ≤ n → length parts < n
  parts_few n parts below so_far few =
      omega (arith, few, ap length so_far, length-map (take i items) f, length-take-le i items (omega arith), ap length is, ap length view, length-map own f)

  pub parts_all : (parts : List B) → length items ≤ i → parts ≡ map f (take i items) → parts ≡ self
  parts_all parts long so_far = so_far ∙ ap (map f) (take_all i items long ∙ is) ∙ view

pub parts_more : {A B : Type 0} (f : A → B) (items : List A) (i : ℕ) (x : A) (y : B) (parts new : List B) → i < length items → x ≡ get_or items i x → y ≡ f x → parts ≡ map f (take i items)
    → new ≡ parts ++ y ∷ [] → new ≡ map f (take (i + 1) items)
parts_more f items i x y parts new below at same so_far more =
    more ∙ ap (λ l. l ++ y ∷ []) so_far ∙ ap (λ z. map f (take i items) ++ z ∷ []) (same ∙ ap f at) ∙ sym (map_push f (take i items) (get_or items i x)) ∙ ap (map f) (sym (take_more items i x below))
