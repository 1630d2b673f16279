-- The words of a kind, both ways.
use Rattle.std.proofs.Common.{◌≡◌, ◌≢◌, ℕ, ℤ, pos, negsuc, Bool, true, false, cond, not, ◌&&◌, ◌==◌, List, [], ◌∷◌, ◌++◌, map, Option, Some, None, length, refl, sym, ap, subst, ◌∙◌, arith}
use Rattle.std.specs.Prelude.{codes, bytes_eq}
use Rattle.std.specs.List.{All, list_all}
use Rattle.std.proofs.lemmas.List.Folds.{list_all-append}
use Rattle.std.specs.Fmt.{decimal, signed_decimal}
use Rattle.std.proofs.lemmas.Fmt.{decimal_nonempty}
use Rattle.std.proofs.lemmas.List.Elements.{All-nil, All-cons, All-head, All-tail}
use Rattle.df_values.specs.Values.{IsOrdinary, IsValue}
use Rattle.df_values.specs.Spelling.{spelled}
use Rattle.df_values.specs.declared.values.Basic.{Basic}
use Rattle.df_values.specs.declared.values.Value.{Value}
use Rattle.df_values.specs.declared.values.Value.TheVariants.{Int, Truth, Error}
use Rattle.df_values.specs.declared.values.ErrorValue.TheVariants.{Undef, MissElt, PosOver, NegOver, Unknown, ZeroDivide}
use Rattle.df_values.proofs.Limits.{small_from_ordinary}
use Rattle.df_values.proofs.SpellingLemmas.{one_value}
use Rattle.df_cells.specs.declared.kinds.Run.{Run}
use Rattle.df_cells.specs.declared.kinds.Kind.{Kind}
use Rattle.df_cells.specs.declared.kinds.Kind.TheVariants as kind
use Rattle.df_cells.specs.Kinds.{BeginsOtherwise, AreCanonical, HasCanonicalRuns}
use Rattle.df_celltext.specs.CellText.{run_word, spelled_basic, kind_words}
use Rattle.df_celltext.specs.Writable.{is_name, IsCount, IsWritableRun, IsWritableKind}
use Rattle.df_celltext.specs.Reading.{◌>>=◌, with_rest, with_front, or_else, named_in, basic_words, number_in, integer_in, run_in, stage, operators, relations, controls, tests, plain_named, after_word, number_at, integer_at, name_at, basic_at, plain_at, in_at, idx_at, out_at, runs_at, ctl_at, kind_at}
use Rattle.df_celltext.proofs.OptionLemmas.{bind_ok, passed_some, both_true, same_bytes, differ}
use Rattle.df_celltext.proofs.NumberLemmas.{number_again, number_found, integer_again, integer_found}
use Rattle.df_celltext.proofs.WordLemmas.{AreSpelled, named_found, basic_again, basic_found, run_again, IsReadRun, run_found}

-- ---- one word

rest_ok : {A : Type 0} (rest : List (List ℕ)) (o : Option A) (found : A × List (List ℕ)) → with_rest rest o ≡ Some found → (o ≡ Some found.0) × (rest ≡ found.1)
rest_ok rest None found h = absurd (cc)
rest_ok rest (Some x) found h = let e : (x, rest) ≡ found = cc in (ap (λ p. Some p.0) e, ap (λ p. p.1) e)

pub number_at_found : (words : List (List ℕ)) (found : ℕ × List (List ℕ)) → number_at words ≡ Some found → (words ≡ decimal found.0 ∷ found.1) × IsCount found.0
unfolding number_at
number_at_found [] found h = absurd (cc)
number_at_found (word ∷ rest) found h =
    let r = rest_ok rest (number_in word) found h in
    let n = number_found word found.0 r.0 in
    (ap (λ w. w ∷ rest) n.0 ∙ ap (λ ws. decimal found.0 ∷ ws) r.1, n.1)

integer_at_found : (words : List (List ℕ)) (found : ℤ × List (List ℕ)) → integer_at words ≡ Some found → (words ≡ signed_decimal found.0 ∷ found.1) × IsOrdinary found.0
unfolding integer_at
integer_at_found [] found h = absurd (cc)
integer_at_found (word ∷ rest) found h =
    let r = rest_ok rest (integer_in word) found h in
    let n = integer_found word found.0 r.0 in
    (ap (λ w. w ∷ rest) n.0 ∙ ap (λ ws. signed_decimal found.0 ∷ ws) r.1, n.1)

name_at_found : (words : List (List ℕ)) (found : List ℕ × List (List ℕ)) → name_at words ≡ Some found → (words ≡ found.0 ∷ found.1) × (is_name found.0 ≡ true)
unfolding name_at
name_at_found [] found h = absurd (cc)
name_at_found (word ∷ rest) found h =
    let p = passed_some (is_name word) (word, rest) found h in
    (ap (λ x. x.0 ∷ x.1) p.1, subst (λ (w : List ℕ). is_name w ≡ true) (ap (λ x. x.0) p.1) p.0)

basic_at_found : (words : List (List ℕ)) (found : Basic × List (List ℕ)) → basic_at words ≡ Some found → words ≡ spelled_basic found.0 ∷ found.1
unfolding basic_at
basic_at_found [] found h = absurd (cc)
basic_at_found (word ∷ rest) found h =
    let r = rest_ok rest (named_in basic_words word) found h in
    ap (λ w. w ∷ rest) (basic_found word found.0 r.0) ∙ ap (λ ws. spelled_basic found.0 ∷ ws) r.1

after_case : (wanted word : List ℕ) (rest found : List (List ℕ)) (t : Bool) → bytes_eq word wanted ≡ t → cond t (Some rest) None ≡ Some found → (word ∷ rest) ≡ wanted ∷ found
after_case wanted word rest found true e h = let same : rest ≡ found = cc in ap (λ w. w ∷ rest) (same_bytes word wanted e) ∙ ap (λ ws. wanted ∷ ws) same
after_case wanted word rest found false e h = absurd (cc)

pub after_found : (wanted : List ℕ) (words found : List (List ℕ)) → after_word wanted words ≡ Some found → words ≡ wanted ∷ found
unfolding after_word
after_found wanted [] found h = absurd (cc)
after_found wanted (word ∷ rest) found h = after_case wanted word rest found (bytes_eq word wanted) refl h

-- ---- runs

some_spelling : (v : Value) → IsValue v → ¬ ([] ≡ spelled v)
some_spelling (Int (pos n)) h e = omega (arith, decimal_nonempty n (let m = small_from_ordinary (pos n) h in omega arith), ap length e)
some_spelling (Int (negsuc n)) h e = cc
some_spelling (Truth true) h e = cc
some_spelling (Truth false) h e = cc
some_spelling (Error Undef) h e = cc
some_spelling (Error MissElt) h e = cc
some_spelling (Error PosOver) h e = cc
some_spelling (Error NegOver) h e = cc
some_spelling (Error Unknown) h e = cc
some_spelling (Error ZeroDivide) h e = cc

-- the first run's value, if there is one, is not spelled so
abbrev BeginsUnlike : List ℕ → List Run → Type 0
BeginsUnlike last [] = Unit {0}
BeginsUnlike last (r ∷ runs) = last ≢ spelled r.value

begins_unlike : (v : Value) (runs : List Run) → IsValue v → All IsWritableRun runs → BeginsOtherwise v runs → BeginsUnlike (spelled v) runs
begins_unlike v [] value all h = tt
begins_unlike v (r ∷ runs) value all h = λ e. h (one_value v r.value value (All-head IsWritableRun r runs all).1 e)

begins_first : (runs : List Run) → All IsWritableRun runs → BeginsUnlike [] runs
begins_first [] all = tt
begins_first (r ∷ runs) all = λ e. some_spelling r.value (All-head IsWritableRun r runs all).1 e

begins_otherwise : (v : Value) (runs : List Run) → BeginsUnlike (spelled v) runs → BeginsOtherwise v runs
begins_otherwise v [] h = tt
begins_otherwise v (r ∷ runs) h = λ e. h (ap spelled e)

run_reads : (r : Run) → IsWritableRun r → run_word r ≡ stage → ⊥
run_reads r h e =
    let lacks : list_all (λ b. not (b == 42)) (run_word r) ≡ true = ap (list_all (λ b. not (b == 42))) e in
    let parts : list_all (λ b. not (b == 42)) (run_word r) ≡ (list_all (λ b. not (b == 42)) (decimal r.count ++ codes "*") && list_all (λ b. not (b == 42)) (spelled r.value))
    = list_all-append (λ b. not (b == 42)) (decimal r.count ++ codes "*") (spelled r.value) in
    let front = both_true _ _ (sym parts ∙ lacks) in
    let star : (list_all (λ b. not (b == 42)) (decimal r.count) && false) ≡ true = sym (list_all-append (λ b. not (b == 42)) (decimal r.count) (codes "*")) ∙ front.0 in
    let clash : false ≡ true = (both_true (list_all (λ b. not (b == 42)) (decimal r.count)) false star).1 in
    cc

run_is_no_stage : (r : Run) → IsWritableRun r → bytes_eq (run_word r) stage ≡ false
run_is_no_stage r h = differ (run_word r) stage (λ e. run_reads r h e)

runs_again : (last : List ℕ) (runs : List Run) (rest : List (List ℕ)) → AreCanonical runs → All IsWritableRun runs → BeginsUnlike last runs → runs_at last (map run_word runs ++ stage ∷ rest) ≡ Some (runs, rest)
unfolding runs_at
runs_again last [] rest canonical all begins = refl
runs_again last (r ∷ runs) rest canonical all begins =
    let h = All-head IsWritableRun r runs all in
    rw (run_is_no_stage r h, run_again last r h canonical.0 begins, runs_again (spelled r.value) runs rest canonical.2 (All-tail IsWritableRun r runs all) (begins_unlike r.value runs h.1 (All-tail IsWritableRun r runs all) canonical.1)) refl

-- words read as runs
record AreRead (last : List ℕ) (words : List (List ℕ)) (found : List Run × List (List ℕ)) : Type 0 where
  are : words ≡ map run_word found.0 ++ stage ∷ found.1
  canonical : AreCanonical found.0
  within : All IsWritableRun found.0
  begins : BeginsUnlike last found.0

pub front_ok : {A B : Type 0} (x : A) (o : Option (List A × B)) (found : List A × B) → with_front (x ∷ []) o ≡ Some found → (y : List A × B) × (o ≡ Some y) × ((x ∷ y.0, y.1) ≡ found)
front_ok x None found h = absurd (cc)
front_ok x (Some y) found h = (y, refl, cc)

runs_case : (last word : List ℕ) (rest : List (List ℕ)) (found : List Run × List (List ℕ)) (t : Bool) → bytes_eq word stage ≡ t
    → ((spelling : List ℕ) (more : List Run × List (List ℕ)) → runs_at spelling rest ≡ Some more → AreRead spelling rest more)
    → cond t (Some ([], rest)) (run_in last word >>= λ r. with_front (r.0 ∷ []) (runs_at r.1 rest)) ≡ Some found → AreRead last (word ∷ rest) found
runs_case last word rest found true e later h =
    let same : ([], rest) ≡ found = cc in
    subst (AreRead last (word ∷ rest)) same (record { are = ap (λ w. w ∷ rest) (same_bytes word stage e); canonical = tt; within = All-nil IsWritableRun; begins = tt })
runs_case last word rest found false e later h =
    let b = bind_ok (run_in last word) (λ r. with_front (r.0 ∷ []) (runs_at r.1 rest)) found h in
    let r : IsReadRun last word b.0.0 b.0.1 = run_found last word b.0.0 b.0.1 b.1 in
    let f = front_ok b.0.0 (runs_at b.0.1 rest) found b.2 in
    let more : AreRead b.0.1 rest f.0 = later b.0.1 f.0 f.1 in
    let begins : BeginsUnlike (spelled b.0.0.value) f.0.0 = subst (λ (s : List ℕ). BeginsUnlike s f.0.0) r.value more.begins in
    subst (AreRead last (word ∷ rest)) f.2 (record {
      are = ap (λ w. w ∷ rest) r.is ∙ ap (λ ws. run_word b.0.0 ∷ ws) more.are;
      canonical = (r.some, begins_otherwise b.0.0.value f.0.0 begins, more.canonical);
      within = All-cons IsWritableRun b.0.0 f.0.0 r.within more.within;
      begins = r.other;
    })

runs_found : (last : List ℕ) (words : List (List ℕ)) (found : List Run × List (List ℕ)) → runs_at last words ≡ Some found → AreRead last words found
unfolding runs_at
runs_found last [] found h = absurd (cc)
runs_found last (word ∷ rest) found h = runs_case last word rest found (bytes_eq word stage) refl (λ spelling more later. runs_found spelling rest more later) h

-- ---- kinds

-- words read as a kind, with the word `stage` behind it
pub record IsReadKind (words : List (List ℕ)) (found : Kind × List (List ℕ)) : Type 0 where
  pub is : words ≡ kind_words found.0 ++ stage ∷ found.1
  pub canonical : HasCanonicalRuns found.0
  pub within : IsWritableKind found.0

pub kind_again : (k : Kind) (rest : List (List ℕ)) → HasCanonicalRuns k → IsWritableKind k → kind_at (kind_words k ++ stage ∷ rest) ≡ Some (k, rest)
unfolding kind_at in_at idx_at ctl_at out_at plain_at plain_named after_word number_at integer_at name_at basic_at
kind_again (kind.In name basic n) rest canonical h = let named : is_name name ≡ true = h.0 in rw (named, basic_again basic, number_again n h.1) refl
kind_again (kind.Idx lo n) rest canonical h = rw (integer_again lo h.0, number_again n h.1) refl
kind_again (kind.Ctl runs) rest canonical h = rw (runs_again [] runs rest canonical h (begins_first runs h)) refl
kind_again (kind.Out k n) rest canonical h = rw (number_again k h.0, number_again n h.1) refl
kind_again _ rest canonical h = refl

abbrev first_word : List (List ℕ) → List ℕ
first_word [] = []
first_word (word ∷ words) = word

-- the name of a kind
abbrev kind_name : Kind → List ℕ
kind_name k = first_word (kind_words k)

abbrev IsPlainKind : Kind → Type 0
IsPlainKind k = (kind_words k ≡ kind_name k ∷ []) × HasCanonicalRuns k × IsWritableKind k

operators_are_spelled : AreSpelled kind_name IsPlainKind operators
operators_are_spelled = (refl, (refl, tt, tt), (refl, (refl, tt, tt), (refl, (refl, tt, tt), (refl, (refl, tt, tt), (refl, (refl, tt, tt), (refl, (refl, tt, tt), (refl, (refl, tt, tt), tt)))))))

relations_are_spelled : AreSpelled kind_name IsPlainKind relations
relations_are_spelled = (refl, (refl, tt, tt), (refl, (refl, tt, tt), (refl, (refl, tt, tt), (refl, (refl, tt, tt), (refl, (refl, tt, tt), (refl, (refl, tt, tt), tt))))))

controls_are_spelled : AreSpelled kind_name IsPlainKind controls
controls_are_spelled = (refl, (refl, tt, tt), (refl, (refl, tt, tt), (refl, (refl, tt, tt), (refl, (refl, tt, tt), (refl, (refl, tt, tt), (refl, (refl, tt, tt), (refl, (refl, tt, tt), (refl, (refl, tt, tt), tt))))))))

tests_are_spelled : AreSpelled kind_name IsPlainKind tests
tests_are_spelled = (refl, (refl, tt, tt), (refl, (refl, tt, tt), (refl, (refl, tt, tt), (refl, (refl, tt, tt), (refl, (refl, tt, tt), (refl, (refl, tt, tt), (refl, (refl, tt, tt), tt)))))))

plain_case : (name : List ℕ) (k : Kind) (a b c : Option Kind) → named_in operators name ≡ a → named_in relations name ≡ b → named_in controls name ≡ c → or_else a (or_else b (or_else c (named_in tests name))) ≡ Some k → (name ≡ kind_name k) × IsPlainKind k
plain_case name k (Some x) b c p q r h = named_found kind_name IsPlainKind operators operators_are_spelled name k (p ∙ h)
plain_case name k None (Some x) c p q r h = named_found kind_name IsPlainKind relations relations_are_spelled name k (q ∙ h)
plain_case name k None None (Some x) p q r h = named_found kind_name IsPlainKind controls controls_are_spelled name k (r ∙ h)
plain_case name k None None None p q r h = named_found kind_name IsPlainKind tests tests_are_spelled name k h

plain_named_found : (name : List ℕ) (k : Kind) → plain_named name ≡ Some k → (name ≡ kind_name k) × IsPlainKind k
unfolding plain_named
plain_named_found name k h = plain_case name k (named_in operators name) (named_in relations name) (named_in controls name) refl refl refl h

plain_found : (name : List ℕ) (words : List (List ℕ)) (found : Kind × List (List ℕ)) → plain_at name words ≡ Some found → IsReadKind (name ∷ words) found
unfolding plain_at
plain_found name words found h =
    let k = bind_ok (plain_named name) _ found h in
    let a = bind_ok (after_word stage words) _ found k.2 in
    let same : (k.0, a.0) ≡ found = let g = a.2 in cc in
    let p = plain_named_found name k.0 k.1 in
    subst (IsReadKind (name ∷ words)) same (record {
      is = ap (λ w. w ∷ words) p.0 ∙ ap (λ ws. kind_name k.0 ∷ ws) (after_found stage words a.0 a.1) ∙ ap (λ ws. ws ++ stage ∷ a.0) (sym p.1.0);
      canonical = p.1.1;
      within = p.1.2;
    })

in_found : (words : List (List ℕ)) (found : Kind × List (List ℕ)) → in_at words ≡ Some found → IsReadKind (codes "IN" ∷ words) found
unfolding in_at
in_found words found h =
    let name = bind_ok (name_at words) _ found h in
    let basic = bind_ok (basic_at name.0.1) _ found name.2 in
    let n = bind_ok (number_at basic.0.1) _ found basic.2 in
    let a = bind_ok (after_word stage n.0.1) _ found n.2 in
    let p = name_at_found words name.0 name.1 in
    let q = basic_at_found name.0.1 basic.0 basic.1 in
    let r = number_at_found basic.0.1 n.0 n.1 in
    let s = after_found stage n.0.1 a.0 a.1 in
    let same : (kind.In name.0.0 basic.0.0 n.0.0, a.0) ≡ found = let g = a.2 in cc in
    subst (IsReadKind (codes "IN" ∷ words)) same (record {
      is = ap (λ ws. codes "IN" ∷ ws) (p.0 ∙ ap (λ ws. name.0.0 ∷ ws) (q ∙ ap (λ ws. spelled_basic basic.0.0 ∷ ws) (r.0 ∙ ap (λ ws. decimal n.0.0 ∷ ws) s)));
      canonical = tt;
      within = (p.1, r.1);
    })

idx_found : (words : List (List ℕ)) (found : Kind × List (List ℕ)) → idx_at words ≡ Some found → IsReadKind (codes "IDX" ∷ words) found
unfolding idx_at
idx_found words found h =
    let lo = bind_ok (integer_at words) _ found h in
    let n = bind_ok (number_at lo.0.1) _ found lo.2 in
    let a = bind_ok (after_word stage n.0.1) _ found n.2 in
    let p = integer_at_found words lo.0 lo.1 in
    let r = number_at_found lo.0.1 n.0 n.1 in
    let s = after_found stage n.0.1 a.0 a.1 in
    let same : (kind.Idx lo.0.0 n.0.0, a.0) ≡ found = let g = a.2 in cc in
    subst (IsReadKind (codes "IDX" ∷ words)) same (record {
      is = ap (λ ws. codes "IDX" ∷ ws) (p.0 ∙ ap (λ ws. signed_decimal lo.0.0 ∷ ws) (r.0 ∙ ap (λ ws. decimal n.0.0 ∷ ws) s));
      canonical = tt;
      within = (p.1, r.1);
    })

out_found : (words : List (List ℕ)) (found : Kind × List (List ℕ)) → out_at words ≡ Some found → IsReadKind (codes "OUT" ∷ words) found
unfolding out_at
out_found words found h =
    let k = bind_ok (number_at words) _ found h in
    let n = bind_ok (number_at k.0.1) _ found k.2 in
    let a = bind_ok (after_word stage n.0.1) _ found n.2 in
    let p = number_at_found words k.0 k.1 in
    let r = number_at_found k.0.1 n.0 n.1 in
    let s = after_found stage n.0.1 a.0 a.1 in
    let same : (kind.Out k.0.0 n.0.0, a.0) ≡ found = let g = a.2 in cc in
    subst (IsReadKind (codes "OUT" ∷ words)) same (record {
      is = ap (λ ws. codes "OUT" ∷ ws) (p.0 ∙ ap (λ ws. decimal k.0.0 ∷ ws) (r.0 ∙ ap (λ ws. decimal n.0.0 ∷ ws) s));
      canonical = tt;
      within = (p.1, r.1);
    })

ctl_found : (words : List (List ℕ)) (found : Kind × List (List ℕ)) → ctl_at words ≡ Some found → IsReadKind (codes "CTL" ∷ words) found
unfolding ctl_at
ctl_found words found h =
    let runs = bind_ok (runs_at [] words) _ found h in
    let same : (kind.Ctl runs.0.0, runs.0.1) ≡ found = let g = runs.2 in cc in
    let r = runs_found [] words runs.0 runs.1 in
    subst (IsReadKind (codes "CTL" ∷ words)) same (record { is = ap (λ ws. codes "CTL" ∷ ws) r.are; canonical = r.canonical; within = r.within })

named_so : (name wanted : List ℕ) (words : List (List ℕ)) (found : Kind × List (List ℕ)) → bytes_eq name wanted ≡ true → IsReadKind (wanted ∷ words) found → IsReadKind (name ∷ words) found
named_so name wanted words found e h = subst (λ (w : List ℕ). IsReadKind (w ∷ words) found) (sym (same_bytes name wanted e)) h

kind_case : (name : List ℕ) (words : List (List ℕ)) (found : Kind × List (List ℕ)) (a b c d : Bool)
    → bytes_eq name (codes "IN") ≡ a → bytes_eq name (codes "IDX") ≡ b → bytes_eq name (codes "CTL") ≡ c → bytes_eq name (codes "OUT") ≡ d
    → cond a (in_at words) (cond b (idx_at words) (cond c (ctl_at words) (cond d (out_at words) (plain_at name words)))) ≡ Some found → IsReadKind (name ∷ words) found
kind_case name words found true b c d p q r s h = named_so name (codes "IN") words found p (in_found words found h)
kind_case name words found false true c d p q r s h = named_so name (codes "IDX") words found q (idx_found words found h)
kind_case name words found false false true d p q r s h = named_so name (codes "CTL") words found r (ctl_found words found h)
kind_case name words found false false false true p q r s h = named_so name (codes "OUT") words found s (out_found words found h)
kind_case name words found false false false false p q r s h = plain_found name words found h

pub kind_found : (words : List (List ℕ)) (found : Kind × List (List ℕ)) → kind_at words ≡ Some found → IsReadKind words found
unfolding kind_at
kind_found [] found h = absurd (cc)
kind_found (name ∷ words) found h =
    kind_case name words found (bytes_eq name (codes "IN")) (bytes_eq name (codes "IDX")) (bytes_eq name (codes "CTL")) (bytes_eq name (codes "OUT")) refl refl refl refl h
