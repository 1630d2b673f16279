-- What a word spells, both ways.
use Rattle.std.proofs.Common.{◌≡◌, ◌≢◌, ℕ, ℤ, ◌<◌, ◌≤◌, ◌==◌, nat_le, not, Bool, true, false, cond, ◌&&◌, List, [], ◌∷◌, ◌++◌, Option, Some, None, refl, sym, ap, subst, ◌∙◌, append_assoc, le-leb, arith}
use Rattle.std.specs.Prelude.{codes, bytes_eq}
use Rattle.std.specs.Fmt.{decimal, signed_decimal}
use Rattle.std.specs.Str.Parse.{AllDigits}
use Rattle.std.proofs.lemmas.Bool.{leb-true, eqb-true, ne_eqb}
use Rattle.std.proofs.lemmas.Fmt.{decimal_is_IsNumeral}
use Rattle.std.proofs.lemmas.Str.Parse.{digit_from_value}
use Rattle.df_values.specs.Values.{IsOrdinary, IsValue}
use Rattle.df_values.specs.Spelling.{spelled}
use Rattle.df_values.specs.declared.values.Basic.{Basic}
use Rattle.df_values.specs.declared.values.Basic.TheVariants as basic
use Rattle.df_values.specs.declared.values.Value.{Value}
use Rattle.df_values.specs.declared.values.Value.TheVariants.{Int, Truth, Error}
use Rattle.df_values.specs.declared.values.ErrorValue.TheVariants.{Undef, MissElt, PosOver, NegOver, Unknown, ZeroDivide}
use Rattle.df_values.proofs.SpellingLemmas.{one_value}
use Rattle.df_cells.specs.declared.cells.Dest.{Dest}
use Rattle.df_cells.specs.declared.cells.Feed.{Feed}
use Rattle.df_cells.specs.declared.cells.Feed.TheVariants.{Arc, Constant, Loaded}
use Rattle.df_cells.specs.declared.kinds.Run.{Run}
use Rattle.df_celltext.specs.CellText.{run_word, port_word, dest_word, spelled_basic}
use Rattle.df_celltext.specs.Cuts.{cut_at}
use Rattle.df_celltext.specs.Writable.{IsCount, IsWritableRun, IsWritableFeed, IsWritableDest}
use Rattle.df_celltext.specs.Reading.{◌>>=◌, named_in, or_else, number_in, integer_in, value_words, value_in, arc_from, arc_in, feed_in, dest_in, run_in, basic_words}
use Rattle.df_celltext.proofs.OptionLemmas.{none_from, bind_ok, passed_some, both_true, same_bytes, differ, differing}
use Rattle.df_celltext.proofs.NumberLemmas.{number_again, number_found, integer_again, integer_found, not_false}
use Rattle.df_celltext.proofs.CutLemmas.{Lacks, CutsTo, cuts, cut_again, cut_none}

-- ---- tables

-- each entry is a spelling and what is spelled so, of which P holds
abbrev pub AreSpelled : {A : Type 0} → (A → List ℕ) → (A → Type 0) → List (List ℕ × A) → Type 0
AreSpelled f P [] = Unit {0}
AreSpelled f P (e ∷ entries) = (e.0 ≡ f e.1) × P e.1 × AreSpelled f P entries

named_case : {A : Type 0} (f : A → List ℕ) (P : A → Type 0) (e : List ℕ × A) (o : Option A) (word : List ℕ) (x : A) (t : Bool) → e.0 ≡ f e.1 → P e.1 → bytes_eq word e.0 ≡ t
    → (o ≡ Some x → (word ≡ f x) × P x) → cond t (Some e.1) o ≡ Some x → (word ≡ f x) × P x
named_case f P e o word x true is good here rest h =
    let same : e.1 ≡ x = cc in
    (same_bytes word e.0 here ∙ is ∙ ap f same, subst P same good)
named_case f P e o word x false is good here rest h = rest h

pub named_found : {A : Type 0} (f : A → List ℕ) (P : A → Type 0) (entries : List (List ℕ × A)) → AreSpelled f P entries → (word : List ℕ) (x : A) → named_in entries word ≡ Some x → (word ≡ f x) × P x
named_found f P [] all word x h = absurd (cc)
named_found f P (e ∷ entries) all word x h =
    named_case f P e (named_in entries word) word x (bytes_eq word e.0) all.0 all.1 refl (named_found f P entries all.2 word x) h

-- ---- values

abbrev IsNoInt : Value → Type 0
IsNoInt (Int n) = ⊥
IsNoInt _ = Unit {0}

no_int_is_value : (v : Value) → IsNoInt v → IsValue v
no_int_is_value (Int n) h = absurd h
no_int_is_value (Truth t) h = tt
no_int_is_value (Error e) h = tt

values_are_spelled : AreSpelled spelled IsNoInt value_words
values_are_spelled = (refl, tt, (refl, tt, (refl, tt, (refl, tt, (refl, tt, (refl, tt, (refl, tt, (refl, tt, tt))))))))

value_named : (word : List ℕ) (v : Value) → named_in value_words word ≡ Some v → (word ≡ spelled v) × IsNoInt v
value_named word v h = named_found spelled IsNoInt value_words values_are_spelled word v h

int_is_int : (z : ℤ) (v : Value) → Int z ≡ v → IsNoInt v → ⊥
int_is_int z v e h = subst IsNoInt (sym e) h

no_word : (z : ℤ) → IsOrdinary z → named_in value_words (signed_decimal z) ≡ None
no_word z ordinary = none_from (named_in value_words (signed_decimal z)) (λ v h.
    let p = value_named (signed_decimal z) v h in
    int_is_int z v (one_value (Int z) v ordinary (no_int_is_value v p.1) p.0) p.1)

pub value_again : (v : Value) → IsValue v → value_in (spelled v) ≡ Some v
unfolding value_in
value_again (Int z) h = rw (no_word z h, integer_again z h) refl
value_again (Truth true) h = refl
value_again (Truth false) h = refl
value_again (Error Undef) h = refl
value_again (Error MissElt) h = refl
value_again (Error PosOver) h = refl
value_again (Error NegOver) h = refl
value_again (Error Unknown) h = refl
value_again (Error ZeroDivide) h = refl

value_by : (word : List ℕ) (o : Option Value) (v : Value) → named_in value_words word ≡ o → or_else o (integer_in word >>= λ z. Some (Int z)) ≡ Some v → (word ≡ spelled v) × IsValue v
value_by word None v e h =
    let b = bind_ok (integer_in word) (λ z. Some (Int z)) v h in
    let f = integer_found word b.0 b.1 in
    let same : Int b.0 ≡ v = let g = b.2 in cc in
    (f.0 ∙ ap spelled same, subst IsValue same f.1)
value_by word (Some w) v e h =
    let same : w ≡ v = cc in
    let p = value_named word w e in
    (p.0 ∙ ap spelled same, subst IsValue same (no_int_is_value w p.1))

pub value_found : (word : List ℕ) (v : Value) → value_in word ≡ Some v → (word ≡ spelled v) × IsValue v
unfolding value_in
value_found word v h = value_by word (named_in value_words word) v refl h

-- ---- types

basics_are_spelled : AreSpelled spelled_basic (λ b. Unit {0}) basic_words
basics_are_spelled = (refl, tt, (refl, tt, tt))

pub basic_again : (b : Basic) → named_in basic_words (spelled_basic b) ≡ Some b
basic_again basic.Integer = refl
basic_again basic.Boolean = refl

pub basic_found : (word : List ℕ) (b : Basic) → named_in basic_words word ≡ Some b → word ≡ spelled_basic b
basic_found word b h = (named_found spelled_basic (λ b. Unit {0}) basic_words basics_are_spelled word b h).0

-- ---- decimals have digits alone

digits_lack : (mark : ℕ) (ds : List ℕ) → mark < 48 → AllDigits 10 ds → Lacks mark ds
digits_lack mark [] small d = refl
digits_lack mark (c ∷ cs) small d =
    let r = digit_from_value c d.0 in
    let other : (c == mark) ≡ false = ne_eqb c mark (λ e. omega (arith, r, e)) in
    rw other (digits_lack mark cs small d.1)

pub decimal_lacks : (mark n : ℕ) → mark < 48 → IsCount n → Lacks mark (decimal n)
decimal_lacks mark n small count = digits_lack mark (decimal n) small (decimal_is_IsNumeral n (omega arith)).0.1

pub cut_found : (mark : ℕ) (word : List ℕ) (parts : List ℕ × List ℕ) → cut_at mark word ≡ Some parts → word ≡ parts.0 ++ mark ∷ parts.1
cut_found mark word parts e = (subst (CutsTo mark word) e (cuts mark word)).parts

-- ---- what feeds a port

pub feed_again : (f : Feed) → IsWritableFeed f → feed_in (port_word f) ≡ Some f
unfolding feed_in arc_in
feed_again (Arc u) h = rw (cut_none 33 (decimal u.0) (decimal_lacks 33 u.0 (omega arith) h), number_again u.0 h) refl
feed_again (Constant v) h = rw (value_again v h) refl
feed_again (Loaded u v) h =
    let cut : cut_at 33 (decimal u.0 ++ codes "!" ++ spelled v) ≡ Some (decimal u.0, spelled v)
    = ap (cut_at 33) (append_assoc (decimal u.0) (codes "!") (spelled v)) ∙ cut_again 33 (decimal u.0) (spelled v) (decimal_lacks 33 u.0 (omega arith) h.0) in
    rw (cut, number_again u.0 h.0, value_again v h.1) refl

arc_by : (word : List ℕ) (f : Feed) (o : Option (List ℕ × List ℕ)) → cut_at 33 word ≡ o → arc_from word o ≡ Some f → ((64 ∷ word) ≡ port_word f) × IsWritableFeed f
arc_by word f None cut h =
    let k = bind_ok (number_in word) (λ n. Some (Arc (record { 0 = n }))) f h in
    let p = number_found word k.0 k.1 in
    let same : Arc (record { 0 = k.0 }) ≡ f = let g = k.2 in cc in
    (ap (λ w. 64 ∷ w) p.0 ∙ ap port_word same, subst IsWritableFeed same p.1)
arc_by word f (Some parts) cut h =
    let k = bind_ok (number_in parts.0) _ f h in
    let v = bind_ok (value_in parts.1) _ f k.2 in
    let p = number_found parts.0 k.0 k.1 in
    let q = value_found parts.1 v.0 v.1 in
    let same : Loaded (record { 0 = k.0 }) v.0 ≡ f = let g = v.2 in cc in (
      ap (λ w. 64 ∷ w) (cut_found 33 word parts cut ∙ ap (λ x. x ++ 33 ∷ parts.1) p.0 ∙ ap (λ x. decimal k.0 ++ 33 ∷ x) q.0 ∙ sym (append_assoc (decimal k.0) (codes "!") (spelled v.0))) ∙ ap port_word same,
      subst IsWritableFeed same (p.1, q.1),
    )

arc_found : (word : List ℕ) (f : Feed) → arc_in word ≡ Some f → ((64 ∷ word) ≡ port_word f) × IsWritableFeed f
unfolding arc_in
arc_found word f h = arc_by word f (cut_at 33 word) refl h

feed_by : (b : ℕ) (word : List ℕ) (f : Feed) (s t : Bool) → (b == 64) ≡ s → (b == 61) ≡ t
    → cond s (arc_in word) (cond t (value_in word >>= λ v. Some (Constant v)) None) ≡ Some f → ((b ∷ word) ≡ port_word f) × IsWritableFeed f
feed_by b word f true t here there h =
    let p = arc_found word f h in
    (ap (λ x. x ∷ word) (eqb-true b 64 here) ∙ p.0, p.1)
feed_by b word f false true here there h =
    let k = bind_ok (value_in word) (λ v. Some (Constant v)) f h in
    let p = value_found word k.0 k.1 in
    let same : Constant k.0 ≡ f = let g = k.2 in cc in
    (ap (λ x. x ∷ word) (eqb-true b 61 there) ∙ ap (λ w. 61 ∷ w) p.0 ∙ ap port_word same, subst IsWritableFeed same p.1)
feed_by b word f false false here there h = absurd (cc)

pub feed_found : (word : List ℕ) (f : Feed) → feed_in word ≡ Some f → (word ≡ port_word f) × IsWritableFeed f
unfolding feed_in
feed_found [] f h = absurd (cc)
feed_found (b ∷ word) f h = feed_by b word f (b == 64) (b == 61) refl refl h

-- ---- destinations

pub dest_again : (d : Dest) → IsWritableDest d → dest_in (dest_word d) ≡ Some d
unfolding dest_in
dest_again d h =
    let cut : cut_at 46 (dest_word d) ≡ Some (decimal d.cell.0, decimal d.port.0)
    = ap (cut_at 46) (append_assoc (decimal d.cell.0) (codes ".") (decimal d.port.0)) ∙ cut_again 46 (decimal d.cell.0) (decimal d.port.0) (decimal_lacks 46 d.cell.0 (omega arith) h.0) in
    let within : nat_le d.port.0 255 ≡ true = le-leb _ _ h.1 in
    rw (cut, number_again d.cell.0 h.0, number_again d.port.0 (omega (arith, h.1)), within) refl

pub dest_found : (word : List ℕ) (d : Dest) → dest_in word ≡ Some d → (word ≡ dest_word d) × IsWritableDest d
unfolding dest_in
dest_found word d h =
    let p = bind_ok (cut_at 46 word) _ d h in
    let c = bind_ok (number_in p.0.0) _ d p.2 in
    let q = bind_ok (number_in p.0.1) _ d c.2 in
    let t = passed_some (nat_le q.0 255) (record { cell = record { 0 = c.0 }; port = record { 0 = q.0 } }) d q.2 in
    let cell = number_found p.0.0 c.0 c.1 in
    let port = number_found p.0.1 q.0 q.1 in
    let is : Dest = record { cell = record { 0 = c.0 }; port = record { 0 = q.0 } } in (
      cut_found 46 word p.0 p.1 ∙ ap (λ x. x ++ 46 ∷ p.0.1) cell.0 ∙ ap (λ x. decimal c.0 ++ 46 ∷ x) port.0 ∙ sym (append_assoc (decimal c.0) (codes ".") (decimal q.0)) ∙ ap dest_word t.1,
      subst IsWritableDest t.1 (cell.1, leb-true q.0 255 t.0),
    )

-- ---- runs

pub run_again : (last : List ℕ) (r : Run) → IsWritableRun r → 1 ≤ r.count → last ≢ spelled r.value → run_in last (run_word r) ≡ Some (r, spelled r.value)
unfolding run_in
run_again last r h some other =
    let cut : cut_at 42 (run_word r) ≡ Some (decimal r.count, spelled r.value)
    = ap (cut_at 42) (append_assoc (decimal r.count) (codes "*") (spelled r.value)) ∙ cut_again 42 (decimal r.count) (spelled r.value) (decimal_lacks 42 r.count (omega arith) h.0) in
    let within : nat_le 1 r.count ≡ true = le-leb _ _ some in
    let differs : bytes_eq (spelled r.value) last ≡ false = differ (spelled r.value) last (λ e. other (sym e)) in
    rw (cut, number_again r.count h.0, value_again r.value h.1, within, differs) refl

pub record IsReadRun (last word : List ℕ) (r : Run) (spelling : List ℕ) : Type 0 where
  pub is : word ≡ run_word r
  pub within : IsWritableRun r
  pub some : 1 ≤ r.count
  pub value : spelling ≡ spelled r.value
  pub other : last ≢ spelled r.value

pub run_found : (last word : List ℕ) (r : Run) (spelling : List ℕ) → run_in last word ≡ Some (r, spelling) → IsReadRun last word r spelling
unfolding run_in
run_found last word r spelling h =
    let p = bind_ok (cut_at 42 word) _ (r, spelling) h in
    let c = bind_ok (number_in p.0.0) _ (r, spelling) p.2 in
    let v = bind_ok (value_in p.0.1) _ (r, spelling) c.2 in
    let t = passed_some (nat_le 1 c.0 && not (bytes_eq p.0.1 last)) (record { count = c.0; value = v.0 }, p.0.1) (r, spelling) v.2 in
    let both = both_true (nat_le 1 c.0) (not (bytes_eq p.0.1 last)) t.0 in
    let count = number_found p.0.0 c.0 c.1 in
    let value = value_found p.0.1 v.0 v.1 in
    let run : record { count = c.0; value = v.0 } ≡ r = ap (λ x. x.0) t.1 in
    let spells : p.0.1 ≡ spelling = ap (λ x. x.1) t.1 in
    let same : v.0 ≡ r.value = ap (λ x. x.value) run in
    record {
      is = cut_found 42 word p.0 p.1 ∙ ap (λ x. x ++ 42 ∷ p.0.1) count.0 ∙ ap (λ x. decimal c.0 ++ 42 ∷ x) value.0 ∙ sym (append_assoc (decimal c.0) (codes "*") (spelled v.0)) ∙ ap run_word run;
      within = subst IsWritableRun run (count.1, value.1);
      some = subst (λ n. 1 ≤ n) (ap (λ x. x.count) run) (leb-true 1 c.0 both.0);
      value = sym spells ∙ value.0 ∙ ap spelled same;
      other = λ e. differing p.0.1 last (not_false (bytes_eq p.0.1 last) both.1) (value.0 ∙ ap spelled same ∙ sym e);
    }
