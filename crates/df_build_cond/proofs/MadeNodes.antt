-- Cells are made as their kinds ask.
use Rattle.std.proofs.Common.{◌⊎◌, ◌≡◌, ℕ, ℤ, ◌+◌, ◌≤◌, Bool, true, false, zero, suc, List, [], ◌∷◌, ◌++◌, map, length, replicate, Some, None, refl, sym, ap, subst, inl, inr, arith, ◌∙◌}
use Rattle.std.specs.Prelude.{slice_get}
use Rattle.std.proofs.lemmas.List.{length-append, length-replicate, length-map}
use Rattle.df_values.specs.declared.values.Value.{Value}
use Rattle.df_values.specs.declared.values.Value.TheVariants as value
use Rattle.df_values.specs.declared.values.Basic.{Basic}
use Rattle.df_values.specs.declared.kinds.Binary.{Binary}
use Rattle.df_values.specs.declared.kinds.Binary.TheVariants.{Operation, Comparison}
use Rattle.df_values.specs.declared.kinds.Unary.{Unary}
use Rattle.df_values.specs.declared.kinds.Unary.TheVariants.{Negation, Inversion, Inquiry}
use Rattle.df_values.specs.declared.kinds.Op.TheVariants as op
use Rattle.df_values.specs.declared.kinds.Rel.TheVariants as rel
use Rattle.df_values.specs.declared.kinds.Test.TheVariants as test
use Rattle.df_cells.specs.declared.kinds.Kind.{Kind}
use Rattle.df_cells.specs.declared.kinds.Kind.TheVariants as kind
use Rattle.df_cells.specs.declared.kinds.Run.{Run}
use Rattle.df_cells.specs.Cells.{loaded_from}
use Rattle.df_cells.specs.Families.{family, kind_of, kind_of_one}
use Rattle.df_cells.specs.Kinds.{port_count, source_length, limit, HasCanonicalRuns, is_buffer, run_values, AreCanonical}
use Rattle.df_cells.specs.WellFormed.{is_controlled}
use Rattle.df_labels.specs.declared.graphs.Flow.{Flow}
use Rattle.df_labels.specs.declared.graphs.Flow.TheVariants.{Constant, Cell}
use Rattle.df_labels.specs.Flows.{feed_of}
use Rattle.df_labels.specs.Patterns.{pattern, steady, PatternsSpell, PatternsAreCanonical, SteadySpells, SteadyIsCanonical}
use Rattle.df_build_cond.specs.Growth.{node}
use Rattle.df_build_cond.specs.Gates.{gate_kind}
use Rattle.df_build_cond.specs.Made.{IsFed, AreOrdinary, IsMade}
use Rattle.df_build_cond.specs.Laws.{NodesAreMade}

no_some : {n : ℕ} → None ≡ Some n → ⊥
no_some e = cc

some_none : {n : ℕ} → Some n ≡ None → ⊥
some_none e = cc

the_length : {m n : ℕ} → Some m ≡ Some n → m ≡ n
the_length e = cc

apart : false ≡ true → ⊥
apart e = cc

fed_first : (c : ℕ) (flows : List Flow) → IsFed 0 (map feed_of (Cell c ∷ flows))
fed_first c flows = (record { 0 = c }, refl)

fed_second : (x : Flow) (c : ℕ) (flows : List Flow) → IsFed 1 (map feed_of (x ∷ Cell c ∷ flows))
fed_second x c flows = (record { 0 = c }, refl)

-- what is built lies at no port before the run
unloaded : (flows : List Flow) (p : ℕ) → loaded_from (slice_get (map feed_of flows) p) ≡ None
unloaded [] p = refl
unloaded (Constant v ∷ flows) zero = refl
unloaded (Cell c ∷ flows) zero = refl
unloaded (x ∷ flows) (suc p) = unloaded flows p

abbrev is_idx : Kind → Bool
is_idx (kind.Idx lo n) = true
is_idx _ = false

-- kinds without control and length that are no sources, by their families
pub record IsPlain (n : ℕ) (it : Kind) : Type 0 where
  ports : port_count it ≡ n
  runs : HasCanonicalRuns it
  plain : is_buffer it ≡ false
  free : is_controlled (family it) ≡ false
  endless : limit it ≡ None

plain_made : (n : ℕ) (it : Kind) (flows : List Flow) → IsPlain n it → length flows ≡ n → IsFed 0 (map feed_of flows) ⊎ IsFed 1 (map feed_of flows) → IsMade (node it flows)
plain_made n it flows p count fed = record {
  ports = length-map flows feed_of ∙ (count ∙ sym p.ports);
  runs = p.runs;
  plain = p.plain;
  unloaded = unloaded flows;
  some = λ _. fed;
  control = λ is. absurd (apart (sym p.free ∙ is));
  short = λ k is. absurd (no_some (sym p.endless ∙ is));
  ordinary = λ lo k is. absurd (no_some (sym p.endless ∙ ap limit is));
}

simple : (n : ℕ) (it : Kind) → port_count it ≡ n → HasCanonicalRuns it → is_buffer it ≡ false → is_controlled (family it) ≡ false → limit it ≡ None → IsPlain n it
simple n it a r p f e = record { ports = a; runs = r; plain = p; free = f; endless = e }

two_plain : (how : Binary) → IsPlain 2 (kind_of how)
two_plain (Operation op.Add) = simple 2 kind.Add refl tt refl refl refl
two_plain (Operation op.Sub) = simple 2 kind.Sub refl tt refl refl refl
two_plain (Operation op.Mul) = simple 2 kind.Mul refl tt refl refl refl
two_plain (Operation op.Div) = simple 2 kind.Div refl tt refl refl refl
two_plain (Operation op.Mod) = simple 2 kind.Mod refl tt refl refl refl
two_plain (Operation op.Min) = simple 2 kind.Min refl tt refl refl refl
two_plain (Operation op.Max) = simple 2 kind.Max refl tt refl refl refl
two_plain (Operation op.And) = simple 2 kind.And refl tt refl refl refl
two_plain (Operation op.Or) = simple 2 kind.Or refl tt refl refl refl
two_plain (Comparison rel.Lt) = simple 2 kind.Lt refl tt refl refl refl
two_plain (Comparison rel.Le) = simple 2 kind.Le refl tt refl refl refl
two_plain (Comparison rel.Gt) = simple 2 kind.Gt refl tt refl refl refl
two_plain (Comparison rel.Ge) = simple 2 kind.Ge refl tt refl refl refl
two_plain (Comparison rel.Eq) = simple 2 kind.Eq refl tt refl refl refl
two_plain (Comparison rel.Ne) = simple 2 kind.Ne refl tt refl refl refl

one_plain : (how : Unary) → IsPlain 1 (kind_of_one how)
one_plain Negation = simple 1 kind.Neg refl tt refl refl refl
one_plain Inversion = simple 1 kind.Not refl tt refl refl refl
one_plain (Inquiry test.Undef) = simple 1 kind.IsUndef refl tt refl refl refl
one_plain (Inquiry test.MissElt) = simple 1 kind.IsMissElt refl tt refl refl refl
one_plain (Inquiry test.PosOver) = simple 1 kind.IsPosOver refl tt refl refl refl
one_plain (Inquiry test.NegOver) = simple 1 kind.IsNegOver refl tt refl refl refl
one_plain (Inquiry test.Unknown) = simple 1 kind.IsUnknown refl tt refl refl refl
one_plain (Inquiry test.ZeroDivide) = simple 1 kind.IsZeroDivide refl tt refl refl refl
one_plain (Inquiry test.Error) = simple 1 kind.IsError refl tt refl refl refl

-- ---- gates, MERGE cells and operators

controlled : (it : Kind) (c : ℕ) (flows : List Flow) → port_count it ≡ length flows + 1 → HasCanonicalRuns it → is_buffer it ≡ false → limit it ≡ None → IsMade (node it (Cell c ∷ flows))
controlled it c flows count runs plain endless = record {
  ports = let l : length (map feed_of (Cell c ∷ flows)) ≡ length (Cell c ∷ flows) = length-map (Cell c ∷ flows) feed_of in l ∙ (omega arith ∙ sym count);
  runs = runs;
  plain = plain;
  unloaded = unloaded (Cell c ∷ flows);
  some = λ _. inl (fed_first c flows);
  control = λ _. fed_first c flows;
  short = λ k is. absurd (no_some (sym endless ∙ is));
  ordinary = λ lo k is. absurd (no_some (sym endless ∙ ap limit is));
}

gate_made : (side : Bool) (control operand : ℕ) → IsMade (node (gate_kind side) (Cell control ∷ Cell operand ∷ []))
gate_made true c u = controlled kind.Tgate c (Cell u ∷ []) refl tt refl refl
gate_made false c u = controlled kind.Fgate c (Cell u ∷ []) refl tt refl refl

merge_made : (control : ℕ) (x y : Flow) → IsMade (node kind.Merge (Cell control ∷ x ∷ y ∷ []))
merge_made c x y = controlled kind.Merge c (x ∷ y ∷ []) refl tt refl refl

joined_left : (how : Binary) (left : ℕ) (right : Flow) → IsMade (node (kind_of how) (Cell left ∷ right ∷ []))
joined_left how left right = plain_made 2 (kind_of how) (Cell left ∷ right ∷ []) (two_plain how) refl (inl (fed_first left (right ∷ [])))

joined_right : (how : Binary) (left : Flow) (right : ℕ) → IsMade (node (kind_of how) (left ∷ Cell right ∷ []))
joined_right how left right = plain_made 2 (kind_of how) (left ∷ Cell right ∷ []) (two_plain how) refl (inr (fed_second left right []))

changed : (how : Unary) (of : ℕ) → IsMade (node (kind_of_one how) (Cell of ∷ []))
changed how of = plain_made 1 (kind_of_one how) (Cell of ∷ []) (one_plain how) refl (inl (fed_first of []))

-- ---- sources and results

source : (it : Kind) (n : ℕ) → port_count it ≡ 0 → HasCanonicalRuns it → is_buffer it ≡ false → is_controlled (family it) ≡ false → source_length it ≡ Some n → limit it ≡ Some n
    → n ≤ 65536 → ((lo : ℤ) (m : ℕ) → it ≡ kind.Idx lo m → AreOrdinary lo m) → IsMade (node it [])
source it n count runs plain free gives most few ordinary = record {
  ports = sym count;
  runs = runs;
  plain = plain;
  unloaded = unloaded [];
  some = λ is. absurd (some_none (sym gives ∙ is));
  control = λ is. absurd (apart (sym free ∙ is));
  short = λ k is. let e : n ≡ k = the_length (sym most ∙ is) in omega (arith, few, e);
  ordinary = ordinary;
}

no_idx : (it : Kind) → is_idx it ≡ false → {lo : ℤ} {m : ℕ} → it ≡ kind.Idx lo m → ⊥
no_idx it other is = apart (sym other ∙ ap is_idx is)

ctl_made : (runs : List Run) → AreCanonical runs → length (run_values runs) ≤ 65536 → IsMade (node (kind.Ctl runs) [])
ctl_made runs canonical few = source (kind.Ctl runs) (length (run_values runs)) refl canonical refl refl refl refl few (λ lo m is. absurd (no_idx (kind.Ctl runs) refl is))

input_made : (name : List ℕ) (basic : Basic) (n : ℕ) → n ≤ 65536 → IsMade (node (kind.In name basic n) [])
input_made name basic n few = source (kind.In name basic n) n refl tt refl refl refl refl few (λ lo m is. absurd (no_idx (kind.In name basic n) refl is))

index_made : (lo : ℤ) (n : ℕ) → n ≤ 65536 → AreOrdinary lo n → IsMade (node (kind.Idx lo n) [])
index_made lo n few ordinary = source (kind.Idx lo n) n refl tt refl refl refl refl few (λ l k is. subst (λ (it : Kind). AreOrdinary (low it) (count it)) is ordinary)
  where
    low : Kind → ℤ
    low (kind.Idx l k) = l
    low _ = lo

    count : Kind → ℕ
    count (kind.Idx l k) = k
    count _ = n

output_made : (k n from : ℕ) → n ≤ 65536 → IsMade (node (kind.Out k n) (Cell from ∷ []))
output_made k n from few = record {
  ports = refl;
  runs = tt;
  plain = refl;
  unloaded = unloaded (Cell from ∷ []);
  some = λ is. inl (fed_first from []);
  control = λ is. absurd (apart is);
  short = λ m is. let e : n ≡ m = the_length is in omega (arith, few, e);
  ordinary = λ lo m is. absurd (no_idx (kind.Out k n) refl is);
}

-- ---- CTL cells

module _ (spell : PatternsSpell) (canonical : PatternsAreCanonical) (spell_steady : SteadySpells) (canonical_steady : SteadyIsCanonical) where
  two_long : (m n : ℕ) (s t : Bool) → length (run_values (pattern ((m, s) ∷ (n, t) ∷ []))) ≡ m + n
  two_long m n s t =
      let a : List Value = replicate m (value.Truth s) in
      let c : List Value = replicate n (value.Truth t) in
      let spelled = ap length (spell ((m, s) ∷ (n, t) ∷ [])) in
      let one : length (a ++ (c ++ [])) ≡ length a + length (c ++ []) = length-append a (c ++ []) in
      let two : length (c ++ []) ≡ length c + 0 = length-append c [] in
      let three : length a ≡ m = length-replicate m (value.Truth s) in
      let four : length c ≡ n = length-replicate n (value.Truth t) in
      spelled ∙ omega (arith, one, two, three, four)

  three_long : (m n k : ℕ) (s t r : Bool) → length (run_values (pattern ((m, s) ∷ (n, t) ∷ (k, r) ∷ []))) ≡ m + (n + k)
  three_long m n k s t r =
      let a : List Value = replicate m (value.Truth s) in
      let c : List Value = replicate n (value.Truth t) in
      let d : List Value = replicate k (value.Truth r) in
      let spelled = ap length (spell ((m, s) ∷ (n, t) ∷ (k, r) ∷ [])) in
      let one : length (a ++ (c ++ (d ++ []))) ≡ length a + length (c ++ (d ++ [])) = length-append a (c ++ (d ++ [])) in
      let two : length (c ++ (d ++ [])) ≡ length c + length (d ++ []) = length-append c (d ++ []) in
      let three : length (d ++ []) ≡ length d + 0 = length-append d [] in
      let four : length a ≡ m = length-replicate m (value.Truth s) in
      let five : length c ≡ n = length-replicate n (value.Truth t) in
      let six : length d ≡ k = length-replicate k (value.Truth r) in
      spelled ∙ omega (arith, one, two, three, four, five, six)

  two_made : (m n : ℕ) (s t : Bool) → m + n ≤ 65536 → IsMade (node (kind.Ctl (pattern ((m, s) ∷ (n, t) ∷ []))) [])
  two_made m n s t few =
      let parts : List (ℕ × Bool) = (m, s) ∷ (n, t) ∷ [] in
      ctl_made (pattern parts) (canonical parts) (subst (λ k. k ≤ 65536) (sym (two_long m n s t)) few)

  three_made : (m n k : ℕ) (s t r : Bool) → m + (n + k) ≤ 65536 → IsMade (node (kind.Ctl (pattern ((m, s) ∷ (n, t) ∷ (k, r) ∷ []))) [])
  three_made m n k s t r few =
      let parts : List (ℕ × Bool) = (m, s) ∷ (n, t) ∷ (k, r) ∷ [] in
      ctl_made (pattern parts) (canonical parts) (subst (λ l. l ≤ 65536) (sym (three_long m n k s t r)) few)

  steady_made : (n : ℕ) (v : Value) → n ≤ 65536 → IsMade (node (kind.Ctl (steady n v)) [])
  steady_made n v few = ctl_made (steady n v) (canonical_steady n v) (subst (λ k. k ≤ 65536) (sym (ap length (spell_steady n v) ∙ length-replicate n v)) few)

  pub nodes_are_made : NodesAreMade
  nodes_are_made = record {
    gate = gate_made;
    merge = merge_made;
    joined_left = joined_left;
    joined_right = joined_right;
    changed = changed;
    control = ctl_made;
    two_parts = two_made;
    three_parts = three_made;
    steady = steady_made;
    index = index_made;
    input = input_made;
    output = output_made;
  }
