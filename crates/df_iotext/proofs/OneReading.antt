-- A text has one reading at most.
use Rattle.std.proofs.Common.{◌≡◌, ℕ, ℤ, pos, neg_ℤ, zero, suc, ◌+◌, ◌≤◌, ◌==◌, Bool, true, false, cond, List, [], ◌∷◌, ◌++◌, length, map, get_or, set, refl, sym, ap, ◌∙◌, subst, arith, Some, None, Result, Ok, Err, ⊎_elim}
use Rattle.std.specs.Prelude.{slice_get, All}
use Rattle.std.specs.List.{AllZip, after_first}
use Rattle.std.specs.Str.Parse.{digits_value}
use Rattle.std.specs.Str.Lines.{lines}
use Rattle.std.proofs.lemmas.Bool.{true≢false, cases_order}
use Rattle.std.proofs.lemmas.Str.Parse.{digit_at}
use Rattle.df_values.specs.Inputs.{HasType}
use Rattle.df_values.specs.Spelling.{spelled}
use Rattle.df_values.specs.declared.values.Value.{Value}
use Rattle.df_values.specs.declared.values.Value.TheVariants.{Int, Truth, Error}
use Rattle.df_values.specs.declared.values.ErrorValue.{ErrorValue}
use Rattle.df_values.specs.declared.values.ErrorValue.TheVariants.{Undef, MissElt, PosOver, NegOver, Unknown, ZeroDivide}
use Rattle.df_values.proofs.SpellingLemmas.{one_value}
use Rattle.df_cells.specs.declared.cells.InputDecl.{InputDecl}
use Rattle.df_iotext.specs.Words.{words}
use Rattle.df_iotext.specs.Numbers.{IsInteger, Spells}
use Rattle.df_iotext.specs.Numbers.IsInteger.{plain, minus}
use Rattle.df_iotext.specs.declared.words.Gaps.TheVariants.{Blanks}
use Rattle.df_iotext.specs.Inputs.{Given, nothing_given, is_sign, IsAssignment, IsOpen, TakesLine, RefusesLine, TakesLines, IsFirstMissing, IsRefused, ReadsInputs, HaveOwnNames}
use Rattle.df_iotext.specs.Inputs.TakesLine.{idle, gives}
use Rattle.df_iotext.specs.Inputs.RefusesLine.{malformed, unwanted, mistyped, miscounted}
use Rattle.df_iotext.specs.Inputs.IsRefused.{line_refused, input_missing}
use Rattle.df_iotext.specs.declared.inputs.InputAnswer.{InputAnswer}
use Rattle.df_iotext.specs.declared.inputs.InputAnswer.TheVariants.{WrongLength, MissingInput}
use Rattle.df_iotext.proofs.NumberLemmas.{numerals, digit_starts}

-- ---- a word spells one value

integer_of : List ℕ → ℤ
integer_of [] = pos 0
integer_of (byte ∷ word) = cond (byte == 45) (neg_ℤ (pos (digits_value 10 word))) (pos (digits_value 10 (byte ∷ word)))

integer_is : (word : List ℕ) (z : ℤ) → IsInteger word z → z ≡ integer_of word
unfolding integer_of
integer_is [] z (plain w n is) = absurd (omega (arith, is.some))
integer_is (byte ∷ word) z (plain w n is) = rw (digit_starts byte word is.digits) (ap pos (sym is.value))
integer_is (byte ∷ word) z (minus w n is) = ap (λ k. neg_ℤ (pos k)) (sym is.value)

integer_begins : (word : List ℕ) (z : ℤ) → IsInteger word z → get_or word 0 0 ≤ 57
integer_begins word z (plain w n is) = omega (arith, digit_at word 0 (numerals.to word is.digits) is.some)
integer_begins word z (minus w n is) = omega arith

error_begins : (e : ErrorValue) → 97 ≤ get_or (spelled (Error e)) 0 0
error_begins Undef = omega arith
error_begins MissElt = omega arith
error_begins PosOver = omega arith
error_begins NegOver = omega arith
error_begins Unknown = omega arith
error_begins ZeroDivide = omega arith

truth_begins : (b : Bool) → 97 ≤ get_or (spelled (Truth b)) 0 0
truth_begins true = omega arith
truth_begins false = omega arith

no_integer : (word text : List ℕ) (z : ℤ) → IsInteger word z → 97 ≤ get_or text 0 0 → ¬ (word ≡ text)
no_integer word text z is h e = omega (arith, integer_begins word z is, ap (λ w. get_or w 0 0) e, h)

one_spelled : (word : List ℕ) (v w : Value) → Spells word v → Spells word w → v ≡ w
one_spelled word (Int y) (Int z) p q = ap Int (integer_is word y p.0 ∙ sym (integer_is word z q.0))
one_spelled word (Int y) (Truth b) p q = absurd (no_integer word (spelled (Truth b)) y p.0 (truth_begins b) q)
one_spelled word (Int y) (Error e) p q = absurd (no_integer word (spelled (Error e)) y p.0 (error_begins e) q)
one_spelled word (Truth b) (Int z) p q = absurd (no_integer word (spelled (Truth b)) z q.0 (truth_begins b) p)
one_spelled word (Error e) (Int z) p q = absurd (no_integer word (spelled (Error e)) z q.0 (error_begins e) p)
one_spelled word (Truth a) (Truth b) p q = one_value (Truth a) (Truth b) tt tt (sym p ∙ q)
one_spelled word (Truth a) (Error e) p q = one_value (Truth a) (Error e) tt tt (sym p ∙ q)
one_spelled word (Error e) (Truth b) p q = one_value (Error e) (Truth b) tt tt (sym p ∙ q)
one_spelled word (Error e) (Error f) p q = one_value (Error e) (Error f) tt tt (sym p ∙ q)

all_spelled : (ws : List (List ℕ)) (us vs : List Value) → AllZip Spells ws us → AllZip Spells ws vs → us ≡ vs
all_spelled [] [] [] p q = refl
all_spelled [] [] (v ∷ vs) p q = absurd q
all_spelled [] (u ∷ us) vs p q = absurd p
all_spelled (w ∷ ws) [] vs p q = absurd p
all_spelled (w ∷ ws) (u ∷ us) [] p q = absurd q
all_spelled (w ∷ ws) (u ∷ us) (v ∷ vs) p q = λ i. one_spelled w u v p.0 q.0 i ∷ all_spelled ws us vs p.1 q.1 i

-- ---- a line is one assignment at most

same_head : (x y : List ℕ) → x ∷ [] ≡ y ∷ [] → x ≡ y
same_head x y e = cc

record Same (m n : List ℕ) (us vs : List Value) : Type 0 where
  names : m ≡ n
  values : us ≡ vs

same_assignment : (line m n : List ℕ) (us vs : List Value) → IsAssignment line m us → IsAssignment line n vs → Same m n us vs
same_assignment line m n us vs a b = record {
  names = same_head m n (sym a.named.alone ∙ b.named.alone);
  values = all_spelled (words Blanks (after_first is_sign line)) us vs a.spelled b.spelled;
}

-- ---- an input is open under one name at most

record SameInput (j k : ℕ) (d e : InputDecl) : Type 0 where
  places : j ≡ k
  decls : d ≡ e

same_input : (decls : List InputDecl) (given : Given) (m n : List ℕ) (j k : ℕ) (d e : InputDecl) → HaveOwnNames decls → m ≡ n → IsOpen decls given m j d → IsOpen decls given n k e → SameInput j k d e
same_input decls given m n j k d e names same o p =
    let place : j ≡ k = names.differ j k d e o.declared p.declared (o.named ∙ same ∙ sym p.named) in
    let there : Some d ≡ Some e = sym (subst (λ i. slice_get decls i ≡ Some d) place o.declared) ∙ p.declared in
    record { places = place; decls = cc }

-- ---- a line is taken in one way, or refused in one

module _ (decls : List InputDecl) (names : HaveOwnNames decls) (given : Given) (line : List ℕ) where
  takes_one : (a b : Given) → TakesLine decls given line a → TakesLine decls given line b → a ≡ b
  takes_one a b (idle i p) (idle j q) = p ∙ sym q
  takes_one a b (idle i p) (gives n vs k d x o v q) = absurd (true≢false (sym i ∙ x.active))
  takes_one a b (gives n vs k d x o v q) (idle i p) = absurd (true≢false (sym i ∙ x.active))
  takes_one a b (gives m us j d x o u p) (gives n vs k e y r v q) =
      let same = same_assignment line m n us vs x y in
      let input = same_input decls given m n j k d e names same.names o r in
      p ∙ ap (λ i. set given i (Some us)) input.places ∙ ap (λ ws. set given k (Some ws)) same.values ∙ sym q

  takes_or_refuses : (a : Given) (number : ℕ) (answer : InputAnswer) → TakesLine decls given line a → ¬ RefusesLine decls given line number answer
  takes_or_refuses a number answer (idle i p) (malformed active none e) = true≢false (sym i ∙ active)
  takes_or_refuses a number answer (idle i p) (unwanted n vs x none e) = true≢false (sym i ∙ x.active)
  takes_or_refuses a number answer (idle i p) (mistyped n vs k d x o not e) = true≢false (sym i ∙ x.active)
  takes_or_refuses a number answer (idle i p) (miscounted n vs k d x o types not e) = true≢false (sym i ∙ x.active)
  takes_or_refuses a number answer (gives m us j d x o u p) (malformed active none e) = none m us x
  takes_or_refuses a number answer (gives m us j d x o u p) (unwanted n vs y none e) =
      none j d (subst (λ name. IsOpen decls given name j d) (same_assignment line m n us vs x y).names o)
  takes_or_refuses a number answer (gives m us j d x o u p) (mistyped n vs k f y r not e) =
      let same = same_assignment line m n us vs x y in
      let input = same_input decls given m n j k d f names same.names o r in
      not (subst (λ g. All (HasType g.basic) vs) input.decls (subst (All (HasType d.basic)) same.values u.types))
  takes_or_refuses a number answer (gives m us j d x o u p) (miscounted n vs k f y r types not e) =
      let same = same_assignment line m n us vs x y in
      let input = same_input decls given m n j k d f names same.names o r in
      not (ap length (sym same.values) ∙ u.count ∙ ap (λ g. g.length) input.decls)

  refuses_one : (number : ℕ) (a b : InputAnswer) → RefusesLine decls given line number a → RefusesLine decls given line number b → a ≡ b
  refuses_one number a b (malformed active none p) (malformed other no_one q) = p ∙ sym q
  refuses_one number a b (malformed active none p) (unwanted n vs x absent q) = absurd (none n vs x)
  refuses_one number a b (malformed active none p) (mistyped n vs k d x o not q) = absurd (none n vs x)
  refuses_one number a b (malformed active none p) (miscounted n vs k d x o types not q) = absurd (none n vs x)
  refuses_one number a b (unwanted n vs x absent q) (malformed active none p) = absurd (none n vs x)
  refuses_one number a b (mistyped n vs k d x o not q) (malformed active none p) = absurd (none n vs x)
  refuses_one number a b (miscounted n vs k d x o types not q) (malformed active none p) = absurd (none n vs x)
  refuses_one number a b (unwanted m us x absent p) (unwanted n vs y missing q) = p ∙ sym q
  refuses_one number a b (unwanted m us x absent p) (mistyped n vs k d y o not q) =
      absurd (absent k d (subst (λ name. IsOpen decls given name k d) (sym (same_assignment line m n us vs x y).names) o))
  refuses_one number a b (unwanted m us x absent p) (miscounted n vs k d y o types not q) =
      absurd (absent k d (subst (λ name. IsOpen decls given name k d) (sym (same_assignment line m n us vs x y).names) o))
  refuses_one number a b (mistyped n vs k d y o not q) (unwanted m us x absent p) =
      absurd (absent k d (subst (λ name. IsOpen decls given name k d) (sym (same_assignment line m n us vs x y).names) o))
  refuses_one number a b (miscounted n vs k d y o types not q) (unwanted m us x absent p) =
      absurd (absent k d (subst (λ name. IsOpen decls given name k d) (sym (same_assignment line m n us vs x y).names) o))
  refuses_one number a b (mistyped m us j d x o not p) (mistyped n vs k f y r other q) = p ∙ sym q
  refuses_one number a b (mistyped m us j d x o not p) (miscounted n vs k f y r types other q) =
      let same = same_assignment line m n us vs x y in
      let input = same_input decls given m n j k d f names same.names o r in
      absurd (not (subst (λ g. All (HasType g.basic) us) (sym input.decls) (subst (All (HasType f.basic)) (sym same.values) types)))
  refuses_one number a b (miscounted n vs k f y r types other q) (mistyped m us j d x o not p) =
      let same = same_assignment line m n us vs x y in
      let input = same_input decls given m n j k d f names same.names o r in
      absurd (not (subst (λ g. All (HasType g.basic) us) (sym input.decls) (subst (All (HasType f.basic)) (sym same.values) types)))
  refuses_one number a b (miscounted m us j d x o types not p) (miscounted n vs k f y r kinds other q) =
      let same = same_assignment line m n us vs x y in
      let input = same_input decls given m n j k d f names same.names o r in
      p ∙ ap (λ name. WrongLength name (length us) d.length) same.names ∙ ap (λ ws. WrongLength n (length ws) d.length) same.values
      ∙ ap (λ g. WrongLength n (length vs) g.length) input.decls ∙ sym q

-- ---- all lines

module _ (decls : List InputDecl) (names : HaveOwnNames decls) where
  lines_one : (start : Given) (ls : List (List ℕ)) (a b : Given) → TakesLines decls start ls a → TakesLines decls start ls b → a ≡ b
  lines_one start [] a b p q = p ∙ sym q
  lines_one start (line ∷ ls) a b p q =
      let same = takes_one decls names start line p.0 q.0 p.1 q.1 in
      lines_one p.0 ls a b p.2 (subst (λ g. TakesLines decls g ls b) (sym same) q.2)

  -- where a line is refused, not all are taken
  refused_or_taken : (start : Given) (before : List (List ℕ)) (line : List ℕ) (behind : List (List ℕ)) (given after : Given) (number : ℕ) (answer : InputAnswer)
      → TakesLines decls start before given → RefusesLine decls given line number answer → ¬ TakesLines decls start (before ++ line ∷ behind) after
  refused_or_taken start [] line behind given after number answer t r all =
      takes_or_refuses decls names start line all.0 number answer all.1 (subst (λ g. RefusesLine decls g line number answer) t r)
  refused_or_taken start (first ∷ before) line behind given after number answer t r all =
      let same = takes_one decls names start first t.0 all.0 t.1 all.1 in
      refused_or_taken t.0 before line behind given after number answer t.2 r (subst (λ g. TakesLines decls g (before ++ line ∷ behind) after) (sym same) all.2)

  record SamePlace (before others : List (List ℕ)) (line other : List ℕ) : Type 0 where
    fronts : before ≡ others
    lines : line ≡ other

  same_place : (start : Given) (before others : List (List ℕ)) (line other : List ℕ) (behind rest : List (List ℕ)) (given now : Given) (m n : ℕ) (a b : InputAnswer)
      → TakesLines decls start before given → RefusesLine decls given line m a → TakesLines decls start others now → RefusesLine decls now other n b
      → before ++ line ∷ behind ≡ others ++ other ∷ rest → SamePlace before others line other
  same_place start [] [] line other behind rest given now m n a b p r q s e = record { fronts = refl; lines = cc }
  same_place start [] (first ∷ others) line other behind rest given now m n a b p r q s e =
      let same : line ≡ first = cc in
      absurd (takes_or_refuses decls names start line q.0 m a (subst (λ l. TakesLine decls start l q.0) (sym same) q.1) (subst (λ g. RefusesLine decls g line m a) p r))
  same_place start (first ∷ before) [] line other behind rest given now m n a b p r q s e =
      let same : first ≡ other = cc in
      absurd (takes_or_refuses decls names start other p.0 n b (subst (λ l. TakesLine decls start l p.0) same p.1) (subst (λ g. RefusesLine decls g other n b) q s))
  same_place start (first ∷ before) (second ∷ others) line other behind rest given now m n a b p r q s e =
      let same : first ≡ second = cc in
      let tails : before ++ line ∷ behind ≡ others ++ other ∷ rest = cc in
      let next = takes_one decls names start first p.0 q.0 p.1 (subst (λ l. TakesLine decls start l q.0) (sym same) q.1) in
      let h = same_place p.0 before others line other behind rest given now m n a b p.2 r (subst (λ g. TakesLines decls g others now) (sym next) q.2) s tails in
      record { fronts = λ i. same i ∷ h.fronts i; lines = h.lines }

  first_one : (given : Given) (j k : ℕ) (d e : InputDecl) → IsFirstMissing decls given j d → IsFirstMissing decls given k e → d ≡ e
  first_one given j k d e p q =
      ⊎_elim
      (λ same. let there : Some d ≡ Some e = sym (subst (λ i. slice_get decls i ≡ Some d) same p.declared) ∙ q.declared in cc)
      (λ apart. ⊎_elim (λ less. absurd (q.first j less p.missing)) (λ more. absurd (p.first k more q.missing)) apart)
      (cases_order j k)

  refused_one : (all : List (List ℕ)) (a b : InputAnswer) → IsRefused decls all a → IsRefused decls all b → a ≡ b
  refused_one all a b (line_refused before line behind given e t r) (line_refused others other rest now f u s) =
      let same = same_place (nothing_given decls) before others line other behind rest given now _ _ a b t r u s (sym e ∙ f) in
      let states : given ≡ now = lines_one (nothing_given decls) before given now t (subst (λ ls. TakesLines decls (nothing_given decls) ls now) (sym same.fronts) u) in
      let moved : RefusesLine decls given line (length before + 1) b =
      subst (λ ls. RefusesLine decls given line (length ls + 1) b) (sym same.fronts)
      (subst (λ l. RefusesLine decls given l (length others + 1) b) (sym same.lines) (subst (λ g. RefusesLine decls g other (length others + 1) b) (sym states) s)) in
      refuses_one decls names given line (length before + 1) a b r moved
  refused_one all a b (line_refused before line behind given e t r) (input_missing now k d u p f) =
      absurd (refused_or_taken (nothing_given decls) before line behind given now (length before + 1) a t r (subst (λ ls. TakesLines decls (nothing_given decls) ls now) e u))
  refused_one all a b (input_missing now k d u p f) (line_refused before line behind given e t r) =
      absurd (refused_or_taken (nothing_given decls) before line behind given now (length before + 1) b t r (subst (λ ls. TakesLines decls (nothing_given decls) ls now) e u))
  refused_one all a b (input_missing given j d t p e) (input_missing now k f u q g) =
      let states : now ≡ given = lines_one (nothing_given decls) all now given u t in
      e ∙ ap (λ x. MissingInput x.name) (first_one given j k d f p (subst (λ h. IsFirstMissing decls h k f) states q)) ∙ sym g

  none_missing : (lists : List (List Value)) (k : ℕ) → ¬ (slice_get (map (λ values. Some values) lists) k ≡ Some None)
  none_missing [] k e = cc
  none_missing (values ∷ lists) zero e = let same : Some (Some values) ≡ Some None = e in cc
  none_missing (values ∷ lists) (suc k) e = none_missing lists k e

  read_or_refused : (all : List (List ℕ)) (lists : List (List Value)) (a : InputAnswer) → TakesLines decls (nothing_given decls) all (map (λ values. Some values) lists) → ¬ IsRefused decls all a
  read_or_refused all lists a taken (line_refused before line behind given e t r) =
      refused_or_taken (nothing_given decls) before line behind given (map (λ values. Some values) lists) (length before + 1) a t r (subst (λ ls. TakesLines decls (nothing_given decls) ls (map (λ values. Some values) lists)) e taken)
  read_or_refused all lists a taken (input_missing given k d t p e) =
      none_missing lists k (subst (λ g. slice_get g k ≡ Some None) (lines_one (nothing_given decls) all given (map (λ values. Some values) lists) t taken) p.missing)

  same_lists : (us vs : List (List Value)) → map (λ values. Some values) us ≡ map (λ values. Some values) vs → us ≡ vs
  same_lists [] [] e = refl
  same_lists [] (v ∷ vs) e = absurd (cc)
  same_lists (u ∷ us) [] e = absurd (cc)
  same_lists (u ∷ us) (v ∷ vs) e =
      let heads : Some u ≡ Some v = cc in
      let first : u ≡ v = cc in
      let tails : map (λ values. Some values) us ≡ map (λ values. Some values) vs = cc in
      λ i. first i ∷ same_lists us vs tails i

  pub one_reading : (text : List ℕ) (a b : Result (List (List Value)) InputAnswer) → ReadsInputs text decls a → ReadsInputs text decls b → a ≡ b
  one_reading text (Ok us) (Ok vs) p q = ap Ok (same_lists us vs (lines_one (nothing_given decls) (lines text) (map (λ values. Some values) us) (map (λ values. Some values) vs) p q))
  one_reading text (Ok us) (Err b) p q = absurd (read_or_refused (lines text) us b p q)
  one_reading text (Err a) (Ok vs) p q = absurd (read_or_refused (lines text) vs a q p)
  one_reading text (Err a) (Err b) p q = ap Err (refused_one (lines text) a b p q)
