-- The type that each form has in blocks, from the types of its parts, where what is demanded of its types holds.
use Rattle.std.proofs.Common.{arith, ◌≡◌, ℕ, zero, suc, ◌==◌, Bool, true, false, ◌&&◌, ◌||◌, List, [], ◌∷◌, ◌++◌, map, length, refl, sym, ◌∙◌, ap, subst, Option, Some, None}
use Rattle.std.specs.Option.{is_some}
use Rattle.std.specs.List.{list_all, list_any}
use Rattle.std.proofs.lemmas.Bool.{and_from, and_parts, eqb-true, or_parts, not-true}
use Rattle.df_values.specs.declared.values.Basic as basic
use Rattle.df_values.specs.declared.values.Basic.TheVariants.{Integer, Boolean}
use Rattle.df_values.specs.declared.kinds.Op.{Op}
use Rattle.df_values.specs.declared.kinds.Op.TheVariants as op
use Rattle.df_values.specs.declared.kinds.Rel.{Rel}
use Rattle.df_values.specs.declared.kinds.Rel.TheVariants as rel
use Rattle.df_values.specs.declared.kinds.Test.{Test}
use Rattle.df_values.specs.declared.kinds.Test.TheVariants as test
use Rattle.df_syntax.specs.declared.tree.Sort.{Sort}
use Rattle.df_syntax.specs.declared.tree.Sort.TheVariants as of
use Rattle.df_syntax.specs.declared.tree.Parameter.{Parameter}
use Rattle.df_syntax.specs.declared.tree.Expr.{Expr}
use Rattle.df_syntax.specs.declared.tree.Link.{Link}
use Rattle.df_syntax.specs.declared.tree.Arm.{Arm}
use Rattle.df_syntax.specs.declared.program.Function.{Function}
use Rattle.df_syntax.specs.Demands.{first_refusal}
use Rattle.df_syntax.specs.SourceForms.{is_array as is_array_sort}
use Rattle.df_syntax.specs.WellBuilt.{level_of, has_one_level, is_two_place}
use Rattle.df_syntax.specs.WellShaped as shaped
use Rattle.df_syntax.specs.WellShaped.{same, is_of, is_alike, when, operand_type, joined_type, may_compare, may_test, arguments_fit, only_result}
use Rattle.df_syntax.proofs.FirstRefusals.{begin_holds, rest_holds, head_holds}
use Rattle.df_types.specs.declared.answers.CheckAnswer.TheVariants.{WrongType}
use Rattle.df_types.specs.Demands.{Demand, demand}
use Rattle.df_types.specs.Scopes.{Names}
use Rattle.df_types.specs.Sorts.{integer, boolean, is_same, is_basic, is_array, operator_sort, chain_sort, is_equality, is_of_any}
use Rattle.df_types.specs.Types.{Look, look_of, asked, asked_basic, asked_operand, operand_sort, asked_each, asked_links, asked_arms, if_sort, first_sort}
use Rattle.df_shape.specs.Sources.{is_scalar_function, are_several}

-- ---- sorts

same_itself : (b : basic.Basic) → same b b ≡ true
same_itself Integer = refl
same_itself Boolean = refl

pub is_of_itself : (b : basic.Basic) (o : Option basic.Basic) → o ≡ Some b → is_of b o ≡ true
is_of_itself b o is = ap (is_of b) is ∙ same_itself b

pub alike_both : (b : basic.Basic) (o p : Option basic.Basic) → o ≡ Some b → p ≡ Some b → is_alike o p ≡ true
alike_both b o p is at = ap (λ x. is_alike x p) is ∙ is_of_itself b p at

pub same_sort : (s : Sort) (b : basic.Basic) → is_same s (of.Basic b) ≡ true → s ≡ of.Basic b
same_sort (of.Basic Integer) Integer h = refl
same_sort (of.Basic Boolean) Boolean h = refl
same_sort (of.Basic Integer) Boolean h = absurd (cc)
same_sort (of.Basic Boolean) Integer h = absurd (cc)
same_sort (of.Array c) b h = absurd (cc)

pub same_array : (s : Sort) (b : basic.Basic) → is_same s (of.Array b) ≡ true → s ≡ of.Array b
same_array (of.Array Integer) Integer h = refl
same_array (of.Array Boolean) Boolean h = refl
same_array (of.Array Integer) Boolean h = absurd (cc)
same_array (of.Array Boolean) Integer h = absurd (cc)
same_array (of.Basic c) b h = absurd (cc)

-- the basic type that a sort is
abbrev basic_of : Sort → Option basic.Basic
basic_of (of.Basic b) = Some b
basic_of (of.Array b) = None

pub the_same : (b c : basic.Basic) → of.Basic b ≡ of.Basic c → Some b ≡ Some c
the_same b c is = ap basic_of is

pub basic_is : (s : Sort) → is_basic s ≡ true → (b : basic.Basic) × (s ≡ of.Basic b)
basic_is (of.Basic b) h = (b, refl)
basic_is (of.Array b) h = absurd (cc)

pub array_is : (s : Sort) → is_array s ≡ true → (b : basic.Basic) × (s ≡ of.Array b)
array_is (of.Array b) h = (b, refl)
array_is (of.Basic b) h = absurd (cc)

pub no_array : (s : Sort) → is_array_sort s ≡ false → (b : basic.Basic) × (s ≡ of.Basic b)
no_array (of.Basic b) h = (b, refl)
no_array (of.Array b) h = absurd (cc)

only_one : (results : List Sort) (b : basic.Basic) → length results ≡ 1 → first_sort results ≡ of.Basic b → only_result results ≡ Some b
only_one [] b h is = absurd (omega (arith, h))
only_one (s ∷ []) b h is = ap (λ (t : Sort). only_result (t ∷ [])) is
only_one (s ∷ t ∷ results) b h is = absurd (omega (arith, h))

-- ---- operators

-- the type of operands at a level of the grammar
abbrev level_type : ℕ → basic.Basic
level_type zero = Integer
level_type (suc zero) = Boolean
level_type (suc (suc zero)) = Boolean
level_type (suc (suc (suc l))) = Integer

by_level : (o : Op) → operand_type o ≡ level_type (level_of o)
by_level op.Or = refl
by_level op.And = refl
by_level op.Add = refl
by_level op.Sub = refl
by_level op.Mul = refl
by_level op.Div = refl
by_level op.Mod = refl
by_level op.Min = refl
by_level op.Max = refl

pub operand_is : (o : Op) → operator_sort o ≡ of.Basic (operand_type o)
operand_is op.Or = refl
operand_is op.And = refl
operand_is op.Add = refl
operand_is op.Sub = refl
operand_is op.Mul = refl
operand_is op.Div = refl
operand_is op.Mod = refl
operand_is op.Min = refl
operand_is op.Max = refl

joined_is : (o : Op) (c : basic.Basic) (a b : Option basic.Basic) → operand_type o ≡ c → a ≡ Some c → b ≡ Some c → joined_type o a b ≡ Some c
joined_is o c a b at is so =
    subst (λ (t : basic.Basic). a ≡ Some t → b ≡ Some t → joined_type o a b ≡ Some t) at
    (λ first second. ap (λ t. when t (operand_type o)) (and_from (is_of (operand_type o) a) (is_of (operand_type o) b) (is_of_itself _ a first) (is_of_itself _ b second))) is so

-- ---- parts

module _ (all : List Function) (told_in : Expr → Option basic.Basic) (scope : Names) where
  abbrev l : Expr → Look
  l = look_of all

  -- An expression of a basic type has it in blocks.
  abbrev pub Has : Expr → Type 0
  Has e = (b : basic.Basic) → (look_of all e).sort scope ≡ of.Basic b → told_in e ≡ Some b

  abbrev pub Holds : List Demand → Type 0
  Holds ds = first_refusal ds ≡ None

  pub asked_is : (part : Look) (c : basic.Basic) → Holds (asked part (of.Basic c) scope) → part.sort scope ≡ of.Basic c
  asked_is part c h =
      same_sort (part.sort scope) c
      (head_holds (demand (is_same (part.sort scope) (of.Basic c)) (WrongType part.place)) []
      (rest_holds (part.demands scope) (demand (is_same (part.sort scope) (of.Basic c)) (WrongType part.place) ∷ []) h))

  pub asked_has : (e : Expr) (c : basic.Basic) → Has e → Holds (asked (l e) (of.Basic c) scope) → told_in e ≡ Some c
  asked_has e c has h = has c (asked_is (l e) c h)

  pub asked_as : (e : Expr) (s : Sort) (c : basic.Basic) → Has e → s ≡ of.Basic c → Holds (asked (l e) s scope) → told_in e ≡ Some c
  asked_as e s c has is h = asked_has e c has (subst (λ (t : Sort). Holds (asked (l e) t scope)) is h)

  basic_has : (e : Expr) → Has e → Holds (asked_basic (l e) scope) → (c : basic.Basic) × ((l e).sort scope ≡ of.Basic c) × (told_in e ≡ Some c)
  basic_has e has h =
      let found = basic_is ((l e).sort scope) (head_holds (demand (is_basic ((l e).sort scope)) (WrongType (l e).place)) []
      (rest_holds ((l e).demands scope) (demand (is_basic ((l e).sort scope)) (WrongType (l e).place) ∷ []) h)) in
      (found.0, found.1, has found.0 found.1)

  -- ---- chains

  abbrev linked : List Link → List (Op × Look)
  linked rest = map (λ (k : Link). (k.op, l k.operand)) rest

  abbrev pub LinksHave : List Link → Type 0
  LinksHave [] = Unit {0}
  LinksHave (k ∷ rest) = Has k.operand × LinksHave rest

  abbrev pub link_types : Option basic.Basic → List Link → Option basic.Basic
  link_types a [] = a
  link_types a (k ∷ rest) = link_types (joined_type k.op a (told_in k.operand)) rest

  links_have : (c : basic.Basic) (rest : List Link) (a : Option basic.Basic) → list_all (λ (k : Link). same (operand_type k.op) c) rest ≡ true → LinksHave rest → a ≡ Some c
      → Holds (asked_links (of.Basic c) (linked rest) scope) → link_types a rest ≡ Some c
  links_have c [] a level have is h = is
  links_have c (k ∷ rest) a level have is h =
      let tests = and_parts (same (operand_type k.op) c) (list_all (λ (k : Link). same (operand_type k.op) c) rest) level in
      let here = asked_has k.operand c have.0 (begin_holds (asked (l k.operand) (of.Basic c) scope) (asked_links (of.Basic c) (linked rest) scope) h) in
      links_have c rest (joined_type k.op a (told_in k.operand)) tests.1 have.1 (joined_is k.op c a (told_in k.operand) (same_is (operand_type k.op) c tests.0) is here)
      (rest_holds (asked (l k.operand) (of.Basic c) scope) (asked_links (of.Basic c) (linked rest) scope) h)
    where
      same_is : (a b : basic.Basic) → same a b ≡ true → a ≡ b
      same_is Integer Integer h = refl
      same_is Boolean Boolean h = refl
      same_is Integer Boolean h = absurd (cc)
      same_is Boolean Integer h = absurd (cc)

  one_type : (o : Op) (rest : List Link) → list_all (λ p. level_of p == level_of o) (map (λ (k : Link). k.op) rest) ≡ true
      → list_all (λ (k : Link). same (operand_type k.op) (operand_type o)) rest ≡ true
  one_type o [] h = refl
  one_type o (k ∷ rest) h =
      let tests = and_parts (level_of k.op == level_of o) (list_all (λ p. level_of p == level_of o) (map (λ (k : Link). k.op) rest)) h in
      let level : level_of k.op ≡ level_of o = eqb-true (level_of k.op) (level_of o) tests.0 in
      let equal : operand_type k.op ≡ operand_type o = by_level k.op ∙ (ap level_type level ∙ sym (by_level o)) in
      and_from _ _ (subst (λ t. same (operand_type k.op) t ≡ true) equal (same_itself (operand_type k.op))) (one_type o rest tests.1)

  pub chain_has : (first : Expr) (rest : List Link) → has_one_level (map (λ (k : Link). k.op) rest) ≡ true → Has first → LinksHave rest
      → Holds (asked (l first) (chain_sort (linked rest)) scope ++ asked_links (chain_sort (linked rest)) (linked rest) scope)
      → (b : basic.Basic) → chain_sort (linked rest) ≡ of.Basic b → link_types (told_in first) rest ≡ Some b
  chain_has first [] level has have h b is = absurd (cc)
  chain_has first (k ∷ rest) level has have h b is =
      let c = operand_type k.op in
      let h' = subst (λ (s : Sort). Holds (asked (l first) s scope ++ asked_links s (linked (k ∷ rest)) scope)) (operand_is k.op) h in
      let start = asked_has first c has (begin_holds (asked (l first) (of.Basic c) scope) (asked_links (of.Basic c) (linked (k ∷ rest)) scope) h') in
      let ops = (and_parts _ (list_all (λ p. level_of p == level_of k.op) (map (λ (k : Link). k.op) rest)) level).1 in
      links_have c (k ∷ rest) (told_in first) (and_from _ _ (same_itself c) (one_type k.op rest ops)) have start
      (rest_holds (asked (l first) (of.Basic c) scope) (asked_links (of.Basic c) (linked (k ∷ rest)) scope) h')
      ∙ the_same c b (sym (operand_is k.op) ∙ is)

  -- ---- comparisons, tests and functions of one and two operands

  two_have : (left right : Expr) (c d : basic.Basic) → Has left → Has right → Holds (asked (l left) (of.Basic c) scope ++ asked (l right) (of.Basic d) scope)
      → (told_in left ≡ Some c) × (told_in right ≡ Some d)
  two_have left right c d a b h = (
    asked_has left c a (begin_holds (asked (l left) (of.Basic c) scope) (asked (l right) (of.Basic d) scope) h),
    asked_has right d b (rest_holds (asked (l left) (of.Basic c) scope) (asked (l right) (of.Basic d) scope) h),
  )

  alike_have : (left right : Expr) → Has left → Has right → Holds (asked_basic (l left) scope ++ asked (l right) ((l left).sort scope) scope)
      → is_alike (told_in left) (told_in right) ≡ true
  alike_have left right a b h =
      let first = basic_has left a (begin_holds (asked_basic (l left) scope) (asked (l right) ((l left).sort scope) scope) h) in
      alike_both first.0 (told_in left) (told_in right) first.2
      (asked_as right ((l left).sort scope) first.0 b first.1 (rest_holds (asked_basic (l left) scope) (asked (l right) ((l left).sort scope) scope) h))

  integers_have : (left right : Expr) → Has left → Has right → Holds (asked (l left) integer scope ++ asked (l right) integer scope)
      → (is_of Integer (told_in left) && is_of Integer (told_in right)) ≡ true
  integers_have left right a b h = let both = two_have left right Integer Integer a b h in and_from _ _ (is_of_itself Integer _ both.0) (is_of_itself Integer _ both.1)

  pub may_be_compared : (r : Rel) (left right : Expr) → Has left → Has right
      → Holds (asked_operand (is_equality r) (l left) scope ++ asked (l right) (operand_sort (is_equality r) (l left) scope) scope) → may_compare r (told_in left) (told_in right) ≡ true
  may_be_compared rel.Eq left right a b h = alike_have left right a b h
  may_be_compared rel.Ne left right a b h = alike_have left right a b h
  may_be_compared rel.Lt left right a b h = integers_have left right a b h
  may_be_compared rel.Le left right a b h = integers_have left right a b h
  may_be_compared rel.Gt left right a b h = integers_have left right a b h
  may_be_compared rel.Ge left right a b h = integers_have left right a b h

  pub may_be_tested : (t : Test) (of : Expr) → Has of → Holds (asked_operand (is_of_any t) (l of) scope) → may_test t (told_in of) ≡ true
  may_be_tested test.Undef of a h = ap is_some (basic_has of a h).2
  may_be_tested test.MissElt of a h = ap is_some (basic_has of a h).2
  may_be_tested test.Error of a h = ap is_some (basic_has of a h).2
  may_be_tested test.PosOver of a h = is_of_itself Integer _ (asked_has of Integer a h)
  may_be_tested test.NegOver of a h = is_of_itself Integer _ (asked_has of Integer a h)
  may_be_tested test.Unknown of a h = is_of_itself Integer _ (asked_has of Integer a h)
  may_be_tested test.ZeroDivide of a h = is_of_itself Integer _ (asked_has of Integer a h)

  integers_alone : (o : Op) → is_two_place o ≡ true → operand_type o ≡ Integer
  integers_alone op.Mod h = refl
  integers_alone op.Min h = refl
  integers_alone op.Max h = refl
  integers_alone op.Or h = absurd (cc)
  integers_alone op.And h = absurd (cc)
  integers_alone op.Add h = refl
  integers_alone op.Sub h = refl
  integers_alone op.Mul h = refl
  integers_alone op.Div h = refl

  pub two_place_has : (o : Op) (left right : Expr) → is_two_place o ≡ true → Has left → Has right → Holds (asked (l left) integer scope ++ asked (l right) integer scope)
      → joined_type o (told_in left) (told_in right) ≡ Some Integer
  two_place_has o left right two a b h = let both = two_have left right Integer Integer a b h in joined_is o Integer _ _ (integers_alone o two) both.0 both.1

  -- ---- conditionals

  abbrev armed : List Arm → List (Look × Look)
  armed arms = map (λ (a : Arm). (l a.test, l a.value)) arms

  abbrev pub ArmsHave : List Arm → Type 0
  ArmsHave [] = Unit {0}
  ArmsHave (a ∷ arms) = (Has a.test × Has a.value) × ArmsHave arms

  abbrev pub arms_fit : Option basic.Basic → List Arm → Bool
  arms_fit last arms = list_all (λ (a : Arm). is_of Boolean (told_in a.test) && is_alike (told_in a.value) last) arms

  arms_have : (c : basic.Basic) (last : Option basic.Basic) (arms : List Arm) → last ≡ Some c → ArmsHave arms → Holds (asked_arms (of.Basic c) (armed arms) scope) → arms_fit last arms ≡ true
  arms_have c last [] is have h = refl
  arms_have c last (a ∷ arms) is have h =
      let one = asked (l a.test) boolean scope ++ asked (l a.value) (of.Basic c) scope in
      let both = two_have a.test a.value Boolean c have.0.0 have.0.1 (begin_holds one (asked_arms (of.Basic c) (armed arms) scope) h) in
      and_from _ _ (and_from _ _ (is_of_itself Boolean _ both.0) (alike_both c _ _ both.1 is)) (arms_have c last arms is have.1 (rest_holds one (asked_arms (of.Basic c) (armed arms) scope) h))

  pub if_has : (arms : List Arm) (last : Expr) → ArmsHave arms → Has last
      → Holds (asked_arms (if_sort (armed arms) (l last) scope) (armed arms) scope ++ asked (l last) (if_sort (armed arms) (l last) scope) scope)
      → (b : basic.Basic) → if_sort (armed arms) (l last) scope ≡ of.Basic b → (arms_fit (told_in last) arms ≡ true) × (told_in last ≡ Some b)
  if_has arms last have has h b is =
      let h' = subst (λ (s : Sort). Holds (asked_arms s (armed arms) scope ++ asked (l last) s scope)) is h in
      let end = asked_has last b has (rest_holds (asked_arms (of.Basic b) (armed arms) scope) (asked (l last) (of.Basic b) scope) h') in
      (arms_have b (told_in last) arms end have (begin_holds (asked_arms (of.Basic b) (armed arms) scope) (asked (l last) (of.Basic b) scope) h'), end)

  -- ---- calls

  abbrev pub AllHave : List Expr → Type 0
  AllHave [] = Unit {0}
  AllHave (e ∷ es) = Has e × AllHave es

  arguments_have : (ps : List Parameter) (es : List Expr) → AllHave es → length (map l es) ≡ length ps → list_any (λ (p : Parameter). is_array_sort p.sort) ps ≡ false
      → Holds (asked_each (map l es) (map (λ p. p.sort) ps) scope) → arguments_fit ps (map told_in es) ≡ true
  arguments_have [] [] have many none h = refl
  arguments_have [] (e ∷ es) have many none h = absurd (omega (arith, many))
  arguments_have (p ∷ ps) [] have many none h = absurd (omega (arith, many))
  arguments_have (p ∷ ps) (e ∷ es) have many none h =
      let parts = or_parts (is_array_sort p.sort) (list_any (λ (p : Parameter). is_array_sort p.sort) ps) none in
      let c = no_array p.sort parts.0 in
      let here = asked_as e p.sort c.0 have.0 c.1 (begin_holds (asked (l e) p.sort scope) (asked_each (map l es) (map (λ p. p.sort) ps) scope) h) in
      and_from _ _ (subst (λ (s : Sort). shaped.is_basic s (told_in e) ≡ true) (sym c.1) (is_of_itself c.0 _ here))
      (arguments_have ps es have.1 (omega (arith, many)) parts.1 (rest_holds (asked (l e) p.sort scope) (asked_each (map l es) (map (λ p. p.sort) ps) scope) h))

  -- a function that takes scalars and gives one has a type where its arguments fit
  pub call_has : (f : Function) (es : List Expr) → is_scalar_function f ≡ true → AllHave es → (length (map l es) == length f.parameters && length f.results == 1) ≡ true
      → Holds (asked_each (map l es) (map (λ p. p.sort) f.parameters) scope)
      → (b : basic.Basic) → first_sort f.results ≡ of.Basic b → (arguments_fit f.parameters (map told_in es) ≡ true) × (only_result f.results ≡ Some b)
  call_has f es scalar have many h b is =
      let parts = or_parts (list_any (λ (p : Parameter). is_array_sort p.sort) f.parameters) (list_any is_array_sort f.results || are_several f.results) (not-true _ scalar) in
      let counts = and_parts (length (map l es) == length f.parameters) (length f.results == 1) many in
      (arguments_have f.parameters es have (eqb-true _ _ counts.0) parts.0 h, only_one f.results b (eqb-true _ _ counts.1) is)
