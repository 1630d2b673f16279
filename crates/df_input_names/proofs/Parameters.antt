-- The names of the parameters of a source are those of name tokens.
use Rattle.std.proofs.Common.{◌≡◌, ◌∙◌, ℤ, List, [], ◌∷◌, ◌++◌, map, reverse, IsTrue, refl, sym, ap, subst, inl, inr}
use Rattle.std.specs.List.{AllByRecursion}
use Rattle.std.proofs.lemmas.List.{reverse-append}
use Rattle.df_forms.specs.Form.{Whole, Parts, row}
use Rattle.df_values.specs.declared.inputs.Input.{Input}
use Rattle.df_celltext.specs.Writable.{is_name}
use Rattle.df_syntax.specs.declared.symbol.Symbol.{Symbol}
use Rattle.df_syntax.specs.declared.symbol.Symbol.TheVariants as s
use Rattle.df_syntax.specs.declared.word.Reserved.TheVariants as r
use Rattle.df_syntax.specs.declared.token.Token.{Token}
use Rattle.df_syntax.specs.declared.token.TokenKind.{TokenKind}
use Rattle.df_syntax.specs.declared.token.TokenKind.TheVariants as kind
use Rattle.df_syntax.specs.declared.tree.Named.{Named}
use Rattle.df_syntax.specs.declared.tree.Sort.{Sort}
use Rattle.df_syntax.specs.declared.tree.Sort.TheVariants as of
use Rattle.df_syntax.specs.declared.tree.Expr.{Expr}
use Rattle.df_syntax.specs.declared.tree.Parameter.{Parameter}
use Rattle.df_syntax.specs.declared.program.Function.{Function}
use Rattle.df_syntax.specs.declared.program.Range.{Range}
use Rattle.df_syntax.specs.declared.program.Program.{Program}
use Rattle.df_syntax.specs.TokenClasses.{Class, name, class, class_of, code}
use Rattle.df_syntax.specs.Parses.{ParsesExpr}
use Rattle.df_syntax.specs.Grammar as g
use Rattle.df_syntax.specs.Grammar.{Line, symbol, word, behind, before, listed, in_parens}
use Rattle.df_syntax.specs.SourceMeaning.{input_of, inputs_of, bound_value, main_inputs, source_inputs}
use Rattle.df_syntax.specs.SourceForms.{Constants, constants_of}
use Rattle.df_input_names.specs.Laws.{InputsAreNamed}
use Rattle.df_input_names.proofs.Words.{IsNamed, AreNamed, tokens_are_named}

abbrev Derives : {A : Type 0} → Line A → List Token → A → Type 0
Derives f w a = Whole class ParsesExpr f w a

-- ---- parts of a text

first_named : (xs ys : List Token) → AreNamed (xs ++ ys) → AreNamed xs
first_named [] ys h = tt
first_named (x ∷ xs) ys h = (h.0, first_named xs ys h.1)

last_named : (xs ys : List Token) → AreNamed (xs ++ ys) → AreNamed ys
last_named [] ys h = h
last_named (x ∷ xs) ys h = last_named xs ys h.1

left_named : (w u v : List Token) → w ≡ u ++ v → AreNamed w → AreNamed u
left_named w u v parts named = first_named u v (subst AreNamed parts named)

right_named : (w u v : List Token) → w ≡ u ++ v → AreNamed w → AreNamed v
right_named w u v parts named = last_named u v (subst AreNamed parts named)

-- ---- lists

every_append : {A : Type 0} (P : A → Type 0) (xs ys : List A) → AllByRecursion P xs → AllByRecursion P ys → AllByRecursion P (xs ++ ys)
every_append P [] ys a b = b
every_append P (x ∷ xs) ys a b = (a.0, every_append P xs ys a.1 b)

every_reverse : {A : Type 0} (P : A → Type 0) (xs : List A) → AllByRecursion P xs → AllByRecursion P (reverse xs)
every_reverse P [] all = tt
every_reverse P (x ∷ xs) all =
    subst (AllByRecursion P) (sym (reverse-append (x ∷ []) xs)) (every_append P (reverse xs) (x ∷ []) (every_reverse P xs all.1) (all.0, tt))

-- what a line derives of a text with such names is so
abbrev Keeps : {A : Type 0} → Line A → (A → Type 0) → Type 0
Keeps {A = A} f P = (w : List Token) (a : A) → AreNamed w → Derives f w a → P a

-- zero or more lines behind a symbol
several_keep : {A : Type 0} (f : Line A) (P : A → Type 0) (x : Symbol) → Keeps f P → (w : List Token) (all : List A) → AreNamed w
    → Parts (Derives (behind (symbol x) f)) w all → AllByRecursion P all
several_keep f P x keeps w [] named parts = tt
several_keep f P x keeps w (a ∷ all) named (u, v, parts, (pair, is, (p, q, two, sign, whole)), rest) =
    let first = left_named w u v parts named in
    (subst P (sym is) (keeps q pair.1 (right_named u p q two first) whole), several_keep f P x keeps v all (right_named w u v parts named) rest)

listed_keep : {A : Type 0} (f : Line A) (P : A → Type 0) (x : Symbol) → Keeps f P → Keeps (listed x f) (AllByRecursion P)
listed_keep f P x keeps w all named (pair, is, (u, v, parts, first, rest)) =
    subst (AllByRecursion P) (sym is) (keeps u pair.0 (left_named w u v parts named) first, several_keep f P x keeps v pair.1 (right_named w u v parts named) rest)

-- ---- names

abbrev HasName : Named → Type 0
HasName bound = IsTrue (is_name bound.name)

abbrev HasParameter : Parameter → Type 0
HasParameter p = HasName p.name

-- no two classes have one code
abbrev pub CodesDiffer : Type 0
CodesDiffer = (a b : Class) → code a ≡ code b → a ≡ b

kind_named : (k : TokenKind) → class_of k ≡ name → IsNamed k → IsTrue (is_name (g.name_in k))
kind_named (kind.Name n) is named = named
kind_named (kind.Number n) is named = cc
kind_named (kind.Unsupported n) is named = cc
kind_named (kind.Reserved w) is named = cc
kind_named (kind.Symbol x) is named = cc

module _ (differ : CodesDiffer) where
  bound_keep : Keeps g.bound HasName
  unfolding g.bound class
  bound_keep w b named (t, is, (one, same)) =
      let all = subst AreNamed one named in
      subst HasName (sym is) (kind_named t.kind (differ (class_of t.kind) name same) all.0)

  -- ---- parameters

  group_keep : Keeps g.group (AllByRecursion HasParameter)
  unfolding g.group g.names
  group_keep w ps named (pair, is, (u, v, parts, first, rest)) =
      subst (AllByRecursion HasParameter) (sym is) (alike pair.1 pair.0 (listed_keep g.bound HasName s.Comma bound_keep u pair.0 (left_named w u v parts named) first))
    where
      alike : (sort : Sort) (names : List Named) → AllByRecursion HasName names → AllByRecursion HasParameter (map (g.parameter_of sort) names)
      alike sort [] all = tt
      alike sort (n ∷ names) all = (all.0, alike sort names all.1)

  groups_keep : (gs : List (List Parameter)) → AllByRecursion (AllByRecursion HasParameter) gs → AllByRecursion HasParameter (g.all_of gs)
  groups_keep [] all = tt
  groups_keep (ps ∷ gs) all = every_append HasParameter ps (g.all_of gs) all.0 (groups_keep gs all.1)

  declared_keep : Keeps g.declared (AllByRecursion HasParameter)
  unfolding g.declared g.parameters g.groups
  declared_keep w ps named (inl (gs, is, whole)) =
      subst (AllByRecursion HasParameter) (sym is) (groups_keep gs (listed_keep g.group (AllByRecursion HasParameter) s.Semicolon group_keep w gs named whole))
  declared_keep w ps named (inr whole) = subst (AllByRecursion HasParameter) (sym whole.1) tt

  -- ---- functions and sources

  abbrev HasParameters : Function → Type 0
  HasParameters f = AllByRecursion HasParameter f.parameters

  in_parens_keep : {A : Type 0} (f : Line A) (P : A → Type 0) → Keeps f P → Keeps (in_parens f) P
  in_parens_keep f P keeps w a named (pair, is, (u, v, parts, sign, (inner, same, (x, y, two, whole, last)))) =
      subst P (sym (is ∙ same)) (keeps x inner.0 (left_named v x y two (right_named w u v parts named)) whole)

  row_keep : {A B : Type 0} (f : Line A) (h : Line B) (P : A → Type 0) → Keeps f P → Keeps (row f h) (λ p. P p.0)
  row_keep f h P keeps w p named (u, v, parts, first, rest) = keeps u p.0 (left_named w u v parts named) first

  function_keep : Keeps g.function HasParameters
  unfolding g.function
  function_keep w f named (p, is, (pair, same, (u, v, parts, sign, (x, y, two, bound, (a, b, three, inside, rest))))) =
      let around = right_named v x y two (right_named w u v parts named) in
      let told = in_parens_keep (row g.declared (behind (word r.Returns) g.results)) (λ q. AllByRecursion HasParameter q.0)
      (row_keep g.declared (behind (word r.Returns) g.results) (AllByRecursion HasParameter) declared_keep) a pair.1.1.0 (left_named y a b three around) inside in
      subst HasParameters (sym (is ∙ ap (λ q. g.function_of q.0 q.1.0.0 q.1.0.1 q.1.1) same)) told

  functions_keep : Keeps g.functions (AllByRecursion HasParameters)
  unfolding g.functions
  functions_keep w fs named (pair, is, (u, v, parts, first, rest)) =
      subst (AllByRecursion HasParameters) (sym is) (function_keep u pair.0 (left_named w u v parts named) first, several_functions v pair.1 (right_named w u v parts named) rest)
    where
      several_functions : (w : List Token) (all : List Function) → AreNamed w → Parts (Derives g.function) w all → AllByRecursion HasParameters all
      several_functions w [] named parts = tt
      several_functions w (f ∷ all) named (u, v, parts, first, rest) =
          (function_keep u f (left_named w u v parts named) first, several_functions v all (right_named w u v parts named) rest)

  source_keep : Keeps g.source (λ (p : Program). AllByRecursion HasParameters p.functions)
  unfolding g.source
  source_keep w p named (q, is, (u, v, parts, first, (x, y, two, second, third))) =
      subst (λ (q : Program). AllByRecursion HasParameters q.functions) (sym is) (functions_keep y q.1.1 (right_named v x y two (right_named w u v parts named)) third)

  -- ---- inputs

  abbrev IsNamedInput : Input → Type 0
  IsNamedInput i = IsTrue (is_name i.name)

  input_named : (value : Expr → ℤ) (ranges : List Range) (p : Parameter) → HasParameter p → IsNamedInput (input_of value ranges p)
  input_named value ranges p named = by p.sort refl
    where
      by : (x : Sort) → p.sort ≡ x → IsNamedInput (input_of value ranges p)
      by (of.Basic b) is = rw is named
      by (of.Array b) is = rw is named

  inputs_named : (value : Expr → ℤ) (ranges : List Range) (ps : List Parameter) → AllByRecursion HasParameter ps → AllByRecursion IsNamedInput (inputs_of value ranges ps)
  inputs_named value ranges [] all = tt
  inputs_named value ranges (p ∷ ps) all = (input_named value ranges p all.0, inputs_named value ranges ps all.1)

  main_named : (constants : Constants) (ranges : List Range) (fs : List Function) → AllByRecursion HasParameters fs → AllByRecursion IsNamedInput (main_inputs constants ranges fs)
  main_named constants ranges [] all = tt
  main_named constants ranges (main ∷ others) all = inputs_named (bound_value constants) ranges main.parameters all.0

  pub source_named : InputsAreNamed
  unfolding source_inputs
  source_named text list tree splits source =
      let functions = source_keep list.tokens tree (tokens_are_named text list.tokens list.end splits) source.parses in
      main_named (constants_of tree) tree.ranges (reverse tree.functions) (every_reverse HasParameters tree.functions functions)
