-- No loop stands in the terms of a flat program that is made of a program in blocks.
use Rattle.std.proofs.Common.{◌≡◌, ℕ, ℤ, List, [], ◌∷◌, map, fold, refl, ap, sym, ◌∙◌, Bool, true, false, if◌then◌else◌, ◌&&◌, Option, Some, None, bytes_eq}
use Rattle.std.specs.List.{list_all}
use Rattle.std.proofs.lemmas.List.Folds.{list_all-append}
use Rattle.df_values.specs.declared.kinds.Op.{Op}
use Rattle.df_values.specs.declared.kinds.Binary.{Binary}
use Rattle.df_values.specs.declared.kinds.Binary.TheVariants.{Operation, Comparison}
use Rattle.df_values.specs.declared.kinds.Unary.TheVariants.{Negation, Inversion, Inquiry}
use Rattle.df_values.specs.declared.values.Value.TheVariants.{Int, Truth, Error}
use Rattle.df_values.specs.declared.values.ErrorValue.TheVariants.{Undef}
use Rattle.df_syntax.specs.declared.tree.Expr.{Expr}
use Rattle.df_syntax.specs.declared.tree.Link.{Link}
use Rattle.df_syntax.specs.declared.tree.Arm.{Arm}
use Rattle.df_syntax.specs.declared.tree.Definition.{Definition}
use Rattle.df_syntax.specs.declared.tree.Node.{roll-Node}
use Rattle.df_syntax.specs.declared.tree.Node.TheOpen.{Node-F}
use Rattle.df_syntax.specs.declared.tree.Parameter.{Parameter}
use Rattle.df_syntax.specs.declared.program.Function.{Function}
use Rattle.df_syntax.specs.declared.piped.Body as piped
use Rattle.df_syntax.specs.declared.piped.Body.TheVariants as from
use Rattle.df_syntax.specs.Trees.{layer_of}
use Rattle.df_syntax.specs.TreeInduction.{Proved, without, tree_induction}
use Rattle.df_syntax.specs.Besides.{beside_rolled}
use Rattle.df_syntax.specs.Meaning.{Name}
use Rattle.df_core.specs.declared.terms.Term.{Term}
use Rattle.df_core.specs.declared.terms.Step.{Step}
use Rattle.df_core.specs.declared.terms.Branch.{Branch}
use Rattle.df_core.specs.Within.{has_no_loop, IsLoopless}
use Rattle.df_core.proofs.NoLoops.{two, no_constant, no_local, no_index, no_outer, no_element, no_previous, no_chain, no_change, no_if, no_let}
use Rattle.df_flattened.specs.Flattened.{Standing, Local, Index, Outer, Elements, Own, Scope, Bodies, Beside, pair, named, element, accessed, deeper, define, let_of, arguments_of, called, node_flattened, flatten, parameters_scope, only_body, bodies, alone, in_block, body_flattened}
use Rattle.df_names.specs.Maps.{Names, bind}

-- no loop stands in what a function's name gives
abbrev ArePlain : Bodies → Type 0
ArePlain called = (name : Name) (body : ℕ → Term) → called name ≡ Some body → (depth : ℕ) → has_no_loop (body depth) ≡ true

named_plain : (s : Option Standing) → has_no_loop (named s) ≡ true
named_plain (Some (Local k)) = no_local k
named_plain (Some Index) = no_index
named_plain (Some (Outer k)) = no_outer k
named_plain (Some (Elements k)) = no_constant (Error Undef)
named_plain (Some Own) = no_constant (Error Undef)
named_plain None = no_constant (Error Undef)

element_plain : (k : ℕ) (c : Option ℤ) → has_no_loop (element k c) ≡ true
element_plain k None = no_constant (Error Undef)
element_plain k (Some c) = no_element k c

accessed_plain : (s : Option Standing) (c : Option ℤ) → has_no_loop (accessed s c) ≡ true
accessed_plain (Some (Local k)) c = no_constant (Error Undef)
accessed_plain (Some Index) c = no_constant (Error Undef)
accessed_plain (Some (Outer k)) c = no_constant (Error Undef)
accessed_plain (Some (Elements k)) c = element_plain k c
accessed_plain (Some Own) c = no_previous
accessed_plain None c = no_constant (Error Undef)

module _ (given : Bodies) (plain : ArePlain given) where
  abbrev IsPlain : Expr → Type 0
  IsPlain e = (scope : Scope) → has_no_loop (flatten given e scope) ≡ true

  abbrev beside : Expr → Beside
  beside e = (e, flatten given e)

  arguments_plain : (arguments : List ((e : Expr) × IsPlain e)) (scope : Scope) → list_all has_no_loop (arguments_of scope (map beside (map (λ e. e.0) arguments))) ≡ true
  arguments_plain [] scope = refl
  arguments_plain (e ∷ arguments) scope = two (has_no_loop (flatten given e.0 scope)) _ (e.1 scope) (arguments_plain arguments (deeper scope))

  called_plain : (arguments : List ((e : Expr) × IsPlain e)) (scope : Scope) (name : Name) (body : Option (ℕ → Term)) → given name ≡ body
      → has_no_loop (called scope (map beside (map (λ e. e.0) arguments)) body) ≡ true
  called_plain arguments scope name None is = no_constant (Error Undef)
  called_plain arguments scope name (Some body) is = no_let _ (body scope.depth) (arguments_plain arguments scope) (plain name body is scope.depth)

  rest_plain : (rest : List ((l : Link) × IsPlain l.operand)) (scope : Scope)
      → list_all (λ (s : Step). has_no_loop s.operand)
      (map (λ (l : Op × Beside). record { with = Operation l.0; operand = l.1.1 scope }) (map (λ (l : Link). (l.op, beside l.operand)) (map (λ e. e.0) rest))) ≡ true
  rest_plain [] scope = refl
  rest_plain (e ∷ rest) scope = two (has_no_loop (flatten given e.0.operand scope)) _ (e.1 scope) (rest_plain rest scope)

  arms_plain : (arms : List ((a : Arm) × (IsPlain a.test × IsPlain a.value))) (scope : Scope)
      → list_all (λ (b : Branch). has_no_loop b.test && has_no_loop b.value)
      (map (λ (a : Beside × Beside). record { test = a.0.1 scope; value = a.1.1 scope }) (map (λ (a : Arm). (beside a.test, beside a.value)) (map (λ e. e.0) arms))) ≡ true
  arms_plain [] scope = refl
  arms_plain (e ∷ arms) scope =
      two (has_no_loop (flatten given e.0.test scope) && has_no_loop (flatten given e.0.value scope)) _
      (two (has_no_loop (flatten given e.0.test scope)) (has_no_loop (flatten given e.0.value scope)) (e.1.0 scope) (e.1.1 scope)) (arms_plain arms scope)

  definitions_plain : (definitions : List ((d : Definition) × IsPlain d.value)) (so_far : List Term × Scope) → list_all has_no_loop so_far.0 ≡ true
      → list_all has_no_loop (fold define so_far (map (λ (d : Definition). (d.name, d.sort, beside d.value)) (map (λ e. e.0) definitions))).0 ≡ true
  definitions_plain [] so_far all = all
  definitions_plain (e ∷ definitions) so_far all =
      definitions_plain definitions (define so_far (e.0.name, e.0.sort, beside e.0.value))
      (list_all-append has_no_loop so_far.0 (flatten given e.0.value so_far.1 ∷ [])
      ∙ two (list_all has_no_loop so_far.0) _ all (two (has_no_loop (flatten given e.0.value so_far.1)) true (e.1 so_far.1) refl))

  let_plain : (definitions : List Term × Scope) (values : List ((e : Expr) × IsPlain e)) → list_all has_no_loop definitions.0 ≡ true
      → has_no_loop (let_of definitions (map beside (map (λ e. e.0) values))) ≡ true
  let_plain definitions [] all = no_constant (Error Undef)
  let_plain definitions (e ∷ []) all = no_let definitions.0 (flatten given e.0 definitions.1) all (e.1 definitions.1)
  let_plain definitions (e ∷ second ∷ values) all = no_constant (Error Undef)

  pair_plain : (first : Term) (with : Binary) (operand : Term) → has_no_loop first ≡ true → has_no_loop operand ≡ true
      → has_no_loop (pair first with operand) ≡ true
  pair_plain first with operand one other = no_chain first (record { with = with; operand = operand } ∷ []) one (two (has_no_loop operand) true other refl)

  -- a form with these parts
  node_plain : (e : Expr) (y : Proved IsPlain) (scope : Scope) → has_no_loop (node_flattened given e (layer_of Beside beside (without IsPlain y)) scope) ≡ true
  node_plain e (Node-F.Number v) scope = no_constant (Int v)
  node_plain e (Node-F.Truth v) scope = no_constant (Truth v)
  node_plain e (Node-F.Error v basic) scope = no_constant (Error v)
  node_plain e (Node-F.Name name) scope = named_plain (scope.names name)
  node_plain e (Node-F.Access name at) scope = accessed_plain (scope.names name) _
  node_plain e (Node-F.Call name arguments) scope = called_plain arguments scope name (given name) refl
  node_plain e (Node-F.Chain first rest) scope = no_chain (flatten given first.0 scope) _ (first.1 scope) (rest_plain rest scope)
  node_plain e (Node-F.Compare rel left right) scope = pair_plain (flatten given left.0 scope) (Comparison rel) (flatten given right.0 scope) (left.1 scope) (right.1 scope)
  node_plain e (Node-F.TwoPlace op left right) scope = pair_plain (flatten given left.0 scope) (Operation op) (flatten given right.0 scope) (left.1 scope) (right.1 scope)
  node_plain e (Node-F.Negate of) scope = no_change Negation (flatten given of.0 scope) (of.1 scope)
  node_plain e (Node-F.Invert of) scope = no_change Inversion (flatten given of.0 scope) (of.1 scope)
  node_plain e (Node-F.Test test of) scope = no_change (Inquiry test) (flatten given of.0 scope) (of.1 scope)
  node_plain e (Node-F.Parens of) scope = of.1 scope
  node_plain e (Node-F.If arms last) scope = no_if _ (flatten given last.0 scope) (arms_plain arms scope) (last.1 scope)
  node_plain e (Node-F.Let definitions values) scope = let_plain _ values (definitions_plain definitions ([], scope) refl)
  node_plain e (Node-F.Construct index low high elem) scope = no_constant (Error Undef)
  node_plain e (Node-F.Fold index low high op elem) scope = no_constant (Error Undef)
  node_plain e (Node-F.For definitions test assigns last) scope = no_constant (Error Undef)
  node_plain e (Node-F.Array at value) scope = no_constant (Error Undef)
  node_plain e (Node-F.Update name at value) scope = no_constant (Error Undef)

  form_plain : (e : Expr) (y : Proved IsPlain) → e.node ≡ roll-Node (without IsPlain y) → IsPlain e
  unfolding flatten
  form_plain e y is scope =
      ap (λ (f : Scope → Term). has_no_loop (f scope)) (beside_rolled (Scope → Term) (node_flattened given) e (without IsPlain y) is) ∙ node_plain e y scope

  pub expression_plain : (e : Expr) → IsPlain e
  expression_plain = tree_induction IsPlain form_plain

-- ---- functions

only_plain : (lower : Expr → Scope → Term) → ((e : Expr) (scope : Scope) → has_no_loop (lower e scope) ≡ true) → (parameters : List Parameter) (values : List Expr)
    → (body : ℕ → Term) → only_body lower parameters values ≡ Some body → (depth : ℕ) → has_no_loop (body depth) ≡ true
only_plain lower all parameters [] body is depth = absurd (cc)
only_plain lower all parameters (value ∷ []) body is depth =
    let same : (λ (d : ℕ). lower value (parameters_scope d parameters)) ≡ body = cc in
    ap (λ (f : ℕ → Term). has_no_loop (f depth)) (sym same) ∙ all value (parameters_scope depth parameters)
only_plain lower all parameters (value ∷ second ∷ values) body is depth = absurd (cc)

pub bodies_plain : (functions : List Function) → ArePlain (bodies functions)
bodies_plain [] name body is depth = absurd (cc)
bodies_plain (f ∷ before) name body is depth = by (bytes_eq f.name.name name) (bodies_plain before) is where
  by : (b : Bool) → ArePlain (bodies before) → (if b then only_body (flatten (bodies before)) f.parameters f.values else bodies before name) ≡ Some body → has_no_loop (body depth) ≡ true
  by true plain at = only_plain (flatten (bodies before)) (expression_plain (bodies before) plain) f.parameters f.values body at depth
  by false plain at = plain name body at depth

-- ---- blocks

pub body_plain : (functions : List Function) (names : Names Standing) (b : piped.Body) → IsLoopless (body_flattened (flatten (bodies functions)) names b)
body_plain functions names (from.Construct index lo n elem) = expression_plain (bodies functions) (bodies_plain functions) elem (in_block names index)
body_plain functions names (from.Fold index op lo n elem) = expression_plain (bodies functions) (bodies_plain functions) elem (in_block names index)
body_plain functions names (from.Recur index array lo n first elem) =
    (expression_plain (bodies functions) (bodies_plain functions) first (alone names), expression_plain (bodies functions) (bodies_plain functions) elem (in_block (bind names array Own) index))
body_plain functions names (from.Scalar e) = expression_plain (bodies functions) (bodies_plain functions) e (alone names)
