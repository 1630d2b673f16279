-- The term of each form, by what its node holds.
use Rattle.std.proofs.Common.{◌≡◌, ◌∙◌, ap, sym, refl, ℤ, Bool, List, [], ◌∷◌, map, fold}
use Rattle.df_values.specs.declared.kinds.Op.{Op}
use Rattle.df_values.specs.declared.kinds.Rel.{Rel}
use Rattle.df_values.specs.declared.kinds.Test.{Test}
use Rattle.df_values.specs.declared.kinds.Binary.TheVariants.{Operation, Comparison}
use Rattle.df_values.specs.declared.kinds.Unary.TheVariants.{Negation, Inversion, Inquiry}
use Rattle.df_values.specs.declared.values.Value.TheVariants.{Int, Truth, Error}
use Rattle.df_values.specs.declared.values.ErrorValue.{ErrorValue}
use Rattle.df_values.specs.declared.values.Basic.{Basic}
use Rattle.df_syntax.specs.declared.tree.Named.{Named}
use Rattle.df_syntax.specs.declared.tree.Expr.{Expr}
use Rattle.df_syntax.specs.declared.tree.Link.{Link}
use Rattle.df_syntax.specs.declared.tree.Arm.{Arm}
use Rattle.df_syntax.specs.declared.tree.Assign.{Assign}
use Rattle.df_syntax.specs.declared.tree.Definition.{Definition}
use Rattle.df_syntax.specs.declared.tree.Node.TheVariants as n
use Rattle.df_syntax.specs.declared.tree.Node.TheOpen.{Node-F}
use Rattle.df_syntax.specs.Meaning.{Name}
use Rattle.df_syntax.specs.WellShaped.{look_of}
use Rattle.df_core.specs.declared.terms.Step.{Step}
use Rattle.df_core.specs.declared.terms.Branch.{Branch}
use Rattle.df_core.specs.declared.terms.Term.TheVariants as t
use Rattle.df_flattened.specs.Flattened.{Scope, Bodies, Beside, undef, named, accessed, subscript, pair, define, let_of, called, flatten}
use Rattle.df_flattened.proofs.FormsKept.{flat_form}
use Rattle.df_inline.specs.Lowered.{step_of, branch_of, besides, listed}

module _ (bodies : Bodies) (scope : Scope) (e : Expr) where
  pub number : (v : ℤ) → e.node ≡ n.Number v → flatten bodies e scope ≡ t.Constant (Int v)
  number v is = flat_form bodies e (Node-F.Number v) scope (is ∙ sym (n.rolls-Number v))

  pub truth : (v : Bool) → e.node ≡ n.Truth v → flatten bodies e scope ≡ t.Constant (Truth v)
  truth v is = flat_form bodies e (Node-F.Truth v) scope (is ∙ sym (n.rolls-Truth v))

  pub error : (v : ErrorValue) (b : Basic) → e.node ≡ n.Error v b → flatten bodies e scope ≡ t.Constant (Error v)
  error v b is = flat_form bodies e (Node-F.Error v b) scope (is ∙ sym (n.rolls-Error v b))

  pub name_is : (name : Name) → e.node ≡ n.Name name → flatten bodies e scope ≡ named (scope.names name)
  name_is name is = flat_form bodies e (Node-F.Name name) scope (is ∙ sym (n.rolls-Name name))

  pub access : (name : Name) (at : Expr) → e.node ≡ n.Access name at → flatten bodies e scope ≡ accessed (scope.names name) (subscript scope.index (look_of at))
  access name at is = flat_form bodies e (Node-F.Access name at) scope (is ∙ sym (n.rolls-Access name at))

  pub call : (name : Name) (arguments : List Expr) → e.node ≡ n.Call name arguments → flatten bodies e scope ≡ called scope (besides bodies arguments) (bodies name)
  call name arguments is = flat_form bodies e (Node-F.Call name arguments) scope (is ∙ sym (n.rolls-Call name arguments))

  steps_same : (rest : List Link) → map (λ (l : Op × Beside). record { with = Operation l.0; operand = l.1.1 scope }) (map (λ (l : Link). (l.op, (l.operand, flatten bodies l.operand))) rest) ≡ map (step_of bodies scope) rest
  steps_same [] = refl
  steps_same (l ∷ rest) = ap (λ (s : List Step). step_of bodies scope l ∷ s) (steps_same rest)

  pub chain : (first : Expr) (rest : List Link) → e.node ≡ n.Chain first rest → flatten bodies e scope ≡ t.Chain (flatten bodies first scope) (map (step_of bodies scope) rest)
  chain first rest is =
      flat_form bodies e (Node-F.Chain first rest) scope (is ∙ sym (n.rolls-Chain first rest)) ∙ ap (t.Chain (flatten bodies first scope)) (steps_same rest)

  pub compare : (rel : Rel) (left right : Expr) → e.node ≡ n.Compare rel left right → flatten bodies e scope ≡ pair (flatten bodies left scope) (Comparison rel) (flatten bodies right scope)
  compare rel left right is = flat_form bodies e (Node-F.Compare rel left right) scope (is ∙ sym (n.rolls-Compare rel left right))

  pub two_place : (op : Op) (left right : Expr) → e.node ≡ n.TwoPlace op left right → flatten bodies e scope ≡ pair (flatten bodies left scope) (Operation op) (flatten bodies right scope)
  two_place op left right is = flat_form bodies e (Node-F.TwoPlace op left right) scope (is ∙ sym (n.rolls-TwoPlace op left right))

  pub negate : (of : Expr) → e.node ≡ n.Negate of → flatten bodies e scope ≡ t.Change Negation (flatten bodies of scope)
  negate of is = flat_form bodies e (Node-F.Negate of) scope (is ∙ sym (n.rolls-Negate of))

  pub invert : (of : Expr) → e.node ≡ n.Invert of → flatten bodies e scope ≡ t.Change Inversion (flatten bodies of scope)
  invert of is = flat_form bodies e (Node-F.Invert of) scope (is ∙ sym (n.rolls-Invert of))

  pub tested : (test : Test) (of : Expr) → e.node ≡ n.Test test of → flatten bodies e scope ≡ t.Change (Inquiry test) (flatten bodies of scope)
  tested test of is = flat_form bodies e (Node-F.Test test of) scope (is ∙ sym (n.rolls-Test test of))

  pub parens : (of : Expr) → e.node ≡ n.Parens of → flatten bodies e scope ≡ flatten bodies of scope
  parens of is = flat_form bodies e (Node-F.Parens of) scope (is ∙ sym (n.rolls-Parens of))

  branches_same : (arms : List Arm)
      → map (λ (a : Beside × Beside). record { test = a.0.1 scope; value = a.1.1 scope }) (map (λ (a : Arm). ((a.test, flatten bodies a.test), (a.value, flatten bodies a.value))) arms) ≡ map (branch_of bodies scope) arms
  branches_same [] = refl
  branches_same (a ∷ arms) = ap (λ (s : List Branch). branch_of bodies scope a ∷ s) (branches_same arms)

  pub chosen : (arms : List Arm) (last : Expr) → e.node ≡ n.If arms last → flatten bodies e scope ≡ t.If (map (branch_of bodies scope) arms) (flatten bodies last scope)
  chosen arms last is =
      flat_form bodies e (Node-F.If arms last) scope (is ∙ sym (n.rolls-If arms last)) ∙ ap (λ b. t.If b (flatten bodies last scope)) (branches_same arms)

  pub let_is : (ds : List Definition) (es : List Expr) → e.node ≡ n.Let ds es → flatten bodies e scope ≡ let_of (fold define ([], scope) (listed bodies ds)) (besides bodies es)
  let_is ds es is = flat_form bodies e (Node-F.Let ds es) scope (is ∙ sym (n.rolls-Let ds es))

  pub no_construct : (index : Named) (low high elem : Expr) → e.node ≡ n.Construct index low high elem → flatten bodies e scope ≡ undef
  no_construct index low high elem is = flat_form bodies e (Node-F.Construct index low high elem) scope (is ∙ sym (n.rolls-Construct index low high elem))

  pub no_fold : (index : Named) (low high : Expr) (op : Op) (elem : Expr) → e.node ≡ n.Fold index low high op elem → flatten bodies e scope ≡ undef
  no_fold index low high op elem is = flat_form bodies e (Node-F.Fold index low high op elem) scope (is ∙ sym (n.rolls-Fold index low high op elem))

  pub no_for : (ds : List Definition) (test : Expr) (assigns : List Assign) (last : Expr) → e.node ≡ n.For ds test assigns last → flatten bodies e scope ≡ undef
  no_for ds test assigns last is = flat_form bodies e (Node-F.For ds test assigns last) scope (is ∙ sym (n.rolls-For ds test assigns last))

  pub no_array : (at value : Expr) → e.node ≡ n.Array at value → flatten bodies e scope ≡ undef
  no_array at value is = flat_form bodies e (Node-F.Array at value) scope (is ∙ sym (n.rolls-Array at value))

  pub no_update : (name : Name) (at value : Expr) → e.node ≡ n.Update name at value → flatten bodies e scope ≡ undef
  no_update name at value is = flat_form bodies e (Node-F.Update name at value) scope (is ∙ sym (n.rolls-Update name at value))

pub ruleset forms = (number, truth, error, compare, two_place, negate, invert, tested, parens, no_construct, no_fold, no_for, no_array, no_update)
