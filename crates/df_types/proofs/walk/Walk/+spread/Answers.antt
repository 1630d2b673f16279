use Rattle.std.proofs.Common.{◌≡◌, refl, sym, ◌∙◌, ap, map, List, None}
use Rattle.df_syntax.specs.declared.tree.Sort.{Sort}
use Rattle.df_syntax.specs.Demands.{first_refusal}
use Rattle.df_types.specs.Demands.{Demand}
use Rattle.df_names.specs.Found.{names_of}
use Rattle.df_types.specs.Scopes.{Names, bound, unbound}
use Rattle.df_types.specs.Types.{look_of, body_demands, definition_demands, locals, typed}
use Rattle.df_types.proofs.Looks.{parens, let_whole, is_one}
use Rattle.df_types.proofs.Restored.{defined_typed, restored}
use Rattle.df_types.proofs.Steps.{left, handed_on, refused_2, holds_2}
use Rattle.df_types.proofs.walk.Walk.+spread.Goals as goal

pub spread-returns-in-Parens : goal.spread-returns-in-Parens
spread-returns-in-Parens t c = rw (parens c.args.self.now.functions.now c.args.expr.now c.in-Parens.of (sym c.get.ensures ∙ c.in-Parens.is)) c.spread.ensures

pub spread-returns-in_err-define-in-Let : goal.spread-returns-in_err-define-in-Let
spread-returns-in_err-define-in-Let t c =
    rw (let_whole c.args.self.now.functions.now c.args.expr.now c.in-Let.definitions c.in-Let.values (sym c.get.ensures ∙ c.in-Let.is), defined_typed (look_of c.args.self.now.functions.now) c.in-Let.definitions) (handed_on _ _ _ _ _ _ c.from_residual.ensures.1 (left (definition_demands (typed (look_of c.args.self.now.functions.now) c.in-Let.definitions) (names_of c.args.scope.now)) ((body_demands (map (look_of c.args.self.now.functions.now) c.in-Let.values) c.args.results.now) (bound (locals c.in-Let.definitions) (names_of c.args.scope.now))) _ (rw c.as_slice.ensures at c.in_err-define-in-Let.ensures)))

pub spread-returns-in_err-whole-in-Let : goal.spread-returns-in_err-whole-in-Let
spread-returns-in_err-whole-in-Let t c =
    let defined_ : first_refusal (definition_demands (typed (look_of c.args.self.now.functions.now) c.in-Let.definitions) (names_of c.args.scope.now)) ≡ None = rw c.as_slice.ensures at c.in_ok-define-in-Let.ensures.holds in
    let inner : names_of c.define.new.scope ≡ (bound (locals c.in-Let.definitions) (names_of c.args.scope.now)) = rw c.as_slice.ensures at c.in_ok-define-in-Let.ensures.names_are in
    rw (let_whole c.args.self.now.functions.now c.args.expr.now c.in-Let.definitions c.in-Let.values (sym c.get.ensures ∙ c.in-Let.is), defined_typed (look_of c.args.self.now.functions.now) c.in-Let.definitions) (handed_on _ _ _ _ _ _ c.from_residual-in_err-whole-in-Let.ensures.1 (refused_2 (definition_demands (typed (look_of c.args.self.now.functions.now) c.in-Let.definitions) (names_of c.args.scope.now)) (body_demands (map (look_of c.args.self.now.functions.now) c.in-Let.values) c.args.results.now) (bound (locals c.in-Let.definitions) (names_of c.args.scope.now)) c.define.new.scope _ defined_ inner (rw c.as_slice-in-Let.ensures at c.in_err-whole-in-Let.ensures)))

pub spread-returns-in_ok-whole-in-Let : goal.spread-returns-in_ok-whole-in-Let
spread-returns-in_ok-whole-in-Let t c =
    let defined_ : first_refusal (definition_demands (typed (look_of c.args.self.now.functions.now) c.in-Let.definitions) (names_of c.args.scope.now)) ≡ None = rw c.as_slice.ensures at c.in_ok-define-in-Let.ensures.holds in
    let inner : names_of c.define.new.scope ≡ (bound (locals c.in-Let.definitions) (names_of c.args.scope.now)) = rw c.as_slice.ensures at c.in_ok-define-in-Let.ensures.names_are in
    let left_ : names_of c.forget.new.scope ≡ unbound (locals c.in-Let.definitions) (names_of c.whole.new.scope) = rw c.as_slice-in-Let-2.ensures at c.forget.ensures in
    rw (let_whole c.args.self.now.functions.now c.args.expr.now c.in-Let.definitions c.in-Let.values (sym c.get.ensures ∙ c.in-Let.is), defined_typed (look_of c.args.self.now.functions.now) c.in-Let.definitions) (record {
      holds = holds_2 (definition_demands (typed (look_of c.args.self.now.functions.now) c.in-Let.definitions) (names_of c.args.scope.now)) (body_demands (map (look_of c.args.self.now.functions.now) c.in-Let.values) c.args.results.now) (bound (locals c.in-Let.definitions) (names_of c.args.scope.now)) c.define.new.scope defined_ inner (rw c.as_slice-in-Let.ensures at c.in_ok-whole-in-Let.ensures.holds);
      value_is = refl;
      names_are = left_ ∙ (ap (unbound (locals c.in-Let.definitions)) (c.in_ok-whole-in-Let.ensures.names_are ∙ inner) ∙ restored (look_of c.args.self.now.functions.now) c.in-Let.definitions (names_of c.args.scope.now) defined_);
    })

pub spread-returns-in_default : goal.spread-returns-in_default
spread-returns-in_default t c =
    let one = is_one c.args.self.now.functions.now c.args.expr.now (λ of is. c.in_default.not-Parens of (c.get.ensures ∙ is)) (λ ds values is. c.in_default.not-Let ds values (c.get.ensures ∙ is)) in
    λ _. ap (λ (ds : List Sort → Names → List Demand). first_refusal (ds c.args.results.now (names_of c.args.scope.now))) one.spread_is
