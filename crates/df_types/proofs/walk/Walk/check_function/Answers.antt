use Rattle.std.proofs.Common.{◌≡◌, refl, ◌∙◌, ap, None}
use Rattle.df_syntax.specs.Demands.{first_refusal}
use Rattle.df_names.specs.Found.{names_of}
use Rattle.df_types.specs.Scopes.{bound, unbound}
use Rattle.df_types.specs.Sources.{fresh_demands, parameters, results_demands}
use Rattle.df_types.proofs.PassSteps.{unbound_fresh}
use Rattle.df_types.proofs.Steps.{left, handed_on, refused_2, holds_2}
use Rattle.df_types.proofs.walk.Walk.check_function.Goals as goal

pub returns-in_err-bind_parameters : goal.returns-in_err-bind_parameters
returns-in_err-bind_parameters c = handed_on _ _ _ _ _ _ c.from_residual.ensures.1 (left (fresh_demands (parameters c.args.function.now.parameters) (names_of c.args.scope.now)) ((results_demands c.args.self.now.functions.now c.args.is_last c.args.function.now) (bound (parameters c.args.function.now.parameters) (names_of c.args.scope.now))) _ (rw c.as_slice.ensures at c.in_err-bind_parameters.ensures))

pub returns-in_err-check_results : goal.returns-in_err-check_results
returns-in_err-check_results c =
    let new : first_refusal (fresh_demands (parameters c.args.function.now.parameters) (names_of c.args.scope.now)) ≡ None = rw c.as_slice.ensures at c.in_ok-bind_parameters.ensures.holds in
    let inner : names_of c.bind_parameters.new.scope ≡ (bound (parameters c.args.function.now.parameters) (names_of c.args.scope.now)) = rw c.as_slice.ensures at c.in_ok-bind_parameters.ensures.names_are in
    handed_on _ _ _ _ _ _ c.from_residual-in_err-check_results.ensures.1 (refused_2 (fresh_demands (parameters c.args.function.now.parameters) (names_of c.args.scope.now)) (results_demands c.args.self.now.functions.now c.args.is_last c.args.function.now) (bound (parameters c.args.function.now.parameters) (names_of c.args.scope.now)) c.bind_parameters.new.scope _ new inner c.in_err-check_results.ensures)

pub returns : goal.returns
returns c =
    let new : first_refusal (fresh_demands (parameters c.args.function.now.parameters) (names_of c.args.scope.now)) ≡ None = rw c.as_slice.ensures at c.in_ok-bind_parameters.ensures.holds in
    let inner : names_of c.bind_parameters.new.scope ≡ (bound (parameters c.args.function.now.parameters) (names_of c.args.scope.now)) = rw c.as_slice.ensures at c.in_ok-bind_parameters.ensures.names_are in
    let left_ : names_of c.forget_parameters.new.scope ≡ unbound (parameters c.args.function.now.parameters) (names_of c.check_results.new.scope) = rw c.as_slice-2.ensures at c.forget_parameters.ensures in
    record {
      holds = holds_2 (fresh_demands (parameters c.args.function.now.parameters) (names_of c.args.scope.now)) (results_demands c.args.self.now.functions.now c.args.is_last c.args.function.now) (bound (parameters c.args.function.now.parameters) (names_of c.args.scope.now)) c.bind_parameters.new.scope new inner c.in_ok-check_results.ensures.holds;
      value_is = refl;
      names_are = left_ ∙ (ap (unbound (parameters c.args.function.now.parameters)) (c.in_ok-check_results.ensures.names_are ∙ inner) ∙ unbound_fresh (parameters c.args.function.now.parameters) (names_of c.args.scope.now) new);
    }
