use Rattle.std.proofs.Common.{◌∙◌, drop, map, get_or, refl}
use Rattle.df_names.specs.Found.{names_of}
use Rattle.df_types.specs.Sorts.{integer}
use Rattle.df_types.specs.Types.{look_of, asked, asked_each}
use Rattle.df_types.proofs.PassSteps.{asked_none, result_step, result_stop}
use Rattle.df_types.proofs.Steps.{handed_on, moved, moved_refused, refused_as}
use Rattle.std.proofs.lemmas.List.{drop_all}
use Rattle.df_types.proofs.walk.Walk.each.Goals as goal

pub returns-then-i-results : goal.returns-then-i-results
returns-then-i-results c = record {
  holds = c.loop-i.invariant.left ∙ asked_none (map (look_of c.args.self.now.functions.now) (drop c.loop-i.i c.args.values.now)) (drop c.loop-i.i c.args.results.now) (names_of c.args.scope.now) (drop_all c.loop-i.i c.args.results.now c.if-i-results.true);
  value_is = refl;
  names_are = c.loop-i.invariant.kept;
}

pub returns-in_err-ask : goal.returns-in_err-ask
returns-in_err-ask c =
    handed_on _ _ _ _ _ _ c.from_residual.ensures.1 (refused_as (asked_each (map (look_of c.args.self.now.functions.now) c.args.values.now) c.args.results.now (names_of c.args.scope.now)) (asked_each (map (look_of c.args.self.now.functions.now) (drop c.loop-i.i c.args.values.now)) (drop c.loop-i.i c.args.results.now) (names_of c.args.scope.now)) _ c.loop-i.invariant.left
    (result_stop (look_of c.args.self.now.functions.now) (names_of c.args.scope.now) c.args.values.now c.args.results.now c.loop-i.i c.index-values-i.result integer _ c.loop-i-test.true c.if-i-results.false c.index-values-i.is (moved_refused (asked (look_of c.args.self.now.functions.now c.index-values-i.result) (get_or c.args.results.now c.loop-i.i integer)) (names_of c.loop-i.scope) (names_of c.args.scope.now) _ c.loop-i.invariant.kept c.in_err-ask.ensures)))

pub loop-i-preserved : goal.loop-i-preserved
loop-i-preserved c = record {
  left = c.loop-i.invariant.left ∙ result_step (look_of c.args.self.now.functions.now) (names_of c.args.scope.now) c.args.values.now c.args.results.now c.loop-i.i c.index-values-i.result integer c.loop-i-test.true c.if-i-results.false c.index-values-i.is (moved (asked (look_of c.args.self.now.functions.now c.index-values-i.result) (get_or c.args.results.now c.loop-i.i integer)) (names_of c.loop-i.scope) (names_of c.args.scope.now) c.loop-i.invariant.kept c.in_ok-ask.ensures.holds);
  kept = c.in_ok-ask.ensures.names_are ∙ c.loop-i.invariant.kept;
}
