use Rattle.std.proofs.Common.{refl, ◌∙◌, drop, length, ◌+◌, ◌==◌}
use Rattle.df_names.specs.Found.{names_of}
use Rattle.df_types.specs.Sources.{function_demands, functions_demands}
use Rattle.df_types.proofs.PassSteps.{last_one, function_step, function_stop}
use Rattle.df_types.proofs.Steps.{handed_on, moved, moved_refused, refused_as}
use Rattle.df_types.proofs.walk.Walk.check_functions.Goals as goal

pub returns-in_err-check_function : goal.returns-in_err-check_function
returns-in_err-check_function c =
    handed_on _ _ _ _ _ _ c.from_residual.ensures.1 (refused_as (functions_demands c.args.self.now.functions.now c.args.self.now.functions.now (names_of c.args.scope.now)) (functions_demands c.args.self.now.functions.now (drop c.loop-i.i c.args.self.now.functions.now) (names_of c.args.scope.now)) _ c.loop-i.invariant.left
    (function_stop c.args.self.now.functions.now c.args.self.now.functions.now c.loop-i.i c.function-item.result (names_of c.args.scope.now) _ c.loop-i-test.true c.function-item.is (rw (last_one c.args.self.now.functions.now c.loop-i.i (c.loop-i.i + 1 == length c.args.self.now.functions.now) c.loop-i-test.true refl) (moved_refused (function_demands c.args.self.now.functions.now (c.loop-i.i + 1 == length c.args.self.now.functions.now) c.function-item.result) (names_of c.loop-i.scope) (names_of c.args.scope.now) _ c.loop-i.invariant.kept c.in_err-check_function.ensures))))

pub loop-i-preserved : goal.loop-i-preserved
loop-i-preserved c = record {
  left = c.loop-i.invariant.left ∙ function_step c.args.self.now.functions.now c.args.self.now.functions.now c.loop-i.i c.function-item.result (names_of c.args.scope.now) c.loop-i-test.true c.function-item.is (rw (last_one c.args.self.now.functions.now c.loop-i.i (c.loop-i.i + 1 == length c.args.self.now.functions.now) c.loop-i-test.true refl) (moved (function_demands c.args.self.now.functions.now (c.loop-i.i + 1 == length c.args.self.now.functions.now) c.function-item.result) (names_of c.loop-i.scope) (names_of c.args.scope.now) c.loop-i.invariant.kept c.in_ok-check_function.ensures.holds));
  kept = c.in_ok-check_function.ensures.names_are ∙ c.loop-i.invariant.kept;
}
