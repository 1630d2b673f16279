use Rattle.std.proofs.Common.{◌+◌, ◌<◌, length, take, [], sym, ◌∙◌, ap, arith}
use Rattle.df_syntax.specs.Demands.{first_refusal}
use Rattle.df_names.specs.Found.{names_of}
use Rattle.df_shape.specs.declared.part.Part.TheVariants.{Inside}
use Rattle.df_shape.specs.Demands.{Around}
use Rattle.df_shape.specs.Sources.{callable_among, array_parameters, main_demands, functions_demands}
use Rattle.df_shape.specs.Functions.{is_in, function_in, main_in}
use Rattle.df_shape.proofs.Joined.{handed_on}
use Rattle.df_shape.proofs.Passes.{kept_of, kept_as}
use Rattle.df_syntax.proofs.Pushed.{taken}
use Rattle.df_shape.proofs.FunctionSteps.{function_step, function_stop, function_last, callable_step, around_by, around_none}
use Rattle.df_shape.proofs.functions.ask_functions.Goals as goal

pub returns-then-i-functions : goal.returns-then-i-functions
returns-then-i-functions c =
    kept_as (functions_demands (names_of c.args.numbers.now) c.args.functions.now [] c.args.functions.now) (main_in (record { numbers = (names_of c.args.numbers.now); arrays = is_in c.new-none.result; callable = is_in c.loop-i.callable; gives = is_in c.in_ok-gives.gives; part = Inside }) c.index-functions-i.result) c.ask_main.result
    (c.loop-i.invariant.left
    ∙ (ap first_refusal (function_last (names_of c.args.numbers.now) c.args.functions.now c.args.functions.now c.loop-i.i c.index-functions-i.result c.if-i-functions.true c.index-functions-i.is)
    ∙ ap (λ (w : Around). first_refusal (main_demands c.index-functions-i.result.values w)) (sym (around_by (names_of c.args.numbers.now) (array_parameters c.index-functions-i.result.parameters) c.loop-i.callable c.in_ok-gives.gives c.args.functions.now (take c.loop-i.i c.args.functions.now) c.loop-i.invariant.called c.in_ok-gives.ensures))))
    (c.ask_main.ensures c.new-none.result)

pub returns-in_err-ask_function : goal.returns-in_err-ask_function
returns-in_err-ask_function c =
    let below : c.loop-i.i + 1 < length c.args.functions.now = omega (arith, c.loop-i-test.true, c.if-i-functions.false) in
    kept_of (functions_demands (names_of c.args.numbers.now) c.args.functions.now [] c.args.functions.now) c.from_residual-in_err-ask_function.result
    (handed_on _ _ _ c.from_residual-in_err-ask_function.ensures.1
    (c.loop-i.invariant.left
    ∙ function_stop (names_of c.args.numbers.now) c.args.functions.now c.args.functions.now c.loop-i.i c.index-functions-i.result _ below c.index-functions-i.is
    (ap (λ (w : Around). first_refusal (function_in w c.index-functions-i.result)) (sym (around_none (names_of c.args.numbers.now) c.new-none.result c.loop-i.callable c.in_ok-gives.gives c.args.functions.now (take c.loop-i.i c.args.functions.now) c.new-none.ensures c.loop-i.invariant.called c.in_ok-gives.ensures)) ∙ c.in_err-ask_function.ensures)))

pub loop-i-preserved : goal.loop-i-preserved
loop-i-preserved c =
    let below : c.loop-i.i + 1 < length c.args.functions.now = omega (arith, c.loop-i-test.true, c.if-i-functions.false) in
    record {
      left = c.loop-i.invariant.left
          ∙ function_step (names_of c.args.numbers.now) c.args.functions.now c.args.functions.now c.loop-i.i c.index-functions-i.result below c.index-functions-i.is
          (ap (λ (w : Around). first_refusal (function_in w c.index-functions-i.result)) (sym (around_none (names_of c.args.numbers.now) c.new-none.result c.loop-i.callable c.in_ok-gives.gives c.args.functions.now (take c.loop-i.i c.args.functions.now) c.new-none.ensures c.loop-i.invariant.called c.in_ok-gives.ensures)) ∙ c.in_ok-ask_function.ensures);
      called = callable_step c.loop-i.callable c.bind.new.self (take c.loop-i.i c.args.functions.now) c.index-functions-i.result c.in_ok-bind.ensures.ok c.loop-i.invariant.called
          ∙ ap (λ l. callable_among l) (sym (taken c.args.functions.now c.loop-i.i c.index-functions-i.result c.loop-i-test.true c.index-functions-i.is));
    }
