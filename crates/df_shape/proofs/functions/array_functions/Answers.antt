use Rattle.std.proofs.Common.{◌+◌, drop, sym, ◌∙◌}
use Rattle.df_shape.specs.Functions.{Holds}
use Rattle.df_shape.proofs.FunctionSteps.{gives_step, gives_not}
use Rattle.df_shape.proofs.functions.array_functions.Goals as goal
use Rattle.df_shape.proofs.functions.array_functions.Goals.{then-has_array+in_ok-bind, else-has_array}

pub loop-function-preserved : goal.loop-function-preserved
loop-function-preserved c =
    let kept : Holds c.if-has_array.map (drop (c.loop-function.function-index + 1) c.args.functions.now) c.args.functions.now =
    elim c.if-has_array.branch [
      | then-has_array+in_ok-bind w ↦
          rw w.map-is
          (gives_step c.loop-function.map _ c.args.functions.now c.args.functions.now c.loop-function.function-index c.function-item.result c.loop-function-test.true c.function-item.is
          (rw c.as_slice.ensures at (sym c.has_array.ensures ∙ w.if-has_array.true)) w.in_ok-bind.ensures.ok c.loop-function.invariant)
      | else-has_array w ↦
          rw w.map-is
          (gives_not c.loop-function.map c.args.functions.now c.args.functions.now c.loop-function.function-index c.function-item.result c.loop-function-test.true c.function-item.is
          (rw c.as_slice.ensures at (sym c.has_array.ensures ∙ w.if-has_array.false)) c.loop-function.invariant)
    ] in
    kept
