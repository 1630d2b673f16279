use Rattle.std.proofs.Common.{◌≡◌, sym, ◌∙◌}
use Rattle.df_shape.specs.Demands.{or_array}
use Rattle.df_shape.specs.Functions.{is_in}
use Rattle.df_shape.proofs.FunctionSteps.{parameters_step, array_in, scalar_in}
use Rattle.df_shape.proofs.functions.arrays_among.Goals as goal
use Rattle.df_shape.proofs.functions.arrays_among.Goals.{then-is_array+in_ok-bind, else-is_array}

pub loop-parameter-preserved : goal.loop-parameter-preserved
loop-parameter-preserved c =
    let after : is_in c.if-is_array.map ≡ or_array (is_in c.loop-parameter.map) c.parameter-item.result.name.name c.parameter-item.result.sort =
    elim c.if-is_array.branch [
      | then-is_array+in_ok-bind w ↦ rw w.map-is (array_in c.loop-parameter.map _ c.parameter-item.result (sym c.is_array.ensures ∙ w.if-is_array.true) w.in_ok-bind.ensures.ok)
      | else-is_array w ↦ rw w.map-is (scalar_in c.loop-parameter.map c.parameter-item.result (sym c.is_array.ensures ∙ w.if-is_array.false))
    ] in
    c.loop-parameter.invariant
    ∙ parameters_step c.args.parameters.now c.loop-parameter.parameter-index c.parameter-item.result (is_in c.loop-parameter.map) (is_in c.if-is_array.map) c.loop-parameter-test.true c.parameter-item.is after
