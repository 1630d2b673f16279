use Rattle.std.proofs.Common.{ap, sym, ◌∙◌, subst, map}
use Rattle.std.proofs.lemmas.List.{take_all}
use Rattle.df_names.specs.Found.{names_of}
use Rattle.df_shape.specs.Bounded.{HaveBoundedExtents}
use Rattle.df_shape.specs.Entries.{bound_in, input_found}
use Rattle.df_shape.proofs.Entered.{all_inputs, inputs_bounded}
use Rattle.df_shape.proofs.inputs.inputs.Goals as goal

pub returns-clause-inputs : goal.returns-clause-inputs
returns-clause-inputs c =
    c.loop-parameter.invariant
    ∙ (ap (map (input_found (names_of c.in_ok-extents.extents))) (take_all c.loop-parameter.parameter-index c.args.parameters.now c.loop-parameter-test.false)
    ∙ all_inputs (bound_in (names_of c.args.numbers.now)) c.args.ranges.now c.args.parameters.now (names_of c.in_ok-extents.extents) c.in_ok-extents.ensures.extents)

pub returns-clause-bounds : goal.returns-clause-bounds
returns-clause-bounds c =
    subst HaveBoundedExtents (sym c.loop-parameter.invariant)
    (inputs_bounded (names_of c.in_ok-extents.extents) c.in_ok-extents.ensures.bounds _)
