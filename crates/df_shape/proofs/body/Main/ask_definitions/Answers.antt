use Rattle.std.proofs.Common.{◌≡◌, sym, ◌∙◌}
use Rattle.df_shape.specs.Demands.{or_array}
use Rattle.df_shape.specs.Sources.{body_definitions}
use Rattle.df_shape.specs.Bodies.{main_around, body_looks}
use Rattle.df_shape.proofs.Passes.{tried_err}
use Rattle.df_shape.proofs.BodyParts.{definition_step, definition_stop, arrays_step, one_array, no_array}
use Rattle.df_shape.proofs.body.Main.ask_definitions.Goals as goal
use Rattle.df_shape.proofs.body.Main.ask_definitions.Goals.{then-is_array+in_ok-bind, else-is_array}

pub returns-in_err-ask_whole : goal.returns-in_err-ask_whole
returns-in_err-ask_whole c =
    tried_err (body_definitions (main_around c.args.self.now c.args.arrays.now) (body_looks c.args.definitions.now)) _ _ _ c.from_residual.ensures.1
    (λ _. c.loop-definition.invariant.left ∙ definition_stop (main_around c.args.self.now c.loop-definition.arrays) c.args.definitions.now c.loop-definition.definition-index c.definition-item.result _ c.loop-definition-test.true c.definition-item.is c.in_err-ask_whole.ensures)

pub loop-definition-preserved : goal.loop-definition-preserved
loop-definition-preserved c =
    let after : main_around c.args.self.now c.if-is_array.arrays ≡ record (main_around c.args.self.now c.loop-definition.arrays) { arrays = or_array (main_around c.args.self.now c.loop-definition.arrays).arrays c.definition-item.result.name.name c.definition-item.result.sort } =
    elim c.if-is_array.branch [
      | then-is_array+in_ok-bind w ↦ rw w.arrays-is (one_array c.args.self.now c.loop-definition.arrays _ c.definition-item.result (sym c.is_array.ensures ∙ w.if-is_array.true) w.in_ok-bind.ensures.ok)
      | else-is_array w ↦ rw w.arrays-is (no_array c.args.self.now c.loop-definition.arrays c.definition-item.result (sym c.is_array.ensures ∙ w.if-is_array.false))
    ] in
    record {
      left = c.loop-definition.invariant.left ∙ definition_step (main_around c.args.self.now c.loop-definition.arrays) _ c.args.definitions.now c.loop-definition.definition-index c.definition-item.result c.loop-definition-test.true c.definition-item.is after c.in_ok-ask_whole.ensures;
      inner = c.loop-definition.invariant.inner ∙ arrays_step (main_around c.args.self.now c.loop-definition.arrays) _ c.args.definitions.now c.loop-definition.definition-index c.definition-item.result c.loop-definition-test.true c.definition-item.is after;
    }
