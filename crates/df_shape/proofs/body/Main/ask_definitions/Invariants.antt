use Rattle.std.proofs.Common.{◌≡◌, drop}
use Rattle.df_syntax.specs.Demands.{first_refusal}
use Rattle.df_shape.specs.Sources.{body_definitions, with_arrays}
use Rattle.df_shape.specs.Bodies.{main_around, body_looks}
use Rattle.df_shape.proofs.body.Main.ask_definitions.Given as goal

abbrev pub invariant-loop-definition : goal.invariant-loop-definition
invariant-loop-definition l = record {
  left : first_refusal (body_definitions (main_around l.self l.initial.arrays) (body_looks l.definitions))
      ≡ first_refusal (body_definitions (main_around l.self l.arrays) (body_looks (drop l.definition-index l.definitions)));
  inner : with_arrays (main_around l.self l.initial.arrays) (body_looks l.definitions) ≡ with_arrays (main_around l.self l.arrays) (body_looks (drop l.definition-index l.definitions));
}
