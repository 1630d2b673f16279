use Rattle.std.proofs.Common.{◌≡◌, drop}
use Rattle.std.specs.Prelude.{flat_map}
use Rattle.df_syntax.specs.Demands.{first_refusal}
use Rattle.df_shape.specs.Sources.{whole}
use Rattle.df_shape.specs.Demands.{demands_of}
use Rattle.df_shape.specs.Bodies.{main_around}
use Rattle.df_shape.proofs.body.Main.+body.Given as goal

abbrev pub invariant-ask_results-loop-value : goal.invariant-ask_results-loop-value
invariant-ask_results-loop-value l = record {
  left : first_refusal (flat_map (λ e. demands_of e (whole (main_around l.self l.initial.arrays))) l.values)
      ≡ first_refusal (flat_map (λ e. demands_of e (whole (main_around l.self l.initial.arrays))) (drop l.value-index l.values));
  kept : l.arrays ≡ l.initial.arrays;
}
