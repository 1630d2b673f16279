use Rattle.std.proofs.Common.{◌≡◌, take}
use Rattle.df_names.specs.Found.{names_of}
use Rattle.df_shape.specs.Bounded.{HaveBounds}
use Rattle.df_shape.specs.Building.{made_of, definitions_made}
use Rattle.df_shape.proofs.blocks.Builder.definitions.Given as goal

abbrev pub invariant-loop-definition : goal.invariant-loop-definition
invariant-loop-definition l = record {
  made : made_of l.made ≡ definitions_made (names_of l.self.numbers.now) (made_of l.fn.made) (take l.definition-index l.definitions);
  bounds : HaveBounds l.fn.made.blocks → HaveBounds l.made.blocks;
  results : l.made.results ≡ l.fn.made.results;
}
