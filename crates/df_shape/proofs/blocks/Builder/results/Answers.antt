use Rattle.std.proofs.Common.{drop, ◌∙◌}
use Rattle.std.proofs.lemmas.List.{drop_all}
use Rattle.df_names.specs.Found.{names_of}
use Rattle.df_shape.proofs.Spine.{ended}
use Rattle.df_shape.proofs.blocks.Builder.results.Goals as goal

pub returns-else-place-sorts-clause-parts : goal.returns-else-place-sorts-clause-parts
returns-else-place-sorts-clause-parts c =
    ended (names_of c.args.self.now.numbers.now) (drop c.loop-place.place c.args.values.now) (drop c.loop-place.place c.args.sorts.now) c.loop-place.made (drop_all c.loop-place.place c.args.sorts.now c.if-place-sorts.false) ∙ c.loop-place.invariant.parts
