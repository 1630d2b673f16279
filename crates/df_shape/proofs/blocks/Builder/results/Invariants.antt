use Rattle.std.proofs.Common.{◌≡◌, ◌≤◌, ◌-◌, drop, length}
use Rattle.df_names.specs.Found.{names_of}
use Rattle.df_shape.specs.Shaped.{each_result}
use Rattle.df_shape.specs.Bounded.{HaveBounds}
use Rattle.df_shape.specs.Building.{made_of, with_parts}
use Rattle.df_shape.proofs.blocks.Builder.results.Given as goal

abbrev pub invariant-loop-place : goal.invariant-loop-place
invariant-loop-place l = record {
  parts : with_parts l.made (each_result (names_of l.self.numbers.now) (drop l.place l.values) (made_of l.made) (drop l.place l.sorts))
      ≡ with_parts l.fn.made (each_result (names_of l.self.numbers.now) l.values (made_of l.fn.made) l.sorts);
  bounds : HaveBounds l.fn.made.blocks → HaveBounds l.made.blocks;
  within : l.place ≤ length l.values;
  inside : l.place ≤ length l.sorts;
}

abbrev pub decreases-loop-place : goal.decreases-loop-place
decreases-loop-place l = length l.values - l.place
