use Rattle.std.proofs.Common.{◌≡◌, drop}
use Rattle.df_names.specs.Found.{names_of}
use Rattle.df_syntax.specs.Demands.{first_refusal}
use Rattle.df_types.specs.Sources.{range_demands, left_without}
use Rattle.df_types.proofs.passes.check_each_range.Given as goal

abbrev pub invariant-loop-range : goal.invariant-loop-range
invariant-loop-range l = record {
  left : first_refusal (range_demands l.all (names_of l.initial.without) (names_of l.initial.scope)) ≡ first_refusal (range_demands (drop l.range-index l.all) (names_of l.without) (names_of l.initial.scope));
  after : left_without l.all (names_of l.initial.without) ≡ left_without (drop l.range-index l.all) (names_of l.without);
  kept : names_of l.scope ≡ names_of l.initial.scope;
}
