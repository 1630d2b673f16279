use Rattle.std.proofs.Common.{◌≡◌, map, drop}
use Rattle.df_names.specs.Found.{names_of}
use Rattle.df_syntax.specs.Demands.{first_refusal}
use Rattle.df_types.specs.Types.{look_of, asked_each}
use Rattle.df_types.proofs.walk.Walk.each.Given as goal

abbrev pub invariant-loop-i : goal.invariant-loop-i
invariant-loop-i l = record {
  left : first_refusal (asked_each (map (look_of l.self.functions.now) l.values) l.results (names_of l.initial.scope)) ≡ first_refusal (asked_each (map (look_of l.self.functions.now) (drop l.i l.values)) (drop l.i l.results) (names_of l.initial.scope));
  kept : names_of l.scope ≡ names_of l.initial.scope;
}
