use Rattle.std.proofs.Common.{sym, ◌∙◌, arith, pos, ◌-ℤ◌, nat_abs, to_z, of_z}
use Rattle.std.specs.Int.{w128}
use Rattle.std.proofs.lemmas.Int.{ints}
use Rattle.df_build_access.proofs.WindowLemmas.{after_all, before_all, by_numbers, apart}
use Rattle.df_build_access.proofs.windows.window_by.Goals as goal

pub returns-then-gap-turns-clause-of : goal.returns-then-gap-turns-clause-of
returns-then-gap-turns-clause-of c = sym (after_all c.args.turns c.args.elements c.args.gap (omega (arith, ints, c.if-gap-turns.true, c.ranges.gap, c.ranges.turns)))

pub returns-then-gap-elements-clause-of : goal.returns-then-gap-elements-clause-of
returns-then-gap-elements-clause-of c = sym (before_all c.args.turns c.args.elements c.args.gap (omega (arith, ints, c.if-gap-elements.true, c.ranges.gap, c.ranges.elements)))

pub returns-then-gap-gt0-clause-of : goal.returns-then-gap-gt0-clause-of
returns-then-gap-gt0-clause-of c =
    c.window_with.ensures.of ∙ sym (by_numbers c.args.turns c.args.elements (nat_abs (to_z w128 (of_z w128 c.args.gap))) 0 c.args.gap
    (omega (arith, ints, c.if-gap-gt0.true, c.ranges.gap)) (omega (arith, ints, c.if-gap-gt0.true, c.ranges.gap)))

pub returns-else-gap-gt0-clause-of : goal.returns-else-gap-gt0-clause-of
returns-else-gap-gt0-clause-of c =
    c.window_with-else-gap-gt0.ensures.of ∙ sym (by_numbers c.args.turns c.args.elements 0 (nat_abs (to_z w128 (of_z w128 (pos 0 -ℤ to_z w128 (of_z w128 c.args.gap))))) c.args.gap
    (omega (arith, ints, c.if-gap-gt0.false, c.ranges.gap, apart c.args.gap)) (omega (arith, ints, c.if-gap-gt0.false, c.ranges.gap, apart c.args.gap)))
