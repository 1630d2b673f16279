use Rattle.std.proofs.Common.{◌≡◌, [], ◌∷◌, length, ◌-ℤ◌, ◌≤ℤ◌, SFits, to_z, of_z, w64, sym, ap, subst, ◌∙◌, rules, arith}
use Rattle.std.specs.Int.{int_min}
use Rattle.std.proofs.lemmas.Int.{ints, to_z-of_z}
use Rattle.std.proofs.lemmas.Bool.{eqb-true}
use Rattle.std.proofs.lemmas.List.{length-append}
use Rattle.df_cancel.specs.Rows.{at_row}
use Rattle.df_cancel.proofs.Lowers.{least_below, least_reached, lower_push, lowered_none}
use Rattle.df_cancel.proofs.cancelling.lowered.Goals as goal

pub returns-then-is_empty : goal.returns-then-is_empty
returns-then-is_empty c = lowered_none c.args.numbers.now c.new.result.items (eqb-true (length c.args.numbers.now) 0 (sym c.if-is_empty.ensures)) c.new.ensures.items

pub loop-i-preserved : goal.loop-i-preserved
loop-i-preserved c =
    let i = c.loop-i.i in
    let numbers = c.args.numbers.now in
    let least = to_z w64 c.loop-i.least-bits in
    let range = c.requires i in
    let r0 = range.0 in let r1 = range.1 in
    let fits : SFits w64 (at_row numbers i) = omega (arith, ints) in
    let read = to_z-of_z w64 (at_row numbers i) fits in
    let out : SFits w64 c.min-least.result = search rules in
    let back = to_z-of_z w64 c.min-least.result out in
    let is = c.min-least.ensures.value ∙ ap (int_min least) read in
    let right = subst (λ z. c.min-least.result ≤ℤ z) read c.min-least.ensures.other_bound in
    rw back (record {
      below = least_below numbers i least c.min-least.result is c.min-least.ensures.self_bound right c.loop-i.invariant.below;
      reached = least_reached numbers i least c.min-least.result is c.min-least.ensures.self_bound right c.loop-i-test.true c.loop-i.invariant.reached;
    })

pub loop-j-preserved : goal.loop-j-preserved
loop-j-preserved c =
    let j = c.loop-j.j in
    let numbers = c.args.numbers.now in
    let least = to_z w64 c.loop-i.least-bits in
    let range = c.requires j in
    let r0 = range.0 in let r1 = range.1 in
    let hit = c.loop-i.invariant.reached in
    let there = c.requires hit.0 in
    let t0 = there.0 in let t1 = there.1 in let h2 = hit.2 in
    let v = to_z w64 (of_z w64 (to_z w64 (of_z w64 (at_row numbers j)) -ℤ least)) in
    let is : v ≡ at_row numbers j -ℤ least = omega (arith, ints) in
    rw c.in_ok-push.ensures.items (record {
      len = omega (arith, length-append c.loop-j.stages.items (v ∷ []), c.loop-j.invariant.len);
      lower = lower_push numbers c.loop-j.stages.items j least v c.loop-j.invariant.len is c.loop-j.invariant.lower;
    })
