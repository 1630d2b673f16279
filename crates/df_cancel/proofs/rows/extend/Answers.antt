use Rattle.std.proofs.Common.{rules, ◌≡◌, sym, ◌∙◌, ◌<◌, pos, to_z, of_z, w64, ◌+ℤ◌, ◌≤ℤ◌, ◌<ℤ◌, SFits, length, arith}
use Rattle.std.proofs.lemmas.Int.{ints, to_z-of_z}
use Rattle.std.proofs.lemmas.List.{get_or_default}
use Rattle.df_cancel.specs.Rows.{at_row, no_step, step_at}
use Rattle.df_cancel.proofs.NextRows.{so_far_yes, so_far_no, raised}
use Rattle.df_cancel.proofs.rows.extend.Goals as goal
use Rattle.df_cancel.proofs.rows.extend.Goals.{then-index-count, else-index-count}

pub loop-step-preserved : goal.loop-step-preserved
loop-step-preserved c =
    let s = c.loop-step.invariant.so_far in
    let i = c.loop-step.step-index in
    let step = step_at c.args.steps.now i in
    let within = c.requires.steps i no_step c.loop-step-test.true in
    let long : step.to < length c.loop-step.next.items = omega (arith, s.len, within.1) in
    let fits : SFits w64 c.reach-count.result = search rules in
    let back = to_z-of_z w64 c.reach-count.result fits in
    let read : c.index.result.now ≡ at_row c.loop-step.next.items step.to = c.index.ensures ∙ get_or_default c.loop-step.next.items step.to c.index.result.now (pos 0) long in
    let read_fits : SFits w64 c.index.result.now = search rules in
    let read_back = to_z-of_z w64 c.index.result.now read_fits in
    elim c.if-index-count.branch [
      | then-index-count w ↦
          let v = to_z w64 (of_z w64 c.reach-count.result) in
          let is : at_row c.args.row.now step.from +ℤ step.count ≡ v = sym c.reach-count.ensures ∙ sym back in
          let less = w.if-index-count.true in
          let more : at_row c.loop-step.next.items step.to <ℤ v = omega (arith, ints) in
          rw (w.next-is, w.changed-is) (record {
            so_far = so_far_yes c.args.steps.now c.args.row.now c.loop-step.next.items i s v is more long;
            changed = (within.1, raised c.args.steps.now c.args.row.now c.loop-step.next.items i s v is more long);
          })
      | else-index-count w ↦
          let less = w.if-index-count.false in
          let at_most : (at_row c.args.row.now step.from +ℤ step.count) ≤ℤ at_row c.loop-step.next.items step.to = omega (arith, ints) in
          rw (w.next-is, w.changed-is) (record {
            so_far = so_far_no c.args.steps.now c.args.row.now c.loop-step.next.items i s at_most;
            changed = c.loop-step.invariant.changed;
          })
    ]
