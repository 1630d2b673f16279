use Rattle.std.proofs.Common.{◌≡◌, ℕ, ◌+◌, ◌-◌, ◌*◌, ◌^◌, ◌<◌, List, [], ◌∷◌, ◌++◌, get_or, set, length, None, Some, Result, Ok, Err, IfOk, Vec, drop, pos, neg_ℤ, ◌+ℤ◌, ◌≤ℤ◌, SFits, to_z, of_z, w64, refl, sym, ap, subst, ◌∙◌, rules, arith}
use Rattle.std.proofs.lemmas.Int.{to_z-of_z}
use Rattle.std.proofs.lemmas.List.{get_or_default}
use Rattle.df_cancel.specs.Rows.{at_row, RowWithin, Leads}
use Rattle.df_cancel.specs.Cycles.{row_at, IsPositiveCycle}
use Rattle.df_cancel.proofs.Traces.{Traced, trace_closed, led_by, all_entered, step_back}
use Rattle.std.specs.declared.alloc.Global.{Global}
use Rattle.df_values.specs.declared.memory.Memory.{Memory}
use Rattle.std.proofs.lemmas.List.Elements.{All-contains}
use Rattle.df_cancel.specs.declared.step.Step.{Step}
use Rattle.df_cancel.proofs.Tables.{within_weaker}
use Rattle.df_cancel.proofs.trace.trace.Goals as goal

given : (nodes : ℕ) (steps : List Step) (r : Result (Vec Step Global) Memory) (place : ℕ) (walk : List Step) → IfOk r (λ part. part.items ≡ drop place walk) → IsPositiveCycle nodes steps (drop place walk) → IfOk r (λ cycle. IsPositiveCycle nodes steps cycle.items)
given nodes steps (Ok v) place walk e cycle = subst (IsPositiveCycle nodes steps) (sym e) cycle
given nodes steps (Err e) place walk i cycle = i

pub step_into-step-requires-clause-row : goal.step_into-step-requires-clause-row
step_into-step-requires-clause-row c =
    let lv = c.args.nodes - 1 - c.loop-back.back in
    subst (RowWithin (2 ^ 40)) (sym c.row_of-in-loop-back.ensures) (within_weaker (lv * 2 ^ 20) (2 ^ 40) (row_at c.args.rows.now lv) (c.requires.table.within (2 ^ 20) c.requires.steps lv (omega arith)) (omega arith))

pub step_into-step-requires-clause-led : goal.step_into-step-requires-clause-led
step_into-step-requires-clause-led c =
    let lv = c.args.nodes - 1 - c.loop-back.back in
    let e : c.args.nodes - c.loop-back.back ≡ lv + 1 = omega arith in
    let t = subst (λ x. Traced c.args.steps.now (row_at c.args.rows.now) c.args.nodes x c.loop-back.back c.loop-back.walk.items c.loop-back.entered.items c.loop-back.node) e c.loop-back.invariant.traced in
    let led = led_by c.args.steps.now (row_at c.args.rows.now lv) (row_at c.args.rows.now (lv + 1)) c.loop-back.node (c.requires.table.next lv (omega arith)) (t.raised lv refl) in
    let fits : SFits w64 (get_or c.row_of.result.now c.loop-back.node (pos 0)) = search rules in
    let count : to_z w64 (of_z w64 (get_or c.row_of.result.now c.loop-back.node (pos 0))) ≡ at_row (row_at c.args.rows.now (lv + 1)) c.loop-back.node = to_z-of_z w64 _ fits ∙ ap (λ r. get_or r c.loop-back.node (pos 0)) c.row_of.ensures in
    rw (count, c.row_of-in-loop-back.ensures) led

pub steps_from-requires-clause-small : goal.steps_from-requires-clause-small
steps_from-requires-clause-small c =
    let lv = c.args.nodes - 1 - c.loop-back.back in
    let s = c.step_into-step.result in
    let fits : SFits w64 (get_or c.row_of.result.now c.loop-back.node (pos 0)) = search rules in
    let count : to_z w64 (of_z w64 (get_or c.row_of.result.now c.loop-back.node (pos 0))) ≡ at_row (row_at c.args.rows.now (lv + 1)) c.loop-back.node = to_z-of_z w64 _ fits ∙ ap (λ r. get_or r c.loop-back.node (pos 0)) c.row_of.ensures in
    let leads : Leads (row_at c.args.rows.now lv) c.loop-back.node (at_row (row_at c.args.rows.now (lv + 1)) c.loop-back.node) s =
    (c.step_into-step.ensures.leads.0, ap (λ r. at_row r s.from +ℤ s.count) (sym c.row_of-in-loop-back.ensures) ∙ c.step_into-step.ensures.leads.1 ∙ count) in
    let inside = All-contains (λ (x : Step). (x.from < c.args.nodes) × (x.to < c.args.nodes) × (neg_ℤ (pos (2 ^ 20)) ≤ℤ x.count) × (x.count ≤ℤ pos (2 ^ 20))) c.args.steps.now s c.requires.steps c.step_into-step.ensures.taken in
    let t = step_back c.args.steps.now (row_at c.args.rows.now) c.args.nodes c.loop-back.back c.loop-back.walk.items c.loop-back.entered.items c.loop-back.node c.loop-back.invariant.traced c.loop-back-test.true
    (λ l h. c.requires.table.next l (omega arith)) c.loop-back.invariant.fresh s c.step_into-step.ensures.taken leads inside.0 in
    let entered = set c.loop-back.entered.items c.loop-back.node (Some c.loop-back.back) in
    let long : s.from < length entered = omega (arith, t.places, inside.0) in
    let read = get_or_default entered s.from c.index.result.now None long in
    let e = ap length (c.deref.ensures.value ∙ c.in_ok-push.ensures.items) in
    omega (arith, t.len)

pub steps_from-requires-clause-place : goal.steps_from-requires-clause-place
steps_from-requires-clause-place c =
    let lv = c.args.nodes - 1 - c.loop-back.back in
    let s = c.step_into-step.result in
    let fits : SFits w64 (get_or c.row_of.result.now c.loop-back.node (pos 0)) = search rules in
    let count : to_z w64 (of_z w64 (get_or c.row_of.result.now c.loop-back.node (pos 0))) ≡ at_row (row_at c.args.rows.now (lv + 1)) c.loop-back.node = to_z-of_z w64 _ fits ∙ ap (λ r. get_or r c.loop-back.node (pos 0)) c.row_of.ensures in
    let leads : Leads (row_at c.args.rows.now lv) c.loop-back.node (at_row (row_at c.args.rows.now (lv + 1)) c.loop-back.node) s =
    (c.step_into-step.ensures.leads.0, ap (λ r. at_row r s.from +ℤ s.count) (sym c.row_of-in-loop-back.ensures) ∙ c.step_into-step.ensures.leads.1 ∙ count) in
    let inside = All-contains (λ (x : Step). (x.from < c.args.nodes) × (x.to < c.args.nodes) × (neg_ℤ (pos (2 ^ 20)) ≤ℤ x.count) × (x.count ≤ℤ pos (2 ^ 20))) c.args.steps.now s c.requires.steps c.step_into-step.ensures.taken in
    let t = step_back c.args.steps.now (row_at c.args.rows.now) c.args.nodes c.loop-back.back c.loop-back.walk.items c.loop-back.entered.items c.loop-back.node c.loop-back.invariant.traced c.loop-back-test.true
    (λ l h. c.requires.table.next l (omega arith)) c.loop-back.invariant.fresh s c.step_into-step.ensures.taken leads inside.0 in
    let entered = set c.loop-back.entered.items c.loop-back.node (Some c.loop-back.back) in
    let long : s.from < length entered = omega (arith, t.places, inside.0) in
    let read = get_or_default entered s.from c.index.result.now None long in
    let e = ap length (c.deref.ensures.value ∙ c.in_ok-push.ensures.items) in
    let m = t.marks s.from c.in-Some.place (sym read ∙ sym c.index.ensures ∙ c.in-Some.is) in
    omega (arith, t.len, m.0)

pub returns-in-Some : goal.returns-in-Some
returns-in-Some c =
    let lv = c.args.nodes - 1 - c.loop-back.back in
    let s = c.step_into-step.result in
    let fits : SFits w64 (get_or c.row_of.result.now c.loop-back.node (pos 0)) = search rules in
    let count : to_z w64 (of_z w64 (get_or c.row_of.result.now c.loop-back.node (pos 0))) ≡ at_row (row_at c.args.rows.now (lv + 1)) c.loop-back.node = to_z-of_z w64 _ fits ∙ ap (λ r. get_or r c.loop-back.node (pos 0)) c.row_of.ensures in
    let leads : Leads (row_at c.args.rows.now lv) c.loop-back.node (at_row (row_at c.args.rows.now (lv + 1)) c.loop-back.node) s =
    (c.step_into-step.ensures.leads.0, ap (λ r. at_row r s.from +ℤ s.count) (sym c.row_of-in-loop-back.ensures) ∙ c.step_into-step.ensures.leads.1 ∙ count) in
    let inside = All-contains (λ (x : Step). (x.from < c.args.nodes) × (x.to < c.args.nodes) × (neg_ℤ (pos (2 ^ 20)) ≤ℤ x.count) × (x.count ≤ℤ pos (2 ^ 20))) c.args.steps.now s c.requires.steps c.step_into-step.ensures.taken in
    let t = step_back c.args.steps.now (row_at c.args.rows.now) c.args.nodes c.loop-back.back c.loop-back.walk.items c.loop-back.entered.items c.loop-back.node c.loop-back.invariant.traced c.loop-back-test.true
    (λ l h. c.requires.table.next l (omega arith)) c.loop-back.invariant.fresh s c.step_into-step.ensures.taken leads inside.0 in
    let entered = set c.loop-back.entered.items c.loop-back.node (Some c.loop-back.back) in
    let long : s.from < length entered = omega (arith, t.places, inside.0) in
    let read = get_or_default entered s.from c.index.result.now None long in
    let cycle = trace_closed c.args.steps.now (row_at c.args.rows.now) c.args.nodes (c.args.nodes - (c.loop-back.back + 1)) (c.loop-back.back + 1) (c.loop-back.walk.items ++ s ∷ []) entered s.from t c.in-Some.place (sym read ∙ sym c.index.ensures ∙ c.in-Some.is) in
    let same = ap (drop c.in-Some.place) (c.deref.ensures.value ∙ c.in_ok-push.ensures.items) in
    given c.args.nodes c.args.steps.now c.steps_from.result c.in-Some.place c.deref.result.now c.steps_from.ensures (subst (IsPositiveCycle c.args.nodes c.args.steps.now) (sym same) cycle)

pub loop-back-preserved : goal.loop-back-preserved
loop-back-preserved c =
    let lv = c.args.nodes - 1 - c.loop-back.back in
    let s = c.step_into-step.result in
    let fits : SFits w64 (get_or c.row_of.result.now c.loop-back.node (pos 0)) = search rules in
    let count : to_z w64 (of_z w64 (get_or c.row_of.result.now c.loop-back.node (pos 0))) ≡ at_row (row_at c.args.rows.now (lv + 1)) c.loop-back.node = to_z-of_z w64 _ fits ∙ ap (λ r. get_or r c.loop-back.node (pos 0)) c.row_of.ensures in
    let leads : Leads (row_at c.args.rows.now lv) c.loop-back.node (at_row (row_at c.args.rows.now (lv + 1)) c.loop-back.node) s =
    (c.step_into-step.ensures.leads.0, ap (λ r. at_row r s.from +ℤ s.count) (sym c.row_of-in-loop-back.ensures) ∙ c.step_into-step.ensures.leads.1 ∙ count) in
    let inside = All-contains (λ (x : Step). (x.from < c.args.nodes) × (x.to < c.args.nodes) × (neg_ℤ (pos (2 ^ 20)) ≤ℤ x.count) × (x.count ≤ℤ pos (2 ^ 20))) c.args.steps.now s c.requires.steps c.step_into-step.ensures.taken in
    let t = step_back c.args.steps.now (row_at c.args.rows.now) c.args.nodes c.loop-back.back c.loop-back.walk.items c.loop-back.entered.items c.loop-back.node c.loop-back.invariant.traced c.loop-back-test.true
    (λ l h. c.requires.table.next l (omega arith)) c.loop-back.invariant.fresh s c.step_into-step.ensures.taken leads inside.0 in
    let entered = set c.loop-back.entered.items c.loop-back.node (Some c.loop-back.back) in
    let long : s.from < length entered = omega (arith, t.places, inside.0) in
    let read = get_or_default entered s.from c.index.result.now None long in
    rw c.in_ok-push.ensures.items (record { traced = t; fresh = sym read ∙ sym c.index.ensures ∙ c.in-None.is })

pub unreachable-requires : goal.unreachable-requires
unreachable-requires c =
    all_entered c.args.steps.now (row_at c.args.rows.now) c.args.nodes (c.args.nodes - c.loop-back.back) c.loop-back.back c.loop-back.walk.items c.loop-back.entered.items c.loop-back.node c.loop-back.invariant.traced (omega arith) c.loop-back.invariant.fresh
