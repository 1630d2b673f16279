use Rattle.std.proofs.Common.{◌≡◌, ℕ, ◌+◌, ◌*◌, ◌^◌, ◌<◌, ◌≤◌, List, [], ◌∷◌, ◌++◌, Some, Vec, length, ◌+ℤ◌, ◌≤ℤ◌, ℤ, sym, ap, subst, ◌∙◌, arith}
use Rattle.df_cancel.specs.Rows.{at_row, step_at, StepsWithin, RowWithin, IsNextRow, IsChanged}
use Rattle.df_cancel.specs.Cycles.{row_at, IsTable}
use Rattle.std.specs.declared.alloc.Global.{Global}
use Rattle.std.proofs.Math.Nat.{mul-le-mul_right}
use Rattle.std.proofs.lemmas.Int.{ints}
use Rattle.std.proofs.lemmas.List.{length-append}
use Rattle.df_cancel.specs.Found.{Settles}
use Rattle.df_cancel.specs.declared.step.Step.{Step}
use Rattle.df_cancel.proofs.Tables.{within_weaker, table_push, row_at-old, row_at-new}
use Rattle.df_cancel.proofs.trace.search.Goals as goal

pub extend-requires-clause-row : goal.extend-requires-clause-row
extend-requires-clause-row c =
    let lv = c.loop-level.level in
    subst (RowWithin (2 ^ 40)) (sym (c.row_of.ensures ∙ ap (λ r. row_at r lv) c.deref.ensures.value)) (within_weaker (lv * 2 ^ 20) (2 ^ 40) (row_at c.loop-level.rows.items lv) (c.loop-level.invariant.table.within (2 ^ 20) c.requires.steps lv (omega arith)) (omega arith))

-- equal rows settle the steps
settled : (steps : List Step) (nodes lv : ℕ) (rows : List (Vec ℤ Global)) (next : List ℤ) → lv < nodes → lv < length rows → IsTable steps nodes rows → IsNextRow steps (row_at rows lv) next → next ≡ row_at rows lv → (length next ≡ nodes) × Settles steps next × ((m : ℕ) → StepsWithin nodes m steps → RowWithin (nodes * m) next)
settled steps nodes lv rows next below within table is same = (
  is.len ∙ table.len lv within,
  (λ k h. subst (λ r. (at_row r (step_at steps k).from +ℤ (step_at steps k).count) ≤ℤ at_row next (step_at steps k).to) (sym same) (is.passed k h)),
  (λ m small. subst (RowWithin (nodes * m)) (sym same) (within_weaker (lv * m) (nodes * m) (row_at rows lv) (table.within m small lv within) (mul-le-mul_right m (le lv nodes below)))),
)
  where
    le : (a b : ℕ) → a < b → a ≤ b
    le a b h = omega arith

pub returns-in-None : goal.returns-in-None
returns-in-None c =
    let lv = c.loop-level.level in
    let row = c.row_of.ensures ∙ ap (λ r. row_at r lv) c.deref.ensures.value in
    let is = subst (λ r. IsNextRow c.args.steps.now r c.in_ok-next.next.items) row c.in_ok-next.ensures.next in
    let same = rw c.in-None.is at c.in_ok-next.ensures.changed in
    settled c.args.steps.now c.args.nodes lv c.loop-level.rows.items c.in_ok-next.next.items c.loop-level-test.true (omega (arith, c.loop-level.invariant.len)) c.loop-level.invariant.table is (same ∙ row)

pub loop-level-preserved : goal.loop-level-preserved
loop-level-preserved c =
    let lv = c.loop-level.level in
    let rows = c.loop-level.rows.items in
    let v = c.in_ok-next.next in
    let row = c.row_of.ensures ∙ ap (λ r. row_at r lv) c.deref.ensures.value in
    let is = subst (λ r. IsNextRow c.args.steps.now r c.in_ok-next.next.items) row c.in_ok-next.ensures.next in
    let changed = subst (λ r. IsChanged r c.in_ok-next.next.items (Some c.in-Some.raised)) row (rw c.in-Some.is at c.in_ok-next.ensures.changed) in
    let long = c.loop-level.invariant.len in
    rw c.in_ok-push-2.ensures.items (record {
      len = omega (arith, length-append rows (v ∷ []));
      table = table_push c.args.steps.now c.args.nodes rows v lv long c.loop-level.invariant.table is;
      node = omega (arith, changed.0, c.loop-level.invariant.table.len lv (omega arith));
      raised = λ k e.
          let i : k ≡ lv = omega arith in
          let a = ap (λ j. at_row (row_at (rows ++ v ∷ []) j) c.in-Some.raised) i ∙ ap (λ r. at_row r c.in-Some.raised) (row_at-old rows v lv (omega arith)) in
          let b = ap (λ r. at_row r c.in-Some.raised) (row_at-new rows v (lv + 1) long) in
          let less = changed.1 in omega (arith, ints);
    })
