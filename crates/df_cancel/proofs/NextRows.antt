-- One more step of a row.
use Rattle.std.proofs.Common.{◌≡◌, ℕ, ◌+◌, ◌<◌, ◌≢◌, ℤ, pos, ◌+ℤ◌, ◌≤ℤ◌, ◌<ℤ◌, List, length, set, ◌⊎◌, inl, inr, refl, sym, ap, subst, ◌∙◌, eqb, true, false, get_or-set_other, get_or-set_same, arith}
use Rattle.std.proofs.Math.ListN.{length-set}
use Rattle.std.proofs.Common.{below_more}
use Rattle.std.proofs.lemmas.Bool.Decides.{eqb_tells}
use Rattle.std.proofs.lemmas.Int.{ints}
use Rattle.df_cancel.specs.Rows.{at_row, step_at, Leads}
use Rattle.df_cancel.specs.declared.step.Step.{Step}

-- the first i steps were looked at
pub record SoFar (steps : List Step) (row next : List ℤ) (i : ℕ) : Type 0 where
  pub len : length next ≡ length row
  pub kept : (node : ℕ) → at_row row node ≤ℤ at_row next node
  pub passed : (k : ℕ) → k < i → (at_row row (step_at steps k).from +ℤ (step_at steps k).count) ≤ℤ at_row next (step_at steps k).to
  pub reached : (node : ℕ) → (at_row next node ≡ at_row row node) ⊎ ((k : ℕ) × (k < i) × Leads row node (at_row next node) (step_at steps k))

pub so_far_none : (steps : List Step) (row : List ℤ) → SoFar steps row row 0
so_far_none steps row = record { len = refl; kept = λ node. omega (arith, ints); passed = λ k h. absurd (omega arith); reached = λ node. inl refl }

-- a step that does not raise the count
pub so_far_no : (steps : List Step) (row next : List ℤ) (i : ℕ) → SoFar steps row next i → (at_row row (step_at steps i).from +ℤ (step_at steps i).count) ≤ℤ at_row next (step_at steps i).to → SoFar steps row next (i + 1)
so_far_no steps row next i s h = record {
  len = s.len;
  kept = s.kept;
  passed = below_more _ _ s.passed h;
  reached = λ node. wider node (s.reached node);
}
  where
    wider : (node : ℕ) → (at_row next node ≡ at_row row node) ⊎ ((k : ℕ) × (k < i) × Leads row node (at_row next node) (step_at steps k)) → (at_row next node ≡ at_row row node) ⊎ ((k : ℕ) × (k < i + 1) × Leads row node (at_row next node) (step_at steps k))
    wider node (inl e) = inl e
    wider node (inr (k, l, leads)) = inr (k, omega arith, leads)

-- a step that raises it
module _ (steps : List Step) (row next : List ℤ) (i : ℕ) (s : SoFar steps row next i) (v : ℤ) (is : at_row row (step_at steps i).from +ℤ (step_at steps i).count ≡ v) (more : at_row next (step_at steps i).to <ℤ v) (within : (step_at steps i).to < length next) where
  at_other : (node : ℕ) → (node ≡ (step_at steps i).to → ⊥) → at_row (set next (step_at steps i).to v) node ≡ at_row next node
  at_other node ne = get_or-set_other next (step_at steps i).to node v (pos 0) ne

  at_same : at_row (set next (step_at steps i).to v) (step_at steps i).to ≡ v
  at_same = get_or-set_same next (step_at steps i).to v (pos 0) within

  grown : (node : ℕ) → at_row next node ≤ℤ at_row (set next (step_at steps i).to v) node
  grown node = by (eqb_tells node (step_at steps i).to)
    where
      by : ((eqb node (step_at steps i).to ≡ true) × (node ≡ (step_at steps i).to)) ⊎ ((eqb node (step_at steps i).to ≡ false) × (node ≢ (step_at steps i).to)) → at_row next node ≤ℤ at_row (set next (step_at steps i).to v) node
      by (inl (t, e)) = subst (λ n. at_row next n ≤ℤ at_row (set next (step_at steps i).to v) n) (sym e) (let h = at_same in omega (arith, ints))
      by (inr (t, ne)) = let h = at_other node ne in omega (arith, ints)

  pub so_far_yes : SoFar steps row (set next (step_at steps i).to v) (i + 1)
  so_far_yes = record {
    len = length-set next (step_at steps i).to v ∙ s.len;
    kept = λ node. let a = s.kept node in let b = grown node in omega (arith, ints);
    passed = below_more _ _ (λ k l. let a = s.passed k l in let b = grown (step_at steps k).to in omega (arith, ints)) (let h = at_same in omega (arith, ints));
    reached = λ node. by node (eqb_tells node (step_at steps i).to);
  }
    where
      there : (node : ℕ) → node ≢ (step_at steps i).to → (at_row next node ≡ at_row row node) ⊎ ((k : ℕ) × (k < i) × Leads row node (at_row next node) (step_at steps k)) → (at_row (set next (step_at steps i).to v) node ≡ at_row row node) ⊎ ((k : ℕ) × (k < i + 1) × Leads row node (at_row (set next (step_at steps i).to v) node) (step_at steps k))
      there node ne (inl e) = inl (at_other node ne ∙ e)
      there node ne (inr (k, l, leads)) = inr (k, omega arith, (leads.0, leads.1 ∙ sym (at_other node ne)))

      by : (node : ℕ) → ((eqb node (step_at steps i).to ≡ true) × (node ≡ (step_at steps i).to)) ⊎ ((eqb node (step_at steps i).to ≡ false) × (node ≢ (step_at steps i).to)) → (at_row (set next (step_at steps i).to v) node ≡ at_row row node) ⊎ ((k : ℕ) × (k < i + 1) × Leads row node (at_row (set next (step_at steps i).to v) node) (step_at steps k))
      by node (inl (t, e)) = inr (i, omega arith, (sym e, is ∙ sym at_same ∙ ap (at_row (set next (step_at steps i).to v)) (sym e)))
      by node (inr (t, ne)) = there node ne (s.reached node)

  pub raised : at_row row (step_at steps i).to <ℤ at_row (set next (step_at steps i).to v) (step_at steps i).to
  raised = let h = at_same in let a = s.kept (step_at steps i).to in omega (arith, ints)
