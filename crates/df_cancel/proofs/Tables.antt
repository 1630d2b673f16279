-- Tables of rows.
use Rattle.std.proofs.Common.{◌≡◌, ℕ, ◌+◌, ◌*◌, ◌<◌, ◌≤◌, ℤ, pos, ◌≤ℤ◌, List, [], ◌∷◌, ◌++◌, length, get_or, ◌⊎◌, inl, inr, sym, ap, subst, ◌∙◌, Vec, below_more, arith}
use Rattle.std.specs.declared.alloc.Global.{Global}
use Rattle.std.proofs.lemmas.Bool.{cases_lt}
use Rattle.std.proofs.lemmas.Int.{ints}
use Rattle.std.proofs.lemmas.List.{get_or-map, get_or_append_left, get_or_push, length-append}
use Rattle.df_cancel.specs.Rows.{at_row, no_step, step_at, StepsWithin, RowWithin, Leads, IsNextRow}
use Rattle.df_cancel.specs.Cycles.{row_at, IsTable}
use Rattle.df_cancel.specs.declared.step.Step.{Step}

pub row_at_is : (rows : List (Vec ℤ Global)) (level : ℕ) (d : Vec ℤ Global) → level < length rows → row_at rows level ≡ (get_or rows level d).items
row_at_is rows level d h = get_or-map (λ (row : Vec ℤ Global). row.items) rows level d [] h

pub row_at-old : (rows : List (Vec ℤ Global)) (v : Vec ℤ Global) (level : ℕ) → level < length rows → row_at (rows ++ v ∷ []) level ≡ row_at rows level
row_at-old rows v level h =
    row_at_is (rows ++ v ∷ []) level v (omega (arith, length-append rows (v ∷ []))) ∙ ap (λ (r : Vec ℤ Global). r.items) (get_or_append_left rows (v ∷ []) v level h) ∙ sym (row_at_is rows level v h)

pub row_at-new : (rows : List (Vec ℤ Global)) (v : Vec ℤ Global) (level : ℕ) → length rows ≡ level → row_at (rows ++ v ∷ []) level ≡ v.items
row_at-new rows v level e =
    row_at_is (rows ++ v ∷ []) level v (omega (arith, length-append rows (v ∷ []))) ∙ ap (λ (r : Vec ℤ Global). r.items) (get_or_push rows v v level e)

-- one step adds at most m
pub next_within : (steps : List Step) (n a m : ℕ) (row next : List ℤ) → StepsWithin n m steps → RowWithin a row → IsNextRow steps row next → RowWithin (a + m) next
next_within steps n a m row next small within is node = by (is.reached node)
  where
    low : at_row row node ≤ℤ at_row next node
    low = is.kept node

    here : (pos 0 ≤ℤ at_row row node) × (at_row row node ≤ℤ pos a)
    here = within node

    by : (at_row next node ≡ at_row row node) ⊎ ((k : ℕ) × (k < length steps) × Leads row node (at_row next node) (step_at steps k)) → (pos 0 ≤ℤ at_row next node) × (at_row next node ≤ℤ pos (a + m))
    by (inl e) = let l = low in let h = here in (omega (arith, ints), omega (arith, ints))
    by (inr (k, h, leads)) =
        let s = small k no_step h in let b = within (step_at steps k).from in let e = leads.1 in let l = low in let i = here in
        let s3 = s.3 in let b1 = b.1 in (omega (arith, ints), omega (arith, ints))

pub within_weaker : (a b : ℕ) (row : List ℤ) → RowWithin a row → a ≤ b → RowWithin b row
within_weaker a b row h l node = let i = h node in let high = i.1 in (i.0, omega (arith, ints))

module _ (steps : List Step) (nodes : ℕ) (rows : List (Vec ℤ Global)) (v : Vec ℤ Global) (last : ℕ) (long : length rows ≡ last + 1) (t : IsTable steps nodes rows) (is : IsNextRow steps (row_at rows last) v.items) where
  length_push : length (rows ++ v ∷ []) ≡ last + 2
  length_push = omega (arith, length-append rows (v ∷ []))

  len_push : (level : ℕ) → level < last + 2 → length (row_at (rows ++ v ∷ []) level) ≡ nodes
  len_push level h = below_more (λ l. length (row_at (rows ++ v ∷ []) l) ≡ nodes) (last + 1)
      (λ l hl. ap length (row_at-old rows v l (omega arith)) ∙ t.len l (omega arith))
      (ap length (row_at-new rows v (last + 1) long) ∙ is.len ∙ t.len last (omega arith)) level (omega arith)

  within_push : (m : ℕ) → StepsWithin nodes m steps → (level : ℕ) → level < last + 2 → RowWithin (level * m) (row_at (rows ++ v ∷ []) level)
  within_push m small level h = below_more (λ l. RowWithin (l * m) (row_at (rows ++ v ∷ []) l)) (last + 1)
      (λ l hl. subst (RowWithin (l * m)) (sym (row_at-old rows v l (omega arith))) (t.within m small l (omega arith)))
      (subst (RowWithin ((last + 1) * m)) (sym (row_at-new rows v (last + 1) long))
      (subst (λ a. RowWithin a v.items) (once m) (next_within steps nodes (last * m) m (row_at rows last) v.items small (t.within m small last (omega arith)) is))) level (omega arith)
    where
      once : (m : ℕ) → last * m + m ≡ (last + 1) * m
      once m = omega arith

  next_push : (level : ℕ) → level + 1 < last + 2 → (level + 1 < last + 1) ⊎ (last + 1 ≤ level + 1) → IsNextRow steps (row_at (rows ++ v ∷ []) level) (row_at (rows ++ v ∷ []) (level + 1))
  next_push level h (inl l) = subst (λ r. IsNextRow steps r (row_at (rows ++ v ∷ []) (level + 1))) (sym (row_at-old rows v level (omega arith))) (subst (λ r. IsNextRow steps (row_at rows level) r) (sym (row_at-old rows v (level + 1) (omega arith))) (t.next level (omega arith)))
  next_push level h (inr l) =
      let e : last ≡ level = omega arith in
      subst (λ i. IsNextRow steps (row_at (rows ++ v ∷ []) i) (row_at (rows ++ v ∷ []) (i + 1))) e
      (subst (λ r. IsNextRow steps r (row_at (rows ++ v ∷ []) (last + 1))) (sym (row_at-old rows v last (omega arith))) (subst (λ r. IsNextRow steps (row_at rows last) r) (sym (row_at-new rows v (last + 1) long)) is))

  pub table_push : IsTable steps nodes (rows ++ v ∷ [])
  table_push = record {
    len = λ level h. len_push level (omega (arith, length_push));
    within = λ m small level h. within_push m small level (omega (arith, length_push));
    next = λ level h. next_push level (omega (arith, length_push)) (cases_lt (level + 1) (last + 1));
  }
