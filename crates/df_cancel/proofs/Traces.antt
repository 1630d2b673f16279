-- A walk followed back from a node whose count was raised last.
use Rattle.std.proofs.Common.{◌≡◌, ℕ, zero, suc, ◌+◌, ◌-◌, ◌<◌, ◌≤◌, ◌≢◌, ℤ, ◌+ℤ◌, ◌≤ℤ◌, ◌<ℤ◌, List, [], ◌∷◌, ◌++◌, length, get_or, set, drop, ◌⊎◌, inl, inr, refl, sym, ap, subst, ◌∙◌, cond, eqb, Bool, true, false, Option, Some, None, is_some, count_by, Contains, get_or-set_other, get_or-set_same, below_more, arith}
use Rattle.std.proofs.Math.ListN.{length-set}
use Rattle.std.proofs.lemmas.List.{drop_all, drop-append-le, get_or_append_left, get_or_push, get_or_default, length-append, length-drop, get_or-drop}
use Rattle.std.proofs.lemmas.List.Sums.{sum_by-set, count_by-le-length, sum_by-cons}
use Rattle.std.proofs.lemmas.Bool.{cases_lt}
use Rattle.std.proofs.lemmas.Bool.Decides.{eqb_tells}
use Rattle.std.proofs.lemmas.Int.{ints}
use Rattle.df_stages.specs.Sums.{int_sum_by}
use Rattle.df_cancel.specs.Rows.{at_row, no_step, step_at, Leads, IsNextRow}
use Rattle.df_cancel.specs.Cycles.{IsPositiveCycle}
use Rattle.df_cancel.specs.declared.step.Step.{Step}
use Rattle.df_stages.proofs.Sums.{int_sum-push}

abbrev pub count_of : List Step → ℤ
count_of walk = int_sum_by (λ s. s.count) walk

sum_drop_push : (walk : List Step) (s : Step) (k : ℕ) → k ≤ length walk → count_of (drop k (walk ++ s ∷ [])) ≡ count_of (drop k walk) +ℤ s.count
sum_drop_push walk s k h = ap count_of (drop-append-le k walk (s ∷ []) h) ∙ int_sum-push (λ s. s.count) (drop k walk) s

pub passed_at : (steps : List Step) (row next : List ℤ) → IsNextRow steps row next → (s : Step) → Contains steps s → (at_row row s.from +ℤ s.count) ≤ℤ at_row next s.to
passed_at steps row next n s (k, h, e) =
    let same = sym (get_or_default steps k s no_step h) ∙ e in
    subst (λ (x : Step). (at_row row x.from +ℤ x.count) ≤ℤ at_row next x.to) same (n.passed k h)

-- the walk so far, from its end back to a node with this many levels below it
pub record Traced (steps : List Step) (row : ℕ → List ℤ) (n level back : ℕ) (walk : List Step) (entered : List (Option ℕ)) (node : ℕ) : Type 0 where
  pub levels : level + back ≡ n
  pub len : length walk ≡ back
  pub places : length entered ≡ n
  pub within : node < n
  pub taken : (k : ℕ) → k < back → Contains steps (step_at walk k)
  pub linked : (k : ℕ) → k + 1 < back → (step_at walk (k + 1)).to ≡ (step_at walk k).from
  pub first : (k : ℕ) → k + 1 ≡ back → (step_at walk k).from ≡ node
  pub marked : (k : ℕ) → k < back → get_or entered (step_at walk k).to None ≡ Some k
  pub marks : (v k : ℕ) → get_or entered v None ≡ Some k → (k < back) × ((step_at walk k).to ≡ v)
  pub count : count_by is_some entered ≡ back
  pub raised : (l : ℕ) → l + 1 ≡ level → at_row (row l) node <ℤ at_row (row level) node
  pub gains : (k : ℕ) → k < back → at_row (row level) (step_at walk k).to <ℤ (at_row (row level) node +ℤ count_of (drop k walk))

-- one more step back
module _ (steps : List Step) (row : ℕ → List ℤ) (n level back : ℕ) (walk : List Step) (entered : List (Option ℕ)) (node : ℕ) (t : Traced steps row n (level + 1) back walk entered node) (next : IsNextRow steps (row level) (row (level + 1))) (before : (l : ℕ) → l + 1 ≡ level → IsNextRow steps (row l) (row level)) (fresh : get_or entered node None ≡ None) (s : Step) (from_steps : Contains steps s) (leads : Leads (row level) node (at_row (row (level + 1)) node) s) (inside : s.from < n) where
  longer : List Step
  longer = walk ++ s ∷ []

  old : (k : ℕ) → k < back → step_at (walk ++ s ∷ []) k ≡ step_at walk k
  old k h = get_or_append_left walk (s ∷ []) no_step k (omega (arith, t.len))

  new : step_at (walk ++ s ∷ []) back ≡ s
  new = get_or_push walk s no_step back t.len

  other : (v : ℕ) → (v ≡ node → ⊥) → get_or (set entered node (Some back)) v None ≡ get_or entered v None
  other v ne = get_or-set_other entered node v (Some back) None ne

  same : get_or (set entered node (Some back)) node None ≡ Some back
  same = get_or-set_same entered node (Some back) None (omega (arith, t.places, t.within))

  counted : count_by is_some (set entered node (Some back)) ≡ back + 1
  counted =
      let e = sum_by-set (λ (x : Option ℕ). cond (is_some x) 1 0) entered node (Some back) None (omega (arith, t.places, t.within)) in
      let f : cond {A = ℕ} (is_some (get_or entered node None)) 1 0 ≡ 0 = ap (λ (x : Option ℕ). cond {A = ℕ} (is_some x) 1 0) fresh in
      omega (arith, t.count)

  entered_other : (k : ℕ) → k < back → (step_at walk k).to ≡ node → ⊥
  entered_other k h e = let a = sym (t.marked k h) ∙ ap (λ v. get_or entered v None) e ∙ fresh in cc

  link : (k : ℕ) → k + 1 < back + 1 → (k + 1 < back) ⊎ (back ≤ k + 1) → (step_at (walk ++ s ∷ []) (k + 1)).to ≡ (step_at (walk ++ s ∷ []) k).from
  link k h (inl l) = ap (λ (x : Step). x.to) (old (k + 1) l) ∙ t.linked k l ∙ ap (λ (x : Step). x.from) (sym (old k (omega arith)))
  link k h (inr l) =
      let e : k + 1 ≡ back = omega arith in
      ap (λ j. (step_at (walk ++ s ∷ []) j).to) e ∙ ap (λ (x : Step). x.to) new ∙ leads.0 ∙ sym (t.first k e) ∙ ap (λ (x : Step). x.from) (sym (old k (omega arith)))

  found : (v k : ℕ) → get_or (set entered node (Some back)) v None ≡ Some k → ((eqb v node ≡ true) × (v ≡ node)) ⊎ ((eqb v node ≡ false) × (v ≢ node)) → (k < back + 1) × ((step_at (walk ++ s ∷ []) k).to ≡ v)
  found v k is (inl (b, e)) =
      let it : k ≡ back = at_end k (sym is ∙ ap (λ w. get_or (set entered node (Some back)) w None) e ∙ same) in
      (omega arith, ap (λ j. (step_at (walk ++ s ∷ []) j).to) it ∙ ap (λ (x : Step). x.to) new ∙ leads.0 ∙ sym e)
    where
      at_end : (k : ℕ) → Some k ≡ Some back → k ≡ back
      at_end k e = cc
  found v k is (inr (b, ne)) =
      let m = t.marks v k (sym (other v ne) ∙ is) in
      (omega arith, ap (λ (x : Step). x.to) (old k m.0) ∙ m.1)

  rises : (l : ℕ) → l + 1 ≡ level → at_row (row l) s.from <ℤ at_row (row level) s.from
  rises l e =
      let p = subst (λ v. (at_row (row l) s.from +ℤ s.count) ≤ℤ at_row (row level) v) leads.0 (passed_at steps (row l) (row level) (before l e) s from_steps) in
      let r = t.raised level refl in let m = leads.1 in omega (arith, ints)

  gain_old : (k : ℕ) → k < back → at_row (row level) (step_at (walk ++ s ∷ []) k).to <ℤ (at_row (row level) s.from +ℤ count_of (drop k (walk ++ s ∷ [])))
  gain_old k h =
      let e = ap (λ (x : Step). at_row (row level) x.to) (old k h) in
      let d = sum_drop_push walk s k (omega (arith, t.len)) in
      let g = t.gains k h in let q = next.kept (step_at walk k).to in let m = leads.1 in omega (arith, ints)

  gain_new : at_row (row level) (step_at (walk ++ s ∷ []) back).to <ℤ (at_row (row level) s.from +ℤ count_of (drop back (walk ++ s ∷ [])))
  gain_new =
      let e = ap (λ (x : Step). at_row (row level) x.to) new ∙ ap (at_row (row level)) leads.0 in
      let d = sum_drop_push walk s back (omega (arith, t.len)) in
      let nothing = ap count_of (drop_all back walk (omega (arith, t.len))) in
      let r = t.raised level refl in let m = leads.1 in omega (arith, ints)

  pub trace_more : Traced steps row n level (back + 1) (walk ++ s ∷ []) (set entered node (Some back)) s.from
  trace_more = record {
    levels = omega (arith, t.levels);
    len = omega (arith, length-append walk (s ∷ []), t.len);
    places = length-set entered node (Some back) ∙ t.places;
    within = inside;
    taken = below_more (λ k. Contains steps (step_at (walk ++ s ∷ []) k)) back (λ k h. subst (Contains steps) (sym (old k h)) (t.taken k h)) (subst (Contains steps) (sym new) from_steps);
    linked = λ k h. link k h (cases_lt (k + 1) back);
    first = λ k e. let i : k ≡ back = omega arith in ap (λ j. (step_at (walk ++ s ∷ []) j).from) i ∙ ap (λ (x : Step). x.from) new;
    marked = below_more (λ k. get_or (set entered node (Some back)) (step_at (walk ++ s ∷ []) k).to None ≡ Some k) back
        (λ k h. ap (λ (x : Step). get_or (set entered node (Some back)) x.to None) (old k h) ∙ other (step_at walk k).to (entered_other k h) ∙ t.marked k h)
        (ap (λ (x : Step). get_or (set entered node (Some back)) x.to None) new ∙ ap (λ v. get_or (set entered node (Some back)) v None) leads.0 ∙ same);
    marks = λ v k is. found v k is (eqb_tells v node);
    count = counted;
    raised = rises;
    gains = below_more (λ k. at_row (row level) (step_at (walk ++ s ∷ []) k).to <ℤ (at_row (row level) s.from +ℤ count_of (drop k (walk ++ s ∷ [])))) back gain_old gain_new;
  }

-- all are counted only where each passes
pub counted_all : {X : Type 0} (p : X → Bool) (xs : List X) (i : ℕ) (d : X) → length xs ≤ count_by p xs → i < length xs → p (get_or xs i d) ≡ true
counted_all p [] i d all h = absurd (omega arith)
counted_all {X} p (x ∷ xs) i d all h = by (counted_all p xs) (p x) refl i h
  where
    e : count_by p (x ∷ xs) ≡ cond (p x) 1 0 + count_by p xs
    e = sum_by-cons (λ y. cond (p y) 1 0) x xs

    by : ((i : ℕ) (d : X) → length xs ≤ count_by p xs → i < length xs → p (get_or xs i d) ≡ true) → (b : Bool) → p x ≡ b → (i : ℕ) → i < length (x ∷ xs) → p (get_or (x ∷ xs) i d) ≡ true
    by rest true is zero h = is
    by rest true is (suc i) h = let c : cond {A = ℕ} (p x) 1 0 ≡ 1 = ap (λ b. cond {A = ℕ} b 1 0) is in rest i d (omega (arith, e)) (omega arith)
    by rest false is i h = let c : cond {A = ℕ} (p x) 1 0 ≡ 0 = ap (λ b. cond {A = ℕ} b 1 0) is in absurd (omega (arith, e, count_by-le-length p xs))

-- the walk came back to a node
pub trace_closed : (steps : List Step) (row : ℕ → List ℤ) (n level back : ℕ) (walk : List Step) (entered : List (Option ℕ)) (node : ℕ) → Traced steps row n level back walk entered node → (place : ℕ) → get_or entered node None ≡ Some place → IsPositiveCycle n steps (drop place walk)
trace_closed steps row n level back walk entered node t place is =
    let m = t.marks node place is in
    let long : length (drop place walk) ≡ back - place = omega (arith, length-drop place walk, t.len) in
    record {
      some = omega arith;
      short = omega (arith, t.levels);
      taken = λ k h. subst (Contains steps) (sym (shifted k)) (t.taken (place + k) (omega arith));
      linked = λ k h. ap (λ (x : Step). x.to) (shifted (k + 1)) ∙ ap (λ j. (step_at walk j).to) (add_assoc' k) ∙ t.linked (place + k) (omega arith) ∙ ap (λ (x : Step). x.from) (sym (shifted k));
      closed = λ k e. ap (λ (x : Step). x.from) (shifted k) ∙ t.first (place + k) (omega arith) ∙ sym m.1 ∙ ap (λ j. (step_at walk j).to) (plus_zero place) ∙ ap (λ (x : Step). x.to) (sym (shifted 0));
      apart = λ j k hj hk e.
          let a = sym (t.marked (place + j) (omega arith)) ∙ ap (λ v. get_or entered v None) (ap (λ (x : Step). x.to) (sym (shifted j)) ∙ e ∙ ap (λ (x : Step). x.to) (shifted k)) ∙ t.marked (place + k) (omega arith) in
          same_place j k a;
      positive = let g = t.gains place m.0 in let e = ap (at_row (row level)) m.1 in omega (arith, ints);
    }
  where
    shifted : (k : ℕ) → step_at (drop place walk) k ≡ step_at walk (place + k)
    shifted k = get_or-drop place walk k no_step

    add_assoc' : (k : ℕ) → place + (k + 1) ≡ place + k + 1
    add_assoc' k = omega arith

    plus_zero : (p : ℕ) → p ≡ p + 0
    plus_zero p = omega arith

    some_same : (a b : ℕ) → Some a ≡ Some b → a ≡ b
    some_same a b e = cc

    same_place : (j k : ℕ) → Some (place + j) ≡ Some (place + k) → j ≡ k
    same_place j k e = let s = some_same (place + j) (place + k) e in omega arith

-- a raised count was reached by a step
pub led_by : (steps : List Step) (row next : List ℤ) (node : ℕ) → IsNextRow steps row next → at_row row node <ℤ at_row next node → (k : ℕ) × (k < length steps) × Leads row node (at_row next node) (step_at steps k)
led_by steps row next node is more = by (is.reached node)
  where
    by : (at_row next node ≡ at_row row node) ⊎ ((k : ℕ) × (k < length steps) × Leads row node (at_row next node) (step_at steps k)) → (k : ℕ) × (k < length steps) × Leads row node (at_row next node) (step_at steps k)
    by (inl e) = absurd (omega (arith, ints))
    by (inr led) = led

-- as many entries as nodes: each node was entered
pub all_entered : (steps : List Step) (row : ℕ → List ℤ) (n level back : ℕ) (walk : List Step) (entered : List (Option ℕ)) (node : ℕ) → Traced steps row n level back walk entered node → n ≤ back → get_or entered node None ≡ None → ⊥
all_entered steps row n level back walk entered node t h fresh =
    let yes = counted_all is_some entered node None (omega (arith, t.places, t.count)) (omega (arith, t.places, t.within)) in
    let no = ap (λ (x : Option ℕ). is_some x) fresh in cc

-- the same, with the levels counted from the number of nodes
pub step_back : (steps : List Step) (row : ℕ → List ℤ) (n back : ℕ) (walk : List Step) (entered : List (Option ℕ)) (node : ℕ) → Traced steps row n (n - back) back walk entered node → back < n → ((l : ℕ) → l + 1 < n + 1 → IsNextRow steps (row l) (row (l + 1))) → get_or entered node None ≡ None → (s : Step) → Contains steps s → Leads (row (n - 1 - back)) node (at_row (row (n - 1 - back + 1)) node) s → s.from < n → Traced steps row n (n - (back + 1)) (back + 1) (walk ++ s ∷ []) (set entered node (Some back)) s.from
step_back steps row n back walk entered node t h next fresh s taken leads inside =
    let lv = n - 1 - back in
    let e : n - back ≡ lv + 1 = omega arith in
    let d : lv ≡ n - (back + 1) = omega arith in
    subst (λ x. Traced steps row n x (back + 1) (walk ++ s ∷ []) (set entered node (Some back)) s.from) d
    (trace_more steps row n lv back walk entered node (subst (λ x. Traced steps row n x back walk entered node) e t) (next lv (omega arith))
    (λ l el. subst (λ x. IsNextRow steps (row l) (row x)) el (next l (omega arith))) fresh s taken leads inside)
