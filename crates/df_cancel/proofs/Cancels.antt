-- One round of the balancer: a cycle raises the value of the flow, and numbers give stages.
use Rattle.std.proofs.Common.{◌≡◌, ◌≢◌, ℕ, zero, suc, ◌+◌, ◌-◌, ◌<◌, ◌≤◌, ℤ, pos, nat_abs, ◌+ℤ◌, ◌-ℤ◌, ◌≤ℤ◌, ◌<ℤ◌, List, [], ◌∷◌, length, get_or, set, take, zip, fold, cond, eqb, true, false, ◌⊎◌, inl, inr, sum_by, count_by, replicate, get_or-set_other, get_or-set_same, refl, sym, ap, subst, ◌∙◌, arith}
use Rattle.std.proofs.Math.ListN.{length-set, length-replicate}
use Rattle.std.proofs.Math.IntN.{+ℤ_idr}
use Rattle.std.proofs.lemmas.Int.{ints}
use Rattle.std.proofs.lemmas.Bool.Decides.{eqb_tells}
use Rattle.std.proofs.lemmas.List.{take_all, get_or_default, get_or-replicate}
use Rattle.std.proofs.lemmas.List.Sums.{fold_more, sum_by-cons}
use Rattle.std.proofs.lemmas.List.Elements.{All-contains}
use Rattle.df_stages.specs.Sums.{int_sum_by}
use Rattle.df_stages.specs.Flows.{IsDualFlow, flow_value}
use Rattle.df_cancel.specs.Rows.{no_step, step_at}
use Rattle.df_cancel.specs.Cycles.{IsPositiveCycle}
use Rattle.df_cancel.specs.Residuals.{forward_step, backward_step, IsStepOf, IsResidual}
use Rattle.df_cancel.specs.Sends.{moved, CanMove}
use Rattle.df_cancel.specs.Residuals.{IsRankedSkeleton}
use Rattle.df_cancel.specs.declared.step.Step.{Step}
use Rattle.df_stages.specs.declared.skeleton.SkeletonArc.{SkeletonArc}
use Rattle.df_stages.proofs.Sums.{int_sum-more}
use Rattle.df_cancel.proofs.Traces.{count_of}
use Rattle.df_cancel.proofs.Pushes.{net, brings, net_up, net_down, value_up, value_down, cycle_brings}
use Rattle.df_cancel.proofs.Cuts.{flow_bounded, value_limit, value_bounded}

-- ---- one unit on each arc
ones_keyed : (key : SkeletonArc → ℕ) (arcs : List SkeletonArc) (node : ℕ) → sum_by (λ (p : SkeletonArc × ℕ). cond (eqb (key p.0) node) p.1 0) (zip arcs (replicate (length arcs) 1)) ≡ count_by (λ arc. eqb (key arc) node) arcs
ones_keyed key [] node = refl
ones_keyed key (a ∷ arcs) node =
    sum_by-cons (λ (p : SkeletonArc × ℕ). cond (eqb (key p.0) node) p.1 0) (a, 1) (zip arcs (replicate (length arcs) 1))
    ∙ ap (λ n. cond (eqb (key a) node) 1 0 + n) (ones_keyed key arcs node) ∙ sym (sum_by-cons (λ arc. cond (eqb (key arc) node) 1 0) a arcs)

pub ones_dual : (n : ℕ) (arcs : List SkeletonArc) (flow : List ℕ) → flow ≡ replicate (length arcs) 1 → IsDualFlow n arcs flow
ones_dual n arcs flow e = subst (IsDualFlow n arcs) (sym e) (record {
  each = length-replicate (length arcs) 1;
  small = λ k d l. let is = get_or-replicate (length arcs) k 1 d (let long = length-replicate {A = ℕ} (length arcs) 1 in omega (arith, l, long)) in omega (arith, is);
  conserved = λ node h. let i = ones_keyed (λ arc. arc.to) arcs node in let o = ones_keyed (λ arc. arc.from) arcs node in omega (arith, ints);
})

-- ---- a unit along the first steps of a cycle
pub record Sent (arcs : List SkeletonArc) (flow : List ℕ) (cycle : List Step) (i : ℕ) (now : List ℕ) : Type 0 where
  pub len : length now ≡ length arcs
  pub nets : (v : ℕ) → net arcs now v ≡ net arcs flow v +ℤ int_sum_by (brings v) (take i cycle)
  pub value : flow_value arcs now ≡ flow_value arcs flow +ℤ count_of (take i cycle)
  pub still : (j : ℕ) → i ≤ j → j < length cycle → step_at cycle j ≡ backward_step arcs (step_at cycle j).arc → 0 < get_or now (step_at cycle j).arc 0
  pub bounded : (k : ℕ) → get_or now k 0 ≤ get_or flow k 0 + i

moved_forward : (arcs : List SkeletonArc) (now : List ℕ) (s : Step) → s ≡ forward_step arcs s.arc → moved now s ≡ set now s.arc (get_or now s.arc 0 + 1)
moved_forward arcs now s e = ap (λ (x : Step). set now s.arc (cond x.forward (get_or now s.arc 0 + 1) (get_or now s.arc 0 - 1))) e

moved_backward : (arcs : List SkeletonArc) (now : List ℕ) (s : Step) → s ≡ backward_step arcs s.arc → moved now s ≡ set now s.arc (get_or now s.arc 0 - 1)
moved_backward arcs now s e = ap (λ (x : Step). set now s.arc (cond x.forward (get_or now s.arc 0 + 1) (get_or now s.arc 0 - 1))) e

module _ (nodes : ℕ) (arcs : List SkeletonArc) (flow : List ℕ) (ahead back : ℕ) (steps cycle : List Step) (r : IsResidual arcs flow ahead back steps) (c : IsPositiveCycle nodes steps cycle) where
  step_of : (k : ℕ) → k < length cycle → IsStepOf arcs flow (step_at cycle k)
  step_of k h = All-contains (IsStepOf arcs flow) steps (step_at cycle k) (λ j d l. subst (IsStepOf arcs flow) (get_or_default steps j no_step d l) (r.along j l)) (c.taken k h)

  sent_none : length flow ≡ length arcs → Sent arcs flow cycle 0 flow
  sent_none same = record {
    len = same;
    nets = λ v. sym (+ℤ_idr (net arcs flow v));
    value = sym (+ℤ_idr (flow_value arcs flow));
    still = λ j l h e. some (step_at cycle j) e (step_of j h);
    bounded = λ k. omega arith;
  }
    where
      some : (s : Step) → s ≡ backward_step arcs s.arc → IsStepOf arcs flow s → 0 < get_or flow s.arc 0
      some s e (h, inl f) = let clash = ap (λ (x : Step). x.forward) (sym e ∙ f) in cc
      some s e (h, inr (f, more)) = more

  module _ (i : ℕ) (h : i < length cycle) (now : List ℕ) (t : Sent arcs flow cycle i now) where
    place : ℕ
    place = (step_at cycle i).arc

    sent_up : step_at cycle i ≡ forward_step arcs (step_at cycle i).arc → (step_at cycle i).arc < length arcs → Sent arcs flow cycle (i + 1) (set now (step_at cycle i).arc (get_or now (step_at cycle i).arc 0 + 1))
    sent_up e in' = record {
      len = length-set now (step_at cycle i).arc (get_or now (step_at cycle i).arc 0 + 1) ∙ t.len;
      nets = λ v.
          let a = net_up arcs now (step_at cycle i).arc (get_or now (step_at cycle i).arc 0) t.len in' refl v in
          let b = ap (brings v) e in let m = int_sum-more (brings v) cycle i no_step h in let n = t.nets v in
          adds _ _ _ _ _ _ _ a b m n;
      value =
          let a = value_up arcs now (step_at cycle i).arc (get_or now (step_at cycle i).arc 0) t.len in' refl in
          let b = ap (λ (x : Step). x.count) e in let m = int_sum-more (λ (x : Step). x.count) cycle i no_step h in
          adds _ _ _ _ _ _ _ a b m t.value;
      still = λ j l hj ej. by j l hj ej (eqb_tells (step_at cycle j).arc (step_at cycle i).arc);
      bounded = λ k. most k (eqb_tells k (step_at cycle i).arc);
    }
      where
        adds : (x y u u' w w' z : ℤ) → x ≡ y +ℤ u → u' ≡ u → w' ≡ w +ℤ u' → y ≡ z +ℤ w → x ≡ z +ℤ w'
        adds x y u u' w w' z a b m n = omega (arith, ints)

        by : (j : ℕ) → i + 1 ≤ j → j < length cycle → step_at cycle j ≡ backward_step arcs (step_at cycle j).arc → ((eqb (step_at cycle j).arc (step_at cycle i).arc ≡ true) × ((step_at cycle j).arc ≡ (step_at cycle i).arc)) ⊎ ((eqb (step_at cycle j).arc (step_at cycle i).arc ≡ false) × ((step_at cycle j).arc ≢ (step_at cycle i).arc)) → 0 < get_or (set now (step_at cycle i).arc (get_or now (step_at cycle i).arc 0 + 1)) (step_at cycle j).arc 0
        by j l hj ej (inl (b, same)) =
            let g = get_or-set_same now (step_at cycle i).arc (get_or now (step_at cycle i).arc 0 + 1) 0 (omega (arith, t.len)) in
            let q = ap (λ a. get_or (set now (step_at cycle i).arc (get_or now (step_at cycle i).arc 0 + 1)) a 0) same in omega arith
        by j l hj ej (inr (b, ne)) =
            let g = get_or-set_other now (step_at cycle i).arc (step_at cycle j).arc (get_or now (step_at cycle i).arc 0 + 1) 0 ne in
            let s = t.still j (omega arith) hj ej in omega arith

        most : (k : ℕ) → ((eqb k (step_at cycle i).arc ≡ true) × (k ≡ (step_at cycle i).arc)) ⊎ ((eqb k (step_at cycle i).arc ≡ false) × (k ≢ (step_at cycle i).arc)) → get_or (set now (step_at cycle i).arc (get_or now (step_at cycle i).arc 0 + 1)) k 0 ≤ get_or flow k 0 + (i + 1)
        most k (inl (b, same)) =
            let g = get_or-set_same now (step_at cycle i).arc (get_or now (step_at cycle i).arc 0 + 1) 0 (omega (arith, t.len)) in
            let q = ap (λ a. get_or (set now (step_at cycle i).arc (get_or now (step_at cycle i).arc 0 + 1)) a 0) same in
            let p = ap (λ a. get_or flow a 0) same in
            let n = t.bounded (step_at cycle i).arc in omega arith
        most k (inr (b, ne)) =
            let g = get_or-set_other now (step_at cycle i).arc k (get_or now (step_at cycle i).arc 0 + 1) 0 ne in
            let n = t.bounded k in omega arith

    sent_down : step_at cycle i ≡ backward_step arcs (step_at cycle i).arc → (step_at cycle i).arc < length arcs → Sent arcs flow cycle (i + 1) (set now (step_at cycle i).arc (get_or now (step_at cycle i).arc 0 - 1))
    sent_down e in' = record {
      len = length-set now (step_at cycle i).arc (get_or now (step_at cycle i).arc 0 - 1) ∙ t.len;
      nets = λ v.
          let a = net_down arcs now (step_at cycle i).arc (get_or now (step_at cycle i).arc 0 - 1) t.len in' one v in
          let b = ap (brings v) e in let m = int_sum-more (brings v) cycle i no_step h in let n = t.nets v in
          adds _ _ _ _ _ _ _ a b m n;
      value =
          let a = value_down arcs now (step_at cycle i).arc (get_or now (step_at cycle i).arc 0 - 1) t.len in' one in
          let b = ap (λ (x : Step). x.count) e in let m = int_sum-more (λ (x : Step). x.count) cycle i no_step h in
          adds _ _ _ _ _ _ _ a b m t.value;
      still = λ j l hj ej. by j l hj ej (eqb_tells (step_at cycle j).arc (step_at cycle i).arc);
      bounded = λ k. most k (eqb_tells k (step_at cycle i).arc);
    }
      where
        some : 0 < get_or now (step_at cycle i).arc 0
        some = t.still i (omega arith) h e

        one : get_or now (step_at cycle i).arc 0 ≡ get_or now (step_at cycle i).arc 0 - 1 + 1
        one = let s = some in omega arith

        adds : (x y u u' w w' z : ℤ) → x ≡ y +ℤ u → u' ≡ u → w' ≡ w +ℤ u' → y ≡ z +ℤ w → x ≡ z +ℤ w'
        adds x y u u' w w' z a b m n = omega (arith, ints)

        by : (j : ℕ) → i + 1 ≤ j → j < length cycle → step_at cycle j ≡ backward_step arcs (step_at cycle j).arc → ((eqb (step_at cycle j).arc (step_at cycle i).arc ≡ true) × ((step_at cycle j).arc ≡ (step_at cycle i).arc)) ⊎ ((eqb (step_at cycle j).arc (step_at cycle i).arc ≡ false) × ((step_at cycle j).arc ≢ (step_at cycle i).arc)) → 0 < get_or (set now (step_at cycle i).arc (get_or now (step_at cycle i).arc 0 - 1)) (step_at cycle j).arc 0
        by j l hj ej (inl (b, same)) =
            let to = ap (λ (x : Step). x.to) ej ∙ ap (λ a. (backward_step arcs a).to) same ∙ sym (ap (λ (x : Step). x.to) e) in
            let clash = c.apart j i hj h to in absurd (omega arith)
        by j l hj ej (inr (b, ne)) =
            let g = get_or-set_other now (step_at cycle i).arc (step_at cycle j).arc (get_or now (step_at cycle i).arc 0 - 1) 0 ne in
            let s = t.still j (omega arith) hj ej in omega arith

        most : (k : ℕ) → ((eqb k (step_at cycle i).arc ≡ true) × (k ≡ (step_at cycle i).arc)) ⊎ ((eqb k (step_at cycle i).arc ≡ false) × (k ≢ (step_at cycle i).arc)) → get_or (set now (step_at cycle i).arc (get_or now (step_at cycle i).arc 0 - 1)) k 0 ≤ get_or flow k 0 + (i + 1)
        most k (inl (b, same)) =
            let g = get_or-set_same now (step_at cycle i).arc (get_or now (step_at cycle i).arc 0 - 1) 0 (omega (arith, t.len)) in
            let q = ap (λ a. get_or (set now (step_at cycle i).arc (get_or now (step_at cycle i).arc 0 - 1)) a 0) same in
            let p = ap (λ a. get_or flow a 0) same in
            let n = t.bounded (step_at cycle i).arc in omega arith
        most k (inr (b, ne)) =
            let g = get_or-set_other now (step_at cycle i).arc k (get_or now (step_at cycle i).arc 0 - 1) 0 ne in
            let n = t.bounded k in omega arith

    sent_more : Sent arcs flow cycle (i + 1) (moved now (step_at cycle i))
    sent_more = by (step_of i h)
      where
        by : IsStepOf arcs flow (step_at cycle i) → Sent arcs flow cycle (i + 1) (moved now (step_at cycle i))
        by (in', inl e) = subst (Sent arcs flow cycle (i + 1)) (sym (moved_forward arcs now (step_at cycle i) e)) (sent_up e in')
        by (in', inr (e, more)) = subst (Sent arcs flow cycle (i + 1)) (sym (moved_backward arcs now (step_at cycle i) e)) (sent_down e in')

  pub sent_so_far : length flow ≡ length arcs → (i : ℕ) → i ≤ length cycle → Sent arcs flow cycle i (fold moved flow (take i cycle))
  sent_so_far same zero h = sent_none same
  sent_so_far same (suc i) h =
      let rest = sent_so_far same i (omega arith) in
      let next = sent_more i (omega arith) (fold moved flow (take i cycle)) rest in
      let e : i + 1 ≡ suc i = omega arith in
      subst (λ j. Sent arcs flow cycle j (fold moved flow (take j cycle))) e (subst (Sent arcs flow cycle (i + 1)) (sym (fold_more moved flow cycle i no_step (omega arith))) next)

-- ---- a whole round
module _ (nodes : ℕ) (arcs : List SkeletonArc) (flow : List ℕ) (ahead back : ℕ) (steps cycle : List Step) (s : IsRankedSkeleton nodes arcs) (dual : IsDualFlow nodes arcs flow) (r : IsResidual arcs flow ahead back steps) (c : IsPositiveCycle nodes steps cycle) where
  pub can_send : (k : ℕ) → k < length cycle → CanMove (fold moved flow (take k cycle)) (step_at cycle k)
  can_send k h = by (step_of nodes arcs flow ahead back steps cycle r c k h)
    where
      t : Sent arcs flow cycle k (fold moved flow (take k cycle))
      t = sent_so_far nodes arcs flow ahead back steps cycle r c dual.each k (omega arith)

      by : IsStepOf arcs flow (step_at cycle k) → CanMove (fold moved flow (take k cycle)) (step_at cycle k)
      by (in', e) =
          let a = flow_bounded nodes arcs flow s.ends s.acyclic dual (step_at cycle k).arc in' in
          let b = t.bounded (step_at cycle k).arc in
          let len = t.len in let few = s.few_nodes in let few_arcs = s.few_arcs in let short = c.short in
          (omega arith, omega arith, λ f. turn e f)
        where
          turn : (step_at cycle k ≡ forward_step arcs (step_at cycle k).arc) ⊎ ((step_at cycle k ≡ backward_step arcs (step_at cycle k).arc) × (0 < get_or flow (step_at cycle k).arc 0)) → (step_at cycle k).forward ≡ false → 0 < get_or (fold moved flow (take k cycle)) (step_at cycle k).arc 0
          turn (inl e) f = let clash = sym (ap (λ (x : Step). x.forward) e) ∙ f in cc
          turn (inr (e, more)) f = t.still k (omega arith) h e

  whole : Sent arcs flow cycle (length cycle) (fold moved flow cycle)
  whole = subst (λ l. Sent arcs flow cycle (length cycle) (fold moved flow l)) (take_all (length cycle) cycle (le (length cycle))) (sent_so_far nodes arcs flow ahead back steps cycle r c dual.each (length cycle) (le (length cycle)))
    where
      le : (a : ℕ) → a ≤ a
      le a = omega arith

  pub round_dual : IsDualFlow nodes arcs (fold moved flow cycle)
  round_dual = record {
    each = whole.len;
    small = λ k d l.
        let len = whole.len in
        let inside : k < length arcs = omega (arith, l, len) in
        let most = whole.bounded k in
        let before = flow_bounded nodes arcs flow s.ends s.acyclic dual k inside in
        let few = s.few_nodes in
        let few_arcs = s.few_arcs in
        let short = c.short in
        let at = get_or_default (fold moved flow cycle) k d 0 l in omega (arith, at, most, before, few, few_arcs, short);
    conserved = λ v h.
        let a = whole.nets v in
        let b = ap (int_sum_by (brings v)) (take_all (length cycle) cycle (le (length cycle))) in
        let z = cycle_brings nodes steps cycle v c in
        let d = dual.conserved v h in joins (net arcs (fold moved flow cycle) v) (net arcs flow v) _ _ _ a b z d;
  }
    where
      le : (a : ℕ) → a ≤ a
      le a = omega arith

      joins : (x y u w d : ℤ) → x ≡ y +ℤ u → u ≡ w → w ≡ pos 0 → y ≡ d → x ≡ d
      joins x y u w d a b z e = omega (arith, ints)

  pub round_value : flow_value arcs flow <ℤ flow_value arcs (fold moved flow cycle)
  round_value =
      let a = whole.value in
      let b = ap count_of (take_all (length cycle) cycle (le (length cycle))) in
      let p = c.positive in joins (flow_value arcs (fold moved flow cycle)) (flow_value arcs flow) _ _ a b p
    where
      le : (a : ℕ) → a ≤ a
      le a = omega arith

      joins : (x y u w : ℤ) → x ≡ y +ℤ u → u ≡ w → pos 0 <ℤ w → y <ℤ x
      joins x y u w a b p = omega (arith, ints)

  pub round_smaller : nat_abs (pos (value_limit arcs) -ℤ flow_value arcs (fold moved flow cycle)) < nat_abs (pos (value_limit arcs) -ℤ flow_value arcs flow)
  round_smaller = nearer (value_limit arcs) (flow_value arcs flow) (flow_value arcs (fold moved flow cycle)) round_value (value_bounded nodes arcs (fold moved flow cycle) s.ends s.acyclic round_dual)
    where
      nearer : (l : ℕ) (a b : ℤ) → a <ℤ b → b ≤ℤ pos l → nat_abs (pos l -ℤ b) < nat_abs (pos l -ℤ a)
      nearer l a b h k = omega (arith, ints)
