-- With as many BUF cells on each arc as its excess, the cells are balanced, and these BUF cells are least.
use Rattle.std.proofs.Common.{◌≡◌, ℕ, ◌+◌, ◌<◌, ◌≤◌, ◌==◌, ℤ, pos, ◌+ℤ◌, ◌-ℤ◌, ◌*ℤ◌, cond, List, [], ◌∷◌, map, length, get_or, fold, sum_by, All, inl, inr, refl, sym, ap, subst, ◌∙◌, arith}
use Rattle.std.specs.Prelude.{zip, if◌then◌else◌}
use Rattle.std.proofs.Math.IntN.{+ℤ_assoc, +ℤ_idl, +ℤ_idr}
use Rattle.std.proofs.lemmas.Int.{ints}
use Rattle.std.proofs.lemmas.Bool.{cases_lt}
use Rattle.std.proofs.lemmas.List.{length-map, get_or_past}
use Rattle.std.proofs.lemmas.List.Elements.{All-head, All-tail, All-map}
use Rattle.std.proofs.lemmas.List.Sums.{sum_by-cons}
use Rattle.df_cells.specs.declared.cells.Cell.{Cell}
use Rattle.df_cells.specs.declared.cells.Dest.{Dest}
use Rattle.df_cells.specs.Cells.{no_cell, port_of}
use Rattle.df_cells.specs.Paths.{mark_of}
use Rattle.df_cells.specs.Shifts.{first_from}
use Rattle.df_stages.specs.Sums.{int_sum_by}
use Rattle.df_stages.specs.declared.skeleton.SkeletonArc.{SkeletonArc}
use Rattle.df_stages.specs.Nodes.{node_of}
use Rattle.df_stages.specs.Skeletons.{nodes, count_below, arcs, buffers}
use Rattle.df_stages.specs.Flows.{excess, total_excess, IsBalancedArc, AreBalancedArcs, buffer_count, EndsWithin, inflow, outflow, arcs_in, arcs_out, IsDualFlow, flow_value}
use Rattle.df_stages.specs.Balance.{stage_of, node_stages, IsBalanced, IsCertificate}
use Rattle.df_buffers_laws.specs.Buffered.{IsBuffered}
use Rattle.df_buffers_laws.specs.Filled.{filled}
use Rattle.df_buffers_laws.specs.Nodes.{HasCountedNodes}
use Rattle.df_buffers_laws.specs.Staged.{HasStages}
use Rattle.df_buffers_laws.proofs.Origins.{plain}
use Rattle.df_buffers_laws.proofs.Tables.{fed_inside}
use Rattle.df_buffers_laws.proofs.Skeleton.{nodes_stay, node_stays, arcs_stay}

-- ---- sums

int_sum_from : {X : Type 0} (f : X → ℤ) (a : ℤ) (xs : List X) → fold (λ s x. s +ℤ f x) a xs ≡ a +ℤ int_sum_by f xs
int_sum_from f a [] = sym (+ℤ_idr a)
int_sum_from f a (x ∷ xs) =
    int_sum_from f (a +ℤ f x) xs ∙ +ℤ_assoc a (f x) (int_sum_by f xs)
    ∙ ap (λ z. a +ℤ z) (sym (int_sum_from f (pos 0 +ℤ f x) xs ∙ ap (λ z. z +ℤ int_sum_by f xs) (+ℤ_idl (f x))))

pub int_sum-cons : {X : Type 0} (f : X → ℤ) (x : X) (xs : List X) → int_sum_by f (x ∷ xs) ≡ f x +ℤ int_sum_by f xs
int_sum-cons f x xs = int_sum_from f (pos 0 +ℤ f x) xs ∙ ap (λ z. z +ℤ int_sum_by f xs) (+ℤ_idl (f x))

-- ---- what doesn't see the BUF cells of arcs

-- over pairs of an arc and a flow
pairs_sum : (count : Dest → ℕ) (f : SkeletonArc × ℕ → ℕ)
    → ((arc : SkeletonArc) (n : ℕ) → f (filled count arc, n) ≡ f (arc, n)) → (arcs : List SkeletonArc) (flow : List ℕ)
    → sum_by f (zip (map (filled count) arcs) flow) ≡ sum_by f (zip arcs flow)
pairs_sum count f same [] flow = refl
pairs_sum count f same (a ∷ arcs) [] = refl
pairs_sum count f same (a ∷ arcs) (n ∷ flow) =
    sum_by-cons f (filled count a, n) (zip (map (filled count) arcs) flow)
    ∙ ap (λ k. k + sum_by f (zip (map (filled count) arcs) flow)) (same a n)
    ∙ ap (λ k. f (a, n) + k) (pairs_sum count f same arcs flow) ∙ sym (sum_by-cons f (a, n) (zip arcs flow))

pairs_int_sum : (count : Dest → ℕ) (f : SkeletonArc × ℕ → ℤ)
    → ((arc : SkeletonArc) (n : ℕ) → f (filled count arc, n) ≡ f (arc, n)) → (arcs : List SkeletonArc) (flow : List ℕ)
    → int_sum_by f (zip (map (filled count) arcs) flow) ≡ int_sum_by f (zip arcs flow)
pairs_int_sum count f same [] flow = refl
pairs_int_sum count f same (a ∷ arcs) [] = refl
pairs_int_sum count f same (a ∷ arcs) (n ∷ flow) =
    int_sum-cons f (filled count a, n) (zip (map (filled count) arcs) flow)
    ∙ ap (λ k. k +ℤ int_sum_by f (zip (map (filled count) arcs) flow)) (same a n)
    ∙ ap (λ k. f (a, n) +ℤ k) (pairs_int_sum count f same arcs flow) ∙ sym (int_sum-cons f (a, n) (zip arcs flow))

arcs_sum : (count : Dest → ℕ) (f : SkeletonArc → ℕ) → ((arc : SkeletonArc) → f (filled count arc) ≡ f arc)
    → (arcs : List SkeletonArc) → sum_by f (map (filled count) arcs) ≡ sum_by f arcs
arcs_sum count f same [] = refl
arcs_sum count f same (a ∷ arcs) =
    sum_by-cons f (filled count a) (map (filled count) arcs) ∙ ap (λ k. k + sum_by f (map (filled count) arcs)) (same a)
    ∙ ap (λ k. f a + k) (arcs_sum count f same arcs) ∙ sym (sum_by-cons f a arcs)

arcs_int_sum : (count : Dest → ℕ) (f : SkeletonArc → ℤ) → ((arc : SkeletonArc) → f (filled count arc) ≡ f arc)
    → (arcs : List SkeletonArc) → int_sum_by f (map (filled count) arcs) ≡ int_sum_by f arcs
arcs_int_sum count f same [] = refl
arcs_int_sum count f same (a ∷ arcs) =
    int_sum-cons f (filled count a) (map (filled count) arcs)
    ∙ ap (λ k. k +ℤ int_sum_by f (map (filled count) arcs)) (same a)
    ∙ ap (λ k. f a +ℤ k) (arcs_int_sum count f same arcs) ∙ sym (int_sum-cons f a arcs)

filled_dual : (count : Dest → ℕ) (nodes : ℕ) (arcs : List SkeletonArc) (flow : List ℕ) → IsDualFlow nodes arcs flow
    → IsDualFlow nodes (map (filled count) arcs) flow
filled_dual count nodes arcs flow dual = record {
  each = dual.each ∙ sym (length-map arcs (filled count));
  small = dual.small;
  conserved = λ node h.
      ap (λ n. pos n -ℤ pos (outflow (map (filled count) arcs) flow node))
      (pairs_sum count (λ p. if p.0.to == node then p.1 else 0) (λ a n. refl) arcs flow)
      ∙ ap (λ n. pos (inflow arcs flow node) -ℤ pos n)
      (pairs_sum count (λ p. if p.0.from == node then p.1 else 0) (λ a n. refl) arcs flow)
      ∙ dual.conserved node h
      ∙ ap (λ n. pos n -ℤ pos (arcs_out arcs node))
      (sym (arcs_sum count (λ arc. cond (arc.to == node) 1 0) (λ a. refl) arcs))
      ∙ ap (λ n. pos (arcs_in (map (filled count) arcs) node) -ℤ pos n)
      (sym (arcs_sum count (λ arc. cond (arc.from == node) 1 0) (λ a. refl) arcs));
}

filled_value : (count : Dest → ℕ) (arcs : List SkeletonArc) (flow : List ℕ)
    → flow_value (map (filled count) arcs) flow ≡ flow_value arcs flow
filled_value count arcs flow =
    ap (λ z. z -ℤ int_sum_by (λ arc. arc.weight) (map (filled count) arcs))
    (pairs_int_sum count (λ p. p.0.weight *ℤ pos p.1) (λ a n. refl) arcs flow)
    ∙ ap (λ z. int_sum_by (λ p. p.0.weight *ℤ pos p.1) (zip arcs flow) -ℤ z)
    (arcs_int_sum count (λ arc. arc.weight) (λ a. refl) arcs)

-- on each arc as many BUF cells as its excess
abbrev pub Fills : (Dest → ℕ) → (ℕ → ℤ) → List SkeletonArc → Type 0
Fills count numbers arcs = All (λ arc. excess numbers arc ≡ pos (count arc.name)) arcs

filled_count : (count : Dest → ℕ) (numbers : ℕ → ℤ) (arcs : List SkeletonArc) → Fills count numbers arcs
    → total_excess numbers arcs ≡ pos (buffer_count (map (filled count) arcs))
filled_count count numbers [] fills = refl
filled_count count numbers (a ∷ arcs) fills =
    let P = λ (arc : SkeletonArc). excess numbers arc ≡ pos (count arc.name) in
    adds _ _ _ _ _ _ (int_sum-cons (excess numbers) a arcs)
    (sum_by-cons (λ (arc : SkeletonArc). arc.buffers) (filled count a) (map (filled count) arcs))
    (All-head P a arcs fills) (filled_count count numbers arcs (All-tail P a arcs fills))
  where
    adds : (x y z : ℤ) (u v w : ℕ) → x ≡ y +ℤ z → w ≡ u + v → y ≡ pos u → z ≡ pos v → x ≡ pos w
    adds x y z u v w a b c d = omega (arith, ints)

-- ---- balance

module _ (old new : List Cell) (count : Dest → ℕ) (is : IsBuffered old new count)
    (marks : (c : ℕ) → mark_of new c ≡ mark_of old c)
    (least : (c : ℕ) → c < length old → node_of old c < length old) (in_order : HasCountedNodes old) (numbers : ℕ → ℤ)
    (staged : HasStages old new numbers)
    (fills : Fills count numbers (arcs old)) (ends : EndsWithin (length (nodes old)) (arcs old)) where
  node_number : (place : ℕ) → place < length (nodes old) → node_stages new place ≡ numbers place
  node_number place h =
      ap (λ (l : List ℕ). pos (stage_of new (get_or l place 0))) (nodes_stay old new count is marks least)
      ∙ staged.cells (get_or (nodes old) place 0) (in_order.within place h) ∙ ap numbers (in_order.placed place h)

  -- within a node there is one stage
  one_stage : (c : ℕ) → c < length old → stage_of new c ≡ stage_of new (node_of old c)
  one_stage c h =
      let low = in_order.least c h in
      let own = staged.cells c h in
      let least = staged.cells (node_of old c) (omega arith) in
      let place = ap (λ k. numbers (count_below old k)) (in_order.named c h) in
      omega (arith, ints)

  balanced_arc : (arc : SkeletonArc) → (arc.from < length (nodes old)) × (arc.to < length (nodes old))
      → excess numbers arc ≡ pos (count arc.name) → IsBalancedArc (node_stages new) (filled count arc)
  balanced_arc arc ends full = sums _ _ _ _ _ _ (node_number arc.to ends.1) (node_number arc.from ends.0) full
    where
      sums : (t f t' f' w : ℤ) (n : ℕ) → t ≡ t' → f ≡ f' → (t' -ℤ f') -ℤ w ≡ pos n → t -ℤ f ≡ w +ℤ pos n
      sums t f t' f' w n a b c = omega (arith, ints)

  unmarked : (c : ℕ) → length old ≤ c → mark_of new c ≡ 0
  unmarked c past = marks c ∙ ap (λ (cell : Cell). cell.mark) (get_or_past old c no_cell past)

  pub balanced : IsBalanced new
  balanced = record {
    arcs = subst (AreBalancedArcs (node_stages new)) (sym (arcs_stay old new count is marks least))
        (All-map (IsBalancedArc (node_stages new)) (filled count) (arcs old)
        (λ k d h. balanced_arc (get_or (arcs old) k d) (ends k d h) (fills k d h)));
    buffers = λ b u is_one fed.
        let inside = fed_inside new (port_of b 0) u fed in
        elim (cases_lt b (length old)) [
          | inl here ↦ let no = plain old new count is b here in absurd (cc)
          | inr behind ↦ staged.buffers b u behind inside fed
        ];
    nodes = λ c h. elim (cases_lt c (length old)) [
      | inl here ↦ one_stage c here ∙ ap (stage_of new) (sym (node_stays old new count is marks least c here))
      | inr behind ↦
          ap (stage_of new) (sym (ap (λ m. cond (m == 0) c (first_from (λ (cell : Cell). cell.mark == mark_of new c) 0 new)) (unmarked c behind)))
    ];
  }

  pub counted : buffer_count (arcs new) ≡ buffers new → pos (buffers new) ≡ total_excess numbers (arcs old)
  counted all =
      ap pos (sym all ∙ ap buffer_count (arcs_stay old new count is marks least))
      ∙ sym (filled_count count numbers (arcs old) fills)

  pub certified : (flow : List ℕ) → buffer_count (arcs new) ≡ buffers new
      → IsDualFlow (length (nodes old)) (arcs old) flow → total_excess numbers (arcs old) ≡ flow_value (arcs old) flow
      → IsCertificate new flow
  certified flow all dual tight = record {
    dual = subst (λ l. IsDualFlow (length (nodes new)) l flow) (sym (arcs_stay old new count is marks least))
        (subst (λ (l : List ℕ). IsDualFlow (length l) (map (filled count) (arcs old)) flow)
        (sym (nodes_stay old new count is marks least)) (filled_dual count (length (nodes old)) (arcs old) flow dual));
    value =
        ap (λ l. flow_value l flow) (arcs_stay old new count is marks least) ∙ filled_value count (arcs old) flow
        ∙ sym tight ∙ sym (counted all);
  }
