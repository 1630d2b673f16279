-- Flow and arcs at a node, by the places of its arcs.
use Rattle.std.proofs.Common.{◌≡◌, ℕ, zero, suc, ◌+◌, ◌<◌, ◌≤◌, ◌==◌, Bool, true, false, cond, not, List, [], ◌∷◌, ◌++◌, get_or, length, take, zip, sum_by, All, refl, sym, ap, ◌∙◌, arith, length-append, add-zero}
use Rattle.std.specs.List.{filter, range_with_len, count_by}
use Rattle.std.proofs.lemmas.List.{take_all}
use Rattle.std.proofs.lemmas.List.Sums.{sum_by-append, sum_by-cons, count_by_more_yes, count_by_more_no}
use Rattle.std.proofs.lemmas.List.Elements.{All-filter}
use Rattle.std.proofs.lemmas.List.Filters.{length-filter_both}
use Rattle.std.proofs.lemmas.List.FromFn.{length-range_with_len}
use Rattle.df_stages.specs.declared.skeleton.SkeletonArc.{SkeletonArc}
use Rattle.df_stages.specs.Skeletons.{no_arc, arc_at}
use Rattle.df_stages.proofs.Ranges.{filtered_more}
use Rattle.df_stages.proofs.Forward.{all_range}
use Rattle.df_stages.proofs.ZipSums.{pairs_more, pairs_all}

module _ (key : SkeletonArc → ℕ) (arcs : List SkeletonArc) (node : ℕ) where
  abbrev places : ℕ → List ℕ
  places n = filter (λ i. key (arc_at arcs i) == node) (range_with_len 0 n)

  keyed_flow : (flow : List ℕ) (n : ℕ) → length flow ≡ length arcs → n ≤ length arcs → sum_by (λ i. get_or flow i 0) (places n) ≡ sum_by (λ (p : SkeletonArc × ℕ). cond (key p.0 == node) p.1 0) (take n (zip arcs flow))
  keyed_flow flow zero same few = refl
  keyed_flow flow (suc n) same few =
      ap (λ k. sum_by (λ i. get_or flow i 0) (places k)) next
      ∙ ap (λ l. sum_by (λ i. get_or flow i 0) l) (filtered_more (λ i. key (arc_at arcs i) == node) n)
      ∙ sum_by-append (λ i. get_or flow i 0) (places n) (cond (key (arc_at arcs n) == node) (n ∷ []) [])
      ∙ ap (λ s. s + sum_by (λ i. get_or flow i 0) (cond (key (arc_at arcs n) == node) (n ∷ []) [])) (keyed_flow flow n same (omega (arith, few)))
      ∙ ap (λ s. sum_by (λ (p : SkeletonArc × ℕ). cond (key p.0 == node) p.1 0) (take n (zip arcs flow)) + s) (one (key (arc_at arcs n) == node))
      ∙ sym (pairs_more (λ (p : SkeletonArc × ℕ). cond (key p.0 == node) p.1 0) arcs flow n no_arc 0 same (omega (arith, few)))
      ∙ ap (λ k. sum_by (λ (p : SkeletonArc × ℕ). cond (key p.0 == node) p.1 0) (take k (zip arcs flow))) (sym next)
    where
      next : suc n ≡ n + 1
      next = omega arith

      one : (b : Bool) → sum_by (λ i. get_or flow i 0) (cond b (n ∷ []) []) ≡ cond b (get_or flow n 0) 0
      one true = sum_by-cons (λ i. get_or flow i 0) n [] ∙ add-zero (get_or flow n 0)
      one false = refl

  pub flow_of_places : (flow : List ℕ) → length flow ≡ length arcs → sum_by (λ i. get_or flow i 0) (places (length arcs)) ≡ sum_by (λ (p : SkeletonArc × ℕ). cond (key p.0 == node) p.1 0) (zip arcs flow)
  flow_of_places flow same =
      keyed_flow flow (length arcs) same (omega arith) ∙ ap (λ l. sum_by (λ (p : SkeletonArc × ℕ). cond (key p.0 == node) p.1 0) l) (pairs_all arcs flow (length arcs) same (omega arith))

  keyed_count : (n : ℕ) → n ≤ length arcs → length (places n) ≡ count_by (λ arc. key arc == node) (take n arcs)
  keyed_count zero few = refl
  keyed_count (suc n) few =
      ap (λ k. length (places k)) next ∙ ap (λ (l : List ℕ). length l) (filtered_more (λ i. key (arc_at arcs i) == node) n)
      ∙ by (key (arc_at arcs n) == node) refl (keyed_count n (omega (arith, few))) ∙ ap (λ k. count_by (λ arc. key arc == node) (take k arcs)) (sym next)
    where
      next : suc n ≡ n + 1
      next = omega arith

      by : (b : Bool) → (key (arc_at arcs n) == node) ≡ b → length (places n) ≡ count_by (λ arc. key arc == node) (take n arcs)
          → length (places n ++ cond {A = List ℕ} (key (arc_at arcs n) == node) (n ∷ []) []) ≡ count_by (λ arc. key arc == node) (take (n + 1) arcs)
      by true e before =
          ap (λ b. length (places n ++ cond {A = List ℕ} b (n ∷ []) [])) e ∙ length-append (places n) (n ∷ []) ∙ ap (λ k. k + 1) before
          ∙ sym (count_by_more_yes (λ arc. key arc == node) arcs n no_arc (omega (arith, few)) e)
      by false e before =
          ap (λ b. length (places n ++ cond {A = List ℕ} b (n ∷ []) [])) e ∙ length-append (places n) [] ∙ add-zero (length (places n)) ∙ before
          ∙ sym (count_by_more_no (λ arc. key arc == node) arcs n no_arc (omega (arith, few)) e)

  pub count_of_places : length (places (length arcs)) ≡ count_by (λ arc. key arc == node) arcs
  count_of_places = keyed_count (length arcs) (omega arith) ∙ ap (λ l. count_by (λ arc. key arc == node) l) (take_all (length arcs) arcs (omega arith))

  pub places_within : All (λ i. i < length arcs) (places (length arcs))
  places_within = All-filter (λ i. key (arc_at arcs i) == node) (λ i. i < length arcs) (range_with_len 0 (length arcs)) (all_range (length arcs))

  pub places_few : length (places (length arcs)) ≤ length arcs
  places_few =
      let both = length-filter_both (λ i. key (arc_at arcs i) == node) (λ i. not (key (arc_at arcs i) == node)) (λ i. refl) (range_with_len 0 (length arcs)) in
      let all = length-range_with_len 0 (length arcs) in omega (arith, both, all)
