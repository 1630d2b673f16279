-- As many ports are buffered as the sum of the excesses.
use Rattle.std.proofs.Common.{◌≡◌, ℕ, ◌+◌, ℤ, pos, ◌+ℤ◌, ◌≤ℤ◌, List, [], ◌∷◌, length, replicate, refl, ap, ◌∙◌, arith, length-append}
use Rattle.std.proofs.lemmas.Int.{ints}
use Rattle.std.proofs.lemmas.List.{length-replicate}
use Rattle.std.proofs.lemmas.List.Elements.{All-head, All-tail}
use Rattle.df_stages.specs.declared.skeleton.SkeletonArc.{SkeletonArc}
use Rattle.df_stages.specs.Flows.{difference, excess, Respects, total_excess}
use Rattle.df_buffers_laws.specs.Insertions.{natural, ports_to_buffer}
use Rattle.df_buffers_laws.proofs.Balance.{int_sum-cons}
use Rattle.df_buffers_laws.proofs.Counts.{natural_is}

pub ports_counted : (arcs : List SkeletonArc) (numbers : ℕ → ℤ) → Respects numbers arcs
    → pos (length (ports_to_buffer arcs numbers)) ≡ total_excess numbers arcs
ports_counted [] numbers respects = refl
ports_counted (a ∷ arcs) numbers respects =
    let P = λ (arc : SkeletonArc). arc.weight ≤ℤ difference numbers arc in
    let n = natural (excess numbers a) in
    let here = natural_is (difference numbers a) a.weight (All-head P a arcs respects) in
    let rest = ports_counted arcs numbers (All-tail P a arcs respects) in
    let long = length-append (replicate n a.name) (ports_to_buffer arcs numbers) in
    let copies = length-replicate n a.name in
    let sum = int_sum-cons (excess numbers) a arcs in
    adds _ _ _ _ _ _ sum (long ∙ ap (λ k. k + length (ports_to_buffer arcs numbers)) copies) here rest
  where
    adds : (x y z : ℤ) (u v w : ℕ) → x ≡ y +ℤ z → w ≡ u + v → y ≡ pos u → pos v ≡ z → pos w ≡ x
    adds x y z u v w a b c d = omega (arith, ints)
