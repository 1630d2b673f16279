use Rattle.std.proofs.Common.{◌≡◌, ℕ, List, ◌+◌, ◌↔◌, IsTrue, nat_eq, pos, ◌-ℤ◌, sum_by, get_or, length, ap, ◌∙◌, arith, eq-eqb}
use Rattle.std.proofs.lemmas.Bool.{eqb-true}
use Rattle.std.proofs.lemmas.Int.{ints}
use Rattle.df_stages.specs.declared.skeleton.SkeletonArc.{SkeletonArc}
use Rattle.df_dual_check.proofs.Indexed.{places_within, places_few, flow_of_places, count_of_places}
use Rattle.df_paths.proofs.checked.is_conserved_at.Goals as goal

balanced_at : (i o a b inflow outflow into out_of : ℕ) → i ≡ inflow → o ≡ outflow → a ≡ into → b ≡ out_of → IsTrue (nat_eq (i + b) (o + a)) ↔ (pos inflow -ℤ pos outflow ≡ pos into -ℤ pos out_of)
balanced_at i o a b inflow outflow into out_of e f g h =
    ((λ t. let same : i + b ≡ o + a = eqb-true (i + b) (o + a) t in omega (arith, ints, same, e, f, g, h)), (λ z. eq-eqb (i + b) (o + a) (omega (arith, ints, z, e, f, g, h))))

pub flow_at-requires-clause-within : goal.flow_at-requires-clause-within
flow_at-requires-clause-within c =
    rw (c.entering-entering.ensures, c.requires.flow) (places_within (λ (arc : SkeletonArc). arc.to) c.args.s.now.arcs c.args.node)

pub flow_at-requires-clause-few : goal.flow_at-requires-clause-few
flow_at-requires-clause-few c =
    let few = places_few (λ (arc : SkeletonArc). arc.to) c.args.s.now.arcs c.args.node in
    let long = ap (λ (l : List ℕ). length l) c.entering-entering.ensures in
    let most = c.requires.few in omega (arith, few, long, most)

pub flow_at-requires-2-clause-within : goal.flow_at-requires-2-clause-within
flow_at-requires-2-clause-within c =
    rw (c.leaving-leaving.ensures, c.requires.flow) (places_within (λ (arc : SkeletonArc). arc.from) c.args.s.now.arcs c.args.node)

pub flow_at-requires-2-clause-few : goal.flow_at-requires-2-clause-few
flow_at-requires-2-clause-few c =
    let few = places_few (λ (arc : SkeletonArc). arc.from) c.args.s.now.arcs c.args.node in
    let long = ap (λ (l : List ℕ). length l) c.leaving-leaving.ensures in
    let most = c.requires.few in omega (arith, few, long, most)

pub returns : goal.returns
returns c =
    let gained = c.flow_at.ensures.value ∙ ap (λ (l : List ℕ). sum_by (λ i. get_or c.args.flow.now i 0) l) c.entering-entering.ensures ∙ flow_of_places (λ (arc : SkeletonArc). arc.to) c.args.s.now.arcs c.args.node c.args.flow.now c.requires.flow in
    let lost = c.flow_at-2.ensures.value ∙ ap (λ (l : List ℕ). sum_by (λ i. get_or c.args.flow.now i 0) l) c.leaving-leaving.ensures ∙ flow_of_places (λ (arc : SkeletonArc). arc.from) c.args.s.now.arcs c.args.node c.args.flow.now c.requires.flow in
    let in_count = ap (λ (l : List ℕ). length l) c.entering-entering.ensures ∙ count_of_places (λ (arc : SkeletonArc). arc.to) c.args.s.now.arcs c.args.node in
    let out_count = ap (λ (l : List ℕ). length l) c.leaving-leaving.ensures ∙ count_of_places (λ (arc : SkeletonArc). arc.from) c.args.s.now.arcs c.args.node in
    balanced_at _ _ _ _ _ _ _ _ gained lost in_count out_count
