-- A cycle of forward steps is a path from a node to itself, and numbers that no step of count 1 passes are ranks.
use Rattle.std.proofs.Common.{◌≡◌, ℕ, zero, suc, ◌+◌, ◌-◌, ◌*◌, ◌<◌, ℤ, pos, nat_abs, neg_ℤ, ◌+ℤ◌, ◌≤ℤ◌, List, [], ◌∷◌, ◌++◌, length, Contains, sym, ap, subst, ◌∙◌, below_more, arith}
use Rattle.std.proofs.lemmas.Int.{ints}
use Rattle.std.proofs.lemmas.List.{get_or_append_left, get_or_push, get_or_default, length-append}
use Rattle.std.proofs.lemmas.List.Elements.{Contains-get_or}
use Rattle.df_stages.specs.Flows.{EndsWithin}
use Rattle.df_cancel.specs.Rows.{at_row, no_step, step_at, StepsWithin, RowWithin}
use Rattle.df_cancel.specs.Cycles.{IsPositiveCycle}
use Rattle.df_cancel.specs.Found.{Settles}
use Rattle.df_stages.specs.Routes.{IsRoute, HasNoCycle}
use Rattle.df_stages.specs.Skeletons.{no_arc, arc_at}
use Rattle.df_cancel.specs.Residuals.{unit_step, AreUnitSteps, IsAcyclic}
use Rattle.df_cancel.specs.declared.step.Step.{Step}
use Rattle.df_stages.specs.declared.skeleton.SkeletonArc.{SkeletonArc}

pub units_push : (arcs : List SkeletonArc) (n : ℕ) (steps : List Step) → AreUnitSteps arcs n steps → AreUnitSteps arcs (n + 1) (steps ++ unit_step arcs n ∷ [])
units_push arcs n steps (len, each) = (
  omega (arith, length-append steps (unit_step arcs n ∷ []), len),
  below_more (λ k. step_at (steps ++ unit_step arcs n ∷ []) k ≡ unit_step arcs k) n
      (λ k h. get_or_append_left steps (unit_step arcs n ∷ []) no_step k (omega (arith, len)) ∙ each k h) (get_or_push steps (unit_step arcs n) no_step n len),
)

-- a step of the list goes along an arc
IsAlong : List SkeletonArc → Step → Type 0
IsAlong arcs s = (arc : SkeletonArc) × Contains arcs arc × (arc.from ≡ s.from) × (arc.to ≡ s.to)

along : (arcs : List SkeletonArc) (steps : List Step) → AreUnitSteps arcs (length arcs) steps → (s : Step) → Contains steps s → IsAlong arcs s
unfolding IsAlong
along arcs steps (len, each) s (k, h, e) =
    let i : k < length arcs = omega (arith, len) in
    let is = sym (each k i) ∙ sym (get_or_default steps k s no_step h) ∙ e in
    (arc_at arcs k, Contains-get_or arcs k no_arc i, ap (λ (x : Step). x.from) is, ap (λ (x : Step). x.to) is)

-- from the beginning of a step of the cycle a route leads to the cycle's end
record LeadsOn (arcs : List SkeletonArc) (from to : ℕ) : Type 0 where
  first : SkeletonArc
  route : List SkeletonArc
  is : IsRoute arcs from (first ∷ route) to

route_back : (nodes : ℕ) (arcs : List SkeletonArc) (steps cycle : List Step) → AreUnitSteps arcs (length arcs) steps → IsPositiveCycle nodes steps cycle → (j : ℕ) → j < length cycle → LeadsOn arcs (step_at cycle j).from (step_at cycle 0).to
unfolding IsAlong
route_back nodes arcs steps cycle units c zero h =
    let a = along arcs steps units (step_at cycle 0) (c.taken 0 h) in record { first = a.0; route = []; is = (a.1, a.2, a.3) }
route_back nodes arcs steps cycle units c (suc j) h =
    let a = along arcs steps units (step_at cycle (suc j)) (c.taken (suc j) h) in
    let rest = route_back nodes arcs steps cycle units c j (omega arith) in
    let e : j + 1 ≡ suc j = omega arith in
    let joint = a.3 ∙ sym (ap (λ i. (step_at cycle i).to) e) ∙ c.linked j (omega arith) in
    record { first = a.0; route = rest.first ∷ rest.route; is = (a.1, a.2, subst (λ v. IsRoute arcs v (rest.first ∷ rest.route) (step_at cycle 0).to) (sym joint) rest.is) }

pub no_unit_cycle : (nodes : ℕ) (arcs : List SkeletonArc) (steps cycle : List Step) → HasNoCycle arcs → AreUnitSteps arcs (length arcs) steps → IsPositiveCycle nodes steps cycle → ⊥
no_unit_cycle nodes arcs steps cycle none units c =
    let last = length cycle - 1 in
    let some = c.some in
    let e : last + 1 ≡ length cycle = omega arith in
    let leads = route_back nodes arcs steps cycle units c last (omega arith) in
    none (step_at cycle 0).to leads.first leads.route (subst (λ v. IsRoute arcs v (leads.first ∷ leads.route) (step_at cycle 0).to) (c.closed last e) leads.is)

pub units_within : (nodes m : ℕ) (arcs : List SkeletonArc) (steps : List Step) → EndsWithin nodes arcs → 0 < m → AreUnitSteps arcs (length arcs) steps → StepsWithin nodes m steps
units_within nodes m arcs steps ends some (len, each) k d h =
    let i : k < length arcs = omega (arith, len) in
    let a = ends k no_arc i in
    subst (λ (s : Step). (s.from < nodes) × (s.to < nodes) × (neg_ℤ (pos m) ≤ℤ s.count) × (s.count ≤ℤ pos m)) (sym (each k i) ∙ get_or_default steps k no_step d h)
    (a.0, a.1, omega (arith, ints), omega (arith, ints))

pub ranked : (nodes : ℕ) (arcs : List SkeletonArc) (steps : List Step) (numbers : List ℤ) → EndsWithin nodes arcs → AreUnitSteps arcs (length arcs) steps → Settles steps numbers → ((m : ℕ) → StepsWithin nodes m steps → RowWithin (nodes * m) numbers) → IsAcyclic arcs
ranked nodes arcs steps numbers ends units settles bounds = (
  (λ v. nat_abs (at_row numbers v)),
  λ k d h.
      let s = subst (λ (x : Step). (at_row numbers x.from +ℤ x.count) ≤ℤ at_row numbers x.to) (units.1 k h) (settles k (omega (arith, units.0))) in
      let w = bounds 1 (units_within nodes 1 arcs steps ends (omega arith) units) in
      let a = (w (arc_at arcs k).from).0 in let b = (w (arc_at arcs k).to).0 in
      subst (λ (arc : SkeletonArc). nat_abs (at_row numbers arc.from) < nat_abs (at_row numbers arc.to)) (get_or_default arcs k no_arc d h) (rises (at_row numbers (arc_at arcs k).from) (at_row numbers (arc_at arcs k).to) a b s),
)
  where
    rises : (x y : ℤ) → pos 0 ≤ℤ x → pos 0 ≤ℤ y → (x +ℤ pos 1) ≤ℤ y → nat_abs x < nat_abs y
    rises x y a b h = omega (arith, ints)
