-- Each form of a term stays in the zone of its block.
use Rattle.std.proofs.Common.{◌≡◌, ℕ, ℤ, ◌≤◌, ◌<◌, Bool, true, false, List, [], ◌∷◌, ◌++◌, map, drop, length, Option, Some, None, refl, sym, subst, inl, arith}
use Rattle.std.specs.Prelude.{if◌then◌else◌, nat_lt, slice_get}
use Rattle.std.specs.List.{AllByRecursion}
use Rattle.df_values.specs.declared.kinds.Binary.{Binary}
use Rattle.df_values.specs.declared.kinds.Unary.{Unary}
use Rattle.df_values.specs.declared.values.Value.TheVariants as value
use Rattle.df_cells.specs.Families.{kind_of, kind_of_one}
use Rattle.df_cells.specs.declared.kinds.Kind.{Kind}
use Rattle.df_cells.specs.declared.kinds.Kind.TheVariants as kind
use Rattle.df_labels.specs.Graphs.{Graph}
use Rattle.df_labels.specs.declared.graphs.Flow.{Flow}
use Rattle.df_labels.specs.declared.graphs.Flow.TheVariants.{Constant, Cell}
use Rattle.df_core.specs.TermInduction.{Proved, without, term_induction}
use Rattle.df_core.specs.Terms.{layer_of, fold_rolled}
use Rattle.df_core.specs.declared.terms.Branch.{Branch}
use Rattle.df_core.specs.declared.terms.Step.{Step}
use Rattle.df_core.specs.declared.terms.Term.{Term}
use Rattle.df_core.specs.declared.terms.Term.TheOpen.{Term-F}
use Rattle.df_build_cond.specs.Arms.{Arm}
use Rattle.df_build_cond.specs.Growth.{Stood, whole, pushed}
use Rattle.df_build_cond.specs.InZone.{IsSteady, Suits, FlowSuits, ArmSuits, KeepsCells, StandsInZone}
use Rattle.df_build_cond.specs.Laws.{GatesStayInZone}
use Rattle.df_build_cond.specs.Orderly.{zone_at, Orderly}
use Rattle.df_build_access.specs.Elements.{windowed}
use Rattle.df_build_access.specs.Laws.{ArraySuits, WindowsStayInZone}
use Rattle.df_build_access.specs.declared.windows.Array.{Array}
use Rattle.df_build_loops.specs.Frames.{undef, previous}
use Rattle.df_build_loops.specs.Holds.{held}
use Rattle.df_build_loops.specs.Laws.{IsOpen, LoopsStayInZone}
use Rattle.df_build_terms.specs.Building as b
use Rattle.df_build_terms.specs.Building.{Building, Built, Make, Met, at, as_built, enter, leave, with_index, with_previous, with_hold, with_access}
use Rattle.df_build_terms.specs.Built.{Defined, local_of, form, built, chained, choose, defined}
use Rattle.df_build_terms.specs.InZone.{MetSuits, IsInZone, ScalarSuits, OutsideSuits, LocalSuits, BuildsInZone, KeepsInZone, TermsStayInZone}
use Rattle.df_build_terms.specs.Outer.{flow_at, array_at}
use Rattle.df_build_terms.specs.declared.building.Local.{Local}
use Rattle.df_build_terms.specs.declared.building.Outside.{Outside}
use Rattle.df_build_terms.specs.declared.building.Turns.{Turns}
use Rattle.df_build_terms.proofs.Lists.{all_map, all_push, all_get, noted_all, accesses_all}

module _ (gates : GatesStayInZone) (windows : WindowsStayInZone) (loops : LoopsStayInZone) (z first : ℕ) where
  -- ---- more cells

  module _ (g h : Graph) (x y : List ℕ) (kept : KeepsCells g x h y) where
    met_more : (met : Met) → MetSuits g x z first met → MetSuits h y z first met
    met_more met w = record {
      index = λ c is. gates.suits_more g h x y z first c kept (w.index c is);
      previous = λ c is. gates.suits_more g h x y z first c kept (w.previous c is);
      holds = λ number c is. gates.suits_more g h x y z first c kept (w.holds number c is);
      accesses = λ number offset flow is. gates.flow_more g h x y z first flow kept (w.accesses number offset flow is);
    }

    locals_more : (ls : List Local) → AllByRecursion (LocalSuits g x z first) ls
        → AllByRecursion (LocalSuits h y z first) ls
    locals_more ls all = all_map (LocalSuits g x z first) (LocalSuits h y z first) (λ l suits. gates.flow_more g h x y z first l.flow kept suits) ls all

    scalar_more : (flow : Flow) → ScalarSuits g x z flow → ScalarSuits h y z flow
    scalar_more (Constant v) s = tt
    scalar_more (Cell c) s =
        let less = s.0 in
        let longer = kept.longer in
        let below = s.2 in
        let zone = kept.zone c s.0 in
        (omega (arith, less, longer), subst IsSteady (sym (kept.kind c s.0)) s.1, omega (arith, below, zone))

    outside_more : (turns : Turns) (outer : List Outside) → OutsideSuits g x z turns outer
        → OutsideSuits h y z turns outer
    outside_more turns outer w = record {
      above = w.above;
      own = λ m is. loops.open_more g h x y z turns.n m kept (w.own m is);
      flows = λ number. scalar_more (flow_at outer number) (w.flows number);
      arrays = λ number. windows.array_more g h x y z (array_at outer number) kept (w.arrays number);
    }

  -- ---- steps

  -- a building in which a cell was made
  stood_sound : (s : Building) (zones : List ℕ) (t : Stood) → IsInZone z first zones s → (more : List ℕ)
      → Orderly more t.graph
      → KeepsCells s.graph zones t.graph more → IsInZone z first more (record s { graph = t.graph })
  stood_sound s zones t w more orderly kept =
      let begins = w.begins in
      let longer = kept.longer in
      record {
        orderly = orderly;
        begins = omega (arith, begins, longer);
        met = met_more s.graph t.graph zones more kept s.met w.met;
        arms = gates.arms_more s.graph t.graph zones more z first s.arms kept w.arms;
      }

  stood_in : (s : Building) (zones : List ℕ) (t : Stood) → IsInZone z first zones s
      → StandsInZone s.graph zones z first t
      → BuildsInZone z first s zones (as_built s t)
  stood_in s zones t w good =
      record { more = good.more; kept = good.kept; sound = stood_sound s zones t w good.more good.orderly good.kept; flow = good.cell }

  added_in : (s : Building) (zones : List ℕ) (it : Kind) (flows : List Flow) → IsInZone z first zones s
      → AllByRecursion (FlowSuits s.graph zones z first) flows
      → IsSteady it → BuildsInZone z first s zones (b.added whole s it flows)
  added_in s zones it flows w all steady =
      stood_in s zones (pushed whole s.graph it flows) w (gates.pushed s.graph it flows zones z first w.orderly w.begins all steady)

  -- after something in the zone, something in the zone
  after : (old s : Building) (zones zones' : List ℕ) (x : Built) → KeepsCells old.graph zones s.graph zones'
      → BuildsInZone z first s zones' x
      → BuildsInZone z first old zones x
  after old s zones zones' x kept good =
      record { more = good.more; kept = gates.kept_trans old.graph s.graph x.state.graph zones zones' good.more kept good.kept; sound = good.sound; flow = good.flow }

  still : (s : Building) (zones : List ℕ) (flow : Flow) → IsInZone z first zones s
      → FlowSuits s.graph zones z first flow → BuildsInZone z first s zones (at s flow)
  still s zones flow w suits = record { more = zones; kept = gates.kept_refl s.graph zones; sound = w; flow = suits }

  -- ---- arms

  crossed_in : (level : ℕ) (s : Building) (zones : List ℕ) (flow : Flow) → IsInZone z first zones s
      → FlowSuits s.graph zones z first flow
      → BuildsInZone z first s zones (b.crossed whole level s flow)
  unfolding b.crossed
  crossed_in level s zones flow w suits =
      let c = gates.cross level s.graph s.arms flow zones z first w.orderly w.begins w.arms suits in
      let begins = w.begins in
      let kept = c.kept in
      let longer = kept.longer in
      record {
        more = c.more;
        kept = c.kept;
        sound = record { orderly = c.orderly; begins = omega (arith, begins, longer); met = met_more s.graph _ zones c.more c.kept s.met w.met; arms = c.arms };
        flow = c.flow;
      }

  enter_in : (control : ℕ) (side : Bool) (s : Building) (zones : List ℕ) → IsInZone z first zones s
      → Suits s.graph zones z first control
      → IsInZone z first zones (enter control side s)
  enter_in control side s zones w suits =
      record { orderly = w.orderly; begins = w.begins; met = w.met; arms = (record { control = suits; gates = λ u d is. absurd (none is) }, w.arms) }
    where
      none : {d : ℕ} → None ≡ Some d → ⊥
      none e = cc

  leave_in : (s : Building) (zones : List ℕ) → IsInZone z first zones s → IsInZone z first zones (leave s)
  leave_in s zones w = record { orderly = w.orderly; begins = w.begins; met = w.met; arms = rest s.arms w.arms }
    where
      rest : (arms : List Arm) → AllByRecursion (ArmSuits s.graph zones z first) arms
          → AllByRecursion (ArmSuits s.graph zones z first) (drop 1 arms)
      rest [] all = tt
      rest (a ∷ arms) all = all.1

  -- ---- forms

  joined_in : (with : Binary) (s : Building) (zones : List ℕ) (x y : Flow) → IsInZone z first zones s
      → FlowSuits s.graph zones z first x
      → FlowSuits s.graph zones z first y → BuildsInZone z first s zones (b.joined whole with s x y)
  unfolding b.joined
  joined_in with s zones (Constant v) (Constant w) sound x y = still s zones _ sound tt
  joined_in with s zones (Constant v) (Cell d) sound x y = added_in s zones (kind_of with) (Constant v ∷ Cell d ∷ []) sound (tt, (y, tt)) (gates.joined with)
  joined_in with s zones (Cell c) f sound x y = added_in s zones (kind_of with) (Cell c ∷ f ∷ []) sound (x, (y, tt)) (gates.joined with)

  changed_in : (how : Unary) (s : Building) (zones : List ℕ) (x : Flow) → IsInZone z first zones s
      → FlowSuits s.graph zones z first x
      → BuildsInZone z first s zones (b.changed whole how s x)
  unfolding b.changed
  changed_in how s zones (Constant v) sound x = still s zones _ sound tt
  changed_in how s zones (Cell c) sound x = added_in s zones (kind_of_one how) (Cell c ∷ []) sound (x, tt) (gates.changed how)

  chosen_in : (control : ℕ) (s : Building) (zones : List ℕ) (x y : Flow) → IsInZone z first zones s
      → Suits s.graph zones z first control
      → FlowSuits s.graph zones z first x → FlowSuits s.graph zones z first y
      → BuildsInZone z first s zones (b.chosen whole control s x y)
  unfolding b.chosen
  chosen_in control s zones x y sound c f g = added_in s zones kind.Merge (Cell control ∷ x ∷ y ∷ []) sound (c, (f, (g, tt))) (λ side. refl)

  from_local_in : (s : Building) (zones : List ℕ) (l : Option Local) → IsInZone z first zones s
      → ((m : Local) → l ≡ Some m → FlowSuits s.graph zones z first m.flow)
      → BuildsInZone z first s zones (b.from_local whole s l)
  unfolding b.from_local
  from_local_in s zones (Some l) w there = crossed_in l.arms s zones l.flow w (there l refl)
  from_local_in s zones None w there = still s zones (Constant undef) w tt

  index_in : (turns : Turns) (s : Building) (zones : List ℕ) (c : Option ℕ) → s.met.index ≡ c → IsInZone z first zones s
      → BuildsInZone z first s zones (b.index_met whole turns s c)
  index_in turns s zones (Some c) is w = let met = w.met in crossed_in 0 s zones (Cell c) w (met.index c is)
  index_in turns s zones None is w =
      let it = kind.Idx turns.lo turns.n in
      let t = pushed whole s.graph it [] in
      let good = gates.pushed s.graph it [] zones z first w.orderly w.begins tt (λ side. refl) in
      let sound = stood_sound s zones t w good.more good.orderly good.kept in
      let met = sound.met in
      let s' = with_index s t in
      after s s' zones good.more _ good.kept
      (crossed_in 0 s' good.more (Cell t.cell)
      (record {
        orderly = sound.orderly;
        begins = sound.begins;
        met = record {
          index = λ c is. let e : t.cell ≡ c = cc in subst (Suits t.graph good.more z first) e good.cell;
          previous = met.previous;
          holds = met.holds;
          accesses = met.accesses;
        };
        arms = sound.arms;
      }) good.cell)

  hold_in : (turns : Turns) (number u : ℕ) (s : Building) (zones : List ℕ) (h : Option ℕ) → s.met.holds number ≡ h
      → 2 ≤ turns.n → u < length s.graph
      → zone_at zones u < z → IsInZone z first zones s
      → BuildsInZone z first s zones (b.hold_met whole turns number u s h)
  hold_in turns number u s zones (Some h) is two less below w = let met = w.met in crossed_in 0 s zones (Cell h) w (met.holds number h is)
  hold_in turns number u s zones None is two less below w =
      let t = held whole s.graph u turns.n in
      let good = loops.held s.graph u turns.n zones z first w.orderly w.begins two less below in
      let sound = stood_sound s zones t w good.more good.orderly good.kept in
      let met = sound.met in
      let s' = with_hold s number t in
      after s s' zones good.more _ good.kept
      (crossed_in 0 s' good.more (Cell t.cell)
      (record {
        orderly = sound.orderly;
        begins = sound.begins;
        met = record {
          index = met.index;
          previous = met.previous;
          holds = noted_all (Suits t.graph good.more z first) s.met.holds number t.cell good.cell met.holds;
          accesses = met.accesses;
        };
        arms = sound.arms;
      }) good.cell)

  outer_in : (turns : Turns) (number : ℕ) (s : Building) (zones : List ℕ) (flow : Flow)
      → ScalarSuits s.graph zones z flow → IsInZone z first zones s
      → BuildsInZone z first s zones (b.outer_met whole turns number s flow)
  outer_in turns number s zones (Constant v) suits w = still s zones (Constant v) w tt
  outer_in turns number s zones (Cell u) suits w = go (nat_lt 1 turns.n) refl
    where
      go : (t : Bool) → nat_lt 1 turns.n ≡ t
          → BuildsInZone z first s zones (if t then b.hold_met whole turns number u s (s.met.holds number) else b.crossed whole 0 s (Cell u))
      go true is = hold_in turns number u s zones (s.met.holds number) refl (grind (arith, is)) suits.0 suits.2 w
      go false is = crossed_in 0 s zones (Cell u) w (record { there = suits.0; steady = suits.1; zone = inl suits.2 })

  previous_met_in : (turns : Turns) (m : ℕ) (s : Building) (zones : List ℕ) (c : Option ℕ) → s.met.previous ≡ c → 0 < z
      → IsOpen s.graph zones z turns.n m
      → IsInZone z first zones s → BuildsInZone z first s zones (b.previous_met whole turns m s c)
  previous_met_in turns m s zones (Some c) is above open_frame w = let met = w.met in crossed_in 0 s zones (Cell c) w (met.previous c is)
  previous_met_in turns m s zones None is above open_frame w =
      let t = previous whole s.graph m turns.n in
      let good = loops.previous s.graph m turns.n zones z first w.orderly above w.begins open_frame in
      let sound = stood_sound s zones t w good.more good.orderly good.kept in
      let met = sound.met in
      let s' = with_previous s t in
      after s s' zones good.more _ good.kept
      (crossed_in 0 s' good.more (Cell t.cell)
      (record {
        orderly = sound.orderly;
        begins = sound.begins;
        met = record {
          index = met.index;
          previous = λ c is. let e : t.cell ≡ c = cc in subst (Suits t.graph good.more z first) e good.cell;
          holds = met.holds;
          accesses = met.accesses;
        };
        arms = sound.arms;
      }) good.cell)

  previous_of_in : (turns : Turns) (s : Building) (zones : List ℕ) (own : Option ℕ) → 0 < z
      → ((m : ℕ) → own ≡ Some m → IsOpen s.graph zones z turns.n m)
      → IsInZone z first zones s → BuildsInZone z first s zones (b.previous_of whole turns s own)
  previous_of_in turns s zones (Some m) above there w = previous_met_in turns m s zones s.met.previous refl above (there m refl) w
  previous_of_in turns s zones None above there w = still s zones (Constant undef) w tt

  element_in : (turns : Turns) (a : Array) (number : ℕ) (offset : ℤ) (s : Building) (zones : List ℕ) (flow : Option Flow)
      → s.met.accesses number offset ≡ flow
      → ArraySuits s.graph zones z a → IsInZone z first zones s
      → BuildsInZone z first s zones (b.element_met whole turns a number offset s flow)
  element_in turns a number offset s zones (Some flow) is suits w = let met = w.met in crossed_in 0 s zones flow w (met.accesses number offset flow is)
  element_in turns a number offset s zones None is suits w =
      let v = windowed whole turns.lo turns.n a offset s.graph in
      let good = windows.windowed turns.lo turns.n a offset s.graph zones z first w.orderly w.begins suits in
      let kept = good.kept in
      let begins = w.begins in
      let longer = kept.longer in
      let met = met_more s.graph v.graph zones good.more good.kept s.met w.met in
      let s' = with_access s number offset v in
      after s s' zones good.more _ good.kept
      (crossed_in 0 s' good.more v.flow
      (record {
        orderly = good.orderly;
        begins = omega (arith, begins, longer);
        met = record {
          index = met.index;
          previous = met.previous;
          holds = met.holds;
          accesses = accesses_all (FlowSuits v.graph good.more z first) s.met.accesses number offset v.flow good.flow met.accesses;
        };
        arms = gates.arms_more s.graph v.graph zones good.more z first s.arms good.kept w.arms;
      }) good.flow)

  -- what keeps every building in the zone that comes after `old`
  abbrev Keeps : Building → List ℕ → (Building → Built) → Type 0
  Keeps old zones make = (s : Building) (zones' : List ℕ) → KeepsCells old.graph zones s.graph zones' → IsInZone z first zones' s → BuildsInZone z first s zones' (make s)

  decide_in : (so otherwise : Building → Built) (s : Building) (zones : List ℕ) (flow : Flow) → Keeps s zones so
      → Keeps s zones otherwise → IsInZone z first zones s
      → FlowSuits s.graph zones z first flow → BuildsInZone z first s zones (b.decide whole so otherwise s flow)
  unfolding b.decide
  decide_in so otherwise s zones (Constant (value.Truth true)) h k w suits = h s zones (gates.kept_refl s.graph zones) w
  decide_in so otherwise s zones (Constant (value.Truth false)) h k w suits = k s zones (gates.kept_refl s.graph zones) w
  decide_in so otherwise s zones (Constant (value.Int i)) h k w suits = still s zones (Constant undef) w tt
  decide_in so otherwise s zones (Constant (value.Error e)) h k w suits = still s zones (Constant undef) w tt
  decide_in so otherwise s zones (Cell c) h k w suits =
      let s1 = enter c true s in
      let x = so s1 in
      let gx = h s1 zones (gates.kept_refl s.graph zones) (enter_in c true s zones w suits) in
      let s2 = leave x.state in
      let s3 = enter c false s2 in
      let kx : KeepsCells s.graph zones x.state.graph gx.more = gx.kept in
      let cx = gates.suits_more s.graph x.state.graph zones gx.more z first c kx suits in
      let y = otherwise s3 in
      let gy = k s3 gx.more kx (enter_in c false s2 gx.more (leave_in x.state gx.more gx.sound) cx) in
      let s4 = leave y.state in
      let ky : KeepsCells x.state.graph gx.more y.state.graph gy.more = gy.kept in
      let cy = gates.suits_more x.state.graph y.state.graph gx.more gy.more z first c ky cx in
      let fx = gates.flow_more x.state.graph y.state.graph gx.more gy.more z first x.flow ky gx.flow in
      after s s4 zones gy.more _ (gates.kept_trans s.graph x.state.graph y.state.graph zones gx.more gy.more kx ky)
      (chosen_in c s4 gy.more x.flow y.flow (leave_in y.state gy.more gy.sound) cy fx gy.flow)

  module _ (turns : Turns) (outer : List Outside) where
    abbrev one : Term → Make
    one = built whole turns outer

    abbrev P : Term → Type 0
    P e = KeepsInZone z first turns outer (one e)

    -- the terms of steps, branches and definitions of which something is known
    abbrev steps : List ((s : Step) × P s.operand) → List (Binary × Make)
    steps rest = map (λ (s : Step). (s.with, one s.operand)) (map (λ (e : (s : Step) × P s.operand). e.0) rest)

    abbrev branches : List ((a : Branch) × (P a.test × P a.value)) → List (Make × Make)
    branches bs = map (λ (a : Branch). (one a.test, one a.value)) (map (λ (e : (a : Branch) × (P a.test × P a.value)). e.0) bs)

    abbrev terms : List ((e : Term) × P e) → List Make
    terms ds = map one (map (λ (e : (e : Term) × P e). e.0) ds)

    -- locals and what stands outside still suit while the graph grows
    later : (e : Term) → P e → (locals : List Local) (old s : Building) (zones zones' : List ℕ)
        → AllByRecursion (LocalSuits old.graph zones z first) locals
        → OutsideSuits old.graph zones z turns outer → KeepsCells old.graph zones s.graph zones'
        → IsInZone z first zones' s → BuildsInZone z first s zones' (one e locals s)
    later e p locals old s zones zones' ls os kept w =
        p locals s zones' (locals_more old.graph s.graph zones zones' kept locals ls) (outside_more old.graph s.graph zones zones' kept turns outer os) w

    chained_in : (rest : List ((s : Step) × P s.operand)) (locals : List Local) (old : Building) (zones : List ℕ) (done : Built)
        → AllByRecursion (LocalSuits old.graph zones z first) locals → OutsideSuits old.graph zones z turns outer
        → BuildsInZone z first old zones done
        → BuildsInZone z first old zones (chained whole done (steps rest) locals)
    chained_in [] locals old zones done ls os good = good
    chained_in (s ∷ rest) locals old zones done ls os good =
        let o = one s.0.operand locals done.state in
        let go = later s.0.operand s.1 locals old done.state zones good.more ls os good.kept good.sound in
        let left = gates.flow_more done.state.graph o.state.graph good.more go.more z first done.flow go.kept good.flow in
        let j = joined_in s.0.with o.state go.more done.flow o.flow go.sound left go.flow in
        chained_in rest locals old zones (b.joined whole s.0.with o.state done.flow o.flow) ls os
        (after old o.state zones go.more _ (gates.kept_trans old.graph done.state.graph o.state.graph zones good.more go.more good.kept go.kept) j)

    record DefinesInZone (old : Building) (zones : List ℕ) (d : Defined) : Type 0 where
      more : List ℕ
      kept : KeepsCells old.graph zones d.state.graph more
      sound : IsInZone z first more d.state
      locals : AllByRecursion (LocalSuits d.state.graph more z first) d.locals

    defined_in : (ds : List ((e : Term) × P e)) (locals : List Local) (old s : Building) (zones zones' : List ℕ)
        → KeepsCells old.graph zones s.graph zones'
        → AllByRecursion (LocalSuits s.graph zones' z first) locals → OutsideSuits old.graph zones z turns outer
        → IsInZone z first zones' s
        → DefinesInZone old zones (defined (terms ds) locals s)
    defined_in [] locals old s zones zones' kept ls os w = record { more = zones'; kept = kept; sound = w; locals = ls }
    defined_in (d ∷ ds) locals old s zones zones' kept ls os w =
        let x = one d.0 locals s in
        let g = d.1 locals s zones' ls (outside_more old.graph s.graph zones zones' kept turns outer os) w in
        defined_in ds (locals ++ local_of x ∷ []) old x.state zones g.more (gates.kept_trans old.graph s.graph x.state.graph zones zones' g.more kept g.kept)
        (all_push (LocalSuits x.state.graph g.more z first) locals (local_of x) (locals_more s.graph x.state.graph zones' g.more g.kept locals ls) g.flow) os g.sound

    branches_in : (bs : List ((a : Branch) × (P a.test × P a.value))) (last : (e : Term) × P e) (locals : List Local) (s : Building) (zones : List ℕ)
        → AllByRecursion (LocalSuits s.graph zones z first) locals → OutsideSuits s.graph zones z turns outer
        → IsInZone z first zones s
        → BuildsInZone z first s zones (choose whole (branches bs) (one last.0) locals s)
    branches_in [] last locals s zones ls os w = last.1 locals s zones ls os w
    branches_in (a ∷ bs) last locals s zones ls os w =
        let t = one a.0.test locals s in
        let g = a.1.0 locals s zones ls os w in
        let kept : KeepsCells s.graph zones t.state.graph g.more = g.kept in
        after s t.state zones g.more _ kept
        (decide_in (one a.0.value locals) (choose whole (branches bs) (one last.0) locals) t.state g.more t.flow
        (λ s' zones' kept' w'. later a.0.value a.1.1 locals s s' zones zones' ls os (gates.kept_trans s.graph t.state.graph s'.graph zones g.more zones' kept kept') w')
        (λ s' zones' kept' w'.
        let k = gates.kept_trans s.graph t.state.graph s'.graph zones g.more zones' kept kept' in
        branches_in bs last locals s' zones' (locals_more s.graph s'.graph zones zones' k locals ls) (outside_more s.graph s'.graph zones zones' k turns outer os) w')
        g.sound g.flow)

    index_built_in : (s : Building) (zones : List ℕ) → IsInZone z first zones s
        → BuildsInZone z first s zones (b.index_built whole turns s)
    unfolding b.index_built
    index_built_in s zones w = index_in turns s zones s.met.index refl w

    previous_built_in : (s : Building) (zones : List ℕ) → OutsideSuits s.graph zones z turns outer
        → IsInZone z first zones s
        → BuildsInZone z first s zones (b.previous_built whole turns s)
    unfolding b.previous_built
    previous_built_in s zones os w = previous_of_in turns s zones turns.own os.above os.own w

    outer_built_in : (number : ℕ) (s : Building) (zones : List ℕ) → OutsideSuits s.graph zones z turns outer
        → IsInZone z first zones s
        → BuildsInZone z first s zones (b.outer_built whole turns outer number s)
    unfolding b.outer_built
    outer_built_in number s zones os w = outer_in turns number s zones (flow_at outer number) (os.flows number) w

    element_built_in : (number : ℕ) (offset : ℤ) (s : Building) (zones : List ℕ)
        → OutsideSuits s.graph zones z turns outer → IsInZone z first zones s
        → BuildsInZone z first s zones (b.element_built whole turns outer number offset s)
    unfolding b.element_built
    element_built_in number offset s zones os w =
        element_in turns (array_at outer number) number offset s zones (s.met.accesses number offset) refl (os.arrays number) w

    form_in : (y : Proved P)
        → KeepsInZone z first turns outer (form whole turns outer (layer_of Make one (without P y)))
    form_in (Term-F.Constant v) locals s zones ls os w = still s zones (Constant v) w tt
    form_in (Term-F.Local number) locals s zones ls os w =
        from_local_in s zones (slice_get locals number) w (λ l is. all_get (LocalSuits s.graph zones z first) locals number l ls is)
    form_in Term-F.Index locals s zones ls os w = index_built_in s zones w
    form_in (Term-F.Outer number) locals s zones ls os w = outer_built_in number s zones os w
    form_in (Term-F.Element array offset) locals s zones ls os w = element_built_in array offset s zones os w
    form_in Term-F.Previous locals s zones ls os w = previous_built_in s zones os w
    form_in (Term-F.Chain start rest) locals s zones ls os w = chained_in rest locals s zones (one start.0 locals s) ls os (start.1 locals s zones ls os w)
    form_in (Term-F.Change how of) locals s zones ls os w =
        let x = one of.0 locals s in
        let g = of.1 locals s zones ls os w in
        after s x.state zones g.more _ g.kept (changed_in how x.state g.more x.flow g.sound g.flow)
    form_in (Term-F.If bs last) locals s zones ls os w = branches_in bs last locals s zones ls os w
    form_in (Term-F.Let ds value) locals s zones ls os w =
        let d = defined (terms ds) locals s in
        let g = defined_in ds locals s s zones zones (gates.kept_refl s.graph zones) ls os w in
        after s d.state zones g.more _ g.kept (value.1 d.locals d.state g.more g.locals (outside_more s.graph d.state.graph zones g.more g.kept turns outer os) g.sound)
    form_in (Term-F.Loop first more test next last) locals s zones ls os w = still s zones (Constant undef) w tt

    built_in : (e : Term) → P e
    unfolding built
    built_in = term_induction P (λ y locals s zones ls os w.
        subst (λ (m : Make). BuildsInZone z first s zones (m locals s)) (sym (fold_rolled Make (form whole turns outer) (without P y))) (form_in y locals s zones ls os w))

pub terms_stay_in_zone : GatesStayInZone → WindowsStayInZone → LoopsStayInZone → TermsStayInZone
terms_stay_in_zone gates windows loops z first turns outer x = built_in gates windows loops z first turns outer x
