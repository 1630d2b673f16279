-- What is kept of nodes may be decided later: nothing looks into a node.
use Rattle.std.proofs.Common.{◌≡◌, ℕ, ◌+◌, true, false, List, [], ◌∷◌, map, length, Option, Some, None, refl, sym, ◌∙◌, ap}
use Rattle.std.specs.Prelude.{if◌then◌else◌, nat_lt}
use Rattle.std.proofs.lemmas.List.{map-append, length-map}
use Rattle.df_cells.specs.declared.kinds.Kind.{Kind}
use Rattle.df_cells.specs.declared.kinds.Kind.TheVariants as kind
use Rattle.df_cells.specs.declared.kinds.Run.{Run}
use Rattle.df_labels.specs.declared.graphs.Flow.{Flow}
use Rattle.df_labels.specs.declared.graphs.Flow.TheVariants.{Constant, Cell}
use Rattle.df_labels.specs.Graphs.{Graph, Node}
use Rattle.df_build_cond.specs.Growth as grow
use Rattle.df_build_cond.specs.Growth.{Stood, node}
use Rattle.df_build_cond.specs.Gates as gates
use Rattle.df_build_cond.specs.Gates.{gate_kind}
use Rattle.df_build_cond.specs.Noted.{noted}
use Rattle.df_build_cond.specs.Arms as arms
use Rattle.df_build_cond.specs.Arms.{Arm, Passed, Crossed}
use Rattle.df_build_cond.specs.Counting.{over_stood, over_passed, over_crossed}
use Rattle.df_build_cond.specs.Laws.{GatesCountTheSame}

module _ (f keep : Node → Node) where
  abbrev less : Node → Node
  less = λ n. f (keep n)

  cell : (g : Graph) (it : Kind) (flows : List Flow) → grow.with_cell less (map f g) it flows ≡ map f (grow.with_cell keep g it flows)
  cell g it flows = sym (map-append f g (keep (node it flows) ∷ []))

  pushed : (g : Graph) (it : Kind) (flows : List Flow) → grow.pushed less (map f g) it flows ≡ over_stood f (grow.pushed keep g it flows)
  pushed g it flows =
      ap (λ (h : Graph). record { graph = h; cell = length (map f g) }) (cell g it flows)
      ∙ ap (λ m. record { graph = map f (grow.with_cell keep g it flows); cell = m }) (length-map g f)

  ruled : (g : Graph) (it : Kind) (flows : List Flow) (runs : List Run) → gates.ruled less (map f g) it flows runs ≡ over_stood f (gates.ruled keep g it flows runs)
  unfolding gates.ruled
  ruled g it flows runs =
      let cells : ℕ → Graph → Stood = λ m g. record { graph = grow.with_cell less (grow.with_cell less g it (Cell (m + 1) ∷ flows)) (kind.Ctl runs) []; cell = m } in
      let m = length g in
      ap (λ k. cells k (map f g)) (length-map g f)
      ∙ (ap (λ x. record { graph = grow.with_cell less x (kind.Ctl runs) []; cell = m }) (cell g it (Cell (m + 1) ∷ flows))
      ∙ ap (λ x. record { graph = x; cell = m }) (cell (grow.with_cell keep g it (Cell (m + 1) ∷ flows)) (kind.Ctl runs) []))

  -- ---- arms

  passed : (arm : Arm) (g : Graph) (stream : ℕ) (met : Option ℕ) → arms.passed less arm (map f g) stream met ≡ over_passed f (arms.passed keep arm g stream met)
  passed arm g stream (Some gate) = refl
  passed arm g stream None =
      ap (λ (s : Stood). record { arm = record arm { gates = noted arm.gates stream s.cell }; graph = s.graph; flow = Cell s.cell })
      (pushed g (gate_kind arm.side) (Cell arm.control ∷ Cell stream ∷ []))

  pass : (arm : Arm) (g : Graph) (flow : Flow) → arms.pass less arm (map f g) flow ≡ over_passed f (arms.pass keep arm g flow)
  pass arm g (Constant v) = refl
  pass arm g (Cell stream) = passed arm g stream (arm.gates stream)

  next : (Node → Node) → Arm → Crossed → Crossed
  next k arm outer = let p = arms.pass k arm outer.graph outer.flow in record { graph = p.graph; arms = p.arm ∷ outer.arms; flow = p.flow }

  next_follows : (arm : Arm) (outer : Crossed) → next less arm (over_crossed f outer) ≡ over_crossed f (next keep arm outer)
  unfolding next
  next_follows arm outer = ap (λ (p : Passed). record { graph = p.graph; arms = p.arm ∷ outer.arms; flow = p.flow }) (pass arm outer.graph outer.flow)

  cross : (level : ℕ) (g : Graph) (open_arms : List Arm) (flow : Flow) → arms.cross less level (map f g) open_arms flow ≡ over_crossed f (arms.cross keep level g open_arms flow)
  unfolding next
  cross level g [] flow = refl
  cross level g (arm ∷ rest) flow =
      elim (nat_lt (length rest) level) as (λ t. (if t then record { graph = map f g; arms = arm ∷ rest; flow = flow } else next less arm (arms.cross less level (map f g) rest flow))
      ≡ over_crossed f (if t then record { graph = g; arms = arm ∷ rest; flow = flow } else next keep arm (arms.cross keep level g rest flow))) [
        | true ↦ refl
        | false ↦ ap (next less arm) (cross level g rest flow) ∙ next_follows arm (arms.cross keep level g rest flow)
      ]

pub gates_count_the_same : GatesCountTheSame
gates_count_the_same = record { cell = cell; pushed = pushed; ruled = ruled; pass = pass; cross = cross }
