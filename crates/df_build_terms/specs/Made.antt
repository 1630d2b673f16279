-- What the cells that a term adds are by themselves: made as their kinds ask, and neither inputs nor outputs.
use Rattle.std.specs.Prelude.{◌≡◌, ◌≤◌, ◌++◌, ℕ, List, map, None}
use Rattle.std.specs.List.{AllByRecursion}
use Rattle.df_cells.specs.WellFormed.{outer_length}
use Rattle.df_cells.specs.declared.kinds.Kind.{Kind}
use Rattle.df_labels.specs.Graphs.{Graph, Node}
use Rattle.df_core.specs.declared.terms.Term.{Term}
use Rattle.df_build_cond.specs.Growth.{whole}
use Rattle.df_build_cond.specs.Made.{AreOrdinary, AreMade}
use Rattle.df_build_terms.specs.Building.{Building, Make}
use Rattle.df_build_terms.specs.Built.{built}
use Rattle.df_build_terms.specs.Outer.{array_at}
use Rattle.df_build_terms.specs.declared.building.Local.{Local}
use Rattle.df_build_terms.specs.declared.building.Outside.{Outside}
use Rattle.df_build_terms.specs.declared.building.Turns.{Turns}

-- turns of ordinary indices, few enough that a CTL may have a value for each and one more
pub record AreFit (turns : Turns) : Type 0 where
  pub short : turns.n ≤ 65535
  pub ordinary : AreOrdinary turns.lo turns.n

abbrev pub HasShortArrays : List Outside → Type 0
HasShortArrays outer = (number : ℕ) → (array_at outer number).n ≤ 65536

-- a fact of graphs that stays where a term is built
abbrev pub KeepsGraph : (Graph → Type 0) → Make → Type 0
KeepsGraph Q make = (locals : List Local) (b : Building) → Q b.graph → Q (make locals b).state.graph

-- neither an IN nor an OUT
abbrev pub IsInner : Kind → Type 0
IsInner it = outer_length it ≡ None

abbrev pub kinds_of : Graph → List Kind
kinds_of graph = map (λ (node : Node). node.kind) graph

-- behind the kinds of an older graph stand others, which are neither IN nor OUT
pub record GrowsInside (old : Graph) (graph : Graph) : Type 0 where
  pub more : List Kind
  pub kinds : kinds_of graph ≡ kinds_of old ++ more
  pub inner : AllByRecursion IsInner more

pub record TermsAreMade : Type 0 where
  pub made : (turns : Turns) (outer : List Outside) (x : Term) → AreFit turns → HasShortArrays outer
      → KeepsGraph AreMade (built whole turns outer x)
  pub inner : (turns : Turns) (outer : List Outside) (x : Term) (locals : List Local) (b : Building)
      → GrowsInside b.graph (built whole turns outer x locals b).state.graph
