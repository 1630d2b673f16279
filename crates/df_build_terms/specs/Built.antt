-- What a term is built to.
use Rattle.std.specs.Prelude.{List, [], ◌∷◌, ◌++◌, length, slice_get}
use Rattle.df_values.specs.declared.kinds.Binary.{Binary}
use Rattle.df_labels.specs.Graphs.{Node}
use Rattle.df_labels.specs.declared.graphs.Flow.TheVariants.{Constant}
use Rattle.df_core.specs.Terms.{Layer, fold_term}
use Rattle.df_core.specs.declared.terms.Term.{Term}
use Rattle.df_core.specs.declared.terms.Term.TheOpen.{Term-F}
use Rattle.df_build_loops.specs.Frames.{undef}
use Rattle.df_build_terms.specs.Building.{Building, Built, Make, at, joined, changed, decide, from_local, index_built, previous_built, outer_built, element_built}
use Rattle.df_build_terms.specs.declared.building.Local.{Local}
use Rattle.df_build_terms.specs.declared.building.Outside.{Outside}
use Rattle.df_build_terms.specs.declared.building.Turns.{Turns}

-- locals, and the building behind their definitions
pub record Defined : Type 0 where
  pub locals : List Local
  pub state : Building

-- a value that was built is a local of as many arms as are open
abbrev pub local_of : Built → Local
local_of x = record { flow = x.flow; arms = length x.state.arms }

-- definitions in order, each a local of those behind it
abbrev pub defined : List Make → List Local → Building → Defined
defined [] locals b = record { locals = locals; state = b }
defined (d ∷ ds) locals b = let x = d locals b in defined ds (locals ++ local_of x ∷ []) x.state

module _ (keep : Node → Node) where
  -- a chain from its first value on
  abbrev pub chained : Built → List (Binary × Make) → List Local → Built
  chained done [] locals = done
  chained done (s ∷ rest) locals =
      let o = s.1 locals done.state in chained (joined keep s.0 o.state done.flow o.flow) rest locals

  -- what branches choose, before the last one
  abbrev pub choose : List (Make × Make) → Make → Make
  choose [] last locals b = last locals b
  choose (branch ∷ branches) last locals b =
      let t = branch.0 locals b in decide keep (branch.1 locals) (choose branches last locals) t.state t.flow

  -- in a block of these turns, with what parameters and earlier blocks are in the graph
  module _ (turns : Turns) (outer : List Outside) where
    abbrev pub form : Layer Make → Make
    form (Term-F.Constant v) locals b = at b (Constant v)
    form (Term-F.Local number) locals b = from_local keep b (slice_get locals number)
    form Term-F.Index locals b = index_built keep turns b
    form (Term-F.Outer number) locals b = outer_built keep turns outer number b
    form (Term-F.Element array offset) locals b = element_built keep turns outer array offset b
    form Term-F.Previous locals b = previous_built keep turns b
    form (Term-F.Chain first rest) locals b = chained (first locals b) rest locals
    form (Term-F.Change how of) locals b = let x = of locals b in changed keep how x.state x.flow
    form (Term-F.If branches last) locals b = choose branches last locals b
    form (Term-F.Let ds value) locals b = let d = defined ds locals b in value d.locals d.state
    -- a program that keeps the bounds has no loops
    form (Term-F.Loop first more test next last) locals b = at b (Constant undef)

    unfoldable pub built : Term → Make
    built = fold_term Make form
