-- Worked rows: what forms of terms add, from what the terms in them add.
use Rattle.std.specs.Prelude.{◌≡◌, ℕ, ℤ, List, [], ◌∷◌, None, refl, pos, negsuc, true, false}
use Rattle.df_values.specs.declared.kinds.Binary.TheVariants.{Operation}
use Rattle.df_values.specs.declared.kinds.Op.TheVariants as op
use Rattle.df_values.specs.declared.values.Value.TheVariants.{Error}
use Rattle.df_values.specs.declared.values.ErrorValue.TheVariants.{MissElt}
use Rattle.df_cells.specs.declared.kinds.Kind.TheVariants as kind
use Rattle.df_labels.specs.Graphs.{Graph, Node}
use Rattle.df_labels.specs.Patterns.{run}
use Rattle.df_labels.specs.declared.graphs.Flow.TheVariants.{Constant, Cell}
use Rattle.df_core.specs.Terms.{Layer}
use Rattle.df_core.specs.declared.terms.Term.TheOpen.{Term-F}
use Rattle.df_build_cond.specs.Gates.{ruled}
use Rattle.df_build_cond.specs.Growth.{node}
use Rattle.df_build_cond.specs.Noted.{noted}
use Rattle.df_build_access.specs.Accesses.{noted_access}
use Rattle.df_build_access.specs.Elements.{windowed_by}
use Rattle.df_build_access.specs.Windows.{window_by}
use Rattle.df_build_terms.specs.Building.{Make, begun, joined, outer_built, element_built, crossed, decide, chosen}
use Rattle.df_build_terms.specs.Built.{form}
use Rattle.df_build_terms.specs.declared.building.Outside.{Outside}
use Rattle.df_build_terms.specs.declared.building.Outside.TheVariants.{Single, Many}
use Rattle.df_build_terms.specs.declared.building.Turns.{Turns}

-- outside stand two scalars a and b, which are the cells 0 and 1, and an array of the elements 1 to 3, which is cell 0
abbrev outside : List Outside
outside = Single (Cell 0) ∷ Single (Cell 1) ∷ Many (record { cell = 0; lo = pos 1; n = 3 }) ∷ []

abbrev given : Node
given = node (kind.Idx (pos 0) 1) []

abbrev turns : ℤ → ℕ → Turns
turns lo n = record { lo = lo; n = n; own = None }

-- the graph of a term behind the two cells
abbrev graph_by : Make → Graph
graph_by x = (x [] (begun (given ∷ given ∷ []))).state.graph

-- ---- in a block of one turn

abbrev make : Layer Make → Make
make = form (λ n. n) (turns (pos 0) 1) outside

abbrev outer : ℕ → Make
outer number = make (Term-F.Outer number)

abbrev if_then : Make → Make → Make → Make
if_then test value last = make (Term-F.If ((test, value) ∷ []) last)

-- if a then b else if b then a else b: streams pass the gates of both arms, the outer one first, each made once
nested : graph_by (if_then (outer 0) (outer 1) (if_then (outer 1) (outer 0) (outer 1)))
    ≡ given ∷ given
    ∷ node kind.Tgate (Cell 0 ∷ Cell 1 ∷ [])
    ∷ node kind.Fgate (Cell 0 ∷ Cell 1 ∷ [])
    ∷ node kind.Fgate (Cell 0 ∷ Cell 0 ∷ [])
    ∷ node kind.Tgate (Cell 3 ∷ Cell 4 ∷ [])
    ∷ node kind.Fgate (Cell 3 ∷ Cell 3 ∷ [])
    ∷ node kind.Merge (Cell 3 ∷ Cell 5 ∷ Cell 6 ∷ [])
    ∷ node kind.Merge (Cell 0 ∷ Cell 2 ∷ Cell 7 ∷ []) ∷ []
unfolding outer_built crossed decide chosen noted
nested = refl

-- ---- in a block of three turns from the index 1 on

abbrev three : Layer Make → Make
three = form (λ n. n) (turns (pos 1) 3) outside

abbrev plus : Make → Make → Make
plus x y = three (Term-F.Chain x ((Operation op.Add, y) ∷ []))

-- a + a: a is held once
twice : graph_by (plus (three (Term-F.Outer 0)) (three (Term-F.Outer 0)))
    ≡ given ∷ given
    ∷ node kind.Merge (Cell 3 ∷ Cell 0 ∷ Cell 4 ∷ [])
    ∷ node (kind.Ctl (run 1 true ∷ run 2 false ∷ [])) []
    ∷ node kind.Tgate (Cell 5 ∷ Cell 2 ∷ [])
    ∷ node (kind.Ctl (run 2 true ∷ run 1 false ∷ [])) []
    ∷ node kind.Add (Cell 2 ∷ Cell 2 ∷ []) ∷ []
unfolding outer_built crossed joined noted
twice = refl

-- the array at the index less 1, which is missing in the first turn, and at the index, which takes no cell
before_and_at : graph_by (plus (three (Term-F.Element 2 (negsuc 0))) (three (Term-F.Element 2 (pos 0))))
    ≡ given ∷ given
    ∷ node kind.Tgate (Cell 3 ∷ Cell 0 ∷ [])
    ∷ node (kind.Ctl (run 2 true ∷ run 1 false ∷ [])) []
    ∷ node kind.Merge (Cell 5 ∷ Cell 2 ∷ Constant (Error MissElt) ∷ [])
    ∷ node (kind.Ctl (run 1 false ∷ run 2 true ∷ [])) []
    ∷ node kind.Add (Cell 4 ∷ Cell 0 ∷ []) ∷ []
unfolding element_built crossed joined windowed_by window_by ruled noted_access
before_and_at = refl
