-- The parts of a form, by what the terms in them are built to; and arms that are closed from the innermost outwards.
use Rattle.std.specs.Prelude.{List, [], ◌∷◌, ◌++◌, fold, Option, Some, None}
use Rattle.df_labels.specs.Graphs.{Node}
use Rattle.df_labels.specs.declared.graphs.Flow.{Flow}
use Rattle.df_core.specs.declared.terms.Term.{Term}
use Rattle.df_core.specs.declared.terms.Step.{Step}
use Rattle.df_core.specs.declared.terms.Branch.{Branch}
use Rattle.df_build_terms.specs.Building.{Building, Built, Make, at, joined, chosen, decide, leave}
use Rattle.df_build_terms.specs.Built.{Defined, local_of}
use Rattle.df_build_terms.specs.declared.building.Local.{Local}
use Rattle.df_build_terms.specs.declared.elem.Open.{Open}

-- one definition more
abbrev pub define_by : (Term → Make) → Defined → Term → Defined
define_by make d x = let v = make x d.locals d.state in record { locals = d.locals ++ local_of v ∷ []; state = v.state }

abbrev pub defined_by : (Term → Make) → Defined → List Term → Defined
defined_by make = fold (define_by make)

-- what was decided, or what comes last
abbrev pub ended : Building → Option Flow → Built → Built
ended b (Some flow) last = at b flow
ended b None last = last

module _ (keep : Node → Node) where
  -- one step more
  abbrev pub join_by : (Term → Make) → List Local → Built → Step → Built
  join_by make locals done s = let o = make s.operand locals done.state in joined keep s.with o.state done.flow o.flow

  abbrev pub chained_by : (Term → Make) → List Local → Built → List Step → Built
  chained_by make locals = fold (join_by make locals)

  abbrev pub choose_by : (Term → Make) → List Branch → Term → Make
  choose_by make [] last locals b = make last locals b
  choose_by make (branch ∷ branches) last locals b =
      let t = make branch.test locals b in
      decide keep (make branch.value locals) (choose_by make branches last locals) t.state t.flow

  -- an arm in which the value of the false side was built, closed
  abbrev pub close : Open → Built → Built
  close o x = chosen keep o.control (leave x.state) o.value x.flow

  -- arms closed, the last one first
  abbrev pub unwound : List Open → Built → Built
  unwound [] x = x
  unwound (o ∷ opened) x = close o (unwound opened x)
