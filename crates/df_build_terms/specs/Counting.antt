-- The same buildings, but for nodes of which less is kept.
use Rattle.std.specs.Prelude.{◌≡◌, List, map}
use Rattle.df_labels.specs.Graphs.{Node}
use Rattle.df_core.specs.declared.terms.Term.{Term}
use Rattle.df_build_terms.specs.Building.{Building, Built, Make, at}
use Rattle.df_build_terms.specs.Built.{built}
use Rattle.df_build_terms.specs.declared.building.Local.{Local}
use Rattle.df_build_terms.specs.declared.building.Outside.{Outside}
use Rattle.df_build_terms.specs.declared.building.Turns.{Turns}

module _ (f : Node → Node) where
  abbrev pub over : Building → Building
  over b = record b { graph = map f b.graph }

  abbrev pub over_built : Built → Built
  over_built x = at (over x.state) x.flow

  -- a maker that keeps less of nodes, and otherwise does the same
  abbrev pub Follows : Make → Make → Type 0
  Follows more less = (locals : List Local) (b : Building) → less locals (over b) ≡ over_built (more locals b)

-- where less is kept of nodes, a term is built to the same but for nodes
abbrev pub TermsCountTheSame : Type 0
TermsCountTheSame = (f keep : Node → Node) (turns : Turns) (outer : List Outside) (x : Term)
    → Follows f (built keep turns outer x) (built (λ node. f (keep node)) turns outer x)
