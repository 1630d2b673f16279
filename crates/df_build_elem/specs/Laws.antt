-- What is known of skeletons.
use Rattle.std.specs.Prelude.{◌≡◌, map}
use Rattle.df_labels.specs.Graphs.{Graph, HasArcs, no_node}
use Rattle.df_core.specs.Within.{IsFlat}
use Rattle.df_core.specs.declared.flat.Flat.{Flat}
use Rattle.df_build_cond.specs.Growth.{whole}
use Rattle.df_build_cond.specs.Made.{AreMade}
use Rattle.df_build_cond.specs.Orderly.{IsOrderly}
use Rattle.df_build_elem.specs.Program.{program_on, program_graph}

-- counting the cells of a program is building them: the same but for nodes
abbrev pub ProgramsCountTheSame : Type 0
ProgramsCountTheSame = (flat : Flat) (graph : Graph)
    → program_on (λ _. no_node) flat (map (λ _. no_node) graph) ≡ map (λ _. no_node) (program_on whole flat graph)

-- each arc of a skeleton comes from one of its cells
abbrev pub ProgramsHaveArcs : Type 0
ProgramsHaveArcs = (flat : Flat) → HasArcs (program_graph flat)

-- the cells of a program within the limits are made as their kinds ask
abbrev pub ProgramsAreMade : Type 0
ProgramsAreMade = (flat : Flat) → IsFlat flat → AreMade (program_graph flat)

-- every skeleton has zones
abbrev pub ProgramsAreOrderly : Type 0
ProgramsAreOrderly = (flat : Flat) → IsOrderly (program_graph flat)
