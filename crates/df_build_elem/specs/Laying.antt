-- What the code holds of a program.
use Rattle.df_labels.specs.Graphs.{Graph}
use Rattle.df_build_elem.specs.Program.{Laid}
use Rattle.df_build_elem.specs.declared.program.Laying.{Laying}

unfoldable pub laid_of : {G : Type 0} → (G → Graph) → Laying G → Laid
laid_of graph laying = record { graph = graph laying.graph; outer = laying.outer.items }
