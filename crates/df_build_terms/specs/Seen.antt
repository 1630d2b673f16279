-- What the code holds of a block, as a building.
use Rattle.df_labels.specs.Graphs.{Graph}
use Rattle.df_build_cond.specs.OpenArms.{arms_of}
use Rattle.df_build_cond.specs.Tables.{table_of}
use Rattle.df_build_access.specs.Accesses.{accesses_of}
use Rattle.df_build_terms.specs.Building.{Met, Building}
use Rattle.df_build_terms.specs.declared.building.Met as code
use Rattle.df_build_terms.specs.declared.elem.Elem.{Elem}

abbrev pub met_of : code.Met → Met
met_of met = record {
  index = met.index;
  previous = met.previous;
  holds = table_of met.holds;
  accesses = accesses_of met.accesses;
}

unfoldable pub building_of : {G : Type 0} → (G → Graph) → Elem G → Building
building_of graph elem = record { graph = graph elem.graph; met = met_of elem.met; arms = arms_of elem.arms.items }
