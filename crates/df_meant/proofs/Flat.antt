-- A cell with the CTL of its own, as two cells more at the end of a graph.
use Rattle.std.proofs.Common.{◌≡◌, ℕ, ◌+◌, List, [], ◌∷◌, ◌++◌, length, map, refl, ap}
use Rattle.df_cells.specs.declared.kinds.Kind.{Kind}
use Rattle.df_cells.specs.declared.kinds.Kind.TheVariants as kind
use Rattle.df_cells.specs.declared.kinds.Run.{Run}
use Rattle.df_labels.specs.Graphs.{Graph, Node}
use Rattle.df_labels.specs.Flows.{arc, feed_of}
use Rattle.df_labels.specs.declared.graphs.Flow.{Flow}
use Rattle.df_build_cond.specs.Growth.{whole, Stood}
use Rattle.df_build_cond.specs.Gates.{ruled}

two_pushed : (g : Graph) (a b : Node) → (g ++ a ∷ []) ++ b ∷ [] ≡ g ++ (a ∷ b ∷ [])
two_pushed [] a b = refl
two_pushed (x ∷ g) a b = ap (λ l. x ∷ l) (two_pushed g a b)

abbrev pub flat : Graph → Kind → List Flow → List Run → Stood
flat graph it ports runs = record { graph = graph ++ record { kind = it; ports = arc (length graph + 1) ∷ map feed_of ports } ∷ record { kind = kind.Ctl runs; ports = [] } ∷ []; cell = length graph }

abbrev stood : ℕ → Graph → Stood
stood m g = record { graph = g; cell = m }

pub ruled_is : (graph : Graph) (it : Kind) (ports : List Flow) (runs : List Run) → ruled whole graph it ports runs ≡ flat graph it ports runs
unfolding ruled
ruled_is graph it ports runs =
    ap (stood (length graph)) (two_pushed graph (record { kind = it; ports = arc (length graph + 1) ∷ map feed_of ports }) (record { kind = kind.Ctl runs; ports = [] }))
