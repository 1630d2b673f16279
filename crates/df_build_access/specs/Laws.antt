-- What windows meet, and what is known of graphs with their cells.
use Rattle.std.specs.Prelude.{◌≡◌, ◌≤◌, ◌<◌, ◌↔◌, ◌⊎◌, ℕ, ℤ, pos, ◌+◌, ◌-◌, ◌+ℤ◌, ◌-ℤ◌, ◌≤ℤ◌, ◌<ℤ◌, true, false, if◌then◌else◌, ◌==◌, List, [], ◌∷◌, map, length, Option, Some, None}
use Rattle.df_values.specs.declared.values.Value.TheVariants.{Error}
use Rattle.df_values.specs.declared.values.ErrorValue.TheVariants.{MissElt}
use Rattle.df_cells.specs.declared.kinds.Kind.TheVariants as kind
use Rattle.df_labels.specs.declared.graphs.Flow.TheVariants.{Constant, Cell}
use Rattle.df_labels.specs.Graphs.{Graph, Node, node_at}
use Rattle.df_build_cond.specs.Growth.{Grown, whole}
use Rattle.df_build_cond.specs.Gates.{patterned}
use Rattle.df_build_cond.specs.Counting.{over_grown}
use Rattle.df_build_cond.specs.Within.{ArcsBelow, GrowsAfter}
use Rattle.df_build_cond.specs.Made.{AreMade}
use Rattle.df_build_cond.specs.Orderly.{zone_at, Orderly, IsOrderly}
use Rattle.df_build_cond.specs.InZone.{IsSteady, KeepsCells, GrowsInZone}
use Rattle.df_build_access.specs.declared.windows.Array.{Array}
use Rattle.df_build_access.specs.declared.windows.Window.{Window}
use Rattle.df_build_access.specs.Windows.{window_of}
use Rattle.df_build_access.specs.Elements.{windowed}

-- ---- what is met

-- the place of an element among m elements
abbrev pub IsAmong : ℕ → ℤ → Type 0
IsAmong m place = (pos 0 ≤ℤ place) × (place <ℤ pos m)

-- in the turn t, whose element stands at this place among m elements: the element is there just where the turn is one of those that
-- are kept, and it is the one after those that are skipped and those of the kept turns before
abbrev pub MeetsAt : ℕ → ℕ → ℤ → Option Window → Type 0
MeetsAt t m place None = IsAmong m place → ⊥
MeetsAt t m place (Some w) =
    (IsAmong m place ↔ ((w.missed ≤ t) × (t < w.missed + w.kept)))
    × (IsAmong m place → place ≡ pos (w.skipped + (t - w.missed)))

abbrev pub WindowsMeet : Type 0
WindowsMeet = (lo : ℤ) (n : ℕ) (a : Array) (offset : ℤ) (t : ℕ) → t < n
    → MeetsAt t a.n ((lo +ℤ (pos t +ℤ offset)) -ℤ a.lo) (window_of lo n a offset)

-- ---- picks

-- element number k of an array, counted from 0: the array as it is where it has one element, else a gate
abbrev pub picked : (Node → Node) → Graph → Array → ℕ → Grown
picked keep graph a k =
    if a.n == 1 then record { graph = graph; flow = Cell a.cell }
    else let s = patterned keep graph kind.Tgate (Cell a.cell ∷ []) ((k, false) ∷ (1, true) ∷ (a.n - k - 1, false) ∷ []) in
    record { graph = s.graph; flow = Cell s.cell }

-- the window of one turn from 0 on is the element at the index, or `miss_elt`
pub record PicksAreWindows : Type 0 where
  pub there : (keep : Node → Node) (graph : Graph) (a : Array) (at : ℤ) (k : ℕ) → k < a.n → at -ℤ a.lo ≡ pos k
      → windowed keep (pos 0) 1 a at graph ≡ picked keep graph a k
  pub missing : (keep : Node → Node) (graph : Graph) (a : Array) (at : ℤ) → (IsAmong a.n (at -ℤ a.lo) → ⊥)
      → windowed keep (pos 0) 1 a at graph ≡ record { graph = graph; flow = Constant (Error MissElt) }

-- ---- graphs with windows

-- where less is kept of nodes, the graph is the same but for nodes
abbrev pub WindowsCountTheSame : Type 0
WindowsCountTheSame = (f keep : Node → Node) (lo : ℤ) (n : ℕ) (a : Array) (offset : ℤ) (graph : Graph)
    → windowed (λ node. f (keep node)) lo n a offset (map f graph) ≡ over_grown f (windowed keep lo n a offset graph)

-- an array has no elements, or its cell is among the first n
abbrev pub ArrayBelow : ℕ → Array → Type 0
ArrayBelow n a = (a.n ≡ 0) ⊎ (a.cell < n)

-- arcs come from cells that are there
pub record WindowsHaveArcs : Type 0 where
  pub array_more : (n m : ℕ) → n ≤ m → (a : Array) → ArrayBelow n a → ArrayBelow m a
  pub windowed : (lo : ℤ) (n : ℕ) (a : Array) (offset : ℤ) (graph : Graph) → ArrayBelow (length graph) a → ArcsBelow (length graph) graph
      → GrowsAfter graph (windowed whole lo n a offset graph)

-- cells are made as their kinds ask
abbrev pub WindowsAreMade : Type 0
WindowsAreMade = (lo : ℤ) (n : ℕ) (a : Array) (offset : ℤ) (graph : Graph) → n ≤ 65536 → a.n ≤ 65536
    → AreMade graph → AreMade (windowed whole lo n a offset graph).graph

-- zones
abbrev pub WindowsAreOrderly : Type 0
WindowsAreOrderly = (lo : ℤ) (n : ℕ) (a : Array) (offset : ℤ) (graph : Graph) → ArrayBelow (length graph) a → ArcsBelow (length graph) graph
    → IsOrderly graph → IsOrderly (windowed whole lo n a offset graph).graph

-- an array has no elements, or its cell gives them at least two zones below: a gate of a window has a zone between
abbrev pub ArraySuits : Graph → List ℕ → ℕ → Array → Type 0
ArraySuits graph zones z a =
    (a.n ≡ 0) ⊎ ((a.cell < length graph) × IsSteady (node_at graph a.cell).kind × (zone_at zones a.cell + 1 < z))

pub record WindowsStayInZone : Type 0 where
  pub array_more : (g h : Graph) (x y : List ℕ) (z : ℕ) (a : Array) → KeepsCells g x h y → ArraySuits g x z a → ArraySuits h y z a
  pub windowed : (lo : ℤ) (n : ℕ) (a : Array) (offset : ℤ) (graph : Graph) (zones : List ℕ) (z first : ℕ) → Orderly zones graph
      → first ≤ length graph → ArraySuits graph zones z a → GrowsInZone graph zones z first (windowed whole lo n a offset graph)
