-- Windows in a zone: a gate of a window has the zone above its array's, and its MERGE that of the block.
use Rattle.std.proofs.Common.{◌≡◌, ◌≤◌, ◌<◌, ◌+◌, ℕ, true, false, List, [], ◌∷◌, length, Option, Some, None, refl, sym, subst, ap, inl, inr, arith}
use Rattle.std.specs.Prelude.{if◌then◌else◌, nat_lt}
use Rattle.df_cells.specs.declared.kinds.Kind.{Kind}
use Rattle.df_cells.specs.declared.kinds.Kind.TheVariants as kind
use Rattle.df_cells.specs.declared.kinds.Run.{Run}
use Rattle.df_cells.specs.Families.{family}
use Rattle.df_cells.specs.Shifts.{gate_place}
use Rattle.df_labels.specs.declared.graphs.Flow.TheVariants.{Cell}
use Rattle.df_labels.specs.Graphs.{Graph, node_at}
use Rattle.df_labels.specs.Patterns.{pattern}
use Rattle.df_build_cond.specs.Growth.{Stood, whole}
use Rattle.df_build_cond.specs.Gates.{patterned}
use Rattle.df_build_cond.specs.Orderly.{zone_at, controls_in, Orderly}
use Rattle.df_build_cond.specs.InZone.{IsSteady, KeepsCells, StandsInZone, GrowsInZone, StandsAtZone}
use Rattle.df_build_cond.specs.Laws.{GatesStayInZone}
use Rattle.df_build_access.specs.declared.windows.Array.{Array}
use Rattle.df_build_access.specs.declared.windows.Window.{Window}
use Rattle.df_build_access.specs.Windows.{window_of}
use Rattle.df_build_access.specs.Elements as elements
use Rattle.df_build_access.specs.Laws.{ArraySuits, WindowsStayInZone}
use Rattle.df_build_access.proofs.WindowCells.{cut_parts, filled_parts, sides, never}

array_more : (g h : Graph) (x y : List ℕ) (z : ℕ) (a : Array) → KeepsCells g x h y → ArraySuits g x z a → ArraySuits h y z a
array_more g h x y z a k (inl none) = inl none
array_more g h x y z a k (inr s) =
    let less = s.0 in
    let low = s.2 in
    let longer = k.longer in
    let same = k.zone a.cell less in
    inr (omega (arith, less, longer), subst IsSteady (sym (k.kind a.cell less)) s.1, omega (arith, low, same))

-- a cell that is below the zone
record LiesUnder (old : Graph) (zones : List ℕ) (z : ℕ) (s : Stood) : Type 0 where
  more : List ℕ
  orderly : Orderly more s.graph
  kept : KeepsCells old zones s.graph more
  there : s.cell < length s.graph
  steady : IsSteady (node_at s.graph s.cell).kind
  lower : zone_at more s.cell < z

lies_suits : (old : Graph) (zones : List ℕ) (z first : ℕ) (s : Stood) → LiesUnder old zones z s → StandsInZone old zones z first s
lies_suits old zones z first s l = record {
  more = l.more;
  orderly = l.orderly;
  kept = l.kept;
  cell = record { there = l.there; steady = l.steady; zone = inl l.lower };
}

module _ (gates : GatesStayInZone) where
  cut_under : (a : Array) (w : Window) (g : Graph) (zones : List ℕ) (z : ℕ) → Orderly zones g → a.cell < length g → IsSteady (node_at g a.cell).kind
      → zone_at zones a.cell + 1 < z → LiesUnder g zones z (elements.cut whole a w g)
  cut_under a w g zones z o less steady low =
      elim (nat_lt w.kept a.n) as (λ t. LiesUnder g zones z (if t then patterned whole g kind.Tgate (Cell a.cell ∷ []) (cut_parts a w) else record { graph = g; cell = a.cell })) [
        | true ↦ gate
        | false ↦ record { more = zones; orderly = o; kept = gates.kept_refl g zones; there = less; steady = steady; lower = omega (arith, low) }
      ]
    where
      gate : LiesUnder g zones z (patterned whole g kind.Tgate (Cell a.cell ∷ []) (cut_parts a w))
      gate =
          let r = gates.ruled g kind.Tgate (Cell a.cell ∷ []) (pattern (cut_parts a w)) zones (zone_at zones a.cell + 1) o (omega arith) ((less, omega arith), tt) in
          let at = r.zone in
          record { more = r.more; orderly = r.orderly; kept = r.kept; there = r.there; steady = subst IsSteady (sym r.kind) (λ side. refl); lower = omega (arith, low, at) }

  -- a MERGE with a CTL of its own, of the zone
  merge_in : (old : Graph) (before : List ℕ) (zones : List ℕ) (z first : ℕ) (g : Graph) (runs : List Run) (s : Stood) → first ≤ length old → KeepsCells old before g zones
      → StandsAtZone g zones kind.Merge runs z s → StandsInZone old before z first s
  merge_in old before zones z first g runs s many k r =
      let longer = k.longer in
      let at = r.cell in
      record {
        more = r.more;
        orderly = r.orderly;
        kept = gates.kept_trans old g s.graph before zones r.more k r.kept;
        cell = record {
          there = r.there;
          steady = subst IsSteady (sym r.kind) (λ side. refl);
          zone = inr (r.zone, ap (λ (it : Kind). gate_place (family it) (controls_in s.graph s.cell)) r.kind, omega (arith, many, longer, at));
        };
      }

  filled_in : (n : ℕ) (w : Window) (g : Graph) (zones : List ℕ) (z first : ℕ) (s : Stood) → first ≤ length g → LiesUnder g zones z s → StandsInZone g zones z first (elements.filled whole n w s)
  filled_in n w g zones z first s many l =
      elim (nat_lt w.kept n) as (λ t. StandsInZone g zones z first (if t then patterned whole s.graph kind.Merge (sides s) (filled_parts n w) else s)) [
        | true ↦ merge
        | false ↦ lies_suits g zones z first s l
      ]
    where
      merge : StandsInZone g zones z first (patterned whole s.graph kind.Merge (sides s) (filled_parts n w))
      merge =
          let lower = l.lower in
          merge_in g zones l.more z first s.graph (pattern (filled_parts n w)) _ many l.kept
          (gates.ruled s.graph kind.Merge (sides s) (pattern (filled_parts n w)) l.more z l.orderly (omega (arith, lower)) ((l.there, lower), (tt, tt)))

  in_zone : (n : ℕ) (a : Array) (g : Graph) (w : Option Window) (zones : List ℕ) (z first : ℕ) → Orderly zones g → first ≤ length g
      → ((v : Window) → w ≡ Some v → (a.cell < length g) × IsSteady (node_at g a.cell).kind × (zone_at zones a.cell + 1 < z))
      → GrowsInZone g zones z first (elements.windowed_by whole n a g w)
  unfolding elements.windowed_by
  in_zone n a g None zones z first o many suits = record { more = zones; orderly = o; kept = gates.kept_refl g zones; flow = tt }
  in_zone n a g (Some w) zones z first o many suits =
      let s = suits w refl in
      let r = filled_in n w g zones z first (elements.cut whole a w g) many (cut_under a w g zones z o s.0 s.1 s.2) in
      record { more = r.more; orderly = r.orderly; kept = r.kept; flow = r.cell }

pub windows_stay_in_zone : GatesStayInZone → WindowsStayInZone
windows_stay_in_zone gates = record {
  array_more = array_more;
  windowed = λ lo n a offset g zones z first o many suits.
      in_zone gates n a g (window_of lo n a offset) zones z first o many
      (λ w is. elim suits [ inl none ↦ absurd (never lo n a offset w is none) | inr s ↦ s ]);
}
