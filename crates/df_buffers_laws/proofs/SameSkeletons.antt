-- Cells of one graph without BUF cells have one skeleton, whatever their stages and destinations are.
use Rattle.std.proofs.Common.{◌≡◌, ℕ, zero, suc, ◌≤◌, false, List, [], ◌∷◌, map, length, Some, refl, sym, ap, ◌∙◌, arith}
use Rattle.std.specs.Prelude.{slice_get}
use Rattle.std.proofs.lemmas.List.{length-map}
use Rattle.df_cells.specs.declared.cells.CellId.{CellId}
use Rattle.df_cells.specs.declared.cells.Cell.{Cell}
use Rattle.df_cells.specs.declared.cells.Dest.{Dest}
use Rattle.df_cells.specs.declared.cells.Feed.{Feed}
use Rattle.df_cells.specs.declared.cells.Feed.TheVariants.{Arc, Constant, Loaded}
use Rattle.df_cells.specs.Cells.{cell_at, cell_from, port_of, producer_of}
use Rattle.df_cells.specs.Paths.{mark_of}
use Rattle.df_cells.specs.Shifts.{origin, buffers_from}
use Rattle.df_cells.specs.WellFormed.{WellFormed}
use Rattle.df_stages.specs.Nodes.{same_node}
use Rattle.df_stages.specs.Skeletons.{arcs}
use Rattle.df_stages.specs.Laws.{HasSkeletons}
use Rattle.df_wellformed.specs.Laws.{MarksAreUnique}
use Rattle.df_labels.specs.Graphs.{Graph, Node, node_at, node_of, graph_of}
use Rattle.df_buffers_laws.specs.Buffered.{over_buffers, IsBuffered}
use Rattle.df_labels.specs.Finishing.{HasNoBuffers}
use Rattle.df_buffers_laws.specs.Filled.{filled}
use Rattle.df_buffers_laws.specs.Laws.{SameSkeletons}
use Rattle.df_buffers_laws.proofs.Arcs.{within_old}
use Rattle.df_buffers_laws.proofs.Inserted.{no_buffers}
use Rattle.df_buffers_laws.proofs.Origins.{origin_stays}
use Rattle.df_buffers_laws.proofs.Paths.{marks_stay}
use Rattle.df_buffers_laws.proofs.Skeleton.{arcs_stay}

-- no BUF cells on any arc
abbrev none : Dest → ℕ
none d = 0

node_at-is : (cells : List Cell) (c : ℕ) → node_at (graph_of cells) c ≡ node_of (cell_at cells c)
node_at-is [] c = refl
node_at-is (cell ∷ cells) zero = refl
node_at-is (cell ∷ cells) (suc c) = node_at-is cells c

each_same : (f : Feed → Feed) (xs : List Feed) → ((p : ℕ) (x : Feed) → slice_get xs p ≡ Some x → f x ≡ x) → map f xs ≡ xs
each_same f [] same = refl
each_same f (x ∷ xs) same = ap (λ y. y ∷ map f xs) (same 0 x refl) ∙ ap (λ ys. x ∷ ys) (each_same f xs (λ p y at. same (suc p) y at))

module _ (one other : List Cell) (well_one : WellFormed one) (well_other : WellFormed other) (plain_one : HasNoBuffers one) (plain_other : HasNoBuffers other)
    (same : graph_of one ≡ graph_of other) where
  long : length other ≡ length one
  long = sym (length-map other node_of) ∙ ap (λ (g : Graph). length g) (sym same) ∙ length-map one node_of

  node_same : (c : ℕ) → node_of (cell_at other c) ≡ node_of (cell_at one c)
  node_same c = sym (node_at-is other c) ∙ ap (λ (g : Graph). node_at g c) (sym same) ∙ node_at-is one c

  own : (d : Dest) (u : CellId) → producer_of other d ≡ Some u → origin other u.0 ≡ u.0
  own d u fed = origin_stays other u.0 (plain_other u.0 (within_old other well_other plain_other d.cell.0 d.port.0 u fed))

  feed_same : (c p : ℕ) (x : Feed) → slice_get (cell_at other c).ports p ≡ Some x → over_buffers other x ≡ x
  feed_same c p (Constant v) at = refl
  feed_same c p (Arc u) at = ap (λ k. Arc (record { 0 = k })) (own (port_of c p) u (ap cell_from at))
  feed_same c p (Loaded u v) at = ap (λ k. Loaded (record { 0 = k }) v) (own (port_of c p) u (ap cell_from at))

  -- the second is the first with no BUF cell on any arc
  is_other : IsBuffered one other none
  unfolding buffers_from
  is_other = record {
    few = let l = long in omega arith;
    plain = plain_one;
    kinds = λ c h. ap (λ (n : Node). n.kind) (node_same c);
    feeds = λ c h. each_same (over_buffers other) (cell_at other c).ports (feed_same c) ∙ ap (λ (n : Node). n.ports) (node_same c);
    counts = λ d u h fed. no_buffers other (length other) u.0 (plain_other u.0 (within_old other well_other plain_other d.cell.0 d.port.0 u fed));
    others = λ b h l. let e = long in absurd (omega arith);
    chains = λ b h l. let e = long in absurd (omega arith);
    within = within_old other well_other plain_other;
    ends = λ b h l. let e = long in absurd (omega arith);
    stands = λ b h l. let e = long in absurd (omega arith);
  }

  marks_same : MarksAreUnique → (c : ℕ) → mark_of other c ≡ mark_of one c
  marks_same unique c = unique other (mark_of other) (mark_of one) well_other.loop (marks_stay one other none is_other well_one.loop (λ d u h fed behind. between d u fed behind)) c
    where
      between : (d : Dest) (u : CellId) → producer_of other d ≡ Some u → length one ≤ u.0 → same_node one (origin other u.0) d.cell.0 ≡ false
      between d u fed behind = let within = within_old other well_other plain_other d.cell.0 d.port.0 u fed in let e = long in absurd (omega arith)

  arcs_filled : MarksAreUnique → HasSkeletons → arcs other ≡ map (filled none) (arcs one)
  arcs_filled unique skeletons = arcs_stay one other none is_other (marks_same unique) (skeletons one well_one).least

pub same_skeletons : MarksAreUnique → HasSkeletons → SameSkeletons
same_skeletons unique skeletons one other well_one well_other plain_one plain_other same =
    arcs_filled one one well_one well_one plain_one plain_one refl unique skeletons
    ∙ sym (arcs_filled one other well_one well_other plain_one plain_other same unique skeletons)
