-- All insertions, by the tables that they never change: BUF cell number j is that of port number j.
use Rattle.std.proofs.Common.{◌≡◌, ℕ, suc, ◌+◌, ◌-◌, ◌<◌, ◌≤◌, nat_lt, cond, List, [], ◌∷◌, ◌++◌, map, length, take, fold, get_or, All, Some, inl, inr, refl, sym, ap, subst, ◌∙◌, arith, append_assoc, append-nil}
use Rattle.std.specs.Prelude.{slice_get}
use Rattle.std.specs.List.{count_by}
use Rattle.std.proofs.lemmas.Bool.{cases_lt, lt-ltb, le-ltb}
use Rattle.std.proofs.lemmas.List.{get_or_at, get_or-map, get_or_past, length-map, take_at}
use Rattle.std.proofs.lemmas.List.Elements.{All-head, All-tail}
use Rattle.df_cells.specs.declared.cells.CellId.{CellId}
use Rattle.df_cells.specs.declared.cells.Cell.{Cell}
use Rattle.df_cells.specs.declared.cells.Dest.{Dest}
use Rattle.df_cells.specs.declared.cells.Feed.{Feed}
use Rattle.df_cells.specs.declared.cells.Feed.TheVariants.{Arc, Constant, Loaded}
use Rattle.df_cells.specs.Cells.{no_cell, cell_at, cell_from, feed_of, port_of, producer_of, same_port}
use Rattle.df_cells.specs.Shifts.{cell_or}
use Rattle.df_labels.specs.Graphs.{Graph, Node, no_node, node_at, node_of, graph_of, HasArcs}
use Rattle.df_labels.specs.Finishing.{ArcsWithin}
use Rattle.df_buffers_laws.specs.Insertions.{insert}
use Rattle.df_buffers_laws.proofs.Paths.{none_past}
use Rattle.df_buffers_laws.proofs.Ports.{places}
use Rattle.df_buffers_laws.proofs.Insertion.{over, feeds, Placed, fed_now, next_placed}
use Rattle.df_buffers_laws.proofs.Uses.{Ends, all_within, next_used}

-- an arc without a loaded value feeds the port
abbrev pub IsFed : List Cell → Dest → Type 0
IsFed cells d = (u : CellId) × (feed_of cells d ≡ Some (Arc u))

pub fed_inside : (cells : List Cell) (d : Dest) (u : CellId) → producer_of cells d ≡ Some u → d.cell.0 < length cells
fed_inside cells d u fed = elim (cases_lt d.cell.0 (length cells)) [
  | inl inside ↦ inside
  | inr past ↦ absurd (none_past cells d.cell.0 past d.port.0 u fed)
]

-- the cell from which a cell's values come, how many BUF cells stand between, and which
abbrev home_by : List Cell → List Dest → ℕ → ℕ
home_by old ports c =
    cond (nat_lt c (length old)) c (cell_or 0 (producer_of old (get_or ports (c - length old) (port_of 0 0))))

abbrev depth_by : List Cell → List Dest → ℕ → ℕ
depth_by old ports c = cond (nat_lt c (length old)) 0
    (suc (count_by (same_port (get_or ports (c - length old) (port_of 0 0))) (take (c - length old) ports)))

abbrev chain_by : List Cell → List Dest → ℕ → List ℕ
chain_by old ports c = cond (nat_lt c (length old)) []
    (places (length old) (get_or ports (c - length old) (port_of 0 0)) (take (c - length old) ports) ++ c ∷ [])

pub node_is : (cells : List Cell) (c : ℕ) → node_at (graph_of cells) c ≡ node_of (cell_at cells c)
node_is cells c = elim (cases_lt c (length cells)) [
  | inl inside ↦ get_or-map node_of cells c no_cell no_node inside
  | inr past ↦
      get_or_past (graph_of cells) c no_node (let long = length-map cells node_of in omega arith)
      ∙ sym (ap node_of (get_or_past cells c no_cell past))
]

pub same_feeds : (f g : ℕ → ℕ) (feeds : List Feed)
    → ((p : ℕ) (u : CellId) → cell_from (slice_get feeds p) ≡ Some u → f u.0 ≡ g u.0)
    → map (over f) feeds ≡ map (over g) feeds
same_feeds f g [] same = refl
same_feeds f g (Constant v ∷ feeds) same =
    ap (λ l. Constant v ∷ l) (same_feeds f g feeds (λ p u fed. same (suc p) u fed))
same_feeds f g (Arc w ∷ feeds) same =
    ap (λ k. Arc (record { 0 = k }) ∷ map (over f) feeds) (same 0 w refl)
    ∙ ap (λ l. Arc (record { 0 = g w.0 }) ∷ l) (same_feeds f g feeds (λ p u fed. same (suc p) u fed))
same_feeds f g (Loaded w v ∷ feeds) same =
    ap (λ k. Loaded (record { 0 = k }) v ∷ map (over f) feeds) (same 0 w refl)
    ∙ ap (λ l. Loaded (record { 0 = g w.0 }) v ∷ l) (same_feeds f g feeds (λ p u fed. same (suc p) u fed))

own_feeds : (feeds : List Feed) → map (over (λ c. c)) feeds ≡ feeds
own_feeds [] = refl
own_feeds (Constant v ∷ feeds) = ap (λ l. Constant v ∷ l) (own_feeds feeds)
own_feeds (Arc w ∷ feeds) = ap (λ l. Arc w ∷ l) (own_feeds feeds)
own_feeds (Loaded w v ∷ feeds) = ap (λ l. Loaded w v ∷ l) (own_feeds feeds)

module _ (old : List Cell) (arcs : ArcsWithin old) (all : List Dest) where
  abbrev pub home : ℕ → ℕ
  home = home_by old all

  abbrev pub depth : ℕ → ℕ
  depth = depth_by old all

  abbrev pub chain : ℕ → List ℕ
  chain = chain_by old all

  -- ---- the tables

  pub own_chain : (c : ℕ) → c < length old → chain c ≡ []
  own_chain c h =
      ap (λ b. cond b [] (places (length old) (get_or all (c - length old) (port_of 0 0)) (take (c - length old) all) ++ c ∷ []))
      (lt-ltb c (length old) h)

  pub own_home : (c : ℕ) → c < length old → home c ≡ c
  own_home c h =
      ap (λ b. cond b c (cell_or 0 (producer_of old (get_or all (c - length old) (port_of 0 0)))))
      (lt-ltb c (length old) h)

  pub own_depth : (c : ℕ) → c < length old → depth c ≡ 0
  own_depth c h =
      ap (λ b. cond b 0 (suc (count_by (same_port (get_or all (c - length old) (port_of 0 0))) (take (c - length old) all))))
      (lt-ltb c (length old) h)

  -- the next port, and those before it
  module _ (done rest : List Dest) (d : Dest) (n : ℕ) (split : all ≡ done ++ d ∷ rest)
      (at : n ≡ length old + length done) where
    place : n - length old ≡ length done
    place = omega arith

    here : get_or all (n - length old) (port_of 0 0) ≡ d
    here =
        ap (λ k. get_or all k (port_of 0 0)) place ∙ ap (λ l. get_or l (length done) (port_of 0 0)) split
        ∙ get_or_at done d rest (port_of 0 0) (length done) refl

    before : take (n - length old) all ≡ done
    before = ap (λ k. take k all) place ∙ ap (take (length done)) split ∙ take_at done (d ∷ rest) (length done) refl

    new_home : (u : CellId) → producer_of old d ≡ Some u → home n ≡ u.0
    new_home u fed =
        ap (λ b. cond b n (cell_or 0 (producer_of old (get_or all (n - length old) (port_of 0 0)))))
        (le-ltb n (length old) (omega arith))
        ∙ ap (λ e. cell_or 0 (producer_of old e)) here ∙ ap (cell_or 0) fed

    new_depth : depth n ≡ suc (count_by (same_port d) done)
    new_depth =
        ap (λ b. cond b 0 (suc (count_by (same_port (get_or all (n - length old) (port_of 0 0))) (take (n - length old) all))))
        (le-ltb n (length old) (omega arith))
        ∙ ap (λ e. suc (count_by (same_port e) (take (n - length old) all))) here
        ∙ ap (λ l. suc (count_by (same_port d) l)) before

    new_chain : chain n ≡ places (length old) d done ++ n ∷ []
    new_chain =
        ap (λ b. cond b [] (places (length old) (get_or all (n - length old) (port_of 0 0)) (take (n - length old) all) ++ n ∷ []))
        (le-ltb n (length old) (omega arith))
        ∙ ap (λ e. places (length old) e (take (n - length old) all) ++ n ∷ []) here
        ∙ ap (λ l. places (length old) d l ++ n ∷ []) before

  -- ---- from the start to the end

  pub record ArePlacedAndUsed (done : List Dest) (graph : Graph) : Type 0 where
    pub placed : Placed old home depth chain done graph
    pub used : (b : ℕ) → length old ≤ b → b < length graph → Ends graph b

  all_placed : (rest done : List Dest) (graph : Graph) → all ≡ done ++ rest → All (IsFed old) rest
      → ArePlacedAndUsed done graph
      → ArePlacedAndUsed all (fold insert graph rest)
  all_placed [] done graph split fed so_far =
      subst (λ l. ArePlacedAndUsed l graph) (sym (split ∙ append-nil done)) so_far
  all_placed (d ∷ rest) done graph split fed so_far =
      let placed = so_far.placed in
      let first = All-head (IsFed old) d rest fed in
      let inside : d.cell.0 < length old = fed_inside old d first.0 (ap cell_from first.1) in
      let now = fed_now old home depth chain done graph placed d first.0 first.1 inside in
      all_placed rest (done ++ d ∷ []) (insert graph d) (split ∙ sym (append_assoc done (d ∷ []) rest))
      (All-tail (IsFed old) d rest fed) (record {
        placed = next_placed old home depth chain done graph placed d first.0 first.1 inside
            (new_home done rest d (length graph) split placed.count first.0 (ap cell_from first.1))
            (new_depth done rest d (length graph) split placed.count)
            (new_chain done rest d (length graph) split placed.count);
        used = next_used old home depth chain done graph placed d now.0 now.1 inside so_far.used;
      })

  none_placed : ArePlacedAndUsed [] (graph_of old)
  none_placed = let long = length-map old node_of in record {
    placed = record {
      count = omega arith;
      kinds = λ c h. ap (λ (n : Node). n.kind) (node_is old c);
      ports = λ c h.
          ap (λ (n : Node). map (over home) n.ports) (node_is old c)
          ∙ same_feeds home (λ k. k) (cell_at old c).ports (λ p u fed. own_home u.0 (arcs c p u fed))
          ∙ own_feeds (cell_at old c).ports;
      fed = λ d u h fed.
          let inside =
          arcs d.cell.0 d.port.0 u
          (ap (λ (n : Node). cell_from (slice_get n.ports d.port.0)) (sym (node_is old d.cell.0)) ∙ fed) in
          (own_depth u.0 inside, omega arith, own_chain u.0 inside);
      others = λ b behind h. absurd (omega arith);
    };
    used = λ b behind h. absurd (omega arith);
  }

  pub whole : All (IsFed old) all → ArePlacedAndUsed all (fold insert (graph_of old) all)
  whole fed = all_placed all [] (graph_of old) refl fed none_placed

  pub arcs_kept : All (IsFed old) all → HasArcs (fold insert (graph_of old) all)
  arcs_kept fed c p u comes =
      all_within old home depth chain all (fold insert (graph_of old) all) (whole fed).placed (port_of c p) u comes
