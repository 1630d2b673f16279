-- The numbers of BUF cells follow the order of the ports at which their arcs end.
use Rattle.std.proofs.Common.{◌≡◌, ℕ, ℤ, zero, suc, ◌+◌, ◌<◌, Bool, true, false, cond, List, [], ◌∷◌, ◌++◌, length, replicate, All, Option, Some, None, refl, sym, ap, ◌∙◌, arith, append-nil, length-append}
use Rattle.std.specs.Option.{option_map}
use Rattle.std.specs.List.{flat_map, range_with_len}
use Rattle.std.proofs.lemmas.List.{length-replicate, length-map}
use Rattle.std.proofs.lemmas.List.Elements.{All-head, All-tail, All-append, All-nil, All-cons, All-weaker}
use Rattle.df_cells.specs.declared.cells.CellId.{CellId}
use Rattle.df_cells.specs.declared.cells.Cell.{Cell}
use Rattle.df_cells.specs.declared.cells.Dest.{Dest}
use Rattle.df_cells.specs.declared.cells.Feed.{Feed}
use Rattle.df_cells.specs.Cells.{cell_at, port_of, producer_of, is_buf, same_port, fed_port, fed_ports, skeleton_arcs}
use Rattle.df_cells.specs.Shifts.{origin}
use Rattle.df_stages.specs.declared.skeleton.SkeletonArc.{SkeletonArc}
use Rattle.df_stages.specs.Nodes.{same_node}
use Rattle.df_stages.specs.Flows.{excess}
use Rattle.df_stages.specs.Skeletons.{arc_from, arcs_at_ports, arcs_into, arcs}
use Rattle.df_buffers_laws.specs.Insertions.{natural, ports_to_buffer}
use Rattle.df_buffers_laws.specs.Buffered.{over_buffers, IsBuffered}
use Rattle.df_buffers_laws.proofs.Origins.{home, plain, buf, producers}
use Rattle.df_buffers_laws.proofs.Pieces.{pieces_first, pieces_of_pieces, all_pieces}
use Rattle.df_buffers_laws.proofs.Ports.{places, same_itself, other_cell, other_port}
use Rattle.df_buffers_laws.proofs.Counts.{copies}

-- ---- ports that differ, each so often

-- no port stands twice
abbrev Differ : List Dest → Type 0
Differ [] = Unit {0}
Differ (d ∷ ports) = All (λ e. (same_port e d ≡ false) × (same_port d e ≡ false)) ports × Differ ports

abbrev pub each_often : (Dest → ℕ) → List Dest → List Dest
each_often often ports = flat_map (λ d. replicate (often d) d) ports

places_own : (n k : ℕ) (d : Dest) (rest : List Dest)
    → places n d (replicate k d ++ rest) ≡ range_with_len n k ++ places (n + k) d rest
places_own n zero d rest = let e : n ≡ n + 0 = omega arith in ap (λ m. places m d rest) e
places_own n (suc k) d rest =
    let e : n + 1 + k ≡ n + suc k = omega arith in
    ap (λ b. cond b (n ∷ places (n + 1) d (replicate k d ++ rest)) (places (n + 1) d (replicate k d ++ rest)))
    (same_itself d)
    ∙ ap (λ l. n ∷ l) (places_own (n + 1) k d rest ∙ ap (λ m. range_with_len (n + 1) k ++ places m d rest) e)

places_other : (n k : ℕ) (d e : Dest) (rest : List Dest) → same_port d e ≡ false
    → places n d (replicate k e ++ rest) ≡ places (n + k) d rest
places_other n zero d e rest other = let h : n ≡ n + 0 = omega arith in ap (λ m. places m d rest) h
places_other n (suc k) d e rest other =
    let h : n + 1 + k ≡ n + suc k = omega arith in
    ap (λ b. cond b (n ∷ places (n + 1) d (replicate k e ++ rest)) (places (n + 1) d (replicate k e ++ rest))) other
    ∙ places_other (n + 1) k d e rest other ∙ ap (λ m. places m d rest) h

places_none : (n : ℕ) (d : Dest) (often : Dest → ℕ) (ports : List Dest)
    → All (λ e. (same_port e d ≡ false) × (same_port d e ≡ false)) ports → places n d (each_often often ports) ≡ []
places_none n d often [] all = refl
places_none n d often (e ∷ ports) all =
    places_other n (often e) d e (each_often often ports)
    (All-head (λ x. (same_port x d ≡ false) × (same_port d x ≡ false)) e ports all).1
    ∙ places_none (n + often e) d often ports
    (All-tail (λ x. (same_port x d ≡ false) × (same_port d x ≡ false)) e ports all)

pub range_join : (a n k : ℕ) → range_with_len a n ++ range_with_len (a + n) k ≡ range_with_len a (n + k)
range_join a zero k =
    let e : a + 0 ≡ a = omega arith in
    let f : k ≡ 0 + k = omega arith in ap (λ m. range_with_len m k) e ∙ ap (range_with_len a) f
range_join a (suc n) k =
    let e : a + suc n ≡ a + 1 + n = omega arith in
    let f : suc (n + k) ≡ suc n + k = omega arith in
    ap (λ m. a ∷ (range_with_len (a + 1) n ++ range_with_len m k)) e ∙ ap (λ l. a ∷ l) (range_join (a + 1) n k)
    ∙ ap (range_with_len a) f

-- behind ports of another name the places are counted on
later_places : (n k : ℕ) (e : Dest) (rest ports : List Dest)
    → All (λ d. (same_port d e ≡ false) × (same_port e d ≡ false)) ports
    → flat_map (λ d. places n d (replicate k e ++ rest)) ports ≡ flat_map (λ d. places (n + k) d rest) ports
later_places n k e rest [] all = refl
later_places n k e rest (d ∷ ports) all =
    let P = λ (x : Dest). (same_port x e ≡ false) × (same_port e x ≡ false) in
    ap (λ l. l ++ flat_map (λ d. places n d (replicate k e ++ rest)) ports)
    (places_other n k d e rest (All-head P d ports all).0)
    ∙ ap (λ l. places (n + k) d rest ++ l) (later_places n k e rest ports (All-tail P d ports all))

in_order : (n : ℕ) (often : Dest → ℕ) (ports : List Dest) → Differ ports
    → flat_map (λ d. places n d (each_often often ports)) ports ≡ range_with_len n (length (each_often often ports))
in_order n often [] differ = refl
in_order n often (d ∷ ports) differ =
    let k = often d in
    let rest = each_often often ports in
    let count : k + length rest ≡ length (replicate k d ++ rest) =
    sym (length-append (replicate k d) rest ∙ ap (λ m. m + length rest) (length-replicate k d)) in
    ap (λ l. l ++ flat_map (λ e. places n e (replicate k d ++ rest)) ports)
    (places_own n k d rest ∙ ap (λ l. range_with_len n k ++ l) (places_none (n + k) d often ports differ.0)
    ∙ append-nil (range_with_len n k))
    ∙ ap (λ l. range_with_len n k ++ l) (later_places n k d rest ports differ.0 ∙ in_order (n + k) often ports differ.1)
    ∙ range_join n k (length rest) ∙ ap (range_with_len n) count

-- ---- the ports of cells differ

abbrev Apart : List Dest → List Dest → Type 0
Apart xs ys = All (λ x. All (λ y. (same_port y x ≡ false) × (same_port x y ≡ false)) ys) xs

differ_append : (xs ys : List Dest) → Differ xs → Differ ys → Apart xs ys → Differ (xs ++ ys)
differ_append [] ys one two apart = two
differ_append (x ∷ xs) ys one two apart =
    let P = λ (x : Dest). All (λ y. (same_port y x ≡ false) × (same_port x y ≡ false)) ys in
    let first = All-append (λ y. (same_port y x ≡ false) × (same_port x y ≡ false)) xs ys one.0 (All-head P x xs apart) in
    (first, differ_append xs ys one.1 two (All-tail P x xs apart))

-- pieces with keys of their own
differ_pieces : (key : Dest → ℕ) → ((d e : Dest) → (key d ≡ key e → ⊥) → same_port d e ≡ false)
    → (f : ℕ → List Dest) (a n : ℕ) → ((i : ℕ) → Differ (f i)) → ((i : ℕ) → All (λ d. key d ≡ i) (f i))
    → Differ (flat_map f (range_with_len a n))
differ_pieces key tells f a zero each own = tt
differ_pieces key tells f a (suc n) each own =
    differ_append (f a) (flat_map f (range_with_len (a + 1) n)) (each a) (differ_pieces key tells f (a + 1) n each own)
    (All-weaker (λ d. key d ≡ a) (λ x. All (λ y. (same_port y x ≡ false) × (same_port x y ≡ false))
    (flat_map f (range_with_len (a + 1) n)))
    (λ x here. all_pieces (λ y. (same_port y x ≡ false) × (same_port x y ≡ false)) f (a + 1) n
    (λ i k l. All-weaker (λ y. key y ≡ i) (λ y. (same_port y x ≡ false) × (same_port x y ≡ false))
    (λ y there. (tells y x (λ e. omega (arith, e, here, there)), tells x y (λ e. omega (arith, e, here, there)))) (f i)
    (own i))) (f a) (own a))

module _ (cells : List Cell) where
  abbrev at_port : ℕ → ℕ → List Dest
  at_port c p = fed_port (port_of c p) (producer_of cells (port_of c p))

  one_differs : (d : Dest) (o : Option CellId) → Differ (fed_port d o)
  one_differs d None = tt
  one_differs d (Some u) = (All-nil (λ e. (same_port e d ≡ false) × (same_port d e ≡ false)), tt)

  one_named : (d : Dest) (o : Option CellId) → All (λ e. e ≡ d) (fed_port d o)
  one_named d None = All-nil (λ e. e ≡ d)
  one_named d (Some u) = All-cons (λ e. e ≡ d) d [] refl (All-nil (λ e. e ≡ d))

  ports_differ : (c : ℕ) → Differ (fed_ports cells c)
  ports_differ c = by (is_buf cells c)
    where
      by : (b : Bool) → Differ (cond b [] (flat_map (at_port c) (range_with_len 0 (length (cell_at cells c).ports))))
      by true = tt
      by false =
          differ_pieces (λ d. d.port.0) other_port (at_port c) 0 (length (cell_at cells c).ports)
          (λ p. one_differs (port_of c p) (producer_of cells (port_of c p)))
          (λ p. All-weaker (λ e. e ≡ port_of c p) (λ (e : Dest). e.port.0 ≡ p) (λ e is. ap (λ (x : Dest). x.port.0) is)
          (at_port c p) (one_named (port_of c p) (producer_of cells (port_of c p))))

  ports_own : (c : ℕ) → All (λ d. d.cell.0 ≡ c) (fed_ports cells c)
  ports_own c = by (is_buf cells c)
    where
      by : (b : Bool)
          → All (λ (d : Dest). d.cell.0 ≡ c)
          (cond b [] (flat_map (at_port c) (range_with_len 0 (length (cell_at cells c).ports))))
      by true = All-nil (λ (d : Dest). d.cell.0 ≡ c)
      by false = all_pieces (λ d. d.cell.0 ≡ c) (at_port c) 0 (length (cell_at cells c).ports)
          (λ p k l. All-weaker (λ e. e ≡ port_of c p) (λ (e : Dest). e.cell.0 ≡ c)
          (λ e is. ap (λ (x : Dest). x.cell.0) is) (at_port c p)
          (one_named (port_of c p) (producer_of cells (port_of c p))))

  arcs_differ : Differ (skeleton_arcs cells)
  arcs_differ = differ_pieces (λ d. d.cell.0) other_cell (fed_ports cells) 0 (length cells) ports_differ ports_own

  -- ---- the ports to buffer, from those at which skeleton arcs end

  module _ (numbers : ℕ → ℤ) where
    abbrev pub often : Dest → ℕ
    often d = length (flat_map (copies cells numbers) (arc_from cells d (producer_of cells d)))

    port_often : (d : Dest)
        → flat_map (copies cells numbers) (arc_from cells d (producer_of cells d)) ≡ each_often often
        (fed_port d (producer_of cells d))
    port_often d = by (producer_of cells d) refl
      where
        copied : (e : ℕ) → replicate e d ++ [] ≡ replicate (length (replicate e d ++ [])) d
        copied e =
            append-nil (replicate e d)
            ∙ ap (λ n. replicate n d)
            (sym (ap (λ (l : List Dest). length l) (append-nil (replicate e d)) ∙ length-replicate e d))

        node : (b : Bool) (arc : SkeletonArc) → arc.name ≡ d
            → flat_map (copies cells numbers) (cond b [] (arc ∷ [])) ≡ replicate
            (length (flat_map (copies cells numbers) (cond b [] (arc ∷ [])))) d
        node true arc e = refl
        node false arc e =
            let k = natural (excess numbers arc) in
            ap (λ x. replicate k x ++ []) e ∙ copied k ∙ ap (λ x. replicate (length (replicate k x ++ [])) d) (sym e)

        by : (o : Option CellId) → producer_of cells d ≡ o
            → flat_map (copies cells numbers) (arc_from cells d o) ≡ each_often often (fed_port d o)
        by None fed = refl
        by (Some u) fed =
            node (same_node cells (origin cells u.0) d.cell.0) _ refl
            ∙ ap (λ o. replicate (length (flat_map (copies cells numbers) (arc_from cells d o))) d) (sym fed)
            ∙ sym (append-nil (replicate (often d) d))

    cell_often : (c : ℕ) → flat_map (copies cells numbers) (arcs_into cells c) ≡ each_often often (fed_ports cells c)
    cell_often c = by (is_buf cells c)
      where
        by : (b : Bool)
            → flat_map (copies cells numbers) (cond b [] (arcs_at_ports cells c)) ≡ each_often often
            (cond b [] (flat_map (at_port c) (range_with_len 0 (length (cell_at cells c).ports))))
        by true = refl
        by false =
            let n = length (cell_at cells c).ports in
            pieces_of_pieces (copies cells numbers)
            (λ p. arc_from cells (port_of c p) (producer_of cells (port_of c p))) (range_with_len 0 n)
            ∙ pieces_first _ (λ p. each_often often (at_port c p)) 0 n n (omega arith)
            (λ p k l. port_often (port_of c p)) (λ p k l. absurd (omega arith))
            ∙ sym (pieces_of_pieces (λ d. replicate (often d) d) (at_port c) (range_with_len 0 n))

    all_often : ports_to_buffer (arcs cells) numbers ≡ each_often often (skeleton_arcs cells)
    all_often =
        pieces_of_pieces (copies cells numbers) (arcs_into cells) (range_with_len 0 (length cells))
        ∙ pieces_first _ (λ c. each_often often (fed_ports cells c)) 0 (length cells) (length cells) (omega arith)
        (λ c k l. cell_often c) (λ c k l. absurd (omega arith))
        ∙ sym (pieces_of_pieces (λ d. replicate (often d) d) (fed_ports cells) (range_with_len 0 (length cells)))

    pub places_in_order : (n : ℕ)
        → flat_map (λ d. places n d (ports_to_buffer (arcs cells) numbers)) (skeleton_arcs cells) ≡ range_with_len n
        (length (ports_to_buffer (arcs cells) numbers))
    places_in_order n =
        ap (λ l. flat_map (λ d. places n d l) (skeleton_arcs cells)) all_often
        ∙ in_order n often (skeleton_arcs cells) arcs_differ
        ∙ ap (λ (l : List Dest). range_with_len n (length l)) (sym all_often)

-- ---- with BUF cells the same arcs end at the same ports

module _ (old new : List Cell) (count : Dest → ℕ) (is : IsBuffered old new count) where
  same_fed : (d : Dest) (o : Option CellId) → fed_port d (option_map (home new) o) ≡ fed_port d o
  same_fed d None = refl
  same_fed d (Some u) = refl

  port_stays : (d : Dest) → d.cell.0 < length old → fed_port d (producer_of new d) ≡ fed_port d (producer_of old d)
  port_stays d h = sym (same_fed d (producer_of new d)) ∙ ap (fed_port d) (sym (producers old new count is d h))

  fed_stays : (c : ℕ) → c < length old → fed_ports new c ≡ fed_ports old c
  fed_stays c h =
      let ports : length (cell_at new c).ports ≡ length (cell_at old c).ports =
      sym (length-map (cell_at new c).ports (over_buffers new)) ∙ ap (λ (l : List Feed). length l) (is.feeds c h) in
      ap (λ b. cond b [] (flat_map (at_port new c) (range_with_len 0 (length (cell_at new c).ports))))
      (plain old new count is c h)
      ∙ ap (λ n. flat_map (at_port new c) (range_with_len 0 n)) ports
      ∙ pieces_first (at_port new c) (at_port old c) 0 (length (cell_at old c).ports) (length (cell_at old c).ports)
      (omega arith) (λ p k l. port_stays (port_of c p) h) (λ p k l. absurd (omega arith))
      ∙ sym (ap (λ b. cond b [] (flat_map (at_port old c) (range_with_len 0 (length (cell_at old c).ports))))
      (is.plain c h))

  pub arcs_end : skeleton_arcs new ≡ skeleton_arcs old
  arcs_end =
      pieces_first (fed_ports new) (fed_ports old) 0 (length old) (length new) is.few
      (λ c k l. fed_stays c (omega arith))
      (λ c k l. ap (λ b. cond b [] (flat_map (at_port new c) (range_with_len 0 (length (cell_at new c).ports))))
      (buf old new count is c (omega arith) (omega arith)))

-- an arc of the skeleton ends at a port that an arc feeds
pub each_fed : (cells : List Cell) → All (λ d. (u : CellId) × (producer_of cells d ≡ Some u)) (skeleton_arcs cells)
each_fed cells =
    all_pieces (λ d. (u : CellId) × (producer_of cells d ≡ Some u)) (fed_ports cells) 0 (length cells)
    (λ c k l. by_cell c (is_buf cells c))
  where
    by_port : (d : Dest) (o : Option CellId) → producer_of cells d ≡ o
        → All (λ d. (u : CellId) × (producer_of cells d ≡ Some u)) (fed_port d o)
    by_port d None fed = All-nil (λ d. (u : CellId) × (producer_of cells d ≡ Some u))
    by_port d (Some u) fed =
        All-cons (λ d. (u : CellId) × (producer_of cells d ≡ Some u)) d [] (u, fed)
        (All-nil (λ d. (u : CellId) × (producer_of cells d ≡ Some u)))

    by_cell : (c : ℕ) (b : Bool)
        → All (λ d. (u : CellId) × (producer_of cells d ≡ Some u))
        (cond b [] (flat_map (at_port cells c) (range_with_len 0 (length (cell_at cells c).ports))))
    by_cell c true = All-nil (λ d. (u : CellId) × (producer_of cells d ≡ Some u))
    by_cell c false =
        all_pieces (λ d. (u : CellId) × (producer_of cells d ≡ Some u)) (at_port cells c) 0
        (length (cell_at cells c).ports) (λ p k l. by_port (port_of c p) (producer_of cells (port_of c p)) refl)

pub same_pieces : (P : Dest → Type 0) (f g : Dest → List ℕ) → ((d : Dest) → P d → f d ≡ g d) → (ports : List Dest)
    → All P ports → flat_map f ports ≡ flat_map g ports
same_pieces P f g same [] all = refl
same_pieces P f g same (d ∷ ports) all =
    ap (λ l. l ++ flat_map f ports) (same d (All-head P d ports all))
    ∙ ap (λ l. g d ++ l) (same_pieces P f g same ports (All-tail P d ports all))
