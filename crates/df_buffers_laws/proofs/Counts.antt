-- The ports to buffer: each is the end of an arc between nodes, as often as the arc's excess.
use Rattle.std.proofs.Common.{◌≡◌, ℕ, zero, suc, ◌+◌, ◌<◌, ◌≤◌, ℤ, pos, negsuc, ◌-ℤ◌, ◌≤ℤ◌, Bool, true, false, cond, List, [], ◌∷◌, length, replicate, get_or, All, inl, inr, refl, sym, ap, ◌∙◌, arith, append-nil}
use Rattle.std.specs.List.{flat_map, range_with_len, count_by}
use Rattle.std.proofs.lemmas.Int.{ints}
use Rattle.std.proofs.lemmas.Bool.{cases_eq}
use Rattle.std.proofs.lemmas.List.Elements.{All-head, All-tail, All-append, All-replicate, All-nil, All-weaker}
use Rattle.std.proofs.lemmas.List.Sums.{sum_by-cons, sum_by-append}
use Rattle.df_cells.specs.declared.cells.Cell.{Cell}
use Rattle.df_cells.specs.declared.cells.Dest.{Dest}
use Rattle.df_cells.specs.Cells.{cell_at, port_of, is_buf, same_port}
use Rattle.df_stages.specs.declared.skeleton.SkeletonArc.{SkeletonArc}
use Rattle.df_stages.specs.Flows.{difference, excess, Respects}
use Rattle.df_stages.specs.Skeletons.{arcs_at_ports, arcs_into, arcs}
use Rattle.df_buffers_laws.specs.Insertions.{natural, ports_to_buffer}
use Rattle.df_buffers_laws.proofs.Ports.{same_itself, other_cell, other_port}
use Rattle.df_buffers_laws.proofs.Pieces.{pieces_of_pieces, all_pieces}
use Rattle.df_buffers_laws.proofs.AtPorts.{at_port, Stands, IsAt, ports_at, all_stand}

-- ---- counts

none_and : (n : ℕ) → 0 + n ≡ n
none_and n = omega arith

count_copies : (q : Dest → Bool) (n : ℕ) (d : Dest) → q d ≡ true → count_by q (replicate n d) ≡ n
count_copies q zero d passes = refl
count_copies q (suc n) d passes =
    let here = ap (λ b. cond b 1 0) passes in
    let whole = sum_by-cons (λ x. cond (q x) 1 0) d (replicate n d) in
    let rest = count_copies q n d passes in whole ∙ ap (λ k. k + count_by q (replicate n d)) here ∙ (omega arith)

count_none : (q : Dest → Bool) (ds : List Dest) → All (λ d. q d ≡ false) ds → count_by q ds ≡ 0
count_none q [] none = refl
count_none q (d ∷ ds) none =
    sum_by-cons (λ x. cond (q x) 1 0) d ds
    ∙ ap (λ b. cond b 1 0 + count_by q ds) (All-head (λ x. q x ≡ false) d ds none)
    ∙ none_and (count_by q ds) ∙ count_none q ds (All-tail (λ x. q x ≡ false) d ds none)

-- over pieces of which one alone counts
count_nothing : (q : Dest → Bool) (f : ℕ → List Dest) (a n i : ℕ) → i < a
    → ((j : ℕ) → (j ≡ i → ⊥) → count_by q (f j) ≡ 0) → count_by q (flat_map f (range_with_len a n)) ≡ 0
count_nothing q f a zero i h others = refl
count_nothing q f a (suc n) i h others =
    sum_by-append (λ x. cond (q x) 1 0) (f a) (flat_map f (range_with_len (a + 1) n))
    ∙ ap (λ k. k + count_by q (flat_map f (range_with_len (a + 1) n))) (others a (λ e. omega arith))
    ∙ none_and (count_by q (flat_map f (range_with_len (a + 1) n))) ∙ count_nothing q f (a + 1) n i (omega arith) others

count_single : (q : Dest → Bool) (f : ℕ → List Dest) (a n i : ℕ) → a ≤ i → i < a + n
    → ((j : ℕ) → (j ≡ i → ⊥) → count_by q (f j) ≡ 0) → count_by q (flat_map f (range_with_len a n)) ≡ count_by q (f i)
count_single q f a zero i h k others = absurd (omega arith)
count_single q f a (suc n) i h k others =
    let whole = sum_by-append (λ x. cond (q x) 1 0) (f a) (flat_map f (range_with_len (a + 1) n)) in
    elim (cases_eq a i) [
      | inl here ↦
          whole ∙ ap (λ m. count_by q (f a) + m) (count_nothing q f (a + 1) n i (omega arith) others) ∙ (omega arith)
          ∙ ap (λ j. count_by q (f j)) here
      | inr other ↦
          whole ∙ ap (λ m. m + count_by q (flat_map f (range_with_len (a + 1) n))) (others a other)
          ∙ none_and (count_by q (flat_map f (range_with_len (a + 1) n)))
          ∙ count_single q f (a + 1) n i (omega (arith, other)) (omega arith) others
    ]

-- as many as the excess
pub natural_is : (z w : ℤ) → w ≤ℤ z → z -ℤ w ≡ pos (natural (z -ℤ w))
natural_is z w h = by (z -ℤ w) refl
  where
    by : (n : ℤ) → z -ℤ w ≡ n → n ≡ pos (natural n)
    by (pos n) e = refl
    by (negsuc n) e = absurd (omega (arith, ints))

-- ---- copies of names

module _ (cells : List Cell) (numbers : ℕ → ℤ) where
  abbrev pub copies : SkeletonArc → List Dest
  copies arc = replicate (natural (excess numbers arc)) arc.name

  copies_of : (P : Dest → Type 0) (xs : List SkeletonArc) → All (λ arc. P arc.name) xs → All P (flat_map copies xs)
  copies_of P [] all = All-nil P
  copies_of P (arc ∷ xs) all =
      All-append P (copies arc) (flat_map copies xs)
      (All-replicate P (natural (excess numbers arc)) arc.name (All-head (λ (a : SkeletonArc). P a.name) arc xs all))
      (copies_of P xs (All-tail (λ (a : SkeletonArc). P a.name) arc xs all))

  -- what holds of the name of each arc holds of each port to buffer
  pub ports_are : (P : Dest → Type 0) → ((arc : SkeletonArc) → Stands cells arc → P arc.name)
      → All P (ports_to_buffer (arcs cells) numbers)
  ports_are P each =
      copies_of P (arcs cells)
      (All-weaker (Stands cells) (λ (arc : SkeletonArc). P arc.name) each (arcs cells) (all_stand cells))

  -- ---- how often a port is among them

  others_none : (d : Dest) (c p : ℕ) → same_port d (port_of c p) ≡ false
      → count_by (same_port d) (flat_map copies (at_port cells c p)) ≡ 0
  others_none d c p other = count_none (same_port d) (flat_map copies (at_port cells c p))
      (copies_of (λ e. same_port d e ≡ false) (at_port cells c p)
      (All-weaker (IsAt cells c p) (λ (arc : SkeletonArc). same_port d arc.name ≡ false)
      (λ arc at. ap (same_port d) at.name ∙ other) (at_port cells c p) (ports_at cells c p)))

  other_cells : (d : Dest) (c : ℕ) → (c ≡ d.cell.0 → ⊥)
      → count_by (same_port d) (flat_map copies (arcs_into cells c)) ≡ 0
  other_cells d c other = by (is_buf cells c)
    where
      by : (b : Bool) → count_by (same_port d) (flat_map copies (cond b [] (arcs_at_ports cells c))) ≡ 0
      by true = refl
      by false = count_none (same_port d) (flat_map copies (arcs_at_ports cells c))
          (copies_of (λ e. same_port d e ≡ false) (arcs_at_ports cells c)
          (all_pieces (λ arc. same_port d arc.name ≡ false) (at_port cells c) 0 (length (cell_at cells c).ports)
          (λ p k l. All-weaker (IsAt cells c p) (λ (arc : SkeletonArc). same_port d arc.name ≡ false)
          (λ arc at. ap (same_port d) at.name ∙ other_cell d (port_of c p) (λ e. other (sym e))) (at_port cells c p)
          (ports_at cells c p))))

  pub copies_counted : (arc : SkeletonArc) → Stands cells arc
      → count_by (same_port arc.name) (ports_to_buffer (arcs cells) numbers) ≡ natural (excess numbers arc)
  copies_counted arc stands =
      let d = arc.name in
      let c = d.cell.0 in
      let q = same_port d in
      ap (count_by q) (pieces_of_pieces copies (arcs_into cells) (range_with_len 0 (length cells)))
      ∙ count_single q (λ i. flat_map copies (arcs_into cells i)) 0 (length cells) c (omega arith)
      (let h = stands.inside in omega arith) (λ i other. other_cells d i other)
      ∙ ap (λ b. count_by q (flat_map copies (cond b [] (arcs_at_ports cells c)))) stands.plain
      ∙ ap (count_by q) (pieces_of_pieces copies (at_port cells c) (range_with_len 0 (length (cell_at cells c).ports)))
      ∙ count_single q (λ p. flat_map copies (at_port cells c p)) 0 (length (cell_at cells c).ports) d.port.0
      (omega arith) (let h = stands.there in omega arith)
      (λ p other. others_none d c p (other_port d (port_of c p) (λ e. other (sym e))))
      ∙ ap (λ l. count_by q (flat_map copies l)) stands.only
      ∙ ap (count_by q) (append-nil (copies arc))
      ∙ count_copies q (natural (excess numbers arc)) d (same_itself d)

  pub filled_by : Respects numbers (arcs cells)
      → All (λ arc. excess numbers arc ≡ pos (count_by (same_port arc.name) (ports_to_buffer (arcs cells) numbers)))
      (arcs cells)
  filled_by respects k d h =
      natural_is (difference numbers (get_or (arcs cells) k d)) (get_or (arcs cells) k d).weight (respects k d h)
      ∙ ap pos (sym (copies_counted (get_or (arcs cells) k d) (all_stand cells k d h)))
