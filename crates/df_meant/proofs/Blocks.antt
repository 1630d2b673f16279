-- Blocks are built to what they mean.
use Rattle.std.proofs.Common.{◌≡◌, ℕ, ℤ, zero, suc, pos, ◌+◌, ◌-◌, ◌<◌, Bool, true, false, cond, List, [], ◌∷◌, ◌++◌, get_or, length, map, replicate, Option, Some, None, refl, sym, ◌∙◌, ap, subst, arith}
use Rattle.std.specs.Prelude.{fold, if◌then◌else◌, ◌==◌}
use Rattle.std.specs.List.{range_with_len}
use Rattle.std.proofs.lemmas.Bool.{le-ltb, eqb-true}
use Rattle.std.proofs.lemmas.List.{get_or-replicate, get_or_append_left, length-append, length-replicate}
use Rattle.std.proofs.lemmas.List.FromFn.{get_or-map-range_with_len, length-map-range_with_len}
use Rattle.df_values.specs.declared.values.Value.{Value}
use Rattle.df_values.specs.declared.values.Value.TheVariants.{Error, Truth}
use Rattle.df_values.specs.declared.values.ErrorValue.TheVariants.{Undef, MissElt}
use Rattle.df_values.specs.declared.kinds.Op.{Op}
use Rattle.df_values.specs.Tables.{answer}
use Rattle.df_cells.specs.declared.kinds.Kind.TheVariants as kind
use Rattle.df_cells.specs.Shifts.{is_truth, first_from, first_truth}
use Rattle.df_labels.specs.Graphs.{Graph, Node}
use Rattle.df_labels.specs.Labels.{Turn, in_order_from, block_turn}
use Rattle.df_labels.specs.Patterns.{steady, pattern, PatternsSpell}
use Rattle.df_labels.specs.declared.graphs.Flow.{Flow}
use Rattle.df_labels.specs.declared.graphs.Flow.TheVariants.{Constant, Cell}
use Rattle.df_build_terms.specs.declared.building.Outside.{Outside}
use Rattle.df_build_terms.specs.declared.building.Outside.TheVariants as outside
use Rattle.df_core.specs.declared.terms.Term.{Term}
use Rattle.df_core.specs.declared.flat.Body.{Body}
use Rattle.df_core.specs.declared.flat.Body.TheVariants as body
use Rattle.df_build_loops.specs.Frames.{undef}
use Rattle.df_build_cond.specs.Growth.{whole, Stood, Grown}
use Rattle.df_build_cond.specs.Gates.{patterned}
use Rattle.df_build_elem.specs.Blocks.{Placed, turns_of, as_array, as_scalar, grown_by, element, alone, listed, constructed, folded_from, folded_first, folded_by, folded, recurred, placed, shown}
use Rattle.df_core.specs.Meaning.{Made, Single, Many, begun, or_undef, folded_more, value_at, value_alone, members, last_grown, before, made_by, with_block, scalar_of}
use Rattle.df_build_elem.specs.Program.{laid_block}
use Rattle.df_meant.specs.Sites.{Ends, Label, Site, site_of, stream, Stands, Gives, Meeting, Extends, block_turns}
use Rattle.df_meant.specs.Windows.{lesser}
use Rattle.df_meant.specs.Builds.{OutsideStands, Fits}
use Rattle.df_meant.specs.SameGraph.{no_open}
use Rattle.df_meant.specs.Blocks.{BlocksAreMeant}
use Rattle.df_meant.proofs.Streams.{answered_source}
use Rattle.df_meant.proofs.Groups.{extends_same, extends_both, extends_push, stands_more, stands_same, meet_push, gives_push}
use Rattle.df_meant.proofs.Fed.{IsMade}
use Rattle.df_meant.proofs.Forms.{meets_source, lesser_first, fits_more}
use Rattle.df_meant.proofs.Patterns.{stream_on, pattern_two}
use Rattle.df_meant.proofs.Windowing.{gate_runs}
use Rattle.df_meant.proofs.Elements.{plain, element_made}
use Rattle.df_meant.proofs.Folds.{joined_of, loop_ok}
use Rattle.df_meant.proofs.Recurrences.{grown_ok}

-- one more that stands outside
fits_bound : (site : Site) (outer : List Outside) (made : List Made) (o : Outside) (m : Made) → Fits site outer made → OutsideStands site (Some o) m → Fits site (outer ++ o ∷ []) (made ++ m ∷ [])
fits_bound site [] [] o m h new = (new, tt)
fits_bound site (x ∷ outer) (y ∷ made) o m h new = (h.0, fits_bound site outer made o m h.1 new)
fits_bound site [] (y ∷ made) o m h new = absurd h
fits_bound site (x ∷ outer) [] o m h new = absurd h

pub single_stands : (site : Site) (flow : Flow) (v : Value) → Stands site flow (block_turns 0 1) (λ _. v) → OutsideStands site (Some (outside.Single flow)) (Single v)
single_stands site flow v stands = record { flow = stands; array = record { lowest = refl; count = refl; comes = λ some. absurd (omega (arith, some)) }; shape = refl }

pub many_stands : (site : Site) (u n : ℕ) (lo : ℤ) (vs : List Value) → n ≡ length vs → Gives site u (stream (block_turns 0 n) (λ t. get_or vs (block_turn t) (Error MissElt)))
    → OutsideStands site (Some (outside.Many (record { cell = u; lo = lo; n = n }))) (Many lo vs)
many_stands site u n lo vs count gives = record { flow = λ t. refl; array = record { lowest = refl; count = count; comes = λ _. gives }; shape = (gives, refl) }

-- ---- a steady source

none_first : (p : Value → Bool) (n k : ℕ) (v : Value) → p v ≡ false → first_from p k (replicate n v ++ []) ≡ 0
none_first p zero k v h = refl
none_first p (suc n) k v h = ap (λ b. cond b k (first_from p (k + 1) (replicate n v ++ []))) h ∙ none_first p n (k + 1) v h

steady_plain : (n : ℕ) (v : Value) (side : Bool) → first_truth side (replicate n v ++ []) ≡ 0
steady_plain zero v side = refl
steady_plain (suc n) v side = go (is_truth side v) refl
  where
    go : (b : Bool) → is_truth side v ≡ b → first_truth side (replicate (suc n) v ++ []) ≡ 0
    go true h = ap (λ b. cond b 0 (first_from (is_truth side) (0 + 1) (replicate n v ++ []))) h
    go false h = none_first (is_truth side) (suc n) 0 v h

steady_made : (inputs : Ends) (graph : Graph) (labels : List Label) (n : ℕ) (v : Value) → Meeting no_open graph inputs labels
    → IsMade no_open inputs (block_turns 0 (suc n)) graph labels (graph ++ record { kind = kind.Ctl (steady (suc n) v); ports = [] } ∷ []) (Cell (length graph)) (λ _. v)
steady_made inputs graph labels n v meet =
    let vs = replicate (suc n) v ++ [] in
    let node : Node = record { kind = kind.Ctl (steady (suc n) v); ports = [] } in
    let l = in_order_from 0 vs in
    let long : length vs ≡ suc n =
    let e : length vs ≡ length (replicate (suc n) v) + 0 = length-append (replicate (suc n) v) [] in let f : length (replicate (suc n) v) ≡ suc n = length-replicate (suc n) v in omega (arith, e, f) in
    let each : (i : ℕ) → i < suc n → v ≡ get_or vs i undef = λ i h.
    let f : length (replicate (suc n) v) ≡ suc n = length-replicate (suc n) v in
    sym (get_or_append_left (replicate (suc n) v) [] undef i (omega (arith, f, h)) ∙ get_or-replicate (suc n) i v undef h) in (
      labels ++ l ∷ [],
      extends_push no_open graph (node ∷ []) inputs labels (l ∷ []) meet,
      meet_push no_open graph inputs labels node l meet (λ values. meets_source (site_of (graph ++ node ∷ []) (labels ++ l ∷ [])) values node.kind vs refl refl refl),
      gives_push graph labels node l (stream (block_turns 0 (suc n)) (λ _. v)) meet.long (steady_plain (suc n) v) refl (answered_source vs 0 (suc n) (λ _. v) long each),
    )

-- what was built as a cell
pub listed_made : (inputs : Ends) (graph : Graph) (labels : List Label) (n : ℕ) (flow : Flow) (f : Turn → Value) → Meeting no_open graph inputs labels → Stands (site_of graph labels) flow (block_turns 0 (suc n)) f
    → (let s = listed whole (suc n) graph flow in IsMade no_open inputs (block_turns 0 (suc n)) graph labels s.graph (Cell s.cell) f)
listed_made inputs graph labels n (Constant v) f meet stands =
    let m = steady_made inputs graph labels n v meet in
    let grown = graph ++ record { kind = kind.Ctl (steady (suc n) v); ports = [] } ∷ [] in
    (m.0, m.1, m.2, stands_same (site_of grown m.0) (Cell (length graph)) (block_turns 0 (suc n)) (λ _. v) f (λ t. sym (stands t)) m.3)
listed_made inputs graph labels n (Cell c) f meet stands = (labels, extends_same (site_of graph labels), meet, stands)

-- an array of a cell
array_stands : (site : Site) (u n : ℕ) (lo : ℤ) (F : ℕ → Value) (h : Turn → Value) → ((i : ℕ) → i < n → h ((0 + i) ∷ []) ≡ F i) → Stands site (Cell u) (block_turns 0 n) h
    → OutsideStands site (Some (outside.Many (record { cell = u; lo = lo; n = n }))) (Many lo (map F (range_with_len 0 n)))
array_stands site u n lo F h same stands =
    let vs = map F (range_with_len 0 n) in
    let each : (i : ℕ) → i < n → h ((0 + i) ∷ []) ≡ get_or vs (0 + i) (Error MissElt) = λ i less.
    let z : 0 + i ≡ i = omega arith in
    same i less ∙ sym (get_or-map-range_with_len F 0 n i i (Error MissElt) less z) ∙ ap (λ j. get_or vs j (Error MissElt)) (sym z) in
    many_stands site u n lo vs (sym (length-map-range_with_len F 0 n)) (subst (Gives site u) (stream_on 0 n h (λ t. get_or vs (block_turn t) (Error MissElt)) each) stands)

not_zero : (n : ℕ) → (suc n == 0) ≡ false
not_zero n = go (suc n == 0) refl
  where
    go : (b : Bool) → (suc n == 0) ≡ b → b ≡ false
    go true h = absurd (never (eqb-true (suc n) 0 h))
      where
        never : suc n ≡ 0 → ⊥
        never e = omega (arith, e)
    go false h = refl

-- ---- elements

range_same : (f g : ℕ → Value) (a n : ℕ) → ((i : ℕ) → i < n → f (a + i) ≡ g (a + i)) → map f (range_with_len a n) ≡ map g (range_with_len a n)
range_same f g a zero h = refl
range_same f g a (suc n) h =
    let z : a ≡ a + 0 = omega arith in let y : a + 0 ≡ a = omega arith in
    let first : f a ≡ g a = ap f z ∙ h 0 (omega arith) ∙ ap g y in
    let rest = range_same f g (a + 1) n (λ i l. let e : a + 1 + i ≡ a + suc i = omega arith in let e' : a + suc i ≡ a + 1 + i = omega arith in ap f e ∙ h (suc i) (omega (arith, l)) ∙ ap g e') in
    ap (λ v. v ∷ map f (range_with_len (a + 1) n)) first ∙ ap (λ vs. g a ∷ vs) rest

shifted : (f : ℕ → Value) (a n : ℕ) → map (λ i. f (1 + i)) (range_with_len a n) ≡ map f (range_with_len (a + 1) n)
shifted f a zero = refl
shifted f a (suc n) =
    let e : 1 + a ≡ a + 1 = omega arith in
    ap (λ v. v ∷ map (λ i. f (1 + i)) (range_with_len (a + 1) n)) (ap f e) ∙ ap (λ vs. f (a + 1) ∷ vs) (shifted f (a + 1) n)

module _ (spell : PatternsSpell) (inputs : Ends) (outer : List Outside) (made : List Made) (graph : Graph) (labels : List Label) (meet : Meeting no_open graph inputs labels) (fits : Fits (site_of graph labels) outer made) where
  abbrev old : Site
  old = site_of graph labels

  -- a member by its turn, past the last as there
  abbrev M : ℤ → ℕ → Term → ℕ → Value
  M lo n x i = value_at made lo (Error Undef) x (lesser i (n - 1))

  member_is : (lo : ℤ) (n : ℕ) (x : Term) (i : ℕ) → i < n → M lo n x i ≡ value_at made lo (Error Undef) x i
  member_is lo n x i h = ap (value_at made lo (Error Undef) x) (lesser_first i (n - 1) (omega (arith, h)))

  members_made : (lo : ℤ) (n : ℕ) (x : Term) → 0 < n → (let e = element whole (turns_of lo n) outer x graph in IsMade no_open inputs (block_turns 0 n) graph labels e.graph e.flow (λ t. M lo n x (block_turn t)))
  members_made lo n x some = element_made spell (plain inputs outer made no_open lo n) x graph labels some meet fits (λ i. refl)

  alone_made : (x : Term) → (let e = alone whole outer x graph in IsMade no_open inputs (block_turns 0 1) graph labels e.graph e.flow (λ _. value_alone made x))
  alone_made x =
      let e = alone whole outer x graph in
      let r = members_made (pos 0) 1 x (omega arith) in
      (r.0, r.1, r.2, stands_same (site_of e.graph r.0) e.flow (block_turns 0 1) (λ t. M (pos 0) 1 x (block_turn t)) (λ _. value_alone made x) (λ t. ap (value_at made (pos 0) (Error Undef) x) (none_lower (block_turn t))) r.3)
    where
      none_lower : (j : ℕ) → lesser j (1 - 1) ≡ 0
      none_lower j = let z : 1 - 1 ≡ 0 = omega arith in ap (lesser j) z ∙ ap (λ b. if b then j else 0) (le-ltb j 0 (omega arith))

  abbrev IsPlaced : Placed → Made → Type 0
  IsPlaced p m = (more : List Label) × Meeting no_open p.graph inputs more × Fits (site_of p.graph more) outer made × OutsideStands (site_of p.graph more) (Some p.outside) m

  scalar_ok : (x : Term) → IsPlaced (placed whole outer (body.Scalar x) graph) (made_by made (body.Scalar x))
  unfolding placed
  scalar_ok x =
      let e = alone whole outer x graph in
      let r = alone_made x in
      (r.0, r.2, fits_more old (site_of e.graph r.0) outer made r.1 fits, single_stands (site_of e.graph r.0) e.flow (value_alone made x) r.3)

  construct_ok : (lo : ℤ) (n : ℕ) (x : Term) → IsPlaced (placed whole outer (body.Construct lo n x) graph) (made_by made (body.Construct lo n x))
  unfolding placed constructed
  construct_ok lo zero x =
      let node : Node = record { kind = kind.Ctl []; ports = [] } in
      let l = in_order_from 0 [] in
      let site = site_of (graph ++ node ∷ []) (labels ++ l ∷ []) in (
        labels ++ l ∷ [],
        meet_push no_open graph inputs labels node l meet (λ values. meets_source site values node.kind [] refl refl refl),
        fits_more old site outer made (extends_push no_open graph (node ∷ []) inputs labels (l ∷ []) meet) fits,
        many_stands site (length graph) 0 lo [] refl (gives_push graph labels node l [] meet.long (λ side. refl) refl refl),
      )
  construct_ok lo (suc n) x =
      let e = element whole (turns_of lo (suc n)) outer x graph in
      let r = members_made lo (suc n) x (omega arith) in
      let first = site_of e.graph r.0 in
      let s = listed whole (suc n) e.graph e.flow in
      let q = listed_made inputs e.graph r.0 n e.flow (λ t. M lo (suc n) x (block_turn t)) r.2 r.3 in
      let site = site_of s.graph q.0 in
      subst (λ (b : Bool). IsPlaced (as_array lo (suc n) (if b then record { graph = graph ++ record { kind = kind.Ctl []; ports = [] } ∷ []; cell = length graph } else s)) (Many lo (members made lo x (suc n)))) (sym (not_zero n)) (
        q.0,
        q.2,
        fits_more old site outer made (extends_both old first site r.1 q.1) fits,
        array_stands site s.cell (suc n) lo (value_at made lo (Error Undef) x) (λ t. M lo (suc n) x (block_turn t)) (λ i h. let z : 0 + i ≡ i = omega arith in ap (M lo (suc n) x) z ∙ member_is lo (suc n) x i h) q.3,
      )

  -- ---- folds

  abbrev fold_by : Op → Option Value → List Value → Value
  fold_by op o vs = or_undef (fold (folded_more op) o vs)

  some_folded : (op : Op) (b : Value) (vs : List Value) → fold (answer op) b vs ≡ fold_by op (Some b) vs
  some_folded op b [] = refl
  some_folded op b (v ∷ vs) = some_folded op (answer op b v) vs

  abbrev IsFolded : Stood → Value → Type 0
  IsFolded r v = (more : List Label) × Meeting no_open r.graph inputs more × Fits (site_of r.graph more) outer made × Stands (site_of r.graph more) (Cell r.cell) (block_turns 0 1) (λ _. v)

  from_ok : (b : Value) (op : Op) (lo : ℤ) (n : ℕ) (x : Term) → IsFolded (folded_from whole b op (turns_of lo (suc n)) outer x graph) (fold (answer op) b (members made lo x (suc n)))
  unfolding folded_from
  from_ok b op lo n x =
      let r = folded_from whole b op (turns_of lo (suc n)) outer x graph in
      let z = loop_ok spell inputs outer made op (Constant b) b (suc n) (M lo (suc n) x) graph labels (element whole (turns_of lo (suc n)) outer x) meet fits (λ t. refl)
      (λ g2 l2 ext meet2. element_made spell (plain inputs outer made (λ c. c == length graph) lo (suc n)) x g2 l2 (omega arith) meet2 (fits_more old (site_of g2 l2) outer made ext fits) (λ i. refl)) in
      let all : joined_of op b (M lo (suc n) x) (suc n) ≡ fold (answer op) b (members made lo x (suc n)) = ap (fold (answer op) b) (range_same (M lo (suc n) x) (value_at made lo (Error Undef) x) 0 (suc n) (λ i h.
      let z : 0 + i ≡ i = omega arith in ap (M lo (suc n) x) z ∙ member_is lo (suc n) x i h ∙ ap (value_at made lo (Error Undef) x) (sym z))) in
      (z.0, z.1, z.2, stands_same (site_of r.graph z.0) (Cell r.cell) (block_turns 0 1) (λ _. joined_of op b (M lo (suc n) x) (suc n)) (λ _. fold (answer op) b (members made lo x (suc n))) (λ t. all) z.3)

  first_ok : (op : Op) (lo : ℤ) (n : ℕ) (x : Term) → IsFolded (folded_first whole op (turns_of lo (suc n)) outer x graph) (fold_by op None (members made lo x (suc n)))
  unfolding folded_first
  first_ok op lo n x =
      let F = M lo (suc n) x in
      let r = suc n - 1 in
      let rest_is : r ≡ n = omega arith in
      let e = element whole (turns_of lo (suc n)) outer x graph in
      let em = members_made lo (suc n) x (omega arith) in
      let s1 = site_of e.graph em.0 in
      let s = listed whole (suc n) e.graph e.flow in
      let lm = listed_made inputs e.graph em.0 n e.flow (λ t. F (block_turn t)) em.2 em.3 in
      let s2 = site_of s.graph lm.0 in
      let parts : List (ℕ × Bool) = (1, true) ∷ (r, false) ∷ [] in
      let first = patterned whole s.graph kind.Tgate (Cell s.cell ∷ []) parts in
      let count : 0 + (1 + r) ≡ suc n = omega arith in
      let fm = gate_runs true no_open inputs s.graph lm.0 s.cell 0 1 r (suc n) (pattern parts) (Truth false) (Truth true) F (pattern_two spell 1 r) refl refl lm.2 count lm.3 in
      let s3 = site_of first.graph fm.0 in
      let rest = patterned whole first.graph kind.Fgate (Cell s.cell ∷ []) parts in
      let count' : 1 + (r + 0) ≡ suc n = omega arith in
      let rm = gate_runs false no_open inputs first.graph fm.0 s.cell 1 r 0 (suc n) (pattern parts) (Truth true) (Truth false) F (pattern_two spell 1 r) refl refl fm.2 count'
      (stands_more s2 s3 (Cell s.cell) (block_turns 0 (suc n)) (λ t. F (block_turn t)) fm.1 lm.3) in
      let s4 = site_of rest.graph rm.0 in
      let ext : Extends old s4 = extends_both old s1 s4 em.1 (extends_both s1 s2 s4 lm.1 (extends_both s2 s3 s4 fm.1 rm.1)) in
      let first_is : (i : ℕ) → i < 1 → F (0 + block_turn ((0 + i) ∷ [])) ≡ F 0 = λ i h. let z : 0 + (0 + i) ≡ 0 = omega (arith, h) in ap F z in
      let starts : Stands s4 (Cell first.cell) (block_turns 0 1) (λ _. F 0) =
      stands_more s3 s4 (Cell first.cell) (block_turns 0 1) (λ _. F 0) rm.1 (subst (Gives s3 first.cell) (stream_on 0 1 (λ t. F (0 + block_turn t)) (λ _. F 0) first_is) fm.3) in
      let z = loop_ok spell inputs outer made op (Cell first.cell) (F 0) r (λ i. F (1 + i)) rest.graph rm.0 (λ g. record { graph = g; flow = Cell rest.cell }) rm.2 (fits_more old s4 outer made ext fits) starts
      (λ g2 l2 ext2 meet2. (l2, extends_same (site_of g2 l2), meet2, stands_more s4 (site_of g2 l2) (Cell rest.cell) (block_turns 0 r) (λ t. F (1 + block_turn t)) ext2 rm.3)) in
      let d = folded_first whole op (turns_of lo (suc n)) outer x graph in
      let zero_is : F 0 ≡ value_at made lo (Error Undef) x 0 = member_is lo (suc n) x 0 (omega arith) in
      let all : joined_of op (F 0) (λ i. F (1 + i)) r ≡ fold_by op None (members made lo x (suc n)) =
      ap (λ j. fold (answer op) (F 0) (map (λ i. F (1 + i)) (range_with_len 0 j))) rest_is
      ∙ ap (fold (answer op) (F 0)) (shifted F 0 n ∙ range_same F (value_at made lo (Error Undef) x) 1 n (λ i h. member_is lo (suc n) x (1 + i) (omega (arith, h))))
      ∙ ap (λ b. fold (answer op) b (map (value_at made lo (Error Undef) x) (range_with_len 1 n))) zero_is ∙ some_folded op (value_at made lo (Error Undef) x 0) (map (value_at made lo (Error Undef) x) (range_with_len 1 n)) in
      (z.0, z.1, z.2, stands_same (site_of d.graph z.0) (Cell d.cell) (block_turns 0 1) (λ _. joined_of op (F 0) (λ i. F (1 + i)) r) (λ _. fold_by op None (members made lo x (suc n))) (λ t. all) z.3)

  folded_by_ok : (o : Option Value) (op : Op) (lo : ℤ) (n : ℕ) (x : Term) → IsFolded (folded_by whole o op (turns_of lo (suc n)) outer x graph) (fold_by op o (members made lo x (suc n)))
  folded_by_ok (Some b) op lo n x = subst (IsFolded (folded_by whole (Some b) op (turns_of lo (suc n)) outer x graph)) (some_folded op b (members made lo x (suc n))) (from_ok b op lo n x)
  folded_by_ok None op lo n x = first_ok op lo n x

  nothing_folded : (o : Option Value) (op : Op) → or_undef o ≡ fold_by op o []
  nothing_folded (Some b) op = refl
  nothing_folded None op = refl

  fold_ok : (op : Op) (lo : ℤ) (n : ℕ) (x : Term) → IsPlaced (placed whole outer (body.Fold op lo n x) graph) (made_by made (body.Fold op lo n x))
  unfolding placed folded
  fold_ok op lo zero x =
      let v = or_undef (begun op) in
      (labels, meet, fits, single_stands old (Constant v) (fold_by op (begun op) []) (λ t. sym (nothing_folded (begun op) op)))
  fold_ok op lo (suc n) x =
      let s = folded_by whole (begun op) op (turns_of lo (suc n)) outer x graph in
      let r = folded_by_ok (begun op) op lo n x in
      let empty : Grown = record { graph = graph; flow = Constant (or_undef (begun op)) } in
      let some_cells : Grown = record { graph = s.graph; flow = Cell s.cell } in
      subst (λ (b : Bool). IsPlaced (as_scalar (if b then empty else some_cells)) (Single (fold_by op (begun op) (members made lo x (suc n))))) (sym (not_zero n))
      (r.0, r.1, r.2, single_stands (site_of s.graph r.0) (Cell s.cell) (fold_by op (begun op) (members made lo x (suc n))) r.3)

  -- ---- recurrences

  recurrence_ok : (lo : ℤ) (n : ℕ) (start x : Term) → IsPlaced (placed whole outer (body.Recurrence lo n start x) graph) (made_by made (body.Recurrence lo n start x))
  unfolding placed recurred
  recurrence_ok lo zero start x =
      let v = value_alone made start in
      let e = alone whole outer start graph in
      let r = alone_made start in
      let s = listed whole 1 e.graph e.flow in
      let q = listed_made inputs e.graph r.0 0 e.flow (λ _. v) r.2 r.3 in
      let site = site_of s.graph q.0 in
      let each : (i : ℕ) → i < 1 → v ≡ last_grown made lo start x i = λ i h. let z : 0 ≡ i = omega (arith, h) in ap (last_grown made lo start x) z in
      (q.0, q.2, fits_more old site outer made (extends_both old (site_of e.graph r.0) site r.1 q.1) fits, array_stands site s.cell 1 (before lo) (last_grown made lo start x) (λ _. v) each q.3)
  recurrence_ok lo (suc n) start x =
      let v = value_alone made start in
      let e = alone whole outer start graph in
      let r = alone_made start in
      let first = site_of e.graph r.0 in
      let q = grown_ok spell inputs outer made lo (suc n) start x e.flow e.graph r.0 (omega arith) r.2 (fits_more old first outer made r.1 fits) r.3 in
      let s = grown_by whole lo (suc n) outer x e.graph e.flow in
      let site = site_of s.graph q.0 in
      let count : suc (suc n) ≡ suc (suc n) = omega arith in
      let short = listed whole 1 e.graph e.flow in
      subst (λ (b : Bool). IsPlaced (as_array (before lo) (suc (suc n)) (if b then short else s)) (Many (before lo) (map (last_grown made lo start x) (range_with_len 0 (suc (suc n)))))) (sym (not_zero n)) (
        q.0,
        q.1,
        q.2,
        array_stands site s.cell (suc (suc n)) (before lo) (last_grown made lo start x) (λ t. last_grown made lo start x (block_turn t)) (λ i h. let z : 0 + i ≡ i = omega arith in ap (last_grown made lo start x) z)
            (subst (λ j. Gives site s.cell (stream (block_turns 0 j) (λ t. last_grown made lo start x (block_turn t)))) count q.3),
      )

  body_ok : (b : Body) → IsPlaced (placed whole outer b graph) (made_by made b)
  body_ok (body.Construct lo n x) = construct_ok lo n x
  body_ok (body.Fold op lo n x) = fold_ok op lo n x
  body_ok (body.Recurrence lo n start x) = recurrence_ok lo n start x
  body_ok (body.Scalar x) = scalar_ok x

-- a constant that is shown as a cell
shown_ok : (inputs : Ends) (outer : List Outside) (made : List Made) (graph : Graph) (labels : List Label) (is_result : Bool) (o : Outside) (m : Made) → Meeting no_open graph inputs labels → Fits (site_of graph labels) outer made
    → OutsideStands (site_of graph labels) (Some o) m
    → (let p = shown whole is_result graph o in (more : List Label) × Meeting no_open p.graph inputs more × Fits (site_of p.graph more) outer made × OutsideStands (site_of p.graph more) (Some p.outside) m)
unfolding shown
shown_ok inputs outer made graph labels true (outside.Single f) m meet fits stands =
    let s = listed whole 1 graph f in
    let q = listed_made inputs graph labels 0 f (λ _. scalar_of m) meet stands.flow in
    let old = site_of graph labels in
    let site = site_of s.graph q.0 in
    (q.0, q.2, fits_more old site outer made q.1 fits, record { flow = q.3; array = record { lowest = stands.array.lowest; count = stands.array.count; comes = λ some. absurd (omega (arith, some)) }; shape = stands.shape })
shown_ok inputs outer made graph labels true (outside.Many a) m meet fits stands = (labels, meet, fits, stands)
shown_ok inputs outer made graph labels false o m meet fits stands = (labels, meet, fits, stands)

pub blocks_are_meant : PatternsSpell → BlocksAreMeant
blocks_are_meant spell inputs made [] laid labels meet fits = (labels, meet, fits)
blocks_are_meant spell inputs made (b ∷ blocks) laid labels meet fits =
    let p = placed whole laid.outer b.body laid.graph in
    let r = body_ok spell inputs laid.outer made laid.graph labels meet fits b.body in
    let q = shown whole b.is_result p.graph p.outside in
    let s = shown_ok inputs laid.outer made p.graph r.0 b.is_result p.outside (made_by made b.body) r.1 r.2 r.3 in
    blocks_are_meant spell inputs (with_block made b) blocks (laid_block whole laid b) s.0 s.1
    (fits_bound (site_of q.graph s.0) laid.outer made q.outside (made_by made b.body) s.2 s.3)
