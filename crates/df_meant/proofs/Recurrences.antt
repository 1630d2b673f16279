-- The loop of a recurrence.
use Rattle.std.proofs.Common.{◌≡◌, ℕ, ℤ, suc, pos, ◌+◌, ◌-◌, ◌<◌, ◌≤◌, ◌+ℤ◌, Bool, true, false, List, [], ◌∷◌, ◌++◌, length, Some, refl, sym, ◌∙◌, ap, subst, arith}
use Rattle.std.specs.Prelude.{◌==◌, nat_lt, if◌then◌else◌}
use Rattle.std.proofs.lemmas.Bool.{ltb-true, ltb-false}
use Rattle.df_values.specs.declared.values.Value.{Value}
use Rattle.df_cells.specs.declared.kinds.Kind.TheVariants as kind
use Rattle.df_labels.specs.Graphs.{Graph}
use Rattle.df_labels.specs.Labels.{Turn, block_turn}
use Rattle.df_labels.specs.Patterns.{pattern, PatternsSpell}
use Rattle.df_labels.specs.declared.graphs.Flow.{Flow}
use Rattle.df_labels.specs.declared.graphs.Flow.TheVariants.{Constant, Cell}
use Rattle.df_build_terms.specs.declared.building.Outside.{Outside}
use Rattle.df_core.specs.declared.terms.Term.{Term}
use Rattle.df_build_loops.specs.Frames.{undef}
use Rattle.df_build_cond.specs.Growth.{whole, Stood}
use Rattle.df_build_elem.specs.Blocks.{element, grown_by}
use Rattle.df_build_loops.specs.Frames.{closed}
use Rattle.df_meant.specs.Windows.{lesser}
use Rattle.df_meant.specs.Sites.{Ends, Label, site_of, Stands, Gives, Meeting, Extends, block_turns}
use Rattle.df_core.specs.Meaning.{Made, term_value, value_alone, last_grown}
use Rattle.df_meant.specs.Builds.{Block, here_in, Fits}
use Rattle.df_meant.specs.SameGraph.{no_open}
use Rattle.df_meant.proofs.Groups.{extends_both, stands_more, stands_same}
use Rattle.df_meant.proofs.Forms.{fits_more, lesser_first}
use Rattle.df_meant.proofs.Elements.{element_made}
use Rattle.df_meant.proofs.Patterns.{stream_on}
use Rattle.df_meant.proofs.Flat.{ruled_is}
use Rattle.df_meant.proofs.Frames as frame
use Rattle.df_meant.proofs.Closing as closing

lesser_second : (i m : ℕ) → m ≤ i → lesser i m ≡ m
lesser_second i m le = go (nat_lt i m) refl
  where
    go : (b : Bool) → nat_lt i m ≡ b → (if b then i else m) ≡ m
    go true h = let less = ltb-true i m h in omega (arith, less, le)
    go false h = refl

lesser_last : (i m : ℕ) → lesser i m ≤ m
lesser_last i m = go (nat_lt i m) refl
  where
    go : (b : Bool) → nat_lt i m ≡ b → (if b then i else m) ≤ m
    go true h = let less = ltb-true i m h in omega (arith, less)
    go false h = omega arith

lesser_suc : (j n : ℕ) → 0 < n → lesser (suc j) n ≡ suc (lesser j (n - 1))
lesser_suc j n some = go (nat_lt j (n - 1)) refl
  where
    go : (b : Bool) → nat_lt j (n - 1) ≡ b → lesser (suc j) n ≡ suc (lesser j (n - 1))
    go true h = let less = ltb-true j (n - 1) h in lesser_first (suc j) n (omega (arith, less)) ∙ ap suc (sym (lesser_first j (n - 1) (omega (arith, less))))
    go false h =
        let more = ltb-false j (n - 1) h in
        let one : n ≡ suc (n - 1) = omega (arith, some) in
        lesser_second (suc j) n (omega (arith, more, some)) ∙ one ∙ ap suc (sym (lesser_second j (n - 1) more))

module _ (spell : PatternsSpell) (inputs : Ends) (outer : List Outside) (made : List Made) (lo : ℤ) (n : ℕ) (start x : Term) (first : Flow) (graph : Graph) (labels : List Label) (some : 0 < n) where
  abbrev m : ℕ
  m = length graph

  -- past the last turn it stays as it is
  abbrev v : Value
  v = value_alone made start

  abbrev g : ℕ → Value
  g j = last_grown made lo start x (lesser j n)

  abbrev k : Block
  k = record { inputs = inputs; turns = record { lo = lo; n = n; own = Some m }; made = made; outer = outer; before = g; is_open = λ c. c == m }

  abbrev rest : Stood → Stood
  rest o = let e = element whole (record { lo = lo; n = n; own = Some o.cell }) outer x o.graph in record { graph = closed e.graph o.cell e.flow; cell = o.cell }

  abbrev IsGrownBy : Stood → Type 0
  IsGrownBy r =
      (more : List Label) × Meeting no_open r.graph inputs more × Fits (site_of r.graph more) outer made × Stands (site_of r.graph more) (Cell r.cell) (block_turns 0 (suc n)) (λ t. last_grown made lo start x (block_turn t))

  next_is : (t : Turn) → term_value x (here_in k t) [] ≡ g (suc (block_turn t))
  next_is t =
      let p = lesser (block_turn t) (n - 1) in
      let low : p ≤ n - 1 = lesser_last (block_turn t) (n - 1) in
      ap (λ w. term_value x (record { made = made; at = lo +ℤ pos p; previous = w }) []) (ap (last_grown made lo start x) (lesser_first p n (omega (arith, low))))
      ∙ ap (last_grown made lo start x) (sym (lesser_suc (block_turn t) n some))

  flat_ok : Meeting no_open graph inputs labels → Fits (site_of graph labels) outer made → Stands (site_of graph labels) first (block_turns 0 1) (λ _. v)
      → IsGrownBy (rest (record { graph = frame.opened graph first n; cell = m }))
  flat_ok meet fits starts =
      let given = λ (t : Turn). g (block_turn t) in
      let g1 = frame.opened graph first n in
      let e = element whole k.turns outer x g1 in
      let next = e.flow in
      let s0 = site_of graph labels in
      let l1 = labels ++ frame.ls spell graph inputs labels first next n g in
      let o = frame.opened_ok spell graph inputs labels first next n g meet in
      let s1 = site_of g1 l1 in
      let r = element_made spell k x g1 l1 some o.1 (fits_more s0 s1 outer made o.0 fits) o.2 in
      let g4 = e.graph in
      let s4 = site_of g4 r.0 in
      let ext04 : Extends s0 s4 = extends_both s0 s1 s4 o.0 r.1 in
      let next_stands : Stands s4 next (block_turns 0 n) (λ t. g (suc (block_turn t))) = stands_same s4 next (block_turns 0 n) (λ t. term_value x (here_in k t) []) (λ t. g (suc (block_turn t))) next_is r.3 in
      let long = meet.long in
      let closed4 = closed g4 m next in
      let zero_is : v ≡ g 0 = ap (last_grown made lo start x) (sym (lesser_first 0 n (omega arith))) in
      let first_stands = stands_same s4 first (block_turns 0 1) (λ _. v) (λ _. g 0) (λ t. zero_is) (stands_more s0 s4 first (block_turns 0 1) (λ _. v) ext04 starts) in
      let done = frame.closed_ok spell graph inputs labels first next n g g4 r.0 r.1 r.2 long first_stands next_stands in
      let graph_is = frame.graph_is spell graph inputs labels first next n g g4 r.0 r.1 r.2 long in
      let at_m = frame.at_later spell graph inputs labels first next n g g4 r.0 r.1 r.2 long in
      let open_node = frame.open_node spell graph inputs labels first next n g in
      let closed_node = frame.closed_node spell graph inputs labels first next n g in
      let merge5 : Stands (site_of closed4 r.0) (Cell m) (block_turns 0 (suc n)) given =
      subst (λ y. Stands (site_of y r.0) (Cell m) (block_turns 0 (suc n)) given) (sym graph_is)
      (closing.stands_fed g4 inputs r.0 m open_node closed_node at_m refl refl (Cell m) (block_turns 0 (suc n)) given (stands_more s1 s4 (Cell m) (block_turns 0 (suc n)) given r.1 o.2)) in
      let fits5 : Fits (site_of closed4 r.0) outer made = subst (λ y. Fits (site_of y r.0) outer made) (sym graph_is)
      (closing.fits_fed g4 inputs r.0 m open_node closed_node at_m refl refl outer made (fits_more s0 s4 outer made ext04 fits)) in
      let each : (i : ℕ) → i < suc n → given ((0 + i) ∷ []) ≡ last_grown made lo start x (0 + i) = λ i h. ap (last_grown made lo start x) (lesser_first (0 + i) n (omega (arith, h))) in
      (r.0, done, fits5, subst (Gives (site_of closed4 r.0) m) (stream_on 0 (suc n) given (λ t. last_grown made lo start x (block_turn t)) each) merge5)

  pub grown_ok : Meeting no_open graph inputs labels → Fits (site_of graph labels) outer made → Stands (site_of graph labels) first (block_turns 0 1) (λ _. v) → IsGrownBy (grown_by whole lo n outer x graph first)
  unfolding grown_by
  grown_ok meet fits starts =
      subst (λ (o : Stood). IsGrownBy (rest o)) (sym (ruled_is graph kind.Merge (first ∷ Constant undef ∷ []) (pattern ((1, true) ∷ (n, false) ∷ [])))) (flat_ok meet fits starts)
