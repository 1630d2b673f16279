-- The loop of a fold.
use Rattle.std.proofs.Common.{◌≡◌, ℕ, suc, ◌+◌, ◌<◌, Bool, true, false, List, [], ◌∷◌, ◌++◌, length, map, refl, sym, ◌∙◌, ap, subst, arith}
use Rattle.std.specs.Prelude.{◌==◌, fold}
use Rattle.std.specs.List.{range_with_len}
use Rattle.std.proofs.lemmas.List.FromFn.{map-range_with_len_more}
use Rattle.std.proofs.lemmas.List.Sums.{fold_push}
use Rattle.df_values.specs.declared.values.Value.{Value}
use Rattle.df_values.specs.declared.values.Value.TheVariants.{Truth}
use Rattle.df_values.specs.declared.kinds.Op.{Op}
use Rattle.df_values.specs.Tables.{answer}
use Rattle.df_cells.specs.Cells.{port_of}
use Rattle.df_cells.specs.declared.kinds.Kind.TheVariants as kind
use Rattle.df_labels.specs.Graphs.{Graph, with_fed}
use Rattle.df_labels.specs.Labels.{Turn, block_turn}
use Rattle.df_labels.specs.Patterns.{pattern, PatternsSpell}
use Rattle.df_labels.specs.declared.graphs.Flow.{Flow}
use Rattle.df_labels.specs.declared.graphs.Flow.TheVariants.{Constant, Cell}
use Rattle.df_build_terms.specs.declared.building.Outside.{Outside}
use Rattle.df_values.specs.declared.kinds.Binary.TheVariants.{Operation}
use Rattle.df_labels.specs.Flows.{arc, feed_of}
use Rattle.df_build_loops.specs.Frames.{undef}
use Rattle.df_cells.specs.Families.{kind_of}
use Rattle.df_build_cond.specs.Growth.{whole, Stood, Grown, with_cell}
use Rattle.df_build_loops.specs.Frames.{previous}
use Rattle.df_build_loops.specs.Folds.{loop_begun, loop_ended}
use Rattle.df_build_loops.specs.Frames.{closed, last}
use Rattle.df_meant.specs.Sites.{Ends, Label, site_of, Stands, Gives, Meeting, Extends, block_turns}
use Rattle.df_meant.specs.Builds.{Fits}
use Rattle.df_meant.specs.SameGraph.{no_open}
use Rattle.df_meant.proofs.Streams.{turns_block}
use Rattle.df_meant.proofs.Groups.{extends_both, stands_more, stands_same}
use Rattle.df_meant.proofs.Fed.{IsMade}
use Rattle.df_meant.proofs.Cells.{two_made}
use Rattle.df_meant.proofs.Forms.{fits_more}
use Rattle.df_meant.proofs.Patterns.{stream_on, pattern_two}
use Rattle.df_meant.proofs.Windowing.{gate_runs}
use Rattle.df_meant.proofs.Flat.{ruled_is}
use Rattle.df_meant.proofs.Frames as frame
use Rattle.df_meant.proofs.Closing as closing
use Rattle.df_core.specs.Meaning.{Made}

-- what is joined, so many of the members M after b
abbrev pub joined_of : Op → Value → (ℕ → Value) → ℕ → Value
joined_of op b M n = fold (answer op) b (map M (range_with_len 0 n))

joined_more : (op : Op) (b : Value) (M : ℕ → Value) (j : ℕ) → joined_of op b M (suc j) ≡ answer op (joined_of op b M j) (M j)
joined_more op b M j =
    let e : suc j ≡ j + 1 = omega arith in
    let z : 0 + j ≡ j = omega arith in
    ap (λ i. joined_of op b M i) e ∙ ap (fold (answer op) b) (map-range_with_len_more M 0 j j z) ∙ fold_push (answer op) b (map M (range_with_len 0 j)) (M j)

-- what is made of a graph while the MERGE of the loop is open
module _ (spell : PatternsSpell) (inputs : Ends) (outer : List Outside) (made : List Made) (op : Op) (first : Flow) (b : Value) (n : ℕ) (M : ℕ → Value) (graph : Graph) (labels : List Label) (body : Graph → Grown) where
  abbrev m : ℕ
  m = length graph

  abbrev pub is_open : ℕ → Bool
  is_open c = c == m

  abbrev g : ℕ → Value
  g j = joined_of op b M j

  abbrev rest : Stood → Stood
  rest o =
      let p = previous whole o.graph o.cell n in
      let w = body p.graph in
      let joined = with_cell whole w.graph (kind_of (Operation op)) (Cell p.cell ∷ w.flow ∷ []) in
      last whole (with_fed joined (port_of o.cell 2) (arc (length w.graph))) o.cell n

  abbrev pub IsEnded : Stood → Type 0
  IsEnded r = (more : List Label) × Meeting no_open r.graph inputs more × Fits (site_of r.graph more) outer made × Stands (site_of r.graph more) (Cell r.cell) (block_turns 0 1) (λ _. g n)

  abbrev pub BodyMade : Type 0
  BodyMade = (g2 : Graph) (l2 : List Label) → Extends (site_of graph labels) (site_of g2 l2) → Meeting is_open g2 inputs l2
      → IsMade is_open inputs (block_turns 0 n) g2 l2 (body g2).graph (body g2).flow (λ t. M (block_turn t))

  flat_ok : Meeting no_open graph inputs labels → Fits (site_of graph labels) outer made → Stands (site_of graph labels) first (block_turns 0 1) (λ _. b) → BodyMade
      → IsEnded (rest (record { graph = frame.opened graph first n; cell = m }))
  flat_ok meet fits starts made_body =
      let given = λ (t : Turn). g (block_turn t) in
      let g1 = frame.opened graph first n in
      let p = previous whole g1 m n in
      let w = body p.graph in
      let next = Cell (length w.graph) in
      let s0 = site_of graph labels in
      -- the frame is opened, with the label that the meaning gives it
      let l1 = labels ++ frame.ls spell graph inputs labels first next n g in
      let o = frame.opened_ok spell graph inputs labels first next n g meet in
      let s1 = site_of g1 l1 in
      -- the gate of all values but the last
      let count : 0 + (n + 1) ≡ suc n = omega arith in
      let q = gate_runs true is_open inputs g1 l1 m 0 n 1 (suc n) (pattern ((n, true) ∷ (1, false) ∷ [])) (Truth false) (Truth true) g (pattern_two spell n 1) refl refl o.1 count o.2 in
      let s2 = site_of p.graph q.0 in
      let none_before : (t : Turn) → g (0 + block_turn t) ≡ given t = λ t. let z : 0 + block_turn t ≡ block_turn t = omega arith in ap g z in
      let previous_stands : Stands s2 (Cell p.cell) (block_turns 0 n) given = stands_same s2 (Cell p.cell) (block_turns 0 n) (λ t. g (0 + block_turn t)) given none_before q.3 in
      -- the element
      let r = made_body p.graph q.0 (extends_both s0 s1 s2 o.0 q.1) q.2 in
      let s3 = site_of w.graph r.0 in
      let v = λ (t : Turn). M (block_turn t) in
      -- the operator
      let j = two_made is_open inputs w.graph r.0 (block_turns 0 n) r.2 (turns_block 0 n) (Operation op) (Cell p.cell) w.flow given v (stands_more s2 s3 (Cell p.cell) (block_turns 0 n) given r.1 previous_stands) r.3 in
      let g4 = w.graph ++ record { kind = kind_of (Operation op); ports = arc p.cell ∷ feed_of w.flow ∷ [] } ∷ [] in
      let s4 = site_of g4 j.0 in
      let next_is : (t : Turn) → answer op (given t) (v t) ≡ g (suc (block_turn t)) = λ t. sym (joined_more op b M (block_turn t)) in
      let next_stands : Stands s4 next (block_turns 0 n) (λ t. g (suc (block_turn t))) = stands_same s4 next (block_turns 0 n) (λ t. answer op (given t) (v t)) (λ t. g (suc (block_turn t))) next_is j.3 in
      -- the frame is closed
      let ext14 : Extends s1 s4 = extends_both s1 s2 s4 q.1 (extends_both s2 s3 s4 r.1 j.1) in
      let ext04 : Extends s0 s4 = extends_both s0 s1 s4 o.0 ext14 in
      let long = meet.long in
      let closed4 = closed g4 m next in
      let done = frame.closed_ok spell graph inputs labels first next n g g4 j.0 ext14 j.2 long (stands_more s0 s4 first (block_turns 0 1) (λ _. b) ext04 starts) next_stands in
      let graph_is = frame.graph_is spell graph inputs labels first next n g g4 j.0 ext14 j.2 long in
      let at_m = frame.at_later spell graph inputs labels first next n g g4 j.0 ext14 j.2 long in
      let open_node = frame.open_node spell graph inputs labels first next n g in
      let closed_node = frame.closed_node spell graph inputs labels first next n g in
      let s5 = site_of closed4 j.0 in
      let merge5 : Stands s5 (Cell m) (block_turns 0 (suc n)) given =
      subst (λ y. Stands (site_of y j.0) (Cell m) (block_turns 0 (suc n)) given) (sym graph_is)
      (closing.stands_fed g4 inputs j.0 m open_node closed_node at_m refl refl (Cell m) (block_turns 0 (suc n)) given (stands_more s1 s4 (Cell m) (block_turns 0 (suc n)) given ext14 o.2)) in
      let fits5 : Fits s5 outer made = subst (λ y. Fits (site_of y j.0) outer made) (sym graph_is) (closing.fits_fed g4 inputs j.0 m open_node closed_node at_m refl refl outer made (fits_more s0 s4 outer made ext04 fits)) in
      -- its last value
      let count' : n + (1 + 0) ≡ suc n = omega arith in
      let z = gate_runs false no_open inputs closed4 j.0 m n 1 0 (suc n) (pattern ((n, true) ∷ (1, false) ∷ [])) (Truth true) (Truth false) g (pattern_two spell n 1) refl refl done count' merge5 in
      let e = last whole closed4 m n in
      let s6 = site_of e.graph z.0 in
      let last_is : (i : ℕ) → i < 1 → g (n + block_turn ((0 + i) ∷ [])) ≡ g n = λ i h. let at : n + (0 + i) ≡ n = omega (arith, h) in ap g at in
      (z.0, z.2, fits_more s5 s6 outer made z.1 fits5, subst (Gives s6 e.cell) (stream_on 0 1 (λ t. g (n + block_turn t)) (λ _. g n) last_is) z.3)

  pub loop_ok : Meeting no_open graph inputs labels → Fits (site_of graph labels) outer made → Stands (site_of graph labels) first (block_turns 0 1) (λ _. b) → BodyMade
      → (let l = loop_begun whole first n graph in IsEnded (loop_ended whole op l.merge l.gate n (body l.graph)))
  unfolding loop_begun loop_ended
  loop_ok meet fits starts made_body =
      subst (λ (o : Stood). IsEnded (rest o)) (sym (ruled_is graph kind.Merge (first ∷ Constant undef ∷ []) (pattern ((1, true) ∷ (n, false) ∷ [])))) (flat_ok meet fits starts made_body)
