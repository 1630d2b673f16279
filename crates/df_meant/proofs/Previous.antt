-- The element before, in a recurrence: what the gate of the MERGE gives.
use Rattle.std.proofs.Common.{◌≡◌, ℕ, suc, ◌+◌, ◌-◌, ◌<◌, true, false, List, [], ◌∷◌, Option, Some, None, refl, sym, ◌∙◌, ap, subst, arith}
use Rattle.df_values.specs.declared.values.Value.TheVariants.{Truth}
use Rattle.df_labels.specs.Graphs.{Graph}
use Rattle.df_labels.specs.Labels.{block_turn}
use Rattle.df_labels.specs.Patterns.{pattern, PatternsSpell}
use Rattle.df_labels.specs.declared.graphs.Flow.TheVariants.{Cell}
use Rattle.df_build_terms.specs.Building.{Building, with_previous, crossed, previous_met, previous_of, previous_built}
use Rattle.df_build_loops.specs.Frames.{previous}
use Rattle.df_meant.specs.Sites.{Label, site_of, Gives, Stands, Meeting, block_turns}
use Rattle.df_meant.specs.Arms.{Setting}
use Rattle.df_build_cond.specs.Growth.{whole}
use Rattle.df_meant.specs.Builds.{Block, all_of, place_in, FrameStands, Good, IsBuilt, Builds}
use Rattle.df_meant.proofs.Groups.{same_some, extends_same}
use Rattle.df_meant.proofs.Fed.{IsMade}
use Rattle.df_meant.proofs.Crossing.{arms_more}
use Rattle.df_meant.proofs.Forms.{after, lesser_first, fits_more, frame_more, tables_more, outer_crossed}
use Rattle.df_meant.proofs.Patterns.{stream_on, pattern_two}
use Rattle.df_meant.proofs.Windowing.{gate_runs}

module _ (spell : PatternsSpell) where
  previous_made : (k : Block) (m : ℕ) (graph : Graph) (labels : List Label) → Meeting k.is_open graph k.inputs labels
      → Stands (site_of graph labels) (Cell m) (block_turns 0 (suc k.turns.n)) (λ t. k.before (block_turn t))
      → (let p = previous whole graph m k.turns.n in IsMade k.is_open k.inputs (all_of k) graph labels p.graph (Cell p.cell) (λ t. k.before (place_in k.turns t)))
  previous_made k m graph labels meet stands =
      let n = k.turns.n in
      let count : 0 + (n + 1) ≡ suc n = omega arith in
      let q = gate_runs true k.is_open k.inputs graph labels m 0 n 1 (suc n) (pattern ((n, true) ∷ (1, false) ∷ [])) (Truth false) (Truth true) k.before (pattern_two spell n 1) refl refl meet count stands in
      let p = previous whole graph m n in
      let each : (i : ℕ) → i < n → k.before (0 + block_turn ((0 + i) ∷ [])) ≡ k.before (place_in k.turns ((0 + i) ∷ [])) = λ i h.
      let z : 0 + (0 + i) ≡ 0 + i = omega arith in ap k.before z ∙ ap k.before (sym (lesser_first (0 + i) (n - 1) (omega (arith, h)))) in
      (q.0, q.1, q.2, subst (Gives (site_of p.graph q.0) p.cell) (stream_on 0 n (λ t. k.before (0 + block_turn t)) (λ t. k.before (place_in k.turns t)) each) q.3)

  previous_met_ok : (k : Block) (m : ℕ) (b : Building) (s : List Setting) (labels : List Label) (met : Option ℕ) → b.met.previous ≡ met → Good k b s labels
      → Stands (site_of b.graph labels) (Cell m) (block_turns 0 (suc k.turns.n)) (λ t. k.before (block_turn t))
      → IsBuilt k s b.graph labels (previous_met whole k.turns m b met) (λ t. k.before (place_in k.turns t))
  previous_met_ok k m b s labels (Some c) is good stands = outer_crossed k b s labels (Cell c) (λ t. k.before (place_in k.turns t)) good (good.tables.previous c is)
  previous_met_ok k m b s labels None is good stands =
      let q = previous_made k m b.graph labels good.meet stands in
      let p = previous whole b.graph m k.turns.n in
      let old = site_of b.graph labels in
      let new = site_of p.graph q.0 in
      let b' = with_previous b p in
      let t = tables_more k b.met old new q.1 good.tables in
      after k s b.graph p.graph labels q.0 (crossed whole 0 b' (Cell p.cell)) (λ t. k.before (place_in k.turns t)) q.1
      (outer_crossed k b' s q.0 (Cell p.cell) (λ t. k.before (place_in k.turns t)) (record {
        meet = q.2;
        arms = arms_more old new (all_of k) b.arms s q.1 good.arms;
        fits = fits_more old new k.outer k.made q.1 good.fits;
        frame = frame_more k old new k.turns.own q.1 good.frame;
        tables = record {
          index = t.index;
          previous = λ d h. subst (λ e. Stands new (Cell e) (all_of k) (λ t. k.before (place_in k.turns t))) (same_some p.cell d h) q.3;
          holds = t.holds;
          accesses = t.accesses;
        };
      }) q.3)

  previous_of_ok : (k : Block) (b : Building) (s : List Setting) (labels : List Label) (own : Option ℕ) → Good k b s labels → FrameStands k (site_of b.graph labels) own
      → IsBuilt k s b.graph labels (previous_of whole k.turns b own) (λ t. k.before (place_in k.turns t))
  previous_of_ok k b s labels (Some m) good stands = previous_met_ok k m b s labels b.met.previous refl good stands
  previous_of_ok k b s labels None good none = (labels, extends_same (site_of b.graph labels), good, λ t. none (place_in k.turns t))

  pub previous_ok : (k : Block) → Builds k (λ locals b. previous_built whole k.turns b) (λ here locals. here.previous)
  unfolding previous_built
  previous_ok k locals fs b s labels known good = previous_of_ok k b s labels k.turns.own good good.frame
