-- What the steps of the code give, together.
use Rattle.std.proofs.Common.{◌≡◌, ℕ, ◌+◌, ◌<◌, ◌≤◌, ℤ, pos, List, length, sym, ap, ◌∙◌, arith}
use Rattle.std.specs.Prelude.{slice_get}
use Rattle.df_cells.specs.declared.cells.Cell.{Cell}
use Rattle.df_cells.specs.declared.cells.Dest.{Dest}
use Rattle.df_cells.specs.declared.cells.Feed.{Feed}
use Rattle.df_cells.specs.Cells.{cell_from, port_of, AreCells}
use Rattle.df_cells.specs.Paths.{HasMarks}
use Rattle.df_cells.specs.WellFormed.{NamesWithin, ListsItsArcs}
use Rattle.df_stages.specs.Skeletons.{arcs}
use Rattle.df_labels.specs.Graphs.{Graph, graph_of}
use Rattle.df_buffers_laws.specs.Insertions.{ports_to_buffer, inserted, buffered}
use Rattle.df_buffers_laws.specs.Buffered.{IsBuffered}
use Rattle.df_buffers_laws.specs.Staged.{HasStages}
use Rattle.df_buffers_laws.specs.Placed.{AreMade}
use Rattle.df_buffers.specs.Staging.{AreNodeStages, AreBufferStages, IsBehind, StagedSoFar}
use Rattle.df_buffers.proofs.StagesKept.{same_producer, same_mark, same_graph, stage_is, names_stay, lists_stay, marks_stay}

pub made_graph : (old made : List Cell) (numbers : ℕ → ℤ) (start built : Graph) (ports : List Dest)
    → graph_of made ≡ built
    → built ≡ inserted start ports → start ≡ graph_of old → ports ≡ ports_to_buffer (arcs old) numbers
    → graph_of made ≡ buffered (graph_of old) (arcs old) numbers
made_graph old made numbers start built ports made_is built_is start_is ports_are =
    made_is ∙ built_is ∙ ap (λ g. inserted g ports) start_is ∙ ap (inserted (graph_of old)) ports_are

module _ (old made : List Cell) (count : Dest → ℕ) (is : IsBuffered old made count) where
  -- a BUF cell comes behind what feeds it
  pub behind : (b : ℕ) → length old ≤ b → b < length made → IsBehind made b
  behind b h l =
      let chain = is.chains b h l in
      (chain.0, ap (λ (ports : List Feed). cell_from (slice_get ports 0)) chain.1, chain.2)

  module _ (new : List Cell) (numbers : ℕ → ℤ) (first table : List ℕ)
      (nodes_are : AreNodeStages old numbers (length old) first)
      (buffers_are : AreBufferStages made first (length made) table)
      (staged : StagedSoFar made table (length made) new) where
    has_stages : HasStages old new numbers
    has_stages = record {
      cells = λ c h.
          let few = is.few in
          let long = nodes_are.count in
          ap pos (stage_is made new table staged c (omega arith) ∙ buffers_are.begins c (omega arith))
          ∙ nodes_are.each c h;
      buffers = λ b u h l fed.
          let count = staged.count in
          let long = nodes_are.count in
          let fed_made = sym (same_producer made new table staged (port_of b 0)) ∙ fed in
          stage_is made new table staged b (omega arith) ∙ buffers_are.each b u (omega arith) (omega arith) fed_made
          ∙ ap (λ n. n + 1) (sym (stage_is made new table staged u.0 (is.within b 0 u fed_made)));
    }

    pub are_made : graph_of made ≡ buffered (graph_of old) (arcs old) numbers
        → ((c : ℕ) → c < length made → NamesWithin made c)
        → ((c : ℕ) → c < length made → ListsItsArcs made c) → HasMarks made → AreCells new → AreMade old new numbers
    are_made graph names lists marks shaped =
        let long = staged.count in
        record {
          graph = same_graph made new table staged ∙ graph;
          shaped = shaped;
          port = λ c h. names_stay made new table staged c (names c (omega arith));
          dest = λ c h. lists_stay made new table staged c (lists c (omega arith));
          loop = marks_stay made new (same_producer made new table staged) (same_mark made new table staged) marks;
          staged = has_stages;
        }
