-- That a balance of few cells can be placed, and that its refusal speaks of every numbering.
use Rattle.std.proofs.Common.{◌≡◌, ℕ, ◌≤◌, ℤ, pos, ◌+ℤ◌, ◌≤ℤ◌, ◌<ℤ◌, not, List, length, refl, sym, ap, ◌∙◌, subst, arith}
use Rattle.std.specs.Prelude.{All}
use Rattle.std.specs.List.{range_with_len}
use Rattle.std.proofs.lemmas.Int.{ints}
use Rattle.std.proofs.lemmas.List.{length-map}
use Rattle.std.proofs.lemmas.List.FromFn.{length-range_with_len}
use Rattle.std.proofs.lemmas.List.Filters.{length-filter_both}
use Rattle.df_cells.specs.declared.cells.Cell.{Cell}
use Rattle.df_cells.specs.WellFormed.{WellFormed}
use Rattle.df_stages.specs.declared.skeleton.SkeletonArc.{SkeletonArc}
use Rattle.df_stages.specs.SkeletonLists.{SkeletonLists}
use Rattle.df_stages.specs.Nodes.{is_node}
use Rattle.df_stages.specs.Skeletons.{nodes, arcs, cell_id, skeleton_of, IsSkeleton}
use Rattle.df_stages.specs.Flows.{Respects, total_excess, IsDualFlow, flow_value}
use Rattle.df_stages.specs.Laws.{IsWeaklyDual}
use Rattle.df_cancel.specs.Balances.{numbered, IsBalance, IsTight}
use Rattle.df_labels.specs.Graphs.{Graph, node_of, graph_of}
use Rattle.df_core.specs.declared.flat.Flat.{Flat}
use Rattle.df_build_elem.specs.Program.{program_graph, census}
use Rattle.df_labels.specs.Finishing.{HasNoBuffers}
use Rattle.df_buffers_laws.specs.Laws.{SameSkeletons}
use Rattle.df_compile.specs.Placed.{most_cells, IsOver}
use Rattle.df_compile.specs.Compiled.{most_skeleton_cells, IsOverfull}

-- there are no more nodes than cells
few_nodes : (cells : List Cell) → length (nodes cells) ≤ length cells
few_nodes cells =
    let all = range_with_len 0 (length cells) in
    let both = length-filter_both (is_node cells) (λ c. not (is_node cells c)) (λ c. refl) all in
    let long = length-range_with_len 0 (length cells) in
    omega arith

module _ (cells : List Cell) (skeleton : IsSkeleton (length (nodes cells)) (arcs cells)) (stages : List ℤ) (flow : List ℕ) where
  small : length cells ≤ 4096 → IsBalance (skeleton_of cells) stages flow → All (λ stage. stage ≤ℤ pos 4000000000) stages
  small few balance k d h =
      let long : length (skeleton_of cells).nodes ≡ length (nodes cells) = length-map (nodes cells) cell_id in
      let within = few_nodes cells in
      let bound = balance.bound 131071 skeleton.weights k d h in
      omega (arith, ints)

  over : IsWeaklyDual → IsBalance (skeleton_of cells) stages flow → IsTight (skeleton_of cells) stages flow
      → pos most_cells <ℤ (pos (length cells) +ℤ total_excess (numbered stages) (arcs cells)) → IsOver cells
  over weak balance tight large numbers respects =
      let dual : IsDualFlow (length (nodes cells)) (arcs cells) flow = subst (λ n. IsDualFlow n (arcs cells) flow) (length-map (nodes cells) cell_id) balance.dual in
      let least = weak numbers (length (nodes cells)) (arcs cells) flow skeleton.ends dual respects in
      let equal : total_excess (numbered stages) (arcs cells) ≡ flow_value (arcs cells) flow = tight.equal in
      omega (arith, ints)

pub few_counted : (flat : Flat) (cells : List Cell) → graph_of cells ≡ program_graph flat → length cells ≤ 4096 → census flat ≤ most_skeleton_cells
few_counted flat cells graph few =
    let long : census flat ≡ length cells = ap (λ (g : Graph). length g) (sym graph) ∙ length-map cells node_of in
    omega arith

-- the same of the skeleton that was made of the cells
pub small_stages : (cells : List Cell) (s : SkeletonLists) (stages : List ℤ) (flow : List ℕ) → s ≡ skeleton_of cells → IsSkeleton (length (nodes cells)) (arcs cells) → length cells ≤ 4096
    → IsBalance s stages flow → All (λ stage. stage ≤ℤ pos 4000000000) stages
small_stages cells s stages flow is skeleton few balance = small cells skeleton stages flow few (subst (λ t. IsBalance t stages flow) is balance)

pub over_always : IsWeaklyDual → (cells : List Cell) (s : SkeletonLists) (stages : List ℤ) (flow : List ℕ) → s ≡ skeleton_of cells → IsSkeleton (length (nodes cells)) (arcs cells)
    → IsBalance s stages flow → IsTight s stages flow → pos most_cells <ℤ (pos (length cells) +ℤ total_excess (numbered stages) s.arcs) → IsOver cells
over_always weak cells s stages flow is skeleton balance tight large =
    over cells skeleton stages flow weak (subst (λ t. IsBalance t stages flow) is balance) (subst (λ t. IsTight t stages flow) is tight)
    (subst (λ (t : SkeletonLists). pos most_cells <ℤ (pos (length cells) +ℤ total_excess (numbered stages) t.arcs)) is large)

-- all cells of one graph are too many, or none
abbrev TooMany : ℕ → List SkeletonArc → Type 0
TooMany n list = (numbers : ℕ → ℤ) → Respects numbers list → pos most_cells <ℤ (pos n +ℤ total_excess numbers list)

pub not_overfull : SameSkeletons → (flat : Flat) (cells : List Cell) → graph_of cells ≡ program_graph flat → WellFormed cells → HasNoBuffers cells → ¬ IsOver cells → ¬ IsOverfull flat
not_overfull same flat cells graph well_formed plain room o =
    let one : graph_of o.cells ≡ graph_of cells = o.graph ∙ sym graph in
    let long : length o.cells ≡ length cells = sym (length-map o.cells node_of) ∙ ap (λ (g : Graph). length g) one ∙ length-map cells node_of in
    room (subst (λ list. TooMany (length cells) list) (same o.cells cells o.well_formed well_formed o.plain plain one) (subst (λ n. TooMany n (arcs o.cells)) long o.over))
