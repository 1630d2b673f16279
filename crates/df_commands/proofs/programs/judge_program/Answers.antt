use Rattle.std.proofs.Common.{◌≡◌, ◌≤◌, ◌∙◌, ℕ, List, ap, subst}
use Rattle.std.specs.Prelude.{All}
use Rattle.std.proofs.lemmas.Result.{err_from_is_err_and}
use Rattle.df_values.specs.Inputs.{HasExtent}
use Rattle.df_values.specs.declared.inputs.Input.{Input}
use Rattle.df_syntax.specs.declared.piped.Piped.{Piped}
use Rattle.df_syntax.specs.WellShaped.{HaveRanges}
use Rattle.df_syntax.specs.TokenList.{TokenList}
use Rattle.df_syntax.specs.Refusals.{IsSource}
use Rattle.df_syntax.specs.declared.program.Program.{Program}
use Rattle.df_core.specs.declared.flat.Flat.{Flat}
use Rattle.df_shape.specs.Shaped.{shaped}
use Rattle.df_flattened.specs.Flattened.{flattened}
use Rattle.df_flattened.specs.Law.{LoweredProgramsAreFlat}
use Rattle.df_build_elem.specs.Program.{census}
use Rattle.df_compile.specs.Compiled.{most_skeleton_cells}
use Rattle.df_commands.specs.Laws.{AcceptedSourcesBindNewNames, AcceptedSourcesKeepTheirDemands}
use Rattle.df_commands.specs.Ready.{IsFlatOf}
use Rattle.df_commands.specs.ProgramTexts.{HasTokens, IsSized, IsTextOfTree}
use Rattle.df_commands.proofs.ProgramReadings.{no_tokens_read, no_tree_read, demand_fails, form_fails, size_fails, cells_fail, sized_tree}
use Rattle.df_commands.proofs.SourcesMeant.{flat_of_source}
use Rattle.df_commands.proofs.programs.judge_program.Goals as goal

pub returns-in_err-tokens-clause-reads : goal.returns-in_err-tokens-clause-reads
returns-in_err-tokens-clause-reads c =
    let p = err_from_is_err_and c.from_residual.result c.from_residual.ensures.1 in
    rw (p.1, p.2) (no_tokens_read c.args.text.now c.in_err-tokens.field-0.0 c.in_err-tokens.ensures)

pub returns-in_err-tree-clause-reads : goal.returns-in_err-tree-clause-reads
returns-in_err-tree-clause-reads c =
    let p = err_from_is_err_and c.from_residual-in_err-tree.result c.from_residual-in_err-tree.ensures.1 in
    rw (p.1, p.2) (no_tree_read c.args.text.now c.in_ok-tokens.tokens c.in_err-tree.field-0.0 c.in_ok-tokens.ensures c.in_err-tree.ensures)

pub returns-in_err-check_tree-clause-reads : goal.returns-in_err-check_tree-clause-reads
returns-in_err-check_tree-clause-reads c =
    let p = err_from_is_err_and c.from_residual-in_err-check_tree.result c.from_residual-in_err-check_tree.ensures.1 in
    let is : IsTextOfTree c.args.text.now c.in_ok-tree.tree = record { list = c.in_ok-tokens.tokens; tokens = c.in_ok-tokens.ensures; source = c.in_ok-tree.ensures } in
    rw (p.1, p.2) (demand_fails c.args.text.now c.in_ok-tree.tree c.in_err-check_tree.field-0.0 is c.in_err-check_tree.ensures)

pub returns-in_err-piped-clause-reads : goal.returns-in_err-piped-clause-reads
returns-in_err-piped-clause-reads c =
    let p = err_from_is_err_and c.from_residual-in_err-piped.result c.from_residual-in_err-piped.ensures.1 in
    let is : IsTextOfTree c.args.text.now c.in_ok-tree.tree = record { list = c.in_ok-tokens.tokens; tokens = c.in_ok-tokens.ensures; source = c.in_ok-tree.ensures } in
    rw (p.1, p.2) (form_fails c.args.text.now c.in_ok-tree.tree c.in_err-piped.field-0.0 is c.in_ok-check_tree.ensures c.in_err-piped.ensures.reads)

pub returns-in_err-flat-clause-reads : goal.returns-in_err-flat-clause-reads
returns-in_err-flat-clause-reads c =
    let p = err_from_is_err_and c.from_residual-in_err-flat.result c.from_residual-in_err-flat.ensures.1 in
    let is : IsTextOfTree c.args.text.now c.in_ok-tree.tree = record { list = c.in_ok-tokens.tokens; tokens = c.in_ok-tokens.ensures; source = c.in_ok-tree.ensures } in
    rw (p.1, p.2) (size_fails c.args.text.now c.in_ok-tree.tree c.in_ok-piped.piped c.in_err-flat.field-0.0 is c.in_ok-check_tree.ensures c.in_ok-piped.ensures.reads c.in_err-flat.ensures)

-- the tree, and what is known of it before its cells are counted
abbrev is_text : (text : List ℕ) (tree : Program) (list : TokenList) → HasTokens text list → IsSource list tree → IsTextOfTree text tree
is_text text tree list tokens source = record { list = list; tokens = tokens; source = source }

flat_here : LoweredProgramsAreFlat → AcceptedSourcesBindNewNames → AcceptedSourcesKeepTheirDemands → (text : List ℕ) (tree : Program) (piped : Piped) (flat : Flat) → IsTextOfTree text tree → IsSized tree
    → piped ≡ shaped tree → HaveRanges piped.blocks → All (λ (i : Input). HasExtent i.extent) piped.parameters → flat ≡ flattened piped → IsFlatOf tree flat
flat_here within new keep text tree piped flat is sized shape ranges extents lowered =
    flat_of_source within tree piped flat (new text tree is sized) sized
    (keep text tree is sized (subst (λ (p : Piped). HaveRanges p.blocks) shape ranges) (subst (λ (p : Piped). All (λ (i : Input). HasExtent i.extent) p.parameters) shape extents)) shape lowered

pub count_cells-requires : goal.count_cells-requires
count_cells-requires c =
    let is = is_text c.args.text.now c.in_ok-tree.tree c.in_ok-tokens.tokens c.in_ok-tokens.ensures c.in_ok-tree.ensures in
    let sized = sized_tree c.in_ok-tree.tree c.in_ok-piped.piped c.in_ok-check_tree.ensures c.in_ok-piped.ensures.reads c.in_ok-flat.ensures.1 in
    (flat_here c.lowered_programs_are_flat.ensures c.accepted_sources_bind_new_names.ensures c.accepted_sources_keep_their_demands.ensures c.args.text.now c.in_ok-tree.tree c.in_ok-piped.piped c.in_ok-flat.flat is sized
    c.in_ok-piped.ensures.reads.is c.in_ok-piped.ensures.ranges c.in_ok-piped.ensures.extents c.in_ok-flat.ensures.0).bounds.ranges

pub returns-in_err-count_cells-clause-reads : goal.returns-in_err-count_cells-clause-reads
returns-in_err-count_cells-clause-reads c =
    let p = err_from_is_err_and c.from_residual-in_err-count_cells.result c.from_residual-in_err-count_cells.ensures.1 in
    let is = is_text c.args.text.now c.in_ok-tree.tree c.in_ok-tokens.tokens c.in_ok-tokens.ensures c.in_ok-tree.ensures in
    let sized = sized_tree c.in_ok-tree.tree c.in_ok-piped.piped c.in_ok-check_tree.ensures c.in_ok-piped.ensures.reads c.in_ok-flat.ensures.1 in
    rw (p.1, p.2) (cells_fail c.args.text.now c.in_ok-tree.tree c.in_ok-flat.flat c.in_err-count_cells.field-0.0 is sized (c.in_ok-flat.ensures.0 ∙ ap flattened c.in_ok-piped.ensures.reads.is) c.in_err-count_cells.ensures.few)

pub returns-clause-reads : goal.returns-clause-reads
returns-clause-reads c =
    let sized = sized_tree c.in_ok-tree.tree c.in_ok-piped.piped c.in_ok-check_tree.ensures c.in_ok-piped.ensures.reads c.in_ok-flat.ensures.1 in
    let same = c.in_ok-flat.ensures.0 ∙ ap flattened c.in_ok-piped.ensures.reads.is in (
      is_text c.args.text.now c.in_ok-tree.tree c.in_ok-tokens.tokens c.in_ok-tokens.ensures c.in_ok-tree.ensures,
      record { sized = sized; few = subst (λ f. census f ≤ most_skeleton_cells) same c.in_ok-count_cells.ensures.few },
    )

pub returns-clause-flat : goal.returns-clause-flat
returns-clause-flat c =
    let is = is_text c.args.text.now c.in_ok-tree.tree c.in_ok-tokens.tokens c.in_ok-tokens.ensures c.in_ok-tree.ensures in
    let sized = sized_tree c.in_ok-tree.tree c.in_ok-piped.piped c.in_ok-check_tree.ensures c.in_ok-piped.ensures.reads c.in_ok-flat.ensures.1 in
    flat_here c.lowered_programs_are_flat.ensures c.accepted_sources_bind_new_names.ensures c.accepted_sources_keep_their_demands.ensures c.args.text.now c.in_ok-tree.tree c.in_ok-piped.piped c.in_ok-flat.flat is sized
    c.in_ok-piped.ensures.reads.is c.in_ok-piped.ensures.ranges c.in_ok-piped.ensures.extents c.in_ok-flat.ensures.0
