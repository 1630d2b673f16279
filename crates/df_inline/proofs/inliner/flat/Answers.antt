use Rattle.std.proofs.Common.{◌≡◌, ◌∙◌, ap, ap₂, ℕ, List, length, map, reverse}
use Rattle.df_values.specs.declared.inputs.Input.{Input}
use Rattle.df_syntax.specs.declared.piped.Piped.{Piped}
use Rattle.df_core.specs.declared.flat.Block.{Block}
use Rattle.df_core.specs.declared.flat.Flat.{Flat}
use Rattle.df_names.specs.Maps.{nothing}
use Rattle.df_flattened.specs.Flattened.{flatten, bodies, blocks_flattened, inputs_bound, number_of, flattened}
use Rattle.df_inline.proofs.inliner.flat.Goals as goal

abbrev made_of : List Input → List Block → List ℕ → Flat
made_of parameters blocks results = record { parameters = parameters; blocks = blocks; results = results }

by_parts : (p : Piped) (parameters : List Input) (blocks : List Block) (results : List ℕ) → parameters ≡ p.parameters
    → blocks ≡ blocks_flattened (flatten (bodies (reverse p.functions))) (inputs_bound nothing 0 p.parameters) (length p.parameters) p.blocks
    → results ≡ map (number_of (length p.parameters)) p.results → made_of parameters blocks results ≡ flattened p
unfolding flattened
by_parts p parameters blocks results one two three =
    ap₂ (λ (x : List Input) (y : List Block). made_of x y results) one two
    ∙ ap (made_of p.parameters (blocks_flattened (flatten (bodies (reverse p.functions))) (inputs_bound nothing 0 p.parameters) (length p.parameters) p.blocks)) three

pub returns : goal.returns
returns c =
    let p = c.args.piped.now in
    by_parts p _ _ _ (c.in_ok-from_slice.ensures ∙ c.as_slice-parameters.ensures)
    (c.blocks-3.view_is ∙ rw (c.in_ok-names.ensures, c.as_slice-parameters.ensures, c.as_slice.ensures, c.as_slice-2.ensures) at c.in_ok-blocks.ensures)
    (rw (c.as_slice-parameters.ensures, c.as_slice-3.ensures) at c.in_ok-numbers_of.ensures)
