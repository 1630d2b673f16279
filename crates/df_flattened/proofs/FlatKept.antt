-- The flat program of a program in blocks is within the bounds.
use Rattle.std.proofs.Common.{arith, ℕ, zero, suc, ◌+◌, List, [], ◌∷◌, length, reverse}
use Rattle.df_names.specs.Maps.{Names, nothing}
use Rattle.df_syntax.specs.declared.tree.Expr.{Expr}
use Rattle.df_syntax.specs.declared.program.Function.{Function}
use Rattle.df_syntax.specs.declared.piped.Body as piped
use Rattle.df_syntax.specs.declared.piped.Body.TheVariants as body
use Rattle.df_syntax.specs.declared.piped.Block as piped_block
use Rattle.df_syntax.specs.WellShaped as shaped
use Rattle.df_core.specs.declared.terms.Term.{Term}
use Rattle.df_core.specs.Within as core
use Rattle.df_flattened.specs.Flattened.{Standing, Scope, flatten, bodies, body_flattened, standing_of, bind_some, blocks_flattened, inputs_bound, flattened}
use Rattle.df_flattened.specs.Law.{LoweredProgramsAreFlat}
use Rattle.df_flattened.proofs.NoLoops.{body_plain}

body_range : (lower : Expr → Scope → Term) (names : Names Standing) (b : piped.Body) → shaped.HasRange b → core.HasRange (body_flattened lower names b)
body_range lower names (body.Construct index lo n elem) range = range
body_range lower names (body.Fold index op lo n elem) range = range
body_range lower names (body.Recur index array lo n first elem) range = range
body_range lower names (body.Scalar e) range = tt

blocks_range : (lower : Expr → Scope → Term) (names : Names Standing) (number : ℕ) (blocks : List piped_block.Block) → shaped.HaveRanges blocks → core.HaveRanges (blocks_flattened lower names number blocks)
blocks_range lower names number [] ranges k d below = absurd (omega (arith, below))
blocks_range lower names number (block ∷ blocks) ranges zero d below = body_range lower names block.body (ranges 0 block (omega arith))
blocks_range lower names number (block ∷ blocks) ranges (suc k) d below =
    blocks_range lower (bind_some names block.name (standing_of number block.body)) (number + 1) blocks (λ j e under. ranges (suc j) e (omega (arith, under))) k d (omega (arith, below))

blocks_plain : (functions : List Function) (names : Names Standing) (number : ℕ) (blocks : List piped_block.Block) → core.AreLoopless (blocks_flattened (flatten (bodies functions)) names number blocks)
blocks_plain functions names number [] k d below = absurd (omega (arith, below))
blocks_plain functions names number (block ∷ blocks) zero d below = body_plain functions names block.body
blocks_plain functions names number (block ∷ blocks) (suc k) d below =
    blocks_plain functions (bind_some names block.name (standing_of number block.body)) (number + 1) blocks k d (omega (arith, below))

pub flat : LoweredProgramsAreFlat
unfolding flattened
flat p fit = record {
  differ = fit.differ;
  extents = fit.extents;
  ranges = blocks_range (flatten (bodies (reverse p.functions))) (inputs_bound nothing 0 p.parameters) (length p.parameters) p.blocks fit.ranges;
  loopless = blocks_plain (reverse p.functions) (inputs_bound nothing 0 p.parameters) (length p.parameters) p.blocks;
}
