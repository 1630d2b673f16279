-- What it is for blocks to be built to what they mean.
use Rattle.std.specs.Prelude.{List, fold}
use Rattle.df_core.specs.declared.flat.Block.{Block}
use Rattle.df_core.specs.Meaning.{Made, with_block}
use Rattle.df_build_cond.specs.Growth.{whole}
use Rattle.df_build_elem.specs.Program.{Laid, laid_block}
use Rattle.df_meant.specs.Sites.{Ends, Label, site_of, Meeting}
use Rattle.df_meant.specs.Builds.{Fits}
use Rattle.df_meant.specs.SameGraph.{no_open}

-- Blocks are built to what they mean: where labels meet the graph before them, and what stands outside stands for what was made,
-- this is so after them.
abbrev pub BlocksAreMeant : Type 0
BlocksAreMeant = (inputs : Ends) (made : List Made) (blocks : List Block) (laid : Laid) (labels : List Label)
    → Meeting no_open laid.graph inputs labels → Fits (site_of laid.graph labels) laid.outer made
    → (let s = fold (laid_block whole) laid blocks in (more : List Label) × Meeting no_open s.graph inputs more × Fits (site_of s.graph more) s.outer (fold with_block made blocks))
