use Rattle.std.proofs.Common.{◌≡◌, ap, reverse}
use Rattle.df_syntax.specs.declared.piped.Piped.{Piped}
use Rattle.df_inline.specs.declared.size.Size.{Size}
use Rattle.df_inline.specs.declared.table.Table.{Table}
use Rattle.df_inline.specs.Sizes.{call_size, blocks_size, piped_size}
use Rattle.df_inline.specs.Counts.{saturated, Holds, Counts}
use Rattle.df_inline.proofs.inliner.size_of.Goals as goal

whole : (p : Piped) (table : Table) (size : Size) → Holds table (call_size (reverse p.functions)) → Counts table size (λ of_call. blocks_size of_call p.blocks) → size ≡ saturated (piped_size p)
unfolding piped_size
whole p table size h counts = counts (call_size (reverse p.functions)) h

pub returns-clause-nodes : goal.returns-clause-nodes
unfolding saturated
returns-clause-nodes c =
    ap (λ (s : Size). s.nodes) (whole c.args.piped.now c.args.table.now c.blocks-2.result c.requires (rw c.as_slice.ensures at c.blocks-2.ensures))

pub returns-clause-brackets : goal.returns-clause-brackets
unfolding saturated
returns-clause-brackets c =
    ap (λ (s : Size). s.brackets) (whole c.args.piped.now c.args.table.now c.blocks-2.result c.requires (rw c.as_slice.ensures at c.blocks-2.ensures))
