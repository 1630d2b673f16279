-- What `inline` answers, and what that says of the program.
use Rattle.std.specs.Prelude.{ℕ, ◌≡◌, ◌<◌, ◌≤◌, Result, Ok, Err, ⊤}
use Rattle.df_syntax.specs.declared.piped.Piped.{Piped}
use Rattle.df_core.specs.declared.flat.Flat.{Flat}
use Rattle.df_inline.specs.declared.answers.InlineAnswer.{InlineAnswer}
use Rattle.df_inline.specs.declared.answers.InlineAnswer.TheVariants as a
use Rattle.df_inline.specs.declared.size.Size.{Size}
use Rattle.df_flattened.specs.Flattened.{flattened}
use Rattle.df_inline.specs.Sizes.{piped_size}

-- With at most so many nodes, and so many brackets one inside another, it is the flat program. Too many nodes come
-- before too many brackets; only want of memory says nothing.
abbrev pub Inlines : ℕ → ℕ → Piped → Result Flat InlineAnswer → Type 0
Inlines nodes brackets p (Ok flat) = (flat ≡ flattened p) × ((piped_size p).nodes ≤ nodes) × ((piped_size p).brackets ≤ brackets)
Inlines nodes brackets p (Err a.TooLarge) = nodes < (piped_size p).nodes
Inlines nodes brackets p (Err a.TooTall) = ((piped_size p).nodes ≤ nodes) × (brackets < (piped_size p).brackets)
Inlines nodes brackets p (Err a.Memory) = ⊤

-- the same of a size as it is counted
abbrev pub Limits : ℕ → ℕ → Size → Result (Unit {0}) InlineAnswer → Type 0
Limits nodes brackets size (Ok _) = (size.nodes ≤ nodes) × (size.brackets ≤ brackets)
Limits nodes brackets size (Err a.TooLarge) = nodes < size.nodes
Limits nodes brackets size (Err a.TooTall) = (size.nodes ≤ nodes) × (brackets < size.brackets)
Limits nodes brackets size (Err a.Memory) = ⊥
