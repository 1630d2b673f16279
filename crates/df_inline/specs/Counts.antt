-- Sizes as they are counted.
use Rattle.std.specs.Prelude.{◌≡◌, ◌^◌, ◌-◌, min, List, map}
use Rattle.df_syntax.specs.declared.tree.Link.{Link}
use Rattle.df_syntax.specs.declared.tree.Arm.{Arm}
use Rattle.df_syntax.specs.declared.tree.Assign.{Assign}
use Rattle.df_syntax.specs.declared.tree.Definition.{Definition}
use Rattle.df_syntax.specs.WellBuilt.{sort_nesting}
use Rattle.df_syntax.specs.Meaning.{Name}
use Rattle.df_inline.specs.declared.size.Size.{Size}
use Rattle.df_inline.specs.declared.table.Table.{Table}
use Rattle.df_inline.specs.Tables.{size_in}
use Rattle.df_inline.specs.Sizes.{bracketed, both, one_more, beside, expr_size}

-- a size whose counts stand still at the end of their type
unfoldable pub saturated : Size → Size
saturated s = record { nodes = min s.nodes (2 ^ 32 - 1); brackets = min s.brackets (2 ^ 32 - 1) }

-- a table that has the counted size of what stands in place of each call
abbrev pub Holds : Table → (Name → Size) → Type 0
Holds table of_call = (name : Name) → size_in table name ≡ saturated (of_call name)

-- the count is that of a size, where the table has the sizes of the calls in it
abbrev pub Counts : Table → Size → ((Name → Size) → Size) → Type 0
Counts table counted exact = (of_call : Name → Size) → Holds table of_call → counted ≡ saturated (exact of_call)

-- ---- lists of parts

abbrev pub links_of : (Name → Size) → List Link → Size
links_of of_call links = beside (map (λ (l : Link). one_more (expr_size of_call l.operand)) links)

abbrev pub arms_of : (Name → Size) → List Arm → Size
arms_of of_call arms = beside (map (λ (a : Arm). both (expr_size of_call a.test) (expr_size of_call a.value)) arms)

abbrev pub definitions_of : (Name → Size) → List Definition → Size
definitions_of of_call definitions = beside (map (λ (d : Definition). one_more (both (bracketed (sort_nesting d.sort)) (expr_size of_call d.value))) definitions)

abbrev pub assigns_of : (Name → Size) → List Assign → Size
assigns_of of_call assigns = beside (map (λ (a : Assign). one_more (expr_size of_call a.value)) assigns)
