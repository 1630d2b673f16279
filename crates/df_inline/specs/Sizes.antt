-- How large a program in blocks is, with each call replaced by its arguments and the function's body.
use Rattle.std.specs.Prelude.{ℕ, suc, ◌+◌, max, List, [], ◌∷◌, map, reverse, if◌then◌else◌, bytes_eq}
use Rattle.df_values.specs.declared.kinds.Op.{Op}
use Rattle.df_syntax.specs.declared.tree.Named.{Named}
use Rattle.df_syntax.specs.declared.tree.Sort.{Sort}
use Rattle.df_syntax.specs.declared.tree.Expr.{Expr}
use Rattle.df_syntax.specs.declared.tree.Node.TheOpen.{Node-F}
use Rattle.df_syntax.specs.declared.program.Function.{Function}
use Rattle.df_syntax.specs.declared.piped.Body.{Body}
use Rattle.df_syntax.specs.declared.piped.Body.TheVariants as body
use Rattle.df_syntax.specs.declared.piped.Block.{Block}
use Rattle.df_syntax.specs.declared.piped.Piped.{Piped}
use Rattle.df_syntax.specs.Trees.{Layer, fold_tree}
use Rattle.df_syntax.specs.WellBuilt.{error_nesting, sort_nesting}
use Rattle.df_syntax.specs.Meaning.{Name}
use Rattle.df_inline.specs.declared.size.Size.{Size}

-- ---- sizes: nodes, and how many brackets stand one inside another

unfoldable pub nothing : Size
nothing = record { nodes = 0; brackets = 0 }

-- so many brackets, one inside another
unfoldable pub bracketed : ℕ → Size
bracketed n = record { nodes = 0; brackets = n }

-- one beside the other
unfoldable pub both : Size → Size → Size
both s t = record { nodes = s.nodes + t.nodes; brackets = max s.brackets t.brackets }

unfoldable pub one_more : Size → Size
one_more s = record { nodes = suc s.nodes; brackets = s.brackets }

-- inside one bracket
unfoldable pub inside : Size → Size
inside s = record { nodes = s.nodes; brackets = suc s.brackets }

abbrev pub beside : List Size → Size
beside [] = nothing
beside (s ∷ sizes) = both s (beside sizes)

-- ---- expressions

-- each operator of a chain counts as a node
abbrev pub links_size : List (Op × Size) → List Size
links_size rest = map (λ (l : Op × Size). one_more l.1) rest

abbrev pub arms_size : List (Size × Size) → List Size
arms_size arms = map (λ (a : Size × Size). both a.0 a.1) arms

-- a definition counts as a node, and its type may have a bracket
abbrev pub definitions_size : List (Named × Sort × Size) → List Size
definitions_size definitions = map (λ (d : Named × Sort × Size). one_more (both (bracketed (sort_nesting d.1)) d.2)) definitions

-- an assignment counts as a definition
abbrev pub assigns_size : List (Named × Size) → List Size
assigns_size assigns = map (λ (a : Named × Size). one_more a.1) assigns

-- A node counts one. The brackets are those of its text: a `for` has an `if` inside, and an `elseif` is one arm more. A call counts
-- its arguments and what stands in its place, inside its one bracket.
abbrev pub node_size : (Name → Size) → Layer Size → Size
node_size of_call (Node-F.Number v) = one_more nothing
node_size of_call (Node-F.Truth v) = one_more nothing
node_size of_call (Node-F.Error v basic) = one_more (bracketed (error_nesting v))
node_size of_call (Node-F.Name name) = one_more nothing
node_size of_call (Node-F.Access name at) = one_more (inside at)
node_size of_call (Node-F.Call name arguments) = one_more (inside (both (beside arguments) (of_call name)))
node_size of_call (Node-F.Chain first rest) = one_more (both first (beside (links_size rest)))
node_size of_call (Node-F.Compare rel left right) = one_more (both left right)
node_size of_call (Node-F.Negate of) = one_more of
node_size of_call (Node-F.Invert of) = one_more of
node_size of_call (Node-F.Parens of) = one_more (inside of)
node_size of_call (Node-F.Test test of) = one_more (inside of)
node_size of_call (Node-F.TwoPlace op left right) = one_more (inside (both left right))
node_size of_call (Node-F.If arms last) = one_more (inside (both (beside (arms_size arms)) last))
node_size of_call (Node-F.Let definitions values) = one_more (inside (both (beside (definitions_size definitions)) (beside values)))
node_size of_call (Node-F.Construct index low high elem) = one_more (inside (both (inside (both low high)) elem))
node_size of_call (Node-F.Fold index low high op elem) = one_more (inside (both (inside (both low high)) elem))
node_size of_call (Node-F.For definitions test assigns last) =
    one_more (inside (both (beside (definitions_size definitions)) (inside (both test (both (beside (assigns_size assigns)) last)))))
node_size of_call (Node-F.Array at value) = one_more (inside (both at value))
node_size of_call (Node-F.Update name at value) = one_more (inside (both at value))

unfoldable pub expr_size : (Name → Size) → Expr → Size
expr_size of_call = fold_tree Size (λ place node. node_size of_call node)

-- ---- calls

-- the size of the only value of a body
abbrev pub only_size : (Expr → Size) → List Expr → Size
only_size size (value ∷ []) = size value
only_size size _ = nothing

-- The size of what stands in place of a call, from the last function to the first: a body may call the functions before its own.
abbrev pub call_size : List Function → Name → Size
call_size [] name = nothing
call_size (f ∷ before) name = if bytes_eq f.name.name name then only_size (expr_size (call_size before)) f.values else call_size before name

-- ---- programs

-- a block other than a scalar is a node with a bracket
abbrev pub body_size : (Name → Size) → Body → Size
body_size of_call (body.Construct index lo n elem) = one_more (inside (expr_size of_call elem))
body_size of_call (body.Fold index op lo n elem) = one_more (inside (expr_size of_call elem))
body_size of_call (body.Recur index array lo n first elem) = one_more (inside (both (expr_size of_call first) (expr_size of_call elem)))
body_size of_call (body.Scalar expr) = expr_size of_call expr

abbrev pub blocks_size : (Name → Size) → List Block → Size
blocks_size of_call blocks = beside (map (λ (b : Block). body_size of_call b.body) blocks)

unfoldable pub piped_size : Piped → Size
piped_size p = blocks_size (call_size (reverse p.functions)) p.blocks
