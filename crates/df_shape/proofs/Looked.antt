-- The demands on an expression, by its node.
use Rattle.std.proofs.Common.{◌≡◌, ◌∙◌, ap, ◌++◌}
use Rattle.df_syntax.specs.declared.tree.Expr.{Expr}
use Rattle.df_syntax.specs.declared.tree.Node.{out-Node}
use Rattle.df_syntax.specs.Trees.{Layer}
use Rattle.df_syntax.specs.Besides.{beside_rolled}
use Rattle.df_syntax.proofs.MadeNodes.{layer_behind}
use Rattle.df_shape.specs.Demands.{Around, Look, own_demands, inner_demands, look_node, demands_of}
use Rattle.df_shape.specs.Walks.{plain, with_looks}
use Rattle.df_shape.proofs.Opened.{rolled_from}

-- the rules on the node, and then what is demanded inside
pub demands_are : (e : Expr) (around : Around) → demands_of e around ≡ own_demands around e (plain e) ++ inner_demands around (with_looks e)
unfolding demands_of
demands_are e around =
    ap (λ (look : Look). look around) (beside_rolled Look look_node e (out-Node e.node) (rolled_from e.node))
    ∙ ap (λ (y : Layer Expr). own_demands around e y ++ inner_demands around (with_looks e)) (layer_behind (Expr × Look) Expr (λ c. (c, demands_of c)) (λ p. p.0) (out-Node e.node))
