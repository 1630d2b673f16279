-- Expressions without the parentheses around them.
use Rattle.std.proofs.Common.{◌≡◌, refl, ◌∙◌, ap}
use Rattle.df_syntax.specs.declared.tree.Expr.{Expr}
use Rattle.df_syntax.specs.declared.tree.Node.{out-Node}
use Rattle.df_syntax.specs.declared.tree.Node.TheVariants as n
use Rattle.df_syntax.specs.declared.tree.Node.TheOpen.{Node-F}
use Rattle.df_syntax.specs.Trees.{Opened, layer_of}
use Rattle.df_syntax.specs.Besides.{beside_rolled}
use Rattle.df_syntax.specs.SourceForms.{bare, without_parens}
use Rattle.df_shape.proofs.Opened.{rolled_from, is_parens}
use Rattle.df_shape.proofs.Opened as opened

bare_at : (e : Expr) (x : Opened) → out-Node e.node ≡ x → bare e ≡ without_parens e (layer_of (Expr × Expr) (λ c. (c, bare c)) x)
unfolding bare
bare_at e x is =
    beside_rolled Expr without_parens e (out-Node e.node) (rolled_from e.node)
    ∙ ap (λ (y : Opened). without_parens e (layer_of (Expr × Expr) (λ c. (c, bare c)) y)) is

pub parens : (e : Expr) (of : Expr) → e.node ≡ n.Parens of → bare e ≡ bare of
parens e of is = bare_at e (Node-F.Parens of) (opened.parens e.node of is)

plain_at : (f : Expr → Expr) (e : Expr) (x : Opened) → ((of : Expr) → x ≡ Node-F.Parens of → ⊥) → without_parens e (layer_of (Expr × Expr) (λ c. (c, f c)) x) ≡ e
plain_at f e (Node-F.Parens of) p = absurd (p of refl)
plain_at f e x p = refl

-- what has no parentheses around it is itself
pub plain : (e : Expr) → ((of : Expr) → e.node ≡ n.Parens of → ⊥) → bare e ≡ e
plain e p = bare_at e (out-Node e.node) refl ∙ plain_at bare e (out-Node e.node) (λ of is. p of (is_parens e.node of is))
