-- Parentheses around an expression change nothing of what is asked of it and told by it.
use Rattle.std.proofs.Common.{◌≡◌, refl, sym, ◌∙◌, subst}
use Rattle.df_syntax.specs.declared.tree.Expr.{Expr}
use Rattle.df_syntax.specs.declared.tree.Node.{roll-Node}
use Rattle.df_syntax.specs.declared.tree.Node.TheOpen.{Node-F}
use Rattle.df_syntax.specs.declared.tree.Node.TheVariants as n
use Rattle.df_syntax.specs.SourceForms.{bare}
use Rattle.df_syntax.specs.Trees.{Opened}
use Rattle.df_syntax.specs.TreeInduction.{Proved, without, tree_induction}
use Rattle.df_shape.proofs.Opened.{opened}
use Rattle.df_shape.proofs.Opened as node
use Rattle.df_shape.proofs.Bare as bare_of

-- an expression with no parentheses around it is itself
bare_plain : (e : Expr) (x : Opened) → e.node ≡ roll-Node x → ((of : Expr) → x ≡ Node-F.Parens of → ⊥) → bare e ≡ e
bare_plain e x is apart = bare_of.plain e (λ of at. apart of (sym (opened e.node x is) ∙ node.parens e.node of at))

-- what parentheses keep holds of what stands in them
pub bare_keeps : (P : Expr → Type 0) → ((e of : Expr) → e.node ≡ roll-Node (Node-F.Parens of) → P e → P of) → (e : Expr) → P e → P (bare e)
bare_keeps P inside = tree_induction (λ e. P e → P (bare e)) step
  where
    plain : (e : Expr) (x : Opened) → e.node ≡ roll-Node x → ((of : Expr) → x ≡ Node-F.Parens of → ⊥) → P e → P (bare e)
    plain e x is apart h = subst P (sym (bare_plain e x is apart)) h

    step : (e : Expr) (y : Proved (λ e. P e → P (bare e))) → e.node ≡ roll-Node (without (λ e. P e → P (bare e)) y) → P e → P (bare e)
    step e (Node-F.Parens of) is h = subst P (sym (bare_of.parens e of.0 (is ∙ n.rolls-Parens of.0))) (of.1 (inside e of.0 is h))
    step e y is h = plain e (without (λ e. P e → P (bare e)) y) is (λ of q. cc) h

-- what is the same of an expression in parentheses is the same of what stands in them
pub bare_same : {A : Type 0} (f : Expr → A) → ((e of : Expr) → e.node ≡ roll-Node (Node-F.Parens of) → f e ≡ f of) → (e : Expr) → f e ≡ f (bare e)
bare_same f same e = bare_keeps (λ d. f e ≡ f d) (λ d of is h. h ∙ same d of is) e refl
