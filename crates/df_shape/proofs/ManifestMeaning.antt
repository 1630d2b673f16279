-- The value of a manifest expression is its meaning, wherever the constants stand for their numbers.
use Rattle.std.proofs.Common.{◌≡◌, ℤ, Bool, true, false, if◌then◌else◌, List, [], ◌∷◌, map, refl, sym, ◌∙◌, ap, ap₂, subst, Option, Some, None, ◌⊎◌, inl, inr}
use Rattle.std.specs.List.{list_all}
use Rattle.df_values.specs.declared.values.Value.{Value}
use Rattle.df_values.specs.declared.kinds.Op.{Op}
use Rattle.df_values.specs.Tables.{answer, negation}
use Rattle.df_syntax.specs.declared.tree.Expr.{Expr}
use Rattle.df_syntax.specs.declared.tree.Link.{Link}
use Rattle.df_syntax.specs.declared.tree.Node.{roll-Node}
use Rattle.df_syntax.specs.declared.tree.Node.TheOpen.{Node-F}
use Rattle.df_syntax.specs.Trees.{Opened, layer_of, fold_rolled}
use Rattle.df_syntax.specs.TreeInduction.{Proved, without, tree_induction}
use Rattle.df_syntax.specs.Meaning.{Name, Env, Sense, sense, node_sense, value_of, ordinary, scalar, both, each, bound_at, joined}
use Rattle.df_syntax.proofs.Senses.{sense_rolled}
use Rattle.df_syntax.specs.SourceForms.{Numbers, number_value, is_arithmetic, joined_value, manifest_node, manifest_value, manifest}
use Rattle.df_syntax.specs.SourceMeaning.{number_of}

-- nothing, or this value
abbrev Below : Option Value → Option Value → Type 0
Below a b = (a ≡ None) ⊎ (a ≡ b)

both_below : (f : Value → Value → Value) (a b c d : Option Value) → Below a b → Below c d → Below (both f a c) (both f b d)
both_below f a b c d (inl none) q = inl (ap (λ x. both f x c) none)
both_below f a b c d (inr same) (inl none) = inl (ap (both f a) none ∙ no_right a)
  where
    no_right : (x : Option Value) → both f x None ≡ None
    no_right None = refl
    no_right (Some v) = refl
both_below f a b c d (inr same) (inr alike) = inr (ap₂ (both f) same alike)

each_below : (f : Value → Value) (a b : Option Value) → Below a b → Below (each f a) (each f b)
each_below f a b (inl none) = inl (ap (each f) none)
each_below f a b (inr same) = inr (ap (each f) same)

-- each constant stands for its number
abbrev pub HaveNumbers : Numbers → Env → Type 0
HaveNumbers numbers env = (name : Name) → Below (number_value (numbers name)) (scalar (bound_at env.names name))

module _ (numbers : Numbers) (env : Env) (known : HaveNumbers numbers env) where
  abbrev IsMeaning : Expr → Type 0
  IsMeaning e = Below (manifest_value numbers e) ((sense e).value env)

  meaning_by : (e : Expr) (x : Opened) → e.node ≡ roll-Node x → Below (manifest_node numbers (layer_of (Option Value) (manifest_value numbers) x)) ((node_sense (layer_of Sense sense x)).value env) → IsMeaning e
  unfolding manifest_value
  meaning_by e x is h =
      subst (λ v. Below v ((sense e).value env)) (sym (fold_rolled (Option Value) (λ place node. manifest_node numbers node) e x is))
      (subst (λ (s : Sense). Below (manifest_node numbers (layer_of (Option Value) (manifest_value numbers) x)) (s.value env)) (sym (sense_rolled e x is)) h)

  abbrev Links : Type 0
  Links = List ((l : Link) × IsMeaning l.operand)

  joined_below : (rest : Links) (v w : Option Value) → Below v w
      → Below (joined_value v (map (λ (l : Link). (l.op, manifest_value numbers l.operand)) (map (λ l. l.0) rest))) (joined env w (map (λ (l : Link). (l.op, sense l.operand)) (map (λ l. l.0) rest)))
  joined_below [] v w h = h
  joined_below (l ∷ rest) v w h = joined_below rest _ _ (both_below (answer l.0.op) v w _ _ h l.1)

  where_arithmetic : (test : Bool) (a b : Option Value) → Below a b → Below (if test then a else None) b
  where_arithmetic true a b h = h
  where_arithmetic false a b h = inl refl

  step : (e : Expr) (y : Proved IsMeaning) → e.node ≡ roll-Node (without IsMeaning y) → IsMeaning e
  step e (Node-F.Number v) is = meaning_by e (Node-F.Number v) is (inr refl)
  step e (Node-F.Truth v) is = meaning_by e (Node-F.Truth v) is (inr refl)
  step e (Node-F.Error v b) is = meaning_by e (Node-F.Error v b) is (inr refl)
  step e (Node-F.Name name) is = meaning_by e (Node-F.Name name) is (known name)
  step e (Node-F.Chain first rest) is =
      meaning_by e (Node-F.Chain first.0 (map (λ l. l.0) rest)) is
      (where_arithmetic (list_all (λ (l : Op × Option Value). is_arithmetic l.0) (map (λ (l : Link). (l.op, manifest_value numbers l.operand)) (map (λ l. l.0) rest))) _ _
      (joined_below rest _ _ first.1))
  step e (Node-F.Negate of) is = meaning_by e (Node-F.Negate of.0) is (each_below negation _ _ of.1)
  step e (Node-F.Parens of) is = meaning_by e (Node-F.Parens of.0) is of.1
  step e (Node-F.TwoPlace o left right) is = meaning_by e (Node-F.TwoPlace o left.0 right.0) is (both_below (answer o) _ _ _ _ left.1 right.1)
  step e y is = meaning_by e (without IsMeaning y) is (inl refl)

  meaning : (e : Expr) → IsMeaning e
  meaning = tree_induction IsMeaning step

  some_ordinary : (v w : Option Value) (k : ℤ) → Below v w → ordinary v ≡ Some k → ordinary w ≡ Some k
  some_ordinary v w k (inl none) is = absurd (apart (ap ordinary (sym none) ∙ is))
    where
      apart : None ≡ Some k → ⊥
      apart h = cc
  some_ordinary v w k (inr same) is = ap ordinary (sym same) ∙ is

  -- the number of a manifest expression is what it means
  pub manifest_means : (e : Expr) (k : ℤ) → manifest numbers e ≡ Some k → number_of env e ≡ Some k
  unfolding value_of
  manifest_means e k is = some_ordinary _ _ k (meaning e) is
