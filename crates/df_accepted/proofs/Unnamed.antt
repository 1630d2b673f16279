-- An expression that does not name some name is put into blocks in the same way whatever number that name stands for.
use Rattle.std.proofs.Common.{◌≡◌, ℤ, Bool, true, false, ◌||◌, List, [], ◌∷◌, map, refl, sym, ◌∙◌, ap, ap₂, None, bytes_eq}
use Rattle.std.specs.List.{list_any}
use Rattle.std.proofs.lemmas.Slice.Eq.{bytes_eq-Decides}
use Rattle.std.proofs.lemmas.Bool.{or_parts}
use Rattle.df_values.specs.declared.kinds.Op.{Op}
use Rattle.df_syntax.specs.declared.tree.Named.{Named}
use Rattle.df_syntax.specs.declared.tree.Sort.{Sort}
use Rattle.df_syntax.specs.declared.tree.Expr.{Expr}
use Rattle.df_syntax.specs.declared.tree.Link.{Link}
use Rattle.df_syntax.specs.declared.tree.Arm.{Arm}
use Rattle.df_syntax.specs.declared.tree.Assign.{Assign}
use Rattle.df_syntax.specs.declared.tree.Definition.{Definition}
use Rattle.df_syntax.specs.declared.tree.Node.{roll-Node}
use Rattle.df_syntax.specs.declared.tree.Node.TheVariants as n
use Rattle.df_syntax.specs.declared.tree.Node.TheOpen.{Node-F}
use Rattle.df_syntax.specs.Besides.{node_of}
use Rattle.df_syntax.specs.Grammar.{made_at}
use Rattle.df_syntax.specs.Meaning.{Name}
use Rattle.df_syntax.specs.SourceForms.{names_node, names_it}
use Rattle.df_syntax.specs.Trees.{Opened, layer_of, fold_rolled}
use Rattle.df_syntax.specs.TreeInduction.{Proved, without, tree_induction}
use Rattle.df_names.specs.Maps.{bind}
use Rattle.df_shape.specs.declared.standing.Standing.TheVariants as standing
use Rattle.df_shape.specs.Renamed.{Names, value_renamed, array_name, node_renamed, renamed}
use Rattle.df_shape.proofs.RenamedForms.{renamed_node, placed}
use Rattle.df_accepted.proofs.Agreed.{bind_new, bind_old}

module _ (names : Names) (i : Name) (k : ℤ) (none : names i ≡ None) where
  abbrev new : Names
  new = bind names i (standing.Constant k)

  abbrev f : Expr → Expr
  f = renamed new

  abbrev g : Expr → Expr
  g = renamed names

  abbrev Same : Expr → Type 0
  Same e = names_it i e ≡ false → renamed (bind names i (standing.Constant k)) e ≡ renamed names e

  -- ---- lists of parts

  values_same : (es : List ((e : Expr) × Same e)) → list_any (λ b. b) (map (names_it i) (map (λ e. e.0) es)) ≡ false → map f (map (λ e. e.0) es) ≡ map g (map (λ e. e.0) es)
  values_same [] h = refl
  values_same (e ∷ es) h = let parts = or_parts (names_it i e.0) _ h in ap₂ (λ (x : Expr) xs. x ∷ xs) (e.1 parts.0) (values_same es parts.1)

  links_same : (rest : List ((l : Link) × Same l.operand)) → list_any (λ (l : Op × Bool). l.1) (map {B = Op × Bool} (λ (l : Link). (l.op, names_it i l.operand)) (map (λ l. l.0) rest)) ≡ false
      → map {B = Op × Expr} (λ (l : Link). (l.op, f l.operand)) (map (λ l. l.0) rest) ≡ map {B = Op × Expr} (λ (l : Link). (l.op, g l.operand)) (map (λ l. l.0) rest)
  links_same [] h = refl
  links_same (l ∷ rest) h = let parts = or_parts (names_it i l.0.operand) _ h in ap₂ (λ (x : Expr) xs. (l.0.op, x) ∷ xs) (l.1 parts.0) (links_same rest parts.1)

  arms_same : (arms : List ((a : Arm) × (Same a.test × Same a.value)))
      → list_any (λ (a : Bool × Bool). a.0 || a.1) (map {B = Bool × Bool} (λ (a : Arm). (names_it i a.test, names_it i a.value)) (map (λ a. a.0) arms)) ≡ false
      → map {B = Expr × Expr} (λ (a : Arm). (f a.test, f a.value)) (map (λ a. a.0) arms) ≡ map {B = Expr × Expr} (λ (a : Arm). (g a.test, g a.value)) (map (λ a. a.0) arms)
  arms_same [] h = refl
  arms_same (a ∷ arms) h =
      let parts = or_parts (names_it i a.0.test || names_it i a.0.value) _ h in
      let both = or_parts (names_it i a.0.test) (names_it i a.0.value) parts.0 in
      ap₂ (λ (x : Expr × Expr) xs. x ∷ xs) (ap₂ (λ (x y : Expr). (x, y)) (a.1.0 both.0) (a.1.1 both.1)) (arms_same arms parts.1)

  definitions_same : (ds : List ((d : Definition) × Same d.value))
      → list_any (λ (d : Named × Sort × Bool). d.2) (map {B = Named × Sort × Bool} (λ (d : Definition). (d.name, d.sort, names_it i d.value)) (map (λ d. d.0) ds)) ≡ false
      → map {B = Named × Sort × Expr} (λ (d : Definition). (d.name, d.sort, f d.value)) (map (λ d. d.0) ds)
      ≡ map {B = Named × Sort × Expr} (λ (d : Definition). (d.name, d.sort, g d.value)) (map (λ d. d.0) ds)
  definitions_same [] h = refl
  definitions_same (d ∷ ds) h = let parts = or_parts (names_it i d.0.value) _ h in ap₂ (λ (x : Expr) xs. (d.0.name, d.0.sort, x) ∷ xs) (d.1 parts.0) (definitions_same ds parts.1)

  assigns_same : (assigns : List ((a : Assign) × Same a.value)) → list_any (λ (a : Named × Bool). a.1) (map {B = Named × Bool} (λ (a : Assign). (a.name, names_it i a.value)) (map (λ a. a.0) assigns)) ≡ false
      → map {B = Named × Expr} (λ (a : Assign). (a.name, f a.value)) (map (λ a. a.0) assigns) ≡ map {B = Named × Expr} (λ (a : Assign). (a.name, g a.value)) (map (λ a. a.0) assigns)
  assigns_same [] h = refl
  assigns_same (a ∷ assigns) h = let parts = or_parts (names_it i a.0.value) _ h in ap₂ (λ (x : Expr) xs. (a.0.name, x) ∷ xs) (a.1 parts.0) (assigns_same assigns parts.1)

  -- ---- forms

  name_same : (m : Name) → bytes_eq i m ≡ false → value_renamed m (new m) ≡ value_renamed m (names m)
  name_same m h = ap (value_renamed m) (bind_old names i (standing.Constant k) m h)

  array_same : (m : Name) → array_name m (new m) ≡ array_name m (names m)
  array_same m = by (bytes_eq i m) refl
    where
      by : (b : Bool) → bytes_eq i m ≡ b → array_name m (new m) ≡ array_name m (names m)
      by false is = ap (array_name m) (bind_old names i (standing.Constant k) m is)
      by true is = ap (array_name m) (bind_new names i (standing.Constant k) m is) ∙ sym (ap (array_name m) (ap names (sym ((bytes_eq-Decides i m).0 is)) ∙ none))

  node_same : (y : Proved Same) → names_node i (layer_of Bool (names_it i) (without Same y)) ≡ false
      → node_renamed new (layer_of Expr f (without Same y)) ≡ node_renamed names (layer_of Expr g (without Same y))
  node_same (Node-F.Number v) h = refl
  node_same (Node-F.Truth v) h = refl
  node_same (Node-F.Error v b) h = refl
  node_same (Node-F.Name m) h = name_same m h
  node_same (Node-F.Access m at) h = ap₂ n.Access (array_same m) (at.1 h)
  node_same (Node-F.Call m es) h = ap (λ (l : List Expr). node_of (Node-F.Call m l)) (values_same es h)
  node_same (Node-F.Chain first rest) h =
      let parts = or_parts (names_it i first.0) _ h in
      ap₂ (λ (e : Expr) (l : List (Op × Expr)). node_of (Node-F.Chain e l)) (first.1 parts.0) (links_same rest parts.1)
  node_same (Node-F.Compare r left right) h = let parts = or_parts (names_it i left.0) (names_it i right.0) h in ap₂ (n.Compare r) (left.1 parts.0) (right.1 parts.1)
  node_same (Node-F.Negate of) h = ap n.Negate (of.1 h)
  node_same (Node-F.Invert of) h = ap n.Invert (of.1 h)
  node_same (Node-F.Parens of) h = ap n.Parens (of.1 h)
  node_same (Node-F.Test t of) h = ap (n.Test t) (of.1 h)
  node_same (Node-F.TwoPlace o left right) h = let parts = or_parts (names_it i left.0) (names_it i right.0) h in ap₂ (n.TwoPlace o) (left.1 parts.0) (right.1 parts.1)
  node_same (Node-F.If arms last) h =
      let parts = or_parts _ (names_it i last.0) h in
      ap₂ (λ (l : List (Expr × Expr)) (e : Expr). node_of (Node-F.If l e)) (arms_same arms parts.0) (last.1 parts.1)
  node_same (Node-F.Let ds values) h =
      let parts = or_parts _ (list_any (λ b. b) (map (names_it i) (map (λ e. e.0) values))) h in
      ap₂ (λ (l : List (Named × Sort × Expr)) (es : List Expr). node_of (Node-F.Let l es)) (definitions_same ds parts.0) (values_same values parts.1)
  node_same (Node-F.Construct index low high elem) h =
      let first = or_parts (names_it i low.0) _ h in
      let second = or_parts (names_it i high.0) (names_it i elem.0) first.1 in
      λ j. n.Construct index (low.1 first.0 j) (high.1 second.0 j) (elem.1 second.1 j)
  node_same (Node-F.Fold index low high o elem) h =
      let first = or_parts (names_it i low.0) _ h in
      let second = or_parts (names_it i high.0) (names_it i elem.0) first.1 in
      λ j. n.Fold index (low.1 first.0 j) (high.1 second.0 j) o (elem.1 second.1 j)
  node_same (Node-F.For ds asked assigns last) h =
      let first = or_parts (list_any (λ (d : Named × Sort × Bool). d.2) (map {B = Named × Sort × Bool} (λ (d : Definition). (d.name, d.sort, names_it i d.value)) (map (λ d. d.0) ds))) _ h in
      let second = or_parts (names_it i asked.0) _ first.1 in
      let third = or_parts (list_any (λ (a : Named × Bool). a.1) (map {B = Named × Bool} (λ (a : Assign). (a.name, names_it i a.value)) (map (λ a. a.0) assigns))) (names_it i last.0) second.1 in
      λ j. node_of (Node-F.For (definitions_same ds first.0 j) (asked.1 second.0 j) (assigns_same assigns third.0 j) (last.1 third.1 j))
  node_same (Node-F.Array at value) h = let parts = or_parts (names_it i at.0) (names_it i value.0) h in ap₂ n.Array (at.1 parts.0) (value.1 parts.1)
  node_same (Node-F.Update m at value) h = let parts = or_parts (names_it i at.0) (names_it i value.0) h in ap₂ (n.Update m) (at.1 parts.0) (value.1 parts.1)

  named_at : (e : Expr) (x : Opened) → e.node ≡ roll-Node x → names_it i e ≡ names_node i (layer_of Bool (names_it i) x)
  unfolding names_it
  named_at e x is = fold_rolled Bool (λ place node. names_node i node) e x is

  step : (e : Expr) (y : Proved Same) → e.node ≡ roll-Node (without Same y) → Same e
  step e y is h =
      placed new e ∙ (ap (made_at e.place) (renamed_node new e (without Same y) is ∙ (node_same y (sym (named_at e (without Same y) is) ∙ h) ∙ sym (renamed_node names e (without Same y) is)))
      ∙ sym (placed names e))

  pub same_renamed : (e : Expr) → names_it i e ≡ false → renamed (bind names i (standing.Constant k)) e ≡ renamed names e
  same_renamed = tree_induction Same step
