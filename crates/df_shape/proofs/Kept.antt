-- An expression means the same in blocks: where a number stands in place of each constant, and each array has its own name.
use Rattle.std.proofs.Common.{◌≡◌, ℤ, Bool, true, false, if◌then◌else◌, ◌&&◌, List, [], ◌∷◌, ◌++◌, map, refl, sym, ◌∙◌, ap, ap₂, subst, Option, Some, None}
use mathlib.Core.Path.{subst₃}
use Rattle.std.specs.List.{list_all}
use Rattle.std.specs.Prelude.{not}
use Rattle.df_values.specs.declared.values.Value.{Value}
use Rattle.df_values.specs.declared.kinds.Op.{Op}
use Rattle.df_values.specs.Tables.{answer, comparison, negation, test_of}
use Rattle.df_values.specs.Operators.{inversion}
use Rattle.df_syntax.specs.declared.bound.Bound.TheVariants.{Scalar}
use Rattle.df_syntax.specs.declared.tree.Named.{Named}
use Rattle.df_syntax.specs.declared.tree.Sort.{Sort}
use Rattle.df_syntax.specs.declared.tree.Expr.{Expr}
use Rattle.df_syntax.specs.declared.tree.Link.{Link}
use Rattle.df_syntax.specs.declared.tree.Arm.{Arm}
use Rattle.df_syntax.specs.declared.tree.Definition.{Definition}
use Rattle.df_syntax.specs.declared.tree.Node.{roll-Node}
use Rattle.df_syntax.specs.declared.tree.Node.TheOpen.{Node-F}
use Rattle.df_syntax.specs.Trees.{Layer, Opened, layer_of, fold_rolled}
use Rattle.df_syntax.specs.Besides.{node_of, layer_map}
use Rattle.df_syntax.proofs.Senses.{sense_rolled, sense_made, same_plain}
use Rattle.df_syntax.specs.TreeInduction.{Proved, without, tree_induction}
use Rattle.df_syntax.specs.Meaning.{Name, Env, Sense, sense, node_sense, ordinary, scalar, both, each, element, bound_at, choice, exact, is_additive, joined, sum_of, arms_value, defined, single}
use Rattle.df_syntax.specs.FreshNames.{Taken, Fresh, also, with_defined, is_fresh, node_fresh, definitions_fresh, all_fresh}
use Rattle.df_shape.specs.declared.standing.Standing.{Standing}
use Rattle.df_shape.specs.declared.standing.Standing.TheVariants as standing
use Rattle.df_shape.specs.Renamed.{Names, renamed, node_renamed, value_renamed, array_name}
use Rattle.df_shape.proofs.RenamedForms.{renamed_node}
use Rattle.std.proofs.lemmas.Bool.{not-true}
use Rattle.df_syntax.proofs.Tests.{and_left, and_right}
use Rattle.df_shape.proofs.Agreement.{Bounds, Agree, AgreesBy, agree_after}

abbrev pub Calls : Type 0
Calls = Name → List (Option Value) → Option Value

abbrev pub with_calls : Calls → Bounds → Env
with_calls call bounds = record { call = call; names = bounds }

pub fresh_rolled : (e : Expr) (x : Opened) → e.node ≡ roll-Node x → is_fresh e ≡ node_fresh (layer_of Fresh is_fresh x)
unfolding is_fresh
fresh_rolled e x is = fold_rolled Fresh (λ place node. node_fresh node) e x is

-- what calls give in the source and in its blocks
module _ (names : Names) (of_source of_blocks : Calls) (same_calls : (name : Name) (vs : List (Option Value)) → of_blocks name vs ≡ of_source name vs) where
  -- a sense in blocks and one in the source, where all names that are bound are new
  abbrev pub Same : Sense → Sense → Fresh → Type 0
  Same s t fresh =
      (taken : Taken) (source blocks : Bounds) → Agree names taken source blocks → fresh taken ≡ true
      → (s.value (with_calls of_blocks blocks) ≡ t.value (with_calls of_source source)) × (s.whole (with_calls of_blocks blocks) ≡ t.whole (with_calls of_source source))

  abbrev pub Kept : Expr → Type 0
  Kept e = Same (sense (renamed names e)) (sense e) (is_fresh e)

  kept_by : (e : Expr) (x : Opened) (l : Layer Expr) → e.node ≡ roll-Node x → (renamed names e).node ≡ node_of l
      → Same (node_sense (layer_map Expr Sense sense l)) (node_sense (layer_of Sense sense x)) (node_fresh (layer_of Fresh is_fresh x)) → Kept e
  kept_by e x l is at h = subst₃ Same (sym (sense_made (renamed names e) l at)) (sym (sense_rolled e x is)) (sym (fresh_rolled e x is)) h

  -- a node that is no name, by what it means with the names in it
  node_kept : (e : Expr) (x : Opened) → e.node ≡ roll-Node x → node_renamed names (layer_of Expr (renamed names) x) ≡ node_of (layer_of Expr (renamed names) x)
      → Same (node_sense (layer_map Expr Sense sense (layer_of Expr (renamed names) x))) (node_sense (layer_of Sense sense x)) (node_fresh (layer_of Fresh is_fresh x)) → Kept e
  node_kept e x is at = kept_by e x (layer_of Expr (renamed names) x) is (renamed_node names e x is ∙ at)

  -- ---- names

  name_kept : (e : Expr) (name : Name) → e.node ≡ roll-Node (Node-F.Name name) → (s : Option Standing) → names name ≡ s → (renamed names e).node ≡ value_renamed name s → Kept e
  name_kept e name is (Some (standing.Constant k)) at r =
      kept_by e (Node-F.Name name) (Node-F.Number k) is r
      (λ taken source blocks agree fresh. same_plain (sym (ap scalar (subst (AgreesBy source blocks name) at (agree.agrees name)).0)))
  name_kept e name is (Some (standing.Array o other)) at r =
      kept_by e (Node-F.Name name) (Node-F.Name other) is r
      (λ taken source blocks agree fresh. same_plain (sym (ap scalar (subst (AgreesBy source blocks name) at (agree.agrees name)))))
  name_kept e name is (Some (standing.Scalar o)) at r =
      kept_by e (Node-F.Name name) (Node-F.Name name) is r
      (λ taken source blocks agree fresh. same_plain (sym (ap scalar (subst (AgreesBy source blocks name) at (agree.agrees name)))))
  name_kept e name is None at r =
      kept_by e (Node-F.Name name) (Node-F.Name name) is r
      (λ taken source blocks agree fresh. same_plain (sym (ap scalar (subst (AgreesBy source blocks name) at (agree.agrees name)))))

  same_element : (source blocks : Bounds) (name : Name) (s : Option Standing) → AgreesBy source blocks name s → (k : Option ℤ)
      → element (bound_at blocks (array_name name s)) k ≡ element (bound_at source name) k
  same_element source blocks name (Some (standing.Constant c)) (a, none) k = ap (λ b. element b k) none ∙ sym (ap (λ b. element b k) a)
  same_element source blocks name (Some (standing.Array o other)) a k = sym (ap (λ b. element b k) a)
  same_element source blocks name (Some (standing.Scalar o)) a k = sym (ap (λ b. element b k) a)
  same_element source blocks name None a k = sym (ap (λ b. element b k) a)

  -- ---- lists of parts

  abbrev Parts : Type 0
  Parts = List ((e : Expr) × Kept e)

  abbrev Links : Type 0
  Links = List ((l : Link) × Kept l.operand)

  abbrev links_renamed : Links → List (Op × Sense)
  links_renamed rest = map (λ (l : Op × Expr). (l.0, sense l.1)) (map (λ (l : Link). (l.op, renamed names l.operand)) (map (λ l. l.0) rest))

  abbrev link_senses : List Link → List (Op × Sense)
  link_senses rest = map (λ (l : Link). (l.op, sense l.operand)) rest

  abbrev links_fresh : Links → Taken → Bool
  links_fresh rest taken = list_all (λ (l : Op × Fresh). l.1 taken) (map (λ (l : Link). (l.op, is_fresh l.operand)) (map (λ l. l.0) rest))

  module _ (taken : Taken) (source blocks : Bounds) (agree : Agree names taken source blocks) where
    same_joined : (rest : Links) (v w : Option Value) → v ≡ w → links_fresh rest taken ≡ true
        → joined (with_calls of_blocks blocks) v (links_renamed rest) ≡ joined (with_calls of_source source) w (link_senses (map (λ l. l.0) rest))
    same_joined [] v w is fresh = is
    same_joined (l ∷ rest) v w is fresh =
        same_joined rest _ _ (ap₂ (both (answer l.0.op)) is (l.1 taken source blocks agree (and_left _ _ fresh)).0) (and_right (is_fresh l.0.operand taken) _ fresh)

    same_sum : (rest : Links) (v w : Option ℤ) → v ≡ w → links_fresh rest taken ≡ true
        → sum_of (with_calls of_blocks blocks) v (links_renamed rest) ≡ sum_of (with_calls of_source source) w (link_senses (map (λ l. l.0) rest))
    same_sum [] v w is fresh = is
    same_sum (l ∷ rest) v w is fresh =
        same_sum rest _ _ (ap₂ (exact l.0.op) is (ap ordinary (l.1 taken source blocks agree (and_left _ _ fresh)).0)) (and_right (is_fresh l.0.operand taken) _ fresh)

    same_values : (es : Parts) → all_fresh (map is_fresh (map (λ e. e.0) es)) taken ≡ true
        → map (λ (s : Sense). s.value (with_calls of_blocks blocks)) (map sense (map (renamed names) (map (λ e. e.0) es)))
        ≡ map (λ (s : Sense). s.value (with_calls of_source source)) (map sense (map (λ e. e.0) es))
    same_values [] fresh = refl
    same_values (e ∷ es) fresh =
        ap₂ (λ v vs. v ∷ vs) (e.1 taken source blocks agree (and_left _ _ fresh)).0 (same_values es (and_right (is_fresh e.0 taken) _ fresh))

    same_single : (es : Parts) → all_fresh (map is_fresh (map (λ e. e.0) es)) taken ≡ true
        → single (map sense (map (renamed names) (map (λ e. e.0) es))) (with_calls of_blocks blocks) ≡ single (map sense (map (λ e. e.0) es)) (with_calls of_source source)
    same_single [] fresh = refl
    same_single (e ∷ []) fresh = (e.1 taken source blocks agree (and_left _ _ fresh)).0
    same_single (e ∷ d ∷ es) fresh = refl

  same_additive : (rest : Links) → list_all (λ (link : Op × Sense). is_additive link.0) (links_renamed rest)
      ≡ list_all (λ (link : Op × Sense). is_additive link.0) (link_senses (map (λ l. l.0) rest))
  same_additive [] = refl
  same_additive (l ∷ rest) = ap (λ b. is_additive l.0.op && b) (same_additive rest)

  abbrev Arms : Type 0
  Arms = List ((a : Arm) × (Kept a.test × Kept a.value))

  abbrev arm_senses : List Arm → List (Sense × Sense)
  arm_senses arms = map (λ (a : Arm). (sense a.test, sense a.value)) arms

  abbrev arms_renamed : Arms → List (Sense × Sense)
  arms_renamed arms = map (λ (a : Expr × Expr). (sense a.0, sense a.1)) (map (λ (a : Arm). (renamed names a.test, renamed names a.value)) (map (λ a. a.0) arms))

  abbrev arms_fresh : Arms → Taken → Bool
  arms_fresh arms taken = list_all (λ (a : Fresh × Fresh). a.0 taken && a.1 taken) (map (λ (a : Arm). (is_fresh a.test, is_fresh a.value)) (map (λ a. a.0) arms))

  same_arms : (taken : Taken) (source blocks : Bounds) → Agree names taken source blocks → (arms : Arms) (v w : Option Value) → v ≡ w → arms_fresh arms taken ≡ true
      → arms_value (with_calls of_blocks blocks) (arms_renamed arms) v ≡ arms_value (with_calls of_source source) (arm_senses (map (λ a. a.0) arms)) w
  same_arms taken source blocks agree [] v w is fresh = is
  same_arms taken source blocks agree (a ∷ arms) v w is fresh =
      let first = and_left (is_fresh a.0.test taken && is_fresh a.0.value taken) (arms_fresh arms taken) fresh in
      ap₂ (λ t (p : Option Value × Option Value). choice t p.0 p.1) (a.1.0 taken source blocks agree (and_left _ _ first)).0
      (ap₂ (λ x y. (x, y)) (a.1.1 taken source blocks agree (and_right (is_fresh a.0.test taken) _ first)).0
      (same_arms taken source blocks agree arms v w is (and_right (is_fresh a.0.test taken && is_fresh a.0.value taken) _ fresh)))

  abbrev Definitions : Type 0
  Definitions = List ((d : Definition) × Kept d.value)

  abbrev definition_senses : List Definition → List (Named × Sort × Sense)
  definition_senses ds = map (λ (d : Definition). (d.name, d.sort, sense d.value)) ds

  abbrev definitions_renamed : Definitions → List (Named × Sort × Sense)
  definitions_renamed ds =
      map (λ (d : Named × Sort × Expr). (d.0, d.1, sense d.2)) (map (λ (d : Definition). (d.name, d.sort, renamed names d.value)) (map (λ d. d.0) ds))

  abbrev freshness : Definitions → List (Named × Sort × Fresh)
  freshness ds = map (λ (d : Definition). (d.name, d.sort, is_fresh d.value)) (map (λ d. d.0) ds)

  -- what stands on both sides after definitions
  record After (ds : Definitions) (taken : Taken) (source blocks : Bounds) : Type 0 where
    pub source_after : Bounds
    pub blocks_after : Bounds
    pub agree : Agree names (with_defined (freshness ds) taken) source_after blocks_after
    pub source_is : defined (with_calls of_source source) (definition_senses (map (λ d. d.0) ds)) ≡ with_calls of_source source_after
    pub blocks_is : defined (with_calls of_blocks blocks) (definitions_renamed ds) ≡ with_calls of_blocks blocks_after

  same_defined : (ds : Definitions) (taken : Taken) (source blocks : Bounds) → Agree names taken source blocks → definitions_fresh (freshness ds) taken ≡ true → After ds taken source blocks
  same_defined [] taken source blocks agree fresh = record { source_after = source; blocks_after = blocks; agree = agree; source_is = refl; blocks_is = refl }
  same_defined (d ∷ ds) taken source blocks agree fresh =
      let new : taken d.0.name.name ≡ false = not-true (taken d.0.name.name) (and_left _ _ fresh) in
      let others = and_right (not (taken d.0.name.name)) (is_fresh d.0.value taken && definitions_fresh (freshness ds) (also taken d.0.name.name)) fresh in
      let value = (sense d.0.value).value (with_calls of_source source) in
      let rest = same_defined ds (also taken d.0.name.name) (source ++ (d.0.name.name, Scalar value) ∷ []) (blocks ++ (d.0.name.name, Scalar value) ∷ [])
      (agree_after names taken source blocks d.0.name.name (Scalar value) agree new) (and_right (is_fresh d.0.value taken) _ others) in
      record {
        source_after = rest.source_after;
        blocks_after = rest.blocks_after;
        agree = rest.agree;
        source_is = rest.source_is;
        blocks_is =
            ap (λ v. defined (with_calls of_blocks (blocks ++ (d.0.name.name, Scalar v) ∷ [])) (definitions_renamed ds)) (d.1 taken source blocks agree (and_left _ _ others)).0
            ∙ rest.blocks_is;
      }

  -- ---- forms

  same_chain : (first : (e : Expr) × Kept e) (rest : Links)
      → Same (node_sense (Node-F.Chain (sense (renamed names first.0)) (links_renamed rest))) (node_sense (Node-F.Chain (sense first.0) (link_senses (map (λ l. l.0) rest))))
      (λ taken. is_fresh first.0 taken && links_fresh rest taken)
  same_chain first rest taken source blocks agree fresh =
      let begin = (first.1 taken source blocks agree (and_left _ _ fresh)).0 in
      let others = and_right (is_fresh first.0 taken) (links_fresh rest taken) fresh in
      let joins = same_joined taken source blocks agree rest _ _ begin others in
      (joins, λ i. if same_additive rest i then same_sum taken source blocks agree rest _ _ (ap ordinary begin) others i else ordinary (joins i))

  same_let : (ds : Definitions) (es : Parts)
      → Same (node_sense (Node-F.Let (definitions_renamed ds) (map sense (map (renamed names) (map (λ e. e.0) es)))))
      (node_sense (Node-F.Let (definition_senses (map (λ d. d.0) ds)) (map sense (map (λ e. e.0) es))))
      (λ taken. definitions_fresh (freshness ds) taken && all_fresh (map is_fresh (map (λ e. e.0) es)) (with_defined (freshness ds) taken))
  same_let ds es taken source blocks agree fresh =
      let after = same_defined ds taken source blocks agree (and_left _ _ fresh) in
      same_plain (
      ap (single (map sense (map (renamed names) (map (λ e. e.0) es)))) after.blocks_is
      ∙ (same_single (with_defined (freshness ds) taken) after.source_after after.blocks_after after.agree es (and_right (definitions_fresh (freshness ds) taken) _ fresh)
      ∙ ap (single (map sense (map (λ e. e.0) es))) (sym after.source_is)))

  step : (e : Expr) (y : Proved Kept) → e.node ≡ roll-Node (without Kept y) → Kept e
  step e (Node-F.Name name) is = name_kept e name is (names name) refl (renamed_node names e (Node-F.Name name) is)
  step e (Node-F.Access name at) is =
      kept_by e (Node-F.Access name at.0) (Node-F.Access (array_name name (names name)) (renamed names at.0)) is (renamed_node names e (Node-F.Access name at.0) is)
      (λ taken source blocks agree fresh.
      same_plain (ap (element (bound_at blocks (array_name name (names name)))) (at.1 taken source blocks agree fresh).1 ∙ same_element source blocks name (names name) (agree.agrees name) _))
  step e (Node-F.Call name arguments) is =
      node_kept e (Node-F.Call name (map (λ a. a.0) arguments)) is refl
      (λ taken source blocks agree fresh. same_plain (ap (of_blocks name) (same_values taken source blocks agree arguments fresh) ∙ same_calls name _))
  step e (Node-F.Chain first rest) is = node_kept e (Node-F.Chain first.0 (map (λ l. l.0) rest)) is refl (same_chain first rest)
  step e (Node-F.Compare rel left right) is =
      node_kept e (Node-F.Compare rel left.0 right.0) is refl
      (λ taken source blocks agree fresh.
      same_plain (ap₂ (both (comparison rel)) (left.1 taken source blocks agree (and_left _ _ fresh)).0 (right.1 taken source blocks agree (and_right (is_fresh left.0 taken) _ fresh)).0))
  step e (Node-F.Negate of) is = node_kept e (Node-F.Negate of.0) is refl (λ taken source blocks agree fresh. same_plain (ap (each negation) (of.1 taken source blocks agree fresh).0))
  step e (Node-F.Invert of) is = node_kept e (Node-F.Invert of.0) is refl (λ taken source blocks agree fresh. same_plain (ap (each inversion) (of.1 taken source blocks agree fresh).0))
  step e (Node-F.Parens of) is = node_kept e (Node-F.Parens of.0) is refl of.1
  step e (Node-F.Test test of) is = node_kept e (Node-F.Test test of.0) is refl (λ taken source blocks agree fresh. same_plain (ap (each (test_of test)) (of.1 taken source blocks agree fresh).0))
  step e (Node-F.TwoPlace o left right) is =
      node_kept e (Node-F.TwoPlace o left.0 right.0) is refl
      (λ taken source blocks agree fresh.
      same_plain (ap₂ (both (answer o)) (left.1 taken source blocks agree (and_left _ _ fresh)).0 (right.1 taken source blocks agree (and_right (is_fresh left.0 taken) _ fresh)).0))
  step e (Node-F.If arms last) is =
      node_kept e (Node-F.If (map (λ a. a.0) arms) last.0) is refl
      (λ taken source blocks agree fresh.
      same_plain (same_arms taken source blocks agree arms _ _ (last.1 taken source blocks agree (and_right (arms_fresh arms taken) _ fresh)).0 (and_left _ _ fresh)))
  step e (Node-F.Let ds es) is = node_kept e (Node-F.Let (map (λ d. d.0) ds) (map (λ x. x.0) es)) is refl (same_let ds es)
  step e y is = node_kept e (without Kept y) is refl (λ taken source blocks agree fresh. (refl, refl))

  pub expression_kept : (e : Expr) → Kept e
  expression_kept = tree_induction Kept step
