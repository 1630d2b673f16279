-- What an expression tells once it is put into blocks, by its node; and what its bounds tell of its parts.
use Rattle.std.proofs.Common.{◌≡◌, ◌∙◌, ◌&&◌, sym, ap, ap₂, Bool, true, List, map, Option, Some, None, [], ◌∷◌, refl}
use Rattle.std.proofs.lemmas.Simd.{map-map}
use Rattle.df_values.specs.declared.kinds.Op.{Op}
use Rattle.df_syntax.specs.declared.tree.Named.{Named}
use Rattle.df_syntax.specs.declared.tree.Sort.{Sort}
use Rattle.df_syntax.specs.declared.tree.Expr.{Expr, roll-out-Expr}
use Rattle.df_syntax.specs.declared.tree.Link.{Link, fold_out-Link}
use Rattle.df_syntax.specs.declared.tree.Arm.{Arm, fold_out-Arm}
use Rattle.df_syntax.specs.declared.tree.Assign.{Assign, fold_out-Assign}
use Rattle.df_syntax.specs.declared.tree.Definition.{Definition, fold_out-Definition}
use Rattle.df_syntax.specs.declared.tree.Node.{roll-Node}
use Rattle.df_syntax.specs.declared.tree.Node.TheVariants as n
use Rattle.df_syntax.specs.declared.tree.Node.TheOpen.{Node-F}
use Rattle.df_syntax.specs.Trees.{Layer, Opened, layer_of, map_same}
use Rattle.df_syntax.specs.Meaning.{Name}
use Rattle.df_syntax.specs.WellBuilt.{is_bounded, has_its_type, has_one_level, all_true, is_some_list, is_two_place, is_fold}
use Rattle.df_syntax.specs.WellShaped.{Look, node_look, look_of}
use Rattle.df_syntax.proofs.Folds as folds
use Rattle.df_syntax.proofs.Folds.{node_bounds, link_bounds, arm_bounds, assign_bounds, definition_bounds}
use Rattle.df_syntax.proofs.MadeNodes.{fold_made, layer_behind}
use Rattle.df_shape.specs.declared.standing.Standing.{Standing}
use Rattle.df_shape.specs.declared.standing.Standing.TheVariants as standing
use Rattle.df_shape.specs.Renamed.{Names, value_renamed, array_name, renamed}
use Rattle.df_shape.proofs.RenamedForms.{renamed_node}

-- ---- in blocks

-- what a name tells, by what it stands for
abbrev pub value_look : Name → Option Standing → Look
value_look name (Some (standing.Constant number)) = node_look (Node-F.Number number)
value_look name (Some (standing.Array outcome other)) = node_look (Node-F.Name other)
value_look name s = node_look (Node-F.Name name)

abbrev pub node_told : Names → Layer Look → Look
node_told names (Node-F.Name name) = value_look name (names name)
node_told names (Node-F.Access name at) = node_look (Node-F.Access (array_name name (names name)) at)
node_told names node = node_look node

-- what an expression tells in blocks
unfoldable pub told : Names → Expr → Look
told names e = look_of (renamed names e)

name_told : (names : Names) (e : Expr) (name : Name) (s : Option Standing) → (renamed names e).node ≡ value_renamed name s → told names e ≡ value_look name s
unfolding told look_of
name_told names e name None at = fold_made Look (λ place node. node_look node) (renamed names e) (Node-F.Name name) at
name_told names e name (Some (standing.Scalar o)) at = fold_made Look (λ place node. node_look node) (renamed names e) (Node-F.Name name) at
name_told names e name (Some (standing.Constant k)) at = fold_made Look (λ place node. node_look node) (renamed names e) (Node-F.Number k) at
name_told names e name (Some (standing.Array o other)) at = fold_made Look (λ place node. node_look node) (renamed names e) (Node-F.Name other) at

pub told_at : (names : Names) (e : Expr) (x : Opened) → e.node ≡ roll-Node x → told names e ≡ node_told names (layer_of Look (told names) x)
unfolding told look_of
told_at names e (Node-F.Name name) is = name_told names e name (names name) (renamed_node names e (Node-F.Name name) is)
told_at names e (Node-F.Access name at) is =
    fold_made Look (λ place node. node_look node) (renamed names e) (Node-F.Access (array_name name (names name)) (renamed names at)) (renamed_node names e (Node-F.Access name at) is)
told_at names e x is =
    fold_made Look (λ place node. node_look node) (renamed names e) (layer_of Expr (renamed names) x) (renamed_node names e x is)
    ∙ ap node_look (layer_behind Expr Look (renamed names) look_of x)

-- ---- bounds

-- whether a node keeps its bounds, from the same of its parts
abbrev pub layer_bounded : Layer Bool → Bool
layer_bounded (Node-F.Number value) = true
layer_bounded (Node-F.Truth value) = true
layer_bounded (Node-F.Error value b) = has_its_type value b
layer_bounded (Node-F.Name name) = true
layer_bounded (Node-F.Access name at) = at
layer_bounded (Node-F.Call name arguments) = all_true arguments
layer_bounded (Node-F.Chain first rest) = first && (has_one_level (map (λ (p : Op × Bool). p.0) rest) && all_true (map (λ (p : Op × Bool). p.1) rest))
layer_bounded (Node-F.Compare rel left right) = left && right
layer_bounded (Node-F.Negate e) = e
layer_bounded (Node-F.Invert e) = e
layer_bounded (Node-F.Parens e) = e
layer_bounded (Node-F.Test test e) = e
layer_bounded (Node-F.TwoPlace o left right) = is_two_place o && (left && right)
layer_bounded (Node-F.If arms last) = is_some_list (map (λ (a : Bool × Bool). a.0 && a.1) arms) && (all_true (map (λ (a : Bool × Bool). a.0 && a.1) arms) && last)
layer_bounded (Node-F.Let definitions values) =
    is_some_list (map (λ (d : Named × Sort × Bool). d.2) definitions) && (is_some_list values && (all_true (map (λ (d : Named × Sort × Bool). d.2) definitions) && all_true values))
layer_bounded (Node-F.Construct index low high elem) = low && (high && elem)
layer_bounded (Node-F.Fold index low high o elem) = is_fold o && (low && (high && elem))
layer_bounded (Node-F.For definitions test assigns last) =
    is_some_list (map (λ (d : Named × Sort × Bool). d.2) definitions) && (is_some_list (map (λ (a : Named × Bool). a.1) assigns)
    && (all_true (map (λ (d : Named × Sort × Bool). d.2) definitions) && (test && (all_true (map (λ (a : Named × Bool). a.1) assigns) && last))))
layer_bounded (Node-F.Array at value) = at && value
layer_bounded (Node-F.Update name at value) = at && value

link_is : (l : Link) → link_bounds l ≡ (l.op, is_bounded l.operand)
unfolding link_bounds is_bounded
link_is l = fold_out-Link _ _ _ _ _ _ _ _ _ _ _ _ l

arm_is : (a : Arm) → arm_bounds a ≡ (is_bounded a.test && is_bounded a.value)
unfolding arm_bounds is_bounded
arm_is a = fold_out-Arm _ _ _ _ _ _ _ _ _ _ _ _ a

assign_is : (a : Assign) → assign_bounds a ≡ is_bounded a.value
unfolding assign_bounds is_bounded
assign_is a = fold_out-Assign _ _ _ _ _ _ _ _ _ _ _ _ a

definition_is : (d : Definition) → definition_bounds d ≡ is_bounded d.value
unfolding definition_bounds is_bounded
definition_is d = fold_out-Definition _ _ _ _ _ _ _ _ _ _ _ _ d

arms_are : (arms : List Arm) → map arm_bounds arms ≡ map (λ (a : Bool × Bool). a.0 && a.1) (map {B = Bool × Bool} (λ (a : Arm). (is_bounded a.test, is_bounded a.value)) arms)
arms_are arms = map_same Arm Bool arm_bounds (λ a. is_bounded a.test && is_bounded a.value) arm_is arms ∙ sym (map-map (λ (a : Bool × Bool). a.0 && a.1) (λ (a : Arm). (is_bounded a.test, is_bounded a.value)) arms)

definitions_are : (ds : List Definition) → map definition_bounds ds
    ≡ map (λ (d : Named × Sort × Bool). d.2) (map {B = Named × Sort × Bool} (λ (d : Definition). (d.name, d.sort, is_bounded d.value)) ds)
definitions_are ds =
    map_same Definition Bool definition_bounds (λ d. is_bounded d.value) definition_is ds
    ∙ sym (map-map (λ (d : Named × Sort × Bool). d.2) (λ (d : Definition). (d.name, d.sort, is_bounded d.value)) ds)

assigns_are : (assigns : List Assign) → map assign_bounds assigns
    ≡ map (λ (a : Named × Bool). a.1) (map {B = Named × Bool} (λ (a : Assign). (a.name, is_bounded a.value)) assigns)
assigns_are assigns =
    map_same Assign Bool assign_bounds (λ a. is_bounded a.value) assign_is assigns
    ∙ sym (map-map (λ (a : Named × Bool). a.1) (λ (a : Assign). (a.name, is_bounded a.value)) assigns)

node_is : (x : Opened) → node_bounds (roll-Node x) ≡ layer_bounded (layer_of Bool is_bounded x)
node_is (Node-F.Number v) = ap node_bounds (n.rolls-Number v) ∙ folds.bounds_Number v
node_is (Node-F.Truth v) = ap node_bounds (n.rolls-Truth v) ∙ folds.bounds_Truth v
node_is (Node-F.Error v b) = ap node_bounds (n.rolls-Error v b) ∙ folds.bounds_Error v b
node_is (Node-F.Name name) = ap node_bounds (n.rolls-Name name) ∙ folds.bounds_Name name
node_is (Node-F.Access name at) = ap node_bounds (n.rolls-Access name at) ∙ folds.bounds_Access name at
node_is (Node-F.Call name arguments) = ap node_bounds (n.rolls-Call name arguments) ∙ folds.bounds_Call name arguments
node_is (Node-F.Chain first rest) =
    ap node_bounds (n.rolls-Chain first rest) ∙ (folds.bounds_Chain first rest
    ∙ ap (λ (l : List (Op × Bool)). is_bounded first && (has_one_level (map (λ (p : Op × Bool). p.0) l) && all_true (map (λ (p : Op × Bool). p.1) l)))
    (map_same Link (Op × Bool) link_bounds (λ l. (l.op, is_bounded l.operand)) link_is rest))
node_is (Node-F.Compare rel left right) = ap node_bounds (n.rolls-Compare rel left right) ∙ folds.bounds_Compare rel left right
node_is (Node-F.Negate of) = ap node_bounds (n.rolls-Negate of) ∙ folds.bounds_Negate of
node_is (Node-F.Invert of) = ap node_bounds (n.rolls-Invert of) ∙ folds.bounds_Invert of
node_is (Node-F.Parens of) = ap node_bounds (n.rolls-Parens of) ∙ folds.bounds_Parens of
node_is (Node-F.Test test of) = ap node_bounds (n.rolls-Test test of) ∙ folds.bounds_Test test of
node_is (Node-F.TwoPlace o left right) = ap node_bounds (n.rolls-TwoPlace o left right) ∙ folds.bounds_TwoPlace o left right
node_is (Node-F.If arms last) =
    ap node_bounds (n.rolls-If arms last) ∙ (folds.bounds_If arms last ∙ ap (λ (l : List Bool). is_some_list l && (all_true l && is_bounded last)) (arms_are arms))
node_is (Node-F.Let ds values) =
    ap node_bounds (n.rolls-Let ds values) ∙ (folds.bounds_Let ds values
    ∙ ap (λ (l : List Bool). is_some_list l && (is_some_list (map is_bounded values) && (all_true l && all_true (map is_bounded values)))) (definitions_are ds))
node_is (Node-F.Construct index low high elem) = ap node_bounds (n.rolls-Construct index low high elem) ∙ folds.bounds_Construct index low high elem
node_is (Node-F.Fold index low high o elem) = ap node_bounds (n.rolls-Fold index low high o elem) ∙ folds.bounds_Fold index low high o elem
node_is (Node-F.For ds test assigns last) =
    ap node_bounds (n.rolls-For ds test assigns last) ∙ (folds.bounds_For ds test assigns last
    ∙ ap₂ (λ (l m : List Bool). is_some_list l && (is_some_list m && (all_true l && (is_bounded test && (all_true m && is_bounded last))))) (definitions_are ds) (assigns_are assigns))
node_is (Node-F.Array at value) = ap node_bounds (n.rolls-Array at value) ∙ folds.bounds_Array at value
node_is (Node-F.Update name at value) = ap node_bounds (n.rolls-Update name at value) ∙ folds.bounds_Update name at value

pub bounds_at : (e : Expr) (x : Opened) → e.node ≡ roll-Node x → is_bounded e ≡ layer_bounded (layer_of Bool is_bounded x)
bounds_at e x is = ap is_bounded (sym (roll-out-Expr e)) ∙ (folds.made_bounds e.place e.node ∙ (ap node_bounds is ∙ node_is x))

-- the operators of links, whose bounds tell of their levels
pub levels_same : (rest : List Link) → map (λ (p : Op × Bool). p.0) (map {B = Op × Bool} (λ (k : Link). (k.op, is_bounded k.operand)) rest) ≡ map (λ (k : Link). k.op) rest
levels_same [] = refl
levels_same (k ∷ rest) = ap (λ os. k.op ∷ os) (levels_same rest)
