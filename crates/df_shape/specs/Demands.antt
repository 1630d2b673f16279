-- What is demanded of the form of each expression, an outer node before an inner one: a fold over trees.
use Rattle.std.specs.Prelude.{ℕ, suc, ℤ, pos, Bool, true, false, not, ◌&&◌, ◌||◌, nat_le, if◌then◌else◌, List, [], ◌∷◌, ◌++◌, flat_map, fold, Option, Some, None, bytes_eq}
use Rattle.std.specs.Option.{is_some}
use Rattle.df_io.specs.declared.place.Place.{Place}
use Rattle.df_values.specs.declared.kinds.Op.{Op}
use Rattle.df_syntax.specs.declared.form.Form.TheVariants as rule
use Rattle.df_syntax.specs.declared.tree.Named.{Named}
use Rattle.df_syntax.specs.declared.tree.Sort.{Sort}
use Rattle.df_syntax.specs.declared.tree.Link.{Link}
use Rattle.df_syntax.specs.declared.tree.Expr.{Expr}
use Rattle.df_syntax.specs.declared.tree.Node.TheOpen.{Node-F}
use Rattle.df_syntax.specs.Trees.{Layer, Opened, fold_tree}
use Rattle.df_syntax.specs.Besides.{layer_map, fold_beside}
use Rattle.df_syntax.specs.Demands.{Demand}
use Rattle.df_syntax.specs.Meaning.{Name, exact}
use Rattle.df_syntax.specs.WellShaped.{has_first}
use Rattle.df_syntax.specs.SourceForms.{Numbers, form, is_name, is_array, manifest, Recurrence, recurrence_of}
use Rattle.df_syntax.specs.SourceMeaning.{over}
pub use Rattle.df_ranges.specs.Offsets.{is_before, is_offset, is_one_before}
use Rattle.df_shape.specs.declared.part.Part.{Part}
use Rattle.df_shape.specs.declared.part.Part.TheVariants.{Whole, Inside, Element, Defined, First, Next}
use Rattle.df_shape.specs.declared.answers.ShapeAnswer.{ShapeAnswer}
use Rattle.df_shape.specs.declared.answers.ShapeAnswer.TheVariants.{LaterFunction, NotManifest, RangeTooLong, EmptyReduce, NotPiped}

abbrev pub Demands : Type 0
Demands = List (Demand ShapeAnswer)

abbrev pub demand : Bool → ShapeAnswer → Demands
demand holds refusal = record { holds = holds; refusal = refusal } ∷ []

-- ---- where an expression stands

-- What is known around an expression: the constants, the names that are arrays, the functions that may be called, the functions that
-- give an array, and the part that it is.
pub record Around : Type 0 where
  pub numbers : Numbers
  pub arrays : Name → Bool
  pub callable : Name → Bool
  pub gives : Name → Bool
  pub part : Part

abbrev pub as_part : Around → Part → Around
as_part around part = record around { part = part }

-- in an operand, an argument, a test or a value
abbrev pub operand_part : Part → Part
operand_part (Element index own) = Element index own
operand_part part = Inside

abbrev pub inside : Around → Around
inside around = as_part around (operand_part around.part)

abbrev pub or_array : (Name → Bool) → Name → Sort → Name → Bool
or_array arrays name sort = λ other. (is_array sort && bytes_eq name other) || arrays other

-- ---- whether the type of an expression is an array

abbrev pub Gives : Type 0
Gives = (Name → Bool) → Bool

abbrev pub names_defined : List (Named × Sort × Gives) → (Name → Bool) → Name → Bool
names_defined ds arrays = fold (λ others d. or_array others d.0.name d.1) arrays ds

abbrev pub first_gives : List Gives → Gives
first_gives [] arrays = false
first_gives (g ∷ gs) arrays = g arrays

abbrev pub gives_node : (Name → Bool) → Layer Gives → Gives
gives_node calls (Node-F.Name name) arrays = arrays name
gives_node calls (Node-F.Call name arguments) arrays = calls name
gives_node calls (Node-F.Parens of) arrays = of arrays
gives_node calls (Node-F.If arms last) arrays = last arrays
gives_node calls (Node-F.Let definitions values) arrays = first_gives values (names_defined definitions arrays)
gives_node calls (Node-F.Construct index low high elem) arrays = true
gives_node calls (Node-F.For definitions test assigns last) arrays = last (names_defined definitions arrays)
gives_node calls (Node-F.Array at value) arrays = true
gives_node calls (Node-F.Update name at value) arrays = true
gives_node calls node arrays = false

unfoldable pub gives_array : Around → Expr → Bool
gives_array around e = fold_tree Gives (λ place node. gives_node around.gives node) e around.arrays

-- ---- subscripts

-- the sum of an offset and further manifest operands
abbrev pub offset_link : Numbers → Option ℤ → Link → Option ℤ
offset_link numbers offset l = exact l.op offset (manifest numbers l.operand)

-- The offset of a subscript in a block: that of the index alone, or of a sum that begins with it and goes on with manifest operands.
abbrev pub offset : Numbers → Name → Opened → Option ℤ
offset numbers index (Node-F.Name name) = if bytes_eq name index then Some (pos 0) else None
offset numbers index (Node-F.Chain first rest) = if is_name index first then fold (offset_link numbers) (Some (pos 0)) rest else None
offset numbers index node = None

abbrev pub is_subscript : Numbers → Part → Name → Expr → Bool
is_subscript numbers (Element index own) name at = is_offset own name (offset numbers index (form at))
is_subscript numbers part name at = is_some (manifest numbers at)

-- ---- the rules, each on the node that it is about

abbrev pub call_rule : Around → Place → Layer Expr → Demands
call_rule around place (Node-F.Call name arguments) = demand (around.callable name) (LaterFunction name place)
call_rule around place node = []

abbrev pub may_be_block : Part → Bool
may_be_block Whole = true
may_be_block part = false

-- a block stands alone
abbrev pub block_rule : Around → Place → Layer Expr → Demands
block_rule around place (Node-F.Construct index low high elem) = demand (may_be_block around.part) (NotPiped rule.Block place)
block_rule around place (Node-F.Fold index low high o elem) = demand (may_be_block around.part) (NotPiped rule.Block place)
block_rule around place (Node-F.For definitions test assigns last) = demand (may_be_block around.part) (NotPiped rule.Block place)
block_rule around place node = []

abbrev pub conditional_rule : Around → Expr → Layer Expr → Demands
conditional_rule around e (Node-F.If arms last) = demand (not (gives_array around e)) (NotPiped rule.ArrayIf e.place)
conditional_rule around e node = []

-- a call or a `let`, read through parentheses
abbrev pub is_call_or_let : Opened → Bool
is_call_or_let (Node-F.Call name arguments) = true
is_call_or_let (Node-F.Let definitions values) = true
is_call_or_let node = false

abbrev pub defined_rule : Around → Part → Expr → Demands
defined_rule around Defined e = demand false (NotPiped rule.ArrayDefinition e.place)
defined_rule around Whole e = demand (not (is_call_or_let (form e) && gives_array around e)) (NotPiped rule.ArrayDefinition e.place)
defined_rule around part e = []

-- `[at: value]` and `name[at: value]` stand in recurrences alone
abbrev pub array_rule : Part → Place → Layer Expr → Demands
array_rule First place (Node-F.Array at value) = []
array_rule (Next index own) place (Node-F.Update name at value) = []
array_rule part place (Node-F.Array at value) = demand false (NotPiped rule.ArrayValue place)
array_rule part place (Node-F.Update name at value) = demand false (NotPiped rule.ArrayValue place)
array_rule part place node = []

abbrev pub manifest_demand : Numbers → Expr → Demands
manifest_demand numbers e = demand (is_some (manifest numbers e)) (NotManifest e.place)

-- how many elements there are between two manifest bounds
abbrev pub length_between : Numbers → Expr → Expr → ℕ
length_between numbers low high = over (manifest numbers low) (manifest numbers high) 0 (λ lo n. n)

abbrev pub longest : ℕ
longest = 4096

-- the bounds of a recurrence; its first element counts
abbrev pub recurrence_demands : Numbers → Place → Option Recurrence → Demands
recurrence_demands numbers place None = demand false (NotPiped rule.Recurrence place)
recurrence_demands numbers place (Some r) =
    manifest_demand numbers r.low ++ (manifest_demand numbers r.before ++ (manifest_demand numbers r.high
    ++ (demand (is_one_before (manifest numbers r.before) (manifest numbers r.low)) (NotPiped rule.Recurrence place)
    ++ demand (nat_le (suc (length_between numbers r.low r.high)) longest) (RangeTooLong place))))

-- the bounds of a construct or a fold
abbrev pub range_demands : Numbers → Place → Expr → Expr → Demands
range_demands numbers place low high =
    manifest_demand numbers low ++ (manifest_demand numbers high ++ demand (nat_le (length_between numbers low high) longest) (RangeTooLong place))

abbrev pub range_rule : Around → Expr → Layer Expr → Demands
range_rule around e (Node-F.Construct index low high elem) = range_demands around.numbers e.place low high
range_rule around e (Node-F.Fold index low high o elem) =
    range_demands around.numbers e.place low high ++ demand (has_first o (length_between around.numbers low high)) (EmptyReduce e.place)
range_rule around e (Node-F.For definitions test assigns last) = recurrence_demands around.numbers e.place (recurrence_of (form e))
range_rule around e node = []

abbrev pub subscript_rule : Around → Place → Layer Expr → Demands
subscript_rule around place (Node-F.Access name at) = demand (is_subscript around.numbers around.part name at) (NotPiped rule.Subscript place)
subscript_rule around place node = []

-- all rules on one node, in their order
abbrev pub own_demands : Around → Expr → Layer Expr → Demands
own_demands around e node =
    call_rule around e.place node ++ (block_rule around e.place node ++ (conditional_rule around e node ++ (defined_rule around around.part e
    ++ (array_rule around.part e.place node ++ (range_rule around e node ++ subscript_rule around e.place node)))))

-- ---- whole expressions

-- What is demanded of an expression and in it, where something is known around it.
abbrev pub Look : Type 0
Look = Around → Demands

abbrev pub all_of : List (Expr × Look) → Around → Demands
all_of parts around = flat_map (λ (e : Expr × Look). e.1 around) parts

abbrev pub definition_part : Sort → Part → Part
definition_part sort part = if is_array sort then Defined else part

abbrev pub definitions_demands : Around → List (Named × Sort × (Expr × Look)) → Demands
definitions_demands around ds = flat_map (λ (d : Named × Sort × (Expr × Look)). d.2.1 (as_part around (definition_part d.1 around.part))) ds

abbrev pub element : Around → Named → Around
element around index = as_part around (Element index.name None)

-- the array of one element, and the element of the array with one element more
abbrev pub loop_demands : Around → List (Named × Sort × (Expr × Look)) → List (Named × (Expr × Look)) → Demands
loop_demands around (i ∷ t ∷ []) (next ∷ step ∷ []) =
    t.2.1 (as_part around First) ++ next.1.1 (record around { arrays = or_array around.arrays t.0.name t.1; part = Next i.0.name t.0.name })
loop_demands around definitions assigns = []

-- the element of such an array
abbrev pub update_part : Part → Part
update_part (Next index own) = Element index (Some own)
update_part part = Inside

-- From left to right. Manifest expressions and accepted subscripts hold nothing of which more is demanded.
abbrev pub inner_demands : Around → Layer (Expr × Look) → Demands
inner_demands around (Node-F.Call name arguments) = all_of arguments (inside around)
inner_demands around (Node-F.Chain first rest) = first.1 (inside around) ++ flat_map (λ (l : Op × (Expr × Look)). l.1.1 (inside around)) rest
inner_demands around (Node-F.Compare rel left right) = left.1 (inside around) ++ right.1 (inside around)
inner_demands around (Node-F.Negate of) = of.1 (inside around)
inner_demands around (Node-F.Invert of) = of.1 (inside around)
inner_demands around (Node-F.Parens of) = of.1 around
inner_demands around (Node-F.Test test of) = of.1 (inside around)
inner_demands around (Node-F.TwoPlace op left right) = left.1 (inside around) ++ right.1 (inside around)
inner_demands around (Node-F.If arms last) =
    flat_map (λ (a : (Expr × Look) × (Expr × Look)). a.0.1 (inside around) ++ a.1.1 (inside around)) arms ++ last.1 (inside around)
inner_demands around (Node-F.Let definitions values) = definitions_demands (inside around) definitions ++ all_of values (inside around)
inner_demands around (Node-F.Construct index low high elem) = elem.1 (element around index)
inner_demands around (Node-F.Fold index low high op elem) = elem.1 (element around index)
inner_demands around (Node-F.For definitions test assigns last) = loop_demands around definitions assigns
inner_demands around (Node-F.Array at value) = value.1 (as_part around Inside)
inner_demands around (Node-F.Update name at value) = value.1 (as_part around (update_part around.part))
inner_demands around node = []

abbrev pub look_node : Expr → Layer (Expr × Look) → Look
look_node e node around = own_demands around e (layer_map (Expr × Look) Expr (λ p. p.0) node) ++ inner_demands around node

unfoldable pub demands_of : Expr → Look
demands_of = fold_beside Look look_node
