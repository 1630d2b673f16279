-- Where all demands on a source hold, its blocks and its parameters keep the bound on the length of ranges.
use Rattle.std.proofs.Common.{◌≡◌, ℕ, suc, ℤ, ◌≤◌, Bool, true, false, if◌then◌else◌, nat_le, bytes_eq, List, [], ◌∷◌, ◌++◌, map, reverse, refl, sym, ◌∙◌, ap, subst, Option, Some, None}
use Rattle.std.specs.List.{All}
use Rattle.std.specs.Option.{is_some}
use Rattle.std.specs.Prelude.{flat_map}
use Rattle.std.proofs.lemmas.Bool.{leb-true}
use Rattle.std.proofs.lemmas.List.Elements.{All-push, All-nil, All-cons}
use Rattle.std.proofs.lemmas.List.{reverse-reverse, reverse-append}
use Rattle.df_syntax.specs.declared.tree.Named.{Named}
use Rattle.df_syntax.specs.declared.tree.Sort.{Sort}
use Rattle.df_syntax.specs.declared.tree.Sort.TheVariants as of
use Rattle.df_syntax.specs.declared.tree.Parameter.{Parameter}
use Rattle.df_syntax.specs.declared.tree.Expr.{Expr}
use Rattle.df_syntax.specs.declared.tree.Definition.{Definition}
use Rattle.df_syntax.specs.declared.tree.Node.{roll-Node, out-Node}
use Rattle.df_syntax.specs.declared.tree.Node.TheOpen.{Node-F}
use Rattle.df_syntax.specs.declared.program.Range.{Range}
use Rattle.df_syntax.specs.declared.program.Function.{Function}
use Rattle.df_syntax.specs.declared.program.Program.{Program}
use Rattle.df_values.specs.Inputs.{HasExtent}
use Rattle.df_values.specs.declared.inputs.Extent.{Extent}
use Rattle.df_values.specs.declared.inputs.Input.{Input}
use Rattle.df_syntax.specs.declared.piped.Body.{Body}
use Rattle.df_syntax.specs.declared.piped.Body.TheVariants as body
use Rattle.df_syntax.specs.declared.piped.Block.{Block}
use Rattle.df_syntax.specs.Trees.{Layer, Opened, layer_of}
use Rattle.df_syntax.specs.TreeInduction.{Proved, without, tree_induction}
use Rattle.df_syntax.specs.Besides.{layer_map, beside_rolled}
use Rattle.df_syntax.specs.Demands.{first_refusal}
use Rattle.df_syntax.specs.Meaning.{Name}
use Rattle.df_syntax.specs.WellShaped.{HasRange, HaveRanges, has_first}
use Rattle.df_syntax.specs.SourceForms.{Numbers, numbers_of, form, bare, without_parens, is_let, manifest, Recurrence, recurrence_of}
use Rattle.df_syntax.specs.SourceMeaning.{over, or_zero, extent_over, extent_of, input_of, inputs_of}
use Rattle.df_syntax.proofs.FirstRefusals.{begin_holds, rest_holds, head_holds}
use Rattle.df_shape.specs.declared.answers.ShapeAnswer.{ShapeAnswer}
use Rattle.df_shape.specs.declared.standing.Standing.{Standing}
use Rattle.df_shape.specs.declared.standing.Standing.TheVariants as standing
use Rattle.df_shape.specs.Renamed.{Names}
use Rattle.df_shape.specs.Demands.{Demands, Around, Look, range_rule, own_demands, inner_demands, look_node, demands_of, or_array, length_between, range_demands, recurrence_demands, manifest_demand, demand}
use Rattle.df_shape.specs.Sources as source
use Rattle.df_shape.specs.Sources.{whole, demands, functions_demands, last_demands, body_demands, body_definitions, with_arrays}
use Rattle.df_shape.specs.Shaped as shape
use Rattle.df_shape.specs.Shaped.{Made, Blocks, scalar_body, array_body, recurrence_body, name_standing, define_by, define, result_by, result, each_result, body_blocks, all_defined, blocks_node, blocks_of, main_blocks, program_blocks, shaped}
use Rattle.df_shape.specs.Bounded.{HasBounds, HaveBounds, IsBoundedRange, HaveBoundedExtents}
use Rattle.df_shape.specs.Entries.{bound_in}
use Rattle.df_shape.proofs.Opened.{rolled_from}
use Rattle.df_shape.proofs.Spine.{firsts, blocks_at}
use Rattle.df_shape.proofs.BoundsKnown.{range_held}

-- ---- short bodies

-- at most 4,096 elements, of which the first element of a recurrence is one; and no fold by min or max over none
abbrev IsShort : Body → Type 0
IsShort (body.Construct index lo n elem) = n ≤ 4096
IsShort (body.Fold index o lo n elem) = (n ≤ 4096) × (has_first o n ≡ true)
IsShort (body.Recur index array lo n first elem) = suc n ≤ 4096
IsShort (body.Scalar expr) = Unit {0}

pub AreShort : List Block → Type 0
AreShort blocks = All (λ (b : Block). IsShort b.body) blocks

in_range : (b : Body) → HasBounds b → IsShort b → HasRange b
in_range (body.Construct index lo n elem) h k = record { short = k; low = h.low; high = h.high }
in_range (body.Fold index o lo n elem) h k = record { short = k.0; low = h.low; high = h.high }
in_range (body.Recur index array lo n first elem) h k = record { short = k; low = h.low; high = h.high }
in_range (body.Scalar expr) h k = tt

pub ranges_of : (blocks : List Block) → HaveBounds blocks → AreShort blocks → HaveRanges blocks
unfolding AreShort
ranges_of blocks h k = λ i d less. in_range _ (h i d less) (k i d less)

-- ---- one block, by the demands on its range

Holds : Demands → Type 0
Holds ds = first_refusal ds ≡ None

first_part : (as_ bs : Demands) → Holds (as_ ++ bs) → Holds as_
unfolding Holds
first_part as_ bs h = begin_holds as_ bs h

last_part : (as_ bs : Demands) → Holds (as_ ++ bs) → Holds bs
unfolding Holds
last_part as_ bs h = rest_holds as_ bs h

holds : (b : Bool) (refusal : ShapeAnswer) → Holds (demand b refusal) → b ≡ true
unfolding Holds
holds b refusal h = head_holds (record { holds = b; refusal = refusal }) [] h

at_most : (n : ℕ) → nat_le n 4096 ≡ true → n ≤ 4096
at_most n h = leb-true n 4096 h

over_short : (a b : Option ℤ) (otherwise : Body) (f : ℤ → ℕ → Body) → IsShort otherwise
    → ((lo : ℤ) (n : ℕ) → over a b 0 (λ lo n. n) ≡ n → IsShort (f lo n)) → IsShort (over a b otherwise f)
over_short (Some lo) (Some hi) otherwise f h k = k lo _ refl
over_short None b otherwise f h k = h
over_short (Some lo) None otherwise f h k = h

-- the parts of an expression, as the demands on it see them
abbrev seen : Opened → Layer Expr
seen x = layer_map (Expr × Look) Expr (λ p. p.0) (layer_of (Expr × Look) (λ c. (c, demands_of c)) x)

all_hold : (around : Around) (e : Expr) (x : Opened) → e.node ≡ roll-Node x → Holds (demands_of e around)
    → Holds (own_demands around e (seen x) ++ inner_demands around (layer_of (Expr × Look) (λ c. (c, demands_of c)) x))
unfolding demands_of Holds
all_hold around e x is h = subst (λ (l : Look). Holds (l around)) (beside_rolled Look look_node e x is) h

-- the demand on its range
own_hold : (around : Around) (e : Expr) → Holds (demands_of e around) → Holds (range_rule around e (seen (out-Node e.node)))
unfolding Holds
own_hold around e h =
    let node = seen (out-Node e.node) in
    range_held around e node
    (begin_holds (own_demands around e node) (inner_demands around (layer_of (Expr × Look) (λ c. (c, demands_of c)) (out-Node e.node))) (all_hold around e (out-Node e.node) (rolled_from e.node) h))

-- what stands in parentheses keeps the demands on the whole
inside_hold : (around : Around) (e : Expr) (of : Expr) → e.node ≡ roll-Node (Node-F.Parens of) → Holds (demands_of e around) → Holds (demands_of of around)
inside_hold around e of is h = last_part (own_demands around e (seen (Node-F.Parens of))) (demands_of of around) (all_hold around e (Node-F.Parens of) is h)

abbrev Bare : Expr → Type 0
Bare e = ((around : Around) → Holds (demands_of e around) → Holds (demands_of (bare e) around)) × (bare (bare e) ≡ bare e)

bare_by : (e d : Expr) → bare e ≡ d → ((around : Around) → Holds (demands_of e around) → Holds (demands_of d around)) → bare d ≡ d → Bare e
bare_by e d is h same = ((λ around k. subst (λ (x : Expr). Holds (demands_of x around)) (sym is) (h around k)), ap (λ (x : Expr). bare x) is ∙ (same ∙ sym is))

bare_at : (e : Expr) (x : Opened) → e.node ≡ roll-Node x → bare e ≡ without_parens e (layer_of (Expr × Expr) (λ c. (c, bare c)) x)
unfolding bare
bare_at e x is = beside_rolled Expr without_parens e x is

bare_step : (e : Expr) (y : Proved Bare) → e.node ≡ roll-Node (without Bare y) → Bare e
bare_step e (Node-F.Parens of) is =
    bare_by e (bare of.0) (bare_at e (Node-F.Parens of.0) is) (λ around h. of.1.0 around (inside_hold around e of.0 is h)) of.1.1
bare_step e y is =
    let same : bare e ≡ e = bare_at e (without Bare y) is in bare_by e e same (λ around h. h) same

-- an expression without the parentheses around it
bare_hold : (e : Expr) → Bare e
bare_hold = tree_induction Bare bare_step

-- ---- a definition or a result

in_length : (numbers : Numbers) (e low high : Expr) → Holds (range_demands numbers e.place low high) → nat_le (length_between numbers low high) 4096 ≡ true
in_length numbers e low high h = holds _ _ (last_part (manifest_demand numbers high) _ (last_part (manifest_demand numbers low) _ h))

recurrence_short : (numbers : Numbers) (names : Names) (d e : Expr) (o : Option Recurrence) → Holds (recurrence_demands numbers d.place o)
    → IsShort (recurrence_body numbers names e o)
recurrence_short numbers names d e None h = tt
recurrence_short numbers names d e (Some r) h =
    let short : nat_le (suc (length_between numbers r.low r.high)) 4096 ≡ true =
    holds _ _ (last_part (demand _ _) _
    (last_part (manifest_demand numbers r.high) _ (last_part (manifest_demand numbers r.before) _ (last_part (manifest_demand numbers r.low) _ h)))) in
    over_short (manifest numbers r.low) (manifest numbers r.high) _ _ tt (λ lo n is. at_most (suc n) (subst (λ k. nat_le (suc k) 4096 ≡ true) is short))

scalar_short : (around : Around) (d e : Expr) (names : Names) (x : Opened) → Holds (range_rule around d (seen x))
    → IsShort (scalar_body around.numbers names e x)
scalar_short around d e names (Node-F.Fold index low high o elem) h =
    let short = in_length around.numbers d low high (first_part (range_demands around.numbers d.place low high) _ h) in
    let first : has_first o (length_between around.numbers low high) ≡ true = holds _ _ (last_part (range_demands around.numbers d.place low high) _ h) in
    over_short (manifest around.numbers low) (manifest around.numbers high) _ _ tt
    (λ lo n is. (at_most n (subst (λ k. nat_le k 4096 ≡ true) is short), subst (λ k. has_first o k ≡ true) is first))
scalar_short around d e names x h = tt

array_short : (around : Around) (d e : Expr) (names : Names) (x : Opened) → form d ≡ x → Holds (range_rule around d (seen x))
    → IsShort (array_body around.numbers names e x)
array_short around d e names (Node-F.Construct index low high elem) same h =
    let short = in_length around.numbers d low high h in
    over_short (manifest around.numbers low) (manifest around.numbers high) _ _ tt (λ lo n is. at_most n (subst (λ k. nat_le k 4096 ≡ true) is short))
array_short around d e names (Node-F.For ds test assigns last) same h =
    recurrence_short around.numbers names d e (recurrence_of (Node-F.For ds test assigns last))
    (subst (λ (y : Opened). Holds (recurrence_demands around.numbers d.place (recurrence_of y))) same h)
array_short around d e names x same h = tt

-- where the demands on an expression hold, what makes its value is short
body_short : (around : Around) (names : Names) (sort : Sort) (e : Expr) → Holds (demands_of e around) → IsShort (shape.body_of around.numbers names sort e)
body_short around names (of.Basic b) e h = scalar_short around (bare e) e names (form e) (own_hold around (bare e) ((bare_hold e).0 around h))
body_short around names (of.Array b) e h =
    array_short around (bare e) e names (form e) (ap (λ (x : Expr). out-Node x.node) (bare_hold e).1) (own_hold around (bare e) ((bare_hold e).0 around h))

one_more : (blocks : List Block) (b : Block) → AreShort blocks → IsShort b.body → AreShort (blocks ++ b ∷ [])
unfolding AreShort
one_more blocks b h k = All-push (λ (b : Block). IsShort b.body) blocks b h k

define_short : (numbers : Numbers) (made : Made) (named : Named) (sort : Sort) (e : Expr) (s : Option Standing)
    → IsShort (shape.body_of numbers made.names sort e) → AreShort made.blocks
    → AreShort (define_by numbers made named sort e s).blocks
define_short numbers made named (of.Array b) e (Some (standing.Array o name)) k h = h
define_short numbers made named sort e s k h = one_more made.blocks _ h k

result_short : (numbers : Numbers) (made : Made) (sort : Sort) (e : Expr) (s : Option Standing) → IsShort (shape.body_of numbers made.names sort e)
    → AreShort made.blocks
    → AreShort (result_by numbers made sort e s).1
result_short numbers made (of.Array b) e (Some (standing.Array o name)) k h = h
result_short numbers made sort e s k h = one_more made.blocks _ h k

-- ---- the spine of a body

-- a definition, and a result, of which the demands hold
defined_short : (around : Around) (made : Made) (named : Named) (sort : Sort) (e : Expr) → Holds (demands_of e (whole around)) → AreShort made.blocks
    → AreShort (define around.numbers made named sort e).blocks
defined_short around made named sort e h k =
    define_short around.numbers made named sort e (name_standing around.numbers made.names (form e)) (body_short (whole around) made.names sort e h) k

resulting_short : (around : Around) (made : Made) (sort : Sort) (e : Expr) → Holds (demands_of e (whole around)) → AreShort made.blocks
    → AreShort (result around.numbers made sort e).1
resulting_short around made sort e h k =
    result_short around.numbers made sort e (name_standing around.numbers made.names (form e)) (body_short (whole around) made.names sort e h) k

only_short : (around : Around) (e : Expr) (made : Made) (sorts : List Sort) → Holds (demands_of e (whole around)) → AreShort made.blocks
    → AreShort (each_result around.numbers (e ∷ []) made sorts).0
only_short around e made [] h k = k
only_short around e made (s ∷ sorts) h k = resulting_short around made s e h k

-- several results
looks : List Expr → List (Expr × Look)
looks = map (λ e. (e, source.body_of e))

each_short : (around : Around) (es : List Expr) (made : Made) (sorts : List Sort)
    → Holds (flat_map (λ (e : Expr × Look). demands_of e.0 (whole around)) (looks es)) → AreShort made.blocks
    → AreShort (each_result around.numbers es made sorts).0
unfolding looks
each_short around [] made sorts h k = k
each_short around (e ∷ es) made [] h k = k
each_short around (e ∷ es) made (s ∷ sorts) h k =
    each_short around es (record made { blocks = (result around.numbers made s e).1 }) sorts (last_part (demands_of e (whole around)) _ h)
    (resulting_short around made s e (first_part (demands_of e (whole around)) _ h) k)

abbrev definition_looks : List Definition → List (Named × Sort × (Expr × Look))
definition_looks ds = map (λ (d : Definition). (d.name, d.sort, (d.value, source.body_of d.value))) ds

abbrev definition_blocks : (numbers : Numbers) → List Definition → List (Named × Sort × (Expr × Blocks numbers))
definition_blocks numbers ds = map (λ (d : Definition). (d.name, d.sort, (d.value, blocks_of numbers d.value))) ds

definitions_short : (around : Around) (ds : List Definition) (made : Made) → Holds (body_definitions around (definition_looks ds)) → AreShort made.blocks
    → AreShort (all_defined around.numbers made (definition_blocks around.numbers ds)).blocks
definitions_short around [] made h k = k
definitions_short around (d ∷ ds) made h k =
    definitions_short (record around { arrays = or_array around.arrays d.name.name d.sort }) ds (define around.numbers made d.name d.sort d.value)
    (last_part (demands_of d.value (whole around)) _ h)
    (defined_short around made d.name d.sort d.value (first_part (demands_of d.value (whole around)) _ h) k)

abbrev Short : Expr → Type 0
Short e = (around : Around) (made : Made) (sorts : List Sort) → Holds (source.body_of e around) → AreShort made.blocks
    → AreShort (blocks_of around.numbers e made sorts).0

several_short : (around : Around) (es : List Expr) (made : Made) (sorts : List Sort)
    → Holds (flat_map (λ (e : Expr × Look). demands_of e.0 (whole around)) (looks es)) → AreShort made.blocks
    → AreShort (each_result around.numbers (map (λ (e : Expr × Blocks around.numbers). e.0) (map (λ e. (e, blocks_of around.numbers e)) es)) made sorts).0
several_short around es made sorts h k =
    subst (λ (l : List Expr). AreShort (each_result around.numbers l made sorts).0) (sym (firsts (blocks_of around.numbers) es)) (each_short around es made sorts h k)

values_short : (vs : List ((e : Expr) × Short e)) (around : Around) (made : Made) (sorts : List Sort)
    → Holds (body_demands (looks (map (λ e. e.0) vs)) around) → AreShort made.blocks
    → AreShort (body_blocks around.numbers (map (λ e. (e, blocks_of around.numbers e)) (map (λ e. e.0) vs)) made sorts).0
unfolding looks
values_short [] around made sorts h k = k
values_short (e ∷ []) around made sorts h k = e.1 around made sorts h k
values_short (e ∷ d ∷ vs) around made sorts h k = several_short around (e.0 ∷ d.0 ∷ map (λ e. e.0) vs) made sorts h k

body_at : (e : Expr) (x : Opened) → e.node ≡ roll-Node x → source.body_of e ≡ source.body_node e (layer_of (Expr × Look) (λ c. (c, source.body_of c)) x)
unfolding source.body_of
body_at e x is = beside_rolled Look source.body_node e x is

-- by what the node of an expression tells
short_by : (e : Expr) (x : Opened) → e.node ≡ roll-Node x
    → ((around : Around) (made : Made) (sorts : List Sort) → Holds (source.body_node e (layer_of (Expr × Look) (λ c. (c, source.body_of c)) x) around)
    → AreShort made.blocks
    → AreShort (blocks_node around.numbers e (layer_of (Expr × Blocks around.numbers) (λ c. (c, blocks_of around.numbers c)) x) made sorts).0)
    → Short e
short_by e x is f = λ around made sorts h k.
    subst (λ (b : Blocks around.numbers). AreShort (b made sorts).0) (sym (blocks_at around.numbers e x is))
    (f around made sorts (subst (λ (l : Look). Holds (l around)) (body_at e x is) h) k)

parens_short : (around : Around) (b : Bool) (e of : Expr) (made : Made) (sorts : List Sort) → Short of
    → Holds ((if b then source.body_of of else (λ around. demands_of e (whole around))) around) → AreShort made.blocks
    → AreShort ((if b then blocks_of around.numbers of else each_result around.numbers (e ∷ [])) made sorts).0
parens_short around true e of made sorts f h k = f around made sorts h k
parens_short around false e of made sorts f h k = only_short around e made sorts h k

spine_step : (e : Expr) (y : Proved Short) → e.node ≡ roll-Node (without Short y) → Short e
unfolding looks
spine_step e (Node-F.Parens of) is = short_by e (Node-F.Parens of.0) is
    (λ around made sorts h k. parens_short around (is_let (form e)) e of.0 made sorts of.1 h k)
spine_step e (Node-F.Let ds vs) is =
    short_by e (Node-F.Let (map (λ d. d.0) ds) (map (λ v. v.0) vs)) is (λ around made sorts h k.
    values_short vs (with_arrays around (definition_looks (map (λ d. d.0) ds)))
    (all_defined around.numbers made (definition_blocks around.numbers (map (λ d. d.0) ds))) sorts
    (last_part (body_definitions around (definition_looks (map (λ d. d.0) ds))) _ h)
    (definitions_short around (map (λ d. d.0) ds) made (first_part (body_definitions around (definition_looks (map (λ d. d.0) ds))) _ h) k))
spine_step e y is = short_by e (without Short y) is (λ around made sorts h k. only_short around e made sorts h k)

spine_short : (e : Expr) → Short e
spine_short = tree_induction Short spine_step

main_short : (around : Around) (es : List Expr) (made : Made) (sorts : List Sort) → Holds (source.main_demands es around) → AreShort made.blocks
    → AreShort (main_blocks around.numbers es made sorts).0
unfolding looks
main_short around [] made sorts h k = k
main_short around (e ∷ []) made sorts h k = spine_short e around made sorts h k
main_short around (e ∷ d ∷ es) made sorts h k = several_short around (e ∷ d ∷ es) made sorts h k

-- ---- sources

-- the demands on the last function are among those on all functions
last_holds : (numbers : Numbers) (functions init before : List Function) (main : Function)
    → Holds (functions_demands numbers functions before (init ++ main ∷ []))
    → (earlier : List Function) × Holds (last_demands numbers functions earlier main)
last_holds numbers functions [] before main h = (before, h)
last_holds numbers functions (f ∷ []) before main h = (before ++ f ∷ [], last_part (source.function_demands numbers functions before f) _ h)
last_holds numbers functions (f ∷ g ∷ init) before main h = last_holds numbers functions (g ∷ init) (before ++ f ∷ []) main
    (last_part (source.function_demands numbers functions before f) _ h)

none_short : AreShort []
unfolding AreShort
none_short = All-nil (λ (b : Block). IsShort b.body)

program_short : (numbers : Numbers) (ranges : List Range) (functions l : List Function) → l ≡ reverse functions
    → Holds (functions_demands numbers functions [] functions)
    → AreShort (program_blocks numbers ranges l).blocks
program_short numbers ranges functions [] is h = none_short
program_short numbers ranges functions (main ∷ others) is h =
    let all : functions ≡ reverse others ++ main ∷ [] = sym (reverse-reverse functions) ∙ (ap reverse (sym is) ∙ reverse-append (main ∷ []) others) in
    let found = last_holds numbers functions (reverse others) [] main
    (subst (λ (fs : List Function). Holds (functions_demands numbers functions [] fs)) all h) in
    main_short (record (source.around_function numbers functions found.0) { arrays = source.array_parameters main.parameters }) main.values _
    main.results found.1 none_short

-- where all demands on a source hold, its blocks are short
shaped_short : (p : Program) → Holds (demands p) → AreShort (shaped p).blocks
unfolding shaped demands
shaped_short p h =
    program_short (numbers_of p) p.ranges p.functions (reverse p.functions) refl
    (last_part (flat_map (source.one_range_demands (numbers_of p)) p.ranges) _ (last_part (source.constants_demands (λ name. None) p.constants) _ h))

-- and where its bounds are ordinary, its blocks have ranges
pub have_ranges : (p : Program) → first_refusal (demands p) ≡ None → HaveBounds (shaped p).blocks → HaveRanges (shaped p).blocks
unfolding Holds
have_ranges p h k = ranges_of (shaped p).blocks k (shaped_short p h)

-- ---- parameters

between_short : (low high : Option ℤ) → is_some low ≡ true → is_some high ≡ true → nat_le (over low high 0 (λ lo n. n)) 4096 ≡ true
    → (extent_over (or_zero low) (or_zero high)).n ≤ 4096
between_short (Some lo) (Some hi) l h short = at_most _ short
between_short None high l h short = absurd (cc)
between_short (Some lo) None l h short = absurd (cc)

range_short : (numbers : Numbers) (r : Range) → Holds (source.one_range_demands numbers r) → (extent_over (bound_in numbers r.low) (bound_in numbers r.high)).n ≤ 4096
range_short numbers r h =
    let after = last_part (manifest_demand numbers r.low) _ h in
    between_short (manifest numbers r.low) (manifest numbers r.high) (holds _ _ (first_part (manifest_demand numbers r.low) _ h))
    (holds _ _ (first_part (manifest_demand numbers r.high) _ after)) (holds _ _ (last_part (manifest_demand numbers r.high) _ after))

first_short : (b : Bool) (e o : Extent) → e.n ≤ 4096 → o.n ≤ 4096 → (if b then e else o).n ≤ 4096
first_short true e o h k = h
first_short false e o h k = k

extent_short : (numbers : Numbers) (ranges : List Range) → Holds (flat_map (source.one_range_demands numbers) ranges) → (name : Name)
    → (extent_of (bound_in numbers) ranges name).n ≤ 4096
extent_short numbers [] h name = at_most 0 refl
extent_short numbers (r ∷ ranges) h name =
    first_short (bytes_eq r.name.name name) (extent_over (bound_in numbers r.low) (bound_in numbers r.high)) (extent_of (bound_in numbers) ranges name)
    (range_short numbers r (first_part (source.one_range_demands numbers r) _ h))
    (extent_short numbers ranges (last_part (source.one_range_demands numbers r) _ h) name)

abbrev IsShortExtent : Option Extent → Type 0
IsShortExtent None = Unit {0}
IsShortExtent (Some extent) = extent.n ≤ 4096

input_short : (numbers : Numbers) (ranges : List Range) → Holds (flat_map (source.one_range_demands numbers) ranges) → (p : Parameter)
    → IsShortExtent (input_of (bound_in numbers) ranges p).extent
input_short numbers ranges h p =
    elim p.sort as (λ s. IsShortExtent (elim s as (λ s. Input) [
      | of.Basic b ↦ record { name = p.name.name; basic = b; extent = None }
      | of.Array b ↦ record { name = p.name.name; basic = b; extent = Some (extent_of (bound_in numbers) ranges p.name.name) }
    ]).extent) [
      | of.Basic b ↦ tt
      | of.Array b ↦ extent_short numbers ranges h p.name.name
    ]

inputs_short : (numbers : Numbers) (ranges : List Range) → Holds (flat_map (source.one_range_demands numbers) ranges) → (ps : List Parameter)
    → All (λ (p : Input). IsShortExtent p.extent) (inputs_of (bound_in numbers) ranges ps)
inputs_short numbers ranges h [] = All-nil (λ (p : Input). IsShortExtent p.extent)
inputs_short numbers ranges h (p ∷ ps) =
    All-cons (λ (p : Input). IsShortExtent p.extent) (input_of (bound_in numbers) ranges p) (inputs_of (bound_in numbers) ranges ps)
    (input_short numbers ranges h p) (inputs_short numbers ranges h ps)

parameters_short : (numbers : Numbers) (ranges : List Range) (functions : List Function) → Holds (flat_map (source.one_range_demands numbers) ranges)
    → All (λ (p : Input). IsShortExtent p.extent) (program_blocks numbers ranges functions).parameters
parameters_short numbers ranges [] h = All-nil (λ (p : Input). IsShortExtent p.extent)
parameters_short numbers ranges (main ∷ others) h = inputs_short numbers ranges h main.parameters

-- where all demands on a source hold, its parameters are short
shaped_parameters_short : (p : Program) → Holds (demands p) → All (λ (p : Input). IsShortExtent p.extent) (shaped p).parameters
unfolding shaped demands
shaped_parameters_short p h =
    parameters_short (numbers_of p) p.ranges (reverse p.functions)
    (first_part (flat_map (source.one_range_demands (numbers_of p)) p.ranges) _ (last_part (source.constants_demands (λ name. None) p.constants) _ h))

in_extent : (extent : Option Extent) → IsBoundedRange extent → IsShortExtent extent → HasExtent extent
in_extent None h k = tt
in_extent (Some extent) h k = record { short = k; low = h.low; high = h.high }

-- and where its bounds are ordinary, its parameters have ranges
pub have_extents : (p : Program) → first_refusal (demands p) ≡ None → HaveBoundedExtents (shaped p).parameters → All (λ (p : Input). HasExtent p.extent) (shaped p).parameters
unfolding Holds
have_extents p h k = λ i d less. in_extent _ (k i d less) (shaped_parameters_short p h i d less)
