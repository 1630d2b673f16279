-- What is demanded of each node of an expression, and the type that it has: a fold over trees.
use Rattle.std.specs.Prelude.{ℕ, ◌==◌, ◌&&◌, nat_lt, Bool, true, false, List, [], ◌∷◌, ◌++◌, map, flat_map, length, Option, Some, None, slice_get, if◌then◌else◌}
use Rattle.std.specs.Option.{is_none}
use Rattle.df_io.specs.declared.place.Place.{Place}
use Rattle.df_values.specs.declared.kinds.Op.{Op}
use Rattle.df_syntax.specs.declared.tree.Named.{Named}
use Rattle.df_syntax.specs.declared.tree.Definition.{Definition}
use Rattle.df_syntax.specs.declared.tree.Assign.{Assign}
use Rattle.df_syntax.specs.declared.tree.Sort.{Sort}
use Rattle.df_syntax.specs.declared.tree.Sort.TheVariants as of
use Rattle.df_syntax.specs.declared.tree.Expr.{Expr}
use Rattle.df_syntax.specs.declared.tree.Node.{out-Node}
use Rattle.df_syntax.specs.declared.tree.Node.TheOpen.{Node-F}
use Rattle.df_syntax.specs.declared.program.Function.{Function}
use Rattle.df_syntax.specs.Trees.{Layer, layer_of, fold_tree}
use Rattle.df_types.specs.declared.answers.CheckAnswer.TheVariants.{UnknownName, NameTwice, WrongType, WrongArity}
use Rattle.df_types.specs.declared.entry.Entry.{Entry}
use Rattle.df_types.specs.declared.entry.Entry.TheVariants as entry
use Rattle.df_names.specs.Maps.{nothing, bind}
use Rattle.df_types.specs.Scopes.{Names, Binding, bound}
use Rattle.df_types.specs.Demands.{Demand, demand}
use Rattle.df_types.specs.Sorts.{integer, boolean, is_same, is_basic, is_array, element_of, array_of, operator_sort, chain_sort, is_equality, is_of_any, is_value, value_sort}

-- What an expression is looked at for, where names stand for what they stand for.
pub record Look : Type 0 where
  pub place : Place  -- its first token
  pub sort : Names → Sort  -- its type, where its demands hold
  pub demands : Names → List Demand  -- what is demanded of it and in it, from left to right
  pub count : ℕ  -- how many values it gives as a whole body
  pub spread : List Sort → Names → List Demand  -- what is demanded of it as a whole body of several results

-- ---- parts

-- a part that is to be of a type: it is checked wholly, and then its type is compared
abbrev pub asked : Look → Sort → Names → List Demand
asked part sort names = part.demands names ++ demand (is_same (part.sort names) sort) (WrongType part.place) ∷ []

-- a part that is to be of a basic type
abbrev pub asked_basic : Look → Names → List Demand
asked_basic part names = part.demands names ++ demand (is_basic (part.sort names)) (WrongType part.place) ∷ []

-- a part that may be of any basic type, or is to be an integer
abbrev pub asked_operand : Bool → Look → Names → List Demand
asked_operand any part names = if any then asked_basic part names else asked part integer names

abbrev pub operand_sort : Bool → Look → Names → Sort
operand_sort any part names = if any then part.sort names else integer

-- parts that are to be of these types
abbrev pub asked_each : List Look → List Sort → Names → List Demand
asked_each [] sorts names = []
asked_each (p ∷ ps) [] names = []
asked_each (p ∷ ps) (s ∷ ss) names = asked p s names ++ asked_each ps ss names

-- a name that is to be bound stands for nothing so far
abbrev pub fresh : Named → Names → Demand
fresh named names = demand (is_none (names named.name)) (NameTwice named.name named.place)

-- a name that is to stand for a value
abbrev pub known : List ℕ → Place → Names → Demand
known name place names = demand (is_value (names name)) (UnknownName name place)

-- a name that is to stand for an array
abbrev pub known_array : List ℕ → Place → Names → List Demand
known_array name place names = known name place names ∷ demand (is_array (value_sort (names name))) (WrongType place) ∷ []

-- ---- operators

-- the operands of a chain behind its first one
abbrev pub asked_links : Sort → List (Op × Look) → Names → List Demand
asked_links sort links names = flat_map (λ l. asked l.1 sort names) links

-- tests and values of a conditional
abbrev pub asked_arms : Sort → List (Look × Look) → Names → List Demand
asked_arms sort arms names = flat_map (λ a. asked a.0 boolean names ++ asked a.1 sort names) arms

-- the type of an `if` is that of its first value
abbrev pub if_sort : List (Look × Look) → Look → Names → Sort
if_sort [] last names = last.sort names
if_sort (a ∷ as_) last names = a.1.sort names

-- ---- calls

-- the function that a name stands for, among these
abbrev pub function_at : List Function → Option Entry → Option Function
function_at functions (Some (entry.Function i)) = slice_get functions i
function_at functions standing = None

-- a call of it: as many arguments as it has parameters, one result, and then the arguments
abbrev pub call_demands : Option Function → List ℕ → Place → List Look → Names → List Demand
call_demands None name place arguments names = demand false (UnknownName name place) ∷ []
call_demands (Some f) name place arguments names =
    demand (length arguments == length f.parameters && length f.results == 1) (WrongArity place) ∷ asked_each arguments (map (λ p. p.sort) f.parameters) names

abbrev pub first_sort : List Sort → Sort
first_sort [] = integer
first_sort (s ∷ ss) = s

abbrev pub call_sort : Option Function → Sort
call_sort None = integer
call_sort (Some f) = first_sort f.results

-- ---- definitions

-- the names that definitions bind
abbrev pub defined : {A : Type 0} → List (Named × Sort × A) → List Binding
defined ds = map (λ d. (d.0, entry.Local d.1)) ds

-- the same, of definitions in a tree
abbrev pub locals : List Definition → List Binding
locals ds = map (λ d. (d.name, entry.Local d.sort)) ds

-- definitions and assignments with what a function gives for their values
abbrev pub typed : {A : Type 0} → (Expr → A) → List Definition → List (Named × Sort × A)
typed f ds = map (λ d. (d.name, d.sort, f d.value)) ds

abbrev pub given : {A : Type 0} → (Expr → A) → List Assign → List (Named × A)
given f as_ = map (λ a. (a.name, f a.value)) as_

-- each name is new, then its value is of its type; the name is in scope behind it
abbrev pub definition_demands : List (Named × Sort × Look) → Names → List Demand
definition_demands [] names = []
definition_demands (d ∷ ds) names = fresh d.0 names ∷ (asked d.2 d.1 names ++ definition_demands ds (bind names d.0.name (entry.Local d.1)))

-- an only value
abbrev pub let_sort : List Look → Names → Sort
let_sort [] names = integer
let_sort (v ∷ []) names = v.sort names
let_sort (v ∷ w ∷ vs) names = integer

-- outside a body a `let` has one value
abbrev pub let_demands : Place → List (Named × Sort × Look) → List Look → Names → List Demand
let_demands place ds (v ∷ []) names = definition_demands ds names ++ v.demands (bound (defined ds) names)
let_demands place ds vs names = demand false (WrongArity place) ∷ []

-- ---- blocks

-- the index is new and the bounds are integers
abbrev pub range_demands : Named → Look → Look → Names → List Demand
range_demands index low high names = fresh index names ∷ (asked low integer names ++ asked high integer names)

-- where the index is an integer
abbrev pub inside : Named → Names → Names
inside index names = bind names index.name (entry.Local integer)

-- each assigned name is a name of the loop, and its value of that name's type
abbrev pub assign_demands : Names → List (Named × Look) → Names → List Demand
assign_demands loop assigns names = flat_map (λ a. known a.0.name a.0.place loop ∷ asked a.1 (value_sort (loop a.0.name)) names) assigns

abbrev pub for_demands : List (Named × Sort × Look) → Look → List (Named × Look) → Look → Names → List Demand
for_demands ds test assigns last names =
    let inner = bound (defined ds) names in
    definition_demands ds names ++ (asked test boolean inner ++ (assign_demands (bound (defined ds) nothing) assigns inner ++ last.demands inner))

-- ---- bodies

-- how many values a list of expressions gives as a whole body: a `let` that stands alone gives those of its own body
abbrev pub count_of : List Look → ℕ
count_of [] = 0
count_of (v ∷ []) = v.count
count_of (v ∷ w ∷ vs) = length (v ∷ w ∷ vs)

-- a list of expressions as a whole body: a `let` that stands alone may give several results
abbrev pub body_demands : List Look → List Sort → Names → List Demand
body_demands (v ∷ []) results names = if nat_lt 1 (length results) then v.spread results names else asked_each (v ∷ []) results names
body_demands vs results names = asked_each vs results names

-- ---- the tables of nodes, for a source with these functions: what stands in none is in no source

-- loops and arrays
abbrev pub other_sort : Layer Look → Names → Sort
other_sort (Node-F.For ds test assigns last) names = last.sort (bound (defined ds) names)
other_sort (Node-F.Array at value) names = array_of (value.sort names)
other_sort (Node-F.Update name at value) names = value_sort (names name)
other_sort node names = integer

abbrev pub other_demands : Place → Layer Look → Names → List Demand
other_demands place (Node-F.For ds test assigns last) names = for_demands ds test assigns last names
other_demands place (Node-F.Array at value) names = asked at integer names ++ asked_operand true value names
other_demands place (Node-F.Update name at value) names = known_array name place names ++ (asked at integer names ++ asked value (element_of (value_sort (names name))) names)
other_demands place node names = demand false (WrongType place) ∷ []

-- values for all indices of a range
abbrev pub forall_sort : Layer Look → Names → Sort
forall_sort (Node-F.Construct index low high elem) names = array_of (elem.sort (inside index names))
forall_sort (Node-F.Fold index low high op elem) names = operator_sort op
forall_sort node names = other_sort node names

abbrev pub forall_demands : Place → Layer Look → Names → List Demand
forall_demands place (Node-F.Construct index low high elem) names = range_demands index low high names ++ asked_operand true elem (inside index names)
forall_demands place (Node-F.Fold index low high op elem) names = range_demands index low high names ++ asked elem (operator_sort op) (inside index names)
forall_demands place node names = other_demands place node names

-- conditionals and definitions
abbrev pub block_sort : Layer Look → Names → Sort
block_sort (Node-F.If arms last) names = if_sort arms last names
block_sort (Node-F.Let ds values) names = let_sort values (bound (defined ds) names)
block_sort node names = forall_sort node names

abbrev pub block_demands : Place → Layer Look → Names → List Demand
block_demands place (Node-F.If arms last) names = asked_arms (if_sort arms last names) arms names ++ asked last (if_sort arms last names) names
block_demands place (Node-F.Let ds values) names = let_demands place ds values names
block_demands place node names = forall_demands place node names

module _ (functions : List Function) where
  -- literals, names, accesses, calls and operators
  abbrev pub node_sort : Layer Look → Names → Sort
  node_sort (Node-F.Number value) names = integer
  node_sort (Node-F.Truth value) names = boolean
  node_sort (Node-F.Error value basic) names = of.Basic basic
  node_sort (Node-F.Name name) names = value_sort (names name)
  node_sort (Node-F.Access name at) names = element_of (value_sort (names name))
  node_sort (Node-F.Call name arguments) names = call_sort (function_at functions (names name))
  node_sort (Node-F.Chain first rest) names = chain_sort rest
  node_sort (Node-F.Compare rel left right) names = boolean
  node_sort (Node-F.Negate of) names = integer
  node_sort (Node-F.Invert of) names = boolean
  node_sort (Node-F.Parens of) names = of.sort names
  node_sort (Node-F.Test test of) names = boolean
  node_sort (Node-F.TwoPlace op left right) names = integer
  node_sort node names = block_sort node names

  abbrev pub node_demands : Place → Layer Look → Names → List Demand
  node_demands place (Node-F.Number value) names = []
  node_demands place (Node-F.Truth value) names = []
  node_demands place (Node-F.Error value basic) names = []
  node_demands place (Node-F.Name name) names = known name place names ∷ []
  node_demands place (Node-F.Access name at) names = known_array name place names ++ asked at integer names
  node_demands place (Node-F.Call name arguments) names = call_demands (function_at functions (names name)) name place arguments names
  node_demands place (Node-F.Chain first rest) names = asked first (chain_sort rest) names ++ asked_links (chain_sort rest) rest names
  node_demands place (Node-F.Compare rel left right) names = asked_operand (is_equality rel) left names ++ asked right (operand_sort (is_equality rel) left names) names
  node_demands place (Node-F.Negate of) names = asked of integer names
  node_demands place (Node-F.Invert of) names = asked of boolean names
  node_demands place (Node-F.Parens of) names = of.demands names
  node_demands place (Node-F.Test test of) names = asked_operand (is_of_any test) of names
  node_demands place (Node-F.TwoPlace op left right) names = asked left integer names ++ asked right integer names
  node_demands place node names = block_demands place node names

  -- as a whole body, where parentheses are read through
  abbrev pub node_count : Layer Look → ℕ
  node_count (Node-F.Parens of) = of.count
  node_count (Node-F.Let ds values) = count_of values
  node_count node = 1

  abbrev pub node_spread : Place → Layer Look → List Sort → Names → List Demand
  node_spread place (Node-F.Parens of) results names = of.spread results names
  node_spread place (Node-F.Let ds values) results names = definition_demands ds names ++ body_demands values results (bound (defined ds) names)
  node_spread place node results names = demand false (WrongArity place) ∷ []

  -- what a node is looked at for, by its type and its demands
  abbrev pub look_by : (Layer Look → Names → Sort) → (Place → Layer Look → Names → List Demand) → Place → Layer Look → Look
  look_by sort demands place node = record { place = place; sort = sort node; demands = demands place node; count = node_count node; spread = node_spread place node }

  abbrev pub node_look : Place → Layer Look → Look
  node_look = look_by node_sort node_demands

  -- what an expression is looked at for
  unfoldable pub look_of : Expr → Look
  look_of = fold_tree Look node_look

  -- the same by later tables alone
  abbrev pub by_table : (Layer Look → Names → Sort) → (Place → Layer Look → Names → List Demand) → Expr → Look
  by_table sort demands e = look_by sort demands e.place (layer_of Look look_of (out-Node e.node))

  unfoldable pub block_of : Expr → Look
  block_of = by_table block_sort block_demands

  unfoldable pub forall_of : Expr → Look
  forall_of = by_table forall_sort forall_demands

  unfoldable pub other_of : Expr → Look
  other_of = by_table other_sort other_demands
