-- Programs in blocks as flat programs: numbers stand in place of names, and the body of a function in place of each call.
use Rattle.std.specs.Prelude.{ℕ, ℤ, ◌+◌, List, [], ◌∷◌, ◌++◌, map, fold, length, reverse, Option, Some, None, is_none, if◌then◌else◌, bytes_eq}
use Rattle.df_names.specs.Maps.{Names, nothing, bind}
use Rattle.df_values.specs.declared.kinds.Op.{Op}
use Rattle.df_values.specs.declared.kinds.Binary.{Binary}
use Rattle.df_values.specs.declared.kinds.Binary.TheVariants.{Operation, Comparison}
use Rattle.df_values.specs.declared.kinds.Unary.TheVariants.{Negation, Inversion, Inquiry}
use Rattle.df_values.specs.declared.values.Value.TheVariants.{Int, Truth, Error}
use Rattle.df_values.specs.declared.values.ErrorValue.TheVariants.{Undef}
use Rattle.df_syntax.specs.declared.tree.Expr.{Expr}
use Rattle.df_syntax.specs.declared.tree.Named.{Named}
use Rattle.df_syntax.specs.declared.tree.Sort.{Sort}
use Rattle.df_syntax.specs.declared.tree.Parameter.{Parameter}
use Rattle.df_syntax.specs.declared.tree.Node.TheOpen.{Node-F}
use Rattle.df_syntax.specs.declared.program.Function.{Function}
use Rattle.df_values.specs.declared.inputs.Extent.{Extent}
use Rattle.df_values.specs.declared.inputs.Input.{Input}
use Rattle.df_syntax.specs.declared.piped.Body as piped
use Rattle.df_syntax.specs.declared.piped.Body.TheVariants as from
use Rattle.df_syntax.specs.declared.piped.Block as piped_block
use Rattle.df_syntax.specs.declared.piped.Outcome.{Outcome}
use Rattle.df_syntax.specs.declared.piped.Outcome.TheVariants as outcome
use Rattle.df_syntax.specs.declared.piped.Piped.{Piped}
use Rattle.df_syntax.specs.Trees.{Layer}
use Rattle.df_syntax.specs.Besides.{fold_beside}
use Rattle.df_syntax.specs.Meaning.{Name, ordinary}
use Rattle.df_syntax.specs.WellShaped.{Look, look_of}
use Rattle.df_core.specs.declared.terms.Term.{Term}
pub use Rattle.df_flattened.specs.declared.standing.Standing.{Standing}
pub use Rattle.df_flattened.specs.declared.standing.Standing.TheVariants.{Local, Index, Outer, Elements, Own}
use Rattle.df_core.specs.declared.terms.Term.TheVariants as t
use Rattle.df_core.specs.declared.flat.Body.{Body}
use Rattle.df_core.specs.declared.flat.Body.TheVariants as to
use Rattle.df_core.specs.declared.flat.Block.{Block}
use Rattle.df_core.specs.declared.flat.Flat.{Flat}

-- what the names stand for, how many locals are bound, and the index of the block; a scalar and a function have none
pub record Scope : Type 0 where
  pub names : Names Standing
  pub depth : ℕ
  pub index : Option Name

-- what a function's name gives at a depth: its body, with the arguments as the locals from there on
abbrev pub Bodies : Type 0
Bodies = Name → Option (ℕ → Term)

abbrev pub undef : Term
undef = t.Constant (Error Undef)

-- ---- names

abbrev pub named : Option Standing → Term
named (Some (Local k)) = t.Local k
named (Some Index) = t.Index
named (Some (Outer k)) = t.Outer k
named _ = undef

abbrev pub element : ℕ → Option ℤ → Term
element k None = undef
element k (Some c) = t.Element k c

abbrev pub accessed : Option Standing → Option ℤ → Term
accessed (Some (Elements k)) c = element k c
accessed (Some Own) c = t.Previous
accessed _ c = undef

-- the index itself in a scalar, and how far from the index in a block
abbrev pub subscript : Option Name → Look → Option ℤ
subscript None look = ordinary look.manifest
subscript (Some index) look = look.offset index

-- ---- expressions

-- one local more under a name
abbrev pub bound : Scope → Name → Scope
bound scope name = record scope { names = bind scope.names name (Local scope.depth); depth = scope.depth + 1 }

-- one local more without a name
abbrev pub deeper : Scope → Scope
deeper scope = record scope { depth = scope.depth + 1 }

-- an expression beside its term, by the scope it stands in
abbrev pub Beside : Type 0
Beside = Expr × (Scope → Term)

abbrev pub pair : Term → Binary → Term → Term
pair first with operand = t.Chain first (record { with = with; operand = operand } ∷ [])

-- each definition in the scope with those before it, and the scope behind them
abbrev pub define : List Term × Scope → Named × Sort × Beside → List Term × Scope
define so_far d = (so_far.0 ++ d.2.1 so_far.1 ∷ [], bound so_far.1 d.0.name)

abbrev pub let_of : List Term × Scope → List Beside → Term
let_of definitions (value ∷ []) = t.Let definitions.0 (value.1 definitions.1)
let_of definitions _ = undef

-- each argument in the caller's names, behind those before it
abbrev pub arguments_of : Scope → List Beside → List Term
arguments_of scope [] = []
arguments_of scope (a ∷ arguments) = a.1 scope ∷ arguments_of (deeper scope) arguments

abbrev pub called : Scope → List Beside → Option (ℕ → Term) → Term
called scope arguments None = undef
called scope arguments (Some body) = t.Let (arguments_of scope arguments) (body scope.depth)

abbrev pub node_flattened : Bodies → Expr → Layer Beside → Scope → Term
node_flattened bodies e (Node-F.Number v) scope = t.Constant (Int v)
node_flattened bodies e (Node-F.Truth v) scope = t.Constant (Truth v)
node_flattened bodies e (Node-F.Error v basic) scope = t.Constant (Error v)
node_flattened bodies e (Node-F.Name name) scope = named (scope.names name)
node_flattened bodies e (Node-F.Access name at) scope = accessed (scope.names name) (subscript scope.index (look_of at.0))
node_flattened bodies e (Node-F.Call name arguments) scope = called scope arguments (bodies name)
node_flattened bodies e (Node-F.Chain first rest) scope =
    t.Chain (first.1 scope) (map (λ (l : Op × Beside). record { with = Operation l.0; operand = l.1.1 scope }) rest)
node_flattened bodies e (Node-F.Compare rel left right) scope = pair (left.1 scope) (Comparison rel) (right.1 scope)
node_flattened bodies e (Node-F.TwoPlace op left right) scope = pair (left.1 scope) (Operation op) (right.1 scope)
node_flattened bodies e (Node-F.Negate of) scope = t.Change Negation (of.1 scope)
node_flattened bodies e (Node-F.Invert of) scope = t.Change Inversion (of.1 scope)
node_flattened bodies e (Node-F.Test test of) scope = t.Change (Inquiry test) (of.1 scope)
node_flattened bodies e (Node-F.Parens of) scope = of.1 scope
node_flattened bodies e (Node-F.If arms last) scope =
    t.If (map (λ (a : Beside × Beside). record { test = a.0.1 scope; value = a.1.1 scope }) arms) (last.1 scope)
node_flattened bodies e (Node-F.Let definitions values) scope = let_of (fold define ([], scope) definitions) values
node_flattened bodies e _ scope = undef

-- the term of an expression
unfoldable pub flatten : Bodies → Expr → Scope → Term
flatten bodies = fold_beside (Scope → Term) (node_flattened bodies)

-- ---- functions

-- the parameters alone, as the locals from a depth on
abbrev pub parameters_scope : ℕ → List Parameter → Scope
parameters_scope depth parameters =
    fold (λ (scope : Scope) (p : Parameter). bound scope p.name.name) (record { names = nothing; depth = depth; index = None }) parameters

abbrev pub only_body : (Expr → Scope → Term) → List Parameter → List Expr → Option (ℕ → Term)
only_body flattened parameters (value ∷ []) = Some (λ depth. flattened value (parameters_scope depth parameters))
only_body flattened parameters _ = None

-- from the last function to the first: a body may call the functions before its own
abbrev pub bodies : List Function → Bodies
bodies [] name = None
bodies (f ∷ before) name = if bytes_eq f.name.name name then only_body (flatten (bodies before)) f.parameters f.values else bodies before name

-- ---- blocks

abbrev pub alone : Names Standing → Scope
alone names = record { names = names; depth = 0; index = None }

abbrev pub in_block : Names Standing → Name → Scope
in_block names index = record { names = bind names index Index; depth = 0; index = Some index }

abbrev pub body_flattened : (Expr → Scope → Term) → Names Standing → piped.Body → Body
body_flattened flattened names (from.Construct index lo n elem) = to.Construct lo n (flattened elem (in_block names index))
body_flattened flattened names (from.Fold index op lo n elem) = to.Fold op lo n (flattened elem (in_block names index))
body_flattened flattened names (from.Recur index array lo n first elem) =
    to.Recurrence lo n (flattened first (alone names)) (flattened elem (in_block (bind names array Own) index))
body_flattened flattened names (from.Scalar expr) = to.Scalar (flattened expr (alone names))

-- what a block's name stands for
abbrev pub standing_of : ℕ → piped.Body → Standing
standing_of number (from.Construct index lo n elem) = Elements number
standing_of number (from.Fold index op lo n elem) = Outer number
standing_of number (from.Recur index array lo n first elem) = Elements number
standing_of number (from.Scalar expr) = Outer number

abbrev pub bind_some : Names Standing → Option Name → Standing → Names Standing
bind_some names None standing = names
bind_some names (Some name) standing = bind names name standing

abbrev pub blocks_flattened : (Expr → Scope → Term) → Names Standing → ℕ → List piped_block.Block → List Block
blocks_flattened flattened names number [] = []
blocks_flattened flattened names number (block ∷ blocks) =
    record { body = body_flattened flattened names block.body; is_result = is_none block.name }
    ∷ blocks_flattened flattened (bind_some names block.name (standing_of number block.body)) (number + 1) blocks

-- ---- programs

abbrev pub input_standing : Option Extent → ℕ → Standing
input_standing None number = Outer number
input_standing (Some extent) number = Elements number

abbrev pub inputs_bound : Names Standing → ℕ → List Input → Names Standing
inputs_bound names number [] = names
inputs_bound names number (p ∷ parameters) = inputs_bound (bind names p.name (input_standing p.extent number)) (number + 1) parameters

abbrev pub number_of : ℕ → Outcome → ℕ
number_of parameters (outcome.Parameter k) = k
number_of parameters (outcome.Block k) = parameters + k

unfoldable pub flattened : Piped → Flat
flattened p = record {
  parameters = p.parameters;
  blocks = blocks_flattened (flatten (bodies (reverse p.functions))) (inputs_bound nothing 0 p.parameters) (length p.parameters) p.blocks;
  results = map (number_of (length p.parameters)) p.results;
}
