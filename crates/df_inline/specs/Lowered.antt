-- The parts of a form, by the terms of the expressions in them, and what function values give.
use Rattle.std.specs.Prelude.{◌≡◌, ◌≤◌, ◌<◌, List, [], ◌∷◌, ℕ, length, map, reverse, take, slice_get, Option, Some, None, Result, IfOk}
use Rattle.std.specs.declared.alloc.Global.{Global}
use denote.Ref.{Bor}
use Rattle.df_values.specs.declared.memory.Memory.{Memory}
use Rattle.df_values.specs.declared.kinds.Binary.TheVariants.{Operation}
use Rattle.df_syntax.specs.declared.tree.Named.{Named}
use Rattle.df_syntax.specs.declared.tree.Sort.{Sort}
use Rattle.df_syntax.specs.declared.tree.Expr.{Expr}
use Rattle.df_syntax.specs.declared.tree.Link.{Link}
use Rattle.df_syntax.specs.declared.tree.Arm.{Arm}
use Rattle.df_syntax.specs.declared.tree.Definition.{Definition}
use Rattle.df_syntax.specs.declared.program.Function.{Function}
use Rattle.df_syntax.specs.Meaning.{Name}
use Rattle.df_core.specs.declared.terms.Term.{Term}
use Rattle.df_core.specs.declared.terms.Step.{Step}
use Rattle.df_core.specs.declared.terms.Branch.{Branch}
use Rattle.df_core.specs.declared.terms.Term.TheVariants as t
use Rattle.df_flattened.specs.Flattened.{Scope, Bodies, Beside, undef, flatten, bodies, only_body}
use Rattle.df_inline.specs.declared.table.Table.{Table}
use Rattle.df_inline.specs.Tables.{Knows}

abbrev pub step_of : Bodies → Scope → Link → Step
step_of of scope l = record { with = Operation l.op; operand = flatten of l.operand scope }

abbrev pub branch_of : Bodies → Scope → Arm → Branch
branch_of of scope a = record { test = flatten of a.test scope; value = flatten of a.value scope }

abbrev pub besides : Bodies → List Expr → List Beside
besides of es = map (λ (e : Expr). (e, flatten of e)) es

abbrev pub listed : Bodies → List Definition → List (Named × Sort × Beside)
listed of ds = map (λ (d : Definition). (d.name, d.sort, (d.value, flatten of d.value))) ds

-- a body at a depth
abbrev pub at_depth : Option (ℕ → Term) → ℕ → Option Term
at_depth None depth = None
at_depth (Some body) depth = Some (body depth)

-- a body behind its arguments
abbrev pub behind : List Term → Option Term → Term
behind arguments None = undef
behind arguments (Some body) = t.Let arguments body

-- an only value
abbrev pub only_of : Scope → List Beside → Option Term
only_of scope (value ∷ []) = Some (value.1 scope)
only_of scope _ = None

-- A function value that gives the bodies of at most so many functions as these, by a table that knows them.
pub record Gives (functions : List Function) (table : Table) (pre : Global → Bor Table → Bor (List Function) → Bor Name → ℕ → Type 0)
    (post : Global → Bor Table → Bor (List Function) → Bor Name → ℕ → Result (Option Term) Memory → Type 0) : Type 0 where
  pub knows : Knows functions table
  pub callable : (alloc : Global) (t : Bor Table) (fs : Bor (List Function)) (name : Bor Name) (depth : ℕ) → length fs.now ≤ length functions → Knows fs.now t.now → pre alloc t fs name depth
  pub answers : (alloc : Global) (t : Bor Table) (fs : Bor (List Function)) (name : Bor Name) (depth : ℕ) (r : Result (Option Term) Memory) → length fs.now ≤ length functions
      → Knows fs.now t.now → post alloc t fs name depth r → IfOk r (λ o. o ≡ at_depth (bodies (reverse fs.now) name.now) depth)

-- what a call of the function at a place gives, by the functions before it
pub record IsBodyAt (functions : List Function) (place : ℕ) (body : Option (ℕ → Term)) : Type 0 where
  pub function : Function
  pub at : slice_get functions place ≡ Some function
  pub gives : body ≡ only_body (flatten (bodies (reverse (take place functions)))) function.parameters function.values

-- the place of the last function of a name, if there is one
abbrev pub Finds : List Function → Name → Option ℕ → Type 0
Finds functions name None = bodies (reverse functions) name ≡ None
Finds functions name (Some place) = (place < length functions) × IsBodyAt functions place (bodies (reverse functions) name)
