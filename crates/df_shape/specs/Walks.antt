-- What is around an expression, by what a walk and its context hold; and the demands on an expression, by its node.
use Rattle.std.specs.Prelude.{◌≡◌, Bool, true, false, ◌||◌, if◌then◌else◌, List, [], ◌++◌, map, flat_map, Option, Some, None, bytes_eq}
use Rattle.std.specs.Option.{is_some}
use Rattle.df_values.specs.declared.kinds.Op.{Op}
use Rattle.df_syntax.specs.declared.tree.Named.{Named}
use Rattle.df_syntax.specs.declared.tree.Sort.{Sort}
use Rattle.df_syntax.specs.declared.tree.Expr.{Expr}
use Rattle.df_syntax.specs.declared.tree.Link.{Link}
use Rattle.df_syntax.specs.declared.tree.Arm.{Arm}
use Rattle.df_syntax.specs.declared.tree.Definition.{Definition}
use Rattle.df_syntax.specs.declared.tree.Assign.{Assign}
use Rattle.df_syntax.specs.declared.tree.Node.{out-Node}
use Rattle.df_syntax.specs.declared.tree.Node.TheOpen.{Node-F}
use Rattle.df_syntax.specs.Trees.{Layer, layer_of}
use Rattle.df_syntax.specs.Meaning.{Name}
use Rattle.df_syntax.specs.SourceForms.{is_array}
use Rattle.df_names.specs.Found.{names_of}
use Rattle.df_shape.specs.declared.part.Part.{Part}
use Rattle.df_shape.specs.declared.part.Part.TheVariants.{Whole, First, Next}
use Rattle.df_shape.specs.declared.context.Context.{Context}
use Rattle.df_shape.specs.declared.walk.Walk.{Walk}
use Rattle.df_shape.specs.Demands.{Demands, Around, Look, demands_of, loop_demands}

-- whether this is the array of the recurrence around
abbrev pub is_own : Option Name → Name → Bool
is_own None name = false
is_own (Some own) name = bytes_eq own name

abbrev pub around_of : Walk → Context → Around
around_of walk c =
    record {
      numbers = names_of walk.numbers.now;
      arrays = λ name. is_own c.own name || is_some (names_of walk.arrays.now name);
      callable = λ name. is_some (names_of walk.callable.now name);
      gives = λ name. is_some (names_of walk.gives.now name);
      part = c.part;
    }

-- no recurrence is around a whole right side or result
abbrev pub Stands : Context → Type 0
Stands c = c.part ≡ Whole → c.own ≡ None

-- ---- nodes

-- an expression beside its demands
abbrev pub looked : Expr → Expr × Look
looked e = (e, demands_of e)

-- the node of an expression, its expressions as they are
abbrev pub plain : Expr → Layer Expr
plain e = layer_of Expr (λ c. c) (out-Node e.node)

-- and each of its expressions beside its demands
abbrev pub with_looks : Expr → Layer (Expr × Look)
with_looks e = layer_of (Expr × Look) looked (out-Node e.node)

abbrev pub looks : List Expr → List (Expr × Look)
looks = map looked

abbrev pub link_looks : List Link → List (Op × (Expr × Look))
link_looks = map (λ (l : Link). (l.op, looked l.operand))

abbrev pub arm_looks : List Arm → List ((Expr × Look) × (Expr × Look))
arm_looks = map (λ (a : Arm). (looked a.test, looked a.value))

abbrev pub definition_looks : List Definition → List (Named × Sort × (Expr × Look))
definition_looks = map (λ (d : Definition). (d.name, d.sort, looked d.value))

abbrev pub assign_looks : List Assign → List (Named × (Expr × Look))
assign_looks = map (λ (a : Assign). (a.name, looked a.value))

-- the demands on the operands of a chain behind its first one, and on arms
abbrev pub links_demands : Around → List (Op × (Expr × Look)) → Demands
links_demands around = flat_map (λ (l : Op × (Expr × Look)). l.1.1 around)

abbrev pub arms_demands : Around → List ((Expr × Look) × (Expr × Look)) → Demands
arms_demands around = flat_map (λ (a : (Expr × Look) × (Expr × Look)). a.0.1 around ++ a.1.1 around)

-- ---- the parts of a recurrence

abbrev pub is_first : Part → Bool
is_first First = true
is_first part = false

abbrev pub is_next : Part → Bool
is_next (Next index own) = true
is_next part = false

-- the context of the array with one element more
abbrev pub next_of : Definition → Definition → Context
next_of i t = record { part = Next i.name.name t.name.name; own = if is_array t.sort then Some t.name.name else None }

-- what is demanded inside a loop
abbrev pub turns_demands : Around → Layer (Expr × Look) → Demands
turns_demands around (Node-F.For definitions test assigns last) = loop_demands around definitions assigns
turns_demands around node = []
