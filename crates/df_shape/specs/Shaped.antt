-- A source of the accepted form as a program in blocks.
use Rattle.std.specs.Prelude.{ℕ, ◌+◌, ℤ, List, [], ◌∷◌, ◌++◌, map, length, reverse, Option, Some, None, if◌then◌else◌}
use Rattle.df_syntax.specs.declared.tree.Named.{Named}
use Rattle.df_syntax.specs.declared.tree.Sort.{Sort}
use Rattle.df_syntax.specs.declared.tree.Sort.TheVariants as of
use Rattle.df_syntax.specs.declared.tree.Parameter.{Parameter}
use Rattle.df_syntax.specs.declared.tree.Expr.{Expr}
use Rattle.df_syntax.specs.declared.tree.Node.TheOpen.{Node-F}
use Rattle.df_syntax.specs.declared.program.Range.{Range}
use Rattle.df_syntax.specs.declared.program.Function.{Function}
use Rattle.df_syntax.specs.declared.program.Program.{Program}
use Rattle.df_syntax.specs.declared.piped.Body.{Body}
use Rattle.df_syntax.specs.declared.piped.Body.TheVariants as body
use Rattle.df_syntax.specs.declared.piped.Block.{Block}
use Rattle.df_syntax.specs.declared.piped.Outcome.{Outcome}
use Rattle.df_syntax.specs.declared.piped.Outcome.TheVariants as outcome
use Rattle.df_syntax.specs.declared.piped.Piped.{Piped}
use Rattle.df_syntax.specs.Trees.{Layer, Opened}
use Rattle.df_syntax.specs.Besides.{fold_beside}
use Rattle.df_syntax.specs.Meaning.{Name}
use Rattle.df_syntax.specs.SourceForms.{Numbers, numbers_of, form, is_let, manifest, Recurrence, recurrence_of}
use Rattle.df_syntax.specs.SourceMeaning.{over, or_zero, inputs_of}
use Rattle.df_names.specs.Maps.{bind}
use Rattle.df_shape.specs.declared.standing.Standing.{Standing}
use Rattle.df_shape.specs.declared.standing.Standing.TheVariants as standing
use Rattle.df_shape.specs.Renamed.{Names, renamed, function_renamed}

-- ---- names

abbrev pub constant_standing : Option ℤ → Option Standing
constant_standing None = None
constant_standing (Some number) = Some (standing.Constant number)

-- where the constants alone are known
abbrev pub constant_names : Numbers → Names
constant_names numbers = λ name. constant_standing (numbers name)

abbrev pub standing_by : Sort → Outcome → Name → Standing
standing_by (of.Basic b) o name = standing.Scalar o
standing_by (of.Array b) o name = standing.Array o name

-- parameters, numbered from k
abbrev pub with_parameters : ℕ → List Parameter → Names → Names
with_parameters k [] names = names
with_parameters k (p ∷ ps) names = with_parameters (k + 1) ps (bind names p.name.name (standing_by p.sort (outcome.Parameter k) p.name.name))

-- ---- the right sides of definitions, and results

-- What has been made so far, and what the names stand for.
pub record Made : Type 0 where
  pub names : Names
  pub blocks : List Block

module _ (numbers : Numbers) where
  -- between two manifest bounds
  abbrev pub between : Expr → Expr → Body → (ℤ → ℕ → Body) → Body
  between low high = over (manifest numbers low) (manifest numbers high)

  abbrev pub recurrence_body : Names → Expr → Option Recurrence → Body
  recurrence_body names e None = body.Scalar (renamed names e)
  recurrence_body names e (Some r) =
      between r.low r.high (body.Scalar (renamed names e)) (λ lo n. body.Recur r.index r.array lo n (renamed names r.first) (renamed names r.elem))

  abbrev pub array_body : Names → Expr → Opened → Body
  array_body names e (Node-F.Construct index low high elem) =
      between low high (body.Scalar (renamed names e)) (λ lo n. body.Construct index.name lo n (renamed names elem))
  array_body names e node = recurrence_body names e (recurrence_of node)

  abbrev pub scalar_body : Names → Expr → Opened → Body
  scalar_body names e (Node-F.Fold index low high o elem) =
      between low high (body.Scalar (renamed names e)) (λ lo n. body.Fold index.name o lo n (renamed names elem))
  scalar_body names e node = body.Scalar (renamed names e)

  -- what makes a value of this type
  abbrev pub body_of : Names → Sort → Expr → Body
  body_of names (of.Basic b) e = scalar_body names e (form e)
  body_of names (of.Array b) e = array_body names e (form e)

  -- a definition that is a plain array name is that array, and no block
  abbrev pub define_by : Made → Named → Sort → Expr → Option Standing → Made
  define_by made named (of.Array b) e (Some (standing.Array o name)) = record made { names = bind made.names named.name (standing.Array o name) }
  define_by made named sort e s = record {
    names = bind made.names named.name (standing_by sort (outcome.Block (length made.blocks)) named.name);
    blocks = made.blocks ++ record { name = Some named.name; body = body_of made.names sort e } ∷ [];
  }

  -- what the name that an expression is stands for
  abbrev pub name_standing : Names → Opened → Option Standing
  name_standing names (Node-F.Name name) = names name
  name_standing names node = None

  abbrev pub define : Made → Named → Sort → Expr → Made
  define made named sort e = define_by made named sort e (name_standing made.names (form e))

  -- a result that is a plain array name is that array, and no block
  abbrev pub result_by : Made → Sort → Expr → Option Standing → Outcome × List Block
  result_by made (of.Array b) e (Some (standing.Array o name)) = (o, made.blocks)
  result_by made sort e s = (outcome.Block (length made.blocks), made.blocks ++ record { name = None; body = body_of made.names sort e } ∷ [])

  abbrev pub result : Made → Sort → Expr → Outcome × List Block
  result made sort e = result_by made sort e (name_standing made.names (form e))

  -- ---- the body of the main function

  -- the blocks of a body, and its results
  abbrev pub Blocks : Type 0
  Blocks = Made → List Sort → List Block × List Outcome

  abbrev pub each_result : List Expr → Blocks
  each_result (e ∷ es) made (s ∷ sorts) =
      let r = result made s e in
      let others = each_result es (record made { blocks = r.1 }) sorts in
      (others.0, r.0 ∷ others.1)
  each_result es made sorts = (made.blocks, [])

  abbrev pub body_blocks : List (Expr × Blocks) → Blocks
  body_blocks (e ∷ []) = e.1
  body_blocks es = each_result (map (λ (e : Expr × Blocks). e.0) es)

  abbrev pub all_defined : Made → List (Named × Sort × (Expr × Blocks)) → Made
  all_defined made [] = made
  all_defined made (d ∷ ds) = all_defined (define made d.0 d.1 d.2.0) ds

  abbrev pub blocks_node : Expr → Layer (Expr × Blocks) → Blocks
  blocks_node e (Node-F.Parens of) = if is_let (form e) then of.1 else each_result (e ∷ [])
  blocks_node e (Node-F.Let definitions values) = λ made. body_blocks values (all_defined made definitions)
  blocks_node e node = each_result (e ∷ [])

  unfoldable pub blocks_of : Expr → Blocks
  blocks_of = fold_beside Blocks blocks_node

  abbrev pub main_blocks : List Expr → Blocks
  main_blocks es = body_blocks (map (λ e. (e, blocks_of e)) es)

  -- ---- sources

  -- The last function is the main one. Where there is none, there is nothing.
  abbrev pub program_blocks : List Range → List Function → Piped
  program_blocks ranges [] = record { parameters = []; blocks = []; results = []; functions = [] }
  program_blocks ranges (main ∷ others) =
      let names = constant_names numbers in
      let made = main_blocks main.values (record { names = with_parameters 0 main.parameters names; blocks = [] }) main.results in
      record {
        parameters = inputs_of (λ e. or_zero (manifest numbers e)) ranges main.parameters;
        blocks = made.0;
        results = made.1;
        functions = map (function_renamed names) (reverse others);
      }

unfoldable pub shaped : Program → Piped
shaped p = program_blocks (numbers_of p) p.ranges (reverse p.functions)
