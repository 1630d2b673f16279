-- One turn more of the loops that bind names.
use Rattle.std.proofs.Common.{◌≡◌, ◌∙◌, ap, sym, refl, arith, ℕ, zero, suc, ◌+◌, ◌<◌, List, [], ◌∷◌, ◌++◌, take, drop, length, get_or, None, add-one}
use Rattle.std.specs.Prelude.{is_none}
use Rattle.std.proofs.Math.Path.{fun_ext}
use Rattle.std.proofs.lemmas.List.Sums.{fold-append}
use Rattle.df_names.specs.Maps.{Names, nothing, bind}
use Rattle.df_values.specs.declared.inputs.Input.{Input}
use Rattle.df_syntax.specs.declared.tree.Expr.{Expr}
use Rattle.df_syntax.specs.declared.tree.Parameter.{Parameter}
use Rattle.df_syntax.specs.declared.piped.Block.{Block}
use Rattle.df_syntax.specs.Meaning.{Name}
use Rattle.df_syntax.proofs.Pushed.{taken}
use Rattle.df_core.specs.declared.terms.Term.{Term}
use Rattle.df_flattened.specs.declared.standing.Standing.{Standing}
use Rattle.df_flattened.specs.declared.standing.Standing.TheVariants.{Local}
use Rattle.df_flattened.specs.Flattened.{Scope, Bodies, bound, flatten, parameters_scope, only_body, blocks_flattened, body_flattened, bind_some, standing_of, inputs_bound, input_standing}
use Rattle.df_inline.specs.declared.names.Binding.{Binding}
use Rattle.df_inline.specs.Bindings.{later_standing, standing_at, scope_of}
use Rattle.df_inline.specs.Lowered.{besides, at_depth, only_of}
use Rattle.df_inline.proofs.Steps.{one_bound}

-- ---- names

-- one binding more binds its name
pub standing_more : (bindings : List Binding) (name : Name) (s : Standing) → standing_at (bindings ++ (record { name = name; standing = s }) ∷ []) ≡ bind (standing_at bindings) name s
unfolding bind
standing_more bindings name s = fun_ext (λ other. fold-append (later_standing other) None bindings ((record { name = name; standing = s }) ∷ []))

pub no_standing : standing_at [] ≡ nothing
no_standing = refl

-- ---- functions

pub parameters_more : (depth : ℕ) (ps : List Parameter) (i : ℕ) (p : Parameter) (names new : List Binding) (d e : ℕ) → scope_of names d None ≡ parameters_scope depth (take i ps)
    → new ≡ names ++ (record { name = p.name.name; standing = Local d }) ∷ [] → e ≡ d + 1 → i < length ps → p ≡ get_or ps i p → scope_of new e None ≡ parameters_scope depth (take (i + 1) ps)
parameters_more depth ps i p names new d e was pushed deep below is =
    ap (λ l. scope_of l e None) pushed
    ∙ (sym (one_bound names p.name.name d e None deep)
    ∙ (ap (λ (s : Scope). bound s p.name.name) was
    ∙ (sym (fold-append (λ (scope : Scope) (q : Parameter). bound scope q.name.name) (record { names = nothing; depth = depth; index = None }) (take i ps) (p ∷ []))
    ∙ ap (parameters_scope depth) (sym (taken ps i p below is)))))

pub only_given : (of : Bodies) (ps : List Parameter) (values : List Expr) (depth : ℕ) → at_depth (only_body (flatten of) ps values) depth ≡ only_of (parameters_scope depth ps) (besides of values)
only_given of ps [] depth = refl
only_given of ps (value ∷ []) depth = refl
only_given of ps (value ∷ (second ∷ values)) depth = refl

-- ---- blocks and parameters

block_next : (lower : Expr → Scope → Term) (names : Names Standing) (number : ℕ) (blocks : List Block) (k : ℕ) (b : Block) → k < length blocks → b ≡ get_or blocks k b
    → blocks_flattened lower names number (drop k blocks)
    ≡ (record { body = body_flattened lower names b.body; is_result = is_none b.name }) ∷ blocks_flattened lower (bind_some names b.name (standing_of number b.body)) (number + 1) (drop (suc k) blocks)
block_next lower names number [] k b below is = absurd (omega (arith, below))
block_next lower names number (x ∷ blocks) zero b below is =
    ap (λ (y : Block). (record { body = body_flattened lower names y.body; is_result = is_none y.name }) ∷ blocks_flattened lower (bind_some names y.name (standing_of number y.body)) (number + 1) blocks) (sym is)
block_next lower names number (x ∷ blocks) (suc k) b below is = block_next lower names number blocks k b (omega (arith, below)) is

-- one block more
pub block_more : (lower : Expr → Scope → Term) (names : Names Standing) (number : ℕ) (blocks : List Block) (k : ℕ) (b : Block) → k < length blocks → b ≡ get_or blocks k b
    → blocks_flattened lower names number (drop k blocks)
    ≡ (record { body = body_flattened lower names b.body; is_result = is_none b.name }) ∷ blocks_flattened lower (bind_some names b.name (standing_of number b.body)) (number + 1) (drop (k + 1) blocks)
block_more lower names number blocks k b below is =
    block_next lower names number blocks k b below is
    ∙ ap (λ j. (record { body = body_flattened lower names b.body; is_result = is_none b.name }) ∷ blocks_flattened lower (bind_some names b.name (standing_of number b.body)) (number + 1) (drop j blocks)) (sym (add-one k))

input_next : (names : Names Standing) (number : ℕ) (ps : List Input) (k : ℕ) (p : Input) → k < length ps → p ≡ get_or ps k p
    → inputs_bound names number (drop k ps) ≡ inputs_bound (bind names p.name (input_standing p.extent number)) (number + 1) (drop (suc k) ps)
input_next names number [] k p below is = absurd (omega (arith, below))
input_next names number (x ∷ ps) zero p below is = ap (λ (y : Input). inputs_bound (bind names y.name (input_standing y.extent number)) (number + 1) ps) (sym is)
input_next names number (x ∷ ps) (suc k) p below is = input_next names number ps k p (omega (arith, below)) is

-- one parameter more
pub input_more : (names : Names Standing) (number : ℕ) (ps : List Input) (k : ℕ) (p : Input) → k < length ps → p ≡ get_or ps k p
    → inputs_bound names number (drop k ps) ≡ inputs_bound (bind names p.name (input_standing p.extent number)) (number + 1) (drop (k + 1) ps)
input_more names number ps k p below is =
    input_next names number ps k p below is ∙ ap (λ j. inputs_bound (bind names p.name (input_standing p.extent number)) (number + 1) (drop j ps)) (sym (add-one k))
