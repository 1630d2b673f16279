-- What all blocks make, and the results of blocks, where each block makes the same in both.
use Rattle.std.proofs.Common.{◌≡◌, ◌∙◌, ap, sym, refl, arith, ℕ, zero, suc, ◌+◌, ◌-◌, ◌<◌, List, [], ◌∷◌, ◌++◌, map, fold, length, get_or, Option, Some, append_assoc, None, ap₂, reverse}
use Rattle.std.proofs.lemmas.List.{append-nil}
use Rattle.std.proofs.Math.Seq.{get_or-append_right}
use Rattle.df_names.specs.Maps.{Names, nothing}
use Rattle.df_values.specs.declared.values.Value.{Value}
use Rattle.df_syntax.specs.declared.bound.Bound.{Bound}
use Rattle.df_syntax.specs.declared.bound.Bound.TheVariants as held
use Rattle.df_syntax.specs.declared.tree.Expr.{Expr}
use Rattle.df_syntax.specs.declared.piped.Block as piped
use Rattle.df_syntax.specs.declared.piped.Outcome.{Outcome}
use Rattle.df_syntax.specs.declared.piped.Outcome.TheVariants as outcome
use Rattle.df_syntax.specs.declared.piped.Piped.{Piped}
use Rattle.df_syntax.specs.Meaning.{Env, calls}
use Rattle.df_syntax.specs.BlockMeaning as from
use Rattle.df_core.specs.Meaning.{Made, Single, Many}
use Rattle.df_core.specs.declared.terms.Term.{Term}
use Rattle.df_values.specs.declared.inputs.Extent.{Extent}
use Rattle.df_values.specs.declared.inputs.Input.{Input}
use Rattle.df_core.specs.Meaning as to
use Rattle.df_flattened.specs.Flattened.{Standing, Scope, body_flattened, standing_of, bind_some, blocks_flattened, flatten, bodies, inputs_bound, number_of, flattened}
use Rattle.df_flattened.specs.Agreement.{IsMade}

-- each block makes the same in both, where those before it are made
abbrev pub BlocksKeep : (Expr → Scope → Term) → Names Standing → ℕ → Env → List Made → List piped.Block → Type 0
BlocksKeep flattened names number env made [] = Unit {0}
BlocksKeep flattened names number env made (block ∷ blocks) =
    IsMade (from.made env block.body) (to.made_by made (body_flattened flattened names block.body))
    × BlocksKeep flattened (bind_some names block.name (standing_of number block.body)) (number + 1) (from.bind_some env block.name (from.made env block.body))
    (made ++ to.made_by made (body_flattened flattened names block.body) ∷ []) blocks

abbrev pub AllMade : List Bound → List Made → Type 0
AllMade [] [] = Unit {0}
AllMade (b ∷ bounds) (m ∷ made) = IsMade b m × AllMade bounds made
AllMade _ _ = ⊥

pub record BlocksMade (bounds : List Bound) (made all : List Made) : Type 0 where
  more : List Made
  behind : all ≡ made ++ more
  same : AllMade bounds more

pub blocks_kept : (flattened : Expr → Scope → Term) (names : Names Standing) (number : ℕ) (env : Env) (made : List Made) (blocks : List piped.Block)
    → BlocksKeep flattened names number env made blocks
    → BlocksMade (from.blocks_made env blocks) made (fold to.with_block made (blocks_flattened flattened names number blocks))
blocks_kept flattened names number env made [] keep = record { more = []; behind = sym (append-nil made); same = tt }
blocks_kept flattened names number env made (block ∷ blocks) keep =
    let m : Made = to.made_by made (body_flattened flattened names block.body) in
    let rest : BlocksMade (from.blocks_made (from.bind_some env block.name (from.made env block.body)) blocks) (made ++ m ∷ [])
    (fold to.with_block (made ++ m ∷ []) (blocks_flattened flattened (bind_some names block.name (standing_of number block.body)) (number + 1) blocks)) =
    blocks_kept flattened (bind_some names block.name (standing_of number block.body)) (number + 1) (from.bind_some env block.name (from.made env block.body)) (made ++ m ∷ []) blocks keep.1 in
    record { more = m ∷ rest.more; behind = rest.behind ∙ append_assoc made (m ∷ []) rest.more; same = (keep.0, rest.same) }

-- ---- results of blocks

cut_somes : (vs : List Value) → from.cut (map (λ v. Some v) vs) ≡ vs
cut_somes [] = refl
cut_somes (v ∷ vs) = ap (λ l. v ∷ l) (cut_somes vs)

values_kept : (b : Bound) (m : Made) → IsMade b m → from.values_of b ≡ to.values_of m
values_kept (held.Scalar o) (Single v) is = ap (λ (p : Option Value). from.cut (p ∷ [])) is
values_kept (held.Array lo members) (Many low vs) is = ap from.cut is.1 ∙ cut_somes vs
values_kept (held.Scalar o) (Many low vs) is = absurd is
values_kept (held.Array lo members) (Single v) is = absurd is

result_at : (bounds : List Bound) (made : List Made) (k : ℕ) → AllMade bounds made → get_or (map from.values_of bounds) k [] ≡ to.values_of (to.made_at made k)
result_at [] [] k all = refl
result_at [] (m ∷ made) k all = absurd all
result_at (b ∷ bounds) [] k all = absurd all
result_at (b ∷ bounds) (m ∷ made) zero all = values_kept b m all.0
result_at (b ∷ bounds) (m ∷ made) (suc k) all = result_at bounds made k all.1

-- a result that is a block
pub block_result : (bounds : List Bound) (made all : List Made) (k : ℕ) → BlocksMade bounds made all → get_or (map from.values_of bounds) k [] ≡ to.result_of all (length made + k)
block_result bounds made all k is =
    let right : get_or (made ++ is.more) (length made + k) to.no_made ≡ get_or is.more (length made + k - length made) to.no_made =
    get_or-append_right made is.more (length made + k) to.no_made (omega arith) in
    result_at bounds is.more k is.same
    ∙ ap to.values_of (sym (ap (λ l. to.made_at l (length made + k)) is.behind ∙ (right ∙ ap (λ j. get_or is.more j to.no_made) (omega arith))))

-- ---- results that are parameters

-- a list of one, where the parameter is a scalar
abbrev pub IsWhole : Option Extent → List Value → Type 0
IsWhole None values = length values ≡ 1
IsWhole (Some extent) values = Unit {0}

-- each parameter has a list, as valid inputs do
abbrev pub AreWhole : List Input → List (List Value) → Type 0
AreWhole [] inputs = Unit {0}
AreWhole (p ∷ parameters) [] = ⊥
AreWhole (p ∷ parameters) (values ∷ inputs) = IsWhole p.extent values × AreWhole parameters inputs

given_kept : (extent : Option Extent) (values : List Value) → IsWhole extent values → values ≡ to.values_of (to.given extent values)
given_kept None [] is = absurd (omega (arith, is))
given_kept None (v ∷ []) is = refl
given_kept None (v ∷ w ∷ values) is = absurd (omega (arith, is))
given_kept (Some extent) values is = refl

-- a result that is a parameter
pub parameter_result : (parameters : List Input) (inputs : List (List Value)) (more : List Made) (k : ℕ) → k < length parameters → AreWhole parameters inputs
    → get_or inputs k [] ≡ to.result_of (to.givens parameters inputs ++ more) k
parameter_result [] inputs more k below whole = absurd (omega (arith, below))
parameter_result (p ∷ parameters) [] more k below whole = absurd whole
parameter_result (p ∷ parameters) (values ∷ inputs) more zero below whole = given_kept p.extent values whole.0
parameter_result (p ∷ parameters) (values ∷ inputs) more (suc k) below whole = parameter_result parameters inputs more k (omega (arith, below)) whole.1

-- ---- the law, where each block keeps

abbrev pub IsThere : ℕ → Outcome → Type 0
IsThere parameters (outcome.Parameter k) = k < parameters
IsThere parameters (outcome.Block k) = Unit {0}

abbrev pub AreThere : ℕ → List Outcome → Type 0
AreThere parameters [] = Unit {0}
AreThere parameters (o ∷ outcomes) = IsThere parameters o × AreThere parameters outcomes

pub length_givens : (parameters : List Input) (inputs : List (List Value)) → length (to.givens parameters inputs) ≡ length parameters
length_givens [] inputs = refl
length_givens (p ∷ parameters) [] = ap suc (length_givens parameters [])
length_givens (p ∷ parameters) (values ∷ inputs) = ap suc (length_givens parameters inputs)

one_result : (parameters : List Input) (inputs : List (List Value)) (bounds : List Bound) (all : List Made) (o : Outcome) → BlocksMade bounds (to.givens parameters inputs) all → AreWhole parameters inputs → IsThere (length parameters) o
    → to.result_of all (number_of (length parameters) o) ≡ from.result_of inputs bounds o
one_result parameters inputs bounds all (outcome.Parameter k) is whole there =
    ap (λ (l : List Made). to.result_of l k) is.behind ∙ sym (parameter_result parameters inputs is.more k there whole)
one_result parameters inputs bounds all (outcome.Block k) is whole there =
    sym (block_result bounds (to.givens parameters inputs) all k is ∙ ap (λ n. to.result_of all (n + k)) (length_givens parameters inputs))

all_results : (parameters : List Input) (inputs : List (List Value)) (bounds : List Bound) (all : List Made) (outcomes : List Outcome) → BlocksMade bounds (to.givens parameters inputs) all → AreWhole parameters inputs → AreThere (length parameters) outcomes
    → map (to.result_of all) (map (number_of (length parameters)) outcomes) ≡ map (from.result_of inputs bounds) outcomes
all_results parameters inputs bounds all [] is whole there = refl
all_results parameters inputs bounds all (o ∷ outcomes) is whole there =
    ap₂ (λ (v : List Value) vs. v ∷ vs) (one_result parameters inputs bounds all o is whole there.0) (all_results parameters inputs bounds all outcomes is whole there.1)

-- Lowering keeps the meaning of a program whose blocks keep theirs.
pub program_kept : (p : Piped) (inputs : List (List Value))
    → BlocksKeep (flatten (bodies (reverse p.functions))) (inputs_bound nothing 0 p.parameters) (length p.parameters)
    (record { call = calls (reverse p.functions); names = from.inputs_bound p.parameters inputs }) (to.givens p.parameters inputs) p.blocks
    → AreWhole p.parameters inputs → AreThere (length p.parameters) p.results → to.flat_mean (flattened p) inputs ≡ from.mean p inputs
unfolding flattened to.flat_mean from.mean
program_kept p inputs keep whole there =
    let made = blocks_kept (flatten (bodies (reverse p.functions))) (inputs_bound nothing 0 p.parameters) (length p.parameters)
    (record { call = calls (reverse p.functions); names = from.inputs_bound p.parameters inputs }) (to.givens p.parameters inputs) p.blocks keep in
    all_results p.parameters inputs _ _ p.results made whole there
