-- Lowering keeps the meaning: parameters, then block by block.
use Rattle.std.proofs.Common.{◌≡◌, ◌∙◌, ap, sym, refl, subst, arith, ℕ, suc, ◌+◌, Bool, true, false, if◌then◌else◌, ◌&&◌, List, [], ◌∷◌, ◌++◌, map, length, reverse, append_assoc, Option, Some, None, bytes_eq, length-append}
use Rattle.std.specs.Prelude.{slice_get, slice_index_or, All}
use Rattle.std.proofs.lemmas.List.{append-nil}
use Rattle.df_names.specs.Maps.{Names, nothing, bind}
use Rattle.df_values.specs.Inputs.{Declaration, IsAsDeclared, input_length, declared}
use Rattle.df_values.specs.declared.values.Value.{Value}
use Rattle.df_syntax.specs.declared.bound.Bound.{Bound}
use Rattle.df_syntax.specs.declared.tree.Sort.{Sort}
use Rattle.df_syntax.specs.declared.tree.Sort.TheVariants.{Basic, Array}
use Rattle.df_syntax.specs.declared.tree.Expr.{Expr}
use Rattle.df_values.specs.declared.inputs.Extent.{Extent}
use Rattle.df_values.specs.declared.inputs.Input.{Input}
use Rattle.df_syntax.specs.declared.piped.Body as piped
use Rattle.df_syntax.specs.declared.piped.Body.TheVariants as body
use Rattle.df_syntax.specs.declared.piped.Block as piped_block
use Rattle.df_syntax.specs.declared.piped.Outcome.{Outcome}
use Rattle.df_syntax.specs.declared.piped.Outcome.TheVariants as outcome
use Rattle.df_syntax.specs.declared.program.Function.{Function}
use Rattle.df_syntax.specs.Meaning.{Name, Env, calls}
use Rattle.df_syntax.specs.BlockMeaning as from
use Rattle.df_syntax.specs.WellShaped.{Around, Known, Offset, when, IsPlace, body_sort, blocks_fit, with_some, input_sort, type_of, is_of, operand_type, has_first, elem_type, recurrence_type}
use Rattle.df_core.specs.Meaning.{Made, Single, Many}
use Rattle.df_core.specs.declared.terms.Term.{Term}
use Rattle.df_core.specs.Meaning as to
use Rattle.df_flattened.specs.Flattened.{Standing, Scope, Bodies, flatten, bodies, body_flattened, standing_of, bind_some, inputs_bound, input_standing}
use Rattle.df_flattened.specs.Agreement.{IsMade, IsSort, AgreeOutside}
use Rattle.df_flattened.specs.Law.{LoweringKeepsTheMeaning}
use Rattle.df_flattened.proofs.Outside as outside
use Rattle.df_flattened.proofs.Outside.{outside_stays, outside_more}
use Rattle.df_flattened.proofs.ProgramsKept.{BlocksKeep, IsWhole, AreWhole, IsThere, AreThere, length_givens, program_kept}
use Rattle.df_flattened.proofs.ExpressionsKept.{around, env, CallsStand}
use Rattle.df_flattened.proofs.FunctionsKept.{calls_stand}
use Rattle.df_flattened.proofs.BodiesKept.{IsOutside, AreOutside, array_sorted, scalar_sorted, name_more, made_kept}

-- ---- what a block makes has its sort and its number

module _ (lower : Expr → Scope → Term) (names : Names Standing) (made : List Made) where
  standing_is : (number : ℕ) (b : piped.Body) → standing_of number b ≡ outside.standing_of (to.made_by made (body_flattened lower names b)) number
  standing_is number (body.Construct index lo n elem) = refl
  standing_is number (body.Fold index o lo n elem) = refl
  standing_is number (body.Recur index array lo n first elem) = refl
  standing_is number (body.Scalar e) = refl

  sort_is : (a : Around) (b : piped.Body) (sort : Sort) → body_sort a b ≡ Some sort → IsSort sort (to.made_by made (body_flattened lower names b))
  sort_is a (body.Construct index lo n elem) sort sorted =
      let s = array_sorted (elem_type (record a { subscripts = Offset index }) index elem) sort sorted in
      subst (λ t. IsSort t (to.made_by made (body_flattened lower names (body.Construct index lo n elem)))) (sym s.2) tt
  sort_is a (body.Fold index o lo n elem) sort sorted =
      let s = scalar_sorted (when (has_first o n && is_of (operand_type o) (elem_type (record a { subscripts = Offset index }) index elem)) (operand_type o)) sort sorted in
      subst (λ t. IsSort t (to.made_by made (body_flattened lower names (body.Fold index o lo n elem)))) (sym s.2) tt
  sort_is a (body.Recur index array lo n first elem) sort sorted =
      let s = array_sorted (recurrence_type a index array (type_of first a) elem) sort sorted in
      subst (λ t. IsSort t (to.made_by made (body_flattened lower names (body.Recur index array lo n first elem)))) (sym s.2) tt
  sort_is a (body.Scalar e) sort sorted =
      let s = scalar_sorted (type_of e a) sort sorted in
      subst (λ t. IsSort t (to.made_by made (body_flattened lower names (body.Scalar e)))) (sym s.2) tt

outside_is : (m : Made) (number : ℕ) → IsOutside (Some (outside.standing_of m number))
outside_is (Single v) number = tt
outside_is (Many lo vs) number = tt

either_outside : (same : Bool) (s : Standing) (o : Option Standing) → IsOutside (Some s) → IsOutside o → IsOutside (if same then Some s else o)
either_outside true s o one other = one
either_outside false s o one other = other

-- one name more
out_more : (names : Names Standing) (name : Name) (m : Made) (number : ℕ) → AreOutside names → AreOutside (bind names name (outside.standing_of m number))
out_more names name m number out x =
    subst IsOutside (sym (name_more names name (outside.standing_of m number) x)) (either_outside (bytes_eq name x) (outside.standing_of m number) (names x) (outside_is m number) (out x))

-- ---- a block, by its name

abbrev sorts_with : List (Name × Sort) → Option Name → Sort → List (Name × Sort)
sorts_with sorts None sort = sorts
sorts_with sorts (Some name) sort = sorts ++ (name, sort) ∷ []

abbrev bounds_with : List (Name × Bound) → Option Name → Bound → List (Name × Bound)
bounds_with bounds None b = bounds
bounds_with bounds (Some name) b = bounds ++ (name, b) ∷ []

sorts_are : (functions : List Function) (sorts : List (Name × Sort)) (name : Option Name) (sort : Sort) → with_some (around functions sorts Known) name sort ≡ around functions (sorts_with sorts name sort) Known
sorts_are functions sorts None sort = refl
sorts_are functions sorts (Some name) sort = refl

bounds_are : (call : Name → List (Option Value) → Option Value) (bounds : List (Name × Bound)) (name : Option Name) (b : Bound) → from.bind_some (env call bounds) name b ≡ env call (bounds_with bounds name b)
bounds_are call bounds None b = refl
bounds_are call bounds (Some name) b = refl

agree_with : (sorts : List (Name × Sort)) (names : Names Standing) (bounds : List (Name × Bound)) (made : List Made) (name : Option Name) (sort : Sort) (b : Bound) (m : Made) → IsMade b m → IsSort sort m
    → AgreeOutside sorts names bounds made → AgreeOutside (sorts_with sorts name sort) (bind_some names name (outside.standing_of m (length made))) (bounds_with bounds name b) (made ++ m ∷ [])
agree_with sorts names bounds made None sort b m is sorted agree = outside_stays sorts names bounds made m agree
agree_with sorts names bounds made (Some name) sort b m is sorted agree = outside_more sorts names bounds made name sort b m is sorted agree

out_with : (names : Names Standing) (name : Option Name) (m : Made) (number : ℕ) → AreOutside names → AreOutside (bind_some names name (outside.standing_of m number))
out_with names None m number out = out
out_with names (Some name) m number out = out_more names name m number out

-- what a block with some sort tells
sort_parts : (o : Option Sort) (fits : Sort → Bool) → (elim o as (λ o. Bool) [ None ↦ false | Some sort ↦ fits sort ]) ≡ true → (sort : Sort) × (o ≡ Some sort) × (fits sort ≡ true)
sort_parts None fits h = absurd (cc)
sort_parts (Some sort) fits h = (sort, refl, h)

one_longer : (made : List Made) (m : Made) → length (made ++ m ∷ []) ≡ length made + 1
one_longer made m = length-append made (m ∷ [])

module _ (functions : List Function) (of : Bodies) (call : Name → List (Option Value) → Option Value) (stand : CallsStand functions of call) where
  blocks_keep : (blocks : List piped_block.Block) (sorts : List (Name × Sort)) (names : Names Standing) (bounds : List (Name × Bound)) (made : List Made) → AgreeOutside sorts names bounds made → AreOutside names
      → blocks_fit (around functions sorts Known) blocks ≡ true → BlocksKeep (flatten of) names (length made) (env call bounds) made blocks
  blocks_keep [] sorts names bounds made agree out fits = tt
  blocks_keep (block ∷ blocks) sorts names bounds made agree out fits =
      let parts = sort_parts (body_sort (around functions sorts Known) block.body) (λ sort. blocks_fit (with_some (around functions sorts Known) block.name sort) blocks) fits in
      let b : Bound = from.made (env call bounds) block.body in
      let m : Made = to.made_by made (body_flattened (flatten of) names block.body) in
      let same : IsMade b m = made_kept functions of call stand sorts names bounds made agree out block.body parts.0 parts.1 in
      let rest : BlocksKeep (flatten of) (bind_some names block.name (outside.standing_of m (length made))) (length (made ++ m ∷ [])) (env call (bounds_with bounds block.name b)) (made ++ m ∷ []) blocks =
      blocks_keep blocks (sorts_with sorts block.name parts.0) (bind_some names block.name (outside.standing_of m (length made))) (bounds_with bounds block.name b) (made ++ m ∷ [])
      (agree_with sorts names bounds made block.name parts.0 b m same (sort_is (flatten of) names made (around functions sorts Known) block.body parts.0 parts.1) agree)
      (out_with names block.name m (length made) out)
      (sym (ap (λ a. blocks_fit a blocks) (sorts_are functions sorts block.name parts.0)) ∙ parts.2) in (
        same,
        subst (λ (s : Standing). BlocksKeep (flatten of) (bind_some names block.name s) (length made + 1) (from.bind_some (env call bounds) block.name b) (made ++ m ∷ []) blocks) (sym (standing_is (flatten of) names made (length made) block.body))
            (subst (λ (e : Env). BlocksKeep (flatten of) (bind_some names block.name (outside.standing_of m (length made))) (length made + 1) e (made ++ m ∷ []) blocks) (sym (bounds_are call bounds block.name b))
            (subst (λ (k : ℕ). BlocksKeep (flatten of) (bind_some names block.name (outside.standing_of m (length made))) k (env call (bounds_with bounds block.name b)) (made ++ m ∷ []) blocks) (one_longer made m) rest)),
      )

-- ---- parameters

given_made : (extent : Option Extent) (values : List Value) → IsWhole extent values → IsMade (from.given extent values) (to.given extent values)
given_made None [] whole = absurd (omega (arith, whole))
given_made None (v ∷ values) whole = refl
given_made (Some extent) values whole = (refl, refl)

given_sort : (p : Input) (values : List Value) → IsSort (input_sort p).1 (to.given p.extent values)
given_sort p values = sort_of p.extent
  where
    sort_of : (extent : Option Extent) → IsSort (elim extent as (λ o. Sort) [ None ↦ Basic p.basic | Some e ↦ Array p.basic ]) (to.given extent values)
    sort_of None = tt
    sort_of (Some e) = tt

given_standing : (extent : Option Extent) (values : List Value) (number : ℕ) → input_standing extent number ≡ outside.standing_of (to.given extent values) number
given_standing None values number = refl
given_standing (Some extent) values number = refl

record Given (sorts : List (Name × Sort)) (names : Names Standing) (bounds : List (Name × Bound)) (made : List Made) : Type 0 where
  agree : AgreeOutside sorts names bounds made
  out : AreOutside names

parameters_given : (parameters : List Input) (inputs : List (List Value)) (sorts : List (Name × Sort)) (names : Names Standing) (bounds : List (Name × Bound)) (made : List Made) → AreWhole parameters inputs
    → Given sorts names bounds made
    → Given (sorts ++ map input_sort parameters) (inputs_bound names (length made) parameters) (bounds ++ from.inputs_bound parameters inputs) (made ++ to.givens parameters inputs)
parameters_given [] inputs sorts names bounds made whole given = rw (append-nil sorts, append-nil bounds, append-nil made) given
parameters_given (p ∷ parameters) [] sorts names bounds made whole given = absurd whole
parameters_given (p ∷ parameters) (values ∷ inputs) sorts names bounds made whole given =
    let b : Bound = from.given p.extent values in
    let m : Made = to.given p.extent values in
    let s : Standing = outside.standing_of m (length made) in
    let one : Given (sorts ++ input_sort p ∷ []) (bind names p.name s) (bounds ++ (p.name, b) ∷ []) (made ++ m ∷ []) = record {
      agree = outside_more sorts names bounds made p.name (input_sort p).1 b m (given_made p.extent values whole.0) (given_sort p values) given.agree;
      out = out_more names p.name m (length made) given.out;
    } in
    let rest = parameters_given parameters inputs (sorts ++ input_sort p ∷ []) (bind names p.name s) (bounds ++ (p.name, b) ∷ []) (made ++ m ∷ []) whole.1 one in
    subst (λ (l : Names Standing). Given (sorts ++ input_sort p ∷ map input_sort parameters) l (bounds ++ (p.name, b) ∷ from.inputs_bound parameters inputs) (made ++ m ∷ to.givens parameters inputs))
    (ap (λ k. inputs_bound (bind names p.name s) k parameters) (one_longer made m) ∙ ap (λ (t : Standing). inputs_bound (bind names p.name t) (length made + 1) parameters) (sym (given_standing p.extent values (length made))))
    (subst (λ l. Given l (inputs_bound (bind names p.name s) (length (made ++ m ∷ [])) parameters) (bounds ++ (p.name, b) ∷ from.inputs_bound parameters inputs) (made ++ m ∷ to.givens parameters inputs))
    (append_assoc sorts (input_sort p ∷ []) (map input_sort parameters))
    (subst (λ l. Given ((sorts ++ input_sort p ∷ []) ++ map input_sort parameters) (inputs_bound (bind names p.name s) (length (made ++ m ∷ [])) parameters) l (made ++ m ∷ to.givens parameters inputs))
    (append_assoc bounds ((p.name, b) ∷ []) (from.inputs_bound parameters inputs))
    (subst (λ l. Given ((sorts ++ input_sort p ∷ []) ++ map input_sort parameters) (inputs_bound (bind names p.name s) (length (made ++ m ∷ [])) parameters) ((bounds ++ (p.name, b) ∷ []) ++ from.inputs_bound parameters inputs) l)
    (append_assoc made (m ∷ []) (to.givens parameters inputs)) rest)))

-- ---- valid inputs, and results that are there

one_whole : (extent : Option Extent) (values : List Value) → length values ≡ input_length extent → IsWhole extent values
one_whole None values is = is
one_whole (Some extent) values is = tt

all_whole : (parameters : List Input) (inputs : List (List Value)) → length inputs ≡ length (declared parameters)
    → ((k : ℕ) (d : Declaration) → slice_get (declared parameters) k ≡ Some d → IsAsDeclared d (slice_index_or inputs k [])) → AreWhole parameters inputs
all_whole [] inputs same each = tt
all_whole (p ∷ parameters) [] same each = absurd (omega (arith, same))
all_whole (p ∷ parameters) (values ∷ inputs) same each =
    (one_whole p.extent values (each 0 (record { basic = p.basic; length = input_length p.extent }) refl).count, all_whole parameters inputs (omega (arith, same)) (λ k d at. each (suc k) d at))

one_there : (parameters blocks : ℕ) (o : Outcome) → IsPlace parameters blocks o → IsThere parameters o
one_there parameters blocks (outcome.Parameter k) is = is
one_there parameters blocks (outcome.Block k) is = tt

all_there : (parameters blocks : ℕ) (outcomes : List Outcome) → All (IsPlace parameters blocks) outcomes → AreThere parameters outcomes
all_there parameters blocks [] all = tt
all_there parameters blocks (o ∷ outcomes) all =
    (one_there parameters blocks o (all 0 o (omega arith)), all_there parameters blocks outcomes (λ k d below. all (suc k) d (omega (arith, below))))

-- ---- the law

pub meaning_kept : LoweringKeepsTheMeaning
meaning_kept p inputs fit valid =
    let whole = all_whole p.parameters inputs valid.count valid.each in
    let given : Given (map input_sort p.parameters) (inputs_bound nothing 0 p.parameters) (from.inputs_bound p.parameters inputs) (to.givens p.parameters inputs) =
    parameters_given p.parameters inputs [] nothing [] [] whole (record { agree = λ x. tt; out = λ x. tt }) in
    let keep : BlocksKeep (flatten (bodies (reverse p.functions))) (inputs_bound nothing 0 p.parameters) (length (to.givens p.parameters inputs))
    (env (calls (reverse p.functions)) (from.inputs_bound p.parameters inputs)) (to.givens p.parameters inputs) p.blocks =
    blocks_keep p.functions (bodies (reverse p.functions)) (calls (reverse p.functions)) (calls_stand p.functions fit.called) p.blocks (map input_sort p.parameters) (inputs_bound nothing 0 p.parameters)
    (from.inputs_bound p.parameters inputs) (to.givens p.parameters inputs) given.agree given.out fit.typed in
    program_kept p inputs
    (subst (λ (k : ℕ). BlocksKeep (flatten (bodies (reverse p.functions))) (inputs_bound nothing 0 p.parameters) k (env (calls (reverse p.functions)) (from.inputs_bound p.parameters inputs)) (to.givens p.parameters inputs) p.blocks)
    (length_givens p.parameters inputs) keep)
    whole (all_there (length p.parameters) (length p.blocks) p.results fit.places)
