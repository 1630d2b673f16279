-- The parameters of the main function of an accepted source: they have different names, and what they stand for agrees with it.
use Rattle.std.proofs.Common.{arith, ◌≡◌, ℕ, ◌+◌, ◌≤◌, ℤ, Bool, true, false, List, [], ◌∷◌, ◌++◌, map, fold, length, refl, sym, ◌∙◌, ap, subst, Some, None, bytes_eq, append_assoc, append-nil}
use Rattle.std.specs.Option.{is_some}
use Rattle.std.specs.List.{IsDistinct, AllByRecursion}
use Rattle.df_values.specs.declared.inputs.Input.{Input}
use Rattle.df_syntax.specs.declared.tree.Sort.{Sort}
use Rattle.df_syntax.specs.declared.tree.Sort.TheVariants as of
use Rattle.df_syntax.specs.declared.tree.Parameter.{Parameter}
use Rattle.df_syntax.specs.declared.tree.Expr.{Expr}
use Rattle.df_syntax.specs.declared.program.Range.{Range}
use Rattle.df_syntax.specs.declared.program.Function.{Function}
use Rattle.df_syntax.specs.declared.piped.Outcome.TheVariants as outcome
use Rattle.df_syntax.specs.Demands.{first_refusal}
use Rattle.df_syntax.specs.Meaning.{Name}
use Rattle.df_syntax.specs.SourceForms.{Numbers}
use Rattle.df_syntax.specs.SourceMeaning.{input_of, inputs_of, extent_of}
use Rattle.df_syntax.specs.WellShaped.{Known, input_sort, parameter_sorts}
use Rattle.df_syntax.proofs.FirstRefusals.{head_holds, tail_holds}
use Rattle.df_names.specs.Maps.{bind}
use Rattle.df_types.specs.declared.entry.Entry.TheVariants as entry
use Rattle.df_types.specs.Scopes as scopes
use Rattle.df_types.specs.Scopes.{bound}
use Rattle.df_types.specs.Types.{fresh}
use Rattle.df_types.specs.Sources.{fresh_demands, parameters}
use Rattle.df_shape.specs.Demands.{or_array}
use Rattle.df_shape.specs.Renamed.{Names}
use Rattle.df_shape.specs.Shaped.{Made, standing_by, with_parameters}
use Rattle.df_accepted.proofs.Agreed.{Sorts, differs, bind_new, some_behind}
use Rattle.df_accepted.proofs.BlockStates.{IsPlaced, Going}
use Rattle.df_accepted.proofs.DefinedBlocks.{named_agrees, stands_still, arrays_stand, places_stand}
use Rattle.df_accepted.proofs.FormDemands.{is_nothing}
use Rattle.df_accepted.proofs.Forms.{around}
use Rattle.df_accepted.proofs.GivenArrays.{ArraysKnown, arrays_more}
use Rattle.df_accepted.proofs.TypedLoops.{either_way}
use Rattle.df_shape.proofs.DefinedKept.{is_itself}

-- ---- inputs

module _ (value : Expr → ℤ) (ranges : List Range) where
  input_name : (p : Parameter) → (input_of value ranges p).name ≡ p.name.name
  input_name p =
      elim p.sort as (λ s. (elim s as (λ s. Input)
      [ of.Basic b ↦ record { name = p.name.name; basic = b; extent = None } | of.Array b ↦ record { name = p.name.name; basic = b; extent = Some (extent_of value ranges p.name.name) } ]).name ≡ p.name.name)
      [ of.Basic b ↦ refl | of.Array b ↦ refl ]

  pub input_names : (ps : List Parameter) → map (λ (i : Input). i.name) (inputs_of value ranges ps) ≡ map (λ (p : Parameter). p.name.name) ps
  input_names [] = refl
  input_names (p ∷ ps) = ap (λ l. (input_of value ranges p).name ∷ l) (input_names ps) ∙ ap (λ n. n ∷ map (λ (p : Parameter). p.name.name) ps) (input_name p)

  one_sort : (p : Parameter) → input_sort (input_of value ranges p) ≡ (p.name.name, p.sort)
  one_sort p =
      elim p.sort as (λ s. input_sort (elim s as (λ s. Input)
      [ of.Basic b ↦ record { name = p.name.name; basic = b; extent = None } | of.Array b ↦ record { name = p.name.name; basic = b; extent = Some (extent_of value ranges p.name.name) } ]) ≡ (p.name.name, s))
      [ of.Basic b ↦ refl | of.Array b ↦ refl ]

  pub input_sorts : (ps : List Parameter) → map input_sort (inputs_of value ranges ps) ≡ parameter_sorts ps
  input_sorts [] = refl
  input_sorts (p ∷ ps) = ap (λ l. input_sort (input_of value ranges p) ∷ l) (input_sorts ps) ∙ ap (λ n. n ∷ parameter_sorts ps) (one_sort p)

-- ---- names that differ

-- a name that stands for something differs from all new ones
others_differ : (ps : List Parameter) (scope : scopes.Names) (d : Name) → is_some (scope d) ≡ true → first_refusal (fresh_demands (parameters ps) scope) ≡ None
    → AllByRecursion (λ y. bytes_eq d y ≡ false) (map (λ (p : Parameter). p.name.name) ps)
others_differ [] scope d some h = tt
others_differ (p ∷ ps) scope d some h =
    let inner = bind scope p.name.name (entry.Local p.sort) in
    let none = is_nothing (scope p.name.name) (head_holds (fresh p.name scope) (fresh_demands (parameters ps) inner) h) in (
      either_way d p.name.name ∙ differs scope p.name.name d none some,
      others_differ ps inner d (some_behind scope p.name.name (entry.Local p.sort) d some) (tail_holds (fresh p.name scope) (fresh_demands (parameters ps) inner) h),
    )

pub names_differ : (ps : List Parameter) (scope : scopes.Names) → first_refusal (fresh_demands (parameters ps) scope) ≡ None → IsDistinct bytes_eq (map (λ (p : Parameter). p.name.name) ps)
unfolding IsDistinct
names_differ [] scope h = tt
names_differ (p ∷ ps) scope h =
    let inner = bind scope p.name.name (entry.Local p.sort) in
    let rest = tail_holds (fresh p.name scope) (fresh_demands (parameters ps) inner) h in (
      others_differ ps inner p.name.name (ap is_some (bind_new scope p.name.name (entry.Local p.sort) p.name.name (is_itself p.name.name))) rest,
      names_differ ps inner rest,
    )

-- ---- what they stand for

module _ (all functions : List Function) (numbers : Numbers) (callable gives : Name → Bool) (count : ℕ) where
  -- before any block
  abbrev pub Begun : scopes.Names → Sorts → Names → Type 0
  Begun scope sorts names = Going all functions numbers callable gives (around sorts functions Known) count scope sorts (record { names = names; blocks = [] })

  pub parameters_begun : (k : ℕ) (ps : List Parameter) (scope : scopes.Names) (sorts : Sorts) (names : Names) → k + length ps ≤ count
      → first_refusal (fresh_demands (parameters ps) scope) ≡ None → Begun scope sorts names
      → Begun (bound (parameters ps) scope) (sorts ++ parameter_sorts ps) (with_parameters k ps names)
  parameters_begun k [] scope sorts names within h begun = subst (λ (l : Sorts). Begun scope l names) (sym (append-nil sorts)) begun
  parameters_begun k (p ∷ ps) scope sorts names within h begun =
      let inner = bind scope p.name.name (entry.Local p.sort) in
      let none = is_nothing (scope p.name.name) (head_holds (fresh p.name scope) (fresh_demands (parameters ps) inner) h) in
      subst (λ (l : Sorts). Begun (bound (parameters ps) inner) l (with_parameters (k + 1) ps (bind names p.name.name (standing_by p.sort (outcome.Parameter k) p.name.name))))
      (append_assoc sorts ((p.name.name, p.sort) ∷ []) (parameter_sorts ps))
      (parameters_begun (k + 1) ps inner (sorts ++ (p.name.name, p.sort) ∷ []) (bind names p.name.name (standing_by p.sort (outcome.Parameter k) p.name.name)) (omega (arith, within))
      (tail_holds (fresh p.name scope) (fresh_demands (parameters ps) inner) h) (one none))
    where
      own_place : (s : Sort) → IsPlaced count 0 (standing_by s (outcome.Parameter k) p.name.name)
      own_place (of.Basic b) = omega (arith, within)
      own_place (of.Array b) = omega (arith, within)

      one : scope p.name.name ≡ None
          → Begun (bind scope p.name.name (entry.Local p.sort)) (sorts ++ (p.name.name, p.sort) ∷ []) (bind names p.name.name (standing_by p.sort (outcome.Parameter k) p.name.name))
      one none =
          let made : Made = record { names = names; blocks = [] } in
          let start = around sorts functions Known in
          let x = standing_by p.sort (outcome.Parameter k) p.name.name in
          record {
            agrees = named_agrees all functions numbers callable gives start count scope sorts made begun (λ name. true) (λ m b at. refl) p.name none p.sort (outcome.Parameter k);
            stand = stands_still all functions numbers callable gives start count scope sorts made begun (λ name. true) (λ m b at. refl) p.name none x;
            arrays = arrays_stand all functions numbers callable gives start count scope sorts made begun (λ name. true) (λ m b at. refl) p.name none p.sort x
                (λ b same. (outcome.Parameter k, p.name.name, ap (λ (t : Sort). standing_by t (outcome.Parameter k) p.name.name) same));
            places = places_stand all functions numbers callable gives start count scope sorts made begun (λ name. true) (λ m b at. refl) p.name none x 0 (omega arith) (own_place p.sort);
            blocks = refl;
          }

-- the arrays among parameters
pub parameters_known : (ps : List Parameter) (scope : scopes.Names) (arrays : Name → Bool) → ArraysKnown scope arrays
    → ArraysKnown (bound (parameters ps) scope) (fold (λ others (p : Parameter). or_array others p.name.name p.sort) arrays ps)
parameters_known [] scope arrays known = known
parameters_known (p ∷ ps) scope arrays known =
    parameters_known ps (bind scope p.name.name (entry.Local p.sort)) (or_array arrays p.name.name p.sort) (arrays_more scope arrays p.name.name p.sort known)
