-- What an accepted source means is what its program in blocks means, with its calls replaced.
use Rattle.std.proofs.Common.{◌≡◌, ◌∙◌, Bool, true, false, not, ◌&&◌, ◌||◌, ℕ, zero, suc, ◌<◌, ◌-◌, ℤ, List, [], ◌∷◌, map, length, reverse, Option, Some, None, IsTrue, refl, sym, ap, subst, arith}
use Rattle.std.specs.Prelude.{slice_get, bytes_eq}
use Rattle.std.specs.Option.{option_map}
use Rattle.std.specs.List.{list_all}
use Rattle.std.proofs.lemmas.Bool.{false≢true}
use Rattle.std.proofs.lemmas.List.{get_or-reverse, length-reverse}
use Rattle.std.proofs.lemmas.List.Sums.{AllPass-from_list_all, list_all-from_AllPass}
use Rattle.std.proofs.lemmas.Option.{slice_get-map}
use Rattle.std.proofs.lemmas.Slice.Eq.{bytes_eq-Decides}
use Rattle.df_values.specs.Inputs.{AreValid, declared, input_length}
use Rattle.df_values.specs.declared.values.Value.{Value}
use Rattle.df_cells.specs.Cells.{declaration_of}
use Rattle.df_cells.specs.declared.cells.InputDecl.{InputDecl}
use Rattle.df_core.specs.Meaning.{flat_mean}
use Rattle.df_core.specs.Within.{IsFlat}
use Rattle.df_core.specs.declared.flat.Flat.{Flat}
use Rattle.df_flattened.specs.Flattened.{flattened}
use Rattle.df_flattened.specs.Law.{LoweringKeepsTheMeaning, LoweredProgramsAreFlat}
use Rattle.df_iotext.specs.Inputs.{HaveOwnNames}
use Rattle.df_shape.proofs.MeaningKept.{inputs_are, meaning_kept}
use Rattle.df_shape.specs.Shaped.{shaped}
use Rattle.df_syntax.specs.FreshNames.{Taken, also, is_new, parameters_fresh, function_fresh, declared_names, names_are_new}
use Rattle.df_syntax.specs.SourceMeaning.{input_of, inputs_of, bound_value, main_inputs, source_inputs, source_mean}
use Rattle.df_syntax.specs.SourceForms.{Constants, constants_of}
use Rattle.df_syntax.specs.WellShaped.{IsPiped}
use Rattle.df_values.specs.declared.inputs.Input.{Input}
use Rattle.df_syntax.specs.declared.piped.Piped.{Piped}
use Rattle.df_syntax.specs.declared.program.Function.{Function}
use Rattle.df_syntax.specs.declared.program.Program.{Program as Tree}
use Rattle.df_syntax.specs.declared.program.Range.{Range}
use Rattle.df_syntax.specs.declared.tree.Expr.{Expr}
use Rattle.df_syntax.specs.declared.tree.Parameter.{Parameter}
use Rattle.df_syntax.specs.declared.tree.Sort.{Sort}
use Rattle.df_syntax.specs.declared.tree.Sort.TheVariants as of
use Rattle.df_commands.specs.Inputs.{decls_by}
use Rattle.df_commands.specs.ProgramTexts.{IsSized}
use Rattle.df_commands.specs.Ready.{IsFlatOf}

-- ---- the names of parameters

is_false : (b : Bool) → not b ≡ true → b ≡ false
is_false true h = cc
is_false false h = refl

both_of : (a b : Bool) → (a && b) ≡ true → (a ≡ true) × (b ≡ true)
both_of true true h = (refl, refl)
both_of true false h = cc
both_of false b h = cc

neither_of : (a b : Bool) → (a || b) ≡ false → (a ≡ false) × (b ≡ false)
neither_of true b h = cc
neither_of false b h = (refl, h)

-- no parameter has a name that is taken
not_taken : (ps : List Parameter) (taken : Taken) (k : ℕ) (p : Parameter) → parameters_fresh ps taken ≡ true → slice_get ps k ≡ Some p → taken p.name.name ≡ false
unfolding also
not_taken [] taken k p fresh at = cc
not_taken (q ∷ ps) taken zero p fresh at =
    let same : q ≡ p = cc in
    subst (λ (r : Parameter). taken r.name.name ≡ false) same (is_false (taken q.name.name) ((both_of (is_new taken q.name) (parameters_fresh ps (also taken q.name.name)) fresh).0))
not_taken (q ∷ ps) taken (suc k) p fresh at =
    (neither_of (bytes_eq q.name.name p.name.name) (taken p.name.name)
    (not_taken ps (also taken q.name.name) k p ((both_of (is_new taken q.name) (parameters_fresh ps (also taken q.name.name)) fresh).1) at)).1

-- nor one that stands before it
not_before : (q : Parameter) (ps : List Parameter) (taken : Taken) (k : ℕ) (p : Parameter) → parameters_fresh (q ∷ ps) taken ≡ true → slice_get ps k ≡ Some p → ¬ (q.name.name ≡ p.name.name)
unfolding also
not_before q ps taken k p fresh at same =
    let other = (neither_of (bytes_eq q.name.name p.name.name) (taken p.name.name)
    (not_taken ps (also taken q.name.name) k p ((both_of (is_new taken q.name) (parameters_fresh ps (also taken q.name.name)) fresh).1) at)).0 in
    false≢true (sym other ∙ (bytes_eq-Decides q.name.name p.name.name).1 same)

parameters_differ : (ps : List Parameter) (taken : Taken) (j k : ℕ) (p q : Parameter) → parameters_fresh ps taken ≡ true → slice_get ps j ≡ Some p → slice_get ps k ≡ Some q
    → p.name.name ≡ q.name.name → j ≡ k
parameters_differ [] taken j k p q fresh at there same = cc
parameters_differ (r ∷ ps) taken zero zero p q fresh at there same = refl
parameters_differ (r ∷ ps) taken zero (suc k) p q fresh at there same =
    let is : r ≡ p = cc in
    absurd (not_before r ps taken k q fresh there (ap (λ (s : Parameter). s.name.name) is ∙ same))
parameters_differ (r ∷ ps) taken (suc j) zero p q fresh at there same =
    let is : r ≡ q = cc in
    absurd (not_before r ps taken j p fresh at (ap (λ (s : Parameter). s.name.name) is ∙ sym same))
parameters_differ (r ∷ ps) taken (suc j) (suc k) p q fresh at there same =
    ap suc (parameters_differ ps (also taken r.name.name) j k p q ((both_of (is_new taken r.name) (parameters_fresh ps (also taken r.name.name)) fresh).1) at there same)

-- ---- the declarations

abbrev decl_of : (Expr → ℤ) → List Range → Parameter → InputDecl
decl_of value ranges p = let i = input_of value ranges p in record { name = i.name; basic = i.basic; length = input_length i.extent }

decls_of_parameters : (value : Expr → ℤ) (ranges : List Range) (ps : List Parameter) → decls_by (inputs_of value ranges ps) ≡ map (decl_of value ranges) ps
decls_of_parameters value ranges [] = refl
decls_of_parameters value ranges (p ∷ ps) = ap (λ ds. decl_of value ranges p ∷ ds) (decls_of_parameters value ranges ps)

decl_name : (value : Expr → ℤ) (ranges : List Range) (p : Parameter) → (decl_of value ranges p).name ≡ p.name.name
decl_name value ranges p = by p.sort refl
  where
    by : (s : Sort) → p.sort ≡ s → (decl_of value ranges p).name ≡ p.name.name
    by (of.Basic b) is = rw is refl
    by (of.Array b) is = rw is refl

some_at : {A B : Type 0} (f : A → B) (o : Option A) (b : B) → option_map f o ≡ Some b → (a : A) × ((o ≡ Some a) × (f a ≡ b))
some_at f None b h = cc
some_at f (Some a) b h = (a, (refl, cc))

own_names_of : (value : Expr → ℤ) (ranges : List Range) (ps : List Parameter) (taken : Taken) → parameters_fresh ps taken ≡ true → HaveOwnNames (map (decl_of value ranges) ps)
own_names_of value ranges ps taken fresh = record { differ = apart }
  where
    apart : (j k : ℕ) (d e : InputDecl) → slice_get (map (decl_of value ranges) ps) j ≡ Some d → slice_get (map (decl_of value ranges) ps) k ≡ Some e → d.name ≡ e.name → j ≡ k
    apart j k d e at there same =
        let p = some_at (decl_of value ranges) (slice_get ps j) d (sym (slice_get-map (decl_of value ranges) ps j) ∙ at) in
        let q = some_at (decl_of value ranges) (slice_get ps k) e (sym (slice_get-map (decl_of value ranges) ps k) ∙ there) in
        parameters_differ ps taken j k p.0 q.0 fresh p.1.0 q.1.0
        (sym (decl_name value ranges p.0) ∙ (ap (λ (i : InputDecl). i.name) p.1.1 ∙ (same ∙ (sym (ap (λ (i : InputDecl). i.name) q.1.1) ∙ decl_name value ranges q.0))))

-- all of a list are so in the other order
all_reversed : (test : Function → Bool) (fs : List Function) → list_all test fs ≡ true → list_all test (reverse fs) ≡ true
all_reversed test fs h =
    list_all-from_AllPass test (reverse fs) (λ k d lt.
    let within : k < length fs = omega (arith, length-reverse fs) in
    subst (λ f. test f ≡ true) (sym (get_or-reverse fs k d within)) (AllPass-from_list_all test fs h (length fs - 1 - k) d (omega arith)))

main_names : (constants : Constants) (ranges : List Range) (fs : List Function) (taken : Taken) → list_all (function_fresh taken) fs ≡ true
    → HaveOwnNames (decls_by (main_inputs constants ranges fs))
main_names constants ranges [] taken fresh = record { differ = λ j k d e at there same. cc }
main_names constants ranges (main ∷ others) taken fresh =
    let own = (both_of (parameters_fresh main.parameters taken) _ ((both_of (function_fresh taken main) _ fresh).0)).0 in
    subst HaveOwnNames (sym (decls_of_parameters (bound_value constants) ranges main.parameters)) (own_names_of (bound_value constants) ranges main.parameters taken own)

pub own_names : (tree : Tree) → IsTrue (names_are_new tree) → HaveOwnNames (decls_by (source_inputs tree))
unfolding names_are_new source_inputs
own_names tree new =
    main_names (constants_of tree) tree.ranges (reverse tree.functions) (declared_names tree) (all_reversed (function_fresh (declared_names tree)) tree.functions new)

-- what is declared of the lists is what is declared of the inputs
pub declared_by_decls : (inputs : List Input) → map declaration_of (decls_by inputs) ≡ declared inputs
declared_by_decls [] = refl
declared_by_decls (i ∷ inputs) = ap (λ ds. declaration_of (record { name = i.name; basic = i.basic; length = input_length i.extent }) ∷ ds) (declared_by_decls inputs)

-- ---- the program of an accepted source

pub meant : LoweringKeepsTheMeaning → (tree : Tree) (flat : Flat) (inputs : List (List Value)) → IsFlatOf tree flat → AreValid (declared (source_inputs tree)) inputs
    → flat_mean flat inputs ≡ source_mean tree inputs
meant keeps tree flat inputs is valid =
    ap (λ f. flat_mean f inputs) is.is
    ∙ (keeps (shaped tree) inputs is.piped (subst (λ ps. AreValid (declared ps) inputs) (sym (inputs_are tree is.sized.formed)) valid)
    ∙ meaning_kept tree is.new is.sized.formed inputs valid)

same_parameters : (p : Piped) → (flattened p).parameters ≡ p.parameters
unfolding flattened
same_parameters p = refl

pub flat_inputs : (tree : Tree) (flat : Flat) → IsFlatOf tree flat → flat.parameters ≡ source_inputs tree
flat_inputs tree flat is = ap (λ (f : Flat). f.parameters) is.is ∙ (same_parameters (shaped tree) ∙ inputs_are tree is.sized.formed)

pub flat_of_source : LoweredProgramsAreFlat → (tree : Tree) (piped : Piped) (flat : Flat) → IsTrue (names_are_new tree) → IsSized tree → IsPiped (shaped tree) → piped ≡ shaped tree → flat ≡ flattened piped
    → IsFlatOf tree flat
flat_of_source within tree piped flat new sized keeps shape lowered = record {
  sized = sized;
  new = new;
  piped = keeps;
  is = lowered ∙ ap flattened shape;
  bounds = subst IsFlat (sym (lowered ∙ ap flattened shape)) (within (shaped tree) keeps);
}
