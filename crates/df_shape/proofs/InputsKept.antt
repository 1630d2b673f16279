-- The inputs of the blocks are those of the source.
use Rattle.std.proofs.Common.{◌≡◌, ℤ, List, [], ◌∷◌, ◌++◌, refl, sym, ◌∙◌, ap, Some, None, bytes_eq, if◌then◌else◌}
use Rattle.std.specs.Prelude.{flat_map, nat_le}
use Rattle.df_syntax.specs.declared.tree.Sort.TheVariants as of
use Rattle.df_syntax.specs.declared.tree.Parameter.{Parameter}
use Rattle.df_syntax.specs.declared.tree.Expr.{Expr}
use Rattle.df_syntax.specs.declared.program.Range.{Range}
use Rattle.df_values.specs.declared.inputs.Extent.{Extent}
use Rattle.df_values.specs.declared.inputs.Input.{Input}
use Rattle.df_syntax.specs.Demands.{first_refusal}
use Rattle.df_syntax.proofs.FirstRefusals.{begin_holds, rest_holds}
use Rattle.df_syntax.specs.Meaning.{Name}
use Rattle.df_syntax.specs.SourceForms.{Numbers, Constants, only, manifest}
use Rattle.df_syntax.specs.SourceMeaning.{or_zero, extent_over, bound_value, extent_of, input_of, inputs_of}
use Rattle.df_shape.specs.declared.answers.ShapeAnswer.TheVariants.{RangeTooLong}
use Rattle.df_shape.specs.Demands.{demand, manifest_demand, length_between, longest}
use Rattle.df_shape.specs.Sources.{one_range_demands}
use Rattle.df_shape.proofs.ManifestMeaning.{manifest_means}
use Rattle.df_shape.proofs.CallsKept.{Exact, exact_numbers, manifest_held}

module _ (numbers : Numbers) (constants : Constants) (exact : Exact numbers constants) where
  abbrev pub known : Expr → ℤ
  known e = or_zero (manifest numbers e)

  same_bound : (e : Expr) (k : ℤ) → manifest numbers e ≡ Some k → known e ≡ bound_value constants e
  same_bound e k is = ap or_zero is ∙ sym (ap or_zero (manifest_means numbers (only constants) (exact_numbers numbers constants exact) e k is))

  same_extent : (ranges : List Range) → first_refusal (flat_map (one_range_demands numbers) ranges) ≡ None → (name : Name) → extent_of known ranges name ≡ extent_of (bound_value constants) ranges name
  same_extent [] holds name = refl
  same_extent (r ∷ ranges) holds name =
      let here = begin_holds (one_range_demands numbers r) (flat_map (one_range_demands numbers) ranges) holds in
      let short = demand (nat_le (length_between numbers r.low r.high) longest) (RangeTooLong r.name.place) in
      let low = manifest_held numbers r.low (manifest_demand numbers r.high ++ short) here in
      let high = manifest_held numbers r.high short low.1 in
      ap (λ lo. if bytes_eq r.name.name name then extent_over lo (known r.high) else extent_of known ranges name) (same_bound r.low low.0.0 low.0.1)
      ∙ (ap (λ hi. if bytes_eq r.name.name name then extent_over (bound_value constants r.low) hi else extent_of known ranges name) (same_bound r.high high.0.0 high.0.1)
      ∙ ap (λ (x : Extent). if bytes_eq r.name.name name then extent_over (bound_value constants r.low) (bound_value constants r.high) else x)
      (same_extent ranges (rest_holds (one_range_demands numbers r) (flat_map (one_range_demands numbers) ranges) holds) name))

  same_input : (ranges : List Range) → first_refusal (flat_map (one_range_demands numbers) ranges) ≡ None → (p : Parameter) → input_of known ranges p ≡ input_of (bound_value constants) ranges p
  same_input ranges holds p =
      elim p.sort as (λ s.
      (elim s as (λ s. Input) [ of.Basic b ↦ record { name = p.name.name; basic = b; extent = None } | of.Array b ↦ record { name = p.name.name; basic = b; extent = Some (extent_of known ranges p.name.name) } ])
      ≡ (elim s as (λ s. Input) [ of.Basic b ↦ record { name = p.name.name; basic = b; extent = None } | of.Array b ↦ record { name = p.name.name; basic = b; extent = Some (extent_of (bound_value constants) ranges p.name.name) } ])) [
        | of.Basic b ↦ refl
        | of.Array b ↦ ap (λ (x : Extent). record { name = p.name.name; basic = b; extent = Some x }) (same_extent ranges holds p.name.name)
      ]

  pub inputs_kept : (ranges : List Range) → first_refusal (flat_map (one_range_demands numbers) ranges) ≡ None → (ps : List Parameter) → inputs_of known ranges ps ≡ inputs_of (bound_value constants) ranges ps
  inputs_kept ranges holds [] = refl
  inputs_kept ranges holds (p ∷ ps) =
      ap (λ (x : Input). x ∷ inputs_of known ranges ps) (same_input ranges holds p) ∙ ap (λ l. input_of (bound_value constants) ranges p ∷ l) (inputs_kept ranges holds ps)
