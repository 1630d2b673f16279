-- Which flat programs keep the bounds: names of parameters differ, ranges are within the limits, and no loop stands in a term.
use Rattle.std.specs.Prelude.{◌≡◌, suc, List, All, map, bytes_eq, Bool, true, false, ◌&&◌}
use Rattle.std.specs.List.{IsDistinct, list_all}
use Rattle.df_values.specs.Inputs.{IsRange, HasExtent}
use Rattle.df_values.specs.declared.kinds.Binary.{Binary}
use Rattle.df_values.specs.declared.inputs.Input.{Input}
use Rattle.df_core.specs.declared.terms.Term.{Term}
use Rattle.df_core.specs.declared.terms.Term.TheOpen.{Term-F}
use Rattle.df_core.specs.declared.flat.Body.{Body}
use Rattle.df_core.specs.declared.flat.Body.TheVariants as body
use Rattle.df_core.specs.declared.flat.Block.{Block}
use Rattle.df_core.specs.declared.flat.Flat.{Flat}
use Rattle.df_core.specs.Terms.{Layer, fold_term}
use Rattle.df_core.specs.Meaning.{before}

-- the range of what a block makes; the first element of a recurrence counts
abbrev pub HasRange : Body → Type 0
HasRange (body.Construct lo n t) = IsRange lo n
HasRange (body.Fold o lo n t) = IsRange lo n
HasRange (body.Recurrence lo n first t) = IsRange (before lo) (suc n)
HasRange (body.Scalar t) = Unit {0}

abbrev pub HaveRanges : List Block → Type 0
HaveRanges blocks = All (λ (b : Block). HasRange b.body) blocks

abbrev pub layer_loopless : Layer Bool → Bool
layer_loopless (Term-F.Chain first rest) = first && list_all (λ (s : Binary × Bool). s.1) rest
layer_loopless (Term-F.Change how of) = of
layer_loopless (Term-F.If branches last) = last && list_all (λ (b : Bool × Bool). b.0 && b.1) branches
layer_loopless (Term-F.Let definitions value) = value && list_all (λ (d : Bool). d) definitions
layer_loopless (Term-F.Loop first more test next last) = false
layer_loopless _ = true

-- whether no loop stands in a term
unfoldable pub has_no_loop : Term → Bool
has_no_loop = fold_term Bool layer_loopless

-- no loop stands in the terms of a block
abbrev pub IsLoopless : Body → Type 0
IsLoopless (body.Construct lo n t) = has_no_loop t ≡ true
IsLoopless (body.Fold o lo n t) = has_no_loop t ≡ true
IsLoopless (body.Recurrence lo n first t) = (has_no_loop first ≡ true) × (has_no_loop t ≡ true)
IsLoopless (body.Scalar t) = has_no_loop t ≡ true

abbrev pub AreLoopless : List Block → Type 0
AreLoopless blocks = All (λ (b : Block). IsLoopless b.body) blocks

-- the bounds of a flat program
pub record IsFlat (p : Flat) : Type 0 where
  pub differ : IsDistinct bytes_eq (map (λ (i : Input). i.name) p.parameters)
  pub extents : All (λ (i : Input). HasExtent i.extent) p.parameters
  pub ranges : HaveRanges p.blocks
  pub loopless : AreLoopless p.blocks
