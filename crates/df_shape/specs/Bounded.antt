-- Ranges whose bounds are integers, however many elements they have.
use Rattle.std.specs.Prelude.{ℕ, suc, ℤ, pos, ◌≤ℤ◌, ◌+ℤ◌, List, All, Option, Some, None}
use Rattle.df_values.specs.Values.{greatest, IsOrdinary}
use Rattle.df_syntax.specs.declared.tree.Expr.{Expr}
use Rattle.df_values.specs.declared.inputs.Extent.{Extent}
use Rattle.df_values.specs.declared.inputs.Input.{Input}
use Rattle.df_syntax.specs.declared.piped.Body.{Body}
use Rattle.df_syntax.specs.declared.piped.Body.TheVariants as body
use Rattle.df_syntax.specs.declared.piped.Block.{Block}
use Rattle.df_syntax.specs.BlockMeaning.{before}
use Rattle.df_syntax.specs.Meaning.{Name}
use Rattle.df_syntax.specs.SourceForms.{Numbers, manifest}
use Rattle.df_syntax.specs.SourceMeaning.{over}

-- the lowest index and, where there are elements, the highest one are ordinary
pub record IsBounded (lo : ℤ) (n : ℕ) : Type 0 where
  pub low : IsOrdinary lo
  pub high : (lo +ℤ pos n) ≤ℤ (greatest +ℤ pos 1)

-- the range of what a block makes; the first element of a recurrence counts
abbrev pub HasBounds : Body → Type 0
HasBounds (body.Construct index lo n elem) = IsBounded lo n
HasBounds (body.Fold index op lo n elem) = IsBounded lo n
HasBounds (body.Recur index array lo n first elem) = IsBounded (before lo) (suc n)
HasBounds (body.Scalar expr) = Unit {0}

abbrev pub HaveBounds : List Block → Type 0
HaveBounds blocks = All (λ (b : Block). HasBounds b.body) blocks

-- ---- between two bounds

abbrev pub IsBoundedRange : Option Extent → Type 0
IsBoundedRange None = Unit {0}
IsBoundedRange (Some range) = IsBounded range.lo range.n

abbrev pub range_of : ℤ → ℕ → Option Extent
range_of lo n = Some (record { lo = lo; n = n })

-- the range between two manifest bounds
abbrev pub range_between : Numbers → Expr → Expr → Option Extent
range_between numbers low high = over (manifest numbers low) (manifest numbers high) None range_of

-- ---- of parameters

-- the range that each name has
abbrev pub AreBounded : (Name → Option Extent) → Type 0
AreBounded extents = (name : Name) → IsBoundedRange (extents name)

abbrev pub HaveBoundedExtents : List Input → Type 0
HaveBoundedExtents parameters = All (λ (p : Input). IsBoundedRange p.extent) parameters
