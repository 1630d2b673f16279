-- What lets a cell fire: a source its length, any other cell an operand that it always takes from an arc.
use Rattle.std.proofs.Common.{◌≡◌, ◌⊎◌, ℕ, ◌<◌, true, false, List, length, get_or, Option, Some, None, refl, sym, ◌∙◌, ap, inl, inr}
use Rattle.std.specs.Prelude.{slice_get}
use Rattle.std.proofs.lemmas.List.{get_or_past}
use Rattle.std.proofs.lemmas.Option.{none-some}
use Rattle.std.proofs.lemmas.Bool.{cases_Bool, cases_lt}
use Rattle.df_values.specs.declared.values.Value.{Value}
use Rattle.df_values.specs.declared.values.Value.TheVariants.{Int, Truth, Error}
use Rattle.df_cells.specs.declared.cells.CellId.{CellId}
use Rattle.df_cells.specs.declared.cells.Dest.{Dest}
use Rattle.df_cells.specs.declared.cells.Cell.{Cell}
use Rattle.df_cells.specs.declared.kinds.Kind.{Kind}
use Rattle.df_cells.specs.declared.kinds.Kind.TheVariants as kind
use Rattle.df_cells.specs.declared.kinds.Family.{Family}
use Rattle.df_cells.specs.declared.kinds.Family.TheVariants as of
use Rattle.df_cells.specs.Families.{family}
use Rattle.df_cells.specs.Kinds.{source_length, limit}
use Rattle.df_cells.specs.Firings.{Operands, wants, family_wants, merge_wants}
use Rattle.df_cells.specs.Cells.{no_cell, cell_at, cell_from, port_of, producer_of}
use Rattle.df_cells.specs.WellFormed.{is_controlled, WaitsForOperands, WellFormed}

-- each firing of the cell takes an operand from an arc
pub record IsDriven (cells : List Cell) (c : ℕ) : Type 0 where
  pub port : ℕ
  pub from : CellId
  pub fed : producer_of cells (port_of c port) ≡ Some from
  pub always : (x : Operands) → wants (cell_at cells c).kind x port ≡ true

-- a cell that is no MERGE wants each of its operands, and a MERGE its control
always_wanted : (it : Family) (p : ℕ) → is_controlled it ≡ false → (x : Operands) → family_wants it x p ≡ true
always_wanted of.Merge p h x = cc
always_wanted _ p h x = refl

control_of_merge : (o : Option Value) → merge_wants o 0 ≡ true
control_of_merge None = refl
control_of_merge (Some (Truth true)) = refl
control_of_merge (Some (Truth false)) = refl
control_of_merge (Some (Int n)) = refl
control_of_merge (Some (Error e)) = refl

control_wanted : (it : Family) → is_controlled it ≡ true → (x : Operands) → family_wants it x 0 ≡ true
control_wanted of.Merge h x = control_of_merge (get_or x 0 None)
control_wanted _ h x = refl

driven : (cells : List Cell) (c : ℕ) → WaitsForOperands cells c → source_length (cell_at cells c).kind ≡ None → IsDriven cells c
driven cells c w none = elim (cases_Bool (is_controlled (family (cell_at cells c).kind))) [
  | inl controlled ↦ let fed = w.control controlled in record { port = 0; from = fed.0; fed = fed.1; always = control_wanted (family (cell_at cells c).kind) controlled }
  | inr plain ↦ let fed = w.some none in record { port = fed.0; from = fed.1; fed = fed.2; always = always_wanted (family (cell_at cells c).kind) fed.0 plain }
]

-- a cell is a source, or driven
abbrev pub IsSource : List Cell → ℕ → Type 0
IsSource cells c = (n : ℕ) × (source_length (cell_at cells c).kind ≡ Some n)

pub source_or_driven : (cells : List Cell) (c : ℕ) → WellFormed cells → c < length cells → IsSource cells c ⊎ IsDriven cells c
source_or_driven cells c well_formed within = by (source_length (cell_at cells c).kind) refl
  where
    by : (o : Option ℕ) → source_length (cell_at cells c).kind ≡ o → IsSource cells c ⊎ IsDriven cells c
    by (Some n) is = inl (n, is)
    by None is = inr (driven cells c (well_formed.control c within) is)

pub source_limit : (it : Kind) (n : ℕ) → source_length it ≡ Some n → limit it ≡ Some n
source_limit (kind.Out k m) n h = cc
source_limit _ n h = h

-- a port that is fed is a port of a cell
pub end_within : (cells : List Cell) (d : Dest) (u : CellId) → producer_of cells d ≡ Some u → d.cell.0 < length cells
end_within cells d u fed = elim (cases_lt d.cell.0 (length cells)) [
  | inl within ↦ within
  | inr past ↦ absurd (none-some u (ap (λ (c : Cell). cell_from (slice_get c.ports d.port.0)) (sym (get_or_past cells d.cell.0 no_cell past)) ∙ fed))
]
