-- What an enabled cell finds at a port that it always wants.
use Rattle.std.proofs.Common.{◌≡◌, ℕ, zero, suc, ◌<◌, true, false, ◌&&◌, get_or, List, Option, Some, None, ◌∙◌, ap, arith}
use Rattle.std.specs.Prelude.{slice_get, is_some}
use Rattle.df_cells.specs.declared.cells.CellId.{CellId}
use Rattle.df_cells.specs.declared.cells.Cell.{Cell}
use Rattle.df_cells.specs.Firings.{Operands, wants, with_constants, takes}
use Rattle.df_cells.specs.Cells.{cell_from, cell_at, producer_of, port_of}
use Rattle.df_machine.specs.States.{State, row, place}
use Rattle.df_machine.specs.Events.{is_enabled, has_operands, lacks}
use Rattle.df_machine.proofs.Enabled.{lacks_none, arc_taken, operands_from_enabled}

lacks_at : (cell : Cell) (x : Operands) (p : ℕ) → has_operands cell x ≡ true → p < 3 → lacks cell x p ≡ false
lacks_at cell x zero h l = (lacks_none cell x h).0
lacks_at cell x (suc zero) h l = (lacks_none cell x h).1
lacks_at cell x (suc (suc zero)) h l = (lacks_none cell x h).2
lacks_at cell x (suc (suc (suc p))) h l = absurd (omega arith)

-- an enabled cell takes an operand at a port that it always wants
pub wanted_here : (cells : List Cell) (s : State) (c p : ℕ) (u : CellId) → is_enabled cells s c ≡ true → producer_of cells (port_of c p) ≡ Some u → p < 3
    → ((x : Operands) → wants (cell_at cells c).kind x p ≡ true) → (takes (cell_at cells c) (row s c) p ≡ true) × (is_some (place s (port_of c p)) ≡ true)
wanted_here cells s c p u e fed l always =
    let cell = cell_at cells c in
    let w = wants cell.kind (with_constants cell (row s c)) p in
    let t : (is_some (cell_from (slice_get cell.ports p)) && w) ≡ true = ap (λ (f : Option CellId). is_some f && w) fed ∙ always (with_constants cell (row s c)) in
    (t, arc_taken (slice_get cell.ports p) w (get_or (row s c) p None) (lacks_at cell (row s c) p (operands_from_enabled cells s c e) l) t)
