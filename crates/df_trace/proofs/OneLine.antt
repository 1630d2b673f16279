-- Events with one line are events in which the same happens.
use Rattle.std.proofs.Common.{◌≡◌, ℕ, ◌<◌, List, [], ◌∷◌, ◌++◌, drop, codes, false, refl, sym, ◌∙◌, ap, subst, arith, append_assoc, append-nil}
use Rattle.std.specs.Fmt.{decimal}
use Rattle.df_values.specs.Decimals.{LeadsWith, begins_with_digit}
use Rattle.df_values.specs.Spelling.{spelled}
use Rattle.df_cells.specs.declared.cells.CellId.{CellId}
use Rattle.df_cells.specs.declared.cells.Dest.{Dest}
use Rattle.df_cells.specs.Cells.{port_of}
use Rattle.df_machine.specs.declared.packets.Event.{Event}
use Rattle.df_machine.specs.declared.packets.Event.TheVariants.{Fire, Perform, Arrive, Ack}
use Rattle.df_machine.specs.declared.packets.Action.TheVariants as action
use Rattle.df_machine.specs.Events.{action_of}
use Rattle.df_machine.specs.Laws.{IsOfCells}
use Rattle.df_trace.specs.Lines.{port_text, line_of}
use Rattle.df_trace.proofs.Names.{LeadsOnce, whole, that_cell, of_fire, of_perform, of_arrive, of_ack}

-- one cell has its decimal, and one port its text, whatever stands behind it but digits
one_cell : LeadsOnce → (c d : CellId) → c.0 < 65536 → d.0 < 65536 → decimal c.0 ≡ decimal d.0 → c ≡ d
one_cell law c d small few same =
    that_cell c d (law (decimal c.0) [] [] c.0 d.0 (omega arith) (omega arith) (whole (decimal c.0) c.0 refl) (whole (decimal c.0) d.0 same)).0

leads_to_cell : (text : List ℕ) (d : Dest) (rest : List ℕ) → text ≡ port_text d ++ rest → LeadsWith text d.cell.0 (46 ∷ (decimal d.port.0 ++ rest))
leads_to_cell text d rest is = record { parts = is ∙ append_assoc (decimal d.cell.0) (codes "." ++ decimal d.port.0) rest; ends = refl }

one_port : LeadsOnce → (d e : Dest) (text rest others : List ℕ) → d.cell.0 < 65536 → d.port.0 < 3 → e.cell.0 < 65536 → e.port.0 < 3 → begins_with_digit rest ≡ false → begins_with_digit others ≡ false
    → text ≡ port_text d ++ rest → text ≡ port_text e ++ others → d ≡ e
one_port law d e text rest others dc dp ec ep ends ends' is also =
    let cell = law text (46 ∷ (decimal d.port.0 ++ rest)) (46 ∷ (decimal e.port.0 ++ others)) d.cell.0 e.cell.0 (omega arith) (omega arith) (leads_to_cell text d rest is) (leads_to_cell text e others also) in
    let behind : decimal d.port.0 ++ rest ≡ decimal e.port.0 ++ others = ap (drop 1) cell.1 in
    let port = law (decimal d.port.0 ++ rest) rest others d.port.0 e.port.0 (omega arith) (omega arith) (record { parts = refl; ends = ends }) (record { parts = behind; ends = ends' }) in
    ap (λ i. port_of i d.port.0) cell.0 ∙ ap (λ q. port_of e.cell.0 q) port.0

pub same_line : LeadsOnce → (e f : Event) → IsOfCells 65536 e → IsOfCells 65536 f → line_of e ≡ line_of f → action_of e ≡ action_of f
same_line law (Fire c) f small few is =
    let g = of_fire f (line_of (Fire c)) (decimal c.0) refl is in
    ap (λ x. action.Fire x) (one_cell law c g.0 small (subst (IsOfCells 65536) g.1 few) g.2) ∙ ap action_of (sym g.1)
same_line law (Perform c) f small few is =
    let g = of_perform f (line_of (Perform c)) (decimal c.0) refl is in
    ap (λ x. action.Perform x) (one_cell law c g.0 small (subst (IsOfCells 65536) g.1 few) g.2) ∙ ap action_of (sym g.1)
same_line law (Arrive d v) f small few is =
    let g = of_arrive f (line_of (Arrive d v)) (port_text d ++ (codes " " ++ spelled v)) refl is in
    let within = subst (IsOfCells 65536) g.2 few in
    ap (λ x. action.Arrive x) (one_port law d g.0 _ (codes " " ++ spelled v) (codes " " ++ spelled g.1) small.0 small.1 within.0 within.1 refl refl refl g.3) ∙ ap action_of (sym g.2)
same_line law (Ack d) f small few is =
    let g = of_ack f (line_of (Ack d)) (port_text d) refl is in
    let within = subst (IsOfCells 65536) g.1 few in
    ap (λ x. action.Ack x) (one_port law d g.0 (port_text d) [] [] small.0 small.1 within.0 within.1 refl refl (sym (append-nil (port_text d))) (g.2 ∙ sym (append-nil (port_text g.0)))) ∙ ap action_of (sym g.1)
