use Rattle.std.proofs.Common.{◌≡◌, ◌++◌, ◌-◌, sym, ap, ◌∙◌, subst, arith}
use Rattle.df_cells.specs.declared.cells.Cell.{Cell}
use Rattle.df_cells.specs.Cells.{cell_at, values_of}
use Rattle.df_cells.specs.Firings.{answer, with_constants}
use Rattle.df_machine.specs.States.{firings}
use Rattle.df_machine.specs.Events.{answers, answer_now, acknowledgements}
use Rattle.df_machine.specs.Flights.{Fits}
use Rattle.df_machine.specs.Seen.{state_of}
use Rattle.df_machine.proofs.Told.{read_at}
use Rattle.df_machine.proofs.FlightNames.{fits_first}
use Rattle.df_machine.proofs.store.Store.end.Goals as goal

pub push_answers-requires-clause-fits : goal.push_answers-requires-clause-fits
push_answers-requires-clause-fits c =
    let s = c.args.self.now in let cells = c.args.cells.now in let n = c.args.cell in let inputs = c.args.sources.now.inputs.lists in let x = c.args.operands.now in
    let it = c.get-it.ensures.cell in
    let count = read_at s.fired.items n c.index.result.now 0 (let a = c.requires.aligned.fired in let w = c.requires.can.within in omega arith) c.index.ensures in
    let now : c.answer-answer.result ≡ answer_now cells inputs (state_of s) n x =
    c.answer-answer.ensures
    ∙ ap (λ (y : Cell). answer y.kind c.saturating_sub-turn.result c.values-values.result.now c.with_constants-offered.result) it
    ∙ ap (λ t. answer (cell_at cells n).kind t c.values-values.result.now c.with_constants-offered.result) (c.saturating_sub-turn.ensures ∙ ap (λ k. k - 1) count)
    ∙ ap (λ v. answer (cell_at cells n).kind (firings (state_of s) n - 1) v c.with_constants-offered.result) c.values-values.ensures
    ∙ ap (answer (cell_at cells n).kind (firings (state_of s) n - 1) (values_of cells inputs n)) (c.with_constants-offered.ensures ∙ ap (λ (y : Cell). with_constants y x) it) in
    let sent = answers (answer_now cells inputs (state_of s) n x) (cell_at cells n).dests in
    let same : answers c.answer-answer.result c.as_slice.result.now ≡ sent =
    ap (λ a. answers a c.as_slice.result.now) now ∙ ap (answers (answer_now cells inputs (state_of s) n x)) (c.as_slice.ensures ∙ ap (λ (y : Cell). y.dests) it) in
    subst (λ l. Fits s.packets.names (s.packets.packets ++ l)) (sym same)
    (fits_first s.packets.names s.packets.packets sent (acknowledgements n x) c.requires.can.fits)
