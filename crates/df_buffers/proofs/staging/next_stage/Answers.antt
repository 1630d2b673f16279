use Rattle.std.proofs.Common.{◌≡◌, sym, ap, ◌∙◌, arith}
use Rattle.std.proofs.lemmas.Option.{same_Some}
use Rattle.df_cells.specs.declared.cells.CellId.{CellId}
use Rattle.df_buffers.proofs.staging.next_stage.Goals as goal

pub overflow_add-result : goal.overflow_add-result
overflow_add-result c =
    let behind = c.requires.behind in
    let one : behind.0 ≡ c.in-Some.producer =
    same_Some behind.0 c.in-Some.producer (sym behind.1 ∙ sym c.producer_of.ensures ∙ c.in-Some.is) in
    let number = ap (λ (k : CellId). k.0) one in
    let less = behind.2 in
    let few = c.requires.few in
    let cell = c.requires.cell in
    let known = c.requires.small c.in-Some.producer.0 (omega arith) in
    omega arith
