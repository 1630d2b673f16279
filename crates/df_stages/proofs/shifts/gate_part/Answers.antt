use Rattle.std.proofs.Common.{true, false, sym, ap, ◌∙◌}
use Rattle.df_cells.specs.declared.cells.Cell.{Cell}
use Rattle.df_cells.specs.declared.kinds.Family.TheVariants.{Gate}
use Rattle.df_cells.specs.Families.{family}
use Rattle.df_stages.proofs.Parts.{gate_part_is}
use Rattle.df_stages.proofs.shifts.gate_part.Goals as goal

pub returns-in-Gate-true : goal.returns-in-Gate-true
returns-in-Gate-true c =
    gate_part_is c.args.cells.now c.args.c.0 true _ (sym (c.family.ensures ∙ ap (λ (x : Cell). family x.kind) c.get.ensures.cell) ∙ c.in-Gate-true.is ∙ ap Gate c.in-Gate-true.field-0-test)
    c.control_firsts.ensures.on_true

pub returns-in-Gate-false : goal.returns-in-Gate-false
returns-in-Gate-false c =
    gate_part_is c.args.cells.now c.args.c.0 false _ (sym (c.family.ensures ∙ ap (λ (x : Cell). family x.kind) c.get.ensures.cell) ∙ c.in-Gate-false.is ∙ ap Gate c.in-Gate-false.field-0-test)
    c.control_firsts-in-Gate-false.ensures.on_false
