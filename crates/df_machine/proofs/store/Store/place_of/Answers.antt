use Rattle.std.proofs.Common.{refl, sym, ◌∙◌, arith}
use Rattle.df_machine.specs.Seen.{state_of}
use Rattle.df_machine.proofs.Looks.{long_of, count_few}
use Rattle.df_machine.proofs.PlaceOf.{place_of_cell, place_of_packet, no_place_of_cell, no_place_of_packet}
use Rattle.df_machine.proofs.store.Store.place_of.Goals.{else-cell-len-via-then-cell-len+else-is_enabled, else-cell-len-via-else-cell-len}
use Rattle.df_machine.proofs.store.Store.place_of.Goals as goal

pub before-requires : goal.before-requires
before-requires c =
    let long = long_of c.args.cells.now c.args.self.now c.args.self.now.enabled c.requires.indexed refl in omega (arith, long, c.if-cell-len.true, c.len.ensures.count)

pub returns-then-is_enabled-clause-place : goal.returns-then-is_enabled-clause-place
returns-then-is_enabled-clause-place c =
    place_of_cell c.args.cells.now c.args.self.now c.before-then-is_enabled.result c.in-Fire.cell c.args.action c.requires.indexed (omega (arith, c.if-cell-len.true, c.len.ensures.count))
    (sym c.is_enabled.ensures ∙ c.if-is_enabled.true) c.before-then-is_enabled.ensures (sym c.in-Fire.is)

pub returns-in-Fire-clause-none : goal.returns-in-Fire-clause-none
returns-in-Fire-clause-none c =
    let s = state_of c.args.self.now in
    elim c.else-cell-len.branch [
      | else-cell-len-via-then-cell-len+else-is_enabled w ↦ no_place_of_cell c.args.cells.now s c.in-Fire.cell c.args.action (sym c.in-Fire.is) (λ h. sym w.is_enabled.ensures ∙ w.if-is_enabled.false)
      | else-cell-len-via-else-cell-len w ↦ no_place_of_cell c.args.cells.now s c.in-Fire.cell c.args.action (sym c.in-Fire.is) (λ h. absurd (omega (arith, h, w.if-cell-len.false, c.len.ensures.count)))
    ]

pub overflow_cast-result : goal.overflow_cast-result
overflow_cast-result c = omega (arith, c.in-Some.ensures.within, c.requires.room)

pub overflow_add-result : goal.overflow_add-result
overflow_add-result c =
    let few = count_few c.args.cells.now c.args.self.now c.requires.indexed in omega (arith, few, c.count.ensures, c.requires.cells, c.in-Some.ensures.within, c.requires.room)

pub returns-in-Some : goal.returns-in-Some
returns-in-Some c = record {
  place = place_of_packet c.args.cells.now c.args.self.now c.count.result c.in-Some.place c.args.action c.requires.indexed c.count.ensures c.in-Some.ensures.some;
  none = tt;
}

pub returns-in-None : goal.returns-in-None
returns-in-None c = record {
  place = tt;
  none = no_place_of_packet c.args.cells.now (state_of c.args.self.now) c.args.action (λ x e. c.in_default.not-Fire x (sym e)) c.in-None.ensures.none;
}
