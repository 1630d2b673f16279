use Rattle.std.proofs.Common.{ap, sym, ◌∙◌}
use Rattle.std.proofs.lemmas.List.{take_all}
use Rattle.df_names.specs.Found.{names_of}
use Rattle.df_names.specs.Maps.{bind}
use Rattle.df_shape.specs.Renamed.{Names}
use Rattle.df_shape.specs.Shaped.{constant_standing}
use Rattle.df_shape.specs.Entries.{standing_in}
use Rattle.df_shape.proofs.Entered.{all_constants, constant_bound, constant_missed}
use Rattle.df_shape.proofs.entries.constant_names.Goals.{in-Some+in_ok-bind, in_default}
use Rattle.df_shape.proofs.entries.constant_names.Goals as goal

pub loop-constant-preserved : goal.loop-constant-preserved
loop-constant-preserved c = elim c.match-constant_standing.branch [
  | in-Some+in_ok-bind w ↦
      ap names_of w.names-is ∙ (w.in_ok-bind.ensures.ok
      ∙ (ap (λ (f : Names). bind f c.constant-item.result.name.name w.in-Some.standing) c.loop-constant.invariant
      ∙ constant_bound (names_of c.args.numbers.now) c.args.constants.now c.loop-constant.constant-index c.constant-item.result w.in-Some.standing
      c.loop-constant-test.true c.constant-item.is (sym (c.constant_standing.ensures ∙ ap constant_standing c.get.ensures) ∙ w.in-Some.is)))
  | in_default w ↦
      ap names_of w.names-is ∙ (c.loop-constant.invariant
      ∙ constant_missed (names_of c.args.numbers.now) c.args.constants.now c.loop-constant.constant-index c.constant-item.result
      c.loop-constant-test.true c.constant-item.is (sym (c.constant_standing.ensures ∙ ap constant_standing c.get.ensures) ∙ w.in_default.is))
]

pub returns : goal.returns
returns c =
    c.loop-constant.invariant
    ∙ (ap (standing_in (names_of c.args.numbers.now)) (take_all c.loop-constant.constant-index c.args.constants.now c.loop-constant-test.false)
    ∙ all_constants (names_of c.args.numbers.now) c.args.constants.now c.requires)
