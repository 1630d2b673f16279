use Rattle.std.proofs.Common.{◌≡◌, not, ap, sym, ◌∙◌, subst, take}
use Rattle.std.specs.Option.{is_some}
use Rattle.df_values.specs.declared.inputs.Extent.{Extent}
use Rattle.df_names.specs.Found.{names_of}
use Rattle.df_names.specs.Maps.{Names, bind}
use Rattle.df_shape.specs.Bounded.{AreBounded}
use Rattle.df_shape.specs.Entries.{bound_in, extents_found}
use Rattle.df_shape.proofs.Entered.{range_bound, range_missed, range_bounded}
use Rattle.df_shape.proofs.inputs.extents.Goals.{then-is_none+in_ok-extent+in_ok-bind, else-is_none}
use Rattle.df_shape.proofs.inputs.extents.Goals as goal

pub loop-range-preserved : goal.loop-range-preserved
loop-range-preserved c =
    let found = extents_found (bound_in (names_of c.args.numbers.now)) (take c.loop-range.range-index c.args.ranges.now) in
    let is = c.loop-range.invariant.extents in
    let before : is_some (found c.range-item.result.name.name) ≡ not c.is_none.result =
    ap is_some (sym (c.get.ensures ∙ ap (λ (f : Names Extent). f c.range-item.result.name.name) is)) ∙ c.is_none.ensures in
    elim c.if-is_none.branch [
      | then-is_none+in_ok-extent+in_ok-bind w ↦ record {
        extents = ap names_of w.extents-is ∙ (w.in_ok-bind.ensures.ok
            ∙ (ap (λ (f : Names Extent). bind f c.range-item.result.name.name w.in_ok-extent.extent) is
            ∙ (ap (bind found c.range-item.result.name.name) w.in_ok-extent.ensures.extent
            ∙ range_bound (bound_in (names_of c.args.numbers.now)) c.args.ranges.now c.loop-range.range-index c.range-item.result c.loop-range-test.true
            c.range-item.is (before ∙ ap not w.if-is_none.true))));
        bounds = subst AreBounded (sym (ap names_of w.extents-is ∙ w.in_ok-bind.ensures.ok))
            (range_bounded (names_of c.loop-range.extents) c.range-item.result.name.name w.in_ok-extent.extent c.loop-range.invariant.bounds w.in_ok-extent.ensures.bounds);
      }
      | else-is_none w ↦ record {
        extents = ap names_of w.extents-is ∙ (is
            ∙ range_missed (bound_in (names_of c.args.numbers.now)) c.args.ranges.now c.loop-range.range-index c.range-item.result
            c.loop-range-test.true c.range-item.is (before ∙ ap not w.if-is_none.false));
        bounds = subst AreBounded (sym (ap names_of w.extents-is)) c.loop-range.invariant.bounds;
      }
    ]
