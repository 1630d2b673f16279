use Rattle.std.proofs.Common.{◌≡◌, sym, ◌∙◌, ap, drop, [], ◌∷◌, ◌++◌, Some, None, not, if◌then◌else◌}
use Rattle.std.specs.Option.{is_some}
use Rattle.df_types.specs.declared.answers.CheckAnswer.TheVariants.{BadRange}
use Rattle.df_syntax.specs.Demands.{first_refusal}
use Rattle.df_types.specs.Demands.{demand}
use Rattle.df_names.specs.Found.{names_of}
use Rattle.df_types.specs.Sorts.{integer}
use Rattle.df_types.specs.Types.{asked}
use Rattle.df_types.specs.Sources.{constant_look, range_demands}
use Rattle.df_types.proofs.PassSteps.{range_step, range_stop, left_step}
use Rattle.df_syntax.proofs.FirstRefusals.{both}
use Rattle.df_types.proofs.Steps.{left, right, handed_on, refused_2, holds_2, moved, moved_refused, refused_as}
use Rattle.df_types.proofs.passes.check_each_range.Goals as goal

pub returns-in_err-ask-clause-answers : goal.returns-in_err-ask-clause-answers
returns-in_err-ask-clause-answers c =
    let there : first_refusal (demand (is_some ((names_of c.loop-range.without) c.range-item.result.name.name)) (BadRange c.range-item.result.name.name c.range-item.result.name.place) ∷ []) ≡ None = ap (λ b. if b then None else Some (BadRange c.range-item.result.name.name c.range-item.result.name.place)) (ap is_some (sym c.get.ensures) ∙ (c.is_none.ensures ∙ ap not c.if-is_none.false)) in
    handed_on _ _ _ _ _ _ c.from_residual.ensures.1 (refused_as (range_demands c.args.all.now (names_of c.args.without.now) (names_of c.args.scope.now)) (range_demands (drop c.loop-range.range-index c.args.all.now) (names_of c.loop-range.without) (names_of c.args.scope.now)) _ c.loop-range.invariant.left
    (range_stop c.args.all.now c.loop-range.range-index c.range-item.result (names_of c.loop-range.without) (names_of c.args.scope.now) _ c.loop-range-test.true c.range-item.is (right (demand (is_some ((names_of c.loop-range.without) c.range-item.result.name.name)) (BadRange c.range-item.result.name.name c.range-item.result.name.place) ∷ []) ((asked (constant_look c.range-item.result.low) integer) (names_of c.args.scope.now) ++ (asked (constant_look c.range-item.result.high) integer) (names_of c.args.scope.now)) _ there (left ((asked (constant_look c.range-item.result.low) integer) (names_of c.args.scope.now)) ((asked (constant_look c.range-item.result.high) integer) (names_of c.args.scope.now)) _ (moved_refused (asked (constant_look c.range-item.result.low) integer) (names_of c.loop-range.scope) (names_of c.args.scope.now) _ c.loop-range.invariant.kept (rw c.requires at c.in_err-ask.ensures))))))

pub returns-in_err-ask-2-clause-answers : goal.returns-in_err-ask-2-clause-answers
returns-in_err-ask-2-clause-answers c =
    let there : first_refusal (demand (is_some ((names_of c.loop-range.without) c.range-item.result.name.name)) (BadRange c.range-item.result.name.name c.range-item.result.name.place) ∷ []) ≡ None = ap (λ b. if b then None else Some (BadRange c.range-item.result.name.name c.range-item.result.name.place)) (ap is_some (sym c.get.ensures) ∙ (c.is_none.ensures ∙ ap not c.if-is_none.false)) in
    let low : first_refusal ((asked (constant_look c.range-item.result.low) integer) (names_of c.args.scope.now)) ≡ None = moved (asked (constant_look c.range-item.result.low) integer) (names_of c.loop-range.scope) (names_of c.args.scope.now) c.loop-range.invariant.kept (rw c.requires at c.in_ok-ask.ensures.holds) in
    let same : names_of c.ask.new.scope ≡ (names_of c.args.scope.now) = c.in_ok-ask.ensures.names_are ∙ c.loop-range.invariant.kept in
    handed_on _ _ _ _ _ _ c.from_residual-in_err-ask-2.ensures.1 (refused_as (range_demands c.args.all.now (names_of c.args.without.now) (names_of c.args.scope.now)) (range_demands (drop c.loop-range.range-index c.args.all.now) (names_of c.loop-range.without) (names_of c.args.scope.now)) _ c.loop-range.invariant.left
    (range_stop c.args.all.now c.loop-range.range-index c.range-item.result (names_of c.loop-range.without) (names_of c.args.scope.now) _ c.loop-range-test.true c.range-item.is (right (demand (is_some ((names_of c.loop-range.without) c.range-item.result.name.name)) (BadRange c.range-item.result.name.name c.range-item.result.name.place) ∷ []) ((asked (constant_look c.range-item.result.low) integer) (names_of c.args.scope.now) ++ (asked (constant_look c.range-item.result.high) integer) (names_of c.args.scope.now)) _ there (refused_2 ((asked (constant_look c.range-item.result.low) integer) (names_of c.args.scope.now)) (asked (constant_look c.range-item.result.high) integer) (names_of c.args.scope.now) c.ask.new.scope _ low same (rw c.requires at c.in_err-ask-2.ensures)))))

pub loop-range-preserved : goal.loop-range-preserved
loop-range-preserved c =
    let there : first_refusal (demand (is_some ((names_of c.loop-range.without) c.range-item.result.name.name)) (BadRange c.range-item.result.name.name c.range-item.result.name.place) ∷ []) ≡ None = ap (λ b. if b then None else Some (BadRange c.range-item.result.name.name c.range-item.result.name.place)) (ap is_some (sym c.get.ensures) ∙ (c.is_none.ensures ∙ ap not c.if-is_none.false)) in
    let low : first_refusal ((asked (constant_look c.range-item.result.low) integer) (names_of c.args.scope.now)) ≡ None = moved (asked (constant_look c.range-item.result.low) integer) (names_of c.loop-range.scope) (names_of c.args.scope.now) c.loop-range.invariant.kept (rw c.requires at c.in_ok-ask.ensures.holds) in
    let same : names_of c.ask.new.scope ≡ (names_of c.args.scope.now) = c.in_ok-ask.ensures.names_are ∙ c.loop-range.invariant.kept in
    record {
      left = rw c.unbind.ensures (c.loop-range.invariant.left ∙ range_step c.args.all.now c.loop-range.range-index c.range-item.result (names_of c.loop-range.without) (names_of c.args.scope.now) c.loop-range-test.true c.range-item.is
          (both (demand (is_some ((names_of c.loop-range.without) c.range-item.result.name.name)) (BadRange c.range-item.result.name.name c.range-item.result.name.place) ∷ []) ((asked (constant_look c.range-item.result.low) integer) (names_of c.args.scope.now) ++ (asked (constant_look c.range-item.result.high) integer) (names_of c.args.scope.now)) there (holds_2 ((asked (constant_look c.range-item.result.low) integer) (names_of c.args.scope.now)) (asked (constant_look c.range-item.result.high) integer) (names_of c.args.scope.now) c.ask.new.scope low same (rw c.requires at c.in_ok-ask-2.ensures.holds))));
      after = rw c.unbind.ensures (c.loop-range.invariant.after ∙ left_step c.args.all.now c.loop-range.range-index c.range-item.result (names_of c.loop-range.without) c.loop-range-test.true c.range-item.is);
      kept = c.in_ok-ask-2.ensures.names_are ∙ same;
    }
