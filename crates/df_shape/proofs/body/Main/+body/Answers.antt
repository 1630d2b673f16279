use Rattle.std.proofs.Common.{◌≡◌, None, List, [], drop, arith, ◌++◌, sym, ◌∙◌, ap, subst}
use Rattle.std.specs.Prelude.{flat_map}
use Rattle.std.proofs.lemmas.List.{drop_all}
use Rattle.df_syntax.specs.declared.tree.Expr.{Expr}
use Rattle.df_syntax.specs.Demands.{first_refusal}
use Rattle.df_syntax.proofs.FirstRefusals.{first_stays}
use Rattle.df_shape.specs.Demands.{Demands, Around, demands_of}
use Rattle.df_shape.specs.Sources.{whole, body_of, body_definitions, with_arrays, body_demands}
use Rattle.df_shape.specs.Bodies.{main_around, bodies, body_looks}
use Rattle.df_shape.specs.Walked.{Kept}
use Rattle.df_shape.proofs.Passes.{tried_err, kept_of, kept_rest, each_step}
use Rattle.df_shape.proofs.Passes as passes
use Rattle.df_shape.proofs.BodyParts.{let_inside, none_inside, let_in, other, results}
use Rattle.df_shape.proofs.body.Main.+body.Goals as goal

pub ask_body-returns-then-is_let : goal.ask_body-returns-then-is_let
ask_body-returns-then-is_let t c =
    subst (λ (ds : Demands). Kept ds c.ask_body.result) (sym (let_inside (main_around c.args.self.now c.args.arrays.now) c.args.expr.now c.in-Parens.of (sym c.get.ensures ∙ c.in-Parens.is) (sym c.is_let.ensures ∙ c.if-is_let.true))) c.ask_body.ensures

pub ask_body-returns-else-is_let : goal.ask_body-returns-else-is_let
ask_body-returns-else-is_let t c =
    kept_of (body_of c.args.expr.now (main_around c.args.self.now c.args.arrays.now)) c.ask_whole.result (ap first_refusal (none_inside (main_around c.args.self.now c.args.arrays.now) c.args.expr.now c.in-Parens.of (sym c.get.ensures ∙ c.in-Parens.is) (sym c.is_let.ensures ∙ c.if-is_let.false)) ∙ c.ask_whole.ensures)

pub ask_body-returns-in_default : goal.ask_body-returns-in_default
ask_body-returns-in_default t c =
    kept_of (body_of c.args.expr.now (main_around c.args.self.now c.args.arrays.now)) c.ask_whole-in_default.result
    (ap first_refusal (other (main_around c.args.self.now c.args.arrays.now) c.args.expr.now (λ of is. c.in_default.not-Parens of (c.get.ensures ∙ is)) (λ ds values is. c.in_default.not-Let ds values (c.get.ensures ∙ is)))
    ∙ c.ask_whole-in_default.ensures)

pub ask_body-returns-in_err-ask_definitions-in-Let : goal.ask_body-returns-in_err-ask_definitions-in-Let
ask_body-returns-in_err-ask_definitions-in-Let t c =
    subst (λ (ds : Demands). Kept ds c.from_residual.result) (sym (let_in (main_around c.args.self.now c.args.arrays.now) c.args.expr.now c.in-Let.definitions c.in-Let.values (sym c.get.ensures ∙ c.in-Let.is)))
    (tried_err ((body_definitions (main_around c.args.self.now c.args.arrays.now) (body_looks c.in-Let.definitions)) ++ (body_demands (bodies c.in-Let.values) (with_arrays (main_around c.args.self.now c.args.arrays.now) (body_looks c.in-Let.definitions)))) _ _ _ c.from_residual.ensures.1
    (λ ordinary. first_stays (body_definitions (main_around c.args.self.now c.args.arrays.now) (body_looks c.in-Let.definitions)) (body_demands (bodies c.in-Let.values) (with_arrays (main_around c.args.self.now c.args.arrays.now) (body_looks c.in-Let.definitions))) _ ((rw c.as_slice.ensures at c.in_err-ask_definitions-in-Let.ensures) ordinary)))

pub ask_body-returns-in_ok-ask_definitions-in-Let : goal.ask_body-returns-in_ok-ask_definitions-in-Let
ask_body-returns-in_ok-ask_definitions-in-Let t c =
    let held : (first_refusal (body_definitions (main_around c.args.self.now c.args.arrays.now) (body_looks c.in-Let.definitions)) ≡ None) × ((main_around c.args.self.now c.ask_definitions.new.arrays) ≡ (with_arrays (main_around c.args.self.now c.args.arrays.now) (body_looks c.in-Let.definitions))) = rw c.as_slice.ensures at c.in_ok-ask_definitions-in-Let.ensures in
    let inner : Kept (body_demands (bodies c.in-Let.values) (main_around c.args.self.now c.ask_definitions.new.arrays)) c.ask_results.result = rw c.as_slice-in-Let.ensures at c.ask_results.ensures in
    subst (λ (ds : Demands). Kept ds c.ask_results.result) (sym (let_in (main_around c.args.self.now c.args.arrays.now) c.args.expr.now c.in-Let.definitions c.in-Let.values (sym c.get.ensures ∙ c.in-Let.is)))
    (kept_rest (body_definitions (main_around c.args.self.now c.args.arrays.now) (body_looks c.in-Let.definitions)) (body_demands (bodies c.in-Let.values) (with_arrays (main_around c.args.self.now c.args.arrays.now) (body_looks c.in-Let.definitions))) c.ask_results.result held.0
    (subst (λ (w : Around). Kept (body_demands (bodies c.in-Let.values) w) c.ask_results.result) held.1 inner))

pub ask_results-returns-in_err-ask_whole : goal.ask_results-returns-in_err-ask_whole
ask_results-returns-in_err-ask_whole t c =
    subst (λ (ds : Demands). Kept ds c.from_residual.result) (sym (results (main_around c.args.self.now c.args.arrays.now) c.args.values.now c.if-values-eq1.false))
    (kept_of (flat_map (λ (e : Expr). demands_of e (whole (main_around c.args.self.now c.args.arrays.now))) c.args.values.now) c.from_residual.result
    (passes.each_stop (λ (e : Expr). demands_of e (whole (main_around c.args.self.now c.args.arrays.now))) _ c.args.values.now c.loop-value.value-index c.value-item.result _ _ c.loop-value.invariant.left c.loop-value-test.true c.value-item.is c.from_residual.ensures.1 (rw c.loop-value.invariant.kept at c.in_err-ask_whole.ensures)))

pub ask_results-loop-value-preserved : goal.ask_results-loop-value-preserved
ask_results-loop-value-preserved t c =
    record {
      left = c.loop-value.invariant.left ∙ each_step (λ (e : Expr). demands_of e (whole (main_around c.args.self.now c.args.arrays.now))) c.args.values.now c.loop-value.value-index c.value-item.result c.loop-value-test.true c.value-item.is (rw c.loop-value.invariant.kept at c.in_ok-ask_whole.ensures);
      kept = c.loop-value.invariant.kept;
    }

pub ask_results-returns : goal.ask_results-returns
ask_results-returns t c =
    let left : first_refusal (flat_map (λ (e : Expr). demands_of e (whole (main_around c.args.self.now c.args.arrays.now))) c.args.values.now) ≡ first_refusal (flat_map (λ (e : Expr). demands_of e (whole (main_around c.args.self.now c.args.arrays.now))) (drop c.loop-value.value-index c.args.values.now)) = c.loop-value.invariant.left in
    let none : drop c.loop-value.value-index c.args.values.now ≡ [] = drop_all c.loop-value.value-index c.args.values.now (omega arith) in
    (ap first_refusal (results (main_around c.args.self.now c.args.arrays.now) c.args.values.now c.if-values-eq1.false) ∙ (left ∙ ap (λ (es : List Expr). first_refusal (flat_map (λ (e : Expr). demands_of e (whole (main_around c.args.self.now c.args.arrays.now))) es)) none), tt)
