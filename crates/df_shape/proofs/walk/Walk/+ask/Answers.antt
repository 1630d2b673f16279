use Rattle.std.proofs.Common.{◌≡◌, length, ◌++◌, sym, ◌∙◌, ap}
use Rattle.df_values.specs.declared.kinds.Op.{Op}
use Rattle.df_syntax.specs.declared.tree.Named.{Named}
use Rattle.df_syntax.specs.declared.tree.Sort.{Sort}
use Rattle.df_syntax.specs.declared.tree.Expr.{Expr}
use Rattle.df_syntax.specs.declared.tree.Link.{Link}
use Rattle.df_syntax.specs.declared.tree.Arm.{Arm}
use Rattle.df_syntax.specs.declared.tree.Definition.{Definition}
use Rattle.df_syntax.specs.Demands.{first_refusal}
use Rattle.df_syntax.proofs.FirstRefusals.{first_stays, each_step}
use Rattle.df_shape.specs.declared.part.Part.TheVariants.{First, Next}
use Rattle.df_shape.specs.Demands.{Around, or_array, Look, as_part, inside, definition_part, demands_of, all_of, definitions_demands}
use Rattle.df_shape.specs.Walks.{around_of, looked, looks, link_looks, arm_looks, definition_looks, links_demands, arms_demands}
use Rattle.df_shape.proofs.Inside.{next_around, refused_first, rest_decides, chain, compared, two_place, chosen, let_in, loop, turns, each_refused}
use Rattle.df_shape.proofs.walk.Walk.+ask.Goals as goal

pub ask_inner-returns-in_err-ask_all-in-Chain : goal.ask_inner-returns-in_err-ask_all-in-Chain
ask_inner-returns-in_err-ask_all-in-Chain t c =
    ap first_refusal (chain (around_of c.args.self.now c.args.context.now) c.args.expr.now c.in-Chain.first c.in-Chain.rest (sym c.get.ensures ∙ c.in-Chain.is))
    ∙ refused_first (demands_of c.in-Chain.first (inside (around_of c.args.self.now c.args.context.now))) (links_demands (inside (around_of c.args.self.now c.args.context.now)) (link_looks c.in-Chain.rest)) _ _ c.from_residual.ensures.1 (rw c.inside-within.ensures.value at c.in_err-ask_all-in-Chain.ensures)

pub ask_inner-returns-in_ok-ask_all-in-Chain : goal.ask_inner-returns-in_ok-ask_all-in-Chain
ask_inner-returns-in_ok-ask_all-in-Chain t c =
    ap first_refusal (chain (around_of c.args.self.now c.args.context.now) c.args.expr.now c.in-Chain.first c.in-Chain.rest (sym c.get.ensures ∙ c.in-Chain.is))
    ∙ rest_decides (demands_of c.in-Chain.first (inside (around_of c.args.self.now c.args.context.now))) (links_demands (inside (around_of c.args.self.now c.args.context.now)) (link_looks c.in-Chain.rest)) _ (rw c.inside-within.ensures.value at c.in_ok-ask_all-in-Chain.ensures) (rw (c.inside-within.ensures.value, c.as_slice-in-Chain.ensures) at c.ask_links.ensures)

pub ask_inner-returns-in_err-ask_all-in-Compare : goal.ask_inner-returns-in_err-ask_all-in-Compare
ask_inner-returns-in_err-ask_all-in-Compare t c =
    ap first_refusal (compared (around_of c.args.self.now c.args.context.now) c.args.expr.now c.in-Compare.rel c.in-Compare.left c.in-Compare.right (sym c.get.ensures ∙ c.in-Compare.is))
    ∙ refused_first (demands_of c.in-Compare.left (inside (around_of c.args.self.now c.args.context.now))) (demands_of c.in-Compare.right (inside (around_of c.args.self.now c.args.context.now))) _ _ c.from_residual-in_err-ask_all-in-Compare.ensures.1 (rw c.inside-within.ensures.value at c.in_err-ask_all-in-Compare.ensures)

pub ask_inner-returns-in_ok-ask_all-in-Compare : goal.ask_inner-returns-in_ok-ask_all-in-Compare
ask_inner-returns-in_ok-ask_all-in-Compare t c =
    ap first_refusal (compared (around_of c.args.self.now c.args.context.now) c.args.expr.now c.in-Compare.rel c.in-Compare.left c.in-Compare.right (sym c.get.ensures ∙ c.in-Compare.is))
    ∙ rest_decides (demands_of c.in-Compare.left (inside (around_of c.args.self.now c.args.context.now))) (demands_of c.in-Compare.right (inside (around_of c.args.self.now c.args.context.now))) _ (rw c.inside-within.ensures.value at c.in_ok-ask_all-in-Compare.ensures) (rw c.inside-within.ensures.value at c.ask_all-in-Compare-2.ensures)

pub ask_inner-returns-in_err-ask_all-in-TwoPlace : goal.ask_inner-returns-in_err-ask_all-in-TwoPlace
ask_inner-returns-in_err-ask_all-in-TwoPlace t c =
    ap first_refusal (two_place (around_of c.args.self.now c.args.context.now) c.args.expr.now c.in-TwoPlace.op c.in-TwoPlace.left c.in-TwoPlace.right (sym c.get.ensures ∙ c.in-TwoPlace.is))
    ∙ refused_first (demands_of c.in-TwoPlace.left (inside (around_of c.args.self.now c.args.context.now))) (demands_of c.in-TwoPlace.right (inside (around_of c.args.self.now c.args.context.now))) _ _ c.from_residual-in_err-ask_all-in-TwoPlace.ensures.1 (rw c.inside-within.ensures.value at c.in_err-ask_all-in-TwoPlace.ensures)

pub ask_inner-returns-in_ok-ask_all-in-TwoPlace : goal.ask_inner-returns-in_ok-ask_all-in-TwoPlace
ask_inner-returns-in_ok-ask_all-in-TwoPlace t c =
    ap first_refusal (two_place (around_of c.args.self.now c.args.context.now) c.args.expr.now c.in-TwoPlace.op c.in-TwoPlace.left c.in-TwoPlace.right (sym c.get.ensures ∙ c.in-TwoPlace.is))
    ∙ rest_decides (demands_of c.in-TwoPlace.left (inside (around_of c.args.self.now c.args.context.now))) (demands_of c.in-TwoPlace.right (inside (around_of c.args.self.now c.args.context.now))) _ (rw c.inside-within.ensures.value at c.in_ok-ask_all-in-TwoPlace.ensures) (rw c.inside-within.ensures.value at c.ask_all-in-TwoPlace-2.ensures)

pub ask_inner-returns-in_err-ask_arms-in-If : goal.ask_inner-returns-in_err-ask_arms-in-If
ask_inner-returns-in_err-ask_arms-in-If t c =
    ap first_refusal (chosen (around_of c.args.self.now c.args.context.now) c.args.expr.now c.in-If.arms c.in-If.last (sym c.get.ensures ∙ c.in-If.is))
    ∙ refused_first (arms_demands (inside (around_of c.args.self.now c.args.context.now)) (arm_looks c.in-If.arms)) (demands_of c.in-If.last (inside (around_of c.args.self.now c.args.context.now))) _ _ c.from_residual-in_err-ask_arms-in-If.ensures.1 (rw (c.inside-within.ensures.value, c.as_slice-in-If.ensures) at c.in_err-ask_arms-in-If.ensures)

pub ask_inner-returns-in_ok-ask_arms-in-If : goal.ask_inner-returns-in_ok-ask_arms-in-If
ask_inner-returns-in_ok-ask_arms-in-If t c =
    ap first_refusal (chosen (around_of c.args.self.now c.args.context.now) c.args.expr.now c.in-If.arms c.in-If.last (sym c.get.ensures ∙ c.in-If.is))
    ∙ rest_decides (arms_demands (inside (around_of c.args.self.now c.args.context.now)) (arm_looks c.in-If.arms)) (demands_of c.in-If.last (inside (around_of c.args.self.now c.args.context.now))) _ (rw (c.inside-within.ensures.value, c.as_slice-in-If.ensures) at c.in_ok-ask_arms-in-If.ensures) (rw c.inside-within.ensures.value at c.ask_all-in-If.ensures)

pub ask_inner-returns-in_err-ask_definitions-in-Let : goal.ask_inner-returns-in_err-ask_definitions-in-Let
ask_inner-returns-in_err-ask_definitions-in-Let t c =
    ap first_refusal (let_in (around_of c.args.self.now c.args.context.now) c.args.expr.now c.in-Let.definitions c.in-Let.values (sym c.get.ensures ∙ c.in-Let.is))
    ∙ refused_first (definitions_demands (inside (around_of c.args.self.now c.args.context.now)) (definition_looks c.in-Let.definitions)) (all_of (looks c.in-Let.values) (inside (around_of c.args.self.now c.args.context.now))) _ _ c.from_residual-in_err-ask_definitions-in-Let.ensures.1 (rw (c.inside-within.ensures.value, c.as_slice-in-Let.ensures) at c.in_err-ask_definitions-in-Let.ensures)

pub ask_inner-returns-in_ok-ask_definitions-in-Let : goal.ask_inner-returns-in_ok-ask_definitions-in-Let
ask_inner-returns-in_ok-ask_definitions-in-Let t c =
    ap first_refusal (let_in (around_of c.args.self.now c.args.context.now) c.args.expr.now c.in-Let.definitions c.in-Let.values (sym c.get.ensures ∙ c.in-Let.is))
    ∙ rest_decides (definitions_demands (inside (around_of c.args.self.now c.args.context.now)) (definition_looks c.in-Let.definitions)) (all_of (looks c.in-Let.values) (inside (around_of c.args.self.now c.args.context.now))) _ (rw (c.inside-within.ensures.value, c.as_slice-in-Let.ensures) at c.in_ok-ask_definitions-in-Let.ensures) (rw (c.inside-within.ensures.value, c.as_slice-in-Let-2.ensures) at c.ask_each-in-Let.ensures)

pub ask_each-returns-in_err-ask_all : goal.ask_each-returns-in_err-ask_all
ask_each-returns-in_err-ask_all t c =
    each_refused (λ (e : Expr × Look). e.1 (around_of c.args.self.now c.args.context.now)) looked _ c.args.exprs.now c.loop-expr.expr-index c.expr-item.result _ _ c.loop-expr.invariant c.loop-expr-test.true c.expr-item.is c.from_residual.ensures.1 c.in_err-ask_all.ensures

pub ask_each-loop-expr-preserved : goal.ask_each-loop-expr-preserved
ask_each-loop-expr-preserved t c =
    c.loop-expr.invariant ∙ each_step (λ (e : Expr × Look). e.1 (around_of c.args.self.now c.args.context.now)) looked c.args.exprs.now c.loop-expr.expr-index c.expr-item.result c.loop-expr-test.true c.expr-item.is c.in_ok-ask_all.ensures

pub ask_links-returns-in_err-ask_all : goal.ask_links-returns-in_err-ask_all
ask_links-returns-in_err-ask_all t c =
    each_refused (λ (l : Op × (Expr × Look)). l.1.1 (around_of c.args.self.now c.args.context.now)) (λ (l : Link). (l.op, looked l.operand)) _ c.args.links.now c.loop-link.link-index c.link-item.result _ _ c.loop-link.invariant c.loop-link-test.true c.link-item.is c.from_residual.ensures.1 c.in_err-ask_all.ensures

pub ask_links-loop-link-preserved : goal.ask_links-loop-link-preserved
ask_links-loop-link-preserved t c =
    c.loop-link.invariant ∙ each_step (λ (l : Op × (Expr × Look)). l.1.1 (around_of c.args.self.now c.args.context.now)) (λ (l : Link). (l.op, looked l.operand)) c.args.links.now c.loop-link.link-index c.link-item.result c.loop-link-test.true c.link-item.is c.in_ok-ask_all.ensures

pub ask_definitions-returns-in_err-ask_all : goal.ask_definitions-returns-in_err-ask_all
ask_definitions-returns-in_err-ask_all t c =
    each_refused (λ (d : Named × Sort × (Expr × Look)). d.2.1 (as_part (around_of c.args.self.now c.args.context.now) (definition_part d.1 c.args.context.now.part))) (λ (d : Definition). (d.name, d.sort, looked d.value)) _ c.args.definitions.now c.loop-definition.definition-index c.definition-item.result _ _ c.loop-definition.invariant c.loop-definition-test.true c.definition-item.is c.from_residual.ensures.1 (rw c.defined.ensures.value at c.in_err-ask_all.ensures)

pub ask_definitions-loop-definition-preserved : goal.ask_definitions-loop-definition-preserved
ask_definitions-loop-definition-preserved t c =
    c.loop-definition.invariant ∙ each_step (λ (d : Named × Sort × (Expr × Look)). d.2.1 (as_part (around_of c.args.self.now c.args.context.now) (definition_part d.1 c.args.context.now.part))) (λ (d : Definition). (d.name, d.sort, looked d.value)) c.args.definitions.now c.loop-definition.definition-index c.definition-item.result c.loop-definition-test.true c.definition-item.is (rw c.defined.ensures.value at c.in_ok-ask_all.ensures)

pub ask_arms-returns-in_err-ask_all : goal.ask_arms-returns-in_err-ask_all
ask_arms-returns-in_err-ask_all t c =
    each_refused (λ (a : (Expr × Look) × (Expr × Look)). a.0.1 (around_of c.args.self.now c.args.context.now) ++ a.1.1 (around_of c.args.self.now c.args.context.now)) (λ (a : Arm). (looked a.test, looked a.value)) _ c.args.arms.now c.loop-arm.arm-index c.arm-item.result _ _ c.loop-arm.invariant c.loop-arm-test.true c.arm-item.is c.from_residual.ensures.1 (first_stays (demands_of c.arm-item.result.test (around_of c.args.self.now c.args.context.now)) (demands_of c.arm-item.result.value (around_of c.args.self.now c.args.context.now)) _ c.in_err-ask_all.ensures)

pub ask_arms-returns-in_err-ask_all-2 : goal.ask_arms-returns-in_err-ask_all-2
ask_arms-returns-in_err-ask_all-2 t c =
    each_refused (λ (a : (Expr × Look) × (Expr × Look)). a.0.1 (around_of c.args.self.now c.args.context.now) ++ a.1.1 (around_of c.args.self.now c.args.context.now)) (λ (a : Arm). (looked a.test, looked a.value)) _ c.args.arms.now c.loop-arm.arm-index c.arm-item.result _ _ c.loop-arm.invariant c.loop-arm-test.true c.arm-item.is c.from_residual-in_err-ask_all-2.ensures.1 (rest_decides (demands_of c.arm-item.result.test (around_of c.args.self.now c.args.context.now)) (demands_of c.arm-item.result.value (around_of c.args.self.now c.args.context.now)) _ c.in_ok-ask_all.ensures c.in_err-ask_all-2.ensures)

pub ask_arms-loop-arm-preserved : goal.ask_arms-loop-arm-preserved
ask_arms-loop-arm-preserved t c =
    c.loop-arm.invariant ∙ each_step (λ (a : (Expr × Look) × (Expr × Look)). a.0.1 (around_of c.args.self.now c.args.context.now) ++ a.1.1 (around_of c.args.self.now c.args.context.now)) (λ (a : Arm). (looked a.test, looked a.value)) c.args.arms.now c.loop-arm.arm-index c.arm-item.result c.loop-arm-test.true c.arm-item.is (rest_decides (demands_of c.arm-item.result.test (around_of c.args.self.now c.args.context.now)) (demands_of c.arm-item.result.value (around_of c.args.self.now c.args.context.now)) _ c.in_ok-ask_all.ensures c.in_ok-ask_all-2.ensures)

pub ask_turns-returns-in_err-ask_all-in-For : goal.ask_turns-returns-in_err-ask_all-in-For
ask_turns-returns-in_err-ask_all-in-For t c =
    let ds : length c.in-For.definitions ≡ 2 = rw c.as_slice-definitions.ensures at c.if-definitions-ne2.false in
    let as_ : length c.in-For.assigns ≡ 2 = rw c.as_slice-assigns.ensures at c.if-assigns-ne2.false in
    ap first_refusal (loop (around_of c.args.self.now c.args.context.now) c.args.expr.now c.in-For.definitions c.in-For.test c.in-For.assigns c.in-For.last (sym c.get.ensures ∙ c.in-For.is)
    ∙ turns (around_of c.args.self.now c.args.context.now) c.in-For.definitions c.in-For.assigns c.index-definitions-0.result c.index-definitions-1.result c.index-assigns-0.result ds (rw c.as_slice-definitions.ensures at c.index-definitions-0.is) (rw c.as_slice-definitions.ensures at c.index-definitions-1.is) as_ (rw c.as_slice-assigns.ensures at c.index-assigns-0.is))
    ∙ refused_first (demands_of c.index-definitions-1.result.value (as_part (around_of c.args.self.now c.args.context.now) First)) (demands_of c.index-assigns-0.result.value (record (around_of c.args.self.now c.args.context.now) { arrays = or_array (around_of c.args.self.now c.args.context.now).arrays c.index-definitions-1.result.name.name c.index-definitions-1.result.sort; part = Next c.index-definitions-0.result.name.name c.index-definitions-1.result.name.name })) _ _ c.from_residual.ensures.1 (rw c.at.ensures at c.in_err-ask_all-in-For.ensures)

pub ask_turns-returns-in_ok-ask_all-in-For : goal.ask_turns-returns-in_ok-ask_all-in-For
ask_turns-returns-in_ok-ask_all-in-For t c =
    let ds : length c.in-For.definitions ≡ 2 = rw c.as_slice-definitions.ensures at c.if-definitions-ne2.false in
    let as_ : length c.in-For.assigns ≡ 2 = rw c.as_slice-assigns.ensures at c.if-assigns-ne2.false in
    ap first_refusal (loop (around_of c.args.self.now c.args.context.now) c.args.expr.now c.in-For.definitions c.in-For.test c.in-For.assigns c.in-For.last (sym c.get.ensures ∙ c.in-For.is)
    ∙ turns (around_of c.args.self.now c.args.context.now) c.in-For.definitions c.in-For.assigns c.index-definitions-0.result c.index-definitions-1.result c.index-assigns-0.result ds (rw c.as_slice-definitions.ensures at c.index-definitions-0.is) (rw c.as_slice-definitions.ensures at c.index-definitions-1.is) as_ (rw c.as_slice-assigns.ensures at c.index-assigns-0.is))
    ∙ rest_decides (demands_of c.index-definitions-1.result.value (as_part (around_of c.args.self.now c.args.context.now) First)) (demands_of c.index-assigns-0.result.value (record (around_of c.args.self.now c.args.context.now) { arrays = or_array (around_of c.args.self.now c.args.context.now).arrays c.index-definitions-1.result.name.name c.index-definitions-1.result.sort; part = Next c.index-definitions-0.result.name.name c.index-definitions-1.result.name.name })) _ (rw c.at.ensures at c.in_ok-ask_all-in-For.ensures)
    (ap (λ (w : Around). first_refusal (demands_of c.index-assigns-0.result.value w)) (next_around c.args.self.now c.args.context.now c.index-definitions-0.result c.index-definitions-1.result c.requires) ∙ rw c.next_of.ensures at c.ask_all-in-For.ensures)
