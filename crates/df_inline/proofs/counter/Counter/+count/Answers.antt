use Rattle.std.proofs.Common.{map, sym, ◌∙◌, ap}
use Rattle.df_syntax.specs.declared.tree.Link.{Link}
use Rattle.df_syntax.specs.declared.tree.Arm.{Arm}
use Rattle.df_syntax.specs.declared.tree.Assign.{Assign}
use Rattle.df_syntax.specs.declared.tree.Definition.{Definition}
use Rattle.df_syntax.specs.WellBuilt.{sort_nesting}
use Rattle.df_inline.specs.Sizes.{bracketed, both, one_more, beside, expr_size}
use Rattle.df_inline.specs.Counts.{saturated, links_of, arms_of, definitions_of, assigns_of}
use Rattle.df_inline.proofs.Saturated.{counted}
use Rattle.df_inline.proofs.SizeForms.{number, truth, error, named, access, call, chain, compared, negate, invert, parens, tested, two_place, chosen, let_is, construct, folded, looped, array, updated}
use Rattle.df_inline.proofs.counter.Counter.+count.Goals as goal

pub expr-returns-in-Number : goal.expr-returns-in-Number
expr-returns-in-Number t c = λ of_call h.
    c.node.ensures ∙ ap saturated (sym (number of_call c.args.expr.now c.in-Number.value (sym c.get.ensures ∙ c.in-Number.is)))

pub expr-returns-in-Truth : goal.expr-returns-in-Truth
expr-returns-in-Truth t c = λ of_call h.
    c.node-in-Truth.ensures ∙ ap saturated (sym (truth of_call c.args.expr.now c.in-Truth.value (sym c.get.ensures ∙ c.in-Truth.is)))

pub expr-returns-in-Error : goal.expr-returns-in-Error
expr-returns-in-Error t c = λ of_call h.
    (c.one_more.ensures _ c.of_error.ensures) ∙ ap saturated (sym (error of_call c.args.expr.now c.in-Error.value c.in-Error.basic (sym c.get.ensures ∙ c.in-Error.is)))

pub expr-returns-in-Name : goal.expr-returns-in-Name
expr-returns-in-Name t c = λ of_call h.
    c.node-in-Name.ensures ∙ ap saturated (sym (named of_call c.args.expr.now c.in-Name.name (sym c.get.ensures ∙ c.in-Name.is)))

pub expr-returns-in-Access : goal.expr-returns-in-Access
expr-returns-in-Access t c = λ of_call h.
    (c.one_more-in-Access.ensures _ (c.inside.ensures _ (c.expr.ensures of_call h))) ∙ ap saturated (sym (access of_call c.args.expr.now c.in-Access.name c.in-Access.at (sym c.get.ensures ∙ c.in-Access.is)))

pub expr-returns-in-Call : goal.expr-returns-in-Call
expr-returns-in-Call t c = λ of_call h.
    (c.one_more-in-Call.ensures _ (c.inside-in-Call.ensures _ (c.and.ensures _ _ (c.exprs-arguments.ensures of_call h ∙ ap (λ l. saturated (beside (map (expr_size of_call) l))) c.as_slice.ensures) (c.size.ensures ∙ h c.in-Call.name)))) ∙ ap saturated (sym (call of_call c.args.expr.now c.in-Call.name c.in-Call.arguments (sym c.get.ensures ∙ c.in-Call.is)))

pub expr-returns-in-Chain : goal.expr-returns-in-Chain
expr-returns-in-Chain t c = λ of_call h.
    (c.one_more-in-Chain.ensures _ (c.and-in-Chain.ensures _ _ (c.expr-first.ensures of_call h) (c.links.ensures of_call h ∙ ap (λ l. saturated (links_of of_call l)) c.as_slice-in-Chain.ensures))) ∙ ap saturated (sym (chain of_call c.args.expr.now c.in-Chain.first c.in-Chain.rest (sym c.get.ensures ∙ c.in-Chain.is)))

pub expr-returns-in-Compare : goal.expr-returns-in-Compare
expr-returns-in-Compare t c = λ of_call h.
    (c.one_more-in-Compare.ensures _ (c.and-in-Compare.ensures _ _ (c.expr-left.ensures of_call h) (c.expr-in-Compare.ensures of_call h))) ∙ ap saturated (sym (compared of_call c.args.expr.now c.in-Compare.rel c.in-Compare.left c.in-Compare.right (sym c.get.ensures ∙ c.in-Compare.is)))

pub expr-returns-in-Negate : goal.expr-returns-in-Negate
expr-returns-in-Negate t c = λ of_call h.
    (c.one_more-in-Negate.ensures _ (c.expr-in-Negate.ensures of_call h)) ∙ ap saturated (sym (negate of_call c.args.expr.now c.in-Negate.of (sym c.get.ensures ∙ c.in-Negate.is)))

pub expr-returns-in-Invert : goal.expr-returns-in-Invert
expr-returns-in-Invert t c = λ of_call h.
    (c.one_more-in-Invert.ensures _ (c.expr-in-Invert.ensures of_call h)) ∙ ap saturated (sym (invert of_call c.args.expr.now c.in-Invert.of (sym c.get.ensures ∙ c.in-Invert.is)))

pub expr-returns-in-Parens : goal.expr-returns-in-Parens
expr-returns-in-Parens t c = λ of_call h.
    (c.one_more-in-Parens.ensures _ (c.inside-in-Parens.ensures _ (c.expr-in-Parens.ensures of_call h))) ∙ ap saturated (sym (parens of_call c.args.expr.now c.in-Parens.of (sym c.get.ensures ∙ c.in-Parens.is)))

pub expr-returns-in-Test : goal.expr-returns-in-Test
expr-returns-in-Test t c = λ of_call h.
    (c.one_more-in-Test.ensures _ (c.inside-in-Test.ensures _ (c.expr-in-Test.ensures of_call h))) ∙ ap saturated (sym (tested of_call c.args.expr.now c.in-Test.test c.in-Test.of (sym c.get.ensures ∙ c.in-Test.is)))

pub expr-returns-in-TwoPlace : goal.expr-returns-in-TwoPlace
expr-returns-in-TwoPlace t c = λ of_call h.
    (c.one_more-in-TwoPlace.ensures _ (c.inside-in-TwoPlace.ensures _ (c.and-in-TwoPlace.ensures _ _ (c.expr-left-in-TwoPlace.ensures of_call h) (c.expr-in-TwoPlace.ensures of_call h)))) ∙ ap saturated (sym (two_place of_call c.args.expr.now c.in-TwoPlace.op c.in-TwoPlace.left c.in-TwoPlace.right (sym c.get.ensures ∙ c.in-TwoPlace.is)))

pub expr-returns-in-If : goal.expr-returns-in-If
expr-returns-in-If t c = λ of_call h.
    (c.one_more-in-If.ensures _ (c.inside-in-If.ensures _ (c.and-in-If.ensures _ _ (c.arms-arms.ensures of_call h ∙ ap (λ l. saturated (arms_of of_call l)) c.as_slice-in-If.ensures) (c.expr-in-If.ensures of_call h)))) ∙ ap saturated (sym (chosen of_call c.args.expr.now c.in-If.arms c.in-If.last (sym c.get.ensures ∙ c.in-If.is)))

pub expr-returns-in-Let : goal.expr-returns-in-Let
expr-returns-in-Let t c = λ of_call h.
    (c.one_more-in-Let.ensures _ (c.inside-in-Let.ensures _ (c.and-in-Let.ensures _ _ (c.definitions-definitions.ensures of_call h ∙ ap (λ l. saturated (definitions_of of_call l)) c.as_slice-in-Let.ensures) (c.exprs-values.ensures of_call h ∙ ap (λ l. saturated (beside (map (expr_size of_call) l))) c.as_slice-in-Let-2.ensures)))) ∙ ap saturated (sym (let_is of_call c.args.expr.now c.in-Let.definitions c.in-Let.values (sym c.get.ensures ∙ c.in-Let.is)))

pub expr-returns-in-Construct : goal.expr-returns-in-Construct
expr-returns-in-Construct t c = λ of_call h.
    (c.one_more-in-Construct.ensures _ (c.inside-in-Construct.ensures _ (c.and-in-Construct-2.ensures _ _ (c.inside-bounds.ensures _ (c.and-in-Construct.ensures _ _ (c.expr-low.ensures of_call h) (c.expr-in-Construct.ensures of_call h))) (c.expr-in-Construct-2.ensures of_call h)))) ∙ ap saturated (sym (construct of_call c.args.expr.now c.in-Construct.index c.in-Construct.low c.in-Construct.high c.in-Construct.elem (sym c.get.ensures ∙ c.in-Construct.is)))

pub expr-returns-in-Fold : goal.expr-returns-in-Fold
expr-returns-in-Fold t c = λ of_call h.
    (c.one_more-in-Fold.ensures _ (c.inside-in-Fold.ensures _ (c.and-in-Fold-2.ensures _ _ (c.inside-bounds-in-Fold.ensures _ (c.and-in-Fold.ensures _ _ (c.expr-low-in-Fold.ensures of_call h) (c.expr-in-Fold.ensures of_call h))) (c.expr-in-Fold-2.ensures of_call h)))) ∙ ap saturated (sym (folded of_call c.args.expr.now c.in-Fold.index c.in-Fold.low c.in-Fold.high c.in-Fold.op c.in-Fold.elem (sym c.get.ensures ∙ c.in-Fold.is)))

pub expr-returns-in-For : goal.expr-returns-in-For
expr-returns-in-For t c = λ of_call h.
    (c.one_more-in-For.ensures _ (c.inside-in-For.ensures _ (c.and-in-For-3.ensures _ _ (c.definitions-definitions-in-For.ensures of_call h ∙ ap (λ l. saturated (definitions_of of_call l)) c.as_slice-in-For.ensures) (c.inside-turn.ensures _ (c.and-in-For-2.ensures _ _ (c.expr-test.ensures of_call h) (c.and-in-For.ensures _ _ (c.assigns-assigns.ensures of_call h ∙ ap (λ l. saturated (assigns_of of_call l)) c.as_slice-in-For-2.ensures) (c.expr-in-For.ensures of_call h))))))) ∙ ap saturated (sym (looped of_call c.args.expr.now c.in-For.definitions c.in-For.test c.in-For.assigns c.in-For.last (sym c.get.ensures ∙ c.in-For.is)))

pub expr-returns-in-Array : goal.expr-returns-in-Array
expr-returns-in-Array t c = λ of_call h.
    (c.one_more-in-Array.ensures _ (c.inside-in-Array.ensures _ (c.and-in-Array.ensures _ _ (c.expr-at.ensures of_call h) (c.expr-in-Array.ensures of_call h)))) ∙ ap saturated (sym (array of_call c.args.expr.now c.in-Array.at c.in-Array.value (sym c.get.ensures ∙ c.in-Array.is)))

pub expr-returns-in-Update : goal.expr-returns-in-Update
expr-returns-in-Update t c = λ of_call h.
    (c.one_more-in-Update.ensures _ (c.inside-in-Update.ensures _ (c.and-in-Update.ensures _ _ (c.expr-at-in-Update.ensures of_call h) (c.expr-in-Update.ensures of_call h)))) ∙ ap saturated (sym (updated of_call c.args.expr.now c.in-Update.name c.in-Update.at c.in-Update.value (sym c.get.ensures ∙ c.in-Update.is)))

pub exprs-loop-expr-preserved : goal.exprs-loop-expr-preserved
exprs-loop-expr-preserved t c = λ of_call h.
    counted (expr_size of_call) c.args.exprs.now c.loop-expr.expr-index c.expr-item.result c.loop-expr.size c.and-size.result _ (c.loop-expr.invariant of_call h) c.and-size.ensures
    (c.expr.ensures of_call h) c.loop-expr-test.true c.expr-item.is

pub links-loop-link-preserved : goal.links-loop-link-preserved
links-loop-link-preserved t c = λ of_call h.
    counted (λ (l : Link). one_more (expr_size of_call l.operand)) c.args.links.now c.loop-link.link-index c.link-item.result c.loop-link.size c.and-size.result _ (c.loop-link.invariant of_call h) c.and-size.ensures
    (c.one_more.ensures _ (c.expr.ensures of_call h)) c.loop-link-test.true c.link-item.is

pub arms-loop-arm-preserved : goal.arms-loop-arm-preserved
arms-loop-arm-preserved t c = λ of_call h.
    counted (λ (a : Arm). both (expr_size of_call a.test) (expr_size of_call a.value)) c.args.arms.now c.loop-arm.arm-index c.arm-item.result c.loop-arm.size c.and-size.result _ (c.loop-arm.invariant of_call h) c.and-size.ensures
    (c.and.ensures _ _ (c.expr-test.ensures of_call h) (c.expr.ensures of_call h)) c.loop-arm-test.true c.arm-item.is

pub definitions-loop-definition-preserved : goal.definitions-loop-definition-preserved
definitions-loop-definition-preserved t c = λ of_call h.
    counted (λ (d : Definition). one_more (both (bracketed (sort_nesting d.sort)) (expr_size of_call d.value))) c.args.definitions.now c.loop-definition.definition-index c.definition-item.result c.loop-definition.size c.and-size.result _ (c.loop-definition.invariant of_call h) c.and-size.ensures
    (c.one_more.ensures _ (c.and.ensures _ _ c.of_sort-sort.ensures (c.expr.ensures of_call h))) c.loop-definition-test.true c.definition-item.is

pub assigns-loop-assign-preserved : goal.assigns-loop-assign-preserved
assigns-loop-assign-preserved t c = λ of_call h.
    counted (λ (a : Assign). one_more (expr_size of_call a.value)) c.args.assigns.now c.loop-assign.assign-index c.assign-item.result c.loop-assign.size c.and-size.result _ (c.loop-assign.invariant of_call h) c.and-size.ensures
    (c.one_more.ensures _ (c.expr.ensures of_call h)) c.loop-assign-test.true c.assign-item.is
