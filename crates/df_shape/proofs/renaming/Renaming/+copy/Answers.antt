use Rattle.std.proofs.Common.{sym, ◌∙◌, ap}
use Rattle.df_syntax.specs.Grammar.{made_at, link_of, arm_of, definition_of, assign_of}
use Rattle.df_names.specs.Found.{names_of}
use Rattle.df_shape.specs.Renamed.{renamed}
use Rattle.df_shape.specs.RenamedParts.{definitions_renamed, assigns_renamed}
use Rattle.df_syntax.specs.declared.tree.Link.{Link}
use Rattle.df_syntax.specs.declared.tree.Arm.{Arm}
use Rattle.df_syntax.specs.declared.tree.Assign.{Assign}
use Rattle.df_syntax.specs.declared.tree.Definition.{Definition}
use Rattle.df_syntax.proofs.Pushed.{pushed}
use Rattle.df_shape.proofs.RenamedForms.{call, chain, chosen, let_is, construct, folded, looped_by, updated, placed}
use Rattle.df_shape.proofs.renaming.Renaming.+copy.Goals as goal

pub expr-returns : goal.expr-returns
expr-returns t c =
    ap (made_at c.args.expr.now.place) (c.in_ok-new.ensures ∙ c.in_ok-node.ensures) ∙ sym (placed (names_of c.args.self.now.names.now) c.args.expr.now)

pub node-returns-in_ok-arguments-in-Call : goal.node-returns-in_ok-arguments-in-Call
node-returns-in_ok-arguments-in-Call t c =
    rw (call (names_of c.args.self.now.names.now) c.args.expr.now c.in-Call.name c.in-Call.arguments (sym c.get.ensures ∙ c.in-Call.is))
    (rw (c.in_ok-arguments-in-Call.ensures, c.as_slice.ensures))

pub node-returns-in_ok-rest-in-Chain : goal.node-returns-in_ok-rest-in-Chain
node-returns-in_ok-rest-in-Chain t c =
    rw (chain (names_of c.args.self.now.names.now) c.args.expr.now c.in-Chain.first c.in-Chain.rest (sym c.get.ensures ∙ c.in-Chain.is))
    (rw (c.in_ok-first-in-Chain.ensures, c.in_ok-rest-in-Chain.ensures, c.as_slice-in-Chain.ensures))

pub node-returns-in_ok-last-in-If : goal.node-returns-in_ok-last-in-If
node-returns-in_ok-last-in-If t c =
    rw (chosen (names_of c.args.self.now.names.now) c.args.expr.now c.in-If.arms c.in-If.last (sym c.get.ensures ∙ c.in-If.is))
    (rw (c.in_ok-arms-in-If.ensures, c.in_ok-last-in-If.ensures, c.as_slice-in-If.ensures))

pub node-returns-in_ok-values-in-Let : goal.node-returns-in_ok-values-in-Let
node-returns-in_ok-values-in-Let t c =
    rw (let_is (names_of c.args.self.now.names.now) c.args.expr.now c.in-Let.definitions c.in-Let.values (sym c.get.ensures ∙ c.in-Let.is))
    (rw (c.in_ok-definitions-in-Let.ensures, c.in_ok-values-in-Let.ensures, c.as_slice-in-Let.ensures, c.as_slice-in-Let-2.ensures))

pub node-returns-in_ok-elem-in-Construct : goal.node-returns-in_ok-elem-in-Construct
node-returns-in_ok-elem-in-Construct t c =
    rw (construct (names_of c.args.self.now.names.now) c.args.expr.now c.in-Construct.index c.in-Construct.low c.in-Construct.high c.in-Construct.elem
    (sym c.get.ensures ∙ c.in-Construct.is))
    (rw (c.in_ok-low-in-Construct.ensures, c.in_ok-high-in-Construct.ensures, c.in_ok-elem-in-Construct.ensures))

pub node-returns-in_ok-elem-in-Fold : goal.node-returns-in_ok-elem-in-Fold
node-returns-in_ok-elem-in-Fold t c =
    rw (folded (names_of c.args.self.now.names.now) c.args.expr.now c.in-Fold.index c.in-Fold.low c.in-Fold.high c.in-Fold.op c.in-Fold.elem
    (sym c.get.ensures ∙ c.in-Fold.is))
    (rw (c.in_ok-low-in-Fold.ensures, c.in_ok-high-in-Fold.ensures, c.in_ok-elem-in-Fold.ensures))

pub node-returns-in_ok-last-in-For : goal.node-returns-in_ok-last-in-For
node-returns-in_ok-last-in-For t c =
    looped_by (names_of c.args.self.now.names.now) c.args.expr.now c.in-For.definitions c.in-For.test c.in-For.assigns c.in-For.last _ _ _ _
    (sym c.get.ensures ∙ c.in-For.is)
    (c.in_ok-definitions-in-For.ensures ∙ ap (definitions_renamed (names_of c.args.self.now.names.now)) c.as_slice-in-For.ensures) c.in_ok-test-in-For.ensures
    (c.in_ok-assigns-in-For.ensures ∙ ap (assigns_renamed (names_of c.args.self.now.names.now)) c.as_slice-in-For-2.ensures) c.in_ok-last-in-For.ensures

pub node-returns-in_ok-value-in-Update : goal.node-returns-in_ok-value-in-Update
node-returns-in_ok-value-in-Update t c =
    rw (updated (names_of c.args.self.now.names.now) c.args.expr.now c.in-Update.name c.in-Update.at c.in-Update.value (sym c.get.ensures ∙ c.in-Update.is))
    (rw (c.in_ok-at-in-Update.ensures, c.in_ok-value-in-Update.ensures))

pub links-loop-link-preserved : goal.links-loop-link-preserved
links-loop-link-preserved t c =
    pushed (λ (l : Link). link_of (l.op, renamed (names_of c.args.self.now.names.now) l.operand)) c.args.links.now c.loop-link.link-index
    c.link-item.result _ _ _ c.in_ok-push.ensures.ok c.loop-link.invariant
    (ap (λ e. link_of (c.link-item.result.op, e)) c.in_ok-operand.ensures) c.loop-link-test.true c.link-item.is

pub arms-loop-arm-preserved : goal.arms-loop-arm-preserved
arms-loop-arm-preserved t c =
    pushed (λ (a : Arm). arm_of (renamed (names_of c.args.self.now.names.now) a.test) (renamed (names_of c.args.self.now.names.now) a.value))
    c.args.arms.now c.loop-arm.arm-index c.arm-item.result _ _ _ c.in_ok-push.ensures.ok c.loop-arm.invariant
    (ap (λ e. arm_of e c.in_ok-value.value) c.in_ok-test.ensures
    ∙ ap (arm_of (renamed (names_of c.args.self.now.names.now) c.arm-item.result.test)) c.in_ok-value.ensures) c.loop-arm-test.true c.arm-item.is

pub definitions-loop-definition-preserved : goal.definitions-loop-definition-preserved
definitions-loop-definition-preserved t c =
    pushed (λ (d : Definition). definition_of d.name d.sort (renamed (names_of c.args.self.now.names.now) d.value)) c.args.definitions.now
    c.loop-definition.definition-index c.definition-item.result _ _ _ c.in_ok-push.ensures.ok c.loop-definition.invariant
    (ap (definition_of c.definition-item.result.name c.definition-item.result.sort) c.in_ok-value.ensures) c.loop-definition-test.true c.definition-item.is

pub assigns-loop-assign-preserved : goal.assigns-loop-assign-preserved
assigns-loop-assign-preserved t c =
    pushed (λ (a : Assign). assign_of a.name (renamed (names_of c.args.self.now.names.now) a.value)) c.args.assigns.now c.loop-assign.assign-index
    c.assign-item.result _ _ _ c.in_ok-push.ensures.ok c.loop-assign.invariant
    (ap (assign_of c.assign-item.result.name) c.in_ok-value.ensures) c.loop-assign-test.true c.assign-item.is
