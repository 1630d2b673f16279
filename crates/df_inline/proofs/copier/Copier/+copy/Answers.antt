use Rattle.std.proofs.Common.{◌≡◌, ◌+◌, refl, sym, ◌∙◌, ap, ap₂, arith, reverse, fold, List, []}
use Rattle.df_syntax.proofs.Pushed.{pushed}
use Rattle.df_values.specs.declared.kinds.Binary.TheVariants.{Operation}
use Rattle.df_core.specs.declared.terms.Term.{Term}
use Rattle.df_flattened.specs.Flattened.{Scope, bodies, define}
use Rattle.df_inline.specs.Bindings.{scope_of}
use Rattle.df_inline.specs.Lowered.{step_of, branch_of, besides, listed, behind, only_of}
use Rattle.df_inline.proofs.Forms.{name_is, access, call, chain, chosen, let_is}
use Rattle.df_inline.proofs.Steps.{argument_more, definition_more, let_behind, take_grown}
use Rattle.df_inline.proofs.copier.Copier.+copy.Goals as goal

pub term-returns-in-Name-clause-value : goal.term-returns-in-Name-clause-value
term-returns-in-Name-clause-value g t c =
    rw (name_is (bodies (reverse c.args.self.now.functions.now)) (scope_of c.args.names.now c.args.depth.now c.args.self.now.index) c.args.expr.now c.in-Name.name (sym c.get.ensures ∙ c.in-Name.is)) (rw c.get-in-Name.ensures at c.named.ensures)

pub term-returns-in_ok-at-in-Access-clause-value : goal.term-returns-in_ok-at-in-Access-clause-value
term-returns-in_ok-at-in-Access-clause-value g t c =
    rw (access (bodies (reverse c.args.self.now.functions.now)) (scope_of c.args.names.now c.args.depth.now c.args.self.now.index) c.args.expr.now c.in-Access.name c.in-Access.at (sym c.get.ensures ∙ c.in-Access.is))
    (rw (c.get-in-Access.ensures, c.in_ok-at-in-Access.ensures) at c.accessed.ensures)

pub term-returns-in_ok-called-in-Call-clause-value : goal.term-returns-in_ok-called-in-Call-clause-value
term-returns-in_ok-called-in-Call-clause-value g t c =
    rw (call (bodies (reverse c.args.self.now.functions.now)) (scope_of c.args.names.now c.args.depth.now c.args.self.now.index) c.args.expr.now c.in-Call.name c.in-Call.arguments (sym c.get.ensures ∙ c.in-Call.is))
    (rw c.as_slice.ensures at c.in_ok-called-in-Call.ensures.value)

pub steps-loop-link-preserved : goal.steps-loop-link-preserved
steps-loop-link-preserved g t c = record {
  made =
      pushed (step_of (bodies (reverse c.args.self.now.functions.now)) (scope_of c.args.names.now c.args.depth.now c.args.self.now.index)) c.args.links.now c.loop-link.link-index c.link-item.result _ _ _ c.in_ok-push.ensures.ok c.loop-link.invariant.made
      (ap (λ e. record { with = Operation c.link-item.result.op; operand = e }) (rw (c.loop-link.invariant.kept, c.loop-link.invariant.same_depth) at c.in_ok-operand.ensures.value)) c.loop-link-test.true c.link-item.is;
  kept = c.in_ok-operand.ensures.kept ∙ c.loop-link.invariant.kept;
  same_depth = c.in_ok-operand.ensures.same_depth ∙ c.loop-link.invariant.same_depth;
}

pub term-returns-in_ok-first-in-Chain-2-clause-value : goal.term-returns-in_ok-first-in-Chain-2-clause-value
term-returns-in_ok-first-in-Chain-2-clause-value g t c =
    rw (chain (bodies (reverse c.args.self.now.functions.now)) (scope_of c.args.names.now c.args.depth.now c.args.self.now.index) c.args.expr.now c.in-Chain.first c.in-Chain.rest (sym c.get.ensures ∙ c.in-Chain.is))
    (rw (c.in_ok-first-in-Chain-2.ensures, c.in_ok-first-in-Chain.ensures.value, c.in_ok-rest-in-Chain.ensures.value, c.as_slice-in-Chain.ensures, c.in_ok-first-in-Chain.ensures.kept, c.in_ok-first-in-Chain.ensures.same_depth) refl)

pub term-returns-in_ok-last-in-If-2-clause-value : goal.term-returns-in_ok-last-in-If-2-clause-value
term-returns-in_ok-last-in-If-2-clause-value g t c =
    rw (chosen (bodies (reverse c.args.self.now.functions.now)) (scope_of c.args.names.now c.args.depth.now c.args.self.now.index) c.args.expr.now c.in-If.arms c.in-If.last (sym c.get.ensures ∙ c.in-If.is))
    (rw (c.in_ok-last-in-If-2.ensures, c.in_ok-last-in-If.ensures.value, c.in_ok-branches-in-If.ensures.value, c.as_slice-in-If.ensures, c.in_ok-branches-in-If.ensures.kept, c.in_ok-branches-in-If.ensures.same_depth) refl)

pub term-returns-in_ok-behind-in-Let-clause-value : goal.term-returns-in_ok-behind-in-Let-clause-value
term-returns-in_ok-behind-in-Let-clause-value g t c =
    rw (let_is (bodies (reverse c.args.self.now.functions.now)) (scope_of c.args.names.now c.args.depth.now c.args.self.now.index) c.args.expr.now c.in-Let.definitions c.in-Let.values (sym c.get.ensures ∙ c.in-Let.is))
    (c.in_ok-behind-in-Let.ensures
    ∙ (ap (behind c.in_ok-definitions-in-Let.definitions) (rw c.as_slice-in-Let-2.ensures at c.in_ok-value-in-Let.ensures.value)
    ∙ (ap (λ (p : List Term × Scope). behind p.0 (only_of p.1 (besides (bodies (reverse c.args.self.now.functions.now)) c.in-Let.values))) (rw c.as_slice-in-Let.ensures at c.in_ok-definitions-in-Let.ensures.bound)
    ∙ sym (let_behind (bodies (reverse c.args.self.now.functions.now)) (fold define ([], (scope_of c.args.names.now c.args.depth.now c.args.self.now.index)) (listed (bodies (reverse c.args.self.now.functions.now)) c.in-Let.definitions)) c.in-Let.values))))

pub branches-loop-arm-preserved : goal.branches-loop-arm-preserved
branches-loop-arm-preserved g t c = record {
  made =
      pushed (branch_of (bodies (reverse c.args.self.now.functions.now)) (scope_of c.args.names.now c.args.depth.now c.args.self.now.index)) c.args.arms.now c.loop-arm.arm-index c.arm-item.result _ _ _ c.in_ok-push.ensures.ok c.loop-arm.invariant.made
      (ap₂ (λ (x : Term) (y : Term). record { test = x; value = y }) (rw (c.loop-arm.invariant.kept, c.loop-arm.invariant.same_depth) at c.in_ok-test.ensures.value)
      (rw (c.in_ok-test.ensures.kept, c.loop-arm.invariant.kept, c.in_ok-test.ensures.same_depth, c.loop-arm.invariant.same_depth) at c.in_ok-value.ensures.value)) c.loop-arm-test.true c.arm-item.is;
  kept = c.in_ok-value.ensures.kept ∙ (c.in_ok-test.ensures.kept ∙ c.loop-arm.invariant.kept);
  same_depth = c.in_ok-value.ensures.same_depth ∙ (c.in_ok-test.ensures.same_depth ∙ c.loop-arm.invariant.same_depth);
}

pub arguments-loop-argument-preserved : goal.arguments-loop-argument-preserved
arguments-loop-argument-preserved g t c = record {
  made =
      argument_more (bodies (reverse c.args.self.now.functions.now)) (scope_of c.args.names.now c.args.depth.now c.args.self.now.index) c.args.arguments.now c.loop-argument.argument-index c.argument-item.result _ _ _ c.loop-argument.depth c.in_ok-push.ensures.ok c.loop-argument.invariant.made
      (rw c.loop-argument.invariant.kept at c.in_ok-term.ensures.value) c.loop-argument.invariant.deep c.loop-argument-test.true c.argument-item.is;
  deep = omega (arith, c.in_ok-deepen.ensures, c.in_ok-term.ensures.same_depth, c.loop-argument.invariant.deep);
  kept = c.in_ok-term.ensures.kept ∙ c.loop-argument.invariant.kept;
}

pub define-loop-definition-preserved : goal.define-loop-definition-preserved
define-loop-definition-preserved g t c =
    let pushed_one = rw (c.in_ok-term.ensures.kept, c.count.ensures, c.in_ok-term.ensures.same_depth) at c.in_ok-push-2.ensures in
    let deep : c.deepen.new.self ≡ c.loop-definition.depth + 1 = omega (arith, c.in_ok-deepen.ensures, c.in_ok-term.ensures.same_depth) in
    record {
      bound =
          definition_more (bodies (reverse c.args.self.now.functions.now)) c.args.definitions.now c.loop-definition.definition-index c.definition-item.result (scope_of c.args.names.now c.args.depth.now c.args.self.now.index) c.args.self.now.index c.loop-definition.names c.push-in-loop-definition.new.self _ _ _
          c.loop-definition.depth c.deepen.new.self c.in_ok-push.ensures.ok pushed_one deep c.loop-definition.invariant.bound c.in_ok-term.ensures.value c.loop-definition-test.true c.definition-item.is;
      deeper = omega (arith, deep, c.loop-definition.invariant.deeper);
      kept = rw pushed_one (take_grown c.args.names.now c.loop-definition.names _ c.loop-definition.invariant.kept);
    }
