use Rattle.std.proofs.Common.{◌*◌, ◌^◌, ◌<◌, length, pos, nat_abs, ◌-ℤ◌, sym, subst, arith}
use Rattle.df_stages.specs.Flows.{flow_value, IsDualFlow}
use Rattle.df_cancel.specs.Rows.{StepsWithin, RowWithin}
use Rattle.df_cancel.specs.Residuals.{IsResidual}
use Rattle.df_cancel.specs.Cycles.{IsPositiveCycle}
use Rattle.df_cancel.specs.Found.{IsFound}
use Rattle.df_cancel.specs.Lowered.{IsLowered}
use Rattle.df_cancel.specs.declared.trace.Found.TheVariants.{Numbers, Cycle}
use Rattle.df_cancel.proofs.Cuts.{value_limit}
use Rattle.df_cancel.proofs.Residues.{residual_within}
use Rattle.df_cancel.proofs.Cancels.{ones_dual, can_send, round_dual, round_smaller}
use Rattle.df_cancel.proofs.Stages.{balance_of}
use Rattle.df_cancel.proofs.Tables.{within_weaker}
use Rattle.df_cancel.proofs.cancelling.cancel_cycles.Goals as goal

pub cycles-init : goal.cycles-init
cycles-init c = ones_dual c.args.nodes c.args.arcs.now c.in_ok-flow.flow.items (c.in_ok-flow.ensures.items_if_clones_equal (λ y h. h))

pub search-requires-clause-steps : goal.search-requires-clause-steps
search-requires-clause-steps c =
    let arcs = c.args.arcs.now in
    let steps = c.in_ok-steps.steps.items in
    let flow = c.cycles.flow.items in
    let r = subst (λ f. IsResidual arcs f (length arcs) (length arcs) steps) c.deref.ensures.value c.in_ok-steps.ensures in
    subst (StepsWithin c.args.nodes (2 ^ 20)) (sym c.deref-in-cycles.ensures.value) (residual_within c.args.nodes (2 ^ 20) arcs flow (length arcs) (length arcs) steps c.requires.ends c.requires.weights r)

pub lowered-requires : goal.lowered-requires
lowered-requires c =
    let arcs = c.args.arcs.now in
    let steps = c.in_ok-steps.steps.items in
    let flow = c.cycles.flow.items in
    let r = subst (λ f. IsResidual arcs f (length arcs) (length arcs) steps) c.deref.ensures.value c.in_ok-steps.ensures in
    let found = subst (λ l. IsFound c.args.nodes l (Numbers c.in-Numbers.numbers)) c.deref-in-cycles.ensures.value (rw c.in-Numbers.is at c.in_ok-numbers.ensures) in
    let few = c.requires.few_nodes in
    subst (RowWithin (2 ^ 40)) (sym c.deref-in-Numbers.ensures.value)
    (within_weaker (c.args.nodes * 2 ^ 20) (2 ^ 40) c.in-Numbers.numbers.items (found.2 (2 ^ 20) (residual_within c.args.nodes (2 ^ 20) arcs flow (length arcs) (length arcs) steps c.requires.ends c.requires.weights r)) (omega arith))

pub returns-in-Numbers : goal.returns-in-Numbers
returns-in-Numbers c =
    let arcs = c.args.arcs.now in
    let steps = c.in_ok-steps.steps.items in
    let flow = c.cycles.flow.items in
    let r = subst (λ f. IsResidual arcs f (length arcs) (length arcs) steps) c.deref.ensures.value c.in_ok-steps.ensures in
    let found = subst (λ l. IsFound c.args.nodes l (Numbers c.in-Numbers.numbers)) c.deref-in-cycles.ensures.value (rw c.in-Numbers.is at c.in_ok-numbers.ensures) in
    let low = subst (λ l. IsLowered l c.in_ok-stages-in-Numbers.stages.items) c.deref-in-Numbers.ensures.value c.in_ok-stages-in-Numbers.ensures in
    balance_of c.args.nodes arcs flow steps c.in-Numbers.numbers.items c.in_ok-stages-in-Numbers.stages.items c.requires c.cycles.invariant r found.0 found.1 found.2 low

pub send-flow-requires : goal.send-flow-requires
send-flow-requires c =
    let arcs = c.args.arcs.now in
    let steps = c.in_ok-steps.steps.items in
    let flow = c.cycles.flow.items in
    let r = subst (λ f. IsResidual arcs f (length arcs) (length arcs) steps) c.deref.ensures.value c.in_ok-steps.ensures in
    let cycle = c.deref-in-Cycle.result.now in
    let found = subst (λ l. IsFound c.args.nodes l (Cycle c.in-Cycle.cycle)) c.deref-in-cycles.ensures.value (rw c.in-Cycle.is at c.in_ok-numbers.ensures) in
    let p = subst (IsPositiveCycle c.args.nodes steps) (sym c.deref-in-Cycle.ensures.value) found in
    can_send c.args.nodes arcs flow (length arcs) (length arcs) steps cycle c.requires c.cycles.invariant r p

pub cycles-smaller : goal.cycles-smaller
cycles-smaller c =
    let arcs = c.args.arcs.now in
    let steps = c.in_ok-steps.steps.items in
    let flow = c.cycles.flow.items in
    let r = subst (λ f. IsResidual arcs f (length arcs) (length arcs) steps) c.deref.ensures.value c.in_ok-steps.ensures in
    let cycle = c.deref-in-Cycle.result.now in
    let found = subst (λ l. IsFound c.args.nodes l (Cycle c.in-Cycle.cycle)) c.deref-in-cycles.ensures.value (rw c.in-Cycle.is at c.in_ok-numbers.ensures) in
    let p = subst (IsPositiveCycle c.args.nodes steps) (sym c.deref-in-Cycle.ensures.value) found in
    subst (λ f. nat_abs (pos (value_limit arcs) -ℤ flow_value arcs f) < nat_abs (pos (value_limit arcs) -ℤ flow_value arcs flow)) (sym c.send-flow.ensures)
    (round_smaller c.args.nodes arcs flow (length arcs) (length arcs) steps cycle c.requires c.cycles.invariant r p)

pub cycles-preserved : goal.cycles-preserved
cycles-preserved c =
    let arcs = c.args.arcs.now in
    let steps = c.in_ok-steps.steps.items in
    let flow = c.cycles.flow.items in
    let r = subst (λ f. IsResidual arcs f (length arcs) (length arcs) steps) c.deref.ensures.value c.in_ok-steps.ensures in
    let cycle = c.deref-in-Cycle.result.now in
    let found = subst (λ l. IsFound c.args.nodes l (Cycle c.in-Cycle.cycle)) c.deref-in-cycles.ensures.value (rw c.in-Cycle.is at c.in_ok-numbers.ensures) in
    let p = subst (IsPositiveCycle c.args.nodes steps) (sym c.deref-in-Cycle.ensures.value) found in
    subst (IsDualFlow c.args.nodes arcs) (sym c.send-flow.ensures) (round_dual c.args.nodes arcs flow (length arcs) (length arcs) steps cycle c.requires c.cycles.invariant r p)
