use Rattle.std.proofs.Common.{◌∙◌, ap, sym, inl, inr, arith}
use Rattle.df_machine.specs.Seen.{Loaded}
use Rattle.df_machine.specs.Events.{possible}
use Rattle.df_lockstep.proofs.Locked.{locked_none, locked_one, locked_state, in_time}
use Rattle.df_lockstep.proofs.Told.{phases_told}
use Rattle.df_lockstep.proofs.phases.lockstep.Goals as goal
use Rattle.df_lockstep.proofs.phases.lockstep.Goals.{then-loop-phases-test+else-possible-ne0, else-loop-phases-test}

pub loop-phases-init : goal.loop-phases-init
loop-phases-init c = (locked_none c.args.t.now c.requires.begun, omega arith, omega arith)

pub loop-phases-preserved : goal.loop-phases-preserved
loop-phases-preserved c =
    let below = c.loop-phases-test.true in
    let few = c.phase-events.ensures.few in
    let sum = c.loop-phases.invariant.2 in (
      locked_one c.tells_possible.ensures c.phases_are_runs.ensures c.args.t.now c.loop-phases.t c.phase-events.new.t c.loop-phases.phases c.loop-phases.events c.phase-events.result
          (c.machine-machine.ensures.reached).well_formed c.loop-phases.invariant.0 (λ none. c.if-possible-ne0.true (c.possible.ensures ∙ ap (λ (m : Loaded). possible m.cells m.state) c.machine.ensures.machine ∙ none)) c.phase-events.ensures.machine c.phase-events.ensures.reached c.phase-events.ensures.events,
      omega (arith, below),
      omega (arith, few, sum),
    )

pub returns-clause-state : goal.returns-clause-state
returns-clause-state c =
    let few = c.loop-phases.invariant.1 in let most = c.requires.limit in
    locked_state c.phases_are_runs.ensures c.args.t.now c.loop-phases.t c.loop-phases.phases c.loop-phases.events c.loop-phases.invariant.0
    ∙ ap (λ s. record c.args.t.now { state = s }) (phases_told c.args.t.now.cells c.args.t.now.inputs c.loop-phases.phases (omega (arith, few, most)))

pub returns-clause-in_time : goal.returns-clause-in_time
returns-clause-in_time c =
    in_time c.tells_possible.ensures c.phases_are_runs.ensures c.drains_in_time.ensures c.args.t.now c.loop-phases.t c.loop-phases.phases c.loop-phases.events c.args.limit c.drained.result
    (c.machine-machine.ensures.reached).well_formed c.loop-phases.invariant.0 c.drained.ensures.exact.1
    (elim c.loop-phases-test.branch [
      | then-loop-phases-test+else-possible-ne0 w ↦ inr (sym (w.possible.ensures ∙ ap (λ (m : Loaded). possible m.cells m.state) w.machine.ensures.machine) ∙ w.if-possible-ne0.false)
      | else-loop-phases-test w ↦ inl (let t = w.loop-phases-test in omega (arith, t))
    ])
