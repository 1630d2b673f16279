use Rattle.std.proofs.Common.{◌∙◌, ◌++◌, ap}
use Rattle.df_commands.specs.Phased.{phases_line}
use Rattle.df_commands.proofs.PhasedReports.{ran_of, ends_after, same_drained, same_text}
use Rattle.df_commands.proofs.lockstep.run_cells.Goals as goal

pub returns-clause-ends : goal.returns-clause-ends
returns-clause-ends c = ends_after c.args.cells c.args.inputs.lists c.lockstep-end.new.t c.lockstep-end.result.phases c.lockstep-end.result.events c.lockstep-end.result.drained
    (ran_of c.args.cells c.args.inputs.lists c.in_ok-machine.machine c.lockstep-end.new.t c.lockstep-end.result.phases c.lockstep-end.result.events c.lockstep-end.result.drained
    c.in_ok-machine.ensures.cells c.in_ok-machine.ensures.inputs (record {
      state = c.lockstep-end.ensures.state;
      count = c.lockstep-end.ensures.events;
      some = c.lockstep-end.ensures.counted;
      limited = c.lockstep-end.ensures.limited;
      exact = c.lockstep-end.ensures.drained;
      stopped = c.lockstep-end.ensures.stopped;
    }))

pub returns-clause-text : goal.returns-clause-text
returns-clause-text c =
    c.in_ok-push_phases.ensures
    ∙ ap (λ text. text ++ phases_line c.lockstep-end.result.phases) (c.in_ok-text.ensures ∙ same_text c.args.cells c.args.inputs.lists c.lockstep-end.new.t c.lockstep-end.result.phases c.lockstep-end.result.events c.lockstep-end.result.drained
    (ran_of c.args.cells c.args.inputs.lists c.in_ok-machine.machine c.lockstep-end.new.t c.lockstep-end.result.phases c.lockstep-end.result.events c.lockstep-end.result.drained
    c.in_ok-machine.ensures.cells c.in_ok-machine.ensures.inputs (record {
      state = c.lockstep-end.ensures.state;
      count = c.lockstep-end.ensures.events;
      some = c.lockstep-end.ensures.counted;
      limited = c.lockstep-end.ensures.limited;
      exact = c.lockstep-end.ensures.drained;
      stopped = c.lockstep-end.ensures.stopped;
    })))

pub returns-clause-drained : goal.returns-clause-drained
returns-clause-drained c = same_drained c.args.cells c.args.inputs.lists c.lockstep-end.new.t c.lockstep-end.result.phases c.lockstep-end.result.events c.lockstep-end.result.drained
    (ran_of c.args.cells c.args.inputs.lists c.in_ok-machine.machine c.lockstep-end.new.t c.lockstep-end.result.phases c.lockstep-end.result.events c.lockstep-end.result.drained
    c.in_ok-machine.ensures.cells c.in_ok-machine.ensures.inputs (record {
      state = c.lockstep-end.ensures.state;
      count = c.lockstep-end.ensures.events;
      some = c.lockstep-end.ensures.counted;
      limited = c.lockstep-end.ensures.limited;
      exact = c.lockstep-end.ensures.drained;
      stopped = c.lockstep-end.ensures.stopped;
    }))
