use Rattle.std.proofs.Common.{◌∙◌, ap}
use Rattle.df_pick.specs.Sums.{up_count}
use Rattle.df_machine.specs.Indexes.{enabled_flags}
use Rattle.df_machine.specs.Seen.{Loaded}
use Rattle.df_lockstep.proofs.Flights.{enabled_count}
use Rattle.df_lockstep.proofs.phases.fire_all.Goals as goal

pub returns-clause-count : goal.returns-clause-count
returns-clause-count c choices at =
    c.count-cells.ensures ∙ ap up_count c.enabled_picks.ensures ∙ ap (λ (m : Loaded). up_count (enabled_flags m.cells m.state)) c.machine.ensures.machine
    ∙ enabled_count c.tells_possible.ensures c.args.t.now choices (c.machine.ensures.reached).well_formed at
