use Rattle.df_machine.specs.Seen.{state_of}
use Rattle.df_machine.specs.Events.{perform}
use Rattle.df_machine.proofs.Indexes.{perform_alike}
use Rattle.df_machine.proofs.Looks.{long_of, looked, alike_by}
use Rattle.df_machine.proofs.store.Store.perform.Goals as goal

pub look-requires-clause-flags : goal.look-requires-clause-flags
look-requires-clause-flags c = long_of c.args.cells.now c.args.self.now c.end.new.self.enabled c.requires.indexed c.end.ensures.enabled

pub returns-clause-indexed : goal.returns-clause-indexed
returns-clause-indexed c =
    let s = state_of c.args.self.now in let inputs = c.args.sources.now.inputs.lists in
    looked c.args.cells.now c.args.self.now c.end.new.self c.look.new.self c.args.cell c.requires.indexed c.requires.can.within c.end.ensures.enabled
    (λ j n. alike_by s (state_of c.end.new.self) (perform c.args.cells.now inputs s c.args.cell c.args.operands.now) j c.end.ensures.state
    (perform_alike c.args.cells.now inputs s c.args.cell c.args.operands.now j n))
    c.look.ensures
