use Rattle.df_machine.specs.Seen.{state_of}
use Rattle.df_machine.specs.States.{told}
use Rattle.df_machine.specs.Events.{fire}
use Rattle.df_machine.proofs.Indexes.{fire_alike}
use Rattle.df_machine.proofs.Looks.{long_of, looked, alike_by}
use Rattle.df_machine.proofs.store.Store.fire.Goals as goal

pub look-requires-clause-flags : goal.look-requires-clause-flags
look-requires-clause-flags c = long_of c.args.cells.now c.args.self.now c.begin.new.self.enabled c.requires.indexed c.begin.ensures.enabled

pub returns-clause-indexed : goal.returns-clause-indexed
returns-clause-indexed c =
    let s = state_of c.args.self.now in
    looked c.args.cells.now c.args.self.now c.begin.new.self c.look.new.self c.args.cell c.requires.indexed c.requires.within c.begin.ensures.enabled
    (λ j n. alike_by s (state_of c.begin.new.self) (told (fire c.args.cells.now s c.args.cell)) j c.begin.ensures.state (fire_alike c.args.cells.now s c.args.cell j c.requires.told n))
    c.look.ensures
