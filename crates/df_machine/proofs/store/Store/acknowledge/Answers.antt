use Rattle.df_machine.specs.Seen.{state_of}
use Rattle.std.proofs.Common.{◌≡◌, Some, sym, ◌∙◌}
use Rattle.df_cells.specs.Cells.{producer_of}
use Rattle.df_machine.specs.Events.{acknowledge}
use Rattle.df_machine.proofs.Indexes.{acknowledge_alike}
use Rattle.df_machine.proofs.Looks.{fed_within, long_of, looked, alike_by}
use Rattle.df_machine.proofs.store.Store.acknowledge.Goals as goal

pub look-requires-clause-flags : goal.look-requires-clause-flags
look-requires-clause-flags c = long_of c.args.cells.now c.args.self.now c.count.new.self.enabled c.requires.indexed c.count.ensures.enabled

pub returns-in-Some-clause-indexed : goal.returns-in-Some-clause-indexed
returns-in-Some-clause-indexed c =
    let s = state_of c.args.self.now in let fed : producer_of c.args.cells.now c.args.from ≡ Some c.in-Some.producer = sym c.producer_of.ensures ∙ c.in-Some.is in
    let within = fed_within c.args.cells.now c.args.self.now c.args.from c.in-Some.producer c.requires.can fed in
    looked c.args.cells.now c.args.self.now c.count.new.self c.look.new.self c.in-Some.producer.0 c.requires.indexed within c.count.ensures.enabled
    (λ j n. alike_by s (state_of c.count.new.self) (acknowledge c.args.cells.now s c.args.from) j c.count.ensures.state
    (acknowledge_alike c.args.cells.now s c.args.from c.in-Some.producer j fed n))
    c.look.ensures
