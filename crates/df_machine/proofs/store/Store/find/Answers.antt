use Rattle.std.proofs.Common.{◌%◌, ◌-◌, refl, arith}
use Rattle.df_machine.proofs.Looks.{finds_cell, finds_packet}
use Rattle.df_machine.proofs.store.Store.find.Goals as goal

pub returns-then-place-enabled-clause-found : goal.returns-then-place-enabled-clause-found
returns-then-place-enabled-clause-found c =
    let k = c.kth.ensures in
    finds_cell c.args.cells.now c.args.self.now c.args.choice (c.args.choice % c.possible-possible.result) c.possible-possible.result c.kth.result
    c.requires.indexed c.possible-possible.ensures refl k.within k.up k.before

pub returns-else-place-enabled-clause-found : goal.returns-else-place-enabled-clause-found
returns-else-place-enabled-clause-found c =
    let p = c.args.choice % c.possible-possible.result in let past = c.if-place-enabled.false in
    finds_packet c.args.cells.now c.args.self.now c.args.choice p c.count-enabled.result c.possible-possible.result (p - c.count-enabled.result)
    c.requires.indexed c.possible-possible.ensures c.if-possible-eq0.false refl c.count-enabled.ensures (omega arith) refl
