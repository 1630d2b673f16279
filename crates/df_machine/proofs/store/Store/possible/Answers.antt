use Rattle.std.proofs.Common.{arith}
use Rattle.df_machine.proofs.Looks.{count_few}
use Rattle.df_machine.proofs.store.Store.possible.Goals as goal

pub overflow_add-result : goal.overflow_add-result
overflow_add-result c =
    let few = count_few c.args.cells.now c.args.self.now c.requires.indexed in
    let e = c.count.ensures in let l = c.len.ensures.within in let n = c.requires.cells in let r = c.requires.room in
    omega (arith, few, e, l, n, r)
