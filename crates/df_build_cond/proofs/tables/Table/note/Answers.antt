use Rattle.std.proofs.Common.{ap}
use Rattle.df_build_cond.specs.Noted.{entry_in}
use Rattle.df_build_cond.proofs.Standing.{with_row, with_entry, same_entries, on_ok, on_err}
use Rattle.df_build_cond.proofs.tables.Table.note.Goals as goal

pub returns-then-are_below-clause-ok : goal.returns-then-are_below-clause-ok
returns-then-are_below-clause-ok c =
    on_ok c.push.result (with_row c.args.self.now.rows c.push.new.self c.args.self.now.others c.args.number c.args.cell) c.push.ensures.ok

pub returns-in_err-insert-clause-err : goal.returns-in_err-insert-clause-err
returns-in_err-insert-clause-err c =
    on_err c.from_residual.result (same_entries c.args.self.now.rows c.set.new.self c.args.self.now.others c.insert.new.self (ap entry_in c.if-not-set.ensures.same) c.in_err-insert.ensures.err)

pub returns-in_ok-insert-clause-ok : goal.returns-in_ok-insert-clause-ok
returns-in_ok-insert-clause-ok c =
    with_entry c.args.self.now.rows c.set.new.self c.args.self.now.others c.insert.new.self c.args.number c.args.cell c.if-not-set.ensures.away (ap entry_in c.if-not-set.ensures.same)
    c.in_ok-insert.ensures.updates

pub returns-else-not-set-clause-ok : goal.returns-else-not-set-clause-ok
returns-else-not-set-clause-ok c = with_row c.args.self.now.rows c.set.new.self c.args.self.now.others c.args.number c.args.cell c.if-not-set.ensures.there
