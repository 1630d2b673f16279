use Rattle.std.proofs.Common.{arith}
use Rattle.df_trace.proofs.Names.{same_number, no_larger}
use Rattle.df_trace.proofs.naming.leading_cell.Goals as goal

pub returns-in-Ok : goal.returns-in-Ok
returns-in-Ok c = λ n rest small leads.
    let found = c.in_ok-number.ensures in
    same_number c.leads_with_one_number.ensures c.args.text.now rest c.in_ok-number.number n c.in_ok-number.length c.in-Ok.cell (omega (arith, small)) leads found.small found.number c.in-Ok.ensures.1

pub returns-in-Err : goal.returns-in-Err
returns-in-Err c = λ n rest small leads.
    let found = c.in_ok-number.ensures in
    no_larger c.leads_with_one_number.ensures c.args.text.now rest c.in_ok-number.number n c.in_ok-number.length 4294967296 (omega (arith, small)) (omega (arith, small)) leads found.small found.number c.in-Err.ensures
