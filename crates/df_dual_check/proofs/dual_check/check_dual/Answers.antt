use Rattle.df_dual_check.proofs.Verdicts.{exact_answer, least_answer, first_answer}
use Rattle.df_dual_check.proofs.dual_check.check_dual.Goals as goal

pub returns-clause-exact : goal.returns-clause-exact
returns-clause-exact c =
    let m = rw c.as_slice.ensures at c.check_all.ensures in
    exact_answer c.ends_have_stages.ensures c.args.cells.now c.requires.well_formed (c.has_skeletons.ensures c.args.cells.now c.requires.well_formed) c.args.flow.now c.check_all.result m

pub returns-clause-least : goal.returns-clause-least
returns-clause-least c =
    let m = rw c.as_slice.ensures at c.check_all.ensures in
    least_answer c.ends_have_stages.ensures c.args.cells.now c.requires.well_formed (c.has_skeletons.ensures c.args.cells.now c.requires.well_formed) c.args.flow.now c.certifies_least.ensures c.check_all.result m

pub returns-clause-first : goal.returns-clause-first
returns-clause-first c =
    let m = rw c.as_slice.ensures at c.check_all.ensures in
    first_answer c.ends_have_stages.ensures c.args.cells.now c.requires.well_formed (c.has_skeletons.ensures c.args.cells.now c.requires.well_formed) c.args.flow.now c.check_all.result m
