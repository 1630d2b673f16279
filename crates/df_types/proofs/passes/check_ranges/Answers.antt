use Rattle.std.proofs.Common.{◌≡◌}
use Rattle.df_names.specs.Found.{names_of}
use Rattle.df_names.specs.Maps.{nothing}
use Rattle.df_types.specs.Scopes.{bound}
use Rattle.df_types.specs.Sources.{last_parameters, arrays, range_demands, ranged_demands, left_without}
use Rattle.df_types.proofs.PassSteps.{answers_read}
use Rattle.df_types.proofs.Steps.{left, handed_on}
use Rattle.df_types.proofs.passes.check_ranges.Goals as goal

pub returns-in_err-check_each_range : goal.returns-in_err-check_each_range
returns-in_err-check_each_range c =
    let start : names_of c.in_ok-without.without ≡ bound (arrays (last_parameters c.args.functions.now)) nothing = rw c.parameters_of_last-parameters.ensures at c.in_ok-without.ensures in
    handed_on _ _ _ _ _ _ c.from_residual-in_err-check_each_range.ensures.1 (left (range_demands c.args.all.now (bound (arrays (last_parameters c.args.functions.now)) nothing) (names_of c.args.scope.now)) (ranged_demands (arrays (last_parameters c.args.functions.now)) (left_without c.args.all.now (bound (arrays (last_parameters c.args.functions.now)) nothing))) _ (rw start at c.in_err-check_each_range.ensures.answers))

pub returns : goal.returns
returns c =
    let start : names_of c.in_ok-without.without ≡ bound (arrays (last_parameters c.args.functions.now)) nothing = rw c.parameters_of_last-parameters.ensures at c.in_ok-without.ensures in
    let left_ : names_of c.check_each_range.new.without ≡ left_without c.args.all.now (bound (arrays (last_parameters c.args.functions.now)) nothing) = rw start at c.in_ok-check_each_range.ensures.left in
    answers_read (range_demands c.args.all.now (bound (arrays (last_parameters c.args.functions.now)) nothing) (names_of c.args.scope.now)) (ranged_demands (arrays (last_parameters c.args.functions.now)) (left_without c.args.all.now (bound (arrays (last_parameters c.args.functions.now)) nothing))) (names_of c.args.scope.now) (left_without c.args.all.now (bound (arrays (last_parameters c.args.functions.now)) nothing)) c.check_each_range.new.scope c.check_each_range.new.without c.check_ranged.result (rw start at c.in_ok-check_each_range.ensures.answers.holds) c.in_ok-check_each_range.ensures.answers.names_are
    (rw (c.parameters_of_last-parameters.ensures, left_) at c.check_ranged.ensures)
