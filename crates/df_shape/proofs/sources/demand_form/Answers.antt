use Rattle.std.proofs.Common.{◌≡◌}
use Rattle.df_syntax.specs.SourceForms.{numbers_of}
use Rattle.df_names.specs.Found.{names_of}
use Rattle.df_shape.specs.Sources.{demands}
use Rattle.df_shape.proofs.Passes.{tried_err}
use Rattle.df_shape.proofs.WholeForm.{constants_refused, ranges_refused, functions_refused, all_held}
use Rattle.df_shape.proofs.sources.demand_form.Goals as goal

pub returns-in_err-numbers : goal.returns-in_err-numbers
returns-in_err-numbers c =
    tried_err (demands c.args.program.now) (λ numbers. names_of numbers ≡ numbers_of c.args.program.now) _ _ c.from_residual.ensures.1
    (λ ordinary. constants_refused c.args.program.now _ ((rw c.as_slice.ensures at c.in_err-numbers.ensures) ordinary))

pub returns-in_err-ask_ranges : goal.returns-in_err-ask_ranges
returns-in_err-ask_ranges c =
    tried_err (demands c.args.program.now) (λ numbers. names_of numbers ≡ numbers_of c.args.program.now) _ _ c.from_residual-in_err-ask_ranges.ensures.1
    (λ _. ranges_refused c.args.program.now (names_of c.in_ok-numbers.numbers) (rw c.as_slice.ensures at c.in_ok-numbers.ensures.1) (rw c.as_slice.ensures at c.in_ok-numbers.ensures.0) _ (rw c.as_slice-2.ensures at c.in_err-ask_ranges.ensures))

pub returns-in_err-ask_functions : goal.returns-in_err-ask_functions
returns-in_err-ask_functions c =
    tried_err (demands c.args.program.now) (λ numbers. names_of numbers ≡ numbers_of c.args.program.now) _ _ c.from_residual-in_err-ask_functions.ensures.1
    (λ ordinary. functions_refused c.args.program.now (names_of c.in_ok-numbers.numbers) (rw c.as_slice.ensures at c.in_ok-numbers.ensures.1) (rw c.as_slice.ensures at c.in_ok-numbers.ensures.0) _ (rw c.as_slice-2.ensures at c.in_ok-ask_ranges.ensures) ((rw c.as_slice-3.ensures at c.in_err-ask_functions.ensures) ordinary))

pub returns : goal.returns
returns c = (
  all_held c.args.program.now (names_of c.in_ok-numbers.numbers) (rw c.as_slice.ensures at c.in_ok-numbers.ensures.1) (rw c.as_slice.ensures at c.in_ok-numbers.ensures.0) (rw c.as_slice-2.ensures at c.in_ok-ask_ranges.ensures) (rw c.as_slice-3.ensures at c.in_ok-ask_functions.ensures.0),
  rw c.as_slice.ensures at c.in_ok-numbers.ensures.1,
)
