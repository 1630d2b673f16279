use Rattle.std.proofs.Common.{◌∙◌}
use Rattle.df_types.proofs.PassSteps.{last_parameters_at}
use Rattle.df_types.proofs.passes.parameters_of_last.Goals as goal

pub returns-in-Some : goal.returns-in-Some
returns-in-Some c = c.as_slice.ensures ∙ last_parameters_at c.args.functions.now c.in-Some.function.now c.in-Some.ensures.value
