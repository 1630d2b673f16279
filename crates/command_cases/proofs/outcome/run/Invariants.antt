use Rattle.std.proofs.Common.{◌≡◌}
use Rattle.df_io.specs.MemFiles.{mode_of}
use Rattle.df_io.specs.declared.files.FileMode.TheVariants.{Idle}
use Rattle.command_cases.proofs.outcome.run.Given as goal

abbrev pub invariant-loop-text : goal.invariant-loop-text
invariant-loop-text l = mode_of l.files ≡ Idle
