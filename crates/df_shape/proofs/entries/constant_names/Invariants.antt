use Rattle.std.proofs.Common.{◌≡◌, take}
use Rattle.df_names.specs.Found.{names_of}
use Rattle.df_shape.specs.Entries.{standing_in}
use Rattle.df_shape.proofs.entries.constant_names.Given as goal

abbrev pub invariant-loop-constant : goal.invariant-loop-constant
invariant-loop-constant l = names_of l.names ≡ standing_in (names_of l.numbers) (take l.constant-index l.constants)
