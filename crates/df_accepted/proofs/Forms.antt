-- What stands around a part of a program in blocks.
use Rattle.std.proofs.Common.{List}
use Rattle.df_syntax.specs.declared.tree.Sort.{Sort}
use Rattle.df_syntax.specs.declared.program.Function.{Function}
use Rattle.df_syntax.specs.Meaning.{Name}
use Rattle.df_syntax.specs.WellShaped.{Subscripts, Around}

abbrev pub around : List (Name × Sort) → List Function → Subscripts → Around
around names functions subscripts = record { names = names; functions = functions; subscripts = subscripts }
