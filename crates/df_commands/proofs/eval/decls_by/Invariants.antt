use Rattle.std.proofs.Common.{◌≡◌, take}
use Rattle.df_commands.specs.Inputs.{decls_by}
use Rattle.df_commands.proofs.eval.decls_by.Given as goal

abbrev pub invariant-loop-input : goal.invariant-loop-input
invariant-loop-input l = l.decls.items ≡ decls_by (take l.input-index l.inputs)
