use Rattle.std.proofs.Common.{◌≡◌, fold, take}
use Rattle.df_cancel.specs.Sends.{moved}
use Rattle.df_cancel.proofs.cancelling.send.Given as goal

abbrev pub invariant-loop-k : goal.invariant-loop-k
invariant-loop-k l = l.flow.items ≡ fold moved l.initial.flow.items (take l.k l.cycle)
