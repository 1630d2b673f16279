use Rattle.std.proofs.Common.{refl}
use Rattle.df_tests.proofs.machine.one_dest.Goals as goal

pub returns : goal.returns
returns c = rw (c.in_ok-push.ensures.ok, c.new-dests.ensures) refl
