use Rattle.df_build_access.proofs.Standing.{no_accesses}
use Rattle.df_build_access.proofs.accesses.Accesses.new.Goals as goal

pub returns : goal.returns
returns c = no_accesses c.new.result c.new.ensures.empty
