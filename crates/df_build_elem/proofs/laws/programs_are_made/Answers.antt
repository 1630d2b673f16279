use Rattle.df_build_elem.proofs.Made.{programs_are_made}
use Rattle.df_build_elem.proofs.laws.programs_are_made.Goals as goal

pub returns : goal.returns
returns c = programs_are_made c.gates_are_made.ensures c.loops_are_made.ensures c.terms_are_made.ensures
