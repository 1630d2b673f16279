use Rattle.df_build_cond.proofs.MadeGates.{gates_are_made}
use Rattle.df_build_cond.proofs.laws.gates_are_made.Goals as goal

pub returns : goal.returns
returns c = gates_are_made c.patterns_spell.ensures c.patterns_are_canonical.ensures c.steady_spells.ensures c.steady_is_canonical.ensures
