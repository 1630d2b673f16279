-- The inputs so far have their places.
use Rattle.df_iotext.specs.Readers.{HasPlaces}
use Rattle.df_iotext.proofs.inputs.all_places.Given as goal

abbrev pub invariant-loop-k : goal.invariant-loop-k
invariant-loop-k l = HasPlaces l.decls l.open l.k
