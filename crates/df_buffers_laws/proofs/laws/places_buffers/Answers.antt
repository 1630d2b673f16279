use Rattle.df_buffers_laws.proofs.Together.{are_placed}
use Rattle.df_buffers_laws.proofs.laws.places_buffers.Goals as goal

pub returns : goal.returns
returns c = λ old new stages flow well_formed plain balance made.
    are_placed c.marks_are_unique.ensures c.has_skeletons.ensures c.certifies_least.ensures old new stages flow well_formed plain balance made
