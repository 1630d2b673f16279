use Rattle.df_stages.specs.Skeletons.{arcs}
use Rattle.df_buffers_laws.specs.Insertions.{ports_to_buffer}
use Rattle.df_buffers_laws.proofs.Arcs.{within_old, all_fed}
use Rattle.df_buffers_laws.proofs.Tables.{arcs_kept}
use Rattle.df_buffers_laws.proofs.laws.keeps_arcs.Goals as goal

pub returns : goal.returns
returns c = λ old numbers well_formed plain.
    arcs_kept old (within_old old well_formed plain) (ports_to_buffer (arcs old) numbers)
    (all_fed old well_formed plain numbers)
