use Rattle.df_stages.proofs.Heights.{ends_have_stages}
use Rattle.df_stages.proofs.laws.ends_have_stages.Goals as goal

pub returns : goal.returns
returns c = ends_have_stages
