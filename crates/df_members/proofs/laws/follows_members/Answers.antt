use Rattle.df_members.proofs.Following.{follows_members}
use Rattle.df_members.proofs.laws.follows_members.Goals as goal

pub returns : goal.returns
returns c = follows_members c.accounts_for_values.ensures c.fires_once_per_event.ensures
