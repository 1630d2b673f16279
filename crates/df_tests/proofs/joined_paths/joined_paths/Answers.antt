use Rattle.df_stages.proofs.JoinedPaths.{joined_is_skeleton}
use Rattle.df_tests.proofs.joined_paths.joined_paths.Goals as goal

pub new-requires : goal.new-requires
new-requires c = rw (c.in_ok-nodes.ensures, c.in_ok-arcs.ensures) joined_is_skeleton
