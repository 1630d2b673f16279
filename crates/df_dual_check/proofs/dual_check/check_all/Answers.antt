use Rattle.std.proofs.Common.{All}
use Rattle.df_stages.specs.Skeletons.{arcs}
use Rattle.df_dual_check.specs.Checked.{IsBalancedAt, IsFirstUnbalanced, IsLevel, IsFirstOff}
use Rattle.df_dual_check.proofs.Verdicts.{none_matched, all_balanced}
use Rattle.df_dual_check.proofs.dual_check.check_all.Goals as goal

pub check_flow-requires-clause-balanced : goal.check_flow-requires-clause-balanced
check_flow-requires-clause-balanced c =
    let cells = c.args.cells.now in
    all_balanced c.ends_have_stages.ensures cells c.requires.well_formed (c.has_skeletons.ensures cells c.requires.well_formed)
    (none_matched (All (IsBalancedAt cells) (arcs cells)) (IsFirstUnbalanced cells) c.first_unbalanced.result c.first_unbalanced.ensures c.in_default.not-Some)
    (none_matched (IsLevel cells) (IsFirstOff cells) c.first_off.result c.first_off.ensures c.in_default-first_off.not-Some)
