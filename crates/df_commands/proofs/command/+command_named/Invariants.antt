use Rattle.std.proofs.Common.{length}
use Rattle.df_commands.proofs.command.+command_named.Given as goal

abbrev pub decreases-command_named : goal.decreases-command_named
decreases-command_named l = length l.commands.now
