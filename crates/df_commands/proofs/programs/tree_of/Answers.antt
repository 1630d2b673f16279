use Rattle.df_commands.proofs.ProgramReadings.{refused_tokens}
use Rattle.df_commands.proofs.programs.tree_of.Goals as goal

pub returns-in_ok-refused_parse-in-Err : goal.returns-in_ok-refused_parse-in-Err
returns-in_ok-refused_parse-in-Err c =
    refused_tokens c.args.tokens.now c.in-Err.answer c.in_ok-refused_parse-in-Err.field-0 c.in-Err.ensures.answered
    c.in_ok-refused_parse-in-Err.ensures.told c.in_ok-refused_parse-in-Err.ensures.line
