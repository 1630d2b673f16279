use Rattle.df_commands.proofs.runs.judge_input.Goals as goal

pub returns-in_ok-refused_input-in-Err : goal.returns-in_ok-refused_input-in-Err
returns-in_ok-refused_input-in-Err c = record {
  gives = (c.in-Err.answer, c.in_ok-refused_input-in-Err.ensures.line, c.in-Err.ensures.refused c.in_ok-refused_input-in-Err.ensures.told);
  valid = tt;
}
