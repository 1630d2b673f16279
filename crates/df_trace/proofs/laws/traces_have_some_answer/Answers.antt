use Rattle.df_trace.proofs.Readings.{some_answer}
use Rattle.df_trace.proofs.laws.traces_have_some_answer.Goals as goal

pub returns : goal.returns
returns c = λ cells inputs lines neither. some_answer cells inputs lines neither
