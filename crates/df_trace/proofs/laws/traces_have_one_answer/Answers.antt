use Rattle.df_trace.proofs.Readings.{not_both, one_wrong}
use Rattle.df_trace.proofs.laws.traces_have_one_answer.Goals as goal

pub returns : goal.returns
returns c = record {
  right = λ cells inputs lines number w a b. not_both c.lines_are_apart.ensures cells inputs lines number w a b;
  wrong = λ cells inputs lines m n w a b. one_wrong c.lines_are_apart.ensures cells inputs lines m n w a b;
}
