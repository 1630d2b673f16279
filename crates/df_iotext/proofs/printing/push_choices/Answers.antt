use Rattle.std.proofs.Common.{arith, rules}
use Rattle.df_iotext.proofs.PrintLemmas.{first_printed, next_printed}
use Rattle.df_iotext.proofs.printing.push_choices.Goals.{then-i-gt0+in_ok-push_text, else-i-gt0}
use Rattle.df_iotext.proofs.printing.push_choices.Goals as goal

pub loop-i-preserved : goal.loop-i-preserved
loop-i-preserved c =
    elim c.if-i-gt0.branch [
      | then-i-gt0+in_ok-push_text w ↦
          next_printed c.args.text.now c.loop-i.text c.push_number.new.self c.args.choices.now c.loop-i.i c.from.result (omega arith) (omega arith) (search rules) c.loop-i.invariant (search rules)
      | else-i-gt0 w ↦
          first_printed c.args.text.now c.loop-i.text c.push_number.new.self c.args.choices.now c.loop-i.i c.from.result (omega arith) (omega arith) (search rules) c.loop-i.invariant (search rules)
    ]
