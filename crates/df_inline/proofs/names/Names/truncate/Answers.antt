use Rattle.std.proofs.Common.{sym, ◌∙◌, arith, take, length, ap, ◌-◌}
use Rattle.std.proofs.lemmas.List.{take-take, take_all, length-take-le}
use Rattle.df_inline.proofs.names.Names.truncate.Goals as goal

pub loop-self-smaller : goal.loop-self-smaller
loop-self-smaller c =
    rw c.in_ok-pop.ensures (omega (arith, c.loop-self-test.true, length-take-le (length c.loop-self.self - 1) c.loop-self.self (omega arith)))

pub loop-self-preserved : goal.loop-self-preserved
loop-self-preserved c =
    ap (take c.args.count) c.in_ok-pop.ensures ∙ (take-take c.args.count (length c.loop-self.self - 1) c.loop-self.self (omega (arith, c.loop-self-test.true)) ∙ c.loop-self.invariant)

pub returns : goal.returns
returns c = sym (take_all c.args.count c.loop-self.self (omega (arith, c.loop-self-test.false))) ∙ c.loop-self.invariant
