use Rattle.std.proofs.Common.{◌∙◌, sym}
use Rattle.df_types.proofs.Looks.{parens, let_whole, is_one}
use Rattle.df_types.proofs.walk.Walk.+count.Goals as goal

pub count-returns-in-Parens : goal.count-returns-in-Parens
count-returns-in-Parens t c = rw (parens c.args.self.now.functions.now c.args.expr.now c.in-Parens.of (sym c.get.ensures ∙ c.in-Parens.is)) c.count.ensures

pub count-returns-in-Let : goal.count-returns-in-Let
count-returns-in-Let t c =
    rw (let_whole c.args.self.now.functions.now c.args.expr.now c.in-Let.definitions c.in-Let.values (sym c.get.ensures ∙ c.in-Let.is)) (rw c.as_slice.ensures at c.count_all.ensures)

pub count-returns-in_default : goal.count-returns-in_default
count-returns-in_default t c =
    let one = is_one c.args.self.now.functions.now c.args.expr.now (λ of is. c.in_default.not-Parens of (c.get.ensures ∙ is)) (λ ds values is. c.in_default.not-Let ds values (c.get.ensures ∙ is)) in
    sym one.count_is
