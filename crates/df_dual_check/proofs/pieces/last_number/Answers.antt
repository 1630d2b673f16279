use Rattle.std.proofs.Common.{◌<◌, ◌^◌, ◌∷◌, ◌-◌, length, length-drop, drop, ◌∙◌, arith}
use Rattle.std.proofs.lemmas.List.{take_all}
use Rattle.df_values.proofs.DecimalLemmas.{one_number}
use Rattle.df_dual_check.proofs.LineLaws.{line_leads}
use Rattle.df_dual_check.proofs.pieces.last_number.Goals as goal

pub returns-then-number-from-clause-none : goal.returns-then-number-from-clause-none
returns-then-number-from-clause-none c f rest small parts =
    let few : f < 2 ^ 64 = omega (arith, small) in
    let same = (one_number c.args.text.now (drop c.in-Some.length c.args.text.now) (10 ∷ rest) c.in-Some.number f c.in-Some.ensures.small few c.in-Some.ensures.number (line_leads c.args.text.now f rest parts)).0 in
    omega (arith, same, small, c.if-number-from.true, c.from.ensures)

pub returns-in-None-clause-none : goal.returns-in-None-clause-none
returns-in-None-clause-none c f rest small parts =
    let few : f < 2 ^ 64 = omega (arith, small) in
    let same = (one_number c.args.text.now (drop c.in-Some.length c.args.text.now) (10 ∷ rest) c.in-Some.number f c.in-Some.ensures.small few c.in-Some.ensures.number (line_leads c.args.text.now f rest parts)).1 in
    c.in-None.ensures.none rest (take_all (length c.args.text.now - c.in-Some.length) (drop c.in-Some.length c.args.text.now) (let long = length-drop c.in-Some.length c.args.text.now in omega (arith, long)) ∙ same)
