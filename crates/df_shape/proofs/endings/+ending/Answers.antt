use Rattle.std.proofs.Common.{◌≤◌, ◌<◌, length, sym, ◌∙◌}
use Rattle.df_shape.specs.Endings.{with_defined}
use Rattle.df_shape.proofs.Gives.{named, called, parens, chosen, let_in, let_nothing, construct, loop, array, updated, scalar}
use Rattle.df_shape.proofs.endings.+ending.Goals as goal

pub returns-in-Name : goal.returns-in-Name
returns-in-Name t c around = named around c.args.expr.now c.in-Name.name (sym c.get.ensures ∙ c.in-Name.is)

pub returns-in-Call : goal.returns-in-Call
returns-in-Call t c around = called around c.args.expr.now c.in-Call.name c.in-Call.arguments (sym c.get.ensures ∙ c.in-Call.is)

pub returns-in-Parens : goal.returns-in-Parens
returns-in-Parens t c around = parens around c.args.expr.now c.in-Parens.of (sym c.get.ensures ∙ c.in-Parens.is) ∙ c.ending_of.ensures around

pub returns-in-If : goal.returns-in-If
returns-in-If t c around = chosen around c.args.expr.now c.in-If.arms c.in-If.last (sym c.get.ensures ∙ c.in-If.is) ∙ c.ending_of-in-If.ensures around

pub returns-in_default-as_slice : goal.returns-in_default-as_slice
returns-in_default-as_slice t c around =
    let none : length c.in-Let.values < 1 = rw c.as_slice.ensures at c.in_default-as_slice.len_below in
    let_nothing around c.args.expr.now c.in-Let.definitions c.in-Let.values (sym c.get.ensures ∙ c.in-Let.is) none

pub returns-in-len1-up : goal.returns-in-len1-up
returns-in-len1-up t c around =
    let some : 1 ≤ length c.in-Let.values = rw c.as_slice.ensures at c.in-len1-up.len_at_least in
    let_in around c.args.expr.now c.in-Let.definitions c.in-Let.values c.first-item.result (sym c.get.ensures ∙ c.in-Let.is) some (rw c.as_slice.ensures at c.first-item.is)
    ∙ (c.ending_of-in-len1-up.ensures (with_defined c.in-Let.definitions around) ∙ rw c.as_slice-in-len1-up.ensures at (c.behind.ensures around))

pub returns-in-Construct : goal.returns-in-Construct
returns-in-Construct t c around = construct around c.args.expr.now c.in-Construct.index c.in-Construct.low c.in-Construct.high c.in-Construct.elem (sym c.get.ensures ∙ c.in-Construct.is)

pub returns-in-For : goal.returns-in-For
returns-in-For t c around =
    loop around c.args.expr.now c.in-For.definitions c.in-For.test c.in-For.assigns c.in-For.last (sym c.get.ensures ∙ c.in-For.is)
    ∙ (c.ending_of-in-For.ensures (with_defined c.in-For.definitions around) ∙ rw c.as_slice-in-For.ensures at (c.behind-in-For.ensures around))

pub returns-in-Array : goal.returns-in-Array
returns-in-Array t c around = array around c.args.expr.now c.in-Array.at c.in-Array.value (sym c.get.ensures ∙ c.in-Array.is)

pub returns-in-Update : goal.returns-in-Update
returns-in-Update t c around = updated around c.args.expr.now c.in-Update.name c.in-Update.at c.in-Update.value (sym c.get.ensures ∙ c.in-Update.is)

pub returns-in_default : goal.returns-in_default
returns-in_default t c around =
    scalar around c.args.expr.now
    (λ name is. c.in_default.not-Name name (c.get.ensures ∙ is))
    (λ name arguments is. c.in_default.not-Call name arguments (c.get.ensures ∙ is))
    (λ of is. c.in_default.not-Parens of (c.get.ensures ∙ is))
    (λ arms last is. c.in_default.not-If arms last (c.get.ensures ∙ is))
    (λ ds values is. c.in_default.not-Let ds values (c.get.ensures ∙ is))
    (λ index low high elem is. c.in_default.not-Construct index low high elem (c.get.ensures ∙ is))
    (λ ds test assigns last is. c.in_default.not-For ds test assigns last (c.get.ensures ∙ is))
    (λ at value is. c.in_default.not-Array at value (c.get.ensures ∙ is))
    (λ name at value is. c.in_default.not-Update name at value (c.get.ensures ∙ is))
