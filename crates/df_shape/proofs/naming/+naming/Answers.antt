use Rattle.std.proofs.Common.{refl, sym, ◌∙◌}
use Rattle.df_shape.proofs.NamesInside.{number, truth, fault, named, access, called, chain, compared, negate, invert, parens, tested, two_place, chosen, let_in, construct, folded, loop, array, updated}
use Rattle.df_shape.proofs.naming.+naming.Goals as goal

pub names_it-returns-in-Number : goal.names_it-returns-in-Number
names_it-returns-in-Number t c =
    rw (number c.args.name.now c.args.expr.now c.in-Number.value (sym c.get.ensures ∙ c.in-Number.is)) refl

pub names_it-returns-in-Truth : goal.names_it-returns-in-Truth
names_it-returns-in-Truth t c =
    rw (truth c.args.name.now c.args.expr.now c.in-Truth.value (sym c.get.ensures ∙ c.in-Truth.is)) refl

pub names_it-returns-in-Error : goal.names_it-returns-in-Error
names_it-returns-in-Error t c =
    rw (fault c.args.name.now c.args.expr.now c.in-Error.value c.in-Error.basic (sym c.get.ensures ∙ c.in-Error.is)) refl

pub names_it-returns-in-Name : goal.names_it-returns-in-Name
names_it-returns-in-Name t c =
    rw (named c.args.name.now c.args.expr.now c.in-Name.other (sym c.get.ensures ∙ c.in-Name.is)) c.eq.ensures

pub names_it-returns-in-Access : goal.names_it-returns-in-Access
names_it-returns-in-Access t c =
    rw (access c.args.name.now c.args.expr.now c.in-Access.name c.in-Access.at (sym c.get.ensures ∙ c.in-Access.is)) c.names_it.ensures

pub names_it-returns-in-Call : goal.names_it-returns-in-Call
names_it-returns-in-Call t c =
    rw (called c.args.name.now c.args.expr.now c.in-Call.name c.in-Call.arguments (sym c.get.ensures ∙ c.in-Call.is)) (rw c.as_slice.ensures at c.in_values.ensures)

pub names_it-returns-in-Negate : goal.names_it-returns-in-Negate
names_it-returns-in-Negate t c =
    rw (negate c.args.name.now c.args.expr.now c.in-Negate.of (sym c.get.ensures ∙ c.in-Negate.is)) c.names_it-in-Negate.ensures

pub names_it-returns-in-Invert : goal.names_it-returns-in-Invert
names_it-returns-in-Invert t c =
    rw (invert c.args.name.now c.args.expr.now c.in-Invert.of (sym c.get.ensures ∙ c.in-Invert.is)) c.names_it-in-Invert.ensures

pub names_it-returns-in-Parens : goal.names_it-returns-in-Parens
names_it-returns-in-Parens t c =
    rw (parens c.args.name.now c.args.expr.now c.in-Parens.of (sym c.get.ensures ∙ c.in-Parens.is)) c.names_it-in-Parens.ensures

pub names_it-returns-in-Test : goal.names_it-returns-in-Test
names_it-returns-in-Test t c =
    rw (tested c.args.name.now c.args.expr.now c.in-Test.test c.in-Test.of (sym c.get.ensures ∙ c.in-Test.is)) c.names_it-in-Test.ensures

pub names_it-returns-then-names_it : goal.names_it-returns-then-names_it
names_it-returns-then-names_it t c =
    rw (chain c.args.name.now c.args.expr.now c.in-Chain.first c.in-Chain.rest (sym c.get.ensures ∙ c.in-Chain.is), ← c.names_it-in-Chain.ensures, c.if-names_it.true) refl

pub names_it-returns-else-names_it : goal.names_it-returns-else-names_it
names_it-returns-else-names_it t c =
    rw (chain c.args.name.now c.args.expr.now c.in-Chain.first c.in-Chain.rest (sym c.get.ensures ∙ c.in-Chain.is), ← c.names_it-in-Chain.ensures, c.if-names_it.false) (rw c.as_slice-else-names_it.ensures at c.in_links.ensures)

pub names_it-returns-then-names_it-2 : goal.names_it-returns-then-names_it-2
names_it-returns-then-names_it-2 t c =
    rw (compared c.args.name.now c.args.expr.now c.in-Compare.rel c.in-Compare.left c.in-Compare.right (sym c.get.ensures ∙ c.in-Compare.is), ← c.names_it-in-Compare.ensures, c.if-names_it-2.true) refl

pub names_it-returns-else-names_it-2 : goal.names_it-returns-else-names_it-2
names_it-returns-else-names_it-2 t c =
    rw (compared c.args.name.now c.args.expr.now c.in-Compare.rel c.in-Compare.left c.in-Compare.right (sym c.get.ensures ∙ c.in-Compare.is), ← c.names_it-in-Compare.ensures, c.if-names_it-2.false) c.names_it-else-names_it-2.ensures

pub names_it-returns-then-names_it-3 : goal.names_it-returns-then-names_it-3
names_it-returns-then-names_it-3 t c =
    rw (two_place c.args.name.now c.args.expr.now c.in-TwoPlace.op c.in-TwoPlace.left c.in-TwoPlace.right (sym c.get.ensures ∙ c.in-TwoPlace.is), ← c.names_it-in-TwoPlace.ensures, c.if-names_it-3.true) refl

pub names_it-returns-else-names_it-3 : goal.names_it-returns-else-names_it-3
names_it-returns-else-names_it-3 t c =
    rw (two_place c.args.name.now c.args.expr.now c.in-TwoPlace.op c.in-TwoPlace.left c.in-TwoPlace.right (sym c.get.ensures ∙ c.in-TwoPlace.is), ← c.names_it-in-TwoPlace.ensures, c.if-names_it-3.false) c.names_it-else-names_it-3.ensures

pub names_it-returns-then-in_arms : goal.names_it-returns-then-in_arms
names_it-returns-then-in_arms t c =
    rw (chosen c.args.name.now c.args.expr.now c.in-If.arms c.in-If.last (sym c.get.ensures ∙ c.in-If.is), ← (rw c.as_slice-in-If.ensures at c.in_arms.ensures), c.if-in_arms.true) refl

pub names_it-returns-else-in_arms : goal.names_it-returns-else-in_arms
names_it-returns-else-in_arms t c =
    rw (chosen c.args.name.now c.args.expr.now c.in-If.arms c.in-If.last (sym c.get.ensures ∙ c.in-If.is), ← (rw c.as_slice-in-If.ensures at c.in_arms.ensures), c.if-in_arms.false) c.names_it-else-in_arms.ensures

pub names_it-returns-then-in_definitions : goal.names_it-returns-then-in_definitions
names_it-returns-then-in_definitions t c =
    rw (let_in c.args.name.now c.args.expr.now c.in-Let.definitions c.in-Let.values (sym c.get.ensures ∙ c.in-Let.is), ← (rw c.as_slice-in-Let.ensures at c.in_definitions.ensures), c.if-in_definitions.true) refl

pub names_it-returns-else-in_definitions : goal.names_it-returns-else-in_definitions
names_it-returns-else-in_definitions t c =
    rw (let_in c.args.name.now c.args.expr.now c.in-Let.definitions c.in-Let.values (sym c.get.ensures ∙ c.in-Let.is), ← (rw c.as_slice-in-Let.ensures at c.in_definitions.ensures), c.if-in_definitions.false) (rw c.as_slice-else-in_definitions.ensures at c.in_values-else-in_definitions.ensures)

pub names_it-returns-then-names_it-4 : goal.names_it-returns-then-names_it-4
names_it-returns-then-names_it-4 t c =
    rw (construct c.args.name.now c.args.expr.now c.in-Construct.index c.in-Construct.low c.in-Construct.high c.in-Construct.elem (sym c.get.ensures ∙ c.in-Construct.is), ← c.names_it-in-Construct.ensures, c.if-names_it-4.true) refl

pub names_it-returns-then-names_it-5 : goal.names_it-returns-then-names_it-5
names_it-returns-then-names_it-5 t c =
    rw (construct c.args.name.now c.args.expr.now c.in-Construct.index c.in-Construct.low c.in-Construct.high c.in-Construct.elem (sym c.get.ensures ∙ c.in-Construct.is), ← c.names_it-in-Construct.ensures, c.if-names_it-4.false, ← c.names_it-in-Construct-2.ensures, c.if-names_it-5.true) refl

pub names_it-returns-else-names_it-5 : goal.names_it-returns-else-names_it-5
names_it-returns-else-names_it-5 t c =
    rw (construct c.args.name.now c.args.expr.now c.in-Construct.index c.in-Construct.low c.in-Construct.high c.in-Construct.elem (sym c.get.ensures ∙ c.in-Construct.is), ← c.names_it-in-Construct.ensures, c.if-names_it-4.false, ← c.names_it-in-Construct-2.ensures, c.if-names_it-5.false) c.names_it-else-names_it-5.ensures

pub names_it-returns-then-names_it-6 : goal.names_it-returns-then-names_it-6
names_it-returns-then-names_it-6 t c =
    rw (folded c.args.name.now c.args.expr.now c.in-Fold.index c.in-Fold.low c.in-Fold.high c.in-Fold.op c.in-Fold.elem (sym c.get.ensures ∙ c.in-Fold.is), ← c.names_it-in-Fold.ensures, c.if-names_it-6.true) refl

pub names_it-returns-then-names_it-7 : goal.names_it-returns-then-names_it-7
names_it-returns-then-names_it-7 t c =
    rw (folded c.args.name.now c.args.expr.now c.in-Fold.index c.in-Fold.low c.in-Fold.high c.in-Fold.op c.in-Fold.elem (sym c.get.ensures ∙ c.in-Fold.is), ← c.names_it-in-Fold.ensures, c.if-names_it-6.false, ← c.names_it-in-Fold-2.ensures, c.if-names_it-7.true) refl

pub names_it-returns-else-names_it-7 : goal.names_it-returns-else-names_it-7
names_it-returns-else-names_it-7 t c =
    rw (folded c.args.name.now c.args.expr.now c.in-Fold.index c.in-Fold.low c.in-Fold.high c.in-Fold.op c.in-Fold.elem (sym c.get.ensures ∙ c.in-Fold.is), ← c.names_it-in-Fold.ensures, c.if-names_it-6.false, ← c.names_it-in-Fold-2.ensures, c.if-names_it-7.false) c.names_it-else-names_it-7.ensures

pub names_it-returns-then-in_definitions-2 : goal.names_it-returns-then-in_definitions-2
names_it-returns-then-in_definitions-2 t c =
    rw (loop c.args.name.now c.args.expr.now c.in-For.definitions c.in-For.test c.in-For.assigns c.in-For.last (sym c.get.ensures ∙ c.in-For.is), ← (rw c.as_slice-in-For.ensures at c.in_definitions-in-For.ensures), c.if-in_definitions-2.true) refl

pub names_it-returns-then-names_it-8 : goal.names_it-returns-then-names_it-8
names_it-returns-then-names_it-8 t c =
    rw (loop c.args.name.now c.args.expr.now c.in-For.definitions c.in-For.test c.in-For.assigns c.in-For.last (sym c.get.ensures ∙ c.in-For.is), ← (rw c.as_slice-in-For.ensures at c.in_definitions-in-For.ensures), c.if-in_definitions-2.false, ← c.names_it-in-For.ensures, c.if-names_it-8.true) refl

pub names_it-returns-then-in_assigns : goal.names_it-returns-then-in_assigns
names_it-returns-then-in_assigns t c =
    rw (loop c.args.name.now c.args.expr.now c.in-For.definitions c.in-For.test c.in-For.assigns c.in-For.last (sym c.get.ensures ∙ c.in-For.is), ← (rw c.as_slice-in-For.ensures at c.in_definitions-in-For.ensures), c.if-in_definitions-2.false, ← c.names_it-in-For.ensures, c.if-names_it-8.false, ← (rw c.as_slice-in-For-2.ensures at c.in_assigns.ensures), c.if-in_assigns.true) refl

pub names_it-returns-else-in_assigns : goal.names_it-returns-else-in_assigns
names_it-returns-else-in_assigns t c =
    rw (loop c.args.name.now c.args.expr.now c.in-For.definitions c.in-For.test c.in-For.assigns c.in-For.last (sym c.get.ensures ∙ c.in-For.is), ← (rw c.as_slice-in-For.ensures at c.in_definitions-in-For.ensures), c.if-in_definitions-2.false, ← c.names_it-in-For.ensures, c.if-names_it-8.false, ← (rw c.as_slice-in-For-2.ensures at c.in_assigns.ensures), c.if-in_assigns.false) c.names_it-else-in_assigns.ensures

pub names_it-returns-then-names_it-9 : goal.names_it-returns-then-names_it-9
names_it-returns-then-names_it-9 t c =
    rw (array c.args.name.now c.args.expr.now c.in-Array.at c.in-Array.value (sym c.get.ensures ∙ c.in-Array.is), ← c.names_it-in-Array.ensures, c.if-names_it-9.true) refl

pub names_it-returns-else-names_it-9 : goal.names_it-returns-else-names_it-9
names_it-returns-else-names_it-9 t c =
    rw (array c.args.name.now c.args.expr.now c.in-Array.at c.in-Array.value (sym c.get.ensures ∙ c.in-Array.is), ← c.names_it-in-Array.ensures, c.if-names_it-9.false) c.names_it-else-names_it-9.ensures

pub names_it-returns-then-names_it-10 : goal.names_it-returns-then-names_it-10
names_it-returns-then-names_it-10 t c =
    rw (updated c.args.name.now c.args.expr.now c.in-Update.name c.in-Update.at c.in-Update.value (sym c.get.ensures ∙ c.in-Update.is), ← c.names_it-in-Update.ensures, c.if-names_it-10.true) refl

pub names_it-returns-else-names_it-10 : goal.names_it-returns-else-names_it-10
names_it-returns-else-names_it-10 t c =
    rw (updated c.args.name.now c.args.expr.now c.in-Update.name c.in-Update.at c.in-Update.value (sym c.get.ensures ∙ c.in-Update.is), ← c.names_it-in-Update.ensures, c.if-names_it-10.false) c.names_it-else-names_it-10.ensures
