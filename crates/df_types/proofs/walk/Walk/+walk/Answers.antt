use Rattle.std.proofs.Common.{◌≡◌, refl, sym, ◌∙◌, ap, map, List, [], ◌∷◌, ◌++◌, drop, take, ◌-◌, length, None, arith, ◌<◌, true}
use Rattle.df_syntax.specs.declared.tree.Link.{Link as OneLink}
use Rattle.df_syntax.specs.declared.tree.Arm.{Arm as OneArm}
use Rattle.df_syntax.specs.declared.tree.Parameter.{Parameter as OneParameter}
use Rattle.df_syntax.specs.declared.tree.Assign.{Assign as OneAssign}
use Rattle.df_syntax.specs.declared.tree.Named.{Named}
use Rattle.df_values.specs.declared.kinds.Op.{Op}
use Rattle.df_types.specs.declared.entry.Entry.TheVariants as entry
use Rattle.df_syntax.specs.Demands.{first_refusal}
use Rattle.df_types.specs.Demands.{Demand}
use Rattle.df_names.specs.Found.{names_of}
use Rattle.df_names.specs.Maps.{nothing, bind, unbind}
use Rattle.df_types.specs.Scopes.{Names, bound, unbound}
use Rattle.df_types.specs.Sorts.{integer, boolean, is_same, is_basic, chain_sort, element_of, array_of, operator_sort, is_equality, value_sort}
use Rattle.df_types.specs.Types.{Look, look_of, other_of, asked, asked_operand, operand_sort, asked_each, asked_links, asked_arms, definition_demands, assign_demands, locals, typed, given, fresh, known, known_array, inside, range_demands}
use Rattle.df_types.proofs.Looks.{place_is, number, truth, fault, named, access, called, chain, compared, negate, invert, parens, tested, two_place, chosen, let_in, construct, folded, loop, array, updated, is_block, is_forall, is_other, is_neither, Nowhere}
use Rattle.df_syntax.proofs.FirstRefusals.{both, each_step}
use Rattle.df_types.proofs.Steps.{left, right, handed_on, refused_2, holds_2, answers_2, each_stop, moved, moved_refused, refused_as}
use Rattle.df_types.proofs.Parts.{compared_same, compared_not, compared_basic, compared_array, asked_itself, alone, no_member, only_member, first_member, each_asked, each_refused, definition_step, definition_stop, local_step, let_of_other, let_stops}
use Rattle.df_types.proofs.Restored.{new_is_nothing, unbind_bind, defined_typed, restored}
use Rattle.df_types.proofs.walk.Walk.+walk.Goals as goal

pub ask-returns-in_err-found : goal.ask-returns-in_err-found
ask-returns-in_err-found t c =
    handed_on _ _ _ _ _ _ c.from_residual.ensures.1 (left ((look_of c.args.self.now.functions.now c.args.expr.now).demands (names_of c.args.scope.now)) _ _ c.in_err-found.ensures)

pub ask-returns-then-not-is_same : goal.ask-returns-then-not-is_same
ask-returns-then-not-is_same t c =
    compared_not (look_of c.args.self.now.functions.now c.args.expr.now) c.args.expr.now.place (names_of c.args.scope.now) c.args.sort c.in_ok-found.ensures.holds (place_is c.args.self.now.functions.now c.args.expr.now) (ap (λ s. is_same s c.args.sort) (sym c.in_ok-found.ensures.value_is) ∙ sym (c.if-not-is_same.ensures))

pub ask-returns : goal.ask-returns
ask-returns t c =
    record { holds = compared_same (look_of c.args.self.now.functions.now c.args.expr.now) (names_of c.args.scope.now) c.args.sort c.in_ok-found.ensures.holds (ap (λ s. is_same s c.args.sort) (sym c.in_ok-found.ensures.value_is) ∙ sym (c.if-not-is_same.ensures)); value_is = refl; names_are = c.in_ok-found.ensures.names_are }

pub look-returns-in-Number : goal.look-returns-in-Number
look-returns-in-Number t c =
    rw (number c.args.self.now.functions.now c.args.expr.now c.in-Number.value (sym c.get.ensures ∙ c.in-Number.is)) (record { holds = refl; value_is = refl; names_are = refl })

pub look-returns-in-Truth : goal.look-returns-in-Truth
look-returns-in-Truth t c =
    rw (truth c.args.self.now.functions.now c.args.expr.now c.in-Truth.value (sym c.get.ensures ∙ c.in-Truth.is)) (record { holds = refl; value_is = refl; names_are = refl })

pub look-returns-in-Error : goal.look-returns-in-Error
look-returns-in-Error t c =
    rw (fault c.args.self.now.functions.now c.args.expr.now c.in-Error.value c.in-Error.basic (sym c.get.ensures ∙ c.in-Error.is)) (record { holds = refl; value_is = refl; names_are = refl })

pub look-returns-in-Name : goal.look-returns-in-Name
look-returns-in-Name t c =
    rw (named c.args.self.now.functions.now c.args.expr.now c.in-Name.name (sym c.get.ensures ∙ c.in-Name.is)) c.value_named.ensures

pub look-returns-in-Call : goal.look-returns-in-Call
look-returns-in-Call t c =
    rw (called c.args.self.now.functions.now c.args.expr.now c.in-Call.name c.in-Call.arguments (sym c.get.ensures ∙ c.in-Call.is)) (rw c.as_slice.ensures at c.call.ensures)

pub look-returns-in-Negate : goal.look-returns-in-Negate
look-returns-in-Negate t c =
    rw (negate c.args.self.now.functions.now c.args.expr.now c.in-Negate.of (sym c.get.ensures ∙ c.in-Negate.is)) c.ask-in-Negate.ensures

pub look-returns-in-Invert : goal.look-returns-in-Invert
look-returns-in-Invert t c =
    rw (invert c.args.self.now.functions.now c.args.expr.now c.in-Invert.of (sym c.get.ensures ∙ c.in-Invert.is)) c.ask-in-Invert.ensures

pub look-returns-in-Parens : goal.look-returns-in-Parens
look-returns-in-Parens t c =
    rw (parens c.args.self.now.functions.now c.args.expr.now c.in-Parens.of (sym c.get.ensures ∙ c.in-Parens.is)) c.look.ensures

pub look-returns-in_err-sort-in-Access : goal.look-returns-in_err-sort-in-Access
look-returns-in_err-sort-in-Access t c =
    rw (access c.args.self.now.functions.now c.args.expr.now c.in-Access.name c.in-Access.at (sym c.get.ensures ∙ c.in-Access.is)) (handed_on _ _ _ _ _ _ c.from_residual.ensures.1 (left (known_array c.in-Access.name c.args.expr.now.place (names_of c.args.scope.now)) (asked (look_of c.args.self.now.functions.now c.in-Access.at) integer (names_of c.args.scope.now)) _ c.in_err-sort-in-Access.ensures))

pub look-returns-in_err-ask-in-Access : goal.look-returns-in_err-ask-in-Access
look-returns-in_err-ask-in-Access t c =
    rw (access c.args.self.now.functions.now c.args.expr.now c.in-Access.name c.in-Access.at (sym c.get.ensures ∙ c.in-Access.is)) (handed_on _ _ _ _ _ _ c.from_residual-in_err-ask-in-Access.ensures.1 (right (known_array c.in-Access.name c.args.expr.now.place (names_of c.args.scope.now)) (asked (look_of c.args.self.now.functions.now c.in-Access.at) integer (names_of c.args.scope.now)) _ c.in_ok-sort-in-Access.ensures.holds c.in_err-ask-in-Access.ensures))

pub look-returns-in_ok-ask-in-Access : goal.look-returns-in_ok-ask-in-Access
look-returns-in_ok-ask-in-Access t c =
    rw (access c.args.self.now.functions.now c.args.expr.now c.in-Access.name c.in-Access.at (sym c.get.ensures ∙ c.in-Access.is)) (record {
      holds = both (known_array c.in-Access.name c.args.expr.now.place (names_of c.args.scope.now)) (asked (look_of c.args.self.now.functions.now c.in-Access.at) integer (names_of c.args.scope.now)) c.in_ok-sort-in-Access.ensures.holds c.in_ok-ask-in-Access.ensures.holds;
      value_is = c.element_of.ensures ∙ ap element_of c.in_ok-sort-in-Access.ensures.value_is;
      names_are = c.in_ok-ask-in-Access.ensures.names_are;
    })

pub look-returns-in_err-sort-in-Chain : goal.look-returns-in_err-sort-in-Chain
look-returns-in_err-sort-in-Chain t c =
    let sort : c.chain.result ≡ (chain_sort (map (λ (l : OneLink). (l.op, look_of c.args.self.now.functions.now l.operand)) c.in-Chain.rest)) = rw c.as_slice-in-Chain.ensures at c.chain.ensures in
    rw (chain c.args.self.now.functions.now c.args.expr.now c.in-Chain.first c.in-Chain.rest (sym c.get.ensures ∙ c.in-Chain.is)) (handed_on _ _ _ _ _ _ c.from_residual-in_err-sort-in-Chain.ensures.1 (left (asked (look_of c.args.self.now.functions.now c.in-Chain.first) (chain_sort (map (λ (l : OneLink). (l.op, look_of c.args.self.now.functions.now l.operand)) c.in-Chain.rest)) (names_of c.args.scope.now)) (asked_links (chain_sort (map (λ (l : OneLink). (l.op, look_of c.args.self.now.functions.now l.operand)) c.in-Chain.rest)) (map (λ (l : OneLink). (l.op, look_of c.args.self.now.functions.now l.operand)) c.in-Chain.rest) (names_of c.args.scope.now)) _ (rw sort at c.in_err-sort-in-Chain.ensures)))

pub look-returns-in_ok-sort-in-Chain : goal.look-returns-in_ok-sort-in-Chain
look-returns-in_ok-sort-in-Chain t c =
    let sort : c.chain.result ≡ (chain_sort (map (λ (l : OneLink). (l.op, look_of c.args.self.now.functions.now l.operand)) c.in-Chain.rest)) = rw c.as_slice-in-Chain.ensures at c.chain.ensures in
    rw (chain c.args.self.now.functions.now c.args.expr.now c.in-Chain.first c.in-Chain.rest (sym c.get.ensures ∙ c.in-Chain.is)) (answers_2 (λ _. (chain_sort (map (λ (l : OneLink). (l.op, look_of c.args.self.now.functions.now l.operand)) c.in-Chain.rest))) (asked (look_of c.args.self.now.functions.now c.in-Chain.first) (chain_sort (map (λ (l : OneLink). (l.op, look_of c.args.self.now.functions.now l.operand)) c.in-Chain.rest)) (names_of c.args.scope.now)) (asked_links (chain_sort (map (λ (l : OneLink). (l.op, look_of c.args.self.now.functions.now l.operand)) c.in-Chain.rest)) (map (λ (l : OneLink). (l.op, look_of c.args.self.now.functions.now l.operand)) c.in-Chain.rest)) (λ m. m) (names_of c.args.scope.now) c.ask-in-Chain.new.scope c.links.result c.links.new.scope
    (rw sort at c.in_ok-sort-in-Chain.ensures.holds) c.in_ok-sort-in-Chain.ensures.names_are (rw (c.in_ok-sort-in-Chain.ensures.value_is, sort, c.as_slice-in-Chain-2.ensures) at c.links.ensures))

pub look-returns-in_err-sort-in-Compare : goal.look-returns-in_err-sort-in-Compare
look-returns-in_err-sort-in-Compare t c =
    rw (compared c.args.self.now.functions.now c.args.expr.now c.in-Compare.rel c.in-Compare.left c.in-Compare.right (sym c.get.ensures ∙ c.in-Compare.is)) (handed_on _ _ _ _ _ _ c.from_residual-in_err-sort-in-Compare.ensures.1 (left (asked_operand (is_equality c.in-Compare.rel) (look_of c.args.self.now.functions.now c.in-Compare.left) (names_of c.args.scope.now)) ((asked (look_of c.args.self.now.functions.now c.in-Compare.right) (operand_sort (is_equality c.in-Compare.rel) (look_of c.args.self.now.functions.now c.in-Compare.left) (names_of c.args.scope.now))) (names_of c.args.scope.now)) _ (rw c.is_equality.ensures at c.in_err-sort-in-Compare.ensures)))

pub look-returns-in_err-ask-in-Compare : goal.look-returns-in_err-ask-in-Compare
look-returns-in_err-ask-in-Compare t c =
    rw (compared c.args.self.now.functions.now c.args.expr.now c.in-Compare.rel c.in-Compare.left c.in-Compare.right (sym c.get.ensures ∙ c.in-Compare.is)) (handed_on _ _ _ _ _ _ c.from_residual-in_err-ask-in-Compare.ensures.1 (refused_2 (asked_operand (is_equality c.in-Compare.rel) (look_of c.args.self.now.functions.now c.in-Compare.left) (names_of c.args.scope.now)) (asked (look_of c.args.self.now.functions.now c.in-Compare.right) (operand_sort (is_equality c.in-Compare.rel) (look_of c.args.self.now.functions.now c.in-Compare.left) (names_of c.args.scope.now))) (names_of c.args.scope.now) c.ask_operand.new.scope _ (rw c.is_equality.ensures at c.in_ok-sort-in-Compare.ensures.holds) c.in_ok-sort-in-Compare.ensures.names_are (rw (c.in_ok-sort-in-Compare.ensures.value_is, c.is_equality.ensures) at c.in_err-ask-in-Compare.ensures)))

pub look-returns-in_ok-ask-in-Compare : goal.look-returns-in_ok-ask-in-Compare
look-returns-in_ok-ask-in-Compare t c =
    rw (compared c.args.self.now.functions.now c.args.expr.now c.in-Compare.rel c.in-Compare.left c.in-Compare.right (sym c.get.ensures ∙ c.in-Compare.is)) (record {
      holds = holds_2 (asked_operand (is_equality c.in-Compare.rel) (look_of c.args.self.now.functions.now c.in-Compare.left) (names_of c.args.scope.now)) (asked (look_of c.args.self.now.functions.now c.in-Compare.right) (operand_sort (is_equality c.in-Compare.rel) (look_of c.args.self.now.functions.now c.in-Compare.left) (names_of c.args.scope.now))) (names_of c.args.scope.now) c.ask_operand.new.scope (rw c.is_equality.ensures at c.in_ok-sort-in-Compare.ensures.holds) c.in_ok-sort-in-Compare.ensures.names_are (rw (c.in_ok-sort-in-Compare.ensures.value_is, c.is_equality.ensures) at c.in_ok-ask-in-Compare.ensures.holds);
      value_is = refl;
      names_are = c.in_ok-ask-in-Compare.ensures.names_are ∙ c.in_ok-sort-in-Compare.ensures.names_are;
    })

pub look-returns-in_err-ask_operand-in-Test : goal.look-returns-in_err-ask_operand-in-Test
look-returns-in_err-ask_operand-in-Test t c =
    rw (tested c.args.self.now.functions.now c.args.expr.now c.in-Test.test c.in-Test.of (sym c.get.ensures ∙ c.in-Test.is)) (handed_on _ _ _ _ _ _ c.from_residual-in_err-ask_operand-in-Test.ensures.1 (rw c.is_of_any.ensures at c.in_err-ask_operand-in-Test.ensures))

pub look-returns-in_ok-ask_operand-in-Test : goal.look-returns-in_ok-ask_operand-in-Test
look-returns-in_ok-ask_operand-in-Test t c =
    rw (tested c.args.self.now.functions.now c.args.expr.now c.in-Test.test c.in-Test.of (sym c.get.ensures ∙ c.in-Test.is)) (record { holds = rw c.is_of_any.ensures at c.in_ok-ask_operand-in-Test.ensures.holds; value_is = refl; names_are = c.in_ok-ask_operand-in-Test.ensures.names_are })

pub look-returns-in_err-ask-in-TwoPlace : goal.look-returns-in_err-ask-in-TwoPlace
look-returns-in_err-ask-in-TwoPlace t c =
    rw (two_place c.args.self.now.functions.now c.args.expr.now c.in-TwoPlace.op c.in-TwoPlace.left c.in-TwoPlace.right (sym c.get.ensures ∙ c.in-TwoPlace.is)) (handed_on _ _ _ _ _ _ c.from_residual-in_err-ask-in-TwoPlace.ensures.1 (left (asked (look_of c.args.self.now.functions.now c.in-TwoPlace.left) integer (names_of c.args.scope.now)) ((asked (look_of c.args.self.now.functions.now c.in-TwoPlace.right) integer) (names_of c.args.scope.now)) _ c.in_err-ask-in-TwoPlace.ensures))

pub look-returns-in_ok-ask-in-TwoPlace : goal.look-returns-in_ok-ask-in-TwoPlace
look-returns-in_ok-ask-in-TwoPlace t c =
    rw (two_place c.args.self.now.functions.now c.args.expr.now c.in-TwoPlace.op c.in-TwoPlace.left c.in-TwoPlace.right (sym c.get.ensures ∙ c.in-TwoPlace.is)) (answers_2 (λ _. integer) (asked (look_of c.args.self.now.functions.now c.in-TwoPlace.left) integer (names_of c.args.scope.now)) (asked (look_of c.args.self.now.functions.now c.in-TwoPlace.right) integer) (λ m. m) (names_of c.args.scope.now) c.ask-in-TwoPlace.new.scope c.ask-in-TwoPlace-2.result c.ask-in-TwoPlace-2.new.scope
    c.in_ok-ask-in-TwoPlace.ensures.holds c.in_ok-ask-in-TwoPlace.ensures.names_are c.ask-in-TwoPlace-2.ensures)

pub look-returns-in_default : goal.look-returns-in_default
look-returns-in_default t c =
    rw (is_block c.args.self.now.functions.now c.args.expr.now
    (λ v is. c.in_default.not-Number v (c.get.ensures ∙ is))
    (λ v is. c.in_default.not-Truth v (c.get.ensures ∙ is))
    (λ v b is. c.in_default.not-Error v b (c.get.ensures ∙ is))
    (λ name is. c.in_default.not-Name name (c.get.ensures ∙ is))
    (λ name at is. c.in_default.not-Access name at (c.get.ensures ∙ is))
    (λ name arguments is. c.in_default.not-Call name arguments (c.get.ensures ∙ is))
    (λ first rest is. c.in_default.not-Chain first rest (c.get.ensures ∙ is))
    (λ rel left right is. c.in_default.not-Compare rel left right (c.get.ensures ∙ is))
    (λ of is. c.in_default.not-Negate of (c.get.ensures ∙ is))
    (λ of is. c.in_default.not-Invert of (c.get.ensures ∙ is))
    (λ of is. c.in_default.not-Parens of (c.get.ensures ∙ is))
    (λ test of is. c.in_default.not-Test test of (c.get.ensures ∙ is))
    (λ op left right is. c.in_default.not-TwoPlace op left right (c.get.ensures ∙ is))) c.block.ensures

pub ask_operand-returns-in_err-sort : goal.ask_operand-returns-in_err-sort
ask_operand-returns-in_err-sort t c =
    rw c.if-not-any.false (handed_on _ _ _ _ _ _ c.from_residual.ensures.1 (left ((look_of c.args.self.now.functions.now c.args.expr.now).demands (names_of c.args.scope.now)) _ _ c.in_err-sort.ensures))

pub ask_operand-returns-then-not-is_basic : goal.ask_operand-returns-then-not-is_basic
ask_operand-returns-then-not-is_basic t c =
    rw c.if-not-any.false (compared_array (look_of c.args.self.now.functions.now c.args.expr.now) c.args.expr.now.place (names_of c.args.scope.now) c.in_ok-sort.ensures.holds (place_is c.args.self.now.functions.now c.args.expr.now) (ap is_basic (sym c.in_ok-sort.ensures.value_is) ∙ sym (c.if-not-is_basic.ensures)))

pub ask_operand-returns : goal.ask_operand-returns
ask_operand-returns t c =
    rw c.if-not-any.false (record {
      holds = compared_basic (look_of c.args.self.now.functions.now c.args.expr.now) (names_of c.args.scope.now) c.in_ok-sort.ensures.holds (ap is_basic (sym c.in_ok-sort.ensures.value_is) ∙ sym (c.if-not-is_basic.ensures));
      value_is = c.in_ok-sort.ensures.value_is;
      names_are = c.in_ok-sort.ensures.names_are;
    })

pub block-returns-in_err-ask-in-len1-up : goal.block-returns-in_err-ask-in-len1-up
block-returns-in_err-ask-in-len1-up t c =
    let arms : c.in-If.arms ≡ c.first-item.result ∷ (take (length c.as_slice.result.now - 1) (drop 1 c.as_slice.result.now)) = sym c.as_slice.ensures ∙ (first_member c.as_slice.result.now c.first-item.result c.in-len1-up.len_at_least ∙ ap (λ a. a ∷ (take (length c.as_slice.result.now - 1) (drop 1 c.as_slice.result.now))) (sym c.first-item.is)) in
    rw (chosen c.args.self.now.functions.now c.args.expr.now c.in-If.arms c.in-If.last (sym c.get.ensures ∙ c.in-If.is), arms) (handed_on _ _ _ _ _ _ c.from_residual.ensures.1 (left (((asked (look_of c.args.self.now.functions.now c.first-item.result.test) boolean (names_of c.args.scope.now)) ++ (asked (look_of c.args.self.now.functions.now c.first-item.result.value) ((look_of c.args.self.now.functions.now c.first-item.result.value).sort (names_of c.args.scope.now)) (names_of c.args.scope.now))) ++ (asked_arms ((look_of c.args.self.now.functions.now c.first-item.result.value).sort (names_of c.args.scope.now)) (map (λ (a : OneArm). (look_of c.args.self.now.functions.now a.test, look_of c.args.self.now.functions.now a.value)) (take (length c.as_slice.result.now - 1) (drop 1 c.as_slice.result.now))) (names_of c.args.scope.now))) (asked (look_of c.args.self.now.functions.now c.in-If.last) ((look_of c.args.self.now.functions.now c.first-item.result.value).sort (names_of c.args.scope.now)) (names_of c.args.scope.now)) _ (left ((asked (look_of c.args.self.now.functions.now c.first-item.result.test) boolean (names_of c.args.scope.now)) ++ (asked (look_of c.args.self.now.functions.now c.first-item.result.value) ((look_of c.args.self.now.functions.now c.first-item.result.value).sort (names_of c.args.scope.now)) (names_of c.args.scope.now))) (asked_arms ((look_of c.args.self.now.functions.now c.first-item.result.value).sort (names_of c.args.scope.now)) (map (λ (a : OneArm). (look_of c.args.self.now.functions.now a.test, look_of c.args.self.now.functions.now a.value)) (take (length c.as_slice.result.now - 1) (drop 1 c.as_slice.result.now))) (names_of c.args.scope.now)) _ (left (asked (look_of c.args.self.now.functions.now c.first-item.result.test) boolean (names_of c.args.scope.now)) (asked (look_of c.args.self.now.functions.now c.first-item.result.value) ((look_of c.args.self.now.functions.now c.first-item.result.value).sort (names_of c.args.scope.now)) (names_of c.args.scope.now)) _ c.in_err-ask-in-len1-up.ensures))))

pub block-returns-in_err-sort-in-len1-up : goal.block-returns-in_err-sort-in-len1-up
block-returns-in_err-sort-in-len1-up t c =
    let arms : c.in-If.arms ≡ c.first-item.result ∷ (take (length c.as_slice.result.now - 1) (drop 1 c.as_slice.result.now)) = sym c.as_slice.ensures ∙ (first_member c.as_slice.result.now c.first-item.result c.in-len1-up.len_at_least ∙ ap (λ a. a ∷ (take (length c.as_slice.result.now - 1) (drop 1 c.as_slice.result.now))) (sym c.first-item.is)) in
    rw (chosen c.args.self.now.functions.now c.args.expr.now c.in-If.arms c.in-If.last (sym c.get.ensures ∙ c.in-If.is), arms) (handed_on _ _ _ _ _ _ c.from_residual-in_err-sort-in-len1-up.ensures.1 (left (((asked (look_of c.args.self.now.functions.now c.first-item.result.test) boolean (names_of c.args.scope.now)) ++ (asked (look_of c.args.self.now.functions.now c.first-item.result.value) ((look_of c.args.self.now.functions.now c.first-item.result.value).sort (names_of c.args.scope.now)) (names_of c.args.scope.now))) ++ (asked_arms ((look_of c.args.self.now.functions.now c.first-item.result.value).sort (names_of c.args.scope.now)) (map (λ (a : OneArm). (look_of c.args.self.now.functions.now a.test, look_of c.args.self.now.functions.now a.value)) (take (length c.as_slice.result.now - 1) (drop 1 c.as_slice.result.now))) (names_of c.args.scope.now))) (asked (look_of c.args.self.now.functions.now c.in-If.last) ((look_of c.args.self.now.functions.now c.first-item.result.value).sort (names_of c.args.scope.now)) (names_of c.args.scope.now)) _ (left ((asked (look_of c.args.self.now.functions.now c.first-item.result.test) boolean (names_of c.args.scope.now)) ++ (asked (look_of c.args.self.now.functions.now c.first-item.result.value) ((look_of c.args.self.now.functions.now c.first-item.result.value).sort (names_of c.args.scope.now)) (names_of c.args.scope.now))) (asked_arms ((look_of c.args.self.now.functions.now c.first-item.result.value).sort (names_of c.args.scope.now)) (map (λ (a : OneArm). (look_of c.args.self.now.functions.now a.test, look_of c.args.self.now.functions.now a.value)) (take (length c.as_slice.result.now - 1) (drop 1 c.as_slice.result.now))) (names_of c.args.scope.now)) _
    (refused_2 (asked (look_of c.args.self.now.functions.now c.first-item.result.test) boolean (names_of c.args.scope.now)) (asked (look_of c.args.self.now.functions.now c.first-item.result.value) ((look_of c.args.self.now.functions.now c.first-item.result.value).sort (names_of c.args.scope.now))) (names_of c.args.scope.now) c.ask.new.scope _ c.in_ok-ask-in-len1-up.ensures.holds c.in_ok-ask-in-len1-up.ensures.names_are (left ((look_of c.args.self.now.functions.now c.first-item.result.value).demands (names_of c.ask.new.scope)) _ _ c.in_err-sort-in-len1-up.ensures)))))

pub block-returns-in_err-arms-in-len1-up : goal.block-returns-in_err-arms-in-len1-up
block-returns-in_err-arms-in-len1-up t c =
    let arms : c.in-If.arms ≡ c.first-item.result ∷ (take (length c.as_slice.result.now - 1) (drop 1 c.as_slice.result.now)) = sym c.as_slice.ensures ∙ (first_member c.as_slice.result.now c.first-item.result c.in-len1-up.len_at_least ∙ ap (λ a. a ∷ (take (length c.as_slice.result.now - 1) (drop 1 c.as_slice.result.now))) (sym c.first-item.is)) in
    let sort : c.in_ok-sort-in-len1-up.sort ≡ ((look_of c.args.self.now.functions.now c.first-item.result.value).sort (names_of c.args.scope.now)) = c.in_ok-sort-in-len1-up.ensures.value_is ∙ ap (look_of c.args.self.now.functions.now c.first-item.result.value).sort c.in_ok-ask-in-len1-up.ensures.names_are in
    let front : first_refusal ((asked (look_of c.args.self.now.functions.now c.first-item.result.test) boolean (names_of c.args.scope.now)) ++ (asked (look_of c.args.self.now.functions.now c.first-item.result.value) ((look_of c.args.self.now.functions.now c.first-item.result.value).sort (names_of c.args.scope.now)) (names_of c.args.scope.now))) ≡ None = both (asked (look_of c.args.self.now.functions.now c.first-item.result.test) boolean (names_of c.args.scope.now)) (asked (look_of c.args.self.now.functions.now c.first-item.result.value) ((look_of c.args.self.now.functions.now c.first-item.result.value).sort (names_of c.args.scope.now)) (names_of c.args.scope.now)) c.in_ok-ask-in-len1-up.ensures.holds (asked_itself (look_of c.args.self.now.functions.now c.first-item.result.value) (names_of c.args.scope.now) (moved (look_of c.args.self.now.functions.now c.first-item.result.value).demands (names_of c.ask.new.scope) (names_of c.args.scope.now) c.in_ok-ask-in-len1-up.ensures.names_are c.in_ok-sort-in-len1-up.ensures.holds)) in
    let same : names_of c.look-in-len1-up.new.scope ≡ (names_of c.args.scope.now) = c.in_ok-sort-in-len1-up.ensures.names_are ∙ c.in_ok-ask-in-len1-up.ensures.names_are in
    rw (chosen c.args.self.now.functions.now c.args.expr.now c.in-If.arms c.in-If.last (sym c.get.ensures ∙ c.in-If.is), arms) (handed_on _ _ _ _ _ _ c.from_residual-in_err-arms-in-len1-up.ensures.1 (left (((asked (look_of c.args.self.now.functions.now c.first-item.result.test) boolean (names_of c.args.scope.now)) ++ (asked (look_of c.args.self.now.functions.now c.first-item.result.value) ((look_of c.args.self.now.functions.now c.first-item.result.value).sort (names_of c.args.scope.now)) (names_of c.args.scope.now))) ++ (asked_arms ((look_of c.args.self.now.functions.now c.first-item.result.value).sort (names_of c.args.scope.now)) (map (λ (a : OneArm). (look_of c.args.self.now.functions.now a.test, look_of c.args.self.now.functions.now a.value)) (take (length c.as_slice.result.now - 1) (drop 1 c.as_slice.result.now))) (names_of c.args.scope.now))) (asked (look_of c.args.self.now.functions.now c.in-If.last) ((look_of c.args.self.now.functions.now c.first-item.result.value).sort (names_of c.args.scope.now)) (names_of c.args.scope.now)) _
    (refused_2 ((asked (look_of c.args.self.now.functions.now c.first-item.result.test) boolean (names_of c.args.scope.now)) ++ (asked (look_of c.args.self.now.functions.now c.first-item.result.value) ((look_of c.args.self.now.functions.now c.first-item.result.value).sort (names_of c.args.scope.now)) (names_of c.args.scope.now))) (asked_arms ((look_of c.args.self.now.functions.now c.first-item.result.value).sort (names_of c.args.scope.now)) (map (λ (a : OneArm). (look_of c.args.self.now.functions.now a.test, look_of c.args.self.now.functions.now a.value)) (take (length c.as_slice.result.now - 1) (drop 1 c.as_slice.result.now)))) (names_of c.args.scope.now) c.look-in-len1-up.new.scope _ front same (rw sort at c.in_err-arms-in-len1-up.ensures))))

pub block-returns-in_ok-arms-in-len1-up : goal.block-returns-in_ok-arms-in-len1-up
block-returns-in_ok-arms-in-len1-up t c =
    let arms : c.in-If.arms ≡ c.first-item.result ∷ (take (length c.as_slice.result.now - 1) (drop 1 c.as_slice.result.now)) = sym c.as_slice.ensures ∙ (first_member c.as_slice.result.now c.first-item.result c.in-len1-up.len_at_least ∙ ap (λ a. a ∷ (take (length c.as_slice.result.now - 1) (drop 1 c.as_slice.result.now))) (sym c.first-item.is)) in
    let sort : c.in_ok-sort-in-len1-up.sort ≡ ((look_of c.args.self.now.functions.now c.first-item.result.value).sort (names_of c.args.scope.now)) = c.in_ok-sort-in-len1-up.ensures.value_is ∙ ap (look_of c.args.self.now.functions.now c.first-item.result.value).sort c.in_ok-ask-in-len1-up.ensures.names_are in
    let front : first_refusal ((asked (look_of c.args.self.now.functions.now c.first-item.result.test) boolean (names_of c.args.scope.now)) ++ (asked (look_of c.args.self.now.functions.now c.first-item.result.value) ((look_of c.args.self.now.functions.now c.first-item.result.value).sort (names_of c.args.scope.now)) (names_of c.args.scope.now))) ≡ None = both (asked (look_of c.args.self.now.functions.now c.first-item.result.test) boolean (names_of c.args.scope.now)) (asked (look_of c.args.self.now.functions.now c.first-item.result.value) ((look_of c.args.self.now.functions.now c.first-item.result.value).sort (names_of c.args.scope.now)) (names_of c.args.scope.now)) c.in_ok-ask-in-len1-up.ensures.holds (asked_itself (look_of c.args.self.now.functions.now c.first-item.result.value) (names_of c.args.scope.now) (moved (look_of c.args.self.now.functions.now c.first-item.result.value).demands (names_of c.ask.new.scope) (names_of c.args.scope.now) c.in_ok-ask-in-len1-up.ensures.names_are c.in_ok-sort-in-len1-up.ensures.holds)) in
    let same : names_of c.look-in-len1-up.new.scope ≡ (names_of c.args.scope.now) = c.in_ok-sort-in-len1-up.ensures.names_are ∙ c.in_ok-ask-in-len1-up.ensures.names_are in
    rw (chosen c.args.self.now.functions.now c.args.expr.now c.in-If.arms c.in-If.last (sym c.get.ensures ∙ c.in-If.is), arms) (answers_2 (λ _. ((look_of c.args.self.now.functions.now c.first-item.result.value).sort (names_of c.args.scope.now))) (((asked (look_of c.args.self.now.functions.now c.first-item.result.test) boolean (names_of c.args.scope.now)) ++ (asked (look_of c.args.self.now.functions.now c.first-item.result.value) ((look_of c.args.self.now.functions.now c.first-item.result.value).sort (names_of c.args.scope.now)) (names_of c.args.scope.now))) ++ (asked_arms ((look_of c.args.self.now.functions.now c.first-item.result.value).sort (names_of c.args.scope.now)) (map (λ (a : OneArm). (look_of c.args.self.now.functions.now a.test, look_of c.args.self.now.functions.now a.value)) (take (length c.as_slice.result.now - 1) (drop 1 c.as_slice.result.now))) (names_of c.args.scope.now))) (asked (look_of c.args.self.now.functions.now c.in-If.last) ((look_of c.args.self.now.functions.now c.first-item.result.value).sort (names_of c.args.scope.now))) (λ m. m) (names_of c.args.scope.now) c.arms.new.scope c.ask-in-len1-up.result c.ask-in-len1-up.new.scope
    (holds_2 ((asked (look_of c.args.self.now.functions.now c.first-item.result.test) boolean (names_of c.args.scope.now)) ++ (asked (look_of c.args.self.now.functions.now c.first-item.result.value) ((look_of c.args.self.now.functions.now c.first-item.result.value).sort (names_of c.args.scope.now)) (names_of c.args.scope.now))) (asked_arms ((look_of c.args.self.now.functions.now c.first-item.result.value).sort (names_of c.args.scope.now)) (map (λ (a : OneArm). (look_of c.args.self.now.functions.now a.test, look_of c.args.self.now.functions.now a.value)) (take (length c.as_slice.result.now - 1) (drop 1 c.as_slice.result.now)))) (names_of c.args.scope.now) c.look-in-len1-up.new.scope front same (rw sort at c.in_ok-arms-in-len1-up.ensures.holds)) (c.in_ok-arms-in-len1-up.ensures.names_are ∙ same) (rw sort at c.ask-in-len1-up.ensures))

pub block-returns-in_default-as_slice : goal.block-returns-in_default-as_slice
block-returns-in_default-as_slice t c =
    let arms : c.in-If.arms ≡ [] = sym c.as_slice.ensures ∙ no_member c.as_slice.result.now c.in_default-as_slice.len_below in
    rw (chosen c.args.self.now.functions.now c.args.expr.now c.in-If.arms c.in-If.last (sym c.get.ensures ∙ c.in-If.is), arms) (alone (look_of c.args.self.now.functions.now c.in-If.last) (names_of c.args.scope.now) c.look.result c.look.new.scope c.look.ensures)

pub block-returns-in_err-define-in-Let : goal.block-returns-in_err-define-in-Let
block-returns-in_err-define-in-Let t c =
    let one : length c.in-Let.values ≡ 1 = sym c.len.ensures ∙ c.if-len-ne1.false in
    rw (let_in c.args.self.now.functions.now c.args.expr.now c.in-Let.definitions c.in-Let.values (sym c.get.ensures ∙ c.in-Let.is)) (handed_on _ _ _ _ _ _ c.from_residual-in_err-define-in-Let.ensures.1 (let_stops c.args.expr.now.place (look_of c.args.self.now.functions.now) c.in-Let.definitions c.in-Let.values (names_of c.args.scope.now) _ one (rw c.as_slice-in-Let.ensures at c.in_err-define-in-Let.ensures)))

pub block-returns-in_err-sort-in-Let : goal.block-returns-in_err-sort-in-Let
block-returns-in_err-sort-in-Let t c =
    let one : length c.in-Let.values ≡ 1 = sym c.len.ensures ∙ c.if-len-ne1.false in let values : c.in-Let.values ≡ c.index-as_slice-0.result ∷ [] = only_member c.in-Let.values c.index-as_slice-0.result one ∙ ap (λ a. a ∷ []) (sym (rw c.as_slice-in-Let-2.ensures at c.index-as_slice-0.is)) in
    let defined_ : first_refusal (definition_demands (typed (look_of c.args.self.now.functions.now) c.in-Let.definitions) (names_of c.args.scope.now)) ≡ None = rw c.as_slice-in-Let.ensures at c.in_ok-define-in-Let.ensures.holds in
    let inner : names_of c.define.new.scope ≡ (bound (locals c.in-Let.definitions) (names_of c.args.scope.now)) = rw c.as_slice-in-Let.ensures at c.in_ok-define-in-Let.ensures.names_are in
    rw (let_in c.args.self.now.functions.now c.args.expr.now c.in-Let.definitions c.in-Let.values (sym c.get.ensures ∙ c.in-Let.is), values, defined_typed (look_of c.args.self.now.functions.now) c.in-Let.definitions) (handed_on _ _ _ _ _ _ c.from_residual-in_err-sort-in-Let.ensures.1 (refused_2 (definition_demands (typed (look_of c.args.self.now.functions.now) c.in-Let.definitions) (names_of c.args.scope.now)) (look_of c.args.self.now.functions.now c.index-as_slice-0.result).demands (bound (locals c.in-Let.definitions) (names_of c.args.scope.now)) c.define.new.scope _ defined_ inner c.in_err-sort-in-Let.ensures))

pub block-returns-in_ok-sort-in-Let : goal.block-returns-in_ok-sort-in-Let
block-returns-in_ok-sort-in-Let t c =
    let one : length c.in-Let.values ≡ 1 = sym c.len.ensures ∙ c.if-len-ne1.false in let values : c.in-Let.values ≡ c.index-as_slice-0.result ∷ [] = only_member c.in-Let.values c.index-as_slice-0.result one ∙ ap (λ a. a ∷ []) (sym (rw c.as_slice-in-Let-2.ensures at c.index-as_slice-0.is)) in
    let defined_ : first_refusal (definition_demands (typed (look_of c.args.self.now.functions.now) c.in-Let.definitions) (names_of c.args.scope.now)) ≡ None = rw c.as_slice-in-Let.ensures at c.in_ok-define-in-Let.ensures.holds in
    let inner : names_of c.define.new.scope ≡ (bound (locals c.in-Let.definitions) (names_of c.args.scope.now)) = rw c.as_slice-in-Let.ensures at c.in_ok-define-in-Let.ensures.names_are in
    let left_ : names_of c.forget.new.scope ≡ unbound (locals c.in-Let.definitions) (names_of c.look-in-Let.new.scope) = rw c.as_slice-in-Let-3.ensures at c.forget.ensures in
    rw (let_in c.args.self.now.functions.now c.args.expr.now c.in-Let.definitions c.in-Let.values (sym c.get.ensures ∙ c.in-Let.is), values, defined_typed (look_of c.args.self.now.functions.now) c.in-Let.definitions) (record {
      holds = holds_2 (definition_demands (typed (look_of c.args.self.now.functions.now) c.in-Let.definitions) (names_of c.args.scope.now)) (look_of c.args.self.now.functions.now c.index-as_slice-0.result).demands (bound (locals c.in-Let.definitions) (names_of c.args.scope.now)) c.define.new.scope defined_ inner c.in_ok-sort-in-Let.ensures.holds;
      value_is = c.in_ok-sort-in-Let.ensures.value_is ∙ ap (look_of c.args.self.now.functions.now c.index-as_slice-0.result).sort inner;
      names_are = left_ ∙ (ap (unbound (locals c.in-Let.definitions)) (c.in_ok-sort-in-Let.ensures.names_are ∙ inner) ∙ restored (look_of c.args.self.now.functions.now) c.in-Let.definitions (names_of c.args.scope.now) defined_);
    })

pub block-returns-then-len-ne1 : goal.block-returns-then-len-ne1
block-returns-then-len-ne1 t c =
    let other : (length c.in-Let.values ≡ 1 → ⊥) = λ e. c.if-len-ne1.true (c.len.ensures ∙ e) in
    rw (let_in c.args.self.now.functions.now c.args.expr.now c.in-Let.definitions c.in-Let.values (sym c.get.ensures ∙ c.in-Let.is)) (λ _. ap first_refusal (let_of_other c.args.expr.now.place (typed (look_of c.args.self.now.functions.now) c.in-Let.definitions) (look_of c.args.self.now.functions.now) c.in-Let.values (names_of c.args.scope.now) other))

pub forall-returns-in_err-ask_fresh-in-Construct : goal.forall-returns-in_err-ask_fresh-in-Construct
forall-returns-in_err-ask_fresh-in-Construct t c =
    rw (construct c.args.self.now.functions.now c.args.expr.now c.in-Construct.index c.in-Construct.low c.in-Construct.high c.in-Construct.elem (sym c.get.ensures ∙ c.in-Construct.is)) (handed_on _ _ _ _ _ _ c.from_residual.ensures.1 (left (range_demands c.in-Construct.index (look_of c.args.self.now.functions.now c.in-Construct.low) (look_of c.args.self.now.functions.now c.in-Construct.high) (names_of c.args.scope.now)) ((asked_operand true (look_of c.args.self.now.functions.now c.in-Construct.elem)) (inside c.in-Construct.index (names_of c.args.scope.now))) _ (left (fresh c.in-Construct.index (names_of c.args.scope.now) ∷ []) ((asked (look_of c.args.self.now.functions.now c.in-Construct.low) integer) (names_of c.args.scope.now) ++ (asked (look_of c.args.self.now.functions.now c.in-Construct.high) integer) (names_of c.args.scope.now)) _ c.in_err-ask_fresh-in-Construct.ensures)))

pub forall-returns-in_err-ask-in-Construct : goal.forall-returns-in_err-ask-in-Construct
forall-returns-in_err-ask-in-Construct t c =
    rw (construct c.args.self.now.functions.now c.args.expr.now c.in-Construct.index c.in-Construct.low c.in-Construct.high c.in-Construct.elem (sym c.get.ensures ∙ c.in-Construct.is)) (handed_on _ _ _ _ _ _ c.from_residual-in_err-ask-in-Construct.ensures.1 (left (range_demands c.in-Construct.index (look_of c.args.self.now.functions.now c.in-Construct.low) (look_of c.args.self.now.functions.now c.in-Construct.high) (names_of c.args.scope.now)) ((asked_operand true (look_of c.args.self.now.functions.now c.in-Construct.elem)) (inside c.in-Construct.index (names_of c.args.scope.now))) _ (right (fresh c.in-Construct.index (names_of c.args.scope.now) ∷ []) ((asked (look_of c.args.self.now.functions.now c.in-Construct.low) integer) (names_of c.args.scope.now) ++ (asked (look_of c.args.self.now.functions.now c.in-Construct.high) integer) (names_of c.args.scope.now)) _ c.in_ok-ask_fresh-in-Construct.ensures.holds (left ((asked (look_of c.args.self.now.functions.now c.in-Construct.low) integer) (names_of c.args.scope.now)) ((asked (look_of c.args.self.now.functions.now c.in-Construct.high) integer) (names_of c.args.scope.now)) _ c.in_err-ask-in-Construct.ensures))))

pub forall-returns-in_err-ask-in-Construct-2 : goal.forall-returns-in_err-ask-in-Construct-2
forall-returns-in_err-ask-in-Construct-2 t c =
    rw (construct c.args.self.now.functions.now c.args.expr.now c.in-Construct.index c.in-Construct.low c.in-Construct.high c.in-Construct.elem (sym c.get.ensures ∙ c.in-Construct.is)) (handed_on _ _ _ _ _ _ c.from_residual-in_err-ask-in-Construct-2.ensures.1 (left (range_demands c.in-Construct.index (look_of c.args.self.now.functions.now c.in-Construct.low) (look_of c.args.self.now.functions.now c.in-Construct.high) (names_of c.args.scope.now)) ((asked_operand true (look_of c.args.self.now.functions.now c.in-Construct.elem)) (inside c.in-Construct.index (names_of c.args.scope.now))) _ (right (fresh c.in-Construct.index (names_of c.args.scope.now) ∷ []) ((asked (look_of c.args.self.now.functions.now c.in-Construct.low) integer) (names_of c.args.scope.now) ++ (asked (look_of c.args.self.now.functions.now c.in-Construct.high) integer) (names_of c.args.scope.now)) _ c.in_ok-ask_fresh-in-Construct.ensures.holds (refused_2 ((asked (look_of c.args.self.now.functions.now c.in-Construct.low) integer) (names_of c.args.scope.now)) (asked (look_of c.args.self.now.functions.now c.in-Construct.high) integer) (names_of c.args.scope.now) c.ask.new.scope _ c.in_ok-ask-in-Construct.ensures.holds c.in_ok-ask-in-Construct.ensures.names_are c.in_err-ask-in-Construct-2.ensures))))

pub forall-returns-in_err-sort-in-Construct : goal.forall-returns-in_err-sort-in-Construct
forall-returns-in_err-sort-in-Construct t c =
    let range : first_refusal (range_demands c.in-Construct.index (look_of c.args.self.now.functions.now c.in-Construct.low) (look_of c.args.self.now.functions.now c.in-Construct.high) (names_of c.args.scope.now)) ≡ None = both (fresh c.in-Construct.index (names_of c.args.scope.now) ∷ []) ((asked (look_of c.args.self.now.functions.now c.in-Construct.low) integer) (names_of c.args.scope.now) ++ (asked (look_of c.args.self.now.functions.now c.in-Construct.high) integer) (names_of c.args.scope.now)) c.in_ok-ask_fresh-in-Construct.ensures.holds (holds_2 ((asked (look_of c.args.self.now.functions.now c.in-Construct.low) integer) (names_of c.args.scope.now)) (asked (look_of c.args.self.now.functions.now c.in-Construct.high) integer) (names_of c.args.scope.now) c.ask.new.scope c.in_ok-ask-in-Construct.ensures.holds c.in_ok-ask-in-Construct.ensures.names_are c.in_ok-ask-in-Construct-2.ensures.holds) in
    let inner : names_of c.bind.new.self ≡ (inside c.in-Construct.index (names_of c.args.scope.now)) = c.in_ok-bind-in-Construct.ensures.ok ∙ ap (inside c.in-Construct.index) (c.in_ok-ask-in-Construct-2.ensures.names_are ∙ c.in_ok-ask-in-Construct.ensures.names_are) in
    rw (construct c.args.self.now.functions.now c.args.expr.now c.in-Construct.index c.in-Construct.low c.in-Construct.high c.in-Construct.elem (sym c.get.ensures ∙ c.in-Construct.is)) (handed_on _ _ _ _ _ _ c.from_residual-in_err-sort-in-Construct.ensures.1 (refused_2 (range_demands c.in-Construct.index (look_of c.args.self.now.functions.now c.in-Construct.low) (look_of c.args.self.now.functions.now c.in-Construct.high) (names_of c.args.scope.now)) (asked_operand true (look_of c.args.self.now.functions.now c.in-Construct.elem)) (inside c.in-Construct.index (names_of c.args.scope.now)) c.bind.new.self _ range inner c.in_err-sort-in-Construct.ensures))

pub forall-returns-in_ok-sort-in-Construct : goal.forall-returns-in_ok-sort-in-Construct
forall-returns-in_ok-sort-in-Construct t c =
    let range : first_refusal (range_demands c.in-Construct.index (look_of c.args.self.now.functions.now c.in-Construct.low) (look_of c.args.self.now.functions.now c.in-Construct.high) (names_of c.args.scope.now)) ≡ None = both (fresh c.in-Construct.index (names_of c.args.scope.now) ∷ []) ((asked (look_of c.args.self.now.functions.now c.in-Construct.low) integer) (names_of c.args.scope.now) ++ (asked (look_of c.args.self.now.functions.now c.in-Construct.high) integer) (names_of c.args.scope.now)) c.in_ok-ask_fresh-in-Construct.ensures.holds (holds_2 ((asked (look_of c.args.self.now.functions.now c.in-Construct.low) integer) (names_of c.args.scope.now)) (asked (look_of c.args.self.now.functions.now c.in-Construct.high) integer) (names_of c.args.scope.now) c.ask.new.scope c.in_ok-ask-in-Construct.ensures.holds c.in_ok-ask-in-Construct.ensures.names_are c.in_ok-ask-in-Construct-2.ensures.holds) in
    let inner : names_of c.bind.new.self ≡ (inside c.in-Construct.index (names_of c.args.scope.now)) = c.in_ok-bind-in-Construct.ensures.ok ∙ ap (inside c.in-Construct.index) (c.in_ok-ask-in-Construct-2.ensures.names_are ∙ c.in_ok-ask-in-Construct.ensures.names_are) in
    rw (construct c.args.self.now.functions.now c.args.expr.now c.in-Construct.index c.in-Construct.low c.in-Construct.high c.in-Construct.elem (sym c.get.ensures ∙ c.in-Construct.is)) (record {
      holds = holds_2 (range_demands c.in-Construct.index (look_of c.args.self.now.functions.now c.in-Construct.low) (look_of c.args.self.now.functions.now c.in-Construct.high) (names_of c.args.scope.now)) (asked_operand true (look_of c.args.self.now.functions.now c.in-Construct.elem)) (inside c.in-Construct.index (names_of c.args.scope.now)) c.bind.new.self range inner c.in_ok-sort-in-Construct.ensures.holds;
      value_is = c.array_of.ensures ∙ ap array_of (c.in_ok-sort-in-Construct.ensures.value_is ∙ ap (look_of c.args.self.now.functions.now c.in-Construct.elem).sort inner);
      names_are = c.unbind.ensures ∙ (ap (λ m. unbind m c.in-Construct.index.name) (c.in_ok-sort-in-Construct.ensures.names_are ∙ inner) ∙ unbind_bind (names_of c.args.scope.now) c.in-Construct.index.name (entry.Local integer) (new_is_nothing c.in-Construct.index (names_of c.args.scope.now) [] c.in_ok-ask_fresh-in-Construct.ensures.holds));
    })

pub forall-returns-in_err-ask_fresh-in-Fold : goal.forall-returns-in_err-ask_fresh-in-Fold
forall-returns-in_err-ask_fresh-in-Fold t c =
    rw (folded c.args.self.now.functions.now c.args.expr.now c.in-Fold.index c.in-Fold.low c.in-Fold.high c.in-Fold.op c.in-Fold.elem (sym c.get.ensures ∙ c.in-Fold.is)) (handed_on _ _ _ _ _ _ c.from_residual-in_err-ask_fresh-in-Fold.ensures.1 (left (range_demands c.in-Fold.index (look_of c.args.self.now.functions.now c.in-Fold.low) (look_of c.args.self.now.functions.now c.in-Fold.high) (names_of c.args.scope.now)) ((asked (look_of c.args.self.now.functions.now c.in-Fold.elem) (operator_sort c.in-Fold.op)) (inside c.in-Fold.index (names_of c.args.scope.now))) _ (left (fresh c.in-Fold.index (names_of c.args.scope.now) ∷ []) ((asked (look_of c.args.self.now.functions.now c.in-Fold.low) integer) (names_of c.args.scope.now) ++ (asked (look_of c.args.self.now.functions.now c.in-Fold.high) integer) (names_of c.args.scope.now)) _ c.in_err-ask_fresh-in-Fold.ensures)))

pub forall-returns-in_err-ask-in-Fold : goal.forall-returns-in_err-ask-in-Fold
forall-returns-in_err-ask-in-Fold t c =
    rw (folded c.args.self.now.functions.now c.args.expr.now c.in-Fold.index c.in-Fold.low c.in-Fold.high c.in-Fold.op c.in-Fold.elem (sym c.get.ensures ∙ c.in-Fold.is)) (handed_on _ _ _ _ _ _ c.from_residual-in_err-ask-in-Fold.ensures.1 (left (range_demands c.in-Fold.index (look_of c.args.self.now.functions.now c.in-Fold.low) (look_of c.args.self.now.functions.now c.in-Fold.high) (names_of c.args.scope.now)) ((asked (look_of c.args.self.now.functions.now c.in-Fold.elem) (operator_sort c.in-Fold.op)) (inside c.in-Fold.index (names_of c.args.scope.now))) _ (right (fresh c.in-Fold.index (names_of c.args.scope.now) ∷ []) ((asked (look_of c.args.self.now.functions.now c.in-Fold.low) integer) (names_of c.args.scope.now) ++ (asked (look_of c.args.self.now.functions.now c.in-Fold.high) integer) (names_of c.args.scope.now)) _ c.in_ok-ask_fresh-in-Fold.ensures.holds (left ((asked (look_of c.args.self.now.functions.now c.in-Fold.low) integer) (names_of c.args.scope.now)) ((asked (look_of c.args.self.now.functions.now c.in-Fold.high) integer) (names_of c.args.scope.now)) _ c.in_err-ask-in-Fold.ensures))))

pub forall-returns-in_err-ask-in-Fold-2 : goal.forall-returns-in_err-ask-in-Fold-2
forall-returns-in_err-ask-in-Fold-2 t c =
    rw (folded c.args.self.now.functions.now c.args.expr.now c.in-Fold.index c.in-Fold.low c.in-Fold.high c.in-Fold.op c.in-Fold.elem (sym c.get.ensures ∙ c.in-Fold.is)) (handed_on _ _ _ _ _ _ c.from_residual-in_err-ask-in-Fold-2.ensures.1 (left (range_demands c.in-Fold.index (look_of c.args.self.now.functions.now c.in-Fold.low) (look_of c.args.self.now.functions.now c.in-Fold.high) (names_of c.args.scope.now)) ((asked (look_of c.args.self.now.functions.now c.in-Fold.elem) (operator_sort c.in-Fold.op)) (inside c.in-Fold.index (names_of c.args.scope.now))) _ (right (fresh c.in-Fold.index (names_of c.args.scope.now) ∷ []) ((asked (look_of c.args.self.now.functions.now c.in-Fold.low) integer) (names_of c.args.scope.now) ++ (asked (look_of c.args.self.now.functions.now c.in-Fold.high) integer) (names_of c.args.scope.now)) _ c.in_ok-ask_fresh-in-Fold.ensures.holds (refused_2 ((asked (look_of c.args.self.now.functions.now c.in-Fold.low) integer) (names_of c.args.scope.now)) (asked (look_of c.args.self.now.functions.now c.in-Fold.high) integer) (names_of c.args.scope.now) c.ask-in-Fold.new.scope _ c.in_ok-ask-in-Fold.ensures.holds c.in_ok-ask-in-Fold.ensures.names_are c.in_err-ask-in-Fold-2.ensures))))

pub forall-returns-in_err-sort-in-Fold : goal.forall-returns-in_err-sort-in-Fold
forall-returns-in_err-sort-in-Fold t c =
    let range : first_refusal (range_demands c.in-Fold.index (look_of c.args.self.now.functions.now c.in-Fold.low) (look_of c.args.self.now.functions.now c.in-Fold.high) (names_of c.args.scope.now)) ≡ None = both (fresh c.in-Fold.index (names_of c.args.scope.now) ∷ []) ((asked (look_of c.args.self.now.functions.now c.in-Fold.low) integer) (names_of c.args.scope.now) ++ (asked (look_of c.args.self.now.functions.now c.in-Fold.high) integer) (names_of c.args.scope.now)) c.in_ok-ask_fresh-in-Fold.ensures.holds (holds_2 ((asked (look_of c.args.self.now.functions.now c.in-Fold.low) integer) (names_of c.args.scope.now)) (asked (look_of c.args.self.now.functions.now c.in-Fold.high) integer) (names_of c.args.scope.now) c.ask-in-Fold.new.scope c.in_ok-ask-in-Fold.ensures.holds c.in_ok-ask-in-Fold.ensures.names_are c.in_ok-ask-in-Fold-2.ensures.holds) in
    let inner : names_of c.bind-in-Fold.new.self ≡ (inside c.in-Fold.index (names_of c.args.scope.now)) = c.in_ok-bind-in-Fold.ensures.ok ∙ ap (inside c.in-Fold.index) (c.in_ok-ask-in-Fold-2.ensures.names_are ∙ c.in_ok-ask-in-Fold.ensures.names_are) in
    rw (folded c.args.self.now.functions.now c.args.expr.now c.in-Fold.index c.in-Fold.low c.in-Fold.high c.in-Fold.op c.in-Fold.elem (sym c.get.ensures ∙ c.in-Fold.is)) (handed_on _ _ _ _ _ _ c.from_residual-in_err-sort-in-Fold.ensures.1 (refused_2 (range_demands c.in-Fold.index (look_of c.args.self.now.functions.now c.in-Fold.low) (look_of c.args.self.now.functions.now c.in-Fold.high) (names_of c.args.scope.now)) (asked (look_of c.args.self.now.functions.now c.in-Fold.elem) (operator_sort c.in-Fold.op)) (inside c.in-Fold.index (names_of c.args.scope.now)) c.bind-in-Fold.new.self _ range inner (rw c.operator_sort.ensures at c.in_err-sort-in-Fold.ensures)))

pub forall-returns-in_ok-sort-in-Fold : goal.forall-returns-in_ok-sort-in-Fold
forall-returns-in_ok-sort-in-Fold t c =
    let range : first_refusal (range_demands c.in-Fold.index (look_of c.args.self.now.functions.now c.in-Fold.low) (look_of c.args.self.now.functions.now c.in-Fold.high) (names_of c.args.scope.now)) ≡ None = both (fresh c.in-Fold.index (names_of c.args.scope.now) ∷ []) ((asked (look_of c.args.self.now.functions.now c.in-Fold.low) integer) (names_of c.args.scope.now) ++ (asked (look_of c.args.self.now.functions.now c.in-Fold.high) integer) (names_of c.args.scope.now)) c.in_ok-ask_fresh-in-Fold.ensures.holds (holds_2 ((asked (look_of c.args.self.now.functions.now c.in-Fold.low) integer) (names_of c.args.scope.now)) (asked (look_of c.args.self.now.functions.now c.in-Fold.high) integer) (names_of c.args.scope.now) c.ask-in-Fold.new.scope c.in_ok-ask-in-Fold.ensures.holds c.in_ok-ask-in-Fold.ensures.names_are c.in_ok-ask-in-Fold-2.ensures.holds) in
    let inner : names_of c.bind-in-Fold.new.self ≡ (inside c.in-Fold.index (names_of c.args.scope.now)) = c.in_ok-bind-in-Fold.ensures.ok ∙ ap (inside c.in-Fold.index) (c.in_ok-ask-in-Fold-2.ensures.names_are ∙ c.in_ok-ask-in-Fold.ensures.names_are) in
    rw (folded c.args.self.now.functions.now c.args.expr.now c.in-Fold.index c.in-Fold.low c.in-Fold.high c.in-Fold.op c.in-Fold.elem (sym c.get.ensures ∙ c.in-Fold.is)) (record {
      holds = holds_2 (range_demands c.in-Fold.index (look_of c.args.self.now.functions.now c.in-Fold.low) (look_of c.args.self.now.functions.now c.in-Fold.high) (names_of c.args.scope.now)) (asked (look_of c.args.self.now.functions.now c.in-Fold.elem) (operator_sort c.in-Fold.op)) (inside c.in-Fold.index (names_of c.args.scope.now)) c.bind-in-Fold.new.self range inner (rw c.operator_sort.ensures at c.in_ok-sort-in-Fold.ensures.holds);
      value_is = c.in_ok-sort-in-Fold.ensures.value_is ∙ c.operator_sort.ensures;
      names_are = c.unbind-in-Fold.ensures ∙ (ap (λ m. unbind m c.in-Fold.index.name) (c.in_ok-sort-in-Fold.ensures.names_are ∙ inner) ∙ unbind_bind (names_of c.args.scope.now) c.in-Fold.index.name (entry.Local integer) (new_is_nothing c.in-Fold.index (names_of c.args.scope.now) [] c.in_ok-ask_fresh-in-Fold.ensures.holds));
    })

pub other-returns-in_err-define-in-For : goal.other-returns-in_err-define-in-For
other-returns-in_err-define-in-For t c =
    rw (loop c.args.self.now.functions.now c.args.expr.now c.in-For.definitions c.in-For.test c.in-For.assigns c.in-For.last (sym c.get.ensures ∙ c.in-For.is), defined_typed (look_of c.args.self.now.functions.now) c.in-For.definitions) (handed_on _ _ _ _ _ _ c.from_residual-in_err-define-in-For.ensures.1 (left (definition_demands (typed (look_of c.args.self.now.functions.now) c.in-For.definitions) (names_of c.args.scope.now)) ((λ (m : Names). (asked (look_of c.args.self.now.functions.now c.in-For.test) boolean) m ++ ((assign_demands (bound (locals c.in-For.definitions) nothing) (given (look_of c.args.self.now.functions.now) c.in-For.assigns)) m ++ (look_of c.args.self.now.functions.now c.in-For.last).demands m)) (bound (locals c.in-For.definitions) (names_of c.args.scope.now))) _ (rw c.as_slice-in-For.ensures at c.in_err-define-in-For.ensures)))

pub other-returns-in_err-ask-in-For : goal.other-returns-in_err-ask-in-For
other-returns-in_err-ask-in-For t c =
    let defined_ : first_refusal (definition_demands (typed (look_of c.args.self.now.functions.now) c.in-For.definitions) (names_of c.args.scope.now)) ≡ None = rw c.as_slice-in-For.ensures at c.in_ok-define-in-For.ensures.holds in
    let inner : names_of c.define.new.scope ≡ (bound (locals c.in-For.definitions) (names_of c.args.scope.now)) = rw c.as_slice-in-For.ensures at c.in_ok-define-in-For.ensures.names_are in
    rw (loop c.args.self.now.functions.now c.args.expr.now c.in-For.definitions c.in-For.test c.in-For.assigns c.in-For.last (sym c.get.ensures ∙ c.in-For.is), defined_typed (look_of c.args.self.now.functions.now) c.in-For.definitions) (handed_on _ _ _ _ _ _ c.from_residual-in_err-ask-in-For.ensures.1 (refused_2 (definition_demands (typed (look_of c.args.self.now.functions.now) c.in-For.definitions) (names_of c.args.scope.now)) (λ (m : Names). (asked (look_of c.args.self.now.functions.now c.in-For.test) boolean) m ++ ((assign_demands (bound (locals c.in-For.definitions) nothing) (given (look_of c.args.self.now.functions.now) c.in-For.assigns)) m ++ (look_of c.args.self.now.functions.now c.in-For.last).demands m)) (bound (locals c.in-For.definitions) (names_of c.args.scope.now)) c.define.new.scope _ defined_ inner (left ((asked (look_of c.args.self.now.functions.now c.in-For.test) boolean) (names_of c.define.new.scope)) ((λ (m : Names). (assign_demands (bound (locals c.in-For.definitions) nothing) (given (look_of c.args.self.now.functions.now) c.in-For.assigns)) m ++ (look_of c.args.self.now.functions.now c.in-For.last).demands m) (names_of c.define.new.scope)) _ c.in_err-ask-in-For.ensures)))

pub other-returns-in_err-assigns-in-For : goal.other-returns-in_err-assigns-in-For
other-returns-in_err-assigns-in-For t c =
    let defined_ : first_refusal (definition_demands (typed (look_of c.args.self.now.functions.now) c.in-For.definitions) (names_of c.args.scope.now)) ≡ None = rw c.as_slice-in-For.ensures at c.in_ok-define-in-For.ensures.holds in
    let inner : names_of c.define.new.scope ≡ (bound (locals c.in-For.definitions) (names_of c.args.scope.now)) = rw c.as_slice-in-For.ensures at c.in_ok-define-in-For.ensures.names_are in
    let of_loop : names_of c.in_ok-names-in-For.names ≡ bound (locals c.in-For.definitions) nothing = rw c.as_slice.ensures at c.in_ok-names-in-For.ensures in
    rw (loop c.args.self.now.functions.now c.args.expr.now c.in-For.definitions c.in-For.test c.in-For.assigns c.in-For.last (sym c.get.ensures ∙ c.in-For.is), defined_typed (look_of c.args.self.now.functions.now) c.in-For.definitions) (handed_on _ _ _ _ _ _ c.from_residual-in_err-assigns-in-For.ensures.1 (refused_2 (definition_demands (typed (look_of c.args.self.now.functions.now) c.in-For.definitions) (names_of c.args.scope.now)) (λ (m : Names). (asked (look_of c.args.self.now.functions.now c.in-For.test) boolean) m ++ ((assign_demands (bound (locals c.in-For.definitions) nothing) (given (look_of c.args.self.now.functions.now) c.in-For.assigns)) m ++ (look_of c.args.self.now.functions.now c.in-For.last).demands m)) (bound (locals c.in-For.definitions) (names_of c.args.scope.now)) c.define.new.scope _ defined_ inner (refused_2 ((asked (look_of c.args.self.now.functions.now c.in-For.test) boolean) (names_of c.define.new.scope)) (λ (m : Names). (assign_demands (bound (locals c.in-For.definitions) nothing) (given (look_of c.args.self.now.functions.now) c.in-For.assigns)) m ++ (look_of c.args.self.now.functions.now c.in-For.last).demands m) (names_of c.define.new.scope) c.ask.new.scope _ c.in_ok-ask-in-For.ensures.holds c.in_ok-ask-in-For.ensures.names_are (left ((assign_demands (bound (locals c.in-For.definitions) nothing) (given (look_of c.args.self.now.functions.now) c.in-For.assigns)) (names_of c.ask.new.scope)) ((look_of c.args.self.now.functions.now c.in-For.last).demands (names_of c.ask.new.scope)) _ (rw (of_loop, c.as_slice-in-For-2.ensures) at c.in_err-assigns-in-For.ensures)))))

pub other-returns-in_err-sort-in-For : goal.other-returns-in_err-sort-in-For
other-returns-in_err-sort-in-For t c =
    let defined_ : first_refusal (definition_demands (typed (look_of c.args.self.now.functions.now) c.in-For.definitions) (names_of c.args.scope.now)) ≡ None = rw c.as_slice-in-For.ensures at c.in_ok-define-in-For.ensures.holds in
    let inner : names_of c.define.new.scope ≡ (bound (locals c.in-For.definitions) (names_of c.args.scope.now)) = rw c.as_slice-in-For.ensures at c.in_ok-define-in-For.ensures.names_are in
    let of_loop : names_of c.in_ok-names-in-For.names ≡ bound (locals c.in-For.definitions) nothing = rw c.as_slice.ensures at c.in_ok-names-in-For.ensures in
    rw (loop c.args.self.now.functions.now c.args.expr.now c.in-For.definitions c.in-For.test c.in-For.assigns c.in-For.last (sym c.get.ensures ∙ c.in-For.is), defined_typed (look_of c.args.self.now.functions.now) c.in-For.definitions) (handed_on _ _ _ _ _ _ c.from_residual-in_err-sort-in-For.ensures.1 (refused_2 (definition_demands (typed (look_of c.args.self.now.functions.now) c.in-For.definitions) (names_of c.args.scope.now)) (λ (m : Names). (asked (look_of c.args.self.now.functions.now c.in-For.test) boolean) m ++ ((assign_demands (bound (locals c.in-For.definitions) nothing) (given (look_of c.args.self.now.functions.now) c.in-For.assigns)) m ++ (look_of c.args.self.now.functions.now c.in-For.last).demands m)) (bound (locals c.in-For.definitions) (names_of c.args.scope.now)) c.define.new.scope _ defined_ inner (refused_2 ((asked (look_of c.args.self.now.functions.now c.in-For.test) boolean) (names_of c.define.new.scope)) (λ (m : Names). (assign_demands (bound (locals c.in-For.definitions) nothing) (given (look_of c.args.self.now.functions.now) c.in-For.assigns)) m ++ (look_of c.args.self.now.functions.now c.in-For.last).demands m) (names_of c.define.new.scope) c.ask.new.scope _ c.in_ok-ask-in-For.ensures.holds c.in_ok-ask-in-For.ensures.names_are
    (refused_2 ((assign_demands (bound (locals c.in-For.definitions) nothing) (given (look_of c.args.self.now.functions.now) c.in-For.assigns)) (names_of c.ask.new.scope)) (look_of c.args.self.now.functions.now c.in-For.last).demands (names_of c.ask.new.scope) c.assigns.new.scope _ (rw (of_loop, c.as_slice-in-For-2.ensures) at c.in_ok-assigns-in-For.ensures.holds) c.in_ok-assigns-in-For.ensures.names_are c.in_err-sort-in-For.ensures))))

pub other-returns-in_ok-sort-in-For : goal.other-returns-in_ok-sort-in-For
other-returns-in_ok-sort-in-For t c =
    let defined_ : first_refusal (definition_demands (typed (look_of c.args.self.now.functions.now) c.in-For.definitions) (names_of c.args.scope.now)) ≡ None = rw c.as_slice-in-For.ensures at c.in_ok-define-in-For.ensures.holds in
    let inner : names_of c.define.new.scope ≡ (bound (locals c.in-For.definitions) (names_of c.args.scope.now)) = rw c.as_slice-in-For.ensures at c.in_ok-define-in-For.ensures.names_are in
    let of_loop : names_of c.in_ok-names-in-For.names ≡ bound (locals c.in-For.definitions) nothing = rw c.as_slice.ensures at c.in_ok-names-in-For.ensures in
    let inside_ : names_of c.assigns.new.scope ≡ (bound (locals c.in-For.definitions) (names_of c.args.scope.now)) = c.in_ok-assigns-in-For.ensures.names_are ∙ (c.in_ok-ask-in-For.ensures.names_are ∙ inner) in
    let left_ : names_of c.forget.new.scope ≡ unbound (locals c.in-For.definitions) (names_of c.look.new.scope) = rw c.as_slice-in-For-3.ensures at c.forget.ensures in
    rw (loop c.args.self.now.functions.now c.args.expr.now c.in-For.definitions c.in-For.test c.in-For.assigns c.in-For.last (sym c.get.ensures ∙ c.in-For.is), defined_typed (look_of c.args.self.now.functions.now) c.in-For.definitions) (record {
      holds = holds_2 (definition_demands (typed (look_of c.args.self.now.functions.now) c.in-For.definitions) (names_of c.args.scope.now)) (λ (m : Names). (asked (look_of c.args.self.now.functions.now c.in-For.test) boolean) m ++ ((assign_demands (bound (locals c.in-For.definitions) nothing) (given (look_of c.args.self.now.functions.now) c.in-For.assigns)) m ++ (look_of c.args.self.now.functions.now c.in-For.last).demands m)) (bound (locals c.in-For.definitions) (names_of c.args.scope.now)) c.define.new.scope defined_ inner (holds_2 ((asked (look_of c.args.self.now.functions.now c.in-For.test) boolean) (names_of c.define.new.scope)) (λ (m : Names). (assign_demands (bound (locals c.in-For.definitions) nothing) (given (look_of c.args.self.now.functions.now) c.in-For.assigns)) m ++ (look_of c.args.self.now.functions.now c.in-For.last).demands m) (names_of c.define.new.scope) c.ask.new.scope c.in_ok-ask-in-For.ensures.holds c.in_ok-ask-in-For.ensures.names_are
          (holds_2 ((assign_demands (bound (locals c.in-For.definitions) nothing) (given (look_of c.args.self.now.functions.now) c.in-For.assigns)) (names_of c.ask.new.scope)) (look_of c.args.self.now.functions.now c.in-For.last).demands (names_of c.ask.new.scope) c.assigns.new.scope (rw (of_loop, c.as_slice-in-For-2.ensures) at c.in_ok-assigns-in-For.ensures.holds) c.in_ok-assigns-in-For.ensures.names_are c.in_ok-sort-in-For.ensures.holds));
      value_is = c.in_ok-sort-in-For.ensures.value_is ∙ ap (look_of c.args.self.now.functions.now c.in-For.last).sort inside_;
      names_are = left_ ∙ (ap (unbound (locals c.in-For.definitions)) (c.in_ok-sort-in-For.ensures.names_are ∙ inside_) ∙ restored (look_of c.args.self.now.functions.now) c.in-For.definitions (names_of c.args.scope.now) defined_);
    })

pub other-returns-in_err-ask-in-Array : goal.other-returns-in_err-ask-in-Array
other-returns-in_err-ask-in-Array t c =
    rw (array c.args.self.now.functions.now c.args.expr.now c.in-Array.at c.in-Array.value (sym c.get.ensures ∙ c.in-Array.is)) (handed_on _ _ _ _ _ _ c.from_residual-in_err-ask-in-Array.ensures.1 (left (asked (look_of c.args.self.now.functions.now c.in-Array.at) integer (names_of c.args.scope.now)) ((asked_operand true (look_of c.args.self.now.functions.now c.in-Array.value)) (names_of c.args.scope.now)) _ c.in_err-ask-in-Array.ensures))

pub other-returns-in_err-sort-in-Array : goal.other-returns-in_err-sort-in-Array
other-returns-in_err-sort-in-Array t c =
    rw (array c.args.self.now.functions.now c.args.expr.now c.in-Array.at c.in-Array.value (sym c.get.ensures ∙ c.in-Array.is)) (handed_on _ _ _ _ _ _ c.from_residual-in_err-sort-in-Array.ensures.1 (refused_2 (asked (look_of c.args.self.now.functions.now c.in-Array.at) integer (names_of c.args.scope.now)) (asked_operand true (look_of c.args.self.now.functions.now c.in-Array.value)) (names_of c.args.scope.now) c.ask-in-Array.new.scope _ c.in_ok-ask-in-Array.ensures.holds c.in_ok-ask-in-Array.ensures.names_are c.in_err-sort-in-Array.ensures))

pub other-returns-in_ok-sort-in-Array : goal.other-returns-in_ok-sort-in-Array
other-returns-in_ok-sort-in-Array t c =
    rw (array c.args.self.now.functions.now c.args.expr.now c.in-Array.at c.in-Array.value (sym c.get.ensures ∙ c.in-Array.is)) (record {
      holds = holds_2 (asked (look_of c.args.self.now.functions.now c.in-Array.at) integer (names_of c.args.scope.now)) (asked_operand true (look_of c.args.self.now.functions.now c.in-Array.value)) (names_of c.args.scope.now) c.ask-in-Array.new.scope c.in_ok-ask-in-Array.ensures.holds c.in_ok-ask-in-Array.ensures.names_are c.in_ok-sort-in-Array.ensures.holds;
      value_is = c.array_of.ensures ∙ ap array_of (c.in_ok-sort-in-Array.ensures.value_is ∙ ap (look_of c.args.self.now.functions.now c.in-Array.value).sort c.in_ok-ask-in-Array.ensures.names_are);
      names_are = c.in_ok-sort-in-Array.ensures.names_are ∙ c.in_ok-ask-in-Array.ensures.names_are;
    })

pub other-returns-in_err-sort-in-Update : goal.other-returns-in_err-sort-in-Update
other-returns-in_err-sort-in-Update t c =
    rw (updated c.args.self.now.functions.now c.args.expr.now c.in-Update.name c.in-Update.at c.in-Update.value (sym c.get.ensures ∙ c.in-Update.is)) (handed_on _ _ _ _ _ _ c.from_residual-in_err-sort-in-Update.ensures.1 (left (known_array c.in-Update.name c.args.expr.now.place (names_of c.args.scope.now)) ((asked (look_of c.args.self.now.functions.now c.in-Update.at) integer) (names_of c.args.scope.now) ++ (asked (look_of c.args.self.now.functions.now c.in-Update.value) (element_of (value_sort ((names_of c.args.scope.now) c.in-Update.name)))) (names_of c.args.scope.now)) _ c.in_err-sort-in-Update.ensures))

pub other-returns-in_err-ask-in-Update : goal.other-returns-in_err-ask-in-Update
other-returns-in_err-ask-in-Update t c =
    rw (updated c.args.self.now.functions.now c.args.expr.now c.in-Update.name c.in-Update.at c.in-Update.value (sym c.get.ensures ∙ c.in-Update.is)) (handed_on _ _ _ _ _ _ c.from_residual-in_err-ask-in-Update.ensures.1 (right (known_array c.in-Update.name c.args.expr.now.place (names_of c.args.scope.now)) ((asked (look_of c.args.self.now.functions.now c.in-Update.at) integer) (names_of c.args.scope.now) ++ (asked (look_of c.args.self.now.functions.now c.in-Update.value) (element_of (value_sort ((names_of c.args.scope.now) c.in-Update.name)))) (names_of c.args.scope.now)) _ c.in_ok-sort-in-Update.ensures.holds (left ((asked (look_of c.args.self.now.functions.now c.in-Update.at) integer) (names_of c.args.scope.now)) ((asked (look_of c.args.self.now.functions.now c.in-Update.value) (element_of (value_sort ((names_of c.args.scope.now) c.in-Update.name)))) (names_of c.args.scope.now)) _ c.in_err-ask-in-Update.ensures)))

pub other-returns-in_err-ask-in-Update-2 : goal.other-returns-in_err-ask-in-Update-2
other-returns-in_err-ask-in-Update-2 t c =
    let element : c.element_of.result ≡ (element_of (value_sort ((names_of c.args.scope.now) c.in-Update.name))) = c.element_of.ensures ∙ ap element_of c.in_ok-sort-in-Update.ensures.value_is in
    rw (updated c.args.self.now.functions.now c.args.expr.now c.in-Update.name c.in-Update.at c.in-Update.value (sym c.get.ensures ∙ c.in-Update.is)) (handed_on _ _ _ _ _ _ c.from_residual-in_err-ask-in-Update-2.ensures.1 (right (known_array c.in-Update.name c.args.expr.now.place (names_of c.args.scope.now)) ((asked (look_of c.args.self.now.functions.now c.in-Update.at) integer) (names_of c.args.scope.now) ++ (asked (look_of c.args.self.now.functions.now c.in-Update.value) (element_of (value_sort ((names_of c.args.scope.now) c.in-Update.name)))) (names_of c.args.scope.now)) _ c.in_ok-sort-in-Update.ensures.holds (refused_2 ((asked (look_of c.args.self.now.functions.now c.in-Update.at) integer) (names_of c.args.scope.now)) (asked (look_of c.args.self.now.functions.now c.in-Update.value) (element_of (value_sort ((names_of c.args.scope.now) c.in-Update.name)))) (names_of c.args.scope.now) c.ask-in-Update.new.scope _ c.in_ok-ask-in-Update.ensures.holds c.in_ok-ask-in-Update.ensures.names_are (rw element at c.in_err-ask-in-Update-2.ensures))))

pub other-returns-in_ok-ask-in-Update-2 : goal.other-returns-in_ok-ask-in-Update-2
other-returns-in_ok-ask-in-Update-2 t c =
    let element : c.element_of.result ≡ (element_of (value_sort ((names_of c.args.scope.now) c.in-Update.name))) = c.element_of.ensures ∙ ap element_of c.in_ok-sort-in-Update.ensures.value_is in
    rw (updated c.args.self.now.functions.now c.args.expr.now c.in-Update.name c.in-Update.at c.in-Update.value (sym c.get.ensures ∙ c.in-Update.is)) (record {
      holds = both (known_array c.in-Update.name c.args.expr.now.place (names_of c.args.scope.now)) ((asked (look_of c.args.self.now.functions.now c.in-Update.at) integer) (names_of c.args.scope.now) ++ (asked (look_of c.args.self.now.functions.now c.in-Update.value) (element_of (value_sort ((names_of c.args.scope.now) c.in-Update.name)))) (names_of c.args.scope.now)) c.in_ok-sort-in-Update.ensures.holds (holds_2 ((asked (look_of c.args.self.now.functions.now c.in-Update.at) integer) (names_of c.args.scope.now)) (asked (look_of c.args.self.now.functions.now c.in-Update.value) (element_of (value_sort ((names_of c.args.scope.now) c.in-Update.name)))) (names_of c.args.scope.now) c.ask-in-Update.new.scope c.in_ok-ask-in-Update.ensures.holds c.in_ok-ask-in-Update.ensures.names_are (rw element at c.in_ok-ask-in-Update-2.ensures.holds));
      value_is = c.in_ok-sort-in-Update.ensures.value_is;
      names_are = c.in_ok-ask-in-Update-2.ensures.names_are ∙ c.in_ok-ask-in-Update.ensures.names_are;
    })

pub other-returns-in_default : goal.other-returns-in_default
other-returns-in_default t c =
    let nowhere : Nowhere c.args.expr.now.place (other_of c.args.self.now.functions.now c.args.expr.now) = is_neither c.args.self.now.functions.now c.args.expr.now
    (λ ds test assigns last is. c.in_default.not-For ds test assigns last (c.get.ensures ∙ is))
    (λ at value is. c.in_default.not-Array at value (c.get.ensures ∙ is))
    (λ name at value is. c.in_default.not-Update name at value (c.get.ensures ∙ is)) in
    λ _. ap (λ (ds : Names → List Demand). first_refusal (ds (names_of c.args.scope.now))) nowhere.demands_are

pub block-returns-in_default : goal.block-returns-in_default
block-returns-in_default t c =
    rw (is_forall c.args.self.now.functions.now c.args.expr.now
    (λ arms last is. c.in_default.not-If arms last (c.get.ensures ∙ is))
    (λ ds values is. c.in_default.not-Let ds values (c.get.ensures ∙ is))) c.forall.ensures

pub forall-returns-in_default : goal.forall-returns-in_default
forall-returns-in_default t c =
    rw (is_other c.args.self.now.functions.now c.args.expr.now
    (λ index low high elem is. c.in_default.not-Construct index low high elem (c.get.ensures ∙ is))
    (λ index low high op elem is. c.in_default.not-Fold index low high op elem (c.get.ensures ∙ is))) c.other.ensures

pub links-returns-in_err-ask : goal.links-returns-in_err-ask
links-returns-in_err-ask t c =
    handed_on _ _ _ _ _ _ c.from_residual.ensures.1 (refused_as (asked_links c.args.sort (map (λ (l : OneLink). (l.op, look_of c.args.self.now.functions.now l.operand)) c.args.rest.now) (names_of c.args.scope.now)) (asked_links c.args.sort (map (λ (l : OneLink). (l.op, look_of c.args.self.now.functions.now l.operand)) (drop c.loop-link.link-index c.args.rest.now)) (names_of c.args.scope.now)) _ c.loop-link.invariant.left
    (each_stop (λ (l : Op × Look). asked l.1 c.args.sort (names_of c.args.scope.now)) (λ (l : OneLink). (l.op, look_of c.args.self.now.functions.now l.operand)) c.args.rest.now c.loop-link.link-index c.link-item.result _ c.loop-link-test.true c.link-item.is (moved_refused (asked (look_of c.args.self.now.functions.now c.link-item.result.operand) c.args.sort) (names_of c.loop-link.scope) (names_of c.args.scope.now) _ c.loop-link.invariant.kept c.in_err-ask.ensures)))

pub links-loop-link-preserved : goal.links-loop-link-preserved
links-loop-link-preserved t c =
    record {
      left = c.loop-link.invariant.left ∙ each_step (λ (l : Op × Look). asked l.1 c.args.sort (names_of c.args.scope.now)) (λ (l : OneLink). (l.op, look_of c.args.self.now.functions.now l.operand)) c.args.rest.now c.loop-link.link-index c.link-item.result c.loop-link-test.true c.link-item.is (moved (asked (look_of c.args.self.now.functions.now c.link-item.result.operand) c.args.sort) (names_of c.loop-link.scope) (names_of c.args.scope.now) c.loop-link.invariant.kept c.in_ok-ask.ensures.holds);
      kept = c.in_ok-ask.ensures.names_are ∙ c.loop-link.invariant.kept;
    }

pub arms-returns-in_err-ask : goal.arms-returns-in_err-ask
arms-returns-in_err-ask t c =
    handed_on _ _ _ _ _ _ c.from_residual.ensures.1 (refused_as (asked_arms c.args.sort (map (λ (a : OneArm). (look_of c.args.self.now.functions.now a.test, look_of c.args.self.now.functions.now a.value)) c.args.arms.now) (names_of c.args.scope.now)) (asked_arms c.args.sort (map (λ (a : OneArm). (look_of c.args.self.now.functions.now a.test, look_of c.args.self.now.functions.now a.value)) (drop c.loop-arm.arm-index c.args.arms.now)) (names_of c.args.scope.now)) _ c.loop-arm.invariant.left
    (each_stop (λ (a : Look × Look). asked a.0 boolean (names_of c.args.scope.now) ++ asked a.1 c.args.sort (names_of c.args.scope.now)) (λ (a : OneArm). (look_of c.args.self.now.functions.now a.test, look_of c.args.self.now.functions.now a.value)) c.args.arms.now c.loop-arm.arm-index c.arm-item.result _ c.loop-arm-test.true c.arm-item.is (left ((asked (look_of c.args.self.now.functions.now c.arm-item.result.test) boolean) (names_of c.args.scope.now)) ((asked (look_of c.args.self.now.functions.now c.arm-item.result.value) c.args.sort) (names_of c.args.scope.now)) _ (moved_refused (asked (look_of c.args.self.now.functions.now c.arm-item.result.test) boolean) (names_of c.loop-arm.scope) (names_of c.args.scope.now) _ c.loop-arm.invariant.kept c.in_err-ask.ensures))))

pub arms-returns-in_err-ask-2 : goal.arms-returns-in_err-ask-2
arms-returns-in_err-ask-2 t c =
    handed_on _ _ _ _ _ _ c.from_residual-in_err-ask-2.ensures.1 (refused_as (asked_arms c.args.sort (map (λ (a : OneArm). (look_of c.args.self.now.functions.now a.test, look_of c.args.self.now.functions.now a.value)) c.args.arms.now) (names_of c.args.scope.now)) (asked_arms c.args.sort (map (λ (a : OneArm). (look_of c.args.self.now.functions.now a.test, look_of c.args.self.now.functions.now a.value)) (drop c.loop-arm.arm-index c.args.arms.now)) (names_of c.args.scope.now)) _ c.loop-arm.invariant.left
    (each_stop (λ (a : Look × Look). asked a.0 boolean (names_of c.args.scope.now) ++ asked a.1 c.args.sort (names_of c.args.scope.now)) (λ (a : OneArm). (look_of c.args.self.now.functions.now a.test, look_of c.args.self.now.functions.now a.value)) c.args.arms.now c.loop-arm.arm-index c.arm-item.result _ c.loop-arm-test.true c.arm-item.is (refused_2 ((asked (look_of c.args.self.now.functions.now c.arm-item.result.test) boolean) (names_of c.args.scope.now)) (asked (look_of c.args.self.now.functions.now c.arm-item.result.value) c.args.sort) (names_of c.args.scope.now) c.ask.new.scope _ (moved (asked (look_of c.args.self.now.functions.now c.arm-item.result.test) boolean) (names_of c.loop-arm.scope) (names_of c.args.scope.now) c.loop-arm.invariant.kept c.in_ok-ask.ensures.holds) (c.in_ok-ask.ensures.names_are ∙ c.loop-arm.invariant.kept) c.in_err-ask-2.ensures)))

pub arms-loop-arm-preserved : goal.arms-loop-arm-preserved
arms-loop-arm-preserved t c =
    record {
      left = c.loop-arm.invariant.left ∙ each_step (λ (a : Look × Look). asked a.0 boolean (names_of c.args.scope.now) ++ asked a.1 c.args.sort (names_of c.args.scope.now)) (λ (a : OneArm). (look_of c.args.self.now.functions.now a.test, look_of c.args.self.now.functions.now a.value)) c.args.arms.now c.loop-arm.arm-index c.arm-item.result c.loop-arm-test.true c.arm-item.is (holds_2 ((asked (look_of c.args.self.now.functions.now c.arm-item.result.test) boolean) (names_of c.args.scope.now)) (asked (look_of c.args.self.now.functions.now c.arm-item.result.value) c.args.sort) (names_of c.args.scope.now) c.ask.new.scope (moved (asked (look_of c.args.self.now.functions.now c.arm-item.result.test) boolean) (names_of c.loop-arm.scope) (names_of c.args.scope.now) c.loop-arm.invariant.kept c.in_ok-ask.ensures.holds) (c.in_ok-ask.ensures.names_are ∙ c.loop-arm.invariant.kept) c.in_ok-ask-2.ensures.holds);
      kept = c.in_ok-ask-2.ensures.names_are ∙ (c.in_ok-ask.ensures.names_are ∙ c.loop-arm.invariant.kept);
    }

pub assigns-returns-in_err-ask : goal.assigns-returns-in_err-ask
assigns-returns-in_err-ask t c =
    handed_on _ _ _ _ _ _ c.from_residual-in_err-ask.ensures.1 (refused_as (assign_demands (names_of c.args.names.now) (given (look_of c.args.self.now.functions.now) c.args.assigns.now) (names_of c.args.scope.now)) (assign_demands (names_of c.args.names.now) (given (look_of c.args.self.now.functions.now) (drop c.loop-assign.assign-index c.args.assigns.now)) (names_of c.args.scope.now)) _ c.loop-assign.invariant.left
    (each_stop (λ (a : Named × Look). known a.0.name a.0.place (names_of c.args.names.now) ∷ asked a.1 (value_sort ((names_of c.args.names.now) a.0.name)) (names_of c.args.scope.now)) (λ (a : OneAssign). (a.name, look_of c.args.self.now.functions.now a.value)) c.args.assigns.now c.loop-assign.assign-index c.assign-item.result _ c.loop-assign-test.true c.assign-item.is
    (right (known c.assign-item.result.name.name c.assign-item.result.name.place (names_of c.args.names.now) ∷ []) ((asked (look_of c.args.self.now.functions.now c.assign-item.result.value) (value_sort ((names_of c.args.names.now) c.assign-item.result.name.name))) (names_of c.args.scope.now)) _ c.in_ok-sort.ensures.holds (moved_refused (asked (look_of c.args.self.now.functions.now c.assign-item.result.value) (value_sort ((names_of c.args.names.now) c.assign-item.result.name.name))) (names_of c.loop-assign.scope) (names_of c.args.scope.now) _ c.loop-assign.invariant.kept (rw c.in_ok-sort.ensures.value_is at c.in_err-ask.ensures)))))

pub assigns-loop-assign-preserved : goal.assigns-loop-assign-preserved
assigns-loop-assign-preserved t c =
    record {
      left = c.loop-assign.invariant.left ∙ each_step (λ (a : Named × Look). known a.0.name a.0.place (names_of c.args.names.now) ∷ asked a.1 (value_sort ((names_of c.args.names.now) a.0.name)) (names_of c.args.scope.now)) (λ (a : OneAssign). (a.name, look_of c.args.self.now.functions.now a.value)) c.args.assigns.now c.loop-assign.assign-index c.assign-item.result c.loop-assign-test.true c.assign-item.is
          (both (known c.assign-item.result.name.name c.assign-item.result.name.place (names_of c.args.names.now) ∷ []) ((asked (look_of c.args.self.now.functions.now c.assign-item.result.value) (value_sort ((names_of c.args.names.now) c.assign-item.result.name.name))) (names_of c.args.scope.now)) c.in_ok-sort.ensures.holds (moved (asked (look_of c.args.self.now.functions.now c.assign-item.result.value) (value_sort ((names_of c.args.names.now) c.assign-item.result.name.name))) (names_of c.loop-assign.scope) (names_of c.args.scope.now) c.loop-assign.invariant.kept (rw c.in_ok-sort.ensures.value_is at c.in_ok-ask.ensures.holds)));
      kept = c.in_ok-ask.ensures.names_are ∙ c.loop-assign.invariant.kept;
    }

pub define-returns-in_err-ask : goal.define-returns-in_err-ask
define-returns-in_err-ask t c =
    handed_on _ _ _ _ _ _ c.from_residual-in_err-ask.ensures.1 (refused_as (definition_demands (typed (look_of c.args.self.now.functions.now) c.args.definitions.now) (names_of c.args.scope.now)) (definition_demands (typed (look_of c.args.self.now.functions.now) (drop c.loop-definition.definition-index c.args.definitions.now)) (names_of c.loop-definition.scope)) _ c.loop-definition.invariant.left
    (definition_stop (look_of c.args.self.now.functions.now) c.args.definitions.now c.loop-definition.definition-index c.definition-item.result (names_of c.loop-definition.scope) _ c.loop-definition-test.true c.definition-item.is (right (fresh c.definition-item.result.name (names_of c.loop-definition.scope) ∷ []) (asked (look_of c.args.self.now.functions.now c.definition-item.result.value) c.definition-item.result.sort (names_of c.loop-definition.scope)) _ c.in_ok-ask_fresh.ensures.holds c.in_err-ask.ensures)))

pub define-loop-definition-preserved : goal.define-loop-definition-preserved
define-loop-definition-preserved t c =
    let after : names_of c.bind.new.self ≡ bind (names_of c.loop-definition.scope) c.definition-item.result.name.name (entry.Local c.definition-item.result.sort) = c.in_ok-bind.ensures.ok ∙ ap (λ m. bind m c.definition-item.result.name.name (entry.Local c.definition-item.result.sort)) c.in_ok-ask.ensures.names_are in
    record {
      left = rw after (c.loop-definition.invariant.left ∙ definition_step (look_of c.args.self.now.functions.now) c.args.definitions.now c.loop-definition.definition-index c.definition-item.result (names_of c.loop-definition.scope) c.loop-definition-test.true c.definition-item.is (both (fresh c.definition-item.result.name (names_of c.loop-definition.scope) ∷ []) (asked (look_of c.args.self.now.functions.now c.definition-item.result.value) c.definition-item.result.sort (names_of c.loop-definition.scope)) c.in_ok-ask_fresh.ensures.holds c.in_ok-ask.ensures.holds));
      inner = rw after (c.loop-definition.invariant.inner ∙ local_step c.args.definitions.now c.loop-definition.definition-index c.definition-item.result (names_of c.loop-definition.scope) c.loop-definition-test.true c.definition-item.is);
    }

pub arguments-returns-in_err-ask : goal.arguments-returns-in_err-ask
arguments-returns-in_err-ask t c =
    let within : c.loop-i.i < length c.args.parameters.now = omega (arith, c.requires, c.loop-i-test.true) in
    handed_on _ _ _ _ _ _ c.from_residual.ensures.1 (refused_as (asked_each (map (look_of c.args.self.now.functions.now) c.args.arguments.now) (map (λ (p : OneParameter). p.sort) c.args.parameters.now) (names_of c.args.scope.now)) (asked_each (map (look_of c.args.self.now.functions.now) (drop c.loop-i.i c.args.arguments.now)) (map (λ (p : OneParameter). p.sort) (drop c.loop-i.i c.args.parameters.now)) (names_of c.args.scope.now)) _ c.loop-i.invariant.left
    (each_refused (look_of c.args.self.now.functions.now) (λ (p : OneParameter). p.sort) (names_of c.args.scope.now) c.args.arguments.now c.args.parameters.now c.loop-i.i c.index-arguments-i.result c.index-parameters-i.result _ c.loop-i-test.true within c.index-arguments-i.is c.index-parameters-i.is (moved_refused (asked (look_of c.args.self.now.functions.now c.index-arguments-i.result) c.index-parameters-i.result.sort) (names_of c.loop-i.scope) (names_of c.args.scope.now) _ c.loop-i.invariant.kept (rw (← c.index-parameters-i.is) at c.in_err-ask.ensures))))

pub arguments-loop-i-preserved : goal.arguments-loop-i-preserved
arguments-loop-i-preserved t c =
    let within : c.loop-i.i < length c.args.parameters.now = omega (arith, c.requires, c.loop-i-test.true) in
    record {
      left = c.loop-i.invariant.left ∙ each_asked (look_of c.args.self.now.functions.now) (λ (p : OneParameter). p.sort) (names_of c.args.scope.now) c.args.arguments.now c.args.parameters.now c.loop-i.i c.index-arguments-i.result c.index-parameters-i.result c.loop-i-test.true within c.index-arguments-i.is c.index-parameters-i.is (moved (asked (look_of c.args.self.now.functions.now c.index-arguments-i.result) c.index-parameters-i.result.sort) (names_of c.loop-i.scope) (names_of c.args.scope.now) c.loop-i.invariant.kept (rw (← c.index-parameters-i.is) at c.in_ok-ask.ensures.holds));
      kept = c.in_ok-ask.ensures.names_are ∙ c.loop-i.invariant.kept;
    }
