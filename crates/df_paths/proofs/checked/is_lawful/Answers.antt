use Rattle.std.proofs.Common.{◌*◌, ◌<◌, ◌≤◌, ◌^◌, List, length, get_or, IsTrue, refl, ap, subst, arith}
use Rattle.std.proofs.Math.Nat.{mul-le-mul_left}
use Rattle.std.proofs.lemmas.List.{get_or_default}
use Rattle.df_cancel.specs.Balances.{IsBalance, IsTight}
use Rattle.df_cancel.proofs.Tables.{within_weaker}
use Rattle.df_paths.proofs.Lawful.{lawful}
use Rattle.df_paths.proofs.checked.is_lawful.Goals as goal

pub are_settled-requires-clause-stages : goal.are_settled-requires-clause-stages
are_settled-requires-clause-stages c =
    let nodes = length c.nodes-nodes.result.now in
    let few : nodes ≤ 65536 = let most = c.nodes-nodes.ensures.lawful.few_nodes in let same = ap (λ (l : List _). length l) c.nodes-nodes.ensures.nodes in omega (arith, most, same) in
    let most = mul-le-mul_left nodes c.greatest_weight.ensures.bound in
    let small : nodes * c.greatest_weight.result ≤ 2 ^ 40 = omega (arith, most, few) in
    within_weaker (nodes * c.greatest_weight.result) (2 ^ 40) c.args.stages.now (c.if-not-are_within.ensures.0 refl) small

pub returns : goal.returns
returns c =
    let both : IsTrue c.is_conserved.result → IsBalance c.args.s.now c.args.stages.now c.args.flow.now × IsTight c.args.s.now c.args.stages.now c.args.flow.now = λ t.
    lawful c.args.s.now c.args.stages.now c.args.flow.now c.arcs-arcs.result.now (length c.nodes-nodes.result.now) c.greatest_weight.result
    c.arcs-arcs.ensures.arcs (ap (λ (l : List _). length l) c.nodes-nodes.ensures.nodes) c.nodes-nodes.ensures.lawful.ends
    (omega arith) (omega arith) (λ k d l. subst (λ f. f < 2 ^ 32) (get_or_default c.args.flow.now k 0 d l) (let fits = c.type_inv.flow k in let small : get_or c.args.flow.now k 0 < 2 ^ 32 = omega (arith, fits) in small))
    c.greatest_weight.ensures.least (c.if-not-are_within.ensures.0 refl) (c.if-not-has_lowest.ensures.0 refl) (c.if-not-are_settled.ensures.0 refl)
    (c.is_conserved.ensures.0 t) in
    record { balance = λ t. (both t).0; tight = λ t. (both t).1 }
