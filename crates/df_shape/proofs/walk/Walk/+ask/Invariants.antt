use Rattle.std.proofs.Common.{◌≡◌, drop}
use Rattle.df_syntax.specs.Demands.{first_refusal}
use Rattle.df_shape.specs.Demands.{all_of, definitions_demands}
use Rattle.df_shape.specs.Walks.{around_of, looks, link_looks, arm_looks, definition_looks, links_demands, arms_demands}
use Rattle.df_shape.proofs.walk.Walk.+ask.Given as goal

abbrev pub invariant-ask_each-loop-expr : goal.invariant-ask_each-loop-expr
invariant-ask_each-loop-expr l =
    first_refusal (all_of (looks l.exprs) (around_of l.self l.context)) ≡ first_refusal (all_of (looks (drop l.expr-index l.exprs)) (around_of l.self l.context))

abbrev pub invariant-ask_links-loop-link : goal.invariant-ask_links-loop-link
invariant-ask_links-loop-link l =
    first_refusal (links_demands (around_of l.self l.context) (link_looks l.links)) ≡ first_refusal (links_demands (around_of l.self l.context) (link_looks (drop l.link-index l.links)))

abbrev pub invariant-ask_arms-loop-arm : goal.invariant-ask_arms-loop-arm
invariant-ask_arms-loop-arm l =
    first_refusal (arms_demands (around_of l.self l.context) (arm_looks l.arms)) ≡ first_refusal (arms_demands (around_of l.self l.context) (arm_looks (drop l.arm-index l.arms)))

abbrev pub invariant-ask_definitions-loop-definition : goal.invariant-ask_definitions-loop-definition
invariant-ask_definitions-loop-definition l =
    first_refusal (definitions_demands (around_of l.self l.context) (definition_looks l.definitions)) ≡ first_refusal (definitions_demands (around_of l.self l.context) (definition_looks (drop l.definition-index l.definitions)))
