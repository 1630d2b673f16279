use Rattle.std.proofs.Common.{◌≡◌, drop}
use Rattle.df_shape.specs.NamesInside.{in_links, in_arms, in_definitions, in_assigns, in_values}
use Rattle.df_shape.proofs.naming.+naming.Given as goal

abbrev pub invariant-in_arms-loop-arm : goal.invariant-in_arms-loop-arm
invariant-in_arms-loop-arm l = in_arms l.name l.arms ≡ in_arms l.name (drop l.arm-index l.arms)

abbrev pub invariant-in_assigns-loop-assign : goal.invariant-in_assigns-loop-assign
invariant-in_assigns-loop-assign l = in_assigns l.name l.assigns ≡ in_assigns l.name (drop l.assign-index l.assigns)

abbrev pub invariant-in_definitions-loop-definition : goal.invariant-in_definitions-loop-definition
invariant-in_definitions-loop-definition l = in_definitions l.name l.definitions ≡ in_definitions l.name (drop l.definition-index l.definitions)

abbrev pub invariant-in_links-loop-link : goal.invariant-in_links-loop-link
invariant-in_links-loop-link l = in_links l.name l.links ≡ in_links l.name (drop l.link-index l.links)

abbrev pub invariant-in_values-loop-value : goal.invariant-in_values-loop-value
invariant-in_values-loop-value l = in_values l.name l.values ≡ in_values l.name (drop l.value-index l.values)
