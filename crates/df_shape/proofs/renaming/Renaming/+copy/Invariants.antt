use Rattle.std.proofs.Common.{◌≡◌, take, map}
use Rattle.df_names.specs.Found.{names_of}
use Rattle.df_shape.specs.Renamed.{renamed}
use Rattle.df_shape.specs.RenamedParts.{links_renamed, arms_renamed, definitions_renamed, assigns_renamed}
use Rattle.df_shape.proofs.renaming.Renaming.+copy.Given as goal

abbrev pub invariant-exprs-loop-expr : goal.invariant-exprs-loop-expr
invariant-exprs-loop-expr l = l.copies ≡ map (renamed (names_of l.self.names.now)) (take l.expr-index l.exprs)

abbrev pub invariant-links-loop-link : goal.invariant-links-loop-link
invariant-links-loop-link l = l.copies ≡ links_renamed (names_of l.self.names.now) (take l.link-index l.links)

abbrev pub invariant-arms-loop-arm : goal.invariant-arms-loop-arm
invariant-arms-loop-arm l = l.copies ≡ arms_renamed (names_of l.self.names.now) (take l.arm-index l.arms)

abbrev pub invariant-definitions-loop-definition : goal.invariant-definitions-loop-definition
invariant-definitions-loop-definition l = l.copies ≡ definitions_renamed (names_of l.self.names.now) (take l.definition-index l.definitions)

abbrev pub invariant-assigns-loop-assign : goal.invariant-assigns-loop-assign
invariant-assigns-loop-assign l = l.copies ≡ assigns_renamed (names_of l.self.names.now) (take l.assign-index l.assigns)
