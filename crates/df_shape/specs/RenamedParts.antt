-- The parts of a form in blocks.
use Rattle.std.specs.Prelude.{List, map}
use Rattle.df_syntax.specs.declared.tree.Link.{Link}
use Rattle.df_syntax.specs.declared.tree.Arm.{Arm}
use Rattle.df_syntax.specs.declared.tree.Definition.{Definition}
use Rattle.df_syntax.specs.declared.tree.Assign.{Assign}
use Rattle.df_syntax.specs.Grammar.{link_of, arm_of, definition_of, assign_of}
use Rattle.df_shape.specs.Renamed.{Names, renamed}

abbrev pub links_renamed : Names → List Link → List Link
links_renamed names links = map (λ (l : Link). link_of (l.op, renamed names l.operand)) links

abbrev pub arms_renamed : Names → List Arm → List Arm
arms_renamed names arms = map (λ (a : Arm). arm_of (renamed names a.test) (renamed names a.value)) arms

abbrev pub definitions_renamed : Names → List Definition → List Definition
definitions_renamed names definitions = map (λ (d : Definition). definition_of d.name d.sort (renamed names d.value)) definitions

abbrev pub assigns_renamed : Names → List Assign → List Assign
assigns_renamed names assigns = map (λ (a : Assign). assign_of a.name (renamed names a.value)) assigns
