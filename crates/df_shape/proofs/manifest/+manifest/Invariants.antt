use Rattle.std.proofs.Common.{◌≡◌, take}
use Rattle.df_syntax.specs.MeaningParts.{joined_by}
use Rattle.df_syntax.specs.SourceForms.{manifest_value}
use Rattle.df_names.specs.Found.{names_of}
use Rattle.df_shape.proofs.manifest.+manifest.Given as goal

abbrev pub invariant-joined-loop-link : goal.invariant-joined-loop-link
invariant-joined-loop-link l = l.joined ≡ joined_by (manifest_value (names_of l.numbers)) l.fn.first (take l.link-index l.rest)
