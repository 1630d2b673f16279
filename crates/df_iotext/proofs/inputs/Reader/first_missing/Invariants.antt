-- The inputs so far have no place.
use Rattle.std.proofs.Common.{◌≡◌, ℕ, ◌<◌, None}
use Rattle.std.specs.Prelude.{slice_get, Some}
use Rattle.df_cells.specs.declared.cells.InputDecl.{InputDecl}
use Rattle.df_iotext.specs.Readers.{place_of_name}
use Rattle.df_iotext.proofs.inputs.Reader.first_missing.Given as goal

abbrev pub invariant-loop-decl : goal.invariant-loop-decl
invariant-loop-decl l = (j : ℕ) (decl : InputDecl) → j < l.decl-index → slice_get l.decls j ≡ Some decl → place_of_name l.self.open decl.name ≡ None
