-- What is declared of the inputs of a source.
use Rattle.std.specs.Prelude.{List, map}
use Rattle.df_values.specs.declared.inputs.Input.{Input}
use Rattle.df_cells.specs.declared.cells.InputDecl.{InputDecl}
use Rattle.df_build_elem.specs.Program.{declared_input}

-- of each parameter: its name, its type and how many values it has
abbrev pub decls_by : List Input → List InputDecl
decls_by = map declared_input
