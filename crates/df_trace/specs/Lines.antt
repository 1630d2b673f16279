-- The line of each event.
use Rattle.std.specs.Prelude.{ℕ, List, ◌++◌, codes}
use Rattle.std.specs.Fmt.{decimal}
use Rattle.df_values.specs.Spelling.{spelled}
use Rattle.df_cells.specs.declared.cells.Dest.{Dest}
use Rattle.df_machine.specs.declared.packets.Event.{Event}
use Rattle.df_machine.specs.declared.packets.Event.TheVariants.{Fire, Perform, Arrive, Ack}

-- a port: its cell and its number, with a dot between them
abbrev pub port_text : Dest → List ℕ
port_text d = decimal d.cell.0 ++ (codes "." ++ decimal d.port.0)

abbrev pub line_of : Event → List ℕ
line_of (Fire c) = codes "F " ++ decimal c.0
line_of (Perform c) = codes "D " ++ decimal c.0
line_of (Arrive d v) = codes "R " ++ (port_text d ++ (codes " " ++ spelled v))
line_of (Ack d) = codes "A " ++ port_text d
