-- The text of the report of a run, and what is told of least buffers.
use Rattle.std.specs.Prelude.{ℕ, List, ◌∷◌, ◌++◌, if◌then◌else◌, not, length, codes}
use Rattle.std.specs.List.{flat_map, count_by}
use Rattle.std.specs.Fmt.{decimal}
use Rattle.df_machine.specs.Reports.{Report}
use Rattle.df_iotext.specs.Printed.{result_lines}
use Rattle.df_cells.specs.declared.cells.Cell.{Cell}
use Rattle.df_cells.specs.Kinds.{is_buffer}
use Rattle.df_stages.specs.Skeletons.{buffers}
use Rattle.df_commands.specs.Lines.{line}

-- each number behind a space
abbrev pub spaced_counts : List ℕ → List ℕ
spaced_counts counts = flat_map (λ count. 32 ∷ decimal count) counts

unfoldable pub report_text : Report → List ℕ
report_text report =
    line (if report.drained then codes "drained" else codes "stopped")
    ++ (line (codes "events " ++ decimal report.events)
    ++ (result_lines 1 report.results
    ++ line (codes "fired" ++ spaced_counts report.fired)))

-- how many cells are no BUF cells
abbrev pub others : List Cell → ℕ
others cells = count_by (λ cell. not (is_buffer cell.kind)) cells

-- how many cells are no BUF cells, and how many are
unfoldable pub counts_text : List Cell → List ℕ
counts_text cells = line (codes "skeleton " ++ decimal (others cells)) ++ line (codes "buffers " ++ decimal (buffers cells))

-- what is told of cells whose buffers are least
abbrev pub least_text : List Cell → List ℕ
least_text cells = line (codes "verified") ++ counts_text cells

-- what is told of cells that are written anew
abbrev pub migrated_text : List Cell → List ℕ
migrated_text cells = line (codes "migrated " ++ decimal (length cells))
