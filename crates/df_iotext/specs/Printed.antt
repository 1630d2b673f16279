-- The texts that are printed.
use Rattle.std.specs.Prelude.{ℕ, zero, suc, ◌+◌, List, [], ◌∷◌, ◌++◌, map, codes}
use Rattle.std.specs.List.{join_with_byte}
use Rattle.std.specs.Fmt.{decimal}
use Rattle.df_values.specs.declared.values.Value.{Value}
use Rattle.df_values.specs.Spelling.{spaced_values}
use Rattle.df_cells.specs.declared.schedules.Schedule.{Schedule}

-- `result K =` and for each value a space and its spelling
abbrev pub result_line : ℕ → List Value → List ℕ
result_line k values = codes "result " ++ (decimal k ++ (codes " =" ++ (spaced_values values ++ codes "\n")))

-- a line for each list, the first of them numbered k
abbrev pub result_lines : ℕ → List (List Value) → List ℕ
result_lines k [] = []
result_lines k (values ∷ lists) = result_line k values ++ result_lines (k + 1) lists

-- ` drain N`, or nothing for a drain of 0
abbrev pub drain_text : ℕ → List ℕ
drain_text zero = []
drain_text (suc n) = codes " drain " ++ decimal (suc n)

-- the choices parted by one space, the drain, and a line feed
abbrev pub schedule_text : Schedule → List ℕ
schedule_text schedule = join_with_byte 32 (map decimal schedule.choices) ++ (drain_text schedule.drain ++ codes "\n")
