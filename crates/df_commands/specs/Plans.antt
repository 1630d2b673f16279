-- What the orders and the plans of the code mean.
use Rattle.std.specs.Prelude.{List, ℕ, Bool, ◌==◌, map, string_bytes}
use Rattle.df_machine.specs.Events.{possible}
use Rattle.df_machine.specs.Runs.{after}
use Rattle.df_machine.specs.States.{start}
use Rattle.df_trace.specs.Traces.{trace_text}
use Rattle.df_commands.specs.declared.ending.Ending.{Ending}
use Rattle.df_commands.specs.declared.ending.Ending.TheVariants.{Text, Trace}
use Rattle.df_commands.specs.declared.command.Order.{Order as CodeOrder}
use Rattle.df_commands.specs.declared.plan.NewFile.{NewFile}
use Rattle.df_commands.specs.declared.plan.Plan.{Plan}
use Rattle.df_commands.specs.Commands.{Order}
use Rattle.df_commands.specs.Effects.{Effect}

abbrev pub order_meant : CodeOrder → Order
order_meant order = record { command = order.command; reads = map string_bytes order.reads.now; writes = map string_bytes order.writes.now }

abbrev pub file_of : NewFile → List ℕ × List ℕ
file_of file = (string_bytes file.name.now, file.bytes)

-- what is written to the sink, and whether the command is done then
abbrev pub said : Ending → List ℕ
said (Text text is_done) = text
said (Trace run) = trace_text run.cells run.inputs (start run.cells) run.choices

abbrev pub ends_done : Ending → Bool
ends_done (Text text is_done) = is_done
ends_done (Trace run) = possible run.cells (after run.cells run.inputs run.choices) == 0

abbrev pub effect_of : Plan → Effect
effect_of plan = record { files = map file_of plan.files.items; text = said plan.ending; is_done = ends_done plan.ending }
