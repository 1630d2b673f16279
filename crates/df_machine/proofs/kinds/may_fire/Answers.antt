use Rattle.std.proofs.Common.{◌≡◌, ◌-◌, ℕ, List, get_or, length, Some, ap, ◌∙◌, sym}
use Rattle.df_cells.specs.Kinds.{limit, run_values}
use Rattle.df_machine.specs.Events.{is_below}
use Rattle.df_machine.specs.RunEnds.{ends_of}
use Rattle.df_machine.proofs.RunEnds.{total_of}
use Rattle.df_machine.proofs.kinds.may_fire.Goals as goal

pub returns-in-Ctl : goal.returns-in-Ctl
returns-in-Ctl c =
    let total : c.total.result ≡ length (run_values c.in-Ctl.runs) =
    c.total.ensures ∙ ap (λ (l : List ℕ). get_or l (length l - 1) 0) (c.requires ∙ ap ends_of c.in-Ctl.is) ∙ total_of c.in-Ctl.runs in
    ap (λ n. is_below c.args.fired (Some n)) total ∙ ap (λ k. is_below c.args.fired (limit k)) (sym c.in-Ctl.is)
