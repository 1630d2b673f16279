use Rattle.std.proofs.Common.{sym, ap, ◌∙◌}
use Rattle.std.specs.Option.{option_map}
use Rattle.df_machine.specs.declared.packets.Action.TheVariants as action
use Rattle.df_trace.proofs.Names.{fires, fires_none, performs, performs_none, acks}
use Rattle.df_trace.proofs.naming.action_in.Goals as goal

pub returns-in-Some-leading_cell : goal.returns-in-Some-leading_cell
returns-in-Some-leading_cell c = λ event within named.
    fires c.args.line.now c.in-Some.rest.now c.in-Some-leading_cell.cell event c.in-Some.ensures.some
    (λ n behind small leads. (c.in-Some-leading_cell.ensures n behind small leads).0) within named

pub returns-in-None : goal.returns-in-None
returns-in-None c = λ event within named. absurd (
    fires_none c.args.line.now c.in-Some.rest.now event c.in-Some.ensures.some (λ n behind small leads. c.in-None.ensures n behind small leads) within named
    )

pub returns-in-Some-leading_cell-2 : goal.returns-in-Some-leading_cell-2
returns-in-Some-leading_cell-2 c = λ event within named.
    performs c.args.line.now c.in-Some-behind.rest.now c.in-Some-leading_cell-2.cell event c.in-Some-behind.ensures.some
    (λ n behind small leads. (c.in-Some-leading_cell-2.ensures n behind small leads).0) within named

pub returns-in-None-leading_cell : goal.returns-in-None-leading_cell
returns-in-None-leading_cell c = λ event within named. absurd (
    performs_none c.args.line.now c.in-Some-behind.rest.now event c.in-Some-behind.ensures.some
    (λ n behind small leads. c.in-None-leading_cell.ensures n behind small leads) within named
    )

pub returns-in-Some-leading_port-2 : goal.returns-in-Some-leading_port-2
returns-in-Some-leading_port-2 c = λ event within named.
    ap (option_map action.Ack) (sym c.in-Some-leading_port-2.is)
    ∙ acks c.args.line.now c.in-Some-behind-3.rest.now c.leading_port-in-Some-behind-3.result event c.in-Some-behind-3.ensures.some c.leading_port-in-Some-behind-3.ensures within named

pub returns-in-None-leading_port-2 : goal.returns-in-None-leading_port-2
returns-in-None-leading_port-2 c = λ event within named.
    ap (option_map action.Ack) (sym c.in-None-leading_port-2.is)
    ∙ acks c.args.line.now c.in-Some-behind-3.rest.now c.leading_port-in-Some-behind-3.result event c.in-Some-behind-3.ensures.some c.leading_port-in-Some-behind-3.ensures within named
