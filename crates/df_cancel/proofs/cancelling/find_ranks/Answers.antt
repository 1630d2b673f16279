use Rattle.std.proofs.Common.{◌^◌, sym, subst, arith}
use Rattle.df_cancel.specs.Rows.{StepsWithin}
use Rattle.df_cancel.specs.Found.{IsFound}
use Rattle.df_cancel.specs.declared.trace.Found.TheVariants.{Numbers, Cycle}
use Rattle.df_cancel.proofs.Ranks.{no_unit_cycle, units_within, ranked}
use Rattle.df_cancel.proofs.cancelling.find_ranks.Goals as goal

pub search-requires-clause-steps : goal.search-requires-clause-steps
search-requires-clause-steps c = subst (StepsWithin c.args.nodes (2 ^ 20)) (sym c.deref.ensures.value) (units_within c.args.nodes (2 ^ 20) c.args.arcs.now c.in_ok-steps.steps.items c.requires.ends (omega arith) c.in_ok-steps.ensures)

pub returns : goal.returns
returns c =
    let found = subst (λ l. IsFound c.args.nodes l (Numbers c.in-Numbers.numbers)) c.deref.ensures.value (rw c.in-Numbers.is at c.in_ok-numbers.ensures) in
    ranked c.args.nodes c.args.arcs.now c.in_ok-steps.steps.items c.in-Numbers.numbers.items c.requires.ends c.in_ok-steps.ensures found.1 found.2

pub unreachable-requires : goal.unreachable-requires
unreachable-requires c =
    let found = subst (λ l. IsFound c.args.nodes l (Cycle c.in_default.field-0)) c.deref.ensures.value (rw c.in_default.is at c.in_ok-numbers.ensures) in
    no_unit_cycle c.args.nodes c.args.arcs.now c.in_ok-steps.steps.items c.in_default.field-0.items c.requires.acyclic c.in_ok-steps.ensures found
