use Rattle.std.proofs.Common.{refl, sym, ◌∙◌}
use Rattle.df_stages.proofs.Parts.{fed_within}
use Rattle.df_dual_check.proofs.Risen.{carried_rise, rise_carried, none_carried}
use Rattle.df_dual_check.proofs.rising.buffers_rise.Goals as goal

pub rise_from-requires-clause-within : goal.rise_from-requires-clause-within
rise_from-requires-clause-within c = fed_within c.args.cells.now c.requires.well_formed c.args.to c.in-Some.from c.requires.within (sym c.producer_of.ensures ∙ c.in-Some.is)

pub returns-in-Some : goal.returns-in-Some
returns-in-Some c =
    let fed = sym c.producer_of.ensures ∙ c.in-Some.is in
    ((λ t. carried_rise c.args.cells.now c.args.to c.in-Some.from fed (c.rise_from.ensures.0 t)), (λ rise. c.rise_from.ensures.1 (rise_carried c.args.cells.now c.args.to c.in-Some.from fed rise)))

pub returns-in-None : goal.returns-in-None
returns-in-None c = ((λ t. none_carried c.args.cells.now c.args.to (sym c.producer_of.ensures ∙ c.in-None.is)), (λ rise. refl))
