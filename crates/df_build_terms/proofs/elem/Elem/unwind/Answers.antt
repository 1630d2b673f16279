use Rattle.std.proofs.Common.{◌≡◌, ◌∙◌, ap, sym, [], ◌∷◌, ◌++◌}
use Rattle.std.specs.Option.{option_to_list}
use Rattle.df_build_terms.specs.Building.{at}
use Rattle.df_build_terms.specs.Parts.{close, unwound}
use Rattle.df_build_terms.specs.Seen.{building_of}
use Rattle.df_build_terms.proofs.Unwinding.{unwound_last, closed}
use Rattle.df_build_terms.proofs.elem.Elem.unwind.Goals as goal

pub loop-arm-preserved : goal.loop-arm-preserved
loop-arm-preserved g c =
    let keep = g.G.Graphs.keep in
    let graph = g.G.Graphs.graph in
    let items : c.loop-arm.opened.items ≡ c.pop.new.self.items ++ c.in-Some.arm ∷ [] = c.pop.ensures.items ∙ ap (λ o. c.pop.new.self.items ++ option_to_list o) c.in-Some.is in
    let once : at (building_of graph c.chosen.new.self) c.in_ok-value.value ≡ close keep c.in-Some.arm (at (building_of graph c.loop-arm.self) c.loop-arm.value) =
    closed keep c.in-Some.arm (building_of graph c.loop-arm.self) (building_of graph c.leave.new.self) c.loop-arm.value (at (building_of graph c.chosen.new.self) c.in_ok-value.value) c.leave.ensures (c.in_ok-value.ensures {u = tt}) in
    ap (unwound keep c.pop.new.self.items) once
    ∙ (sym (unwound_last keep c.pop.new.self.items c.in-Some.arm (at (building_of graph c.loop-arm.self) c.loop-arm.value))
    ∙ (ap (λ l. unwound keep l (at (building_of graph c.loop-arm.self) c.loop-arm.value)) (sym items) ∙ c.loop-arm.invariant))
