use Rattle.std.proofs.Common.{◌≡◌, take, drop, length}
use Rattle.df_core.specs.declared.terms.Term.{Term}
use Rattle.df_build_terms.specs.Building.{at}
use Rattle.df_build_terms.specs.Built.{built}
use Rattle.df_build_terms.specs.Parts.{chained_by, choose_by, defined_by, unwound}
use Rattle.df_build_terms.specs.Seen.{building_of}
use Rattle.df_build_terms.proofs.elem.Elem.+term.Given as goal

abbrev pub invariant-chain-loop-step : goal.invariant-chain-loop-step
invariant-chain-loop-step g l = record {
  done : at (building_of g.G.Graphs.graph l.self) l.done
      ≡ chained_by g.G.Graphs.keep (built g.G.Graphs.keep l.turns l.outer) l.initial.locals.items (at (building_of g.G.Graphs.graph l.initial.self) l.fn.first) (take l.step-index l.rest);
  kept : l.locals.items ≡ l.initial.locals.items;
}

abbrev pub invariant-define-loop-definition : goal.invariant-define-loop-definition
invariant-define-loop-definition g l = record {
  done : record { locals = l.locals.items; state = building_of g.G.Graphs.graph l.self }
      ≡ defined_by (built g.G.Graphs.keep l.turns l.outer) (record { locals = l.initial.locals.items; state = building_of g.G.Graphs.graph l.initial.self }) (take l.definition-index l.definitions);
  kept : take (length l.initial.locals.items) l.locals.items ≡ l.initial.locals.items;
}

abbrev pub invariant-forward-loop-branch : goal.invariant-forward-loop-branch
invariant-forward-loop-branch g l = record {
  left : (last : Term) → unwound g.G.Graphs.keep l.opened.items
      (choose_by g.G.Graphs.keep (built g.G.Graphs.keep l.turns l.outer) (drop l.branch-index l.branches) last l.initial.locals.items (building_of g.G.Graphs.graph l.self))
      ≡ choose_by g.G.Graphs.keep (built g.G.Graphs.keep l.turns l.outer) l.branches last l.initial.locals.items (building_of g.G.Graphs.graph l.initial.self);
  kept : l.locals.items ≡ l.initial.locals.items;
}
