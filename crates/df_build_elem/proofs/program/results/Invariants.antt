use Rattle.std.proofs.Common.{◌≡◌, take}
use Rattle.std.specs.Prelude.{fold}
use Rattle.df_build_elem.specs.Program.{result_more}
use Rattle.df_build_elem.proofs.program.results.Given as goal

abbrev pub invariant-loop-result : goal.invariant-loop-result
invariant-loop-result g l = record {
  count : l.number ≡ l.result-index;
  done : record { graph = g.G.Graphs.graph l.graph; count = l.number }
      ≡ fold (result_more g.G.Graphs.keep l.outer)
      (record { graph = g.G.Graphs.graph l.initial.graph; count = 0 }) (take l.result-index l.results);
}
