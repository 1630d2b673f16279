use Rattle.std.proofs.Common.{◌≡◌, take, drop, length}
use Rattle.df_build_cond.specs.Arms.{cross}
use Rattle.df_build_cond.specs.OpenArms.{arms_of}
use Rattle.df_build_cond.proofs.arms.cross.Given as goal

abbrev pub invariant-loop-k : goal.invariant-loop-k
invariant-loop-k g l = record {
  done : cross g.G.Graphs.keep l.fn.level (g.G.Graphs.graph l.initial.graph) (arms_of (take l.k l.initial.arms)) l.fn.flow
      ≡ record { graph = g.G.Graphs.graph l.graph; arms = arms_of (take l.k l.arms); flow = l.inside };
  others : drop l.k l.arms ≡ drop l.k l.initial.arms;
  count : length l.arms ≡ length l.initial.arms;
}
