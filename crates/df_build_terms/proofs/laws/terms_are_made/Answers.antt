use Rattle.df_build_terms.specs.Made.{GrowsInside}
use Rattle.df_build_cond.specs.Made.{AreMade}
use Rattle.df_build_terms.proofs.Inner.{inner_stays, nothing_more}
use Rattle.df_build_terms.proofs.Made.{built_kept, made_stays}
use Rattle.df_build_terms.proofs.laws.terms_are_made.Goals as goal

pub returns : goal.returns
returns c = record {
  made = λ turns outer x fit arrays.
      built_kept AreMade turns outer
      (made_stays c.gates_are_made.ensures c.windows_are_made.ensures c.loops_are_made.ensures turns outer fit arrays) x;
  inner = λ turns outer x locals b.
      built_kept (GrowsInside b.graph) turns outer (inner_stays b.graph turns outer) x locals b (nothing_more b.graph);
}
