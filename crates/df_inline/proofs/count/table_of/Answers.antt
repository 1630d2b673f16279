use Rattle.std.proofs.Common.{[], arith, sym, ◌∙◌, ap, subst}
use Rattle.df_inline.specs.Tables.{entry_in, entry_size, entry_place, IsLast}
use Rattle.df_inline.proofs.Saturated.{nothing_saturated}
use Rattle.df_inline.proofs.Known.{last_next, size_next}
use Rattle.df_inline.proofs.count.table_of.Goals as goal

pub loop-place-init : goal.loop-place-init
loop-place-init c = record {
  sizes = λ name. ap entry_size (c.new-table.ensures name) ∙ sym nothing_saturated;
  places = λ name. subst (λ e. IsLast [] name (entry_place e)) (sym (c.new-table.ensures name)) (λ i f above below is. absurd (omega (arith, below)));
}

pub loop-place-preserved : goal.loop-place-preserved
loop-place-preserved c = record {
  sizes = λ name. size_next c.args.functions.now c.loop-place.place c.index-functions-place.result name c.only-size.result (entry_in c.loop-place.table name) _ c.loop-place-test.true c.index-functions-place.is
      (c.in_ok-set.ensures name) (rw c.as_slice.ensures at (c.only-size.ensures _ c.loop-place.invariant.sizes)) (c.loop-place.invariant.sizes name);
  places = λ name. last_next c.args.functions.now c.loop-place.place c.index-functions-place.result name c.only-size.result (entry_in c.loop-place.table name) _ c.loop-place-test.true c.index-functions-place.is
      (c.in_ok-set.ensures name) (c.loop-place.invariant.places name);
}
