use Rattle.std.proofs.Common.{refl, length}
use Rattle.std.proofs.lemmas.Option.{slice_get_read}
use Rattle.df_iotext.proofs.ReaderLemmas.{one_place_more}
use Rattle.df_iotext.proofs.inputs.all_places.Goals as goal

pub loop-k-preserved : goal.loop-k-preserved
loop-k-preserved c =
    let below = c.loop-k-test.true in
    let at = slice_get_read c.args.decls.now (length c.args.decls.now) c.loop-k.k c.index-decls-k.result refl below c.index-decls-k.is in
    one_place_more c.args.decls.now c.loop-k.open c.put.new.self c.loop-k.k c.index-decls-k.result c.requires at c.loop-k.invariant (rw c.bytes.ensures.list at c.in_ok-put.ensures)
