use Rattle.df_iotext.proofs.ReaderLemmas.{has_given_nothing}
use Rattle.df_iotext.proofs.inputs.Reader.new.Goals as goal

pub returns : goal.returns
returns c =
    has_given_nothing c.args.decls.now c.in_ok-all_places.field-0 c.in_ok-empty.field-0 c.in_ok-all_places.ensures c.in_ok-empty.ensures
