use Rattle.df_celltext.proofs.TextLemmas.{one_list}
use Rattle.df_celltext.proofs.laws.text_tells_the_cells.Goals as goal

pub returns : goal.returns
returns c version text a b g h = one_list version text a b g h
