use Rattle.df_build_elem.proofs.laws.programs_have_arcs.Goals as goal

pub returns : goal.returns
returns c flat = let orderly = (c.programs_are_orderly.ensures flat).1 in orderly.there
