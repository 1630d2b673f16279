use Rattle.df_cells.proofs.FamilyLaws as laws
use Rattle.df_cells.proofs.laws.families_tell_kinds.Goals as goal

pub returns : goal.returns
returns c = record { two = laws.family_two; one = laws.family_one; only_two = laws.only_two; only_one = laws.only_one }
