-- What parameters and blocks are, as arrays.
use Rattle.std.specs.Prelude.{ℤ, pos, List, []}
use Rattle.df_values.specs.declared.values.Value.{Value}
use Rattle.df_core.specs.Meaning.{Made, Single, Many}

-- the lowest index; a value has no members
abbrev pub lowest_of : Made → ℤ
lowest_of (Single v) = pos 0
lowest_of (Many lo members) = lo

abbrev pub members_of : Made → List Value
members_of (Single v) = []
members_of (Many lo members) = members
