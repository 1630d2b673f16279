-- What stands around a term, by its number.
use Rattle.std.specs.Prelude.{ℕ, List, Option, Some, None, slice_get, pos}
use Rattle.df_labels.specs.declared.graphs.Flow.{Flow}
use Rattle.df_labels.specs.declared.graphs.Flow.TheVariants.{Constant}
use Rattle.df_build_access.specs.declared.windows.Array.{Array}
use Rattle.df_build_loops.specs.Frames.{undef}
use Rattle.df_build_terms.specs.declared.building.Outside.{Outside}
use Rattle.df_build_terms.specs.declared.building.Outside.TheVariants.{Single, Many}

-- what stands for a number of no array
abbrev pub no_array : Array
no_array = record { cell = 0; lo = pos 0; n = 0 }

abbrev pub single : Option Outside → Flow
single (Some (Single flow)) = flow
single (Some (Many array)) = Constant undef
single None = Constant undef

abbrev pub many : Option Outside → Array
many (Some (Many array)) = array
many (Some (Single flow)) = no_array
many None = no_array

-- what a number stands for as a scalar, and as an array
abbrev pub flow_at : List Outside → ℕ → Flow
flow_at outer number = single (slice_get outer number)

abbrev pub array_at : List Outside → ℕ → Array
array_at outer number = many (slice_get outer number)
