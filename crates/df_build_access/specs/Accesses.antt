-- What accesses were built to, as a function.
use Rattle.std.specs.Prelude.{ℕ, ℤ, Option, Some, None, ◌==◌, ◌&&◌, if◌then◌else◌}
use Rattle.std.specs.Ordering.{nat_cmp, int_cmp, int_eq, ordering_then}
use Rattle.std.specs.BTreeMap.{get}
use Rattle.std.specs.declared.cmp.Ordering.{Ordering}
use Rattle.df_labels.specs.declared.graphs.Flow.{Flow}
use Rattle.df_build_access.specs.declared.accesses.Accesses.{Accesses}

-- what each access was built to, by the array's number and the offset
abbrev pub Accessed : Type 0
Accessed = ℕ → ℤ → Option Flow

-- where no access was built
abbrev pub no_access : Accessed
no_access = λ _ _. None

-- one access more
unfoldable pub noted_access : Accessed → ℕ → ℤ → Flow → Accessed
noted_access table array offset flow = λ other distance. if (array == other) && int_eq offset distance then Some flow else table other distance

-- the order of the keys: by the array's number, and then by the offset
abbrev pub access_cmp : ℕ × ℤ → ℕ × ℤ → Ordering
access_cmp x y = ordering_then (nat_cmp x.0 y.0) (int_cmp x.1 y.1)

-- what is noted of each access in a table
unfoldable pub accesses_of : Accesses → Accessed
accesses_of table = λ array offset. get access_cmp table.entries (array, offset)
