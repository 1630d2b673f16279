-- Types, and which of them operators, comparisons, tests and names ask for and have.
use Rattle.std.specs.Prelude.{Bool, true, false, List, [], ◌∷◌, Option, Some}
use Rattle.df_values.specs.declared.values.Basic.{Basic}
use Rattle.df_values.specs.declared.values.Basic.TheVariants.{Integer, Boolean}
use Rattle.df_values.specs.declared.kinds.Op.{Op}
use Rattle.df_values.specs.declared.kinds.Op.TheVariants.{And, Or}
use Rattle.df_values.specs.declared.kinds.Rel.{Rel}
use Rattle.df_values.specs.declared.kinds.Rel.TheVariants.{Eq, Ne}
use Rattle.df_values.specs.declared.kinds.Test.{Test}
use Rattle.df_values.specs.declared.kinds.Test.TheVariants.{Undef, MissElt, Error}
use Rattle.df_syntax.specs.declared.tree.Sort.{Sort}
use Rattle.df_syntax.specs.declared.tree.Sort.TheVariants as of
use Rattle.df_types.specs.declared.entry.Entry.{Entry}
use Rattle.df_types.specs.declared.entry.Entry.TheVariants.{Constant, Local}

abbrev pub integer : Sort
integer = of.Basic Integer

abbrev pub boolean : Sort
boolean = of.Basic Boolean

abbrev pub is_same_basic : Basic → Basic → Bool
is_same_basic Integer Integer = true
is_same_basic Boolean Boolean = true
is_same_basic a b = false

-- whether two types are the same
abbrev pub is_same : Sort → Sort → Bool
is_same (of.Basic a) (of.Basic b) = is_same_basic a b
is_same (of.Array a) (of.Array b) = is_same_basic a b
is_same s t = false

abbrev pub is_basic : Sort → Bool
is_basic (of.Basic b) = true
is_basic (of.Array b) = false

abbrev pub is_array : Sort → Bool
is_array (of.Basic b) = false
is_array (of.Array b) = true

-- the type of an array's elements
abbrev pub element_of : Sort → Sort
element_of (of.Basic b) = of.Basic b
element_of (of.Array b) = of.Basic b

-- the type of an array of such elements
abbrev pub array_of : Sort → Sort
array_of (of.Basic b) = of.Array b
array_of (of.Array b) = of.Array b

-- what an operator asks of its operands, and has itself
abbrev pub operator_sort : Op → Sort
operator_sort And = boolean
operator_sort Or = boolean
operator_sort op = integer

-- what the operators of a chain ask: they are of one level, so the first one tells
abbrev pub chain_sort : {A : Type 0} → List (Op × A) → Sort
chain_sort [] = integer
chain_sort (link ∷ links) = operator_sort link.0

-- whether a comparison takes two operands of any one basic type, and not integers alone
abbrev pub is_equality : Rel → Bool
is_equality Eq = true
is_equality Ne = true
is_equality rel = false

-- whether a test takes any basic type, and not integers alone
abbrev pub is_of_any : Test → Bool
is_of_any Undef = true
is_of_any MissElt = true
is_of_any Error = true
is_of_any test = false

-- whether what a name stands for is a value
abbrev pub is_value : Option Entry → Bool
is_value (Some Constant) = true
is_value (Some (Local sort)) = true
is_value standing = false

-- the type of that value
abbrev pub value_sort : Option Entry → Sort
value_sort (Some (Local sort)) = sort
value_sort standing = integer
