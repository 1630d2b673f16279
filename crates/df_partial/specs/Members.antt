-- Members: a value, or nothing, which stands for a value that never comes. What takes a nothing gives a nothing.
use Rattle.std.specs.Prelude.{Option, Some, None, true, false, List, [], ◌∷◌, ◌≡◌}
use Rattle.df_values.specs.Tables.{binary_answer, unary_answer}
use Rattle.df_values.specs.declared.kinds.Binary.{Binary}
use Rattle.df_values.specs.declared.kinds.Unary.{Unary}
use Rattle.df_values.specs.declared.values.Value.{Value}
use Rattle.df_values.specs.declared.values.Value.TheVariants.{Int, Truth, Error}
use Rattle.df_values.specs.declared.values.ErrorValue.TheVariants.{Undef}

abbrev pub Member : Type 0
Member = Option Value

abbrev pub known : Value → Member
known v = Some v

-- what joins two values, on members
abbrev pub paired : Binary → Member → Member → Member
paired with (Some a) (Some b) = Some (binary_answer with a b)
paired with (Some a) None = None
paired with None b = None

-- what changes a value, on a member
abbrev pub changed : Unary → Member → Member
changed how (Some a) = Some (unary_answer how a)
changed how None = None

-- what `if t then x else y endif` gives: only the test and the side that it chooses count
abbrev pub decided : Member → Member → Member → Member
decided (Some (Truth true)) x y = x
decided (Some (Truth false)) x y = y
decided (Some (Int i)) x y = Some (Error Undef)
decided (Some (Error e)) x y = Some (Error Undef)
decided None x y = None

-- the values before the first nothing
abbrev pub cut : List Member → List Value
cut [] = []
cut (Some v ∷ ms) = v ∷ cut ms
cut (None ∷ ms) = []

-- more is known: a value stays as it is, and in the place of a nothing may stand anything
abbrev pub Stays : Member → Member → Type 0
Stays (Some v) m = m ≡ Some v
Stays None m = Unit {0}

-- the same of lists, member by member
abbrev pub AllStay : List Member → List Member → Type 0
AllStay [] [] = Unit {0}
AllStay [] (n ∷ ns) = ⊥
AllStay (m ∷ ms) [] = ⊥
AllStay (m ∷ ms) (n ∷ ns) = Stays m n × AllStay ms ns

-- the same of lists of lists
abbrev pub AllListsStay : List (List Member) → List (List Member) → Type 0
AllListsStay [] [] = Unit {0}
AllListsStay [] (n ∷ ns) = ⊥
AllListsStay (m ∷ ms) [] = ⊥
AllListsStay (m ∷ ms) (n ∷ ns) = AllStay m n × AllListsStay ms ns
