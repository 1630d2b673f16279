-- Small flat programs, with the results that they mean.
use Rattle.std.specs.Prelude.{ℕ, zero, suc, pos, negsuc, List, [], ◌∷◌, Some, None, true}
use Rattle.df_values.specs.declared.kinds.Op.TheVariants as op
use Rattle.df_values.specs.declared.kinds.Rel.TheVariants as rel
use Rattle.df_values.specs.declared.kinds.Binary.TheVariants.{Operation, Comparison}
use Rattle.df_values.specs.declared.kinds.Unary.TheVariants.{Inversion}
use Rattle.df_values.specs.declared.inputs.Input.{Input}
use Rattle.df_values.specs.declared.values.Value.{Value}
use Rattle.df_values.specs.declared.values.Value.TheVariants.{Int, Error}
use Rattle.df_values.specs.declared.values.ErrorValue.TheVariants as fault
use Rattle.df_values.specs.declared.values.Basic.TheVariants as basic
use Rattle.df_partial.specs.Members.{Member}
use Rattle.df_core.specs.declared.terms.Term.{Term}
use Rattle.df_core.specs.declared.terms.Term.TheVariants as t
use Rattle.df_core.specs.declared.flat.Body.{Body}
use Rattle.df_core.specs.declared.flat.Body.TheVariants as body
use Rattle.df_core.specs.declared.flat.Flat.{Flat}

abbrev pub number : ℕ → Term
number v = t.Constant (Int (pos v))

-- the array A of integers from 1 to 3, which is parameter 0
abbrev pub array_A : Input
array_A = record { name = 65 ∷ []; basic = basic.Integer; extent = Some (record { lo = pos 1; n = 3 }) }

-- a program whose one result is its one block
abbrev pub alone : Body → Flat
alone b = record { parameters = array_A ∷ []; blocks = record { body = b; is_result = true } ∷ []; results = 1 ∷ [] }

-- forall i in [1, 3] construct A[i-1] endall
abbrev pub shifted : Flat
shifted = alone (body.Construct (pos 1) 3 (t.Element 0 (negsuc 0)))

abbrev pub shifted_inputs : List (List Value)
shifted_inputs = (Int (pos 7) ∷ Int (pos 8) ∷ Int (pos 9) ∷ []) ∷ []

abbrev pub shifted_results : List (List Value)
shifted_results = (Error fault.MissElt ∷ Int (pos 7) ∷ Int (pos 8) ∷ []) ∷ []

-- forall i in [1, 3] eval plus A[i] endall, where the first two are too large together
abbrev pub summed : Flat
summed = alone (body.Fold op.Add (pos 1) 3 (t.Element 0 (pos 0)))

abbrev pub summed_inputs : List (List Value)
summed_inputs = (Int (pos 9223372036854775807) ∷ Int (pos 1) ∷ Int (negsuc 0) ∷ []) ∷ []

abbrev pub summed_results : List (List Value)
summed_results = (Error fault.Unknown ∷ []) ∷ []

-- for i := 1; T := [0: 1] do if i <= 3 then iter T := T[i: T[i-1] * A[i]]; i := i + 1 enditer else T endif endfor
abbrev pub products : Flat
products = alone (body.Recurrence (pos 1) 3 (number 1) (t.Chain t.Previous (record { with = Operation op.Mul; operand = t.Element 0 (pos 0) } ∷ [])))

abbrev pub products_inputs : List (List Value)
products_inputs = (Int (pos 2) ∷ Int (pos 3) ∷ Int (pos 4) ∷ []) ∷ []

abbrev pub products_results : List (List Value)
products_results = (Int (pos 1) ∷ Int (pos 2) ∷ Int (pos 6) ∷ Int (pos 24) ∷ []) ∷ []

-- g(i, g(A[i], 3)), where g(x, i) is let z := x - i in if z > 0 then x else i endif endlet: an argument's number is its place,
-- and the inner call's own arguments stand behind the outer call's first
abbrev pub subtract : ℕ → ℕ → Term
subtract a b = t.Chain (t.Local a) (record { with = Operation op.Sub; operand = t.Local b } ∷ [])

abbrev pub exceeds : ℕ → Term
exceeds a = t.Chain (t.Local a) (record { with = Comparison rel.Gt; operand = number 0 } ∷ [])

-- the body of g, where so many locals were bound before its arguments
abbrev pub greater : ℕ → Term
greater zero = t.Let (subtract 0 1 ∷ []) (t.If (record { test = exceeds 2; value = t.Local 0 } ∷ []) (t.Local 1))
greater (suc k) = t.Let (subtract (suc k) (suc (suc k)) ∷ []) (t.If (record { test = exceeds (suc (suc (suc k))); value = t.Local (suc k) } ∷ []) (t.Local (suc (suc k))))

abbrev pub called_twice : Flat
called_twice = alone (body.Construct (pos 1) 3 (t.Let (t.Index ∷ t.Let (t.Element 0 (pos 0) ∷ number 3 ∷ []) (greater 1) ∷ []) (greater 0)))

abbrev pub called_inputs : List (List Value)
called_inputs = (Int (pos 1) ∷ Int (pos 2) ∷ Int (pos 7) ∷ []) ∷ []

abbrev pub called_results : List (List Value)
called_results = (Int (pos 3) ∷ Int (pos 3) ∷ Int (pos 7) ∷ []) ∷ []

-- for x := 0; s := 0 do if x < A[i] then iter x := x + 1; s := s + x enditer else s endif endfor, in an array over [1, 3]: all names
-- are assigned at once, so s sums up the numbers below A[i]
abbrev pub below : Flat
below = alone (body.Construct (pos 1) 3 (t.Loop (number 0) (number 0 ∷ [])
    (t.Chain (t.Local 0) (record { with = Comparison rel.Lt; operand = t.Element 0 (pos 0) } ∷ []))
    (record { name = 0; value = t.Chain (t.Local 0) (record { with = Operation op.Add; operand = number 1 } ∷ []) }
    ∷ record { name = 1; value = t.Chain (t.Local 1) (record { with = Operation op.Add; operand = t.Local 0 } ∷ []) } ∷ [])
    (t.Local 1)))

-- seven turns are as many as the last element makes
abbrev pub below_results : List (List Member)
below_results = (Some (Int (pos 0)) ∷ Some (Int (pos 1)) ∷ Some (Int (pos 21)) ∷ []) ∷ []

-- six are not
abbrev pub cut_results : List (List Member)
cut_results = (Some (Int (pos 0)) ∷ Some (Int (pos 1)) ∷ None ∷ []) ∷ []

-- a loop that assigns to one name twice, and to one that isn't there
abbrev pub assigned_twice : Flat
assigned_twice = alone (body.Scalar (t.Loop (number 5) []
    (t.Chain (t.Local 0) (record { with = Comparison rel.Gt; operand = number 3 } ∷ []))
    (record { name = 0; value = number 7 } ∷ record { name = 0; value = number 2 } ∷ record { name = 9; value = number 8 } ∷ [])
    (t.Local 0)))

abbrev pub assigned_results : List (List Member)
assigned_results = (Some (Int (pos 2)) ∷ []) ∷ []

-- numbers that name nothing, operands of the wrong type, and a fold of nothing
abbrev pub wild : Flat
wild = record {
  parameters = array_A ∷ [];
  blocks =
      record { body = body.Scalar (t.Local 5); is_result = true }
      ∷ record { body = body.Scalar (t.Outer 0); is_result = true }
      ∷ record { body = body.Scalar (t.Element 1 (pos 3)); is_result = true }
      ∷ record { body = body.Scalar t.Index; is_result = true }
      ∷ record { body = body.Scalar (t.Change Inversion (number 1)); is_result = true }
      ∷ record { body = body.Fold op.Sub (pos 1) 0 t.Index; is_result = true }
      ∷ record { body = body.Fold op.Sub (pos 1) 3 t.Index; is_result = true }
      ∷ [];
  results = 1 ∷ 2 ∷ 3 ∷ 4 ∷ 5 ∷ 6 ∷ 7 ∷ 99 ∷ [];
}

abbrev pub wild_results : List (List Value)
wild_results =
    (Error fault.Undef ∷ []) ∷ (Error fault.Undef ∷ []) ∷ (Error fault.MissElt ∷ []) ∷ (Int (pos 0) ∷ []) ∷ (Error fault.Undef ∷ [])
    ∷ (Error fault.Undef ∷ []) ∷ (Int (negsuc 3) ∷ []) ∷ [] ∷ []
