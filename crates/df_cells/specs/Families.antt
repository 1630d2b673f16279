-- The families of kinds: the one table that says of each kind what it is. Tables by kind go over the family.
use Rattle.std.specs.Prelude.{◌≡◌, true, false}
use Rattle.df_values.specs.declared.kinds.Binary.{Binary}
use Rattle.df_values.specs.declared.kinds.Binary.TheVariants.{Operation, Comparison}
use Rattle.df_values.specs.declared.kinds.Unary.{Unary}
use Rattle.df_values.specs.declared.kinds.Unary.TheVariants.{Negation, Inversion, Inquiry}
use Rattle.df_values.specs.declared.kinds.Op.TheVariants as op
use Rattle.df_values.specs.declared.kinds.Rel.TheVariants as rel
use Rattle.df_values.specs.declared.kinds.Test.TheVariants as test
use Rattle.df_cells.specs.declared.kinds.Kind.{Kind}
use Rattle.df_cells.specs.declared.kinds.Kind.TheVariants as kind
use Rattle.df_cells.specs.declared.kinds.Family.{Family}
use Rattle.df_cells.specs.declared.kinds.Family.TheVariants as of

abbrev pub family : Kind → Family
family (kind.In name basic n) = of.Source
family (kind.Idx lo n) = of.Source
family (kind.Ctl runs) = of.Source
family (kind.Out k n) = of.Out
family kind.Buf = of.Buf
family kind.Add = of.Two (Operation op.Add)
family kind.Sub = of.Two (Operation op.Sub)
family kind.Mul = of.Two (Operation op.Mul)
family kind.Div = of.Two (Operation op.Div)
family kind.Mod = of.Two (Operation op.Mod)
family kind.Min = of.Two (Operation op.Min)
family kind.Max = of.Two (Operation op.Max)
family kind.Lt = of.Two (Comparison rel.Lt)
family kind.Le = of.Two (Comparison rel.Le)
family kind.Gt = of.Two (Comparison rel.Gt)
family kind.Ge = of.Two (Comparison rel.Ge)
family kind.Eq = of.Two (Comparison rel.Eq)
family kind.Ne = of.Two (Comparison rel.Ne)
family kind.And = of.Two (Operation op.And)
family kind.Or = of.Two (Operation op.Or)
family kind.Neg = of.One Negation
family kind.Not = of.One Inversion
family kind.IsUndef = of.One (Inquiry test.Undef)
family kind.IsMissElt = of.One (Inquiry test.MissElt)
family kind.IsPosOver = of.One (Inquiry test.PosOver)
family kind.IsNegOver = of.One (Inquiry test.NegOver)
family kind.IsUnknown = of.One (Inquiry test.Unknown)
family kind.IsZeroDivide = of.One (Inquiry test.ZeroDivide)
family kind.IsError = of.One (Inquiry test.Error)
family kind.Tgate = of.Gate true
family kind.Fgate = of.Gate false
family kind.Merge = of.Merge

-- the kind of cell that joins two values so
abbrev pub kind_of : Binary → Kind
kind_of (Operation op.Add) = kind.Add
kind_of (Operation op.Sub) = kind.Sub
kind_of (Operation op.Mul) = kind.Mul
kind_of (Operation op.Div) = kind.Div
kind_of (Operation op.Mod) = kind.Mod
kind_of (Operation op.Min) = kind.Min
kind_of (Operation op.Max) = kind.Max
kind_of (Operation op.And) = kind.And
kind_of (Operation op.Or) = kind.Or
kind_of (Comparison rel.Lt) = kind.Lt
kind_of (Comparison rel.Le) = kind.Le
kind_of (Comparison rel.Gt) = kind.Gt
kind_of (Comparison rel.Ge) = kind.Ge
kind_of (Comparison rel.Eq) = kind.Eq
kind_of (Comparison rel.Ne) = kind.Ne

-- the kind of cell that changes one value so
abbrev pub kind_of_one : Unary → Kind
kind_of_one Negation = kind.Neg
kind_of_one Inversion = kind.Not
kind_of_one (Inquiry test.Undef) = kind.IsUndef
kind_of_one (Inquiry test.MissElt) = kind.IsMissElt
kind_of_one (Inquiry test.PosOver) = kind.IsPosOver
kind_of_one (Inquiry test.NegOver) = kind.IsNegOver
kind_of_one (Inquiry test.Unknown) = kind.IsUnknown
kind_of_one (Inquiry test.ZeroDivide) = kind.IsZeroDivide
kind_of_one (Inquiry test.Error) = kind.IsError

-- these are the kinds of the two families, one for each way
pub record FamiliesTellKinds : Type 0 where
  pub two : (how : Binary) → family (kind_of how) ≡ of.Two how
  pub one : (how : Unary) → family (kind_of_one how) ≡ of.One how
  pub only_two : (it : Kind) (how : Binary) → family it ≡ of.Two how → it ≡ kind_of how
  pub only_one : (it : Kind) (how : Unary) → family it ≡ of.One how → it ≡ kind_of_one how
