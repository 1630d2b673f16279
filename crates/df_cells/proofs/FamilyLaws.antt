-- The kinds of the two families of operators.
use Rattle.std.proofs.Common.{◌≡◌, refl, sym, ◌∙◌, ap}
use Rattle.df_values.specs.declared.kinds.Binary.{Binary}
use Rattle.df_values.specs.declared.kinds.Binary.TheVariants.{Operation, Comparison}
use Rattle.df_values.specs.declared.kinds.Unary.{Unary}
use Rattle.df_values.specs.declared.kinds.Unary.TheVariants.{Negation, Inversion, Inquiry}
use Rattle.df_values.specs.declared.kinds.Op.TheVariants as op
use Rattle.df_values.specs.declared.kinds.Rel.TheVariants as rel
use Rattle.df_values.specs.declared.kinds.Test.TheVariants as test
use Rattle.df_cells.specs.declared.kinds.Kind.{Kind}
use Rattle.df_cells.specs.declared.kinds.Kind.TheVariants as kind
use Rattle.df_cells.specs.declared.kinds.Family.{Family}
use Rattle.df_cells.specs.declared.kinds.Family.TheVariants as of
use Rattle.df_cells.specs.Families.{family, kind_of, kind_of_one}

pub family_two : (how : Binary) → family (kind_of how) ≡ of.Two how
family_two (Operation op.Add) = refl
family_two (Operation op.Sub) = refl
family_two (Operation op.Mul) = refl
family_two (Operation op.Div) = refl
family_two (Operation op.Mod) = refl
family_two (Operation op.Min) = refl
family_two (Operation op.Max) = refl
family_two (Operation op.And) = refl
family_two (Operation op.Or) = refl
family_two (Comparison rel.Lt) = refl
family_two (Comparison rel.Le) = refl
family_two (Comparison rel.Gt) = refl
family_two (Comparison rel.Ge) = refl
family_two (Comparison rel.Eq) = refl
family_two (Comparison rel.Ne) = refl

pub family_one : (how : Unary) → family (kind_of_one how) ≡ of.One how
family_one Negation = refl
family_one Inversion = refl
family_one (Inquiry test.Undef) = refl
family_one (Inquiry test.MissElt) = refl
family_one (Inquiry test.PosOver) = refl
family_one (Inquiry test.NegOver) = refl
family_one (Inquiry test.Unknown) = refl
family_one (Inquiry test.ZeroDivide) = refl
family_one (Inquiry test.Error) = refl

-- the kind that a family names, where it names one
abbrev named_by : Kind → Family → Kind
named_by it (of.Two how) = kind_of how
named_by it (of.One how) = kind_of_one how
named_by it of.Source = it
named_by it (of.Gate side) = it
named_by it of.Merge = it
named_by it of.Buf = it
named_by it of.Out = it

names_itself : (it : Kind) → named_by it (family it) ≡ it
names_itself kind.Buf = refl
names_itself _ = refl

pub only_two : (it : Kind) (how : Binary) → family it ≡ of.Two how → it ≡ kind_of how
only_two it how is = sym (names_itself it) ∙ ap (named_by it) is

pub only_one : (it : Kind) (how : Unary) → family it ≡ of.One how → it ≡ kind_of_one how
only_one it how is = sym (names_itself it) ∙ ap (named_by it) is
