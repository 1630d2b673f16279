-- The first tokens of the lines on which a choice rests.
use Rattle.std.proofs.Common.{◌≡◌, [], ◌∷◌, refl}
use Rattle.df_forms.specs.OneToken.{first}
use Rattle.df_syntax.specs.declared.word.Reserved.TheVariants as r
use Rattle.df_syntax.specs.declared.symbol.Symbol.TheVariants as s
use Rattle.df_syntax.specs.TokenClasses.{word_code, symbol_code}
use Rattle.df_syntax.specs.Grammar as g
use Rattle.df_syntax.specs.Lines as l
use Rattle.df_syntax.specs.Lines.{start}

pub first_basic_type : first start g.basic_type ≡ word_code r.Integer ∷ word_code r.Boolean ∷ []
unfolding g.basic_type
first_basic_type = refl

pub first_comparison : first start g.comparison ≡ symbol_code s.Less ∷ symbol_code s.LessEqual ∷ symbol_code s.Greater ∷ symbol_code s.GreaterEqual ∷ symbol_code s.Equal ∷ symbol_code s.NotEqual ∷ []
unfolding g.comparison
first_comparison = refl

pub first_literal : first start g.literal ≡ 0 ∷ word_code r.True ∷ word_code r.False ∷ []
unfolding g.literal
first_literal = refl

pub first_typed_error : first start g.typed_error ≡ word_code r.Undef ∷ word_code r.MissElt ∷ []
unfolding g.typed_error
first_typed_error = refl

pub first_integer_error : first start g.integer_error ≡ word_code r.PosOver ∷ word_code r.NegOver ∷ word_code r.Unknown ∷ word_code r.ZeroDivide ∷ []
unfolding g.integer_error
first_integer_error = refl

pub first_two_place : first start g.two_place ≡ word_code r.Mod ∷ word_code r.Min ∷ word_code r.Max ∷ []
unfolding g.two_place g.two_place_op
first_two_place = refl

pub first_factor_link : first start l.factor_link ≡ symbol_code s.Star ∷ symbol_code s.Slash ∷ []
unfolding l.factor_link g.factor_op
first_factor_link = refl

pub first_term_link : first start l.term_link ≡ symbol_code s.Plus ∷ symbol_code s.Minus ∷ []
unfolding l.term_link g.term_op
first_term_link = refl
