-- The first tokens of the lines on which a choice rests.
use Rattle.std.proofs.Common.{◌≡◌, [], ◌∷◌, ◌++◌, refl}
use Rattle.df_forms.specs.OneToken.{empty, first, when}
use Rattle.df_syntax.specs.declared.word.Reserved.TheVariants as r
use Rattle.df_syntax.specs.declared.symbol.Symbol.TheVariants as s
use Rattle.df_syntax.specs.TokenClasses.{word_code, symbol_code}
use Rattle.df_syntax.specs.Grammar as g
use Rattle.df_syntax.specs.Lines as l
use Rattle.df_syntax.specs.Lines.{start}

pub first_named : first start l.named ≡ 1 ∷ []
unfolding l.named
first_named = refl

pub first_parens : first start g.parens ≡ symbol_code s.LeftParen ∷ []
unfolding g.parens
first_parens = refl

pub first_test_of : first start g.test_of ≡ word_code r.Is ∷ []
unfolding g.test_of
first_test_of = refl

pub first_one_element : first start g.one_element ≡ symbol_code s.LeftBracket ∷ []
unfolding g.one_element
first_one_element = refl

pub first_block : first start g.block ≡ word_code r.Let ∷ []
unfolding g.block
first_block = refl

pub first_choice : first start g.choice ≡ word_code r.If ∷ []
unfolding g.choice
first_choice = refl

pub first_all_indices : first start g.all_indices ≡ word_code r.ForAll ∷ []
unfolding g.all_indices
first_all_indices = refl

pub first_loop : first start g.for_loop ≡ word_code r.For ∷ []
unfolding g.for_loop
first_loop = refl

pub first_index : first start l.index ≡ symbol_code s.LeftBracket ∷ []
unfolding l.index
first_index = refl

pub first_actuals : first start l.actuals ≡ symbol_code s.LeftParen ∷ []
unfolding l.actuals
first_actuals = refl

pub first_constant : first start g.constant ≡ word_code r.Constant ∷ []
unfolding g.constant
first_constant = refl

pub first_range : first start g.range ≡ word_code r.Range ∷ []
unfolding g.range
first_range = refl

pub first_function : first start g.function ≡ word_code r.Function ∷ []
unfolding g.function
first_function = refl

pub first_parameters : first start g.parameters ≡ 1 ∷ []
unfolding g.parameters g.groups g.group g.names g.bound
first_parameters = refl

pub first_inversion_link : first start l.inversion_link ≡ symbol_code s.Ampersand ∷ []
unfolding l.inversion_link
first_inversion_link = refl

pub first_conjunction_link : first start l.conjunction_link ≡ symbol_code s.Bar ∷ []
unfolding l.conjunction_link
first_conjunction_link = refl

pub first_exprs : first start g.exprs ≡ start
unfolding g.exprs start l.expr l.conjunction l.inversion l.relation l.sum l.term l.factor l.primary l.named l.others g.for_loop g.all_indices g.choice g.block g.one_element g.test_of g.two_place g.two_place_op g.parens g.integer_error g.typed_error g.literal
first_exprs = refl

pub first_compared : first start g.comparison ++ when (empty g.comparison) (first start l.sum) ≡ first start g.comparison
unfolding g.comparison
first_compared = refl
