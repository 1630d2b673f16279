-- Which tokens begin an expression with words of its own.
use Rattle.std.specs.Prelude.{ℕ, List, [], ◌∷◌}
use Rattle.df_syntax.specs.declared.word.Reserved.TheVariants as r
use Rattle.df_syntax.specs.TokenClasses.{word_code}

-- the first tokens of `let`, `if`, `forall` and `for`
unfoldable pub blocks : List ℕ
blocks = word_code r.Let ∷ word_code r.If ∷ word_code r.ForAll ∷ word_code r.For ∷ []
