-- The text is read up to what is left, and the places there fit.
use Rattle.std.proofs.Common.{length}
use Rattle.df_syntax.specs.Tokens.{IsReadTo}
use Rattle.df_lexer.specs.Steps.{HasRoom}
use Rattle.df_lexer.proofs.lexer.lex.Given as goal

abbrev pub invariant-loop-lexer : goal.invariant-loop-lexer
invariant-loop-lexer l = record {
  read : IsReadTo l.fn.text l.lexer.tokens.tokens l.lexer.place l.lexer.rest.now;
  room : HasRoom l.lexer;
}

abbrev pub decreases-loop-lexer : goal.decreases-loop-lexer
decreases-loop-lexer l = length l.lexer.rest.now
