-- Where no run begins, the longest symbol is the longest piece.
use Rattle.std.proofs.Common.{length, refl, ap}
use Rattle.df_lexer.proofs.LongestSymbols.{symbol_front, symbol_longest, symbol_within, no_piece}
use Rattle.df_lexer.proofs.lexer.Lexer.take_symbol.Goals as goal

pub take_token-requires-clause-longest : goal.take_token-requires-clause-longest
take_token-requires-clause-longest c =
    symbol_longest c.args.self.now.rest.now c.in-Some.symbol (length c.spelling.result.now) c.requires.begins c.in-Some.ensures.longest (ap length c.spelling.ensures)

pub take_token-requires-clause-spelled : goal.take_token-requires-clause-spelled
take_token-requires-clause-spelled c =
    symbol_front c.args.self.now.rest.now c.in-Some.symbol (length c.spelling.result.now) c.in-Some.ensures.longest (ap length c.spelling.ensures)

pub take_token-requires-clause-within : goal.take_token-requires-clause-within
take_token-requires-clause-within c =
    symbol_within c.args.self.now.rest.now c.in-Some.symbol (length c.spelling.result.now) c.in-Some.ensures.longest (ap length c.spelling.ensures)

pub returns-in-None-clause-err : goal.returns-in-None-clause-err
returns-in-None-clause-err c = (refl, no_piece c.args.self.now.rest.now c.requires.begins c.in-None.ensures.none)
