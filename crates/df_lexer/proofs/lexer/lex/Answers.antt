-- One piece more is read.
use Rattle.df_lexer.proofs.Readings.{read_on, keeps_room}
use Rattle.df_lexer.proofs.lexer.lex.Goals as goal

pub loop-lexer-preserved : goal.loop-lexer-preserved
loop-lexer-preserved c = record {
  read = read_on c.args.text.now c.loop-lexer.lexer c.take_piece.new.self c.loop-lexer.invariant.read c.in_ok-take_piece.ensures.ok;
  room = keeps_room c.loop-lexer.lexer c.take_piece.new.self c.loop-lexer.invariant.room c.in_ok-take_piece.ensures.ok;
}
