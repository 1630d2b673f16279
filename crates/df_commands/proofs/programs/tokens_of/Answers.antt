use Rattle.std.proofs.Common.{ap, Err}
use Rattle.df_syntax.specs.Tokens.{name_too_long}
use Rattle.df_commands.proofs.programs.tokens_of.Goals as goal

pub returns-in_ok-refused_place-in-Err-NameTooLong : goal.returns-in_ok-refused_place-in-Err-NameTooLong
returns-in_ok-refused_place-in-Err-NameTooLong c = record {
  fault = name_too_long;
  place = c.in-Err-NameTooLong.at;
  says = c.in_ok-refused_place-in-Err-NameTooLong.ensures;
  first = c.in-Err-NameTooLong.ensures.name_too_long c.in-Err-NameTooLong.at (ap Err c.in-Err-NameTooLong.field-0-is);
}
