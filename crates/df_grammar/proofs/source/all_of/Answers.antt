use Rattle.std.proofs.Common.{◌∙◌, ap}
use Rattle.std.proofs.lemmas.List.{take_all}
use Rattle.df_syntax.specs.Grammar.{all_of}
use Rattle.df_grammar.proofs.source.all_of.Goals as goal

pub returns : goal.returns
returns c = c.loop-group.invariant ∙ ap all_of (take_all _ _ c.loop-group-test.false)
