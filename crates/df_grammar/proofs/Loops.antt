-- A `for` by its parts.
use Rattle.std.proofs.Common.{◌≡◌, refl}
use Rattle.df_forms.specs.Form.{row, made}
use Rattle.df_forms.specs.Reading.{level_after}
use Rattle.df_syntax.specs.declared.word.Reserved.TheVariants as r
use Rattle.df_syntax.specs.declared.tree.Node.TheVariants as n
use Rattle.df_syntax.specs.Refusals.{openers, closers}
use Rattle.df_syntax.specs.Grammar as g
use Rattle.df_syntax.specs.Grammar.{at, word}
use Rattle.df_grammar.specs.Parts as p

pub loop_parts : g.for_loop ≡ made (λ x. at x.0 (n.For x.1.0 x.1.1.0 x.1.1.1.0 x.1.1.1.1)) (row (word r.For) (row g.definitions (row p.loop_test (row p.loop_turn p.loop_last))))
unfolding g.for_loop p.loop_test p.loop_turn p.loop_last
loop_parts = refl

pub level_loop_test_1 : level_after openers closers 1 p.loop_test ≡ 2
unfolding p.loop_test
level_loop_test_1 = refl

pub level_loop_turn_2 : level_after openers closers 2 p.loop_turn ≡ 2
unfolding p.loop_turn g.assigns g.assign g.bound
level_loop_turn_2 = refl
