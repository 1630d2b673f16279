-- A function by its parts.
use Rattle.std.proofs.Common.{◌≡◌, refl}
use Rattle.df_forms.specs.Form.{row, made}
use Rattle.df_forms.specs.Reading.{level_after}
use Rattle.df_syntax.specs.declared.word.Reserved.TheVariants as r
use Rattle.df_syntax.specs.Refusals.{openers, closers}
use Rattle.df_syntax.specs.Grammar as g
use Rattle.df_syntax.specs.Grammar.{word, behind, before, function_of}
use Rattle.df_grammar.specs.Parts as p

pub function_parts : g.function ≡ made (λ x. function_of x.0 x.1.0.0 x.1.0.1 x.1.1) (behind (word r.Function) (row g.bound (row p.signature (before g.exprs (word r.EndFun)))))
unfolding g.function p.signature
function_parts = refl

pub level_signature_1 : level_after openers closers 1 p.signature ≡ 1
unfolding p.signature g.declared g.parameters g.groups g.group g.names g.bound g.sort g.basic_type g.results
level_signature_1 = refl
