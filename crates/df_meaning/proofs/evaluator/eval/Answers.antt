use Rattle.std.proofs.Common.{◌≡◌, ◌∙◌, length, ap, arith}
use Rattle.std.proofs.lemmas.List.{length-map}
use Rattle.df_core.specs.declared.flat.Flat.{Flat}
use Rattle.df_flattened.specs.Flattened.{flattened}
use Rattle.df_syntax.specs.declared.piped.Piped.{Piped}
use Rattle.df_meaning.proofs.evaluator.eval.Goals as goal

as_many : (p : Piped) → length (flattened p).results ≡ length p.results
unfolding flattened
as_many p = length-map p.results _

pub evaluate-requires-clause-results : goal.evaluate-requires-clause-results
evaluate-requires-clause-results c =
    let same : length c.in-Ok.flat.results ≡ length c.args.piped.now.results = ap (λ (f : Flat). length f.results) c.in-Ok.ensures.0 ∙ as_many c.args.piped.now in
    omega (arith, same, c.requires.results)
