use Rattle.std.proofs.Common.{◌++◌, ◌∷◌, sym, ◌∙◌, codes}
use Rattle.std.specs.Fmt.{decimal}
use Rattle.df_dual_check.proofs.Prefixes.{same_rest}
use Rattle.df_dual_check.proofs.LineLaws.{if_none, head_parts}
use Rattle.df_dual_check.proofs.pieces.after_head.Goals as goal

pub returns-in-Some-clause-none : goal.returns-in-Some-clause-none
returns-in-Some-clause-none c =
    if_none c.after.result (λ none rest parts. none rest (same_rest (decimal c.args.count) c.in-Some.behind.now (10 ∷ rest)
    (same_rest (codes "dual 1 ") (decimal c.args.count ++ c.in-Some.behind.now) (decimal c.args.count ++ (10 ∷ rest)) (sym c.in-Some.ensures.found ∙ parts ∙ head_parts c.args.count rest)))) c.after.ensures.none
