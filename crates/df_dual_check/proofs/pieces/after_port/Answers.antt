use Rattle.std.proofs.Common.{◌++◌, sym, ap, ◌∙◌, codes}
use Rattle.std.specs.Fmt.{decimal}
use Rattle.df_dual_check.proofs.Prefixes.{same_rest}
use Rattle.df_dual_check.proofs.LineLaws.{if_none, port_parts}
use Rattle.df_dual_check.proofs.pieces.after_port.Goals as goal

pub returns-in-Some-after_both-clause-none : goal.returns-in-Some-after_both-clause-none
returns-in-Some-after_both-clause-none c =
    if_none c.after.result (λ none rest parts.
    let found = c.in-Some.ensures.found ∙ ap (λ n. decimal n ++ c.in-Some.behind.now) c.from.ensures in
    let both = c.in-Some-after_both.ensures.found ∙ ap (λ n. codes "." ++ (decimal n ++ c.in-Some-after_both.rest.now)) c.from-in-Some.ensures in
    let behind = same_rest (decimal c.args.port.cell.0) c.in-Some.behind.now (codes "." ++ (decimal c.args.port.port.0 ++ (codes " " ++ rest))) (sym found ∙ parts ∙ port_parts c.args.port rest) in
    none rest (same_rest (decimal c.args.port.port.0) c.in-Some-after_both.rest.now (codes " " ++ rest) (same_rest (codes ".") _ _ (sym both ∙ behind)))) c.after.ensures.none

pub returns-in-None-after_both-clause-none : goal.returns-in-None-after_both-clause-none
returns-in-None-after_both-clause-none c = λ rest parts.
    let found = c.in-Some.ensures.found ∙ ap (λ n. decimal n ++ c.in-Some.behind.now) c.from.ensures in
    let behind = same_rest (decimal c.args.port.cell.0) c.in-Some.behind.now (codes "." ++ (decimal c.args.port.port.0 ++ (codes " " ++ rest))) (sym found ∙ parts ∙ port_parts c.args.port rest) in
    c.in-None-after_both.ensures.none (codes " " ++ rest) (behind ∙ ap (λ n. codes "." ++ (decimal n ++ (codes " " ++ rest))) (sym c.from-in-Some.ensures))
