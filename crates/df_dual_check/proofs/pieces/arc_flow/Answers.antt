use Rattle.std.proofs.Common.{◌++◌, sym, ◌∙◌}
use Rattle.std.specs.Fmt.{decimal}
use Rattle.df_dual_check.specs.DualTexts.{line, port_text}
use Rattle.df_dual_check.proofs.Prefixes.{same_rest}
use Rattle.df_dual_check.proofs.LineLaws.{if_none, arc_parts}
use Rattle.df_dual_check.proofs.pieces.arc_flow.Goals as goal

pub returns-in-Some-clause-none : goal.returns-in-Some-clause-none
returns-in-Some-clause-none c =
    if_none c.last_number.result (λ none f rest small parts. none f rest small (same_rest (port_text c.args.arc.now.name) c.in-Some.behind.now (line (decimal f) ++ rest)
    (sym c.in-Some.ensures.found ∙ parts ∙ arc_parts c.args.arc.now f rest))) c.last_number.ensures.none
