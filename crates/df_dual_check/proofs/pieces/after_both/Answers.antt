use Rattle.std.proofs.Common.{sym, ◌∙◌}
use Rattle.df_dual_check.proofs.Prefixes.{same_rest}
use Rattle.df_dual_check.proofs.LineLaws.{if_none}
use Rattle.df_dual_check.proofs.pieces.after_both.Goals as goal

pub returns-in-Some-clause-none : goal.returns-in-Some-clause-none
returns-in-Some-clause-none c =
    if_none c.after_number.result (λ none rest parts. none rest (same_rest c.args.piece.now c.in-Some.behind.now _ (sym c.in-Some.ensures.found ∙ parts))) c.after_number.ensures.none
