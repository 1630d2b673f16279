use Rattle.std.proofs.Common.{◌++◌, List, ℕ, length, sym, ap, ◌∙◌, arith}
use Rattle.df_dual_check.specs.DualTexts.{line, head_line}
use Rattle.df_dual_check.proofs.LineLaws.{no_head, refused_by, no_end, end_number, more_behind, whole_text, empty_of}
use Rattle.df_dual_check.proofs.dual_text.read_text.Goals as goal

pub returns-in_default : goal.returns-in_default
returns-in_default c = no_head c.args.arcs.now c.args.text.now (λ rest e. c.in_default.ensures.none rest (e ∙ ap (λ n. line (head_line n) ++ rest) (sym c.from.ensures)))

pub returns-in-Some-empty : goal.returns-in-Some-empty
returns-in-Some-empty c =
    let head = c.in-Some.ensures.found ∙ ap (λ n. line (head_line n) ++ c.in-Some.behind.now) c.from.ensures in
    whole_text c.args.arcs.now c.args.text.now c.in-Some.behind.now c.in-Ok.flow.items c.in-Ok.rest.now head c.in-Ok.ensures.read c.in-Ok.ensures.all c.in-Some-empty.field-0.now c.in-Some-empty.ensures.found (empty_of c.in-Some-empty.field-0.now c.in-Some-empty.len_below)

pub returns-in-Some-after : goal.returns-in-Some-after
returns-in-Some-after c =
    let head = c.in-Some.ensures.found ∙ ap (λ n. line (head_line n) ++ c.in-Some.behind.now) c.from.ensures in
    more_behind c.args.arcs.now c.args.text.now c.in-Some.behind.now c.in-Ok.flow.items c.in-Ok.rest.now head c.in-Ok.ensures.read c.in-Ok.ensures.all c.in-Some-after.field-0.now c.in-Some-after.ensures.found
    (λ e. let none = ap (λ (l : List ℕ). length l) e in let some = c.in-Some-after.len_at_least in absurd (omega (arith, none, some)))

pub returns-in-None : goal.returns-in-None
returns-in-None c =
    let head = c.in-Some.ensures.found ∙ ap (λ n. line (head_line n) ++ c.in-Some.behind.now) c.from.ensures in
    end_number c.args.arcs.now c.args.text.now (length c.in-Ok.flow.items) c.in-Ok.ensures.all
    (no_end c.args.arcs.now c.args.text.now c.in-Some.behind.now c.in-Ok.flow.items c.in-Ok.rest.now head c.in-Ok.ensures.read c.in-Ok.ensures.all c.in-None.ensures.none)

pub returns-in-Err : goal.returns-in-Err
returns-in-Err c =
    let head = c.in-Some.ensures.found ∙ ap (λ n. line (head_line n) ++ c.in-Some.behind.now) c.from.ensures in
    refused_by c.args.arcs.now c.args.text.now c.in-Some.behind.now c.in-Err.answer head c.in-Err.ensures.wrong
