use Rattle.std.proofs.Common.{◌++◌, length, ap, ◌∙◌}
use Rattle.df_dual_check.specs.DualTexts.{line, head_line}
use Rattle.df_dual_check.proofs.LineLaws.{lines_begun, lines_more, lines_done}
use Rattle.df_dual_check.proofs.dual_text.write_lines.Goals as goal

pub loop-i-init : goal.loop-i-init
loop-i-init c = c.in_ok-push_head.ensures ∙ ap (λ t. t ++ line (head_line (length c.args.arcs.now))) c.new-text.ensures ∙ lines_begun c.args.arcs.now (line (head_line (length c.args.arcs.now)))

pub loop-i-preserved : goal.loop-i-preserved
loop-i-preserved c = lines_more c.args.arcs.now c.args.flow.now c.loop-i.text c.push_arc.new.text c.loop-i.i c.requires c.loop-i-test.true c.loop-i.invariant c.in_ok-push_arc.ensures

pub returns : goal.returns
returns c = lines_done c.args.arcs.now c.args.flow.now c.loop-i.text c.push_text.new.self c.loop-i.i c.requires c.loop-i-test.false c.loop-i.invariant c.in_ok-push_text.ensures.ok
