use Rattle.std.proofs.Common.{◌<◌, ◌++◌, ◌∷◌, [], cond, List, ℕ, length, length-append, sym, ap, subst, ◌∙◌, arith}
use Rattle.df_stages.specs.Skeletons.{arc_at}
use Rattle.df_dual_check.specs.DualTexts.{line, arc_line}
use Rattle.df_dual_check.specs.LinesRead.{IsReadTo}
use Rattle.df_dual_check.proofs.LineLaws.{begun, next_line}
use Rattle.df_dual_check.proofs.dual_text.read_lines.Goals as goal

pub loop-i-init : goal.loop-i-init
loop-i-init c = record {
  read = subst (λ flow. IsReadTo c.args.arcs.now c.args.text.now flow c.args.text.now) (sym c.new-flow.ensures.items) (begun c.args.arcs.now c.args.text.now);
  long = ap (λ (l : List ℕ). length l) c.new-flow.ensures.items;
}

pub loop-i-preserved : goal.loop-i-preserved
loop-i-preserved c =
    let pushed = c.push.ensures.items ∙ ap (λ b. cond b (c.loop-i.flow.items ++ c.in-Some.number ∷ []) c.loop-i.flow.items) c.if-is_err.ensures.negation in
    let long = c.loop-i.invariant.long in
    let more : length c.loop-i.flow.items < length c.args.arcs.now = omega (arith, long, c.loop-i-test.true) in
    let at = ap (λ k. line (arc_line (arc_at c.args.arcs.now k) c.in-Some.number) ++ c.in-Some.behind.now) (sym long) in
    let next = next_line c.args.arcs.now c.args.text.now c.loop-i.flow.items c.loop-i.rest.now c.in-Some.number c.in-Some.behind.now c.loop-i.invariant.read more c.in-Some.ensures.small (c.in-Some.ensures.found ∙ at) in
    record {
      read = subst (λ flow. IsReadTo c.args.arcs.now c.args.text.now flow c.in-Some.behind.now) (sym pushed) next;
      long = let e = ap (λ (l : List ℕ). length l) pushed in let sum = length-append c.loop-i.flow.items (c.in-Some.number ∷ []) in omega (arith, e, sum, long);
    }

pub returns-in_default-clause-wrong : goal.returns-in_default-clause-wrong
returns-in_default-clause-wrong c =
    let long = c.loop-i.invariant.long in
    record {
      flow = c.loop-i.flow.items;
      rest = c.loop-i.rest.now;
      read = c.loop-i.invariant.read;
      more = omega (arith, long, c.loop-i-test.true);
      counted = omega (arith, long);
      wrong = λ f behind small is. c.in_default.ensures.none f behind small (is ∙ ap (λ k. line (arc_line (arc_at c.args.arcs.now k) f) ++ behind) long);
    }
