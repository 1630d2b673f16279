use Rattle.std.proofs.Common.{rules, ◌≢◌, ◌∙◌, sym, arith}
use Rattle.std.proofs.lemmas.Grind.{common_steps}
use Rattle.df_cursor.specs.declared.error.ParseError.TheVariants.{Memory}
use Rattle.df_syntax.specs.Grammar as g
use Rattle.df_grammar.proofs.Chains.{all, line_shrinks, constants_starts, solid_constant, turn, failed, done}
use Rattle.df_grammar.proofs.descent.Descent.constants.Goals as goal

pub parts-init : goal.parts-init
parts-init g' c = record { read = rw c.new-all.ensures (constants_starts _ _); shorter = omega arith }

pub parts-preserved : goal.parts-preserved
parts-preserved g' c =
    record {
      read = rw c.in_ok-push.ensures.ok (turn c.args.self.now.depth 1 g.constant solid_constant _ _ all c.parts.all _ _ _ c.parts.invariant.read (sym c.sees_word.ensures ∙ c.parts-test.true) c.in_ok-constant.ensures.0);
      shorter = omega (arith, c.in_ok-constant.ensures.1, c.parts.invariant.shorter);
    }

pub parts-smaller : goal.parts-smaller
parts-smaller g' c = omega (arith, line_shrinks _ 1 g.constant solid_constant _ _ _ c.in_ok-constant.ensures.0)

pub returns-in_err-constant : goal.returns-in_err-constant
returns-in_err-constant g' c =
    let known = λ (n : c.in_err-constant.field-0.0 ≢ Memory). failed c.args.self.now.depth 1 g.constant solid_constant _ _ all c.parts.all _ _ _ c.parts.invariant.read (sym c.sees_word.ensures ∙ c.parts-test.true) (c.in_err-constant.ensures n) in
    first_of (search rules, grind (arith, common_steps))

pub returns : goal.returns
returns g' c =
    let known = done c.args.self.now.depth 1 g.constant solid_constant _ _ all c.parts.all _ c.parts.invariant.read (sym c.sees_word.ensures ∙ c.parts-test.false) in
    first_of (search rules, grind (arith, common_steps))
