use Rattle.std.proofs.Common.{rules, ◌≡◌, ◌≢◌, ◌∙◌, sym, arith, [], ◌∷◌}
use Rattle.std.proofs.lemmas.Grind.{common_steps}
use Rattle.df_cursor.specs.declared.error.ParseError.TheVariants.{Memory}
use Rattle.df_syntax.specs.Grammar as g
use Rattle.df_grammar.proofs.Chains.{all, line_shrinks, functions_starts, solid_function, turn, failed, done}
use Rattle.df_grammar.proofs.descent.Descent.functions.Goals as goal

pub parts-init : goal.parts-init
parts-init g' c =
    let one : c.push.new.self ≡ c.in_ok-first.first ∷ [] = rw (c.in_ok-push.ensures.ok, c.new-all.ensures) in
    record { read = rw one (functions_starts _ _ _ _ c.in_ok-first.ensures.0); shorter = c.in_ok-first.ensures.1 }

pub parts-preserved : goal.parts-preserved
parts-preserved g' c =
    record {
      read = rw c.in_ok-push-2.ensures.ok (turn c.args.self.now.depth 1 g.function solid_function _ _ all c.parts.all _ _ _ c.parts.invariant.read (sym c.sees_word.ensures ∙ c.parts-test.true) c.in_ok-function.ensures.0);
      shorter = omega (arith, c.in_ok-function.ensures.1, c.parts.invariant.shorter);
    }

pub parts-smaller : goal.parts-smaller
parts-smaller g' c = omega (arith, line_shrinks _ 1 g.function solid_function _ _ _ c.in_ok-function.ensures.0)

pub returns-in_err-function : goal.returns-in_err-function
returns-in_err-function g' c =
    let known = λ (n : c.in_err-function.field-0.0 ≢ Memory). failed c.args.self.now.depth 1 g.function solid_function _ _ all c.parts.all _ _ _ c.parts.invariant.read (sym c.sees_word.ensures ∙ c.parts-test.true) (c.in_err-function.ensures n) in
    first_of (search rules, grind (arith, common_steps))

pub returns : goal.returns
returns g' c =
    let known = done c.args.self.now.depth 1 g.function solid_function _ _ all c.parts.all _ c.parts.invariant.read (sym c.sees_word.ensures ∙ c.parts-test.false) in
    first_of (search rules, grind (arith, common_steps))
