use Rattle.std.proofs.Common.{rules, ◌≡◌, ◌≢◌, ◌∙◌, sym, arith, [], ◌∷◌}
use Rattle.std.proofs.lemmas.Grind.{common_steps}
use Rattle.df_cursor.specs.declared.error.ParseError.TheVariants.{Memory}
use Rattle.df_grammar.specs.Parts as p
use Rattle.df_grammar.proofs.Chains.{all, line_shrinks, names_starts, solid_next_name, turn, failed, done}
use Rattle.df_grammar.proofs.descent.Descent.names.Goals as goal

pub parts-init : goal.parts-init
parts-init g' c =
    let one : c.push.new.self ≡ c.in_ok-first.first ∷ [] = rw (c.in_ok-push.ensures.ok, c.new-all.ensures) in
    record { read = rw one (names_starts _ _ _ _ c.in_ok-first.ensures.twice.0); shorter = c.in_ok-first.ensures.twice.1 }

pub parts-preserved : goal.parts-preserved
parts-preserved g' c =
    record {
      read = rw c.in_ok-push-2.ensures.ok (turn c.args.self.now.depth 2 p.next_name solid_next_name _ _ all c.parts.all _ _ _ c.parts.invariant.read (sym c.sees_symbol.ensures ∙ c.parts-test.true) c.in_ok-next_name.ensures.0);
      shorter = omega (arith, c.in_ok-next_name.ensures.1, c.parts.invariant.shorter);
    }

pub parts-smaller : goal.parts-smaller
parts-smaller g' c = omega (arith, line_shrinks _ 2 p.next_name solid_next_name _ _ _ c.in_ok-next_name.ensures.0)

pub returns-in_err-next_name : goal.returns-in_err-next_name
returns-in_err-next_name g' c =
    let known = λ (n : c.in_err-next_name.field-0.0 ≢ Memory). failed c.args.self.now.depth 2 p.next_name solid_next_name _ _ all c.parts.all _ _ _ c.parts.invariant.read (sym c.sees_symbol.ensures ∙ c.parts-test.true) (c.in_err-next_name.ensures n) in
    first_of (search rules, grind (arith, common_steps))

pub returns : goal.returns
returns g' c =
    let known = done c.args.self.now.depth 2 p.next_name solid_next_name _ _ all c.parts.all _ c.parts.invariant.read (sym c.sees_symbol.ensures ∙ c.parts-test.false) in
    first_of (search rules, grind (arith, common_steps))
