use Rattle.std.proofs.Common.{rules, ◌≢◌, ◌∙◌, ap, sym, arith}
use Rattle.std.proofs.lemmas.Grind.{common_steps}
use Rattle.df_cursor.specs.declared.error.ParseError.TheVariants.{Memory}
use Rattle.df_syntax.specs.Lines as l
use Rattle.df_forms.specs.Reading.{sees}
use Rattle.df_syntax.specs.TokenClasses.{class}
use Rattle.df_cursor.proofs.Firsts.{first_term_link}
use Rattle.df_grammar.proofs.Chains.{joined, line_shrinks, sum_starts, solid_term_link, turn, failed, done}
use Rattle.df_grammar.proofs.descent.Descent.sum.Goals as goal

pub links-init : goal.links-init
links-init g' c = record { read = rw c.new-rest.ensures (sum_starts _ _ _ _ c.in_ok-first.ensures.0); shorter = c.in_ok-first.ensures.1 }

pub links-preserved : goal.links-preserved
links-preserved g' c =
    record {
      read = rw c.in_ok-push.ensures.ok (turn c.args.self.now.depth 0 l.term_link solid_term_link _ _ (joined c.in_ok-first.first) c.links.rest _ _ _ c.links.invariant.read (ap (λ cs. sees class cs c.links.tokens.rest.now) (sym first_term_link) ∙ (sym c.begins_term_link.ensures ∙ c.links-test.true)) c.in_ok-term_link.ensures.0);
      shorter = omega (arith, c.in_ok-term_link.ensures.1, c.links.invariant.shorter);
    }

pub links-smaller : goal.links-smaller
links-smaller g' c = omega (arith, line_shrinks _ 0 l.term_link solid_term_link _ _ _ c.in_ok-term_link.ensures.0)

pub returns-in_err-term_link : goal.returns-in_err-term_link
returns-in_err-term_link g' c =
    let known = λ (n : c.in_err-term_link.field-0.0 ≢ Memory). failed c.args.self.now.depth 0 l.term_link solid_term_link _ _ (joined c.in_ok-first.first) c.links.rest _ _ _ c.links.invariant.read (ap (λ cs. sees class cs c.links.tokens.rest.now) (sym first_term_link) ∙ (sym c.begins_term_link.ensures ∙ c.links-test.true)) (c.in_err-term_link.ensures n) in
    first_of (search rules, grind (arith, common_steps))

pub returns : goal.returns
returns g' c =
    let known = done c.args.self.now.depth 0 l.term_link solid_term_link _ _ (joined c.in_ok-first.first) c.links.rest _ c.links.invariant.read (ap (λ cs. sees class cs c.links.tokens.rest.now) (sym first_term_link) ∙ (sym c.begins_term_link.ensures ∙ c.links-test.false)) in
    first_of (search rules, grind (arith, common_steps))
