use Rattle.std.proofs.Common.{ap, sym, ◌∙◌}
use Rattle.df_names.specs.Found.{names_of}
use Rattle.df_shape.specs.Shaped.{Blocks}
use Rattle.df_shape.specs.Building.{made_of, with_parts}
use Rattle.df_shape.proofs.Spine.{several, carried, after_ok, let_step, parens_let, parens_plain, plain_blocks}
use Rattle.df_shape.proofs.blocks.Builder.+spine.Goals as goal

pub body-returns-else-values-eq1-clause-parts : goal.body-returns-else-values-eq1-clause-parts
body-returns-else-values-eq1-clause-parts t c =
    carried c.results.result c.results.new.made _ _
    (ap (λ (b : Blocks (names_of c.args.self.now.numbers.now)). with_parts c.args.made.now (b (made_of c.args.made.now) c.args.sorts.now))
    (sym (several (names_of c.args.self.now.numbers.now) c.args.values.now c.if-values-eq1.false)))
    c.results.ensures.parts

pub value-returns-in_ok-definitions-in-Let-clause-parts : goal.value-returns-in_ok-definitions-in-Let-clause-parts
value-returns-in_ok-definitions-in-Let-clause-parts t c =
    carried c.body.result c.body.new.made _ _
    (let_step (names_of c.args.self.now.numbers.now) c.args.value.now c.in-Let.definitions _ c.in-Let.values _ c.args.sorts.now c.args.made.now
    c.definitions.new.made (sym c.get.ensures ∙ c.in-Let.is)
    c.as_slice.ensures c.as_slice-in-Let.ensures c.in_ok-definitions-in-Let.ensures.made c.in_ok-definitions-in-Let.ensures.results)
    c.body.ensures.parts

pub value-returns-in_ok-definitions-in-Let-clause-bounds : goal.value-returns-in_ok-definitions-in-Let-clause-bounds
value-returns-in_ok-definitions-in-Let-clause-bounds t c = after_ok c.body.result (λ f h. f (c.in_ok-definitions-in-Let.ensures.bounds h)) c.body.ensures.bounds

pub value-returns-then-is_let-clause-parts : goal.value-returns-then-is_let-clause-parts
value-returns-then-is_let-clause-parts t c =
    carried c.value.result c.value.new.made _ _
    (ap (λ (b : Blocks (names_of c.args.self.now.numbers.now)). with_parts c.args.made.now (b (made_of c.args.made.now) c.args.sorts.now))
    (sym (parens_let (names_of c.args.self.now.numbers.now) c.args.value.now c.in-Parens.of (sym c.get.ensures ∙ c.in-Parens.is)
    (sym c.is_let.ensures ∙ c.if-is_let.true))))
    c.value.ensures.parts

pub value-returns-else-is_let-clause-parts : goal.value-returns-else-is_let-clause-parts
value-returns-else-is_let-clause-parts t c =
    carried c.only.result c.only.new.made _ _
    (ap (λ (b : Blocks (names_of c.args.self.now.numbers.now)). with_parts c.args.made.now (b (made_of c.args.made.now) c.args.sorts.now))
    (sym (parens_plain (names_of c.args.self.now.numbers.now) c.args.value.now c.in-Parens.of (sym c.get.ensures ∙ c.in-Parens.is)
    (sym c.is_let.ensures ∙ c.if-is_let.false))))
    c.only.ensures.parts

pub value-returns-in_default : goal.value-returns-in_default
value-returns-in_default t c = record {
  parts = carried c.only-in_default.result c.only-in_default.new.made _ _
      (ap (λ (b : Blocks (names_of c.args.self.now.numbers.now)). with_parts c.args.made.now (b (made_of c.args.made.now) c.args.sorts.now))
      (sym (plain_blocks (names_of c.args.self.now.numbers.now) c.args.value.now (λ of is. c.in_default.not-Parens of (c.get.ensures ∙ is))
      (λ ds values is. c.in_default.not-Let ds values (c.get.ensures ∙ is)))))
      c.only-in_default.ensures.parts;
  bounds = c.only-in_default.ensures.bounds;
}
