use Rattle.std.proofs.Common.{take, map}
use Rattle.df_inline.specs.Sizes.{beside, expr_size}
use Rattle.df_inline.specs.Counts.{Counts, links_of, arms_of, definitions_of, assigns_of}
use Rattle.df_inline.proofs.counter.Counter.+count.Given as goal

abbrev pub invariant-exprs-loop-expr : goal.invariant-exprs-loop-expr
invariant-exprs-loop-expr l = Counts l.self.sizes.now l.size (λ of_call. beside (map (expr_size of_call) (take l.expr-index l.exprs)))

abbrev pub invariant-links-loop-link : goal.invariant-links-loop-link
invariant-links-loop-link l = Counts l.self.sizes.now l.size (λ of_call. links_of of_call (take l.link-index l.links))

abbrev pub invariant-arms-loop-arm : goal.invariant-arms-loop-arm
invariant-arms-loop-arm l = Counts l.self.sizes.now l.size (λ of_call. arms_of of_call (take l.arm-index l.arms))

abbrev pub invariant-definitions-loop-definition : goal.invariant-definitions-loop-definition
invariant-definitions-loop-definition l = Counts l.self.sizes.now l.size (λ of_call. definitions_of of_call (take l.definition-index l.definitions))

abbrev pub invariant-assigns-loop-assign : goal.invariant-assigns-loop-assign
invariant-assigns-loop-assign l = Counts l.self.sizes.now l.size (λ of_call. assigns_of of_call (take l.assign-index l.assigns))
