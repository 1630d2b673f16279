use Rattle.std.proofs.Common.{◌≡◌, ◌∙◌, ap, sym, reverse, None, arith, length, take}
use Rattle.std.proofs.Math.Seq.{take-length}
use Rattle.df_flattened.specs.Flattened.{Scope, bodies, parameters_scope}
use Rattle.df_inline.specs.Bindings.{scope_of}
use Rattle.df_inline.specs.Lowered.{besides, only_of}
use Rattle.df_inline.proofs.Bound.{parameters_more, only_given}
use Rattle.df_inline.proofs.copier.Copier.function.Goals as goal

pub loop-parameter-preserved : goal.loop-parameter-preserved
loop-parameter-preserved g c =
    parameters_more c.args.depth c.args.parameters.now c.loop-parameter.parameter-index c.parameter-item.result c.loop-parameter.names c.push.new.self c.loop-parameter.locals c.deepen.new.self
    c.loop-parameter.invariant (rw c.count.ensures at c.in_ok-push.ensures) c.in_ok-deepen.ensures c.loop-parameter-test.true c.parameter-item.is

pub returns : goal.returns
returns g c =
    let end : c.loop-parameter.parameter-index ≡ length c.args.parameters.now = omega (arith, c.loop-parameter-test.false, c.loop-parameter.auto.parameter-index-end) in
    let all : scope_of c.loop-parameter.names c.loop-parameter.locals None ≡ parameters_scope c.args.depth c.args.parameters.now =
    c.loop-parameter.invariant ∙ (ap (λ k. parameters_scope c.args.depth (take k c.args.parameters.now)) end ∙ ap (parameters_scope c.args.depth) (take-length c.args.parameters.now)) in
    rw c.requires.index at c.in_ok-body.ensures.value
    ∙ (ap (λ (s : Scope). only_of s (besides (bodies (reverse c.args.self.now.functions.now)) c.args.values.now)) all
    ∙ sym (only_given (bodies (reverse c.args.self.now.functions.now)) c.args.parameters.now c.args.values.now c.args.depth))
