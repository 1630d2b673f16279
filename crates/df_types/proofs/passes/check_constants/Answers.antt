use Rattle.std.proofs.Common.{◌≡◌, ◌∙◌, ap, drop}
use Rattle.df_syntax.specs.declared.program.Constant.{Constant as OneConstant}
use Rattle.df_types.specs.declared.entry.Entry.TheVariants as entry
use Rattle.df_names.specs.Found.{names_of}
use Rattle.df_names.specs.Maps.{bind}
use Rattle.df_types.specs.Sources.{constant_demands}
use Rattle.df_types.proofs.Bound.{bound_at}
use Rattle.df_types.proofs.PassSteps.{constant_step, constant_stop}
use Rattle.df_types.proofs.Steps.{handed_on, refused_as}
use Rattle.df_types.proofs.passes.check_constants.Goals as goal

pub returns-in_err-ask : goal.returns-in_err-ask
returns-in_err-ask c =
    handed_on _ _ _ _ _ _ c.from_residual.ensures.1 (refused_as (constant_demands c.args.all.now (names_of c.args.scope.now)) (constant_demands (drop c.loop-constant.constant-index c.args.all.now) (names_of c.loop-constant.scope)) _ c.loop-constant.invariant.left
    (constant_stop c.args.all.now c.loop-constant.constant-index c.constant-item.result (names_of c.loop-constant.scope) _ c.loop-constant-test.true c.constant-item.is c.in_err-ask.ensures))

pub loop-constant-preserved : goal.loop-constant-preserved
loop-constant-preserved c =
    let after : names_of c.bind.new.self ≡ bind (names_of c.loop-constant.scope) c.constant-item.result.name.name entry.Constant = c.in_ok-bind.ensures.ok ∙ ap (λ m. bind m c.constant-item.result.name.name entry.Constant) c.in_ok-ask.ensures.names_are in
    record {
      left = rw after (c.loop-constant.invariant.left ∙ constant_step c.args.all.now c.loop-constant.constant-index c.constant-item.result (names_of c.loop-constant.scope) c.loop-constant-test.true c.constant-item.is c.in_ok-ask.ensures.holds);
      inner = rw after (c.loop-constant.invariant.inner ∙ bound_at (λ (d : OneConstant). (d.name, entry.Constant)) c.args.all.now c.loop-constant.constant-index c.constant-item.result (names_of c.loop-constant.scope) c.loop-constant-test.true c.constant-item.is);
    }
