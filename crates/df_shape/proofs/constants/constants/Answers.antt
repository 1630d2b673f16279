use Rattle.std.proofs.Common.{◌≡◌, ◌∙◌, fold, None}
use Rattle.df_syntax.specs.SourceForms.{with_number}
use Rattle.df_names.specs.Found.{names_of}
use Rattle.df_shape.specs.Sources.{constants_demands}
use Rattle.df_shape.proofs.Passes.{constant_step, constant_stop, table_step, tried_err}
use Rattle.df_shape.proofs.constants.constants.Goals as goal

pub returns-in_err-with_number : goal.returns-in_err-with_number
returns-in_err-with_number c =
    tried_err (constants_demands (λ name. None) c.args.constants.now) (λ numbers. names_of numbers ≡ fold with_number (λ name. None) c.args.constants.now) _ _ c.from_residual.ensures.1
    (λ ordinary. c.loop-constant.invariant.left ∙ constant_stop c.args.constants.now c.loop-constant.constant-index c.constant-item.result (names_of c.loop-constant.numbers) _ c.loop-constant-test.true c.constant-item.is (c.in_err-with_number.ensures ordinary))

pub loop-constant-preserved : goal.loop-constant-preserved
loop-constant-preserved c =
    let after : names_of c.with_number.new.numbers ≡ with_number (names_of c.loop-constant.numbers) c.constant-item.result = c.in_ok-with_number.ensures.1 in
    record {
      left = rw after (c.loop-constant.invariant.left ∙ constant_step c.args.constants.now c.loop-constant.constant-index c.constant-item.result (names_of c.loop-constant.numbers) c.loop-constant-test.true c.constant-item.is c.in_ok-with_number.ensures.0);
      table = rw after (c.loop-constant.invariant.table ∙ table_step c.args.constants.now c.loop-constant.constant-index c.constant-item.result (names_of c.loop-constant.numbers) c.loop-constant-test.true c.constant-item.is);
    }
