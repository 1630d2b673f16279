use Rattle.df_shape.proofs.Spine.{bounds_more}
use Rattle.df_shape.proofs.blocks.Builder.add.Goals as goal

pub returns-clause-bounds : goal.returns-clause-bounds
returns-clause-bounds c = bounds_more c.args.made.now.blocks c.push.new.self _ c.in_ok-push.ensures.ok c.in_ok-body.ensures.bounds
