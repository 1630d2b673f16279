use Rattle.std.proofs.Common.{refl}
use Rattle.df_shape.proofs.Gives.{behind_is}
use Rattle.df_shape.proofs.endings.behind.Goals as goal

pub returns-then-defines : goal.returns-then-defines
returns-then-defines c around =
    rw (c.in-Name.is, behind_is c.args.definitions.now around.arrays c.in-Name.name.now, ← c.defines.ensures, c.if-defines.true) refl

pub returns-else-defines : goal.returns-else-defines
returns-else-defines c around =
    rw (c.in-Name.is, behind_is c.args.definitions.now around.arrays c.in-Name.name.now, ← c.defines.ensures, c.if-defines.false) refl
