use Rattle.std.proofs.Common.{◌≡◌, take, fold, length}
use Rattle.df_core.specs.Turning.{assigned}
use Rattle.df_core.proofs.turns.put.Given as goal

abbrev pub invariant-loop-name : goal.invariant-loop-name
invariant-loop-name l = record {
  set : l.locals.items ≡ fold (assigned l.outer) l.initial.locals.items (take l.name-index l.moves);
  outside : take l.outer l.locals.items ≡ take l.outer l.initial.locals.items;
  length : length l.locals.items ≡ length l.initial.locals.items;
}
