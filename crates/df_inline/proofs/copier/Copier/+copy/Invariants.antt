use Rattle.std.proofs.Common.{◌≡◌, ◌≤◌, ◌+◌, take, map, reverse, length, fold, []}
use Rattle.df_flattened.specs.Flattened.{bodies, arguments_of, define}
use Rattle.df_inline.specs.Bindings.{scope_of}
use Rattle.df_inline.specs.Lowered.{step_of, branch_of, besides, listed}
use Rattle.df_inline.proofs.copier.Copier.+copy.Given as goal

abbrev pub invariant-steps-loop-link : goal.invariant-steps-loop-link
invariant-steps-loop-link g l = record {
  made : l.steps ≡ map (step_of (bodies (reverse l.self.functions.now)) (scope_of l.initial.names l.initial.depth l.self.index)) (take l.link-index l.links);
  kept : l.names ≡ l.initial.names;
  same_depth : l.depth ≡ l.initial.depth;
}

abbrev pub invariant-branches-loop-arm : goal.invariant-branches-loop-arm
invariant-branches-loop-arm g l = record {
  made : l.branches ≡ map (branch_of (bodies (reverse l.self.functions.now)) (scope_of l.initial.names l.initial.depth l.self.index)) (take l.arm-index l.arms);
  kept : l.names ≡ l.initial.names;
  same_depth : l.depth ≡ l.initial.depth;
}

abbrev pub invariant-arguments-loop-argument : goal.invariant-arguments-loop-argument
invariant-arguments-loop-argument g l = record {
  made : l.terms ≡ arguments_of (scope_of l.initial.names l.initial.depth l.self.index) (besides (bodies (reverse l.self.functions.now)) (take l.argument-index l.arguments));
  deep : l.depth ≡ l.initial.depth + l.argument-index;
  kept : l.names ≡ l.initial.names;
}

abbrev pub invariant-define-loop-definition : goal.invariant-define-loop-definition
invariant-define-loop-definition g l = record {
  bound : (l.terms, scope_of l.names l.depth l.self.index) ≡ fold define ([], scope_of l.initial.names l.initial.depth l.self.index) (listed (bodies (reverse l.self.functions.now)) (take l.definition-index l.definitions));
  kept : take (length l.initial.names) l.names ≡ l.initial.names;
  deeper : l.initial.depth ≤ l.depth;
}
