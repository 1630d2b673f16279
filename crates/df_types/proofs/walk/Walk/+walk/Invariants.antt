use Rattle.std.proofs.Common.{◌≡◌, map, drop}
use Rattle.df_syntax.specs.declared.tree.Link.{Link as OneLink}
use Rattle.df_syntax.specs.declared.tree.Arm.{Arm as OneArm}
use Rattle.df_syntax.specs.declared.tree.Parameter.{Parameter as OneParameter}
use Rattle.df_names.specs.Found.{names_of}
use Rattle.df_syntax.specs.Demands.{first_refusal}
use Rattle.df_types.specs.Scopes.{bound}
use Rattle.df_types.specs.Types.{look_of, asked_each, asked_links, asked_arms, definition_demands, assign_demands, locals, typed, given}
use Rattle.df_types.proofs.walk.Walk.+walk.Given as goal

abbrev pub invariant-arguments-loop-i : goal.invariant-arguments-loop-i
invariant-arguments-loop-i l = record {
  left : first_refusal (asked_each (map (look_of l.self.functions.now) l.arguments) (map (λ (p : OneParameter). p.sort) l.parameters) (names_of l.initial.scope)) ≡ first_refusal (asked_each (map (look_of l.self.functions.now) (drop l.i l.arguments)) (map (λ (p : OneParameter). p.sort) (drop l.i l.parameters)) (names_of l.initial.scope));
  kept : names_of l.scope ≡ names_of l.initial.scope;
}

abbrev pub invariant-arms-loop-arm : goal.invariant-arms-loop-arm
invariant-arms-loop-arm l = record {
  left : first_refusal (asked_arms l.sort (map (λ (a : OneArm). (look_of l.self.functions.now a.test, look_of l.self.functions.now a.value)) l.arms) (names_of l.initial.scope)) ≡ first_refusal (asked_arms l.sort (map (λ (a : OneArm). (look_of l.self.functions.now a.test, look_of l.self.functions.now a.value)) (drop l.arm-index l.arms)) (names_of l.initial.scope));
  kept : names_of l.scope ≡ names_of l.initial.scope;
}

abbrev pub invariant-assigns-loop-assign : goal.invariant-assigns-loop-assign
invariant-assigns-loop-assign l = record {
  left : first_refusal (assign_demands (names_of l.names) (given (look_of l.self.functions.now) l.assigns) (names_of l.initial.scope)) ≡ first_refusal (assign_demands (names_of l.names) (given (look_of l.self.functions.now) (drop l.assign-index l.assigns)) (names_of l.initial.scope));
  kept : names_of l.scope ≡ names_of l.initial.scope;
}

abbrev pub invariant-define-loop-definition : goal.invariant-define-loop-definition
invariant-define-loop-definition l = record {
  left : first_refusal (definition_demands (typed (look_of l.self.functions.now) l.definitions) (names_of l.initial.scope)) ≡ first_refusal (definition_demands (typed (look_of l.self.functions.now) (drop l.definition-index l.definitions)) (names_of l.scope));
  inner : bound (locals l.definitions) (names_of l.initial.scope) ≡ bound (locals (drop l.definition-index l.definitions)) (names_of l.scope);
}

abbrev pub invariant-links-loop-link : goal.invariant-links-loop-link
invariant-links-loop-link l = record {
  left : first_refusal (asked_links l.sort (map (λ (k : OneLink). (k.op, look_of l.self.functions.now k.operand)) l.rest) (names_of l.initial.scope)) ≡ first_refusal (asked_links l.sort (map (λ (k : OneLink). (k.op, look_of l.self.functions.now k.operand)) (drop l.link-index l.rest)) (names_of l.initial.scope));
  kept : names_of l.scope ≡ names_of l.initial.scope;
}
