-- Lines that open no bracket are read alike everywhere, and a line leaves as many brackets open as it found.
use Rattle.std.proofs.Common.{◌≡◌, ℕ, List, refl}
use Rattle.df_forms.specs.Reading.{read, level_after}
use Rattle.df_syntax.specs.declared.token.Token.{Token}
use Rattle.df_syntax.specs.Refusals.{openers, closers}
use Rattle.df_syntax.specs.Grammar as g
use Rattle.df_syntax.specs.Lines as l
use Rattle.df_syntax.specs.Reading.{reads}
use Rattle.df_cursor.specs.Reads.{plain}

pub plain_basic_type : (depth level : ℕ) (ts : List Token) → reads depth level g.basic_type ts ≡ plain g.basic_type ts
unfolding plain read g.basic_type
plain_basic_type depth level ts = refl

pub level_bound_1 : level_after openers closers 1 g.bound ≡ 1
unfolding g.bound
level_bound_1 = refl

pub level_bound_2 : level_after openers closers 2 g.bound ≡ 2
unfolding g.bound
level_bound_2 = refl

pub level_two_place_op_0 : level_after openers closers 0 g.two_place_op ≡ 0
unfolding g.two_place_op
level_two_place_op_0 = refl

pub level_tested_0 : level_after openers closers 0 g.tested ≡ 0
unfolding g.tested
level_tested_0 = refl

pub level_fold_op_1 : level_after openers closers 1 g.fold_op ≡ 1
unfolding g.fold_op
level_fold_op_1 = refl

pub level_comparison_0 : level_after openers closers 0 g.comparison ≡ 0
unfolding g.comparison
level_comparison_0 = refl

pub level_factor_op_0 : level_after openers closers 0 g.factor_op ≡ 0
unfolding g.factor_op
level_factor_op_0 = refl

pub level_term_op_0 : level_after openers closers 0 g.term_op ≡ 0
unfolding g.term_op
level_term_op_0 = refl

pub level_arguments_1 : level_after openers closers 1 g.arguments ≡ 1
unfolding g.arguments g.exprs
level_arguments_1 = refl

pub level_sort_1 : level_after openers closers 1 g.sort ≡ 1
unfolding g.sort g.basic_type
level_sort_1 = refl

pub level_sort_2 : level_after openers closers 2 g.sort ≡ 2
unfolding g.sort g.basic_type
level_sort_2 = refl

pub level_definition_1 : level_after openers closers 1 g.definition ≡ 1
unfolding g.definition g.bound g.sort g.basic_type
level_definition_1 = refl

pub level_definitions_1 : level_after openers closers 1 g.definitions ≡ 1
unfolding g.definitions g.definition g.bound g.sort g.basic_type
level_definitions_1 = refl

pub level_exprs_1 : level_after openers closers 1 g.exprs ≡ 1
unfolding g.exprs
level_exprs_1 = refl

pub level_arm_1 : level_after openers closers 1 g.arm ≡ 1
unfolding g.arm
level_arm_1 = refl

pub level_arms_1 : level_after openers closers 1 g.arms ≡ 1
unfolding g.arms g.arm
level_arms_1 = refl

pub level_element_1 : level_after openers closers 1 g.element ≡ 1
unfolding g.element g.fold_op
level_element_1 = refl

pub level_assign_2 : level_after openers closers 2 g.assign ≡ 2
unfolding g.assign g.bound
level_assign_2 = refl

pub level_assigns_2 : level_after openers closers 2 g.assigns ≡ 2
unfolding g.assigns g.assign g.bound
level_assigns_2 = refl

pub level_names_2 : level_after openers closers 2 g.names ≡ 2
unfolding g.names g.bound
level_names_2 = refl

pub level_declared_2 : level_after openers closers 2 g.declared ≡ 2
unfolding g.declared g.parameters g.groups g.group g.names g.bound g.sort g.basic_type
level_declared_2 = refl

pub level_results_2 : level_after openers closers 2 g.results ≡ 2
unfolding g.results g.sort g.basic_type
level_results_2 = refl

pub level_group_2 : level_after openers closers 2 g.group ≡ 2
unfolding g.group g.names g.bound g.sort g.basic_type
level_group_2 = refl

pub level_groups_2 : level_after openers closers 2 g.groups ≡ 2
unfolding g.groups g.group g.names g.bound g.sort g.basic_type
level_groups_2 = refl

pub level_constants_1 : level_after openers closers 1 g.constants ≡ 1
unfolding g.constants
level_constants_1 = refl

pub level_ranges_1 : level_after openers closers 1 g.ranges ≡ 1
unfolding g.ranges
level_ranges_1 = refl

pub level_function_1 : level_after openers closers 1 g.function ≡ 1
unfolding g.function g.bound g.declared g.parameters g.groups g.group g.names g.sort g.basic_type g.results g.exprs
level_function_1 = refl

pub level_basic_type : (level : ℕ) → level_after openers closers level g.basic_type ≡ level
unfolding g.basic_type
level_basic_type level = refl

pub level_factor : level_after openers closers 0 l.factor ≡ 0
unfolding l.factor l.primary g.literal
level_factor = refl

pub level_term : level_after openers closers 0 l.term ≡ 0
unfolding l.term l.factor l.primary g.literal
level_term = refl

pub level_sum : level_after openers closers 0 l.sum ≡ 0
unfolding l.sum l.term l.factor l.primary g.literal
level_sum = refl

pub level_inversion : level_after openers closers 0 l.inversion ≡ 0
unfolding l.inversion l.relation g.comparison l.sum l.term l.factor l.primary g.literal
level_inversion = refl

pub level_conjunction : level_after openers closers 0 l.conjunction ≡ 0
unfolding l.conjunction l.inversion l.relation g.comparison l.sum l.term l.factor l.primary g.literal
level_conjunction = refl

pub level_relation : level_after openers closers 0 l.relation ≡ 0
unfolding l.relation g.comparison l.sum l.term l.factor l.primary g.literal
level_relation = refl

pub level_bounds_1 : level_after openers closers 1 g.bounds ≡ 1
unfolding g.bounds
level_bounds_1 = refl
