use Rattle.std.proofs.Common.{◌≡◌, ◌∙◌, ◌++◌, None}
use Rattle.df_types.specs.Answers.{Answers}
use Rattle.df_syntax.specs.Demands.{first_refusal}
use Rattle.df_names.specs.Found.{names_of}
use Rattle.df_names.specs.Maps.{nothing}
use Rattle.df_types.specs.Sources.{fresh_demands, later, numbered, constant_demands, all_range_demands, arrays, last_parameters, functions_demands}
use Rattle.df_types.proofs.PassSteps.{stage_1, stage_2, stage_3, refusal_of, accepted_of, refused_of}
use Rattle.df_types.proofs.Steps.{left, right, answers_on}
use Rattle.df_types.proofs.source.check.Goals as goal

pub returns-in_err-declare_constants-clause-refused : goal.returns-in_err-declare_constants-clause-refused
returns-in_err-declare_constants-clause-refused c =
    refusal_of c.args.program.now _ _ c.from_residual.ensures.1 (left (fresh_demands (later c.args.program.now.constants) nothing) ((fresh_demands (numbered 0 c.args.program.now.functions)) (stage_1 c.args.program.now) ++ ((constant_demands c.args.program.now.constants) (stage_2 c.args.program.now) ++ ((all_range_demands c.args.program.now.ranges (arrays (last_parameters c.args.program.now.functions))) (stage_3 c.args.program.now) ++ (functions_demands c.args.program.now.functions c.args.program.now.functions) (stage_3 c.args.program.now)))) _ (rw (c.as_slice.ensures, c.new-scope.ensures) at c.in_err-declare_constants.ensures))

pub returns-in_err-declare_functions-clause-refused : goal.returns-in_err-declare_functions-clause-refused
returns-in_err-declare_functions-clause-refused c =
    let h1 : first_refusal (fresh_demands (later c.args.program.now.constants) nothing) ≡ None = rw (c.as_slice.ensures, c.new-scope.ensures) at c.in_ok-declare_constants.ensures.holds in
    let e1 : names_of c.declare_constants.new.scope ≡ (stage_1 c.args.program.now) = rw (c.as_slice.ensures, c.new-scope.ensures) at c.in_ok-declare_constants.ensures.names_are in
    refusal_of c.args.program.now _ _ c.from_residual-in_err-declare_functions.ensures.1 (right (fresh_demands (later c.args.program.now.constants) nothing) ((fresh_demands (numbered 0 c.args.program.now.functions)) (stage_1 c.args.program.now) ++ ((constant_demands c.args.program.now.constants) (stage_2 c.args.program.now) ++ ((all_range_demands c.args.program.now.ranges (arrays (last_parameters c.args.program.now.functions))) (stage_3 c.args.program.now) ++ (functions_demands c.args.program.now.functions c.args.program.now.functions) (stage_3 c.args.program.now)))) _ h1 (left ((fresh_demands (numbered 0 c.args.program.now.functions)) (stage_1 c.args.program.now)) ((constant_demands c.args.program.now.constants) (stage_2 c.args.program.now) ++ ((all_range_demands c.args.program.now.ranges (arrays (last_parameters c.args.program.now.functions))) (stage_3 c.args.program.now) ++ (functions_demands c.args.program.now.functions c.args.program.now.functions) (stage_3 c.args.program.now))) _ (rw (c.as_slice-functions.ensures, e1) at c.in_err-declare_functions.ensures)))

pub returns-in_err-check_constants-clause-refused : goal.returns-in_err-check_constants-clause-refused
returns-in_err-check_constants-clause-refused c =
    let h1 : first_refusal (fresh_demands (later c.args.program.now.constants) nothing) ≡ None = rw (c.as_slice.ensures, c.new-scope.ensures) at c.in_ok-declare_constants.ensures.holds in
    let e1 : names_of c.declare_constants.new.scope ≡ (stage_1 c.args.program.now) = rw (c.as_slice.ensures, c.new-scope.ensures) at c.in_ok-declare_constants.ensures.names_are in
    let h2 : first_refusal ((fresh_demands (numbered 0 c.args.program.now.functions)) (stage_1 c.args.program.now)) ≡ None = rw (c.as_slice-functions.ensures, e1) at c.in_ok-declare_functions.ensures.holds in
    let e2 : names_of c.declare_functions.new.scope ≡ (stage_2 c.args.program.now) = rw (c.as_slice-functions.ensures, e1) at c.in_ok-declare_functions.ensures.names_are in
    refusal_of c.args.program.now _ _ c.from_residual-in_err-check_constants.ensures.1 (right (fresh_demands (later c.args.program.now.constants) nothing) ((fresh_demands (numbered 0 c.args.program.now.functions)) (stage_1 c.args.program.now) ++ ((constant_demands c.args.program.now.constants) (stage_2 c.args.program.now) ++ ((all_range_demands c.args.program.now.ranges (arrays (last_parameters c.args.program.now.functions))) (stage_3 c.args.program.now) ++ (functions_demands c.args.program.now.functions c.args.program.now.functions) (stage_3 c.args.program.now)))) _ h1 (right ((fresh_demands (numbered 0 c.args.program.now.functions)) (stage_1 c.args.program.now)) ((constant_demands c.args.program.now.constants) (stage_2 c.args.program.now) ++ ((all_range_demands c.args.program.now.ranges (arrays (last_parameters c.args.program.now.functions))) (stage_3 c.args.program.now) ++ (functions_demands c.args.program.now.functions c.args.program.now.functions) (stage_3 c.args.program.now))) _ h2 (left ((constant_demands c.args.program.now.constants) (stage_2 c.args.program.now)) ((all_range_demands c.args.program.now.ranges (arrays (last_parameters c.args.program.now.functions))) (stage_3 c.args.program.now) ++ (functions_demands c.args.program.now.functions c.args.program.now.functions) (stage_3 c.args.program.now)) _ (rw (c.as_slice-2.ensures, e2) at c.in_err-check_constants.ensures))))

pub returns-in_err-check_ranges-clause-refused : goal.returns-in_err-check_ranges-clause-refused
returns-in_err-check_ranges-clause-refused c =
    let h1 : first_refusal (fresh_demands (later c.args.program.now.constants) nothing) ≡ None = rw (c.as_slice.ensures, c.new-scope.ensures) at c.in_ok-declare_constants.ensures.holds in
    let e1 : names_of c.declare_constants.new.scope ≡ (stage_1 c.args.program.now) = rw (c.as_slice.ensures, c.new-scope.ensures) at c.in_ok-declare_constants.ensures.names_are in
    let h2 : first_refusal ((fresh_demands (numbered 0 c.args.program.now.functions)) (stage_1 c.args.program.now)) ≡ None = rw (c.as_slice-functions.ensures, e1) at c.in_ok-declare_functions.ensures.holds in
    let e2 : names_of c.declare_functions.new.scope ≡ (stage_2 c.args.program.now) = rw (c.as_slice-functions.ensures, e1) at c.in_ok-declare_functions.ensures.names_are in
    let h3 : first_refusal ((constant_demands c.args.program.now.constants) (stage_2 c.args.program.now)) ≡ None = rw (c.as_slice-2.ensures, e2) at c.in_ok-check_constants.ensures.holds in
    let e3 : names_of c.check_constants.new.scope ≡ (stage_3 c.args.program.now) = rw (c.as_slice-2.ensures, e2) at c.in_ok-check_constants.ensures.names_are in
    refusal_of c.args.program.now _ _ c.from_residual-in_err-check_ranges.ensures.1 (right (fresh_demands (later c.args.program.now.constants) nothing) ((fresh_demands (numbered 0 c.args.program.now.functions)) (stage_1 c.args.program.now) ++ ((constant_demands c.args.program.now.constants) (stage_2 c.args.program.now) ++ ((all_range_demands c.args.program.now.ranges (arrays (last_parameters c.args.program.now.functions))) (stage_3 c.args.program.now) ++ (functions_demands c.args.program.now.functions c.args.program.now.functions) (stage_3 c.args.program.now)))) _ h1 (right ((fresh_demands (numbered 0 c.args.program.now.functions)) (stage_1 c.args.program.now)) ((constant_demands c.args.program.now.constants) (stage_2 c.args.program.now) ++ ((all_range_demands c.args.program.now.ranges (arrays (last_parameters c.args.program.now.functions))) (stage_3 c.args.program.now) ++ (functions_demands c.args.program.now.functions c.args.program.now.functions) (stage_3 c.args.program.now))) _ h2 (right ((constant_demands c.args.program.now.constants) (stage_2 c.args.program.now)) ((all_range_demands c.args.program.now.ranges (arrays (last_parameters c.args.program.now.functions))) (stage_3 c.args.program.now) ++ (functions_demands c.args.program.now.functions c.args.program.now.functions) (stage_3 c.args.program.now)) _ h3 (left ((all_range_demands c.args.program.now.ranges (arrays (last_parameters c.args.program.now.functions))) (stage_3 c.args.program.now)) ((functions_demands c.args.program.now.functions c.args.program.now.functions) (stage_3 c.args.program.now)) _ (rw (c.as_slice-3.ensures, c.as_slice-functions.ensures, e3) at c.in_err-check_ranges.ensures)))))

pub returns-clause-accepted : goal.returns-clause-accepted
returns-clause-accepted c =
    let h1 : first_refusal (fresh_demands (later c.args.program.now.constants) nothing) ≡ None = rw (c.as_slice.ensures, c.new-scope.ensures) at c.in_ok-declare_constants.ensures.holds in
    let e1 : names_of c.declare_constants.new.scope ≡ (stage_1 c.args.program.now) = rw (c.as_slice.ensures, c.new-scope.ensures) at c.in_ok-declare_constants.ensures.names_are in
    let h2 : first_refusal ((fresh_demands (numbered 0 c.args.program.now.functions)) (stage_1 c.args.program.now)) ≡ None = rw (c.as_slice-functions.ensures, e1) at c.in_ok-declare_functions.ensures.holds in
    let e2 : names_of c.declare_functions.new.scope ≡ (stage_2 c.args.program.now) = rw (c.as_slice-functions.ensures, e1) at c.in_ok-declare_functions.ensures.names_are in
    let h3 : first_refusal ((constant_demands c.args.program.now.constants) (stage_2 c.args.program.now)) ≡ None = rw (c.as_slice-2.ensures, e2) at c.in_ok-check_constants.ensures.holds in
    let e3 : names_of c.check_constants.new.scope ≡ (stage_3 c.args.program.now) = rw (c.as_slice-2.ensures, e2) at c.in_ok-check_constants.ensures.names_are in
    let h4 : first_refusal ((all_range_demands c.args.program.now.ranges (arrays (last_parameters c.args.program.now.functions))) (stage_3 c.args.program.now)) ≡ None = rw (c.as_slice-3.ensures, c.as_slice-functions.ensures, e3) at c.in_ok-check_ranges.ensures.holds in
    let e4 : names_of c.check_ranges.new.scope ≡ (stage_3 c.args.program.now) = c.in_ok-check_ranges.ensures.names_are ∙ e3 in
    let at_slice : Answers (tt {0}) (functions_demands c.as_slice-functions.result.now c.as_slice-functions.result.now (names_of c.check_ranges.new.scope)) (names_of c.check_ranges.new.scope) c.check_functions.result c.check_functions.new.scope = c.check_functions.ensures in
    let last : Answers (tt {0}) ((functions_demands c.args.program.now.functions c.args.program.now.functions) (stage_3 c.args.program.now)) (stage_3 c.args.program.now) c.check_functions.result c.check_functions.new.scope = rw (c.as_slice-functions.ensures, e4) at at_slice in
    accepted_of (tt {0}) c.args.program.now (stage_3 c.args.program.now) c.check_functions.result c.check_functions.new.scope
    (answers_on (tt {0}) (fresh_demands (later c.args.program.now.constants) nothing) ((fresh_demands (numbered 0 c.args.program.now.functions)) (stage_1 c.args.program.now) ++ ((constant_demands c.args.program.now.constants) (stage_2 c.args.program.now) ++ ((all_range_demands c.args.program.now.ranges (arrays (last_parameters c.args.program.now.functions))) (stage_3 c.args.program.now) ++ (functions_demands c.args.program.now.functions c.args.program.now.functions) (stage_3 c.args.program.now)))) (stage_3 c.args.program.now) c.check_functions.result c.check_functions.new.scope h1
    (answers_on (tt {0}) ((fresh_demands (numbered 0 c.args.program.now.functions)) (stage_1 c.args.program.now)) ((constant_demands c.args.program.now.constants) (stage_2 c.args.program.now) ++ ((all_range_demands c.args.program.now.ranges (arrays (last_parameters c.args.program.now.functions))) (stage_3 c.args.program.now) ++ (functions_demands c.args.program.now.functions c.args.program.now.functions) (stage_3 c.args.program.now))) (stage_3 c.args.program.now) c.check_functions.result c.check_functions.new.scope h2
    (answers_on (tt {0}) ((constant_demands c.args.program.now.constants) (stage_2 c.args.program.now)) ((all_range_demands c.args.program.now.ranges (arrays (last_parameters c.args.program.now.functions))) (stage_3 c.args.program.now) ++ (functions_demands c.args.program.now.functions c.args.program.now.functions) (stage_3 c.args.program.now)) (stage_3 c.args.program.now) c.check_functions.result c.check_functions.new.scope h3
    (answers_on (tt {0}) ((all_range_demands c.args.program.now.ranges (arrays (last_parameters c.args.program.now.functions))) (stage_3 c.args.program.now)) ((functions_demands c.args.program.now.functions c.args.program.now.functions) (stage_3 c.args.program.now)) (stage_3 c.args.program.now) c.check_functions.result c.check_functions.new.scope h4 last))))

pub returns-clause-refused : goal.returns-clause-refused
returns-clause-refused c =
    let h1 : first_refusal (fresh_demands (later c.args.program.now.constants) nothing) ≡ None = rw (c.as_slice.ensures, c.new-scope.ensures) at c.in_ok-declare_constants.ensures.holds in
    let e1 : names_of c.declare_constants.new.scope ≡ (stage_1 c.args.program.now) = rw (c.as_slice.ensures, c.new-scope.ensures) at c.in_ok-declare_constants.ensures.names_are in
    let h2 : first_refusal ((fresh_demands (numbered 0 c.args.program.now.functions)) (stage_1 c.args.program.now)) ≡ None = rw (c.as_slice-functions.ensures, e1) at c.in_ok-declare_functions.ensures.holds in
    let e2 : names_of c.declare_functions.new.scope ≡ (stage_2 c.args.program.now) = rw (c.as_slice-functions.ensures, e1) at c.in_ok-declare_functions.ensures.names_are in
    let h3 : first_refusal ((constant_demands c.args.program.now.constants) (stage_2 c.args.program.now)) ≡ None = rw (c.as_slice-2.ensures, e2) at c.in_ok-check_constants.ensures.holds in
    let e3 : names_of c.check_constants.new.scope ≡ (stage_3 c.args.program.now) = rw (c.as_slice-2.ensures, e2) at c.in_ok-check_constants.ensures.names_are in
    let h4 : first_refusal ((all_range_demands c.args.program.now.ranges (arrays (last_parameters c.args.program.now.functions))) (stage_3 c.args.program.now)) ≡ None = rw (c.as_slice-3.ensures, c.as_slice-functions.ensures, e3) at c.in_ok-check_ranges.ensures.holds in
    let e4 : names_of c.check_ranges.new.scope ≡ (stage_3 c.args.program.now) = c.in_ok-check_ranges.ensures.names_are ∙ e3 in
    let at_slice : Answers (tt {0}) (functions_demands c.as_slice-functions.result.now c.as_slice-functions.result.now (names_of c.check_ranges.new.scope)) (names_of c.check_ranges.new.scope) c.check_functions.result c.check_functions.new.scope = c.check_functions.ensures in
    let last : Answers (tt {0}) ((functions_demands c.args.program.now.functions c.args.program.now.functions) (stage_3 c.args.program.now)) (stage_3 c.args.program.now) c.check_functions.result c.check_functions.new.scope = rw (c.as_slice-functions.ensures, e4) at at_slice in
    refused_of (tt {0}) c.args.program.now (stage_3 c.args.program.now) c.check_functions.result c.check_functions.new.scope
    (answers_on (tt {0}) (fresh_demands (later c.args.program.now.constants) nothing) ((fresh_demands (numbered 0 c.args.program.now.functions)) (stage_1 c.args.program.now) ++ ((constant_demands c.args.program.now.constants) (stage_2 c.args.program.now) ++ ((all_range_demands c.args.program.now.ranges (arrays (last_parameters c.args.program.now.functions))) (stage_3 c.args.program.now) ++ (functions_demands c.args.program.now.functions c.args.program.now.functions) (stage_3 c.args.program.now)))) (stage_3 c.args.program.now) c.check_functions.result c.check_functions.new.scope h1
    (answers_on (tt {0}) ((fresh_demands (numbered 0 c.args.program.now.functions)) (stage_1 c.args.program.now)) ((constant_demands c.args.program.now.constants) (stage_2 c.args.program.now) ++ ((all_range_demands c.args.program.now.ranges (arrays (last_parameters c.args.program.now.functions))) (stage_3 c.args.program.now) ++ (functions_demands c.args.program.now.functions c.args.program.now.functions) (stage_3 c.args.program.now))) (stage_3 c.args.program.now) c.check_functions.result c.check_functions.new.scope h2
    (answers_on (tt {0}) ((constant_demands c.args.program.now.constants) (stage_2 c.args.program.now)) ((all_range_demands c.args.program.now.ranges (arrays (last_parameters c.args.program.now.functions))) (stage_3 c.args.program.now) ++ (functions_demands c.args.program.now.functions c.args.program.now.functions) (stage_3 c.args.program.now)) (stage_3 c.args.program.now) c.check_functions.result c.check_functions.new.scope h3
    (answers_on (tt {0}) ((all_range_demands c.args.program.now.ranges (arrays (last_parameters c.args.program.now.functions))) (stage_3 c.args.program.now)) ((functions_demands c.args.program.now.functions c.args.program.now.functions) (stage_3 c.args.program.now)) (stage_3 c.args.program.now) c.check_functions.result c.check_functions.new.scope h4 last))))
