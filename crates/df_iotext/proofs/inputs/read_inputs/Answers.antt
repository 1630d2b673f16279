use Rattle.std.proofs.Common.{◌≢◌, Ok, map, subst, sym, arith}
use Rattle.std.specs.Str.Lines.{lines}
use Rattle.df_values.specs.Inputs.{AreValid}
use Rattle.df_cells.specs.Cells.{declaration_of}
use Rattle.df_iotext.specs.Inputs.{IsRefused, ReadsInputs}
use Rattle.df_iotext.specs.declared.inputs.InputAnswer.TheVariants.{Memory as NoMemory}
use Rattle.df_iotext.proofs.ReaderLemmas.{one_line_more, refused_there, missing_there, all_read, are_valid, as_many_lists, handed_on, few_lists}
use Rattle.df_iotext.proofs.inputs.read_inputs.Goals as goal

pub returns-in_err-take_line-clause-refused : goal.returns-in_err-take_line-clause-refused
returns-in_err-take_line-clause-refused c =
    let decls = c.args.decls.now.items in
    let state = c.loop-line.reader in
    let refuses = rw c.deref-in-Some.ensures.value at c.in_err-take_line.ensures.refused in
    handed_on c.from_residual-in_err-take_line.result c.in_err-take_line.field-0.0
    (λ answer. answer ≢ NoMemory → IsRefused decls (lines c.args.text.now) answer)
    c.from_residual-in_err-take_line.ensures.1
    (λ other. refused_there decls c.args.text.now c.loop-line.rest.now c.in-Some.line.now c.in-Some.behind.now c.loop-line.number state.open state.inputs c.in_err-take_line.field-0.0
    c.loop-line.invariant c.in-Some.ensures.line (refuses other))

pub loop-line-preserved : goal.loop-line-preserved
loop-line-preserved c =
    one_line_more c.args.decls.now.items c.args.text.now c.loop-line.rest.now c.in-Some.line.now c.in-Some.behind.now c.loop-line.number
    c.loop-line.reader.open c.take_line.new.self.open c.loop-line.reader.inputs c.take_line.new.self.inputs
    c.loop-line.invariant c.in-Some.ensures.line c.in-Some.ensures.shorter (rw c.deref-in-Some.ensures.value at c.in_ok-take_line.ensures.taken)

pub returns-in-Some-first_missing-clause-refused : goal.returns-in-Some-first_missing-clause-refused
returns-in-Some-first_missing-clause-refused c _ =
    missing_there c.args.decls.now.items c.args.text.now c.loop-line.rest.now c.loop-line.number c.loop-line.reader.open c.loop-line.reader.inputs c.in-Some-first_missing.name
    c.requires.names c.loop-line.invariant c.in_default.ensures.none (rw c.deref-2.ensures.value at c.in-Some-first_missing.ensures.some)

pub into_streams-requires : goal.into_streams-requires
into_streams-requires c =
    let short = c.requires.short in
    omega (
      arith,
      few_lists c.args.decls.now.items c.args.text.now c.loop-line.rest.now c.loop-line.number c.loop-line.reader.open c.loop-line.reader.inputs
          c.loop-line.invariant c.in_default.ensures.none
          (all_read c.args.decls.now.items c.args.text.now c.loop-line.rest.now c.loop-line.number c.loop-line.reader.open c.loop-line.reader.inputs
          c.loop-line.invariant c.in_default.ensures.none (rw c.deref-2.ensures.value at c.in-None.ensures.none)),
    )

-- what was read, as streams
pub returns-in_ok-into_streams-in-None-clause-found : goal.returns-in_ok-into_streams-in-None-clause-found
returns-in_ok-into_streams-in-None-clause-found c =
    subst (λ lists. ReadsInputs c.args.text.now c.args.decls.now.items (Ok lists)) (sym c.in_ok-into_streams-in-None.ensures)
    (all_read c.args.decls.now.items c.args.text.now c.loop-line.rest.now c.loop-line.number c.loop-line.reader.open c.loop-line.reader.inputs
    c.loop-line.invariant c.in_default.ensures.none (rw c.deref-2.ensures.value at c.in-None.ensures.none))

pub returns-in_ok-into_streams-in-None-clause-valid : goal.returns-in_ok-into_streams-in-None-clause-valid
returns-in_ok-into_streams-in-None-clause-valid c =
    subst (λ lists. AreValid (map declaration_of c.args.decls.now.items) lists) (sym c.in_ok-into_streams-in-None.ensures)
    (are_valid c.args.decls.now.items (lines c.args.text.now) c.loop-line.reader.inputs
    (as_many_lists c.args.decls.now.items c.loop-line.reader.open c.loop-line.reader.inputs c.loop-line.invariant.given c.loop-line.invariant.state)
    (all_read c.args.decls.now.items c.args.text.now c.loop-line.rest.now c.loop-line.number c.loop-line.reader.open c.loop-line.reader.inputs
    c.loop-line.invariant c.in_default.ensures.none (rw c.deref-2.ensures.value at c.in-None.ensures.none)))
