use Rattle.std.proofs.Common.{◌≡◌, Some, refl, sym, length, set, ◌≢◌}
use Rattle.std.specs.Prelude.{slice_get}
use Rattle.std.proofs.lemmas.Option.{slice_get_read}
use Rattle.df_iotext.specs.Inputs.{Given, is_sign, IsAssignment, RefusesLine}
use Rattle.df_iotext.specs.Inputs.RefusesLine.{unwanted}
use Rattle.df_iotext.specs.Inputs.TakesLine.{gives}
use Rattle.std.specs.List.{after_first}
use Rattle.df_iotext.specs.Words.{words}
use Rattle.df_iotext.specs.declared.words.Gaps.TheVariants.{Blanks}
use Rattle.df_iotext.specs.declared.inputs.InputAnswer.TheVariants.{Memory as NoMemory}
use Rattle.df_iotext.specs.Readers.{place_of_name, HasGiven, FitValues, RefusesValues}
use Rattle.df_iotext.proofs.ReaderLemmas.{open_place, place_within, given_more, no_open_place, handed_on}
use Rattle.df_iotext.proofs.ValueLemmas.{are_as_declared, values_refused}
use Rattle.df_iotext.proofs.inputs.Reader.take_line.Goals as goal

pub returns-in_default-take-clause-refused : goal.returns-in_default-take-clause-refused
returns-in_default-take-clause-refused c _ given state =
    let name = c.in-Some.assignment.name.now in
    let form = rw c.in-Some.is at c.in_ok-assignment.ensures.form in
    unwanted name c.in-Some.assignment.values.items form
    (no_open_place c.args.decls.now c.args.self.now.open c.args.self.now.inputs given name state (sym c.in_default-take.ensures.value)) refl

pub bounds-decls-k : goal.bounds-decls-k
bounds-decls-k c =
    (place_within c.args.decls.now c.args.self.now.open c.args.self.now.inputs c.requires.state.0 c.in-Some.assignment.name.now c.in-Some-take.k c.requires.state.1
    (sym c.in-Some-take.ensures.value)).0

pub returns-in_err-check_values-clause-refused : goal.returns-in_err-check_values-clause-refused
returns-in_err-check_values-clause-refused c =
    let name = c.in-Some.assignment.name.now in
    let values = c.in-Some.assignment.values.items in
    let k = c.in-Some-take.k in
    let decl = c.index-decls-k.result in
    let form : IsAssignment c.args.line.now name values = rw c.in-Some.is at c.in_ok-assignment.ensures.form in
    let place : place_of_name c.args.self.now.open name ≡ Some k = sym c.in-Some-take.ensures.value in
    let refused : RefusesValues decl values c.args.number c.in_err-check_values.field-0.0 = rw c.deref.ensures.value at c.in_err-check_values.ensures.refused in
    handed_on c.from_residual-in_err-check_values.result c.in_err-check_values.field-0.0
    (λ answer. answer ≢ NoMemory → (given : Given) → HasGiven c.args.decls.now c.args.self.now.open c.args.self.now.inputs given → RefusesLine c.args.decls.now given c.args.line.now c.args.number answer)
    c.from_residual-in_err-check_values.ensures.1
    (λ _ given state.
    let within = place_within c.args.decls.now c.args.self.now.open c.args.self.now.inputs given name k state place in
    let at : slice_get c.args.decls.now k ≡ Some decl = slice_get_read c.args.decls.now (length c.args.decls.now) k decl refl within.0 c.index-decls-k.is in
    values_refused c.args.decls.now given c.args.line.now name values k decl c.args.number c.in_err-check_values.field-0.0 form
    (open_place c.args.decls.now c.args.self.now.open c.args.self.now.inputs given name k decl state place at) refused)

pub put-requires : goal.put-requires
put-requires c =
    (place_within c.args.decls.now c.args.self.now.open c.args.self.now.inputs c.requires.state.0 c.in-Some.assignment.name.now c.in-Some-take.k c.requires.state.1
    (sym c.in-Some-take.ensures.value)).1

pub returns-clause-taken : goal.returns-clause-taken
returns-clause-taken c given state =
    let name = c.in-Some.assignment.name.now in
    let values = c.in-Some.assignment.values.items in
    let k = c.in-Some-take.k in
    let decl = c.index-decls-k.result in
    let form : IsAssignment c.args.line.now name values = rw c.in-Some.is at c.in_ok-assignment.ensures.form in
    let place : place_of_name c.args.self.now.open name ≡ Some k = sym c.in-Some-take.ensures.value in
    let within = place_within c.args.decls.now c.args.self.now.open c.args.self.now.inputs given name k state place in
    let at : slice_get c.args.decls.now k ≡ Some decl = slice_get_read c.args.decls.now (length c.args.decls.now) k decl refl within.0 c.index-decls-k.is in
    let fit : FitValues decl values = rw c.deref.ensures.value at c.in_ok-check_values.ensures.fine in (
      set given k (Some values),
      (
        gives name values k decl form (open_place c.args.decls.now c.args.self.now.open c.args.self.now.inputs given name k decl state place at)
            (are_as_declared decl (words Blanks (after_first is_sign c.args.line.now)) values form.spelled fit) refl,
        given_more c.args.decls.now c.args.self.now.open c.take.new.self c.args.self.now.inputs c.put.new.self given name k values state place c.in-Some-take.ensures.others
            c.put.ensures,
      ),
    )
