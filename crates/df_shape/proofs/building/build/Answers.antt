use Rattle.df_shape.proofs.Ranged.{have_ranges, have_extents}
use Rattle.std.proofs.Common.{◌≡◌, ℕ, ◌+◌, ◌-◌, List, [], ◌∷◌, take, length, get_or, reverse, Result, Ok, Err, None, IfOk, ap, sym, ◌∙◌, subst, arith, rules}
use Rattle.std.specs.List.{All}
use Rattle.std.proofs.lemmas.List.{reverse-append, take_all, nil_from_length}
use Rattle.df_syntax.specs.declared.program.Function.{Function}
use Rattle.df_syntax.specs.declared.program.Program.{Program}
use Rattle.df_values.specs.Inputs.{HasExtent}
use Rattle.df_values.specs.declared.inputs.Input.{Input}
use Rattle.df_syntax.specs.declared.piped.Piped.{Piped}
use Rattle.df_syntax.specs.Demands.{first_refusal}
use Rattle.df_syntax.specs.WellShaped.{HaveRanges}
use Rattle.df_syntax.specs.SourceForms.{Numbers, numbers_of}
use Rattle.df_names.specs.Found.{names_of}
use Rattle.df_shape.specs.Shaped.{program_blocks, shaped}
use Rattle.df_shape.specs.Sources.{demands}
use Rattle.df_shape.specs.Bounded.{HaveBounds, HaveBoundedExtents}
use Rattle.df_syntax.proofs.Pushed.{taken}
use Rattle.df_shape.proofs.building.build.Goals as goal

-- where there is no function
nothing : Piped
nothing = record { parameters = []; blocks = []; results = []; functions = [] }

shaped_nothing : (p : Program) → p.functions ≡ [] → shaped p ≡ nothing
unfolding shaped nothing
shaped_nothing p is = ap (λ (fs : List Function). program_blocks (numbers_of p) p.ranges (reverse fs)) is

last_first : (fs : List Function) (i : ℕ) (main : Function) → i + 1 ≡ length fs → main ≡ get_or fs i main → reverse fs ≡ main ∷ reverse (take i fs)
last_first fs i main n at =
    ap reverse (sym (take_all (i + 1) fs (omega (arith, n))) ∙ taken fs i main (omega (arith, n)) at) ∙ reverse-append (take i fs) (main ∷ [])

shaped_main : (p : Program) (numbers : Numbers) (fs : List Function) (i : ℕ) (main : Function) → numbers ≡ numbers_of p → fs ≡ p.functions
    → i + 1 ≡ length fs → main ≡ get_or fs i main
    → program_blocks numbers p.ranges (main ∷ reverse (take i fs)) ≡ shaped p
unfolding shaped
shaped_main p numbers fs i main same is n at =
    ap (λ (x : Numbers). program_blocks x p.ranges (main ∷ reverse (take i fs))) same
    ∙ (ap (program_blocks (numbers_of p) p.ranges) (sym (last_first fs i main n at))
    ∙ ap (λ (l : List Function). program_blocks (numbers_of p) p.ranges (reverse l)) is)

ranged : {F : Type 0} (p : Program) (r : Result Piped F) → IfOk r (λ piped. piped ≡ shaped p) → IfOk r (λ piped. HaveBounds piped.blocks)
    → IfOk r (λ piped. first_refusal (demands p) ≡ None → HaveRanges piped.blocks)
ranged p (Ok piped) is h = λ all. subst (λ (q : Piped). HaveRanges q.blocks) (sym is) (have_ranges p all (subst (λ (q : Piped). HaveBounds q.blocks) is h))
ranged p (Err e) is h = h

extended : {F : Type 0} (p : Program) (r : Result Piped F) → IfOk r (λ piped. piped ≡ shaped p) → IfOk r (λ piped. HaveBoundedExtents piped.parameters)
    → IfOk r (λ piped. first_refusal (demands p) ≡ None → All (λ (p : Input). HasExtent p.extent) piped.parameters)
extended p (Ok piped) is h = λ all. subst (λ (q : Piped). All (λ (p : Input). HasExtent p.extent) q.parameters) (sym is)
    (have_extents p all (subst (λ (q : Piped). HaveBoundedExtents q.parameters) is h))
extended p (Err e) is h = h

pub returns-then-is_empty-clause-piped : goal.returns-then-is_empty-clause-piped
unfolding nothing
returns-then-is_empty-clause-piped c =
    let n : length c.as_slice-functions.result.now ≡ 0 = search rules in
    let e : shaped c.args.program.now ≡ nothing = shaped_nothing c.args.program.now
    (sym c.as_slice-functions.ensures ∙ nil_from_length c.as_slice-functions.result.now n) in
    rw (c.new.ensures, c.new-then-is_empty.ensures, c.new-then-is_empty-2.ensures, c.new-then-is_empty-3.ensures) (sym e)

built : goal.returns-clause-piped
built c =
    let fs = c.as_slice-functions.result.now in
    let n : (length fs ≡ 0 → ⊥) = search rules in
    let built : IfOk c.main_built.result
    (λ piped. piped ≡ program_blocks (names_of c.args.numbers.now) c.args.program.now.ranges
    (c.index-functions-last.result ∷ reverse (take (length fs - 1) fs))) =
    c.main_built.ensures.piped in
    subst (λ (q : Piped). IfOk c.main_built.result (λ piped. piped ≡ q))
    (shaped_main c.args.program.now (names_of c.args.numbers.now) fs (length fs - 1) c.index-functions-last.result c.requires
    c.as_slice-functions.ensures (omega (arith, n)) c.index-functions-last.is)
    built

pub returns-clause-piped : goal.returns-clause-piped
returns-clause-piped c = built c

pub returns-clause-ranges : goal.returns-clause-ranges
returns-clause-ranges c = ranged c.args.program.now c.main_built.result (built c) c.main_built.ensures.bounds

pub returns-clause-extents : goal.returns-clause-extents
returns-clause-extents c = extended c.args.program.now c.main_built.result (built c) c.main_built.ensures.inputs
