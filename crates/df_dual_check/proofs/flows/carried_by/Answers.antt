use Rattle.std.proofs.Common.{◌≡◌, ℤ, pos, ◌*ℤ◌, to_z, of_z, SFits, ap, ◌∙◌, refl, w64, ℕ, ◌<◌, ◌^◌, arith}
use Rattle.std.specs.Int.{w128}
use Rattle.std.proofs.lemmas.Int.{ints, to_z-of_z}
use Rattle.df_dual_check.proofs.Terms.{term_bound, term_fits}
use Rattle.df_dual_check.proofs.flows.carried_by.Goals as goal

-- the product of what was read is that of the numbers
same : (a b : ℤ) (w : ℤ) (f : ℕ) → a ≡ w → b ≡ pos f → SFits w64 w → f < 2 ^ 32 → to_z w128 (of_z w128 a) *ℤ to_z w128 (of_z w128 b) ≡ w *ℤ pos f
same a b w f ea eb fits small =
    let ia : to_z w128 (of_z w128 a) ≡ w = omega (arith, ints) in let ib : to_z w128 (of_z w128 b) ≡ pos f = omega (arith, ints) in
    ap (λ x. x *ℤ to_z w128 (of_z w128 b)) ia ∙ ap (λ y. w *ℤ y) ib

pub overflow_mul-result : goal.overflow_mul-result
overflow_mul-result c =
    let fits : SFits w64 c.args.weight = c.ranges.weight in
    let a : c.from.result ≡ c.args.weight = omega (arith, ints) in
    let small : c.args.flow < 2 ^ 32 = omega arith in
    let b = term_bound c.args.weight c.args.flow fits small in
    rw (same c.from.result c.from-2.result c.args.weight c.args.flow a c.from-2.ensures fits small) (term_fits (c.args.weight *ℤ pos c.args.flow) b.0 b.1)

pub returns : goal.returns
returns c =
    let fits : SFits w64 c.args.weight = c.ranges.weight in
    let a : c.from.result ≡ c.args.weight = omega (arith, ints) in
    let small : c.args.flow < 2 ^ 32 = omega arith in
    let b = term_bound c.args.weight c.args.flow fits small in
    let is = same c.from.result c.from-2.result c.args.weight c.args.flow a c.from-2.ensures fits small in
    let back = to_z-of_z w128 (c.args.weight *ℤ pos c.args.flow) (term_fits (c.args.weight *ℤ pos c.args.flow) b.0 b.1) in
    rw is (rw back (record { value = refl; low = b.0; high = b.1 }))
