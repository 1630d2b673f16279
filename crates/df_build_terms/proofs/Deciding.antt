-- One arm of an `if`, by what its test was built to.
use Rattle.std.proofs.Common.{◌≡◌, ℕ, ℤ, ◌+◌, ◌<◌, Bool, true, false, List, ◌∷◌, get_or, length, drop, sym, ◌∙◌, ap}
use Rattle.std.proofs.lemmas.List.{drop_more}
use Rattle.df_values.specs.declared.values.Value.{Value}
use Rattle.df_values.specs.declared.values.Value.TheVariants.{Int, Truth, Error}
use Rattle.df_values.specs.declared.values.ErrorValue.{ErrorValue}
use Rattle.df_labels.specs.Graphs.{Node}
use Rattle.df_labels.specs.declared.graphs.Flow.{Flow}
use Rattle.df_labels.specs.declared.graphs.Flow.TheVariants.{Constant, Cell}
use Rattle.df_build_terms.specs.declared.building.Local.{Local}
use Rattle.df_core.specs.declared.terms.Branch.{Branch}
use Rattle.df_core.specs.declared.terms.Term.{Term}
use Rattle.df_build_loops.specs.Frames.{undef}
use Rattle.df_build_terms.specs.Building.{Building, Built, Make, at, enter, leave, in_arm, chosen, decide}
use Rattle.df_build_terms.specs.Parts.{choose_by, close}

-- what arms from the k-th on choose, by what the k-th tests
pub tested : (keep : Node → Node) (make : Term → Make) (arms : List Branch) (k : ℕ) (arm : Branch) (last : Term) (locals : List Local) (b s : Building) (f : Flow)
    → k < length arms → arm ≡ get_or arms k arm → at s f ≡ make arm.test locals b
    → choose_by keep make (drop k arms) last locals b ≡ decide keep (make arm.value locals) (choose_by keep make (drop (k + 1) arms) last locals) s f
tested keep make arms k arm last locals b s f within is made =
    ap (λ l. choose_by keep make l last locals b) (drop_more arms k arm within ∙ ap (λ (a : Branch). a ∷ drop (k + 1) arms) (sym is))
    ∙ ap (λ (x : Built). decide keep (make arm.value locals) (choose_by keep make (drop (k + 1) arms) last locals) x.state x.flow) (sym made)

module _ (keep : Node → Node) (so otherwise : Building → Built) (s : Building) (f : Flow) where
  pub on_true : (v : Value) (t : Bool) → f ≡ Constant v → v ≡ Truth t → t ≡ true → decide keep so otherwise s f ≡ so s
  unfolding decide
  on_true v t a b c = ap (decide keep so otherwise s) (a ∙ ap Constant (b ∙ ap Truth c))

  pub on_false : (v : Value) (t : Bool) → f ≡ Constant v → v ≡ Truth t → t ≡ false
      → decide keep so otherwise s f ≡ otherwise s
  unfolding decide
  on_false v t a b c = ap (decide keep so otherwise s) (a ∙ ap Constant (b ∙ ap Truth c))

  pub on_number : (v : Value) (i : ℤ) → f ≡ Constant v → v ≡ Int i
      → decide keep so otherwise s f ≡ at s (Constant undef)
  unfolding decide
  on_number v i a b = ap (decide keep so otherwise s) (a ∙ ap Constant b)

  pub on_error : (v : Value) (e : ErrorValue) → f ≡ Constant v → v ≡ Error e
      → decide keep so otherwise s f ≡ at s (Constant undef)
  unfolding decide
  on_error v e a b = ap (decide keep so otherwise s) (a ∙ ap Constant b)

  pub on_cell : (c : ℕ) (s1 s2 s3 s4 : Building) (value : Flow) → f ≡ Cell c → s1 ≡ enter c true s → at s2 value ≡ so s1
      → s3 ≡ leave s2 → s4 ≡ enter c false s3
      → decide keep so otherwise s f ≡ close keep (record { control = c; value = value }) (otherwise s4)
  unfolding decide
  on_cell c s1 s2 s3 s4 value is entered made left again =
      ap (decide keep so otherwise s) is
      ∙ (ap (λ (r : Built). let y = in_arm c false otherwise (leave r.state) in chosen keep c y.state r.flow y.flow) (sym (made ∙ ap so entered))
      ∙ ap (λ (u : Building). let y = otherwise u in chosen keep c (leave y.state) value y.flow) (sym (again ∙ ap (enter c false) left)))
