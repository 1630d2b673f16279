use Rattle.std.proofs.Common.{◌≡◌, ◌<◌, ◌++◌, ◌∷◌, [], ◌-◌, length, sym, ap, subst, ◌∙◌, if◌then◌else◌, bytes_eq, arith, Some, Option, Vec, Global, slice_get, get_or}
use Rattle.std.specs.Option.{option_to_list}
use Rattle.std.specs.Vec.{vec_len}
use Rattle.std.proofs.lemmas.Option.{slice_get_within, get_or_from_slice_get}
use Rattle.df_flattened.specs.declared.standing.Standing.{Standing}
use Rattle.df_syntax.specs.Meaning.{Name}
use Rattle.df_names.specs.Found.{names_of}
use Rattle.df_names.specs.Maps.{bind, unbind}
use Rattle.df_inline.specs.declared.names.Names.TheInside.{Inside}
use Rattle.df_inline.specs.declared.names.Remembered.{Remembered}
use Rattle.df_inline.proofs.Shadowing.{one_fewer}
use Rattle.df_inline.proofs.names.Names.pop.Goals.{in-Some-before+in_ok-bind-in-Some-before, in-None}
use Rattle.df_inline.proofs.names.Names.pop.Goals as goal

pub invariant_of-self-2 : goal.invariant_of-self-2
unfolding bind unbind
invariant_of-self-2 c =
    let kept : c.match-last.self-inside.bindings ≡ c.self.inside.bindings =
    elim c.match-last.branch [
      | in-Some-before+in_ok-bind-in-Some-before w ↦ ap (λ (i : Inside). i.bindings) w.self-inside-is
      | in-None w ↦ ap (λ (i : Inside). i.bindings) w.self-inside-is
    ] in
    let is_last : slice_get c.self.inside.bindings.items (length c.self.inside.bindings.items - 1) ≡ Some c.in-Some.last =
    rw c.deref.ensures.value at (sym c.last.ensures.value ∙ (sym c.copied.ensures ∙ c.in-Some.is)) in
    let within : length c.self.inside.bindings.items - 1 < length c.self.inside.bindings.items =
    slice_get_within c.self.inside.bindings.items (length c.self.inside.bindings.items - 1) c.in-Some.last is_last in
    let counted : vec_len c.self.inside.bindings ≡ length c.self.inside.bindings.items = omega (arith, c.self.inside.bindings.ok.0) in
    let popped : c.pop.result ≡ Some c.in-Some.last =
    subst (λ (v : Vec Remembered Global). (d : Remembered) → 0 < vec_len v → c.pop.result ≡ Some (get_or v.items (vec_len v - 1) d)) kept
    c.pop.ensures.value c.in-Some.last (omega (arith, within, c.self.inside.bindings.ok.0))
    ∙ (ap (λ n. Some (get_or c.self.inside.bindings.items (n - 1) c.in-Some.last)) counted
    ∙ ap (λ r. Some r) (get_or_from_slice_get c.self.inside.bindings.items (length c.self.inside.bindings.items - 1) c.in-Some.last c.in-Some.last is_last)) in
    let parts : c.self.inside.bindings.items ≡ c.pop.new.self.items ++ c.in-Some.last ∷ [] =
    ap (λ v. v.items) (sym kept) ∙ (c.pop.ensures.items ∙ ap (λ o. c.pop.new.self.items ++ option_to_list o) popped) in
    let was : Name → Option Standing → Option Standing =
    λ name before. if bytes_eq c.in-Some.last.binding.name name then before else names_of c.self.inside.standings name in
    one_fewer c.pop.new.self.items c.self.inside.bindings.items c.in-Some.last (names_of c.self.inside.standings) (names_of c.match-last.self-inside.standings) parts c.self.invariant
    (elim c.match-last.branch [
      | in-Some-before+in_ok-bind-in-Some-before w ↦ λ name.
          ap (λ (i : Inside). names_of i.standings name) w.self-inside-is ∙ (ap (λ m. m name) w.in_ok-bind-in-Some-before.ensures.ok ∙ ap (was name) (sym w.in-Some-before.is))
      | in-None w ↦ λ name.
          ap (λ (i : Inside). names_of i.standings name) w.self-inside-is ∙ (ap (λ m. m name) w.unbind.ensures ∙ ap (was name) (sym w.in-None.is))
    ])
