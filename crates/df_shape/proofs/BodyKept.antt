-- What makes a definition or a result makes in blocks what it stands for in the source.
use Rattle.std.proofs.Common.{◌≡◌, ℕ, zero, suc, ℤ, pos, ◌+ℤ◌, Bool, true, false, ◌||◌, List, [], ◌∷◌, ◌++◌, refl, sym, ◌∙◌, ap, Option, Some, None, bytes_eq}
use Rattle.std.specs.Prelude.{not}
use Rattle.std.proofs.lemmas.Slice.Eq.{bytes_eq-Decides}
use Rattle.df_values.specs.declared.values.Value.{Value}
use Rattle.df_values.specs.declared.values.Value.TheVariants.{Int}
use Rattle.df_values.specs.declared.values.Basic.{Basic}
use Rattle.df_syntax.specs.declared.bound.Bound.{Bound}
use Rattle.df_syntax.specs.declared.bound.Bound.TheVariants.{Scalar, Array}
use Rattle.df_syntax.specs.declared.tree.Sort.{Sort}
use Rattle.df_syntax.specs.declared.tree.Sort.TheVariants as of
use Rattle.df_syntax.specs.declared.tree.Expr.{Expr}
use Rattle.df_syntax.specs.declared.tree.Node.{roll-Node}
use Rattle.df_syntax.specs.declared.tree.Node.TheVariants as n
use Rattle.df_syntax.specs.declared.tree.Node.TheOpen.{Node-F}
use Rattle.df_syntax.specs.TreeInduction.{Proved, without, tree_induction}
use Rattle.df_syntax.proofs.Senses.{named, parens}
use Rattle.df_syntax.specs.declared.piped.Body.TheVariants as body
use Rattle.df_syntax.specs.declared.piped.Outcome.{Outcome}
use Rattle.df_syntax.specs.Trees.{Opened, layer_of, map_same}
use Rattle.df_syntax.specs.Meaning.{Name, Env, value_of, scalar, bound_at}
use Rattle.df_syntax.specs.BlockMeaning.{indices, value_at, members_over, folded, before, recurred}
use Rattle.df_syntax.specs.BlockMeaning as blocks_of
use Rattle.df_syntax.specs.FreshNames.{Taken, Fresh, also, is_fresh, node_fresh}
use Rattle.df_syntax.specs.SourceForms.{Numbers, form, manifest, elements, Recurrence, recurrence_of}
use Rattle.df_syntax.specs.SourceMeaning.{over, number_of, name_bound, recurrence_bound, array_bound, scalar_bound, bound_of}
use Rattle.df_shape.specs.declared.standing.Standing.{Standing}
use Rattle.df_shape.specs.declared.standing.Standing.TheVariants as standing
use Rattle.df_shape.specs.Renamed.{Names, renamed}
use Rattle.df_shape.specs.Shaped.{recurrence_body, array_body, scalar_body, body_of, name_standing}
use Rattle.std.proofs.lemmas.Bool.{not-true, or_parts}
use Rattle.df_syntax.proofs.Tests.{and_left, and_right}
use Rattle.df_shape.proofs.Agreement.{Bounds, Agree, agree_after, also_taken, not_both}
use Rattle.df_shape.proofs.Kept.{Calls, with_calls, expression_kept}
use Rattle.df_shape.proofs.CallsKept.{more_taken}
use Rattle.df_shape.proofs.ManifestMeaning.{manifest_means}
use Rattle.df_shape.proofs.MainNames as main_names
use Rattle.df_shape.proofs.MainNames.{AreKnown, main_agrees, main_numbers}
use Rattle.df_shape.proofs.BoundsKnown.{IsManifest, BoundsKnown, form_plain, form_parens}
use Rattle.df_shape.proofs.FreshParts.{form_fresh, RecurrenceFresh, recurrence_fresh}

-- the value of an expression that is a name, read through parentheses
abbrev IsNamed : Expr → Type 0
IsNamed e = (name : Name) (env : Env) → form e ≡ Node-F.Name name → value_of e env ≡ scalar (bound_at env.names name)

-- the name that an opened node is
abbrev name_in : Name → Opened → Name
name_in otherwise (Node-F.Name name) = name
name_in otherwise x = otherwise

abbrev is_name_node : Opened → Bool
is_name_node (Node-F.Name name) = true
is_name_node x = false

named_step : (e : Expr) (y : Proved IsNamed) → e.node ≡ roll-Node (without IsNamed y) → IsNamed e
named_step e (Node-F.Parens of) is name env at = parens e of.0 env (is ∙ n.rolls-Parens of.0) ∙ of.1 name env (sym (form_parens e of.0 is) ∙ at)
named_step e (Node-F.Name other) is name env at =
    named e other env (is ∙ n.rolls-Name other) ∙ ap (λ (x : Opened). scalar (bound_at env.names (name_in name x))) (sym (form_plain e (Node-F.Name other) is (λ of q. cc)) ∙ at)
named_step e y is name env at = not_both true refl (sym (ap is_name_node (sym (form_plain e (without IsNamed y) is (λ of q. cc)) ∙ at)))

pub name_value : (e : Expr) (name : Name) (env : Env) → form e ≡ Node-F.Name name → value_of e env ≡ scalar (bound_at env.names name)
name_value = tree_induction IsNamed named_step

module _ (numbers : Numbers) (of_source of_blocks : Calls) (same_calls : (name : Name) (vs : List (Option Value)) → of_blocks name vs ≡ of_source name vs)
    (inputs : List (List Value)) (start : Bounds) (names : Names) (taken : Taken) (source blocks : Bounds) (made : List Bound)
    (are : AreKnown numbers of_blocks inputs start names taken source blocks made) where
  abbrev in_source : Env
  in_source = with_calls of_source source

  abbrev in_blocks : Env
  in_blocks = with_calls of_blocks blocks

  agree : Agree names taken source blocks
  agree = main_agrees numbers of_blocks inputs start names taken source blocks made are

  -- ---- values

  value_kept : (e : Expr) (others : Taken) (s b : Bounds) → Agree names others s b → is_fresh e others ≡ true → value_of (renamed names e) (with_calls of_blocks b) ≡ value_of e (with_calls of_source s)
  unfolding value_of
  value_kept e others s b near fresh = (expression_kept names of_source of_blocks same_calls e others s b near fresh).0

  members_kept : (index : Name) (elem : Expr) (lo : ℤ) (n : ℕ) → taken index ≡ false → is_fresh elem (also taken index) ≡ true
      → members_over in_blocks index (renamed names elem) lo n ≡ members_over in_source index elem lo n
  members_kept index elem lo n new fresh =
      map_same ℤ (Option Value) (value_at in_blocks index (renamed names elem)) (value_at in_source index elem)
      (λ i. value_kept elem (also taken index) (source ++ (index, Scalar (Some (Int i))) ∷ []) (blocks ++ (index, Scalar (Some (Int i))) ∷ [])
      (agree_after names taken source blocks index (Scalar (Some (Int i))) agree new) fresh) (indices lo n)

  -- ---- recurrences

  module _ (r : Recurrence) (fresh : RecurrenceFresh r taken) where
    array_new : taken r.array ≡ false
    unfolding also
    array_new = (or_parts (bytes_eq r.index r.array) (taken r.array) fresh.array_new).1

    apart : bytes_eq r.array r.index ≡ false
    unfolding also
    apart = by (bytes_eq r.array r.index) refl
      where
        by : (b : Bool) → bytes_eq r.array r.index ≡ b → bytes_eq r.array r.index ≡ false
        by true is =
            let same = (bytes_eq-Decides r.array r.index).0 is in
            not_both (bytes_eq r.index r.array) (ap (λ n. bytes_eq n r.array) (sym same) ∙ (ap (bytes_eq r.array) same ∙ is)) (or_parts (bytes_eq r.index r.array) (taken r.array) fresh.array_new).0
        by false is = is

    index_new : also taken r.array r.index ≡ false
    unfolding also
    index_new = ap (λ b. b || taken r.index) apart ∙ fresh.index_new

    turned : (name : Name) → also (also taken r.array) r.index name ≡ true → also (also taken r.index) r.array name ≡ true
    unfolding also
    turned name h = swap (bytes_eq r.index name) (bytes_eq r.array name) (taken name) h
      where
        swap : (a b c : Bool) → (a || (b || c)) ≡ true → (b || (a || c)) ≡ true
        swap true true c h = refl
        swap true false c h = refl
        swap false b c h = h

    recurred_kept : (lo : ℤ) (n : ℕ) → recurred in_blocks r.index r.array lo (renamed names r.first) (renamed names r.elem) n ≡ recurred in_source r.index r.array lo r.first r.elem n
    recurred_kept lo zero =
        ap (λ v. v ∷ []) (value_kept r.first (also taken r.index) source blocks (more_taken names taken (also taken r.index) source blocks agree (also_taken taken r.index)) fresh.first_fresh)
    recurred_kept lo (suc n) =
        let members = recurred in_source r.index r.array lo r.first r.elem n in
        let array = Array (before lo) members in
        let i = Scalar (Some (Int (lo +ℤ pos n))) in
        ap (λ ms. ms ++ value_at (with_calls of_blocks (blocks ++ (r.array, Array (before lo) ms) ∷ [])) r.index (renamed names r.elem) (lo +ℤ pos n) ∷ []) (recurred_kept lo n)
        ∙ ap (λ v. members ++ v ∷ [])
        (value_kept r.elem (also (also taken r.index) r.array) ((source ++ (r.array, array) ∷ []) ++ (r.index, i) ∷ []) ((blocks ++ (r.array, array) ∷ []) ++ (r.index, i) ∷ [])
        (more_taken names (also (also taken r.array) r.index) (also (also taken r.index) r.array) _ _
        (agree_after names (also taken r.array) (source ++ (r.array, array) ∷ []) (blocks ++ (r.array, array) ∷ []) r.index i
        (agree_after names taken source blocks r.array array agree array_new) index_new) turned) fresh.elem_fresh)

  -- ---- bounds

  over_kept : {A B : Type 0} (low high : Expr) → IsManifest numbers low → IsManifest numbers high → (otherwise : A) (f : ℤ → ℕ → A) (other : B) (g : ℤ → ℕ → B) (make : A → B)
      → ((lo : ℤ) (n : ℕ) → make (f lo n) ≡ g lo n)
      → make (over (manifest numbers low) (manifest numbers high) otherwise f) ≡ over (number_of in_source low) (number_of in_source high) other g
  over_kept low high (lo, at_low) (hi, at_high) otherwise f other g make same =
      let known = main_numbers numbers of_blocks inputs start names taken source blocks made of_source are in
      ap (λ l. make (over l (manifest numbers high) otherwise f)) at_low
      ∙ (ap (λ h. make (over (Some lo) h otherwise f)) at_high
      ∙ (same lo (elements lo hi)
      ∙ sym (ap (λ l. over l (number_of in_source high) other g) (manifest_means numbers in_source known low lo at_low)
      ∙ ap (λ h. over (Some lo) h other g) (manifest_means numbers in_source known high hi at_high))))

  over_outside : {A B : Type 0} (low high : Option ℤ) (otherwise : A) (f : ℤ → ℕ → A) (make : A → B) → over low high (make otherwise) (λ lo n. make (f lo n)) ≡ make (over low high otherwise f)
  over_outside None high otherwise f make = refl
  over_outside (Some lo) None otherwise f make = refl
  over_outside (Some lo) (Some hi) otherwise f make = refl

  -- ---- right sides and results

  scalar_kept : (e : Expr) → is_fresh e taken ≡ true → blocks_of.made in_blocks (body.Scalar (renamed names e)) ≡ Scalar (value_of e in_source)
  scalar_kept e fresh = ap (λ v. Scalar v) (value_kept e taken source blocks agree fresh)

  scalar_side : (e : Expr) (x : Opened) → is_fresh e taken ≡ true → node_fresh (layer_of Fresh is_fresh x) taken ≡ true → BoundsKnown numbers x
      → blocks_of.made in_blocks (scalar_body numbers names e x) ≡ Scalar (scalar_bound in_source e x)
  scalar_side e (Node-F.Fold index low high o elem) fresh parts (low_known, high_known) =
      let inner = and_right (is_fresh high taken) _ (and_right (is_fresh low taken) _ parts) in
      over_kept low high low_known high_known (body.Scalar (renamed names e)) (λ lo n. body.Fold index.name o lo n (renamed names elem)) (Scalar None)
      (λ lo n. Scalar (folded o (members_over in_source index.name elem lo n))) (λ b. blocks_of.made in_blocks b)
      (λ lo n. ap (λ ms. Scalar (folded o ms)) (members_kept index.name elem lo n (not-true (taken index.name) (and_left _ _ inner)) (and_right (not (taken index.name)) _ inner)))
      ∙ over_outside (number_of in_source low) (number_of in_source high) None (λ lo n. folded o (members_over in_source index.name elem lo n)) (λ v. Scalar v)
  scalar_side e x fresh parts known = scalar_kept e fresh

  name_side : (e : Expr) (name : Name) → (s : Option Standing) → main_names.Known numbers of_blocks inputs start source blocks made name s
      → ((o : Outcome) (other : Name) → s ≡ Some (standing.Array o other) → ⊥) → Scalar (scalar (bound_at source name)) ≡ name_bound (bound_at source name)
  name_side e name None known plain = ap (λ b. Scalar (scalar b)) known.0 ∙ sym (ap name_bound known.0)
  name_side e name (Some (standing.Constant k)) known plain = ap (λ b. Scalar (scalar b)) known.0 ∙ sym (ap name_bound known.0)
  name_side e name (Some (standing.Scalar o)) known plain = ap (λ b. Scalar (scalar b)) known.in_source ∙ sym (ap name_bound known.in_source)
  name_side e name (Some (standing.Array o other)) known plain = absurd (plain o other refl)

  recurrence_side : (e : Expr) (x : Opened) → is_fresh e taken ≡ true → node_fresh (layer_of Fresh is_fresh x) taken ≡ true → (o : Option Recurrence) → recurrence_of x ≡ o
      → ((r : Recurrence) → o ≡ Some r → IsManifest numbers r.low × IsManifest numbers r.high)
      → blocks_of.made in_blocks (recurrence_body numbers names e o) ≡ recurrence_bound in_source e o
  recurrence_side e x fresh parts None is known = scalar_kept e fresh
  recurrence_side e x fresh parts (Some r) is known =
      let both = known r refl in
      over_kept r.low r.high both.0 both.1 (body.Scalar (renamed names e)) (λ lo n. body.Recur r.index r.array lo n (renamed names r.first) (renamed names r.elem)) (Scalar None)
      (λ lo n. Array (before lo) (recurred in_source r.index r.array lo r.first r.elem n)) (λ b. blocks_of.made in_blocks b)
      (λ lo n. ap (λ ms. Array (before lo) ms) (recurred_kept r (recurrence_fresh x r taken is parts) lo n))

  array_side : (e : Expr) (x : Opened) → form e ≡ x → is_fresh e taken ≡ true → node_fresh (layer_of Fresh is_fresh x) taken ≡ true → BoundsKnown numbers x
      → ((o : Outcome) (other : Name) → name_standing numbers names x ≡ Some (standing.Array o other) → ⊥)
      → blocks_of.made in_blocks (array_body numbers names e x) ≡ array_bound in_source e x
  array_side e (Node-F.Construct index low high elem) at fresh parts (low_known, high_known) plain =
      let inner = and_right (is_fresh high taken) _ (and_right (is_fresh low taken) _ parts) in
      over_kept low high low_known high_known (body.Scalar (renamed names e)) (λ lo n. body.Construct index.name lo n (renamed names elem)) (Scalar None)
      (λ lo n. Array lo (members_over in_source index.name elem lo n)) (λ b. blocks_of.made in_blocks b)
      (λ lo n. ap (λ ms. Array lo ms) (members_kept index.name elem lo n (not-true (taken index.name) (and_left _ _ inner)) (and_right (not (taken index.name)) _ inner)))
  array_side e (Node-F.Name name) at fresh parts known plain =
      scalar_kept e fresh ∙ (ap (λ v. Scalar v) (name_value e name in_source at) ∙ name_side e name (names name) (are.known name) plain)
  array_side e (Node-F.For ds asked assigns last) at fresh parts known plain =
      recurrence_side e (Node-F.For ds asked assigns last) fresh parts (recurrence_of (Node-F.For ds asked assigns last)) refl known
  array_side e x at fresh parts known plain = scalar_kept e fresh

  -- what a right side or a result makes, unless it is the name of an array
  pub side_kept : (sort : Sort) (e : Expr) → is_fresh e taken ≡ true → BoundsKnown numbers (form e)
      → ((b : Basic) → sort ≡ of.Array b → (o : Outcome) (other : Name) → name_standing numbers names (form e) ≡ Some (standing.Array o other) → ⊥)
      → blocks_of.made in_blocks (body_of numbers names sort e) ≡ bound_of in_source sort e
  side_kept (of.Basic b) e fresh known plain = scalar_side e (form e) fresh (form_fresh e taken fresh) known
  side_kept (of.Array b) e fresh known plain = array_side e (form e) refl fresh (form_fresh e taken fresh) known (plain b refl)
