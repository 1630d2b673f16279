-- The recurrences of an accepted source have their types in blocks.
use Rattle.std.proofs.Common.{◌≡◌, pos, Bool, true, false, if◌then◌else◌, List, [], ◌∷◌, ◌++◌, refl, sym, ◌∙◌, ap, ap₂, subst, Option, Some, None, bytes_eq}
use Rattle.std.specs.Option.{is_some}
use Rattle.std.proofs.lemmas.Slice.Eq.{bytes_eq-Decides}
use Rattle.df_values.specs.declared.values.Basic as basic
use Rattle.df_syntax.specs.declared.tree.Sort.{Sort}
use Rattle.df_syntax.specs.declared.tree.Sort.TheVariants as of
use Rattle.df_syntax.specs.declared.tree.Expr.{Expr}
use Rattle.df_syntax.specs.declared.program.Function.{Function}
use Rattle.df_syntax.specs.Demands.{first_refusal}
use Rattle.df_syntax.specs.Meaning.{Name}
use Rattle.df_syntax.specs.SourceForms.{Numbers, names_it}
use Rattle.df_syntax.specs.WellBuilt.{is_bounded}
use Rattle.df_syntax.specs.WellShaped.{Known, Previous, sort_at, type_of, elem_type}
use Rattle.df_types.specs.declared.entry.Entry.TheVariants as entry
use Rattle.df_types.specs.Scopes as scopes
use Rattle.df_types.specs.Sorts.{integer}
use Rattle.df_types.specs.Types.{Look, look_of}
use Rattle.df_names.specs.Maps.{bind}
use Rattle.df_shape.specs.declared.part.Part.TheVariants.{Inside, Element}
use Rattle.df_shape.specs.declared.standing.Standing.{Standing}
use Rattle.df_shape.specs.declared.standing.Standing.TheVariants as standing
use Rattle.df_shape.specs.Demands.{demands_of}
use Rattle.df_shape.specs.Renamed.{Names, array_name, renamed}
use Rattle.df_accepted.proofs.Agreed.{Agrees, Fits, Sorts, agrees_inside, agrees_more, none_new, differs, fits_kept, bind_new, bind_old, some_behind, sort_behind}
use Rattle.df_accepted.proofs.Forms.{around}
use Rattle.df_accepted.proofs.ManifestParts.{NumbersStand}
use Rattle.df_accepted.proofs.TypedFunctions.{type_is}
use Rattle.df_accepted.proofs.TypedParts.{here, part_typed}
use Rattle.df_accepted.proofs.Unnamed.{same_renamed}
use Rattle.df_shape.proofs.DefinedKept.{is_itself}

-- whether two names are the same does not depend on their order
pub either_way : (x y : Name) → bytes_eq x y ≡ bytes_eq y x
either_way x y = by (bytes_eq x y) (bytes_eq y x) refl refl
  where
    by : (a b : Bool) → bytes_eq x y ≡ a → bytes_eq y x ≡ b → a ≡ b
    by true true is at = refl
    by false false is at = refl
    by true false is at = sym ((bytes_eq-Decides y x).1 (sym ((bytes_eq-Decides x y).0 is))) ∙ at
    by false true is at = sym is ∙ (bytes_eq-Decides x y).1 (sym ((bytes_eq-Decides y x).0 at))

-- the order of two names that differ does not matter
swapped : (sorts : Sorts) (i t : Name) (a b : Sort) → bytes_eq i t ≡ false → (m : Name)
    → sort_at ((sorts ++ (t, b) ∷ []) ++ (i, a) ∷ []) m ≡ sort_at ((sorts ++ (i, a) ∷ []) ++ (t, b) ∷ []) m
swapped sorts i t a b apart m =
    sort_behind (sorts ++ (t, b) ∷ []) i a m
    ∙ (ap (λ o. if bytes_eq i m then Some a else o) (sort_behind sorts t b m)
    ∙ (by (bytes_eq i m) (bytes_eq t m) refl refl
    ∙ (sym (ap (λ o. if bytes_eq t m then Some b else o) (sort_behind sorts i a m)) ∙ sym (sort_behind (sorts ++ (i, a) ∷ []) t b m))))
  where
    by : (p q : Bool) → bytes_eq i m ≡ p → bytes_eq t m ≡ q
        → (if bytes_eq i m then Some a else (if bytes_eq t m then Some b else sort_at sorts m)) ≡ (if bytes_eq t m then Some b else (if bytes_eq i m then Some a else sort_at sorts m))
    by true true is at =
        let clash : true ≡ false = sym ((bytes_eq-Decides i t).1 ((bytes_eq-Decides i m).0 is ∙ sym ((bytes_eq-Decides t m).0 at))) ∙ apart in
        absurd (cc)
    by true false is at = ap₂ (λ p q. if p then Some a else (if q then Some b else sort_at sorts m)) is at ∙ sym (ap₂ (λ p q. if q then Some b else (if p then Some a else sort_at sorts m)) is at)
    by false q is at = ap₂ (λ p q. if p then Some a else (if q then Some b else sort_at sorts m)) is at ∙ sym (ap₂ (λ p q. if q then Some b else (if p then Some a else sort_at sorts m)) is at)

same_agrees : (all functions : List Function) (callable : Name → Bool) (names : Names) (scope : scopes.Names) (sorts new : Sorts) → ((m : Name) → sort_at new m ≡ sort_at sorts m)
    → Agrees all functions callable names scope sorts → Agrees all functions callable names scope new
same_agrees all functions callable names scope sorts new same agrees = record {
  values = λ n s value is. fits_kept sorts new n (names n) s (same n) (λ o other at. same other) (agrees.values n s value is);
  stands = agrees.stands;
  others = agrees.others;
  called = agrees.called;
}

module _ (all functions : List Function) (numbers : Numbers) (names : Names) (stand : NumbersStand numbers names) (arrays callable gives : Name → Bool)
    (scope : scopes.Names) (sorts : Sorts) (agrees : Agrees all functions callable names scope sorts) (i t : Name) (none_i : scope i ≡ None) where
  abbrev l : Expr → Look
  l = look_of all

  abbrev with_index : scopes.Names
  with_index = bind scope i (entry.Local integer)

  abbrev with_both : basic.Basic → scopes.Names
  with_both b = bind (bind scope i (entry.Local integer)) t (entry.Local (of.Array b))

  -- the first element does not name the index
  pub first_typed : (first : Expr) (b : basic.Basic) → names_it i first ≡ false → is_bounded first ≡ true → first_refusal ((l first).demands with_index) ≡ None
      → (l first).sort with_index ≡ of.Basic b → first_refusal (demands_of first (here all functions numbers names stand arrays callable gives Inside)) ≡ None
      → type_of (renamed names first) (around sorts functions Known) ≡ Some b
  first_typed first b unnamed bounded h sort d =
      ap (λ (e : Expr). type_of e (around sorts functions Known)) (sym (same_renamed names i (pos 0) none_here first unnamed))
      ∙ (type_is new first (around sorts functions Known)
      ∙ part_typed all functions numbers new new_stand arrays callable gives first with_index sorts Inside agrees_new tt tt bounded h d (λ may. absurd (cc)) b sort)
    where
      new : Names
      new = bind names i (standing.Constant (pos 0))

      none_here : names i ≡ None
      none_here = none_new all functions callable names scope sorts agrees i integer none_i i (is_itself i)

      new_stand : NumbersStand numbers new
      new_stand m k is = bind_old names i (standing.Constant (pos 0)) m (differs names i m none_here (ap is_some (stand m k is))) ∙ stand m k is

      agrees_new : Agrees all functions callable new with_index sorts
      agrees_new =
          agrees_more all functions callable names scope sorts agrees i integer none_i new sorts (λ m at. bind_old names i (standing.Constant (pos 0)) m at) (λ m at. refl)
          (λ m at. subst (λ (s : Option Standing). Fits sorts m s integer) (sym (bind_new names i (standing.Constant (pos 0)) m at)) refl)
          (λ m o other at is. let clash : Some (standing.Constant (pos 0)) ≡ Some (standing.Array o other) = sym (bind_new names i (standing.Constant (pos 0)) m at) ∙ is in absurd (cc))

  -- an element may take the array so far at the index before
  pub next_typed : (elem : Expr) (b : basic.Basic) → bind scope i (entry.Local integer) t ≡ None → is_bounded elem ≡ true → first_refusal ((l elem).demands (with_both b)) ≡ None
      → (l elem).sort (with_both b) ≡ of.Basic b → first_refusal (demands_of elem (here all functions numbers names stand arrays callable gives (Element i (Some t)))) ≡ None
      → elem_type (around (sorts ++ (t, of.Array b) ∷ []) functions (Previous i t)) i (renamed names elem) ≡ Some b
  next_typed elem b none_t bounded h sort d =
      type_is names elem (around ((sorts ++ (t, of.Array b) ∷ []) ++ (i, integer) ∷ []) functions (Previous i t))
      ∙ part_typed all functions numbers names stand arrays callable gives elem (with_both b) ((sorts ++ (t, of.Array b) ∷ []) ++ (i, integer) ∷ []) (Element i (Some t))
      agrees_both (none_i_stands, own_stands) (some_behind with_index t (entry.Local (of.Array b)) i index_bound) bounded h d (λ may. absurd (cc)) b sort
    where
      agrees_index : Agrees all functions callable names with_index (sorts ++ (i, integer) ∷ [])
      agrees_index = agrees_inside all functions callable names scope sorts agrees i integer none_i

      index_bound : is_some (with_index i) ≡ true
      index_bound = ap is_some (bind_new scope i (entry.Local integer) i (is_itself i))

      apart : bytes_eq i t ≡ false
      apart = either_way i t ∙ differs with_index t i none_t index_bound

      agrees_both : Agrees all functions callable names (with_both b) ((sorts ++ (t, of.Array b) ∷ []) ++ (i, integer) ∷ [])
      agrees_both =
          same_agrees all functions callable names (with_both b) ((sorts ++ (i, integer) ∷ []) ++ (t, of.Array b) ∷ []) ((sorts ++ (t, of.Array b) ∷ []) ++ (i, integer) ∷ [])
          (swapped sorts i t integer (of.Array b) apart)
          (agrees_inside all functions callable names with_index (sorts ++ (i, integer) ∷ []) agrees_index t (of.Array b) none_t)

      none_i_stands : names i ≡ None
      none_i_stands = none_new all functions callable names scope sorts agrees i integer none_i i (is_itself i)

      own_stands : (m : Name) → bytes_eq (array_name m (names m)) t ≡ bytes_eq t m
      own_stands m = by (names m) refl
        where
          by : (s : Option Standing) → names m ≡ s → bytes_eq (array_name m s) t ≡ bytes_eq t m
          by None is = either_way m t
          by (Some (standing.Constant k)) is = either_way m t
          by (Some (standing.Scalar o)) is = either_way m t
          by (Some (standing.Array o other)) is =
              either_way other t
              ∙ (differs with_index t other none_t (agrees_index.others m o other is) ∙ sym (differs with_index t m none_t (agrees_index.stands m (ap is_some is))))
