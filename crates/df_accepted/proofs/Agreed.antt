-- What the names around an expression of an accepted source stand for, in its blocks as in the source.
use Rattle.std.proofs.Common.{◌≡◌, ℕ, Bool, true, false, if◌then◌else◌, List, [], ◌∷◌, ◌++◌, refl, sym, ◌∙◌, ap, subst, Option, Some, None, bytes_eq, slice_get}
use Rattle.std.specs.Option.{is_some}
use Rattle.std.proofs.lemmas.List.Sums.{fold-append}
use Rattle.std.proofs.lemmas.Slice.Eq.{bytes_eq-Decides}
use Rattle.df_values.specs.declared.values.Basic as basic
use Rattle.df_values.specs.declared.values.Basic.TheVariants.{Integer}
use Rattle.df_syntax.specs.declared.tree.Sort.{Sort}
use Rattle.df_syntax.specs.declared.tree.Sort.TheVariants.{Basic, Array}
use Rattle.df_syntax.specs.declared.program.Function.{Function}
use Rattle.df_syntax.specs.declared.piped.Outcome.{Outcome}
use Rattle.df_syntax.specs.Meaning.{Name}
use Rattle.df_syntax.specs.WellShaped.{sort_at, scalar_sort, array_sort, function_at}
use Rattle.df_names.specs.Maps.{bind}
use Rattle.df_types.specs.declared.entry.Entry.TheVariants as entry
use Rattle.df_types.specs.Scopes as scopes
use Rattle.df_types.specs.Sorts.{is_value, value_sort}
use Rattle.df_shape.specs.declared.standing.Standing.{Standing}
use Rattle.df_shape.specs.declared.standing.Standing.TheVariants as standing
use Rattle.df_shape.specs.Renamed.{Names, array_name}
use Rattle.df_shape.specs.Sources.{is_scalar_function}

-- the sorts of names in blocks
abbrev pub Sorts : Type 0
Sorts = List (Name × Sort)

-- the type of a name that is a scalar, once it is put into blocks
abbrev pub name_type : Sorts → Name → Option Standing → Option basic.Basic
name_type sorts name (Some (standing.Constant number)) = Some Integer
name_type sorts name (Some (standing.Array outcome other)) = scalar_sort (sort_at sorts other)
name_type sorts name s = scalar_sort (sort_at sorts name)

-- a name of this sort has it in blocks too
abbrev pub Fits : Sorts → Name → Option Standing → Sort → Type 0
Fits sorts name s (Basic b) = name_type sorts name s ≡ Some b
Fits sorts name s (Array b) = array_sort (sort_at sorts (array_name name s)) ≡ Some b

-- a function that takes scalars and gives one stands among functions that may be called
abbrev pub Called : List Function → Name → Function → Type 0
Called functions name f =
    (g : Function) × (function_at functions name ≡ Some g) × (g.parameters ≡ f.parameters) × (g.results ≡ f.results) × (is_scalar_function f ≡ true)

-- Names that stand for something in the source, by what they stand for in blocks.
pub record Agrees (all functions : List Function) (callable : Name → Bool) (names : Names) (scope : scopes.Names) (sorts : Sorts) : Type 0 where
  pub values : (n : Name) (s : Sort) → is_value (scope n) ≡ true → value_sort (scope n) ≡ s → Fits sorts n (names n) s
  pub stands : (n : Name) → is_some (names n) ≡ true → is_some (scope n) ≡ true
  pub others : (n : Name) (o : Outcome) (other : Name) → names n ≡ Some (standing.Array o other) → is_some (scope other) ≡ true
  pub called : (n : Name) (i : ℕ) (f : Function) → scope n ≡ Some (entry.Function i) → slice_get all i ≡ Some f → callable n ≡ true → Called functions n f

-- ---- one name more

nothing : {A : Type 0} (o : Option A) → o ≡ None → is_some o ≡ true → ⊥
nothing None is h = cc
nothing (Some x) is h = cc

-- a name that stands for nothing differs from one that stands for something
pub differs : {T : Type 0} (scope : Name → Option T) (d m : Name) → scope d ≡ None → is_some (scope m) ≡ true → bytes_eq d m ≡ false
differs scope d m none some = by (bytes_eq d m) refl
  where
    by : (b : Bool) → bytes_eq d m ≡ b → b ≡ false
    by false is = refl
    by true is = absurd (nothing (scope m) (ap scope (sym ((bytes_eq-Decides d m).0 is)) ∙ none) some)

pub sort_behind : (sorts : Sorts) (d : Name) (sort : Sort) (m : Name) → sort_at (sorts ++ (d, sort) ∷ []) m ≡ (if bytes_eq d m then Some sort else sort_at sorts m)
sort_behind sorts d sort m = fold-append (λ (found : Option Sort) (n : Name × Sort). if bytes_eq n.0 m then Some n.1 else found) None sorts ((d, sort) ∷ [])

pub sort_of_new : (sorts : Sorts) (d : Name) (sort : Sort) (m : Name) → bytes_eq d m ≡ true → sort_at (sorts ++ (d, sort) ∷ []) m ≡ Some sort
sort_of_new sorts d sort m is = sort_behind sorts d sort m ∙ ap (λ b. if b then Some sort else sort_at sorts m) is

pub sort_of_old : (sorts : Sorts) (d : Name) (sort : Sort) (m : Name) → bytes_eq d m ≡ false → sort_at (sorts ++ (d, sort) ∷ []) m ≡ sort_at sorts m
sort_of_old sorts d sort m is = sort_behind sorts d sort m ∙ ap (λ b. if b then Some sort else sort_at sorts m) is

pub bind_new : {T : Type 0} (scope : Name → Option T) (d : Name) (x : T) (m : Name) → bytes_eq d m ≡ true → bind scope d x m ≡ Some x
unfolding bind
bind_new scope d x m is = ap (λ b. if b then Some x else scope m) is

pub bind_old : {T : Type 0} (scope : Name → Option T) (d : Name) (x : T) (m : Name) → bytes_eq d m ≡ false → bind scope d x m ≡ scope m
unfolding bind
bind_old scope d x m is = ap (λ b. if b then Some x else scope m) is

pub some_behind : {T : Type 0} (scope : Name → Option T) (d : Name) (x : T) (m : Name) → is_some (scope m) ≡ true → is_some (bind scope d x m) ≡ true
unfolding bind
some_behind scope d x m h = elim (bytes_eq d m) as (λ b. is_some (if b then Some x else scope m) ≡ true) [ true ↦ refl | false ↦ h ]

-- what a name stands for is kept where the sorts of the names that it stands for are
pub fits_kept : (sorts new : Sorts) (m : Name) (s : Option Standing) (sort : Sort) → sort_at new m ≡ sort_at sorts m
    → ((o : Outcome) (other : Name) → s ≡ Some (standing.Array o other) → sort_at new other ≡ sort_at sorts other) → Fits sorts m s sort → Fits new m s sort
fits_kept sorts new m None (Basic b) same f h = ap scalar_sort same ∙ h
fits_kept sorts new m (Some (standing.Constant k)) (Basic b) same f h = h
fits_kept sorts new m (Some (standing.Array o other)) (Basic b) same f h = ap scalar_sort (f o other refl) ∙ h
fits_kept sorts new m (Some (standing.Scalar o)) (Basic b) same f h = ap scalar_sort same ∙ h
fits_kept sorts new m None (Array b) same f h = ap array_sort same ∙ h
fits_kept sorts new m (Some (standing.Constant k)) (Array b) same f h = ap array_sort same ∙ h
fits_kept sorts new m (Some (standing.Array o other)) (Array b) same f h = ap array_sort (f o other refl) ∙ h
fits_kept sorts new m (Some (standing.Scalar o)) (Array b) same f h = ap array_sort same ∙ h

module _ (all functions : List Function) (callable : Name → Bool) (names : Names) (scope : scopes.Names) (sorts : Sorts) (agrees : Agrees all functions callable names scope sorts)
    (d : Name) (sort : Sort) (fresh : scope d ≡ None) where
  abbrev inner : scopes.Names
  inner = bind scope d (entry.Local sort)

  -- a new name stands for nothing
  pub none_new : (m : Name) → bytes_eq d m ≡ true → names m ≡ None
  none_new m is = by (names m) refl
    where
      by : (o : Option Standing) → names m ≡ o → o ≡ None
      by None at = refl
      by (Some s) at =
          let same : d ≡ m = (bytes_eq-Decides d m).0 is in
          let some : is_some (scope m) ≡ true = agrees.stands m (ap is_some at) in
          let none : scope m ≡ None = ap scope (sym same) ∙ fresh in
          absurd (nothing (scope m) none some)

  -- with a new local name, where the other names keep what they stand for and their sorts
  pub agrees_more : (new : Names) (more : Sorts)
      → ((m : Name) → bytes_eq d m ≡ false → new m ≡ names m)
      → ((m : Name) → bytes_eq d m ≡ false → sort_at more m ≡ sort_at sorts m)
      → ((m : Name) → bytes_eq d m ≡ true → Fits more m (new m) sort)
      → ((m : Name) (o : Outcome) (other : Name) → bytes_eq d m ≡ true → new m ≡ Some (standing.Array o other) → is_some (inner other) ≡ true)
      → Agrees all functions callable new inner more
  agrees_more new more same kept own own_other = record {
    values = λ m s value is. value_by m s (bytes_eq d m) refl value is;
    stands = λ m some. stand_by m (bytes_eq d m) refl some;
    others = λ m o other at. other_by m o other (bytes_eq d m) refl at;
    called = λ m i f at. call_by m i f (bytes_eq d m) refl at;
  }
    where
      value_by : (m : Name) (s : Sort) (b : Bool) → bytes_eq d m ≡ b → is_value (inner m) ≡ true → value_sort (inner m) ≡ s → Fits more m (new m) s
      value_by m s true at value is =
          let equal : sort ≡ s = sym (ap value_sort (bind_new scope d (entry.Local sort) m at)) ∙ is in
          subst (λ (t : Sort). Fits more m (new m) t) equal (own m at)
      value_by m s false at value is =
          let old = bind_old scope d (entry.Local sort) m at in
          subst (λ (o : Option Standing). Fits more m o s) (sym (same m at))
          (fits_kept sorts more m (names m) s (kept m at) (λ o other stand. kept other (differs scope d other fresh (agrees.others m o other stand)))
          (agrees.values m s (sym (ap is_value old) ∙ value) (sym (ap value_sort old) ∙ is)))

      stand_by : (m : Name) (b : Bool) → bytes_eq d m ≡ b → is_some (new m) ≡ true → is_some (inner m) ≡ true
      stand_by m true at some = ap is_some (bind_new scope d (entry.Local sort) m at)
      stand_by m false at some = some_behind scope d (entry.Local sort) m (agrees.stands m (sym (ap is_some (same m at)) ∙ some))

      other_by : (m : Name) (o : Outcome) (other : Name) (b : Bool) → bytes_eq d m ≡ b → new m ≡ Some (standing.Array o other) → is_some (inner other) ≡ true
      other_by m o other true at stand = own_other m o other at stand
      other_by m o other false at stand = some_behind scope d (entry.Local sort) other (agrees.others m o other (sym (same m at) ∙ stand))

      call_by : (m : Name) (i : ℕ) (f : Function) (b : Bool) → bytes_eq d m ≡ b → inner m ≡ Some (entry.Function i) → slice_get all i ≡ Some f → callable m ≡ true → Called functions m f
      call_by m i f true at is found may = let clash : Some (entry.Local sort) ≡ Some (entry.Function i) = sym (bind_new scope d (entry.Local sort) m at) ∙ is in absurd (cc)
      call_by m i f false at is found may = agrees.called m i f (sym (bind_old scope d (entry.Local sort) m at) ∙ is) found may

  -- a name that is bound inside an expression
  pub agrees_inside : Agrees all functions callable names inner (sorts ++ (d, sort) ∷ [])
  agrees_inside =
      agrees_more names (sorts ++ (d, sort) ∷ []) (λ m at. refl) (λ m at. sort_of_old sorts d sort m at)
      (λ m at. subst (λ (o : Option Standing). Fits (sorts ++ (d, sort) ∷ []) m o sort) (sym (none_new m at)) (own sort m (sort_of_new sorts d sort m at)))
      (λ m o other at stand. let clash : None ≡ Some (standing.Array o other) = sym (none_new m at) ∙ stand in absurd (cc))
    where
      own : (t : Sort) (m : Name) → sort_at (sorts ++ (d, sort) ∷ []) m ≡ Some t → Fits (sorts ++ (d, sort) ∷ []) m None t
      own (Basic b) m at = ap scalar_sort at
      own (Array b) m at = ap array_sort at
