-- A definition of an accepted source, put into blocks, keeps what is kept.
use Rattle.std.proofs.Common.{arith, ◌≡◌, ℕ, ◌≤◌, Bool, true, false, List, [], ◌∷◌, ◌++◌, length, refl, sym, ◌∙◌, ap, subst, Option, Some, None, bytes_eq}
use Rattle.std.specs.Option.{is_some}
use Rattle.std.proofs.lemmas.Slice.Eq.{bytes_eq-Decides}
use Rattle.df_values.specs.declared.values.Basic as basic
use Rattle.df_values.specs.declared.values.Basic.TheVariants.{Integer}
use Rattle.df_syntax.specs.declared.tree.Named.{Named}
use Rattle.df_syntax.specs.declared.tree.Sort.{Sort}
use Rattle.df_syntax.specs.declared.tree.Sort.TheVariants as of
use Rattle.df_syntax.specs.declared.tree.Expr.{Expr}
use Rattle.df_syntax.specs.declared.tree.Node.TheOpen.{Node-F}
use Rattle.df_syntax.specs.declared.program.Function.{Function}
use Rattle.df_syntax.specs.declared.piped.Block.{Block}
use Rattle.df_syntax.specs.declared.piped.Outcome.{Outcome}
use Rattle.df_syntax.specs.declared.piped.Outcome.TheVariants as outcome
use Rattle.df_syntax.specs.Meaning.{Name}
use Rattle.df_syntax.specs.SourceForms.{Numbers, bare, form}
use Rattle.df_syntax.specs.WellShaped.{Around, Known, sort_at, scalar_sort, array_sort, body_sort}
use Rattle.df_names.specs.Maps.{bind}
use Rattle.df_types.specs.declared.entry.Entry.TheVariants as entry
use Rattle.df_types.specs.Scopes as scopes
use Rattle.df_types.specs.Sorts.{is_value, value_sort}
use Rattle.df_types.specs.Types.{Look, look_of}
use Rattle.df_types.proofs.Looks.{look_is}
use Rattle.df_shape.specs.declared.standing.Standing.{Standing}
use Rattle.df_shape.specs.declared.standing.Standing.TheVariants as standing
use Rattle.df_shape.specs.Shaped.{Made, standing_by, body_of, define_by, define, name_standing}
use Rattle.df_accepted.proofs.Agreed.{Agrees, Fits, Sorts, agrees_more, none_new, differs, bind_new, bind_old, some_behind, sort_of_new, sort_of_old}
use Rattle.df_accepted.proofs.Forms.{around}
use Rattle.df_accepted.proofs.GivenArrays.{ArraysKnown, local_array}
use Rattle.df_accepted.proofs.ManifestParts.{NumbersStand}
use Rattle.df_accepted.proofs.Subscripted.{sort_bare}
use Rattle.df_accepted.proofs.TypedRecurrences.{bare_node}
use Rattle.df_accepted.proofs.BlockStates.{block_more, IsPlaced, placed_more, length_more, named_form, Going, Demanded, block_typed}
use Rattle.df_shape.proofs.DefinedKept.{is_itself}

module _ (all functions : List Function) (numbers : Numbers) (callable gives : Name → Bool) (start : Around) (parameters : ℕ)
    (scope : scopes.Names) (sorts : Sorts) (made : Made) (going : Going all functions numbers callable gives start parameters scope sorts made) (arrays : Name → Bool) (known : ArraysKnown scope arrays)
    (d : Named) (fresh : scope d.name ≡ None) where
  abbrev l : Expr → Look
  l = look_of all

  abbrev Goes : scopes.Names → Sorts → Made → Type 0
  Goes = Going all functions numbers callable gives start parameters

  abbrev Asked : Sort → Expr → Type 0
  Asked s e = Demanded all functions numbers callable gives start parameters scope arrays made.names going.stand s e

  -- what a definition makes, with the sorts of the names behind it
  abbrev Defines : Sort → Made → Type 0
  Defines s new = (more : Sorts) × Goes (bind scope d.name (entry.Local s)) more new × (length made.blocks ≤ length new.blocks)

  nothing_yet : (s : Sort) (m : Name) → bytes_eq d.name m ≡ true → made.names m ≡ None
  nothing_yet s m at = none_new all functions callable made.names scope sorts going.agrees d.name s fresh m at

  -- the numbers of constants stay
  pub stands_still : (x : Standing) → NumbersStand numbers (bind made.names d.name x)
  stands_still x m k is =
      bind_old made.names d.name x m (differs made.names d.name m (nothing_yet (of.Basic Integer) d.name (is_itself d.name)) (ap is_some (going.stand m k is))) ∙ going.stand m k is

  -- each array has a standing, where the new one has
  pub arrays_stand : (s : Sort) (x : Standing) → ((b : basic.Basic) → s ≡ of.Array b → (o : Outcome) × (other : Name) × (x ≡ standing.Array o other))
      → (m : Name) (b : basic.Basic) → bind scope d.name (entry.Local s) m ≡ Some (entry.Local (of.Array b)) → (o : Outcome) × (other : Name) × (bind made.names d.name x m ≡ Some (standing.Array o other))
  arrays_stand s x own m b at = by (bytes_eq d.name m) refl
    where
      by : (c : Bool) → bytes_eq d.name m ≡ c → (o : Outcome) × (other : Name) × (bind made.names d.name x m ≡ Some (standing.Array o other))
      by true is =
          let local : Some (entry.Local s) ≡ Some (entry.Local (of.Array b)) = sym (bind_new scope d.name (entry.Local s) m is) ∙ at in
          let same : s ≡ of.Array b = cc in
          let found = own b same in
          (found.0, found.1, bind_new made.names d.name x m is ∙ ap Some found.2)
      by false is =
          let old = going.arrays m b (sym (bind_old scope d.name (entry.Local s) m is) ∙ at) in
          (old.0, old.1, bind_old made.names d.name x m is ∙ old.2)

  -- and each standing its place, where the new one has
  pub places_stand : (x : Standing) (n : ℕ) → length made.blocks ≤ n → IsPlaced parameters n x → (m : Name) (y : Standing) → bind made.names d.name x m ≡ Some y → IsPlaced parameters n y
  places_stand x n more own m y at = by (bytes_eq d.name m) refl
    where
      by : (c : Bool) → bytes_eq d.name m ≡ c → IsPlaced parameters n y
      by true is =
          let here_is : Some x ≡ Some y = sym (bind_new made.names d.name x m is) ∙ at in
          let same : x ≡ y = cc in
          subst (λ (z : Standing). IsPlaced parameters n z) same own
      by false is = placed_more parameters (length made.blocks) n y more (going.places m y (sym (bind_old made.names d.name x m is) ∙ at))

  -- ---- a definition that is a plain array name

  alias_goes : (b : basic.Basic) (o : Outcome) (other m : Name) (e : Expr) → form e ≡ Node-F.Name m → made.names m ≡ Some (standing.Array o other) → (l e).sort scope ≡ of.Array b
      → Defines (of.Array b) (record made { names = bind made.names d.name (standing.Array o other) })
  alias_goes b o other m e is stands sort = (
    sorts,
    record {
      agrees = agrees_more all functions callable made.names scope sorts going.agrees d.name (of.Array b) fresh (bind made.names d.name (standing.Array o other)) sorts
          (λ n at. bind_old made.names d.name (standing.Array o other) n at) (λ n at. refl)
          (λ n at. subst (λ (x : Option Standing). Fits sorts n x (of.Array b)) (sym (bind_new made.names d.name (standing.Array o other) n at)) fits)
          (λ n p name at new. own_other n p name at new);
      stand = stands_still (standing.Array o other);
      arrays = arrays_stand (of.Array b) (standing.Array o other) (λ c same. (o, other, refl));
      places = places_stand (standing.Array o other) (length made.blocks) (omega arith) (going.places m (standing.Array o other) stands);
      blocks = going.blocks;
    },
    omega arith,
  )
    where
      local : scope m ≡ Some (entry.Local (of.Array b))
      local =
          local_array (scope m) b (sym (ap (λ (k : Look). k.sort scope) (look_is all (bare e) (Node-F.Name m) (bare_node e (Node-F.Name m) is)))
          ∙ (sym (ap (λ (f : scopes.Names → Sort). f scope) (sort_bare all e)) ∙ sort))

      fits : array_sort (sort_at sorts other) ≡ Some b
      fits = subst (λ (x : Option Standing). Fits sorts m x (of.Array b)) stands (going.agrees.values m (of.Array b) (ap is_value local) (ap value_sort local))

      own_other : (n : Name) (p : Outcome) (name : Name) → bytes_eq d.name n ≡ true → bind made.names d.name (standing.Array o other) n ≡ Some (standing.Array p name)
          → is_some (bind scope d.name (entry.Local (of.Array b)) name) ≡ true
      own_other n p name at new =
          let equal : Some (standing.Array o other) ≡ Some (standing.Array p name) = sym (bind_new made.names d.name (standing.Array o other) n at) ∙ new in
          let same : other ≡ name = cc in
          some_behind scope d.name (entry.Local (of.Array b)) name (ap is_some (ap scope (sym same)) ∙ going.agrees.others m o other stands)

  -- ---- a name with an outcome of its own

  pub named_agrees : (s : Sort) (o : Outcome)
      → Agrees all functions callable (bind made.names d.name (standing_by s o d.name)) (bind scope d.name (entry.Local s)) (sorts ++ (d.name, s) ∷ [])
  named_agrees s o =
      agrees_more all functions callable made.names scope sorts going.agrees d.name s fresh (bind made.names d.name new) (sorts ++ (d.name, s) ∷ [])
      (λ n at. bind_old made.names d.name new n at) (λ n at. sort_of_old sorts d.name s n at)
      (λ n at. subst (λ (x : Option Standing). Fits (sorts ++ (d.name, s) ∷ []) n x s) (sym (bind_new made.names d.name new n at)) (fits s n at))
      (λ n p name at is. own_other s n p name (sym (bind_new made.names d.name new n at) ∙ is))
    where
      new : Standing
      new = standing_by s o d.name

      fits : (t : Sort) (n : Name) → bytes_eq d.name n ≡ true → Fits (sorts ++ (d.name, t) ∷ []) n (Some (standing_by t o d.name)) t
      fits (of.Basic b) n at = ap scalar_sort (sort_of_new sorts d.name (of.Basic b) n at)
      fits (of.Array b) n at = ap array_sort (sort_of_new sorts d.name (of.Array b) d.name (is_itself d.name))

      own_other : (t : Sort) (n : Name) (p : Outcome) (name : Name) → Some (standing_by t o d.name) ≡ Some (standing.Array p name) → is_some (bind scope d.name (entry.Local t) name) ≡ true
      own_other (of.Basic b) n p name is = absurd (cc)
      own_other (of.Array b) n p name is =
          let same : d.name ≡ name = cc in
          ap is_some (bind_new scope d.name (entry.Local (of.Array b)) name ((bytes_eq-Decides d.name name).1 same))

  -- ---- a definition that is a block

  block_goes : (s : Sort) (e : Expr) → body_sort (around sorts functions Known) (body_of numbers made.names s e) ≡ Some s
      → Defines s (record {
        names = bind made.names d.name (standing_by s (outcome.Block (length made.blocks)) d.name);
        blocks = made.blocks ++ record { name = Some d.name; body = body_of numbers made.names s e } ∷ [];
      })
  block_goes s e typed = (
    sorts ++ (d.name, s) ∷ [],
    record {
      agrees = named_agrees s (outcome.Block (length made.blocks));
      stand = stands_still new;
      arrays = arrays_stand s new (λ b same. (outcome.Block (length made.blocks), d.name, ap (λ (t : Sort). standing_by t (outcome.Block (length made.blocks)) d.name) same));
      places = places_stand new (length (made.blocks ++ block ∷ [])) (let more = length_more made.blocks block in omega (arith, more)) (new_place s);
      blocks = block_more start (around sorts functions Known) made.blocks block s going.blocks typed;
    },
    (let more = length_more made.blocks block in omega (arith, more)),
  )
    where
      new : Standing
      new = standing_by s (outcome.Block (length made.blocks)) d.name

      block : Block
      block = record { name = Some d.name; body = body_of numbers made.names s e }

      new_place : (t : Sort) → IsPlaced parameters (length (made.blocks ++ block ∷ [])) (standing_by t (outcome.Block (length made.blocks)) d.name)
      new_place (of.Basic b) = let more = length_more made.blocks block in omega (arith, more)
      new_place (of.Array b) = let more = length_more made.blocks block in omega (arith, more)

  -- a definition
  pub define_going : (s : Sort) (e : Expr) → Asked s e → Defines s (define numbers made d s e)
  define_going s e asked = by s (name_standing numbers made.names (form e)) asked refl
    where
      typed : (t : Sort) → Asked t e → ((b : basic.Basic) (o : Outcome) (other : Name) → t ≡ of.Array b → name_standing numbers made.names (form e) ≡ Some (standing.Array o other) → ⊥)
          → body_sort (around sorts functions Known) (body_of numbers made.names t e) ≡ Some t
      typed t asked_t apart = block_typed all functions numbers callable gives start parameters scope sorts made going arrays known t e asked_t apart

      by : (t : Sort) (x : Option Standing) → Asked t e → name_standing numbers made.names (form e) ≡ x → Defines t (define_by numbers made d t e x)
      by (of.Array b) (Some (standing.Array o other)) asked_t is =
          let found = named_form numbers made.names (form e) (standing.Array o other) is in
          alias_goes b o other found.0 e found.1 found.2 asked_t.sort
      by (of.Basic b) x asked_t is = block_goes (of.Basic b) e (typed (of.Basic b) asked_t (λ c o other at at2. cc))
      by (of.Array b) None asked_t is = block_goes (of.Array b) e (typed (of.Array b) asked_t (λ c o other at at2. let bad = sym is ∙ at2 in cc))
      by (of.Array b) (Some (standing.Constant k)) asked_t is = block_goes (of.Array b) e (typed (of.Array b) asked_t (λ c o other at at2. let bad = sym is ∙ at2 in cc))
      by (of.Array b) (Some (standing.Scalar o)) asked_t is = block_goes (of.Array b) e (typed (of.Array b) asked_t (λ c p other at at2. let bad = sym is ∙ at2 in cc))
