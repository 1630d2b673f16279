-- Lists of bindings, one step at a time.
use Rattle.std.proofs.Common.{◌≡◌, ℕ, ◌+◌, ◌<◌, List, map, length, get_or, drop, drop-cons, refl, sym, subst, add-one}
use Rattle.df_names.specs.Maps.{bind}
use Rattle.df_types.specs.Scopes.{Names, Binding, bound}

module _ {X : Type 0} (f : X → Binding) where
  -- the next one bound
  pub bound_step : (xs : List X) (i : ℕ) (d : X) (names : Names) → i < length xs
      → bound (map f (drop i xs)) names ≡ bound (map f (drop (i + 1) xs)) (bind names (f (get_or xs i d)).0.name (f (get_or xs i d)).1)
  bound_step xs i d names below = rw (add-one i, drop-cons xs i d) refl

  -- the same, at a member that is known by another name
  pub bound_at : (xs : List X) (i : ℕ) (x : X) (names : Names) → i < length xs → x ≡ get_or xs i x → bound (map f (drop i xs)) names ≡ bound (map f (drop (i + 1) xs)) (bind names (f x).0.name (f x).1)
  bound_at xs i x names below is =
      subst (λ (y : X). bound (map f (drop i xs)) names ≡ bound (map f (drop (i + 1) xs)) (bind names (f y).0.name (f y).1)) (sym is) (bound_step xs i x names below)
