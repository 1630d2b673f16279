-- What the lowering holds, as a scope.
use Rattle.std.specs.Prelude.{ℕ, if◌then◌else◌, List, [], ◌∷◌, map, fold, reverse, Option, Some, None, bytes_eq, ◌≡◌}
use Rattle.df_syntax.specs.Meaning.{Name}
use Rattle.df_flattened.specs.declared.standing.Standing.{Standing}
use Rattle.df_flattened.specs.Flattened.{Scope}
use Rattle.df_inline.specs.declared.names.Binding.{Binding}
use Rattle.df_inline.specs.declared.names.Remembered.{Remembered}

abbrev pub later_standing : Name → Option Standing → Binding → Option Standing
later_standing name found b = if bytes_eq b.name name then Some b.standing else found

-- what the last binding of a name stands for
abbrev pub standing_at : List Binding → Name → Option Standing
standing_at bindings name = fold (later_standing name) None bindings

-- what each name stands for by its last binding
abbrev pub AreStandings : List Binding → (Name → Option Standing) → Type 0
AreStandings bindings standings = (name : Name) → standings name ≡ standing_at bindings name

abbrev pub bindings_of : List Remembered → List Binding
bindings_of bindings = map (λ (r : Remembered). r.binding) bindings

-- each binding, the last one first, has what its name stood for before it
abbrev pub RememberFrom : List Remembered → Type 0
RememberFrom [] = Unit {0}
RememberFrom (last ∷ earlier) = (last.before ≡ standing_at (bindings_of (reverse earlier)) last.binding.name) × RememberFrom earlier

abbrev pub AreRemembered : List Remembered → Type 0
AreRemembered bindings = RememberFrom (reverse bindings)

-- the scope of these bindings, with so many locals and this index
abbrev pub scope_of : List Binding → ℕ → Option Name → Scope
scope_of bindings depth index = record { names = standing_at bindings; depth = depth; index = index }
