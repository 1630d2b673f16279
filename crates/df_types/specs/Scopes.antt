-- What the names in scope stand for.
use Rattle.std.specs.Prelude.{List, [], ◌∷◌}
use Rattle.df_names.specs.declared.map.NameMap.{NameMap}
use Rattle.df_names.specs.Maps as map
use Rattle.df_names.specs.Maps.{bind, unbind}
use Rattle.df_syntax.specs.declared.tree.Named.{Named}
use Rattle.df_types.specs.declared.entry.Entry.{Entry}

-- a map of what the names in scope stand for
abbrev pub Scope : Type 0
Scope = NameMap Entry

-- what each name stands for, or nothing
abbrev pub Names : Type 0
Names = map.Names Entry

-- a name with what it is to stand for
abbrev pub Binding : Type 0
Binding = Named × Entry

-- names bound one after the other
abbrev pub bound : List Binding → Names → Names
bound [] names = names
bound (b ∷ bs) names = bound bs (bind names b.0.name b.1)

-- the same names unbound, the last one first
abbrev pub unbound : List Binding → Names → Names
unbound [] names = names
unbound (b ∷ bs) names = unbind (unbound bs names) b.0.name
