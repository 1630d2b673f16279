-- A table of functions, read as a function of names.
use Rattle.std.proofs.Common.{◌≡◌, ap, Some, None, if◌then◌else◌, bytes_eq}
use Rattle.df_names.specs.declared.map.NameMap.{NameMap}
use Rattle.df_names.specs.Found.{names_of}
use Rattle.df_names.specs.Maps.{Names, nothing, bind}
use Rattle.df_syntax.specs.Meaning.{Name}
use Rattle.df_inline.specs.declared.table.Entry.{Entry}
use Rattle.df_inline.specs.Tables.{entry_in}

pub no_entries : (m : NameMap Entry) (name : Name) → names_of m ≡ nothing → entry_in (record { entries = m }) name ≡ None
unfolding entry_in
no_entries m name none = ap (λ (names : Names Entry). names name) none

pub with_entry : (m n : NameMap Entry) (name : Name) (entry : Entry) → names_of n ≡ bind (names_of m) name entry → (other : Name)
    → entry_in (record { entries = n }) other ≡ (if bytes_eq name other then Some entry else entry_in (record { entries = m }) other)
unfolding entry_in bind
with_entry m n name entry h other = ap (λ (names : Names Entry). names other) h
