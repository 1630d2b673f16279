-- Kinds with no arguments in a cell's line.
use Rattle.df_cells.specs.declared.kinds.Kind.{Kind}
use Rattle.df_cells.specs.declared.kinds.Kind.TheVariants as kind

abbrev pub IsPlain : Kind → Type 0
IsPlain (kind.In name basic n) = ⊥
IsPlain (kind.Idx lo n) = ⊥
IsPlain (kind.Ctl runs) = ⊥
IsPlain (kind.Out k n) = ⊥
IsPlain _ = Unit {0}
