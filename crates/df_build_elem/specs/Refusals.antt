-- Why a flat program has no skeleton.
use Rattle.std.specs.Prelude.{◌≡◌, ◌<◌}
use Rattle.df_core.specs.declared.flat.Flat.{Flat}
use Rattle.df_build_elem.specs.Program.{census}
use Rattle.df_build_elem.specs.declared.build.BuildAnswer.{BuildAnswer}
use Rattle.df_build_elem.specs.declared.build.BuildAnswer.TheVariants.{TooManySkeletonCells, Memory}

-- a refusal for the size gives the number of cells; of want of memory nothing is said
abbrev pub IsRefused : Flat → BuildAnswer → Type 0
IsRefused flat (TooManySkeletonCells n) = (n ≡ census flat) × (4096 < n)
IsRefused flat Memory = Unit {0}
