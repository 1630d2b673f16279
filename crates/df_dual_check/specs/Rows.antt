-- A worked text.
use Rattle.std.specs.Prelude.{◌≡◌, pos, List, [], ◌∷◌, codes}
use Rattle.std.proofs.Common.{refl}
use Rattle.std.specs.Fmt.{digits}
use Rattle.df_cells.specs.Cells.{port_of}
use Rattle.df_stages.specs.declared.skeleton.SkeletonArc.{SkeletonArc}
use Rattle.df_dual_check.specs.DualTexts.{dual_text}

-- the first two arcs of two paths that join
two_arcs : List SkeletonArc
two_arcs =
    record { name = port_of 1 0; from = 0; to = 1; weight = pos 1; buffers = 0 }
    ∷ record { name = port_of 3 1; from = 2; to = 3; weight = pos 1; buffers = 0 }
    ∷ []

two_lines : dual_text two_arcs (2 ∷ 4294967295 ∷ []) ≡ codes "dual 1 2\n1.0 2\n3.1 4294967295\nend\n"
unfolding two_arcs dual_text digits
two_lines = refl
