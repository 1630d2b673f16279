-- Arms that are closed one by one.
use Rattle.std.proofs.Common.{◌≡◌, List, [], ◌∷◌, ◌++◌, refl, ap, ◌∙◌}
use Rattle.df_labels.specs.Graphs.{Node}
use Rattle.df_build_terms.specs.declared.elem.Open.{Open}
use Rattle.df_build_terms.specs.Building.{Building, Built, at, leave, chosen}
use Rattle.df_labels.specs.declared.graphs.Flow.{Flow}
use Rattle.df_build_terms.specs.Parts.{close, unwound}

pub unwound_last : (keep : Node → Node) (opened : List Open) (o : Open) (x : Built)
    → unwound keep (opened ++ o ∷ []) x ≡ unwound keep opened (close keep o x)
unwound_last keep [] o x = refl
unwound_last keep (p ∷ opened) o x = ap (close keep p) (unwound_last keep opened o x)

pub closed : (keep : Node → Node) (o : Open) (b left : Building) (value : Flow) (done : Built) → left ≡ leave b
    → done ≡ chosen keep o.control left o.value value → done ≡ close keep o (at b value)
closed keep o b left value done is made = made ∙ ap (λ s. chosen keep o.control s o.value value) is
