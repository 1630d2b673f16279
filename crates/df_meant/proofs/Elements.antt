-- A term in a block of its own.
use Rattle.std.proofs.Common.{ℕ, ℤ, ◌<◌, Bool, List, []}
use Rattle.df_labels.specs.Graphs.{Graph}
use Rattle.df_build_terms.specs.declared.building.Outside.{Outside}
use Rattle.df_core.specs.declared.terms.Term.{Term}
use Rattle.df_build_loops.specs.Frames.{undef}
use Rattle.df_build_terms.specs.Building.{begun}
use Rattle.df_build_elem.specs.Blocks.{element, turns_of}
use Rattle.df_meant.specs.Sites.{Ends, Label, site_of, Meeting}
use Rattle.df_core.specs.Meaning.{Made, term_value}
use Rattle.df_build_cond.specs.Growth.{whole}
use Rattle.df_meant.specs.Builds.{Block, all_of, here_in, Fits, FrameStands}
use Rattle.df_labels.specs.Patterns.{PatternsSpell}
use Rattle.df_meant.proofs.Groups.{none_some}
use Rattle.df_meant.proofs.Fed.{IsMade}
use Rattle.df_meant.proofs.Meant.{terms_are_meant}

pub element_made : PatternsSpell → (k : Block) (x : Term) (graph : Graph) (labels : List Label) → 0 < k.turns.n → Meeting k.is_open graph k.inputs labels → Fits (site_of graph labels) k.outer k.made → FrameStands k (site_of graph labels) k.turns.own
    → (let e = element whole k.turns k.outer x graph in IsMade k.is_open k.inputs (all_of k) graph labels e.graph e.flow (λ t. term_value x (here_in k t) []))
unfolding element
element_made spell k x graph labels some meet fits frame =
    let r = terms_are_meant spell k some x [] [] (begun graph) [] labels tt (record {
      meet = meet;
      arms = tt;
      fits = fits;
      frame = frame;
      tables = record { index = λ c h. absurd (none_some c h); previous = λ c h. absurd (none_some c h); holds = λ x c h. absurd (none_some c h); accesses = λ x c f h. absurd (none_some f h) };
    }) in
    (r.0, r.1, r.2.meet, r.3)

-- a block outside all recurrences
abbrev pub plain : Ends → List Outside → List Made → (ℕ → Bool) → ℤ → ℕ → Block
plain inputs outer made is_open lo n = record { inputs = inputs; turns = turns_of lo n; made = made; outer = outer; before = λ _. undef; is_open = is_open }
