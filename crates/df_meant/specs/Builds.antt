-- What a block's building holds to, and what it is for a maker to build a meaning.
use Rattle.std.specs.Prelude.{◌≡◌, ◌<◌, ℕ, ℤ, suc, pos, ◌+ℤ◌, ◌-◌, Bool, List, [], ◌∷◌, map, length, get_or, Option, Some, None}
use Rattle.df_values.specs.declared.values.Value.{Value}
use Rattle.df_values.specs.declared.values.Value.TheVariants.{Int, Error}
use Rattle.df_values.specs.declared.values.ErrorValue.TheVariants.{MissElt}
use Rattle.df_labels.specs.Graphs.{Graph}
use Rattle.df_labels.specs.Labels.{Turn, block_turn}
use Rattle.df_labels.specs.declared.graphs.Flow.{Flow}
use Rattle.df_labels.specs.declared.graphs.Flow.TheVariants.{Cell}
use Rattle.df_build_terms.specs.declared.building.Outside.{Outside}
use Rattle.df_build_terms.specs.declared.building.Outside.TheVariants as outside
use Rattle.df_build_access.specs.declared.windows.Array.{Array}
use Rattle.df_build_terms.specs.declared.building.Local.{Local}
use Rattle.df_build_terms.specs.declared.building.Turns.{Turns}
use Rattle.df_core.specs.declared.terms.Term.{Term}
use Rattle.df_build_loops.specs.Frames.{undef}
use Rattle.df_build_terms.specs.Outer.{single, many}
use Rattle.df_build_terms.specs.Building.{Building, Built, Make, Met}
use Rattle.df_build_loops.specs.Holds.{held}
use Rattle.df_build_access.specs.Elements.{windowed}
use Rattle.df_build_terms.specs.Built.{built}
use Rattle.df_meant.specs.Sites.{Ends, Label, Site, site_of, stream, Gives, Stands, Meeting, Extends, block_turns}
use Rattle.df_meant.specs.Arms.{Setting, turns, ArmsHold, Known}
use Rattle.df_meant.specs.Senses.{lowest_of, members_of}
use Rattle.df_core.specs.Meaning.{Made, Single, Many, Here, Sense, scalar_of, member_of, made_at, term_value}
use Rattle.df_build_cond.specs.Growth.{whole}
use Rattle.df_meant.specs.Windows.{lesser}

-- what doesn't change in a block
pub record Block : Type 0 where
  pub inputs : Ends
  pub turns : Turns
  pub made : List Made
  pub outer : List Outside
  -- in a recurrence the elements before, by turns
  pub before : ℕ → Value
  pub is_open : ℕ → Bool

abbrev pub all_of : Block → List Turn
all_of k = block_turns 0 k.turns.n

-- Functions of the turn are read at the turns of the block alone: past its last turn they stay as they are there.
abbrev pub place_in : Turns → Turn → ℕ
place_in turns t = lesser (block_turn t) (turns.n - 1)

abbrev pub at_in : Turns → Turn → ℤ
at_in turns t = turns.lo +ℤ pos (place_in turns t)

abbrev pub here_in : Block → Turn → Here
here_in k t = record { made = k.made; at = at_in k.turns t; previous = k.before (place_in k.turns t) }

-- ---- what stands outside

pub record ArrayStands (site : Site) (a : Array) (m : Made) : Type 0 where
  pub lowest : a.lo ≡ lowest_of m
  pub count : a.n ≡ length (members_of m)
  pub comes : 0 < a.n → Gives site a.cell (stream (block_turns 0 a.n) (λ t. get_or (members_of m) (block_turn t) (Error MissElt)))

-- what is there stands for what is so: an array gives its members, also where there are none
abbrev pub IsShaped : Site → Option Outside → Made → Type 0
IsShaped site (Some (outside.Single f)) m = m ≡ Single (scalar_of m)
IsShaped site (Some (outside.Many a)) m = Gives site a.cell (stream (block_turns 0 a.n) (λ t. get_or (members_of m) (block_turn t) (Error MissElt))) × (m ≡ Many (lowest_of m) (members_of m))
IsShaped site None m = m ≡ Many (pos 0) []

-- what a number stands for, as a scalar and as an array
pub record OutsideStands (site : Site) (o : Option Outside) (m : Made) : Type 0 where
  pub flow : Stands site (single o) (block_turns 0 1) (λ _. scalar_of m)
  pub array : ArrayStands site (many o) m
  pub shape : IsShaped site o m

-- all parameters and blocks before
abbrev pub Fits : Site → List Outside → List Made → Type 0
Fits site [] [] = Unit {0}
Fits site (o ∷ outer) (m ∷ made) = OutsideStands site (Some o) m × Fits site outer made
Fits site [] (m ∷ made) = ⊥
Fits site (o ∷ outer) [] = ⊥

-- ---- the invariant

pub record Tables (k : Block) (met : Met) (site : Site) : Type 0 where
  pub index : (c : ℕ) → met.index ≡ Some c → Stands site (Cell c) (all_of k) (λ t. Int (at_in k.turns t))
  pub previous : (c : ℕ) → met.previous ≡ Some c → Stands site (Cell c) (all_of k) (λ t. k.before (place_in k.turns t))
  pub holds : (x c : ℕ) → met.holds x ≡ Some c → Stands site (Cell c) (all_of k) (λ _. scalar_of (made_at k.made x))
  pub accesses : (x : ℕ) (c : ℤ) (f : Flow) → met.accesses x c ≡ Some f → Stands site f (all_of k) (λ t. member_of (made_at k.made x) (at_in k.turns t +ℤ c))

-- the MERGE of a recurrence gives the elements before, and one more; without one they are `undef`
abbrev pub FrameStands : Block → Site → Option ℕ → Type 0
FrameStands k site (Some m) = Stands site (Cell m) (block_turns 0 (suc k.turns.n)) (λ t. k.before (block_turn t))
FrameStands k site None = (i : ℕ) → k.before i ≡ undef

pub record Good (k : Block) (b : Building) (s : List Setting) (labels : List Label) : Type 0 where
  pub meet : Meeting k.is_open b.graph k.inputs labels
  pub arms : ArmsHold (site_of b.graph labels) (all_of k) b.arms s
  pub fits : Fits (site_of b.graph labels) k.outer k.made
  pub frame : FrameStands k (site_of b.graph labels) k.turns.own
  pub tables : Tables k b.met (site_of b.graph labels)

-- ---- the statement

-- labels of what was built over a graph with these labels
abbrev pub IsBuilt : Block → List Setting → Graph → List Label → Built → (Turn → Value) → Type 0
IsBuilt k s graph labels r f =
    (more : List Label) × Extends (site_of graph labels) (site_of r.state.graph more) × Good k r.state s more
    × Stands (site_of r.state.graph more) r.flow (turns (all_of k) s) f

-- a maker builds a meaning: whatever the locals, the settings and what was met before
abbrev pub Builds : Block → Make → Sense → Type 0
Builds k make sense = (locals : List Local) (fs : List (Turn → Value)) (b : Building) (s : List Setting) (labels : List Label)
    → Known (site_of b.graph labels) (all_of k) s locals fs → Good k b s labels
    → IsBuilt k s b.graph labels (make locals b) (λ t. sense (here_in k t) (map (λ f. f t) fs))

-- cells that were added, with labels, of which a value comes
abbrev pub IsGrown : Block → Graph → List Label → Graph → Flow → (Turn → Value) → Type 0
IsGrown k graph labels grown flow f =
    (more : List Label) × Extends (site_of graph labels) (site_of grown more) × Meeting k.is_open grown k.inputs more
    × Stands (site_of grown more) flow (all_of k) f

-- ---- the hold of a scalar, and the window of an array

abbrev pub HoldsStand : Block → Type 0
HoldsStand k = (u : ℕ) (v : Value) (graph : Graph) (labels : List Label) → 1 < k.turns.n → Meeting k.is_open graph k.inputs labels
    → Stands (site_of graph labels) (Cell u) (block_turns 0 1) (λ _. v)
    → IsGrown k graph labels (held whole graph u k.turns.n).graph (Cell (length graph)) (λ _. v)

abbrev pub WindowsStand : Block → Type 0
WindowsStand k = (a : Array) (m : Made) (c : ℤ) (graph : Graph) (labels : List Label) → 0 < k.turns.n → Meeting k.is_open graph k.inputs labels
    → ArrayStands (site_of graph labels) a m
    → IsGrown k graph labels (windowed whole k.turns.lo k.turns.n a c graph).graph (windowed whole k.turns.lo k.turns.n a c graph).flow (λ t. member_of m (at_in k.turns t +ℤ c))

-- Every term is built to what it means: its cells have labels, and what it was built to stands for its value at the turns that
-- pass the arms.
abbrev pub TermsAreMeant : Type 0
TermsAreMeant = (k : Block) → 0 < k.turns.n → (x : Term) → Builds k (built whole k.turns k.outer x) (term_value x)
