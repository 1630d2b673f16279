-- The settings of open arms, the turns that pass them, and what arms and locals stand for.
use Rattle.std.specs.Prelude.{◌≡◌, ◌≤◌, ℕ, nat_lt, if◌then◌else◌, Bool, List, [], ◌∷◌, length, Some}
use Rattle.std.specs.List.{filter}
use Rattle.df_values.specs.declared.values.Value.{Value}
use Rattle.df_cells.specs.Shifts.{is_truth}
use Rattle.df_labels.specs.Labels.{Turn}
use Rattle.df_labels.specs.declared.graphs.Flow.TheVariants.{Cell}
use Rattle.df_build_terms.specs.declared.building.Local.{Local}
use Rattle.df_build_cond.specs.Arms.{Arm}
use Rattle.df_meant.specs.Sites.{Site, Stands}

-- what stands around a term: a test, and the side on which the term is
pub data Setting : Type 0 where
  Under : (Turn → Value) → Bool → Setting

-- the turns of `all` that pass all settings, the innermost first
abbrev pub turns : List Turn → List Setting → List Turn
turns all [] = all
turns all (Under g side ∷ s) = filter (λ t. is_truth side (g t)) (turns all s)

-- those that pass the outermost settings, so many of them
abbrev pub turns_at : ℕ → List Turn → List Setting → List Turn
turns_at level all [] = all
turns_at level all (x ∷ s) = if nat_lt (length s) level then turns all (x ∷ s) else turns_at level all s

-- a stream that was met, and its gate
abbrev pub IsMet : Site → List Turn → List Turn → Arm → Type 0
IsMet site outer inner arm = (u d : ℕ) → arm.gates u ≡ Some d → (f : Turn → Value) × Stands site (Cell u) outer f × Stands site (Cell d) inner f

pub record ArmHolds (site : Site) (outer inner : List Turn) (arm : Arm) (g : Turn → Value) (which : Bool) : Type 0 where
  pub side : arm.side ≡ which
  pub control : Stands site (Cell arm.control) outer g
  pub gates : IsMet site outer inner arm

abbrev pub ArmsHold : Site → List Turn → List Arm → List Setting → Type 0
ArmsHold site all [] [] = Unit {0}
ArmsHold site all (arm ∷ arms) (Under g side ∷ s) = ArmHolds site (turns all s) (turns all (Under g side ∷ s)) arm g side × ArmsHold site all arms s
ArmsHold site all [] (x ∷ s) = ⊥
ArmsHold site all (arm ∷ arms) [] = ⊥

-- a local stands for a function of the turn, where it was built
pub record Kept (site : Site) (all : List Turn) (s : List Setting) (l : Local) (f : Turn → Value) : Type 0 where
  pub level : l.arms ≤ length s
  pub stands : Stands site l.flow (turns_at l.arms all s) f

abbrev pub Known : Site → List Turn → List Setting → List Local → List (Turn → Value) → Type 0
Known site all s [] [] = Unit {0}
Known site all s (l ∷ ls) (f ∷ fs) = Kept site all s l f × Known site all s ls fs
Known site all s [] (f ∷ fs) = ⊥
Known site all s (l ∷ ls) [] = ⊥
