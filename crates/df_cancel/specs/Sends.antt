-- A unit of flow along steps.
use Rattle.std.specs.Prelude.{◌≡◌, ℕ, ◌+◌, ◌-◌, ◌<◌, ◌^◌, List, length, slice_index, slice_set, cond, false}
use Rattle.df_cancel.specs.declared.step.Step.{Step}

-- one unit more on the arc of a step forward, and one less on that of a step back
abbrev pub moved : List ℕ → Step → List ℕ
moved flow s = slice_set flow s.arc (cond s.forward (slice_index flow s.arc + 1) (slice_index flow s.arc - 1))

abbrev pub CanMove : List ℕ → Step → Type 0
CanMove flow s = (s.arc < length flow) × (slice_index flow s.arc + 1 < 2 ^ 32) × (s.forward ≡ false → 0 < slice_index flow s.arc)
