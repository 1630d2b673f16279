-- Where the turns of a block meet the elements of an array.
use Rattle.std.specs.Prelude.{ℕ, ℤ, ◌-◌, ◌+ℤ◌, ◌-ℤ◌, min, ◌==◌, if◌then◌else◌, Option, Some, None}
use borrow.Author.Differences.{up, down}
use Rattle.df_build_access.specs.declared.windows.Array.{Array}
use Rattle.df_build_access.specs.declared.windows.Window.{Window}

-- n turns and m elements, of which so many come before the first that meet
abbrev pub window_with : ℕ → ℕ → ℕ → ℕ → Option Window
window_with n m missed skipped =
    let kept = min (n - missed) (m - skipped) in
    if kept == 0 then None else Some (record { missed = missed; skipped = skipped; kept = kept })

-- n turns and m elements, of which the first element stands at the turn of this number: `up` is a number where it is
-- positive, else 0, and `down` what it is below 0
unfoldable pub window_by : ℕ → ℕ → ℤ → Option Window
window_by n m gap = window_with n m (up gap) (down gap)

-- n turns from the index lo on, and the elements at the index and an offset together; None where no turn has an element
abbrev pub window_of : ℤ → ℕ → Array → ℤ → Option Window
window_of lo n array offset = window_by n array.n (array.lo -ℤ (lo +ℤ offset))
