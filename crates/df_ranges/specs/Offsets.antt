-- Offsets of subscripts, and where a recurrence begins.
use Rattle.std.specs.Prelude.{ℤ, negsuc, zero, ◌-ℤ◌, Bool, true, false, if◌then◌else◌, Option, Some, None, bytes_eq}
use Rattle.std.specs.Option.{is_some}
use Rattle.df_syntax.specs.Meaning.{Name}

abbrev pub is_before : Option ℤ → Bool
is_before (Some (negsuc zero)) = true
is_before k = false

-- a recurrence takes its own array at the index before
abbrev pub is_offset : Option Name → Name → Option ℤ → Bool
is_offset None name k = is_some k
is_offset (Some own) name k = if bytes_eq own name then is_before k else is_some k

-- a recurrence begins one index before its lowest
abbrev pub is_one_before : Option ℤ → Option ℤ → Bool
is_one_before (Some m) (Some lo) = is_before (Some (m -ℤ lo))
is_one_before m lo = false
