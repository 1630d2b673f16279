-- Parts of an expression that are handed out, read.
use Rattle.std.specs.Prelude.{Option, Some, None}
use Rattle.std.proofs.Common.{Bor}
use Rattle.df_syntax.specs.declared.tree.Expr.{Expr}
use Rattle.df_syntax.specs.Meaning.{Name}
use Rattle.df_syntax.specs.SourceForms.{Recurrence}
use Rattle.df_shape.specs.declared.forms.Recurrence.{Recurrence as Held}

-- the parts of a recurrence
abbrev pub read : Held → Recurrence
read r = record { index = r.index.now; array = r.array.now; low = r.low.now; before = r.before.now; first = r.first.now; high = r.high.now; elem = r.elem.now }

abbrev pub recurrence_read : Option Held → Option Recurrence
recurrence_read None = None
recurrence_read (Some r) = Some (read r)

abbrev pub pair_read : Option (Bor Expr × Bor Expr) → Option (Expr × Expr)
pair_read None = None
pair_read (Some p) = Some (p.0.now, p.1.now)

abbrev pub triple_read : Option (Bor Name × Bor Expr × Bor Expr) → Option (Name × Expr × Expr)
triple_read None = None
triple_read (Some p) = Some (p.0.now, p.1.now, p.2.now)
