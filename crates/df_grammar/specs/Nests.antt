-- A function value that reads expressions.
use Rattle.std.specs.Prelude.{ℕ, ◌<◌, Result}
use Rattle.std.specs.declared.alloc.Global.{Global}
use denote.Ref.{MutBor}
use Rattle.df_syntax.specs.declared.tree.Expr.{Expr}
use Rattle.df_syntax.specs.Lines.{expr}
use Rattle.df_syntax.specs.Reading.{reads}
use Rattle.df_cursor.specs.declared.cursor.Cursor.{Cursor}
use Rattle.df_cursor.specs.declared.error.ParseError.{ParseError}
use Rattle.df_cursor.specs.Reads.{Reads}

-- it reads an expression in which fewer than `depth` brackets may be open
pub record Nests (depth : ℕ) (pre : Global → MutBor Cursor → ℕ → Type 0)
    (post : Global → MutBor Cursor → ℕ → Result Expr ParseError → MutBor Cursor → Type 0) : Type 0 where
  pub callable : (alloc : Global) (old : MutBor Cursor) (less : ℕ) → less < depth → pre alloc old less
  pub reads : (alloc : Global) (old new : MutBor Cursor) (less : ℕ) (r : Result Expr ParseError) → less < depth → post alloc old less r new
      → Reads (reads less 0 expr old.now.rest.now) old.now.rest.now r new.now.rest.now
