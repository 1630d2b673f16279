-- The expressions inside a bracket.
use Rattle.std.proofs.Common.{◌≡◌, ℕ, zero, suc, ◌-◌, ◌<◌, ◌≤◌, List, ◌∙◌, ap, arith}
use Rattle.df_forms.specs.Reading.{read, read_deeper, inside}
use Rattle.df_forms.proofs.Nesting.{deeper_at}
use Rattle.df_syntax.specs.declared.token.Token.{Token}
use Rattle.df_syntax.specs.TokenClasses.{class}
use Rattle.df_syntax.specs.Refusals.{openers, closers}
use Rattle.df_syntax.specs.Lines.{expr, start}
use Rattle.df_syntax.specs.Reading.{reads, deeper}

pub deeper_is : (depth level : ℕ) → 0 < level → level ≤ depth → (ts : List Token) → deeper depth level ts ≡ reads (depth - level) 0 expr ts
unfolding deeper
deeper_is depth zero i h ts = absurd (omega arith)
deeper_is depth (suc level) i h ts =
    let e : depth - 1 - level ≡ depth - suc level = omega arith in
    deeper_at class openers closers start expr depth level (omega arith) ts
    ∙ ap (λ (n : ℕ). read class openers closers start n (inside (read_deeper class openers closers start expr n)) 0 expr ts) e
