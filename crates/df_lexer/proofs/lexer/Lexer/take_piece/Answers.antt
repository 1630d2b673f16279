-- The run of blanks, and the line from a percent sign on, are the longest pieces.
use Rattle.std.proofs.Common.{◌≡◌, true, inl, inr, sym, ◌∙◌, eq-eqb}
use Rattle.df_syntax.specs.Pieces.{is_white, is_percent}
use Rattle.df_lexer.specs.Steps.{begins}
use Rattle.df_lexer.proofs.Longest.{begins_at, blank_front, blank_longest, comment_front, comment_longest}
use Rattle.df_lexer.proofs.lexer.Lexer.take_piece.Goals as goal

blank_begins : (c : goal.After-white_run) → begins is_white c.args.self.now.rest.now ≡ true
blank_begins c = begins_at is_white c.args.self.now.rest.now c.requires.some (sym c.is_white.ensures ∙ c.if-is_white.true)

comment_begins : (c : goal.After-line_run) → begins is_percent c.args.self.now.rest.now ≡ true
comment_begins c = begins_at is_percent c.args.self.now.rest.now c.requires.some (eq-eqb _ 37 c.if-first-eq37.true)

pub skip-requires-clause-longest : goal.skip-requires-clause-longest
skip-requires-clause-longest c =
    blank_longest c.args.self.now.rest.now c.white_run.result (blank_begins c) c.white_run.ensures.value

pub skip-requires-clause-layout : goal.skip-requires-clause-layout
skip-requires-clause-layout c =
    inl (blank_front c.args.self.now.rest.now c.white_run.result (blank_begins c) c.white_run.ensures.value)

pub skip-requires-then-first-eq37-clause-longest : goal.skip-requires-then-first-eq37-clause-longest
skip-requires-then-first-eq37-clause-longest c =
    comment_longest c.args.self.now.rest.now c.line_run.result (comment_begins c) c.line_run.ensures.value

pub skip-requires-then-first-eq37-clause-layout : goal.skip-requires-then-first-eq37-clause-layout
skip-requires-then-first-eq37-clause-layout c =
    inr (comment_front c.args.self.now.rest.now c.line_run.result (comment_begins c) c.line_run.ensures.value)
