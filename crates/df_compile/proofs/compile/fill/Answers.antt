use Rattle.std.proofs.Common.{Err, ap, ◌∙◌}
use Rattle.df_compile.proofs.Filling.{small_stages, over_always}
use Rattle.df_compile.proofs.compile.fill.Goals as goal

pub place_buffers-requires-clause-small : goal.place_buffers-requires-clause-small
place_buffers-requires-clause-small c =
    small_stages c.args.cells c.in_ok-s.s _ _ c.in_ok-s.ensures (c.has_skeletons.ensures c.args.cells c.requires.well_formed).lawful c.requires.few c.in_ok-balance.ensures.law

pub returns-in-Err-TooManyCells-clause-refused : goal.returns-in-Err-TooManyCells-clause-refused
returns-in-Err-TooManyCells-clause-refused c =
    over_always c.is_weakly_dual.ensures c.args.cells c.in_ok-s.s _ _ c.in_ok-s.ensures (c.has_skeletons.ensures c.args.cells c.requires.well_formed).lawful
    c.in_ok-balance.ensures.law c.in_ok-balance.ensures.tight (c.place_buffers.ensures.too_many.0 (c.in-Err-TooManyCells.is ∙ ap (λ e. Err e) c.in-Err-TooManyCells.field-0-is))
