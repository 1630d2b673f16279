use Rattle.std.proofs.Common.{refl, ap, ◌∙◌, arith}
use Rattle.std.proofs.lemmas.Bool.{false≢true, both_ways}
use Rattle.df_cells.specs.declared.cells.Cell.{Cell}
use Rattle.df_wellformed.proofs.Feeds.{fed_at}
use Rattle.df_wellformed.proofs.LoadLemmas.{all_round, one_not_round, round_more}
use Rattle.df_wellformed.proofs.loads.loads_loops.Goals as goal

pub goes_round-requires : goal.goes_round-requires
goes_round-requires c = λ u fed.
    c.requires.names.feeds c.loop-feed.feed-index u
    (fed_at c.args.cells.now c.args.c.0 c.loop-feed.feed-index c.as_slice-feed-items.result.now _ u (c.as_slice-feed-items.ensures ∙ ap (λ (x : Cell). x.ports) c.get-cell.ensures.cell) c.loop-feed-test.true fed)

pub returns-then-not-goes_round : goal.returns-then-not-goes_round
returns-then-not-goes_round c = (
  λ e. absurd (false≢true e),
  λ loads. absurd (one_not_round c.args.cells.now c.args.c.0 c.get-cell.result.now.mark c.as_slice-feed-items.result.now c.loop-feed.feed-index _
      (c.as_slice-feed-items.ensures ∙ ap (λ (x : Cell). x.ports) c.get-cell.ensures.cell) (ap (λ (x : Cell). x.mark) c.get-cell.ensures.cell) c.loop-feed-test.true
      (λ round. both_ways c.goes_round.result c.if-not-goes_round.true (c.goes_round.ensures.1 round)) loads),
)

pub loop-feed-preserved : goal.loop-feed-preserved
loop-feed-preserved c =
    round_more c.args.cells.now c.get-cell.result.now.mark c.as_slice-feed-items.result.now c.loop-feed.feed-index _ c.loop-feed-test.true
    (c.goes_round.ensures.0 c.if-not-goes_round.false) c.loop-feed.invariant

pub returns : goal.returns
returns c = (
  λ _. all_round c.args.cells.now c.args.c.0 c.get-cell.result.now.mark c.as_slice-feed-items.result.now
      (c.as_slice-feed-items.ensures ∙ ap (λ (x : Cell). x.ports) c.get-cell.ensures.cell) (ap (λ (x : Cell). x.mark) c.get-cell.ensures.cell)
      (λ p d h. c.loop-feed.invariant p d (omega (arith, c.loop-feed-test.false))),
  λ _. refl,
)
