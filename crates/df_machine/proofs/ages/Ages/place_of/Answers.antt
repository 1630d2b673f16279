use Rattle.std.proofs.Common.{◌<◌, length, sym, ap, ◌∙◌, subst, arith}
use Rattle.std.specs.Prelude.{slice_get}
use Rattle.df_machine.specs.InOrder.{InOrder}
use Rattle.df_pick.specs.Sums.{up_before}
use Rattle.df_machine.proofs.Places.{key_read}
use Rattle.df_machine.proofs.Standing.{noted_at}
use Rattle.df_machine.proofs.ages.Ages.place_of.Goals as goal

pub index-requires : goal.index-requires
index-requires c =
    let i = c.self.inside in
    let at = noted_at i.picks i.keys.items i.places.items c.args.self.now.keys c.requires.0 c.args.key c.self.invariant.stand (ap (λ (s : InOrder). s.keys) c.self.view_is) c.requires.1 in
    omega (arith, at.0, i.places.ok.0)

pub overflow_cast-index : goal.overflow_cast-index
overflow_cast-index c =
    let i = c.self.inside in
    let at = noted_at i.picks i.keys.items i.places.items c.args.self.now.keys c.requires.0 c.args.key c.self.invariant.stand (ap (λ (s : InOrder). s.keys) c.self.view_is) c.requires.1 in
    let is = key_read i.places.items c.args.key c.index.result.now c.index.ensures at.0 in
    omega (arith, at.1, is, c.self.invariant.kept.as_many_flags, c.self.invariant.kept.small)

pub before-requires : goal.before-requires
before-requires c =
    let i = c.self.inside in
    let at = noted_at i.picks i.keys.items i.places.items c.args.self.now.keys c.requires.0 c.args.key c.self.invariant.stand (ap (λ (s : InOrder). s.keys) c.self.view_is) c.requires.1 in
    subst (λ p. p < length i.picks) (key_read i.places.items c.args.key c.index.result.now c.index.ensures at.0) at.1

pub returns : goal.returns
returns c =
    let i = c.self.inside in
    let at = noted_at i.picks i.keys.items i.places.items c.args.self.now.keys c.requires.0 c.args.key c.self.invariant.stand (ap (λ (s : InOrder). s.keys) c.self.view_is) c.requires.1 in
    let is = key_read i.places.items c.args.key c.index.result.now c.index.ensures at.0 in
    ap (slice_get c.args.self.now.keys) (c.before-2.ensures ∙ ap (up_before i.picks) (sym is) ∙ at.2) ∙ c.requires.1
