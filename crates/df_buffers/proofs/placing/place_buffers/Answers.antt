use Rattle.std.proofs.Common.{ℤ, List, length, refl, subst}
use Rattle.df_stages.specs.SkeletonLists.{SkeletonLists}
use Rattle.df_cancel.specs.Balances.{numbered, IsBalance}
use Rattle.df_buffers_laws.specs.Placed.{AreMade}
use Rattle.df_buffers.proofs.Answered.{wants_memory, no_refusal, neither, few_enough}
use Rattle.df_buffers.proofs.placing.place_buffers.Goals as goal

pub returns-in_err-ports-clause-too_many : goal.returns-in_err-ports-clause-too_many
returns-in_err-ports-clause-too_many c =
    neither (wants_memory c.from_residual.result c.from_residual.ensures.1)
    (few_enough (length c.args.cells) c.as_slice-stages.result.now c.args.b.now.stages c.arcs-arcs.result.now c.args.s.now.arcs
    c.as_slice-stages.ensures c.arcs-arcs.ensures.arcs (c.if-not-have_room.ensures.0 refl))

pub returns-in_err-place_at-clause-too_many : goal.returns-in_err-place_at-clause-too_many
returns-in_err-place_at-clause-too_many c =
    neither (wants_memory c.from_residual-in_err-place_at.result c.from_residual-in_err-place_at.ensures.1)
    (few_enough (length c.args.cells) c.as_slice-stages.result.now c.args.b.now.stages c.arcs-arcs.result.now c.args.s.now.arcs
    c.as_slice-stages.ensures c.arcs-arcs.ensures.arcs (c.if-not-have_room.ensures.0 refl))

pub returns-clause-placed : goal.returns-clause-placed
returns-clause-placed c =
    c.places_buffers.ensures c.args.cells c.in_ok-place_at.field-0 c.args.b.now.stages c.args.b.now.flow
    c.requires.well_formed c.requires.plain
    (subst (λ (s : SkeletonLists). IsBalance s c.args.b.now.stages c.args.b.now.flow) c.requires.skeleton c.requires.balance)
    (subst (λ (l : List ℤ). AreMade c.args.cells c.in_ok-place_at.field-0 (numbered l)) c.as_slice-stages.ensures
    c.in_ok-place_at.ensures)

pub returns-clause-too_many : goal.returns-clause-too_many
returns-clause-too_many c =
    neither (no_refusal c.in_ok-place_at.field-0)
    (few_enough (length c.args.cells) c.as_slice-stages.result.now c.args.b.now.stages c.arcs-arcs.result.now c.args.s.now.arcs
    c.as_slice-stages.ensures c.arcs-arcs.ensures.arcs (c.if-not-have_room.ensures.0 refl))
