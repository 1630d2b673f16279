use Rattle.std.proofs.Common.{ℕ, List, length, subst, arith}
use Rattle.df_cancel.specs.Balances.{numbered}
use Rattle.df_buffers_laws.specs.Placed.{counts_of}
use Rattle.df_buffers.specs.Staging.{StagedSoFar}
use Rattle.df_buffers.proofs.Made.{made_graph, behind, are_made}
use Rattle.df_buffers.proofs.placing.place_at.Goals as goal

pub push_buffer_stages-requires-clause-behind : goal.push_buffer_stages-requires-clause-behind
push_buffer_stages-requires-clause-behind c =
    let old = c.args.cells in
    let numbers = numbered c.args.stages.now in
    let graph = made_graph old c.in_ok-new.new numbers c.of-builder.result c.insert_all.new.builder c.args.ports.now
    c.in_ok-new.ensures.graph c.in_ok-insert_all.ensures c.of-builder.ensures c.requires.ports in
    let is = c.stand_on_arcs.ensures old c.in_ok-new.new numbers c.requires.well_formed c.requires.plain graph in
    let count = c.in_ok-table.ensures.count in
    λ b h l. behind old c.in_ok-new.new (counts_of old numbers) is b (omega arith) l

pub returns : goal.returns
returns c =
    let old = c.args.cells in
    let numbers = numbered c.args.stages.now in
    let graph = made_graph old c.in_ok-new.new numbers c.of-builder.result c.insert_all.new.builder c.args.ports.now
    c.in_ok-new.ensures.graph c.in_ok-insert_all.ensures c.of-builder.ensures c.requires.ports in
    let is = c.stand_on_arcs.ensures old c.in_ok-new.new numbers c.requires.well_formed c.requires.plain graph in
    let made = c.in_ok-new.new in
    let staged : StagedSoFar made c.push_buffer_stages.new.table.items (length made) c.set_stages.new.cells =
    subst (λ (l : List ℕ). StagedSoFar made l (length made) c.set_stages.new.cells) c.as_slice.ensures.value
    c.set_stages.ensures.staged in
    are_made old c.in_ok-new.new (counts_of old numbers) is c.set_stages.new.cells numbers c.in_ok-table.table.items
    c.push_buffer_stages.new.table.items c.in_ok-table.ensures c.in_ok-push_buffer_stages.ensures staged graph
    c.in_ok-new.ensures.port c.in_ok-new.ensures.dest c.in_ok-new.ensures.marks c.set_stages.ensures.cells
