use Rattle.std.proofs.Common.{◌≡◌, ◌<◌, ◌+◌, ℕ, pos, Vec, Global, get_or, length, sym, ap, subst, ◌∙◌, arith}
use Rattle.std.proofs.lemmas.Int.{ints}
use Rattle.std.proofs.lemmas.List.{get_or_default}
use Rattle.df_stages.specs.Nodes.{node_of}
use Rattle.df_buffers.proofs.NodeTable.{StagesSoFar, least_length, least_is, node_here, next_node, next_other}
use Rattle.df_buffers.proofs.staging.node_stages.Goals as goal
use Rattle.df_buffers.proofs.staging.node_stages.Goals.{then-least-c+in_ok-push, else-least-c+in_ok-push-2}

pub least_cell-least-requires : goal.least_cell-least-requires
least_cell-least-requires c = let long = least_length c.args.s.now c.args.cells.now c.requires.skeleton in omega arith

pub offset_bounds-stages-next : goal.offset_bounds-stages-next
offset_bounds-stages-next c =
    let few = (c.counts_nodes.ensures c.args.cells.now).few c.loop-c.c in
    let next = c.loop-c.invariant.next_is in
    let cells = c.len-c-end.ensures.cells.few in
    omega arith

pub bounds-stages-next : goal.bounds-stages-next
bounds-stages-next c =
    let cells = c.args.cells.now in
    let i = c.loop-c.c in
    let inside : i < length cells = omega arith in
    let least =
    least_is c.args.s.now cells i c.least_cell-least.result c.requires.skeleton inside c.least_cell-least.ensures in
    let node = node_here cells i (c.requires.plain i inside) (sym least ∙ c.if-least-c.true) in
    let room = (c.counts_nodes.ensures cells).room i inside node in
    let next = c.loop-c.invariant.next_is in
    let each = c.requires.each in
    omega arith

pub overflow_add-next : goal.overflow_add-next
overflow_add-next c =
    let few = (c.counts_nodes.ensures c.args.cells.now).few c.loop-c.c in
    let next = c.loop-c.invariant.next_is in
    let cells = c.len-c-end.ensures.cells.few in
    omega arith

pub index-stage-requires : goal.index-stage-requires
index-stage-requires c =
    let cells = c.args.cells.now in
    let i = c.loop-c.c in
    let inside : i < length cells = omega arith in
    let low = (c.counts_nodes.ensures cells).least i inside in
    let least =
    least_is c.args.s.now cells i c.least_cell-least.result c.requires.skeleton inside c.least_cell-least.ensures in
    let count = c.loop-c.invariant.stages_are.count in
    let other = c.if-least-c.false in
    let less : node_of cells i < i = omega (arith, other) in
    let ok = c.loop-c.table.ok in
    omega arith

pub loop-c-preserved : goal.loop-c-preserved
loop-c-preserved c =
    let cells = c.args.cells.now in
    let stages = c.args.stages.now in
    let i = c.loop-c.c in
    let table = c.loop-c.table.items in
    let counted = c.counts_nodes.ensures cells in
    let inside : i < length cells = omega arith in
    let plain = c.requires.plain i inside in
    let least =
    least_is c.args.s.now cells i c.least_cell-least.result c.requires.skeleton inside c.least_cell-least.ensures in
    let each = c.requires.each in
    let next = c.loop-c.invariant.next_is in
    let low_node = counted.least i inside in
    let count = c.loop-c.invariant.stages_are.count in
    let less : (node_of cells i ≡ i → ⊥) → node_of cells i < length table = λ other. omega (arith, other) in
    elim c.if-least-c.branch [
      | then-least-c+in_ok-push w ↦
          let own : node_of cells i ≡ i = sym least ∙ w.if-least-c.true in
          let room = counted.room i inside (node_here cells i plain own) in
          let within : c.loop-c.next < length stages = omega arith in
          let low = (c.requires.small c.loop-c.next (pos 0) within).0 in
          let high = (c.requires.small c.loop-c.next (pos 0) within).1 in
          let list = ap (λ (v : Vec ℕ Global). v.items) w.table-is ∙ w.in_ok-push.ensures.items in
          subst (λ n. StagesSoFar cells stages (i + 1) n c.if-least-c.table.items) (sym w.next-is)
          (subst (StagesSoFar cells stages (i + 1) (c.loop-c.next + 1)) (sym list)
          (next_node cells counted stages i c.loop-c.next table c.loop-c.invariant inside _ plain own
          (omega (arith, ints)) (omega (arith, ints))))
      | else-least-c+in_ok-push-2 w ↦
          let list = ap (λ (v : Vec ℕ Global). v.items) w.table-is ∙ w.in_ok-push-2.ensures.items in
          let other = λ (e : node_of cells i ≡ i). w.if-least-c.false (least ∙ e) in
          subst (λ n. StagesSoFar cells stages (i + 1) n c.if-least-c.table.items) (sym w.next-is)
          (subst (StagesSoFar cells stages (i + 1) c.loop-c.next) (sym list)
          (next_other cells counted stages i c.loop-c.next table c.loop-c.invariant inside _ other
          (w.index-stage.ensures ∙ ap (λ k. get_or table k w.index-stage.result.now) least
          ∙ get_or_default table (node_of cells i) w.index-stage.result.now 0 (less other))))
    ]
