use Rattle.std.proofs.Common.{◌+◌, ◌∙◌, ap, sym, drop, Vec, Global}
use Rattle.std.proofs.lemmas.List.{drop_all}
use Rattle.df_core.specs.declared.terms.Term.{Term}
use Rattle.df_build_terms.specs.declared.building.Local.{Local}
use Rattle.df_build_terms.specs.declared.elem.Open.{Open}
use Rattle.df_build_terms.specs.Building.{Building, Built, Make, changed}
use Rattle.df_build_terms.specs.Built.{Defined, built}
use Rattle.df_build_terms.specs.Seen.{building_of}
use Rattle.df_build_terms.proofs.Deciding.{tested, on_true, on_false, on_number, on_error, on_cell}
use Rattle.df_build_terms.proofs.Unwinding.{unwound_last}
use Rattle.df_build_terms.specs.Parts.{unwound, choose_by, ended}
use Rattle.df_build_terms.proofs.Forms.{chain, change, chosen, let_is}
use Rattle.df_build_terms.proofs.elem.Elem.+term.Goals.{forward-in-Constant-Truth-false, forward-in-Cell+in_ok-enter-in-Cell+in_ok-value-in-Cell+in_ok-enter-in-Cell-2+in_ok-push-in-Cell}
use Rattle.df_build_terms.proofs.elem.Elem.+term.Goals as goal

pub forward-loop-branch-preserved : goal.forward-loop-branch-preserved
forward-loop-branch-preserved g t c =
    let K = g.G.Graphs.keep in
    let G = g.G.Graphs.graph in
    let M : Term → Make = built K c.args.turns c.args.outer.now in
    let inv = c.loop-branch.invariant in
    elim c.match-branch-2.branch [
      | forward-in-Constant-Truth-false w ↦ record {
        left = λ last.
            ap (λ s. unwound K c.match-branch-2.opened.items (choose_by K M (drop (c.loop-branch.branch-index + 1) c.args.branches.now) last c.args.locals.now.items (building_of G s))) w.self-is
            ∙ (ap (λ (o : Vec Open Global). unwound K o.items (choose_by K M (drop (c.loop-branch.branch-index + 1) c.args.branches.now) last c.args.locals.now.items (building_of G c.term.new.self))) w.opened-is
            ∙ (ap (unwound K c.loop-branch.opened.items) (sym (tested K M c.args.branches.now c.loop-branch.branch-index c.branch-item.result last c.args.locals.now.items (building_of G c.loop-branch.self) (building_of G c.term.new.self) c.in_ok-term.field-0
            c.loop-branch-test.true c.branch-item.is (c.in_ok-term.ensures.built ∙ ap (λ ls. M c.branch-item.result.test ls (building_of G c.loop-branch.self)) inv.kept)
            ∙ on_false K (M c.branch-item.result.value c.args.locals.now.items) (choose_by K M (drop (c.loop-branch.branch-index + 1) c.args.branches.now) last c.args.locals.now.items) (building_of G c.term.new.self) c.in_ok-term.field-0
            w.in-Constant-Truth-false.field-0 w.in-Constant-Truth-false.field-0-0 w.in-Constant-Truth-false.is w.in-Constant-Truth-false.field-0-is w.in-Constant-Truth-false.field-0-0-test))
            ∙ inv.left last));
        kept = ap (λ (v : Vec Local Global). v.items) w.locals-is ∙ (c.in_ok-term.ensures.kept ∙ inv.kept);
      }
      | forward-in-Cell+in_ok-enter-in-Cell+in_ok-value-in-Cell+in_ok-enter-in-Cell-2+in_ok-push-in-Cell w ↦ record {
        left = λ last.
            let rest : Building → Built = choose_by K M (drop (c.loop-branch.branch-index + 1) c.args.branches.now) last c.args.locals.now.items in
            let kept = c.in_ok-term.ensures.kept ∙ inv.kept in
            let o : Open = record { control = w.in-Cell.control; value = w.in_ok-value-in-Cell.value } in
            ap (λ s. unwound K c.match-branch-2.opened.items (rest (building_of G s))) w.self-is
            ∙ (ap (λ (v : Vec Open Global). unwound K v.items (rest (building_of G w.enter-in-Cell.new.self))) w.opened-is
            ∙ (ap (λ l. unwound K l (rest (building_of G w.enter-in-Cell.new.self))) w.in_ok-push-in-Cell.ensures.items
            ∙ (unwound_last K c.loop-branch.opened.items o (rest (building_of G w.enter-in-Cell.new.self))
            ∙ (ap (unwound K c.loop-branch.opened.items) (sym (tested K M c.args.branches.now c.loop-branch.branch-index c.branch-item.result last c.args.locals.now.items (building_of G c.loop-branch.self) (building_of G c.term.new.self) c.in_ok-term.field-0
            c.loop-branch-test.true c.branch-item.is (c.in_ok-term.ensures.built ∙ ap (λ ls. M c.branch-item.result.test ls (building_of G c.loop-branch.self)) inv.kept)
            ∙ on_cell K (M c.branch-item.result.value c.args.locals.now.items) (choose_by K M (drop (c.loop-branch.branch-index + 1) c.args.branches.now) last c.args.locals.now.items) (building_of G c.term.new.self) c.in_ok-term.field-0
            w.in-Cell.control (building_of G w.enter.new.self) (building_of G w.term-in-Cell.new.self) (building_of G w.leave.new.self) (building_of G w.enter-in-Cell.new.self) w.in_ok-value-in-Cell.value
            w.in-Cell.is w.in_ok-enter-in-Cell.ensures (w.in_ok-value-in-Cell.ensures.built ∙ ap (λ ls. M c.branch-item.result.value ls (building_of G w.enter.new.self)) kept) w.leave.ensures w.in_ok-enter-in-Cell-2.ensures))
            ∙ inv.left last))));
        kept = ap (λ (v : Vec Local Global). v.items) w.locals-is ∙ (w.in_ok-value-in-Cell.ensures.kept ∙ (c.in_ok-term.ensures.kept ∙ inv.kept));
      }
    ]

pub forward-returns-in-Constant-Truth-true : goal.forward-returns-in-Constant-Truth-true
forward-returns-in-Constant-Truth-true g t c =
    let K = g.G.Graphs.keep in
    let G = g.G.Graphs.graph in
    let M : Term → Make = built K c.args.turns c.args.outer.now in
    let inv = c.loop-branch.invariant in
    let kept = c.in_ok-term.ensures.kept ∙ inv.kept in
    record {
      built = λ last.
          ap (unwound K c.loop-branch.opened.items)
          ((c.in_ok-term-in-Constant-Truth-true.ensures.built ∙ ap (λ ls. M c.branch-item.result.value ls (building_of G c.term.new.self)) kept)
          ∙ sym (tested K M c.args.branches.now c.loop-branch.branch-index c.branch-item.result last c.args.locals.now.items (building_of G c.loop-branch.self) (building_of G c.term.new.self) c.in_ok-term.field-0
          c.loop-branch-test.true c.branch-item.is (c.in_ok-term.ensures.built ∙ ap (λ ls. M c.branch-item.result.test ls (building_of G c.loop-branch.self)) inv.kept)
          ∙ on_true K (M c.branch-item.result.value c.args.locals.now.items) (choose_by K M (drop (c.loop-branch.branch-index + 1) c.args.branches.now) last c.args.locals.now.items) (building_of G c.term.new.self) c.in_ok-term.field-0
          c.in-Constant-Truth-true.field-0 c.in-Constant-Truth-true.field-0-0 c.in-Constant-Truth-true.is c.in-Constant-Truth-true.field-0-is c.in-Constant-Truth-true.field-0-0-test))
          ∙ inv.left last;
      kept = c.in_ok-term-in-Constant-Truth-true.ensures.kept ∙ kept;
    }

pub forward-returns-in-Constant-Int : goal.forward-returns-in-Constant-Int
forward-returns-in-Constant-Int g t c =
    let K = g.G.Graphs.keep in
    let G = g.G.Graphs.graph in
    let M : Term → Make = built K c.args.turns c.args.outer.now in
    let inv = c.loop-branch.invariant in
    record {
      built = λ last.
          ap (unwound K c.loop-branch.opened.items)
          (sym (tested K M c.args.branches.now c.loop-branch.branch-index c.branch-item.result last c.args.locals.now.items (building_of G c.loop-branch.self) (building_of G c.term.new.self) c.in_ok-term.field-0
          c.loop-branch-test.true c.branch-item.is (c.in_ok-term.ensures.built ∙ ap (λ ls. M c.branch-item.result.test ls (building_of G c.loop-branch.self)) inv.kept)
          ∙ on_number K (M c.branch-item.result.value c.args.locals.now.items) (choose_by K M (drop (c.loop-branch.branch-index + 1) c.args.branches.now) last c.args.locals.now.items) (building_of G c.term.new.self) c.in_ok-term.field-0
          c.in-Constant-Int.field-0 c.in-Constant-Int.field-0-0 c.in-Constant-Int.is c.in-Constant-Int.field-0-is))
          ∙ inv.left last;
      kept = c.in_ok-term.ensures.kept ∙ inv.kept;
    }

pub forward-returns-in-Constant-Error : goal.forward-returns-in-Constant-Error
forward-returns-in-Constant-Error g t c =
    let K = g.G.Graphs.keep in
    let G = g.G.Graphs.graph in
    let M : Term → Make = built K c.args.turns c.args.outer.now in
    let inv = c.loop-branch.invariant in
    record {
      built = λ last.
          ap (unwound K c.loop-branch.opened.items)
          (sym (tested K M c.args.branches.now c.loop-branch.branch-index c.branch-item.result last c.args.locals.now.items (building_of G c.loop-branch.self) (building_of G c.term.new.self) c.in_ok-term.field-0
          c.loop-branch-test.true c.branch-item.is (c.in_ok-term.ensures.built ∙ ap (λ ls. M c.branch-item.result.test ls (building_of G c.loop-branch.self)) inv.kept)
          ∙ on_error K (M c.branch-item.result.value c.args.locals.now.items) (choose_by K M (drop (c.loop-branch.branch-index + 1) c.args.branches.now) last c.args.locals.now.items) (building_of G c.term.new.self) c.in_ok-term.field-0
          c.in-Constant-Error.field-0 c.in-Constant-Error.field-0-0 c.in-Constant-Error.is c.in-Constant-Error.field-0-is))
          ∙ inv.left last;
      kept = c.in_ok-term.ensures.kept ∙ inv.kept;
    }

pub forward-returns : goal.forward-returns
forward-returns g t c =
    let K = g.G.Graphs.keep in
    let G = g.G.Graphs.graph in
    let M : Term → Make = built K c.args.turns c.args.outer.now in
    let inv = c.loop-branch.invariant in
    record {
      built = λ last.
          ap (λ l. unwound K c.loop-branch.opened.items (choose_by K M l last c.args.locals.now.items (building_of G c.loop-branch.self))) (sym (drop_all c.loop-branch.branch-index c.args.branches.now c.loop-branch-test.false))
          ∙ inv.left last;
      kept = inv.kept;
    }

pub term-returns-in_ok-chain-in-Chain-clause-built : goal.term-returns-in_ok-chain-in-Chain-clause-built
term-returns-in_ok-chain-in-Chain-clause-built g t c =
    rw (chain g.G.Graphs.keep c.args.turns c.args.outer.now c.args.term.now c.in-Chain.first c.in-Chain.rest c.args.locals.now.items (building_of g.G.Graphs.graph c.args.self.now) c.in-Chain.is)
    (rw (c.as_slice-in-Chain.ensures, c.in_ok-first-in-Chain.ensures.kept, c.in_ok-first-in-Chain.ensures.built, c.get.ensures) at c.in_ok-chain-in-Chain.ensures.built)

pub term-returns-in_ok-changed-in-Change-clause-built : goal.term-returns-in_ok-changed-in-Change-clause-built
term-returns-in_ok-changed-in-Change-clause-built g t c =
    rw (change g.G.Graphs.keep c.args.turns c.args.outer.now c.args.term.now c.in-Change.how c.in-Change.of c.args.locals.now.items (building_of g.G.Graphs.graph c.args.self.now) c.in-Change.is)
    (c.in_ok-changed-in-Change.ensures ∙ ap (λ (x : Built). changed g.G.Graphs.keep c.in-Change.how x.state x.flow) (rw c.get-in-Change.ensures at c.in_ok-of-in-Change.ensures.built))

pub term-returns-in_ok-value-in-Let-clause-built : goal.term-returns-in_ok-value-in-Let-clause-built
term-returns-in_ok-value-in-Let-clause-built g t c =
    rw (let_is g.G.Graphs.keep c.args.turns c.args.outer.now c.args.term.now c.in-Let.definitions c.in-Let.value c.args.locals.now.items (building_of g.G.Graphs.graph c.args.self.now) c.in-Let.is)
    ((rw c.get-in-Let.ensures at c.in_ok-value-in-Let.ensures.built)
    ∙ ap (λ (d : Defined). built g.G.Graphs.keep c.args.turns c.args.outer.now c.in-Let.value d.locals d.state) (rw c.as_slice-in-Let.ensures at c.in_ok-define-in-Let.ensures.built))

pub term-returns-in_ok-unwind-in-Some-clause-built : goal.term-returns-in_ok-unwind-in-Some-clause-built
term-returns-in_ok-unwind-in-Some-clause-built g t c =
    let K = g.G.Graphs.keep in
    let G = g.G.Graphs.graph in
    let M : Term → Make = built K c.args.turns c.args.outer.now in
    rw (chosen K c.args.turns c.args.outer.now c.args.term.now c.in-If.branches c.in-If.last c.args.locals.now.items (building_of G c.args.self.now) c.in-If.is)
    (c.in_ok-unwind-in-Some.ensures
    ∙ (ap (λ r. unwound K c.forward.new.opened.items (ended (building_of G c.forward.new.self) r (M c.in-If.last c.args.locals.now.items (building_of G c.forward.new.self)))) (sym c.in-Some.is)
    ∙ (rw c.as_slice-in-If.ensures at c.in_ok-flow-in-If.ensures.built c.in-If.last)))

pub term-returns-in_ok-unwind-in-None-clause-built : goal.term-returns-in_ok-unwind-in-None-clause-built
term-returns-in_ok-unwind-in-None-clause-built g t c =
    let K = g.G.Graphs.keep in
    let G = g.G.Graphs.graph in
    let M : Term → Make = built K c.args.turns c.args.outer.now in
    rw (chosen K c.args.turns c.args.outer.now c.args.term.now c.in-If.branches c.in-If.last c.args.locals.now.items (building_of G c.args.self.now) c.in-If.is)
    (c.in_ok-unwind-in-None.ensures
    ∙ (ap (unwound K c.forward.new.opened.items) (rw (c.get-in-None.ensures, c.in_ok-flow-in-If.ensures.kept) at c.in_ok-flow-in-None.ensures.built)
    ∙ (ap (λ r. unwound K c.forward.new.opened.items (ended (building_of G c.forward.new.self) r (M c.in-If.last c.args.locals.now.items (building_of G c.forward.new.self)))) (sym c.in-None.is)
    ∙ (rw c.as_slice-in-If.ensures at c.in_ok-flow-in-If.ensures.built c.in-If.last))))
