use Rattle.std.proofs.Common.{sym, ap, ◌∙◌, ◌++◌, ◌∷◌, [], List, ℕ, subst}
use Rattle.std.specs.List.{zip}
use Rattle.df_build_cond.specs.Noted.{AreRows, entry_in}
use Rattle.df_build_cond.proofs.RisingRows.{seen_pushed}
use Rattle.df_build_cond.proofs.rows.Rows.push.Goals as goal

pub invariant_of-self-2 : goal.invariant_of-self-2
invariant_of-self-2 c =
    let done = seen_pushed c.args.self.now c.self.inside.numbers.items c.self.inside.cells.items c.args.number c.args.cell c.self.invariant (sym c.self.view_is) c.requires in
    let cells = c.in_ok-push-2.ensures.items ∙ ap (λ (l : List ℕ). l ++ c.args.cell ∷ []) c.in_ok-reserve.ensures.items in
    subst (λ l. AreRows l c.push-2.new.self.items) (sym c.in_ok-push.ensures.items) (subst (AreRows (c.self.inside.numbers.items ++ c.args.number ∷ [])) (sym cells) done.0)

pub returns-clause-ok : goal.returns-clause-ok
returns-clause-ok c =
    let done = seen_pushed c.args.self.now c.self.inside.numbers.items c.self.inside.cells.items c.args.number c.args.cell c.self.invariant (sym c.self.view_is) c.requires in
    let cells = c.in_ok-push-2.ensures.items ∙ ap (λ (l : List ℕ). l ++ c.args.cell ∷ []) c.in_ok-reserve.ensures.items in
    ap (λ l. entry_in (zip l c.push-2.new.self.items)) c.in_ok-push.ensures.items ∙ (ap (λ l. entry_in (zip (c.self.inside.numbers.items ++ c.args.number ∷ []) l)) cells ∙ done.1)
