use Rattle.std.proofs.Common.{sym, ◌∙◌, ap, ap₂, refl, List, Bool, true, false, if◌then◌else◌, None, ◌≡◌}
use Rattle.std.specs.List.{list_all}
use Rattle.df_syntax.specs.declared.tree.Link.{Link}
use Rattle.df_syntax.specs.Meaning.{is_additive}
use Rattle.df_syntax.specs.WellShaped.{look_of, own_offset, chain_offset}
use Rattle.df_flattened.proofs.Sums.{nothing_left}
use Rattle.df_inline.specs.Parts.{looks_of}
use Rattle.df_inline.proofs.Looks.{name_offset, parens, sum_offset, no_subscript}
use Rattle.df_inline.proofs.subscripts.+offset.Goals.{else-is_sum-via-then-is_sum+else-is_name, else-is_sum-via-else-is_sum}
use Rattle.df_inline.proofs.subscripts.+offset.Goals as goal

pub returns-then-eq : goal.returns-then-eq
returns-then-eq t c =
    sym (name_offset c.args.expr.now c.in-Name.name c.args.index.now (sym c.get.ensures ∙ c.in-Name.is) ∙ ap own_offset (sym c.eq.ensures ∙ c.if-eq.true))

pub returns-else-eq : goal.returns-else-eq
returns-else-eq t c =
    sym (name_offset c.args.expr.now c.in-Name.name c.args.index.now (sym c.get.ensures ∙ c.in-Name.is) ∙ ap own_offset (sym c.eq.ensures ∙ c.if-eq.false))

pub returns-in-Parens : goal.returns-in-Parens
returns-in-Parens t c = rw (parens c.args.expr.now c.in-Parens.of (sym c.get.ensures ∙ c.in-Parens.is)) c.offset.ensures

pub returns-in_ok-sum-in-Chain : goal.returns-in_ok-sum-in-Chain
returns-in_ok-sum-in-Chain t c =
    (rw c.as_slice-then-is_name.ensures at c.in_ok-sum-in-Chain.ensures)
    ∙ sym (sum_offset c.args.expr.now c.in-Chain.first c.in-Chain.rest c.args.index.now (sym c.get.ensures ∙ c.in-Chain.is)
    ∙ ap₂ (λ b s. if b then chain_offset (own_offset s) (looks_of c.in-Chain.rest) else None) (rw c.as_slice.ensures at (sym c.is_sum.ensures ∙ c.if-is_sum.true)) (sym c.is_name.ensures ∙ c.if-is_name.true))

no_first : (b : Bool) (rest : List Link) → (if b then chain_offset (own_offset false) (looks_of rest) else None) ≡ None
no_first true rest = nothing_left (looks_of rest)
no_first false rest = refl

pub returns-else-is_sum : goal.returns-else-is_sum
returns-else-is_sum t c =
    let whole = sum_offset c.args.expr.now c.in-Chain.first c.in-Chain.rest c.args.index.now (sym c.get.ensures ∙ c.in-Chain.is) in
    sym (whole ∙ elim c.else-is_sum.branch [
      | else-is_sum-via-then-is_sum+else-is_name w ↦
          ap (λ s. if list_all (λ (l : Link). is_additive l.op) c.in-Chain.rest then chain_offset (own_offset s) (looks_of c.in-Chain.rest) else None) (sym w.is_name.ensures ∙ w.if-is_name.false)
          ∙ no_first (list_all (λ (l : Link). is_additive l.op) c.in-Chain.rest) c.in-Chain.rest
      | else-is_sum-via-else-is_sum w ↦
          ap (λ b. if b then chain_offset (own_offset ((look_of c.in-Chain.first).is_name c.args.index.now)) (looks_of c.in-Chain.rest) else None) (rw c.as_slice.ensures at (sym c.is_sum.ensures ∙ w.if-is_sum.false))
    ])

pub returns-in_default : goal.returns-in_default
returns-in_default t c =
    sym (no_subscript c.args.expr.now c.args.index.now (λ name is. c.in_default.not-Name name (c.get.ensures ∙ is)) (λ of is. c.in_default.not-Parens of (c.get.ensures ∙ is))
    (λ first rest is. c.in_default.not-Chain first rest (c.get.ensures ∙ is)))
