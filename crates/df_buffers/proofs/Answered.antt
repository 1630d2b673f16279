-- Answers of a call that may refuse for too many cells.
use Rattle.std.proofs.Common.{◌≡◌, ℕ, ℤ, pos, ◌+ℤ◌, ◌≤ℤ◌, ◌<ℤ◌, List, Result, Ok, Err, ◌↔◌, ap, ◌∙◌, arith}
use Rattle.std.specs.Prelude.{IsErrAnd}
use Rattle.std.proofs.lemmas.Int.{ints}
use Rattle.df_stages.specs.declared.skeleton.SkeletonArc.{SkeletonArc}
use Rattle.df_stages.specs.Flows.{total_excess}
use Rattle.df_cancel.specs.Balances.{numbered}
use Rattle.df_cells.specs.declared.cells.Cells.{Cells}
use Rattle.df_buffers.specs.declared.placing.BufferAnswer.{BufferAnswer}
use Rattle.df_buffers.specs.declared.placing.BufferAnswer.TheVariants.{TooManyCells, Memory}

abbrev refused : BufferAnswer → Result Cells BufferAnswer
refused a = Err a

differ : (a : BufferAnswer) → a ≡ Memory → refused a ≡ refused TooManyCells → ⊥
differ a is e = cc

pub wants_memory : (r : Result Cells BufferAnswer) → IsErrAnd r (λ e. e ≡ Memory) → r ≡ refused TooManyCells → ⊥
wants_memory (Ok v) is e = is
wants_memory (Err a) is e = differ a is e

pub no_refusal : (cells : Cells) → Ok cells ≡ refused TooManyCells → ⊥
no_refusal cells e = cc

pub neither : {P Q : Type 0} → (P → ⊥) → (Q → ⊥) → P ↔ Q
neither no_p no_q = ((λ p. absurd (no_p p)), (λ q. absurd (no_q q)))

-- where there is room there are not too many
pub few_enough : (n : ℕ) (stages given : List ℤ) (arcs named : List SkeletonArc) → stages ≡ given → arcs ≡ named
    → (pos n +ℤ total_excess (numbered stages) arcs) ≤ℤ pos 65536
    → pos 65536 <ℤ (pos n +ℤ total_excess (numbered given) named) → ⊥
few_enough n stages given arcs named same_stages same_arcs room many =
    let total = ap (λ l. total_excess (numbered l) arcs) same_stages ∙ ap (total_excess (numbered given)) same_arcs in
    omega (arith, ints)
