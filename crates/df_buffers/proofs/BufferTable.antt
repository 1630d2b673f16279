-- The table of the stages of BUF cells, one by one.
use Rattle.std.proofs.Common.{◌≡◌, ℕ, ◌+◌, ◌<◌, ◌≤◌, List, [], ◌∷◌, ◌++◌, get_or, length, Some, refl, sym, ◌∙◌, ap, subst, inl, inr, arith}
use Rattle.std.proofs.lemmas.Bool.{cases_lt}
use Rattle.std.proofs.lemmas.List.{get_or_append_left, get_or_push, length_push}
use Rattle.std.proofs.lemmas.Option.{same_Some}
use Rattle.df_cells.specs.declared.cells.CellId.{CellId}
use Rattle.df_cells.specs.declared.cells.Cell.{Cell}
use Rattle.df_cells.specs.Cells.{port_of, producer_of}
use Rattle.df_buffers.specs.Staging.{IsBehind, AreBufferStages}

pub none_pushed : (cells : List Cell) (first : List ℕ) → ((j : ℕ) → j < length first → get_or first j 0 ≤ 4000000000)
    → AreBufferStages cells first (length first) first
none_pushed cells first small = record {
  count = refl;
  begins = λ j h. refl;
  each = λ b u h l fed. absurd (omega arith);
  small = λ j h. let low = small j h in omega arith;
}

pub next_pushed : (cells : List Cell) (first : List ℕ) (b : ℕ) (table new : List ℕ) (x : ℕ) → length first ≤ b
    → ((c : ℕ) → length first ≤ c → c ≤ b → IsBehind cells c) → AreBufferStages cells first b table
    → ((u : CellId) → producer_of cells (port_of b 0) ≡ Some u → x ≡ get_or table u.0 0 + 1) → new ≡ table ++ x ∷ []
    → AreBufferStages cells first (b + 1) new
next_pushed cells first b table new x low all so_far is e =
    let behind = all b low (omega arith) in
    let count = so_far.count in
    let long = length_push table x in
    let last : get_or (table ++ x ∷ []) b 0 ≡ x = get_or_push table x 0 b count in
    let kept = λ (j : ℕ) (h : j < b). get_or_append_left table (x ∷ []) 0 j (omega arith) in
    let whole : AreBufferStages cells first (b + 1) (table ++ x ∷ []) = record {
      count = long ∙ ap (λ m. m + 1) count;
      each = λ c u h l fed. elim (cases_lt c b) [
        | inl before ↦
            let known = so_far.each c u h before fed in
            let back = all c h (omega arith) in
            let one : back.0 ≡ u = same_Some back.0 u (sym back.1 ∙ fed) in
            let number = ap (λ (k : CellId). k.0) one in
            let less = back.2 in
            kept c before ∙ known ∙ ap (λ n. n + 1) (sym (kept u.0 (omega arith)))
        | inr after ↦
            let same : b ≡ c = omega arith in
            let at : producer_of cells (port_of b 0) ≡ Some u = ap (λ k. producer_of cells (port_of k 0)) same ∙ fed in
            let one : behind.0 ≡ u = same_Some behind.0 u (sym behind.1 ∙ at) in
            let number = ap (λ (k : CellId). k.0) one in
            let less = behind.2 in
            ap (λ k. get_or (table ++ x ∷ []) k 0) (sym same) ∙ last ∙ is u at
            ∙ ap (λ n. n + 1) (sym (kept u.0 (omega arith)))
      ];
      begins = λ j h. kept j (omega arith) ∙ so_far.begins j h;
      small = λ j h. elim (cases_lt j b) [
        | inl before ↦ let known = so_far.small j before in let k = kept j before in omega arith
        | inr after ↦
            let same : b ≡ j = omega arith in
            let value = is behind.0 behind.1 in
            let known = so_far.small behind.0.0 behind.2 in
            let less = behind.2 in
            let at = ap (λ k. get_or (table ++ x ∷ []) k 0) (sym same) ∙ last in
            omega arith
      ];
    } in
    subst (AreBufferStages cells first (b + 1)) (sym e) whole
