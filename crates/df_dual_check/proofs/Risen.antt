-- BUF cells that rise, one step back at a time.
use Rattle.std.proofs.Common.{◌≡◌, ◌≢◌, ℕ, zero, suc, ◌+◌, ◌-◌, ◌<◌, ◌≤◌, nat_lt, Bool, true, false, eqb, List, length, Option, Some, None, inl, inr, ◌⊎◌, refl, sym, ap, subst, ◌∙◌, arith}
use Rattle.std.proofs.lemmas.Bool.{ltb-true, ltb-false}
use Rattle.std.proofs.lemmas.Bool.Decides.{eqb_tells}
use Rattle.df_cells.specs.declared.cells.CellId.{CellId}
use Rattle.df_cells.specs.declared.cells.Dest.{Dest}
use Rattle.df_cells.specs.declared.cells.Cell.{Cell}
use Rattle.df_cells.specs.Cells.{producer_of, is_buf}
use Rattle.df_cells.specs.Shifts.{back, back_over, origin}
use Rattle.df_stages.specs.Balance.{stage_of}
use Rattle.df_stages.proofs.Backs.{stays}
use Rattle.df_stages.proofs.Forward.{over_more}
use Rattle.df_dual_check.specs.Checked.{Rises, AllRise, BuffersRise}

abbrev pub RisesBelow : List Cell → ℕ → ℕ → Type 0
RisesBelow cells k c = (n : ℕ) → n < k → is_buf cells (back_over cells n c) ≡ true → Rises cells (back_over cells n c)

over_sum : (cells : List Cell) (k m c : ℕ) → back_over cells (k + m) c ≡ back_over cells m (back_over cells k c)
over_sum cells zero m c = ap (λ j. back_over cells j c) (none m)
  where
    none : (m : ℕ) → 0 + m ≡ m
    none m = omega arith
over_sum cells (suc k) m c = ap (λ j. back_over cells j c) (next k m) ∙ over_sum cells k m (back cells c)
  where
    next : (k m : ℕ) → suc k + m ≡ suc (k + m)
    next k m = omega arith

-- behind a cell that is no BUF cell nothing has to rise
pub all_risen : (cells : List Cell) (k c h : ℕ) → h ≡ back_over cells k c → is_buf cells h ≡ false → RisesBelow cells k c → AllRise cells c
all_risen cells k c h at other below n buf = by (nat_lt n k) refl
  where
    by : (b : Bool) → nat_lt n k ≡ b → Rises cells (back_over cells n c)
    by true l = below n (ltb-true n k l) buf
    by false l =
        let far : k ≤ n = ltb-false n k l in
        let split : n ≡ k + (n - k) = omega (arith, far) in
        let there = ap (λ j. back_over cells j c) split ∙ over_sum cells k (n - k) c ∙ ap (back_over cells (n - k)) (sym at) ∙ stays cells (n - k) h other in
        let t : true ≡ false = sym buf ∙ ap (is_buf cells) there ∙ other in cc

-- one more that rises
pub next_risen : (cells : List Cell) (k c h next : ℕ) → h ≡ back_over cells k c → next ≡ back cells h → stage_of cells h ≡ stage_of cells next + 1 → RisesBelow cells k c → RisesBelow cells (k + 1) c
next_risen cells k c h next at is one below n l buf = by (eqb_tells n k)
  where
    by : ((eqb n k ≡ true) × (n ≡ k)) ⊎ ((eqb n k ≡ false) × (n ≢ k)) → Rises cells (back_over cells n c)
    by (inl (t, e)) =
        subst (Rises cells) (at ∙ ap (λ j. back_over cells j c) (sym e)) (one ∙ ap (λ j. stage_of cells j + 1) is)
    by (inr (t, ne)) = below n (omega (arith, l, ne)) buf

pub next_here : (cells : List Cell) (k c h next : ℕ) → h ≡ back_over cells k c → next ≡ back cells h → next ≡ back_over cells (k + 1) c
next_here cells k c h next at is = is ∙ ap (back cells) at ∙ sym (over_more cells k c)

-- one that doesn't rise
pub one_fallen : (cells : List Cell) (k c h next : ℕ) → h ≡ back_over cells k c → is_buf cells h ≡ true → next ≡ back cells h → (stage_of cells h ≡ stage_of cells next + 1 → ⊥) → AllRise cells c → ⊥
one_fallen cells k c h next at buf is wrong all =
    wrong (subst (Rises cells) (sym at) (all k (ap (is_buf cells) (sym at) ∙ buf)) ∙ ap (λ j. stage_of cells j + 1) (sym is))

-- ---- the arc into a port

some_is : (u v : CellId) → Some u ≡ Some v → u ≡ v
some_is u v e = ap (λ o. or_else o) e
  where
    or_else : Option CellId → CellId
    or_else None = u
    or_else (Some w) = w

pub carried_rise : (cells : List Cell) (d : Dest) (u : CellId) → producer_of cells d ≡ Some u → AllRise cells u.0 → BuffersRise cells d
carried_rise cells d u fed all b (v, n, from, met, buf) =
    let same : u.0 ≡ v.0 = ap (λ (c : CellId). c.0) (some_is u v (sym fed ∙ from)) in
    let at : back_over cells n u.0 ≡ b = ap (back_over cells n) same ∙ met in
    subst (Rises cells) at (all n (ap (is_buf cells) at ∙ buf))

pub rise_carried : (cells : List Cell) (d : Dest) (u : CellId) → producer_of cells d ≡ Some u → BuffersRise cells d → AllRise cells u.0
rise_carried cells d u fed rise n buf = rise (back_over cells n u.0) (u, n, fed, refl, buf)

pub none_carried : (cells : List Cell) (d : Dest) → producer_of cells d ≡ None → BuffersRise cells d
none_carried cells d none b (v, n, from, met, buf) = let e : Some v ≡ None = sym from ∙ none in cc

pub over_all : (cells : List Cell) (c : ℕ) → back_over cells (length cells) c ≡ origin cells c
unfolding origin
over_all cells c = refl
