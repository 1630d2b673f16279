-- What a cell now wants, the next firing of its label takes.
use Rattle.std.proofs.Common.{◌≡◌, ◌⊎◌, ℕ, ◌+◌, ◌<◌, true, cond, ◌&&◌, List, ◌∷◌, ◌++◌, get_or, length, map, take, drop, Option, Some, None, refl, sym, ◌∙◌, ap, subst, inl, inr}
use Rattle.std.specs.Prelude.{is_some, slice_get}
use Rattle.std.specs.List.{AllByRecursion}
use Rattle.std.proofs.lemmas.List.{take-append-drop, map-append, drop_more}
use Rattle.std.proofs.lemmas.Bool.{eqb-true}
use Rattle.df_values.specs.declared.values.Value.{Value}
use Rattle.df_values.specs.Inputs.{AreValid}
use Rattle.df_cells.specs.declared.cells.CellId.{CellId}
use Rattle.df_cells.specs.declared.cells.Feed.{Feed}
use Rattle.df_cells.specs.declared.cells.Feed.TheVariants.{Arc, Constant, Loaded}
use Rattle.df_cells.specs.declared.kinds.Family.{Family}
use Rattle.df_cells.specs.declared.kinds.Family.TheVariants as of
use Rattle.df_cells.specs.Families.{family}
use Rattle.df_cells.specs.declared.kinds.Kind.TheVariants as kind
use Rattle.df_cells.specs.declared.cells.Cell.{Cell}
use Rattle.df_cells.specs.Firings.{Operands, at_hand, wants, family_wants, merge_wants, with_constants, takes}
use Rattle.df_cells.specs.Cells.{cell_from, cell_at, port_of, producer_of, declarations}
use Rattle.df_cells.specs.WellFormed.{WellFormed}
use Rattle.df_machine.specs.States.{row, firings}
use Rattle.df_machine.specs.Events.{taken}
use Rattle.df_machine.specs.Runs.{after}
use Rattle.df_machine.proofs.WellFormedRuns.{can_run}
use Rattle.df_labels.specs.Histories.{IsRight}
use Rattle.df_labels.specs.Labels.{Firing, no_firing, Labels, operands_of, LabelsMeet}
use Rattle.df_labels.proofs.Given.{histories_meet}
use Rattle.df_labels.proofs.Firings.{wants_control, wants_first, all_at}
use Rattle.df_histories.specs.Traces.{histories}
use Rattle.df_histories.proofs.Agree.{same_operand}
use Rattle.df_histories.proofs.Following.{agrees_after}
use Rattle.df_histories.proofs.Determinate.{traced_after}

-- ---- the next firing of a label

some_value : (o : Option Value) → is_some o ≡ true → (v : Value) × (o ≡ Some v)
some_value None h = cc
some_value (Some v) h = (v, refl)

same_control : (f : Option Feed) (o x : Option Value) → ((u : CellId) (v : Value) → cell_from f ≡ Some u → o ≡ Some v → x ≡ Some v) → (at_hand f o ≡ None) ⊎ (at_hand f o ≡ at_hand f x)
same_control None o x h = inl refl
same_control (Some (Constant v)) o x h = inr refl
same_control (Some (Arc u)) None x h = inl refl
same_control (Some (Arc u)) (Some v) x h = inr (sym (h u v refl refl))
same_control (Some (Loaded u l)) None x h = inl refl
same_control (Some (Loaded u l)) (Some v) x h = inr (sym (h u v refl refl))

-- without its control a cell wants that alone, and every cell wants it
control_alone : (f : Family) (x y : Operands) (p : ℕ) → get_or x 0 None ≡ None → family_wants f x p ≡ true → family_wants f y p ≡ true
control_alone of.Merge x y p none w =
    let z : p ≡ 0 = eqb-true p 0 (ap (λ o. merge_wants o p) (sym none) ∙ w) in
    ap (λ q. wants kind.Merge y q) z ∙ wants_first kind.Merge y
control_alone _ x y p none w = refl

-- the next firing of the label takes what the cell now wants
pub wanted_is_taken : (cells : List Cell) (inputs : List (List Value)) (labels : Labels) (choices : List ℕ) → WellFormed cells → AreValid (declarations cells) inputs → LabelsMeet cells inputs labels → (c : ℕ)
    → firings (after cells inputs choices) c < length (labels c) → (p : ℕ) (u : CellId) → producer_of cells (port_of c p) ≡ Some u
    → wants (cell_at cells c).kind (with_constants (cell_at cells c) (row (after cells inputs choices) c)) p ≡ true
    → is_some (get_or (get_or (labels c) (firings (after cells inputs choices) c) no_firing).taken p None) ≡ true
wanted_is_taken cells inputs labels choices w fits meet c left p u fed wanted =
    let s = after cells inputs choices in
    let n = firings s c in
    let cell = cell_at cells c in
    let f = get_or (labels c) n no_firing in
    let y = f.taken in
    let ys = map (λ (g : Firing). g.taken) (drop (n + 1) (labels c)) in
    let h = histories cells inputs choices in
    let l = operands_of labels in
    let a = agrees_after cells inputs labels choices w fits meet in
    let meets = (histories_meet cells inputs labels w fits meet).consistent in
    let split = λ (e : ℕ). map-append (λ (g : Firing). g.taken) (take (firings s e) (labels e)) (drop (firings s e) (labels e)) in
    let front : (e : ℕ) → l e ≡ h e ++ map (λ (g : Firing). g.taken) (drop (firings s e) (labels e)) = λ e.
    ap (map (λ (g : Firing). g.taken)) (sym (take-append-drop (firings s e) (labels e))) ∙ split e
    ∙ ap (λ t. t ++ map (λ (g : Firing). g.taken) (drop (firings s e) (labels e))) (sym (a.firings choices refl e)) in
    let whole : l c ≡ h c ++ y ∷ ys = front c ∙ ap (λ t. h c ++ map (λ (g : Firing). g.taken) t) (drop_more (labels c) n no_firing left) in
    let right = all_at (IsRight cell) (h c) y ys (subst (AllByRecursion (IsRight cell)) whole (meets.right c)) in
    let f0 = slice_get cell.ports 0 in
    let o = get_or (row s c) 0 None in
    let first : (w : CellId) (v : Value) → cell_from f0 ≡ Some w → o ≡ Some v → get_or y 0 None ≡ Some v = λ e v fed0 at.
    let mine : takes cell (row s c) 0 ≡ true = ap (λ (g : Option CellId). is_some g && wants cell.kind (with_constants cell (row s c)) 0) fed0 ∙ wants_first cell.kind (with_constants cell (row s c)) in
    let theirs : is_some (get_or y 0 None) ≡ true = right.takes 0 ∙ ap (λ (g : Option CellId). is_some g && wants cell.kind (with_constants cell y) 0) fed0 ∙ wants_first cell.kind (with_constants cell y) in
    let there = some_value (get_or y 0 None) theirs in
    let here : get_or (taken cell (row s c)) 0 None ≡ Some v = ap (λ t. cond t o None) mine ∙ at in
    let same = same_operand cells inputs s h l (traced_after cells inputs choices (can_run cells w)) meets
    (λ e. inl (map (λ (g : Firing). g.taken) (drop (firings s e) (labels e)), front e)) c y ys whole right 0 v there.0 here there.1 in
    there.1 ∙ ap (λ (z : Value). Some z) (sym same) in
    let too : wants cell.kind (with_constants cell y) p ≡ true = elim (same_control f0 o (get_or y 0 None) first) [
      | inl none ↦ control_alone (family cell.kind) (with_constants cell (row s c)) (with_constants cell y) p none wanted
      | inr same ↦ sym (wants_control cell.kind (with_constants cell (row s c)) (with_constants cell y) p same) ∙ wanted
    ] in
    right.takes p ∙ ap (λ (g : Option CellId). is_some g && wants cell.kind (with_constants cell y) p) fed ∙ too
