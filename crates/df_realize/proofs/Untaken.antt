-- A MERGE whose control is never false takes nothing at its false side.
use Rattle.std.proofs.Common.{◌≡◌, ℕ, zero, suc, Bool, true, false, ◌&&◌, List, [], ◌∷◌, ◌++◌, get_or, length, take, Option, Some, None, refl, sym, ◌∙◌, ap, subst}
use Rattle.std.specs.Prelude.{slice_get, is_some}
use Rattle.std.specs.List.{AllByRecursion}
use Rattle.df_values.specs.declared.values.Value.{Value}
use Rattle.df_values.specs.declared.values.Value.TheVariants.{Int, Truth, Error}
use Rattle.df_cells.specs.declared.cells.Cell.{Cell}
use Rattle.df_cells.specs.declared.cells.CellId.{CellId}
use Rattle.df_cells.specs.declared.cells.Feed.{Feed}
use Rattle.df_cells.specs.declared.cells.Feed.TheVariants.{Arc, Constant, Loaded}
use Rattle.df_cells.specs.declared.kinds.Kind.TheVariants as kind
use Rattle.df_cells.specs.Cells.{cell_from}
use Rattle.df_cells.specs.Firings.{at_hand, merge_wants, wants, with_constants}
use Rattle.df_cells.specs.Shifts.{is_truth}
use Rattle.df_labels.specs.Histories.{listed}
use Rattle.df_labels.specs.Labels.{Turn, Firing, Stream, at_turn, received, stream_values, IsRightFiring}

abbrev pub IsNotFalse : Value → Type 0
IsNotFalse v = is_truth false v ≡ false

-- ---- one firing

apart : {A : Type 0} → true ≡ false → A
apart e = absurd (never e)
  where
    never : true ≡ false → ⊥
    never e = cc

at_arc : (feed : Option Feed) (x : Option Value) (u : CellId) → cell_from feed ≡ Some u → at_hand feed x ≡ x
at_arc None x u fed = cc
at_arc (Some (Constant v)) x u fed = cc
at_arc (Some (Arc w)) x u fed = refl
at_arc (Some (Loaded w l)) x u fed = refl

control_wanted : (o : Option Value) → merge_wants o 0 ≡ true
control_wanted None = refl
control_wanted (Some (Truth true)) = refl
control_wanted (Some (Truth false)) = refl
control_wanted (Some (Int n)) = refl
control_wanted (Some (Error e)) = refl

false_side_unwanted : (v : Value) → IsNotFalse v → merge_wants (Some v) 2 ≡ false
false_side_unwanted (Truth true) other = refl
false_side_unwanted (Truth false) other = apart other
false_side_unwanted (Int n) other = refl
false_side_unwanted (Error e) other = refl

value_of : (o : Option Value) → is_some o ≡ true → (v : Value) × (o ≡ Some v)
value_of None some = apart (sym some)
value_of (Some v) some = (v, refl)

none_of : (o : Option Value) → is_some o ≡ false → o ≡ None
none_of None none = refl
none_of (Some v) none = apart none

and_false : (b : Bool) → (b && false) ≡ false
and_false true = refl
and_false false = refl

received_more : (p : ℕ) (f : Firing) (label : List Firing)
    → stream_values (received p (f ∷ label)) ≡ listed (get_or f.taken p None) ++ stream_values (received p label)
received_more p f label = go f.turn (get_or f.taken p None) (received p label)
  where
    go : (t : Turn) (o : Option Value) (stream : Stream)
        → stream_values (at_turn t o ++ stream) ≡ listed o ++ stream_values stream
    go t None stream = refl
    go t (Some v) stream = refl

-- ---- all firings

-- the firings take nothing at the port
abbrev pub TakeNothing : ℕ → List Firing → Type 0
TakeNothing p label = AllByRecursion (λ f. get_or f.taken p None ≡ None) label

module _ (cell : Cell) (u : CellId) (merges : cell.kind ≡ kind.Merge)
    (fed : cell_from (slice_get cell.ports 0) ≡ Some u) where
  takes_control : (f : Firing) → IsRightFiring cell f → (v : Value) × (get_or f.taken 0 None ≡ Some v)
  takes_control f right =
      let x = with_constants cell f.taken in
      let arc : is_some (cell_from (slice_get cell.ports 0)) ≡ true = ap (λ (o : Option CellId). is_some o) fed in
      let wanted : wants cell.kind x 0 ≡ true = ap (λ it. wants it x 0) merges ∙ control_wanted (get_or x 0 None) in
      value_of (get_or f.taken 0 None) (right.takes.takes 0 ∙ (ap (λ b. b && wants cell.kind x 0) arc ∙ wanted))

  passes_by : (f : Firing) (v : Value) → IsRightFiring cell f → get_or f.taken 0 None ≡ Some v → IsNotFalse v
      → get_or f.taken 2 None ≡ None
  passes_by f v right control other =
      let x = with_constants cell f.taken in
      let here : get_or x 0 None ≡ Some v = at_arc (slice_get cell.ports 0) (get_or f.taken 0 None) u fed ∙ control in
      let there = is_some (cell_from (slice_get cell.ports 2)) in
      let unwanted : wants cell.kind x 2 ≡ false =
      ap (λ it. wants it x 2) merges ∙ (ap (λ o. merge_wants o 2) here ∙ false_side_unwanted v other) in
      none_of (get_or f.taken 2 None) (right.takes.takes 2 ∙ (ap (λ b. there && b) unwanted ∙ and_false there))

  pub never_false_side : (label : List Firing) → AllByRecursion (IsRightFiring cell) label
      → AllByRecursion IsNotFalse (stream_values (received 0 label)) → TakeNothing 2 label
  never_false_side [] right others = tt
  never_false_side (f ∷ label) right others =
      let taken = takes_control f right.0 in
      let first = ap (λ o. listed o ++ stream_values (received 0 label)) taken.1 in
      let all = subst (AllByRecursion IsNotFalse) (received_more 0 f label ∙ first) others in
      (passes_by f taken.0 right.0 taken.1 all.0, never_false_side label right.1 all.1)

-- so nothing is received there, in the first firings either
pub nothing_received : (p : ℕ) (label : List Firing) → TakeNothing p label → (k : ℕ) → length (received p (take k label)) ≡ 0
nothing_received p [] none zero = refl
nothing_received p [] none (suc k) = refl
nothing_received p (f ∷ label) none zero = refl
nothing_received p (f ∷ label) none (suc k) =
    ap (λ o. length (at_turn f.turn o ++ received p (take k label))) none.0 ∙ nothing_received p label none.1 k
