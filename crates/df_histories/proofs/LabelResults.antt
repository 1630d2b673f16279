-- Each result is a prefix of what its OUT takes in its label.
use Rattle.std.proofs.Common.{◌≡◌, ℕ, ◌-◌, true, List, [], ◌∷◌, ◌++◌, get_or, map, Option, Some, None, refl, sym, ◌∙◌, ap, inl, inr, arith, append_assoc}
use Rattle.std.specs.Prelude.{is_some, slice_get, ◌&&◌}
use Rattle.std.specs.Option.{unwrap_or}
use Rattle.std.specs.List.{AllByRecursion, flat_map}
use Rattle.std.proofs.lemmas.List.{map-append}
use Rattle.std.proofs.lemmas.Option.{none-some}
use Rattle.df_values.specs.declared.values.Value.{Value}
use Rattle.df_values.specs.declared.values.Value.TheVariants.{Error}
use Rattle.df_values.specs.declared.values.ErrorValue.TheVariants as error
use Rattle.df_cells.specs.declared.cells.CellId.{CellId}
use Rattle.df_cells.specs.declared.cells.Feed.{Feed}
use Rattle.df_cells.specs.declared.cells.Feed.TheVariants.{Arc, Constant, Loaded}
use Rattle.df_cells.specs.declared.cells.Cell.{Cell}
use Rattle.df_cells.specs.declared.kinds.Kind.TheVariants as kind
use Rattle.df_cells.specs.Kinds.{port_count, source_length}
use Rattle.df_cells.specs.Firings.{Operands, operand, wants, at_hand, with_constants}
use Rattle.df_cells.specs.Cells.{cell_from, cell_at, port_of, producer_of}
use Rattle.df_machine.specs.CanRun.{CanRun}
use Rattle.df_machine.specs.Runs.{after}
use Rattle.df_labels.specs.Histories.{Histories, listed, took, IsPrefix, IsRight, Meets, written_by}
use Rattle.df_histories.specs.Traces.{histories, writing}
use Rattle.df_machine.proofs.Formed.{within_from_kind}
use Rattle.df_machine.proofs.Arrives.{fed_within}
use Rattle.df_histories.proofs.Delivers.{delivered_after}
use Rattle.df_histories.proofs.Labels.{front_after}

-- an arc feeds the port of an OUT
pub out_fed : (cells : List Cell) → CanRun cells → (c k m : ℕ) → (cell_at cells c).kind ≡ kind.Out k m → is_some (producer_of cells (port_of c 0)) ≡ true
out_fed cells w c k m is =
    let within = within_from_kind cells c k m is in
    elim (w.control c within) [
      | inl source ↦ absurd (none-some source.most (ap source_length (sym is) ∙ source.bound))
      | inr driven ↦
          let few = (w.shaped c within).ports in
          let one : port_count (cell_at cells c).kind ≡ 1 = ap port_count is in
          let below = (fed_within cells (port_of c driven.port) driven.from driven.fed).1 in
          let first : driven.port ≡ 0 = omega arith in
          ap (λ p. is_some (producer_of cells (port_of c p))) (sym first) ∙ ap (λ (o : Option CellId). is_some o) driven.fed
    ]

-- an operand that came over an arc is what is at hand
hand_over : (f : Option Feed) (x : Option Value) → is_some (cell_from f) ≡ true → at_hand f x ≡ x
hand_over None x h = cc
hand_over (Some (Arc u)) x h = refl
hand_over (Some (Loaded u v)) x h = refl
hand_over (Some (Constant v)) x h = cc

listed_first : (o : Option Value) (rest : List Value) → is_some o ≡ true → unwrap_or o (Error error.Undef) ∷ rest ≡ listed o ++ rest
listed_first None rest h = cc
listed_first (Some v) rest h = refl

-- what an OUT writes is what it takes
pub writes_taken : (cells : List Cell) (c k m : ℕ) → (cell_at cells c).kind ≡ kind.Out k m → is_some (producer_of cells (port_of c 0)) ≡ true
    → (xs : List Operands) → AllByRecursion (IsRight (cell_at cells c)) xs → written_by cells c xs ≡ took 0 xs
writes_taken cells c k m is fed [] all = refl
writes_taken cells c k m is fed (x ∷ xs) all =
    let cell = cell_at cells c in
    let wanted : wants cell.kind (with_constants cell x) 0 ≡ true = ap (λ it. wants it (with_constants cell x) 0) is in
    let here : is_some (get_or x 0 None) ≡ true =
    all.0.takes 0 ∙ ap (λ b. b && wants cell.kind (with_constants cell x) 0) fed ∙ wanted in
    ap (λ o. unwrap_or o (Error error.Undef) ∷ written_by cells c xs) (hand_over (slice_get cell.ports 0) (get_or x 0 None) fed)
    ∙ ap (λ l. unwrap_or (get_or x 0 None) (Error error.Undef) ∷ l) (writes_taken cells c k m is fed xs all.1)
    ∙ listed_first (get_or x 0 None) (took 0 xs) here

pub results_follow : (cells : List Cell) (inputs : List (List Value)) (l : Histories) (ks : List ℕ) → CanRun cells → Meets cells inputs l
    → (c k m : ℕ) → (cell_at cells c).kind ≡ kind.Out k m → IsPrefix (get_or (after cells inputs ks).results (k - 1) []) (took 0 (l c))
results_follow cells inputs l ks w meets c k m is =
    let g = λ (y : Operands). operand (with_constants (cell_at cells c) y) 0 in
    let s = after cells inputs ks in
    let h = histories cells inputs ks c in
    let result = get_or s.results (k - 1) [] in
    let more = front_after cells inputs l ks w meets c in
    let under_way = flat_map (writing cells c) s.packets in
    let all = writes_taken cells c k m is (out_fed cells w c k m is) (l c) (meets.consistent.right c) in (
      under_way ++ map g more.0,
      sym all ∙ ap (map g) more.1 ∙ map-append g h more.0
          ∙ ap (λ t. t ++ map g more.0) (delivered_after cells inputs ks w c k m is)
          ∙ append_assoc result under_way (map g more.0),
    )
