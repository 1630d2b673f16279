-- Cells that realize a meaning realize it with BUF cells on their arcs too.
use Rattle.std.proofs.Common.{◌≡◌, ◌≢◌, ◌⊎◌, ℕ, suc, ◌+◌, ◌-◌, ◌<◌, ◌≤◌, List, [], length, map, take, get_or, Some}
use Rattle.std.proofs.Common.{None, inl, inr, sym, ap, subst, ◌∙◌}
use Rattle.std.specs.List.{AllByRecursion}
use Rattle.std.proofs.lemmas.Bool.{cases_lt}
use Rattle.std.proofs.lemmas.List.{get_or_past}
use Rattle.df_values.specs.declared.values.Value.{Value}
use Rattle.df_values.specs.Inputs.{AreValid}
use Rattle.df_cells.specs.declared.cells.CellId.{CellId}
use Rattle.df_cells.specs.declared.cells.Cell.{Cell}
use Rattle.df_cells.specs.declared.cells.Dest.{Dest}
use Rattle.df_cells.specs.declared.cells.InputDecl.{InputDecl}
use Rattle.df_cells.specs.declared.kinds.Kind.TheVariants as kind
use Rattle.df_cells.specs.Cells.{no_cell, cell_at, cell_from, loaded_from, feed_of, loaded_at, producer_of, inputs_of}
use Rattle.df_cells.specs.Cells.{declaration_of, declarations, outputs}
use Rattle.df_cells.specs.Paths.{mark_of}
use Rattle.df_labels.specs.Histories.{listed}
use Rattle.df_labels.specs.Labels.{block_turn}
use Rattle.df_labels.specs.Members.{Firing, Labels, LabelsMeet, AreLate, Pairs, firing_at, answered, received, members}
use Rattle.df_labels.specs.MemberPlaces.{HasPlaces}
use Rattle.df_labels.specs.ForAll.{MemberOutcome, MeaningForAll, TellsFor, RealizesForAll}
use Rattle.df_buffers_laws.specs.Carried.{carried}
use Rattle.df_buffers_laws.proofs.Labelled.{old_label}

-- how a value passes between firings of these labels
abbrev Goes : (ℕ → ℕ) → List Firing → List Firing → ℕ → ℕ → ℕ → ℕ → Type 0
Goes place first second u v i j =
    ((block_turn ((firing_at second j).turn) ≡ block_turn ((firing_at first i).turn)) × (place u < place v))
    ⊎ ((block_turn ((firing_at second j).turn) ≡ block_turn ((firing_at first i).turn) + 1) × (place v < place u))

module _ (old new : List Cell) (marks : (c : ℕ) → mark_of new c ≡ mark_of old c) (few : length old ≤ length new)
    (inputs_stay : inputs_of new ≡ inputs_of old) (outputs_stay : outputs new ≡ outputs old)
    (loops_stay : (d : Dest) (u : CellId) → producer_of new d ≡ Some u → mark_of new u.0 ≢ 0 → mark_of new d.cell.0 ≢ 0
    → feed_of new d ≡ feed_of old d)
    (results_stay : (labels : Labels) (c k n : ℕ) → (cell_at new c).kind ≡ kind.Out k n
    → ((cell_at old c).kind ≡ kind.Out k n) × (carried old new labels c ≡ labels c))
    (labelled : (inputs : List (List Value)) (n : ℕ) (labels : Labels) → LabelsMeet old inputs n labels
    → AreLate old labels → LabelsMeet new inputs n (carried old new labels))
    (lates : (labels : Labels) → AreLate old labels → AreLate new (carried old new labels))
    (single : (labels : Labels) → ((c : ℕ) → AllByRecursion (λ (f : Firing). length f.turn ≡ 1) (labels c))
    → (c : ℕ) → AllByRecursion (λ (f : Firing). length f.turn ≡ 1) (carried old new labels c))
    (unloaded : ((d : Dest) → loaded_at old d ≡ None) → (d : Dest) → loaded_at new d ≡ None) where
  -- ---- loops

  marked_inside : (c : ℕ) → mark_of new c ≢ 0 → c < length old
  marked_inside c some = elim (cases_lt c (length old)) [
    | inl here ↦ here
    | inr behind ↦ absurd (some (marks c ∙ ap (λ (cell : Cell). cell.mark) (get_or_past old c no_cell behind)))
  ]

  module _ (labels : Labels) (places : HasPlaces old labels) where
    pub places_stay : HasPlaces new (carried old new labels)
    places_stay = record {
      place = places.place;
      single = single labels places.single;
      unloaded = unloaded places.unloaded;
      passing = λ d u i j fed some same pairs.
          let other : mark_of new d.cell.0 ≢ 0 = λ none. some (same ∙ none) in
          let feed = loops_stay d u fed some other in
          let from = old_label old new labels u.0 (marked_inside u.0 some) in
          let to = old_label old new labels d.cell.0 (marked_inside d.cell.0 other) in
          let count = λ (l : List Firing). length (received d.port.0 l) in
          let was : Pairs old labels d u.0 i j = record {
            gives =
                subst (λ (l : List Firing). length (answered (take (suc i) l)) ≡ suc (length (answered (take i l))))
                from pairs.gives;
            takes =
                subst (λ (l : List Firing). count (take (suc j) l) ≡ suc (count (take j l))) to pairs.takes;
            same = ap (λ o. length (listed (loaded_from o)) + length (answered (take i (labels u.0)))) (sym feed)
                ∙ ap (λ (l : List Firing). length (listed (loaded_at new d)) + length (answered (take i l))) (sym from)
                ∙ pairs.same ∙ ap (λ (l : List Firing). count (take j l)) to;
          } in
          let goes = places.passing d u i j (ap cell_from (sym feed) ∙ fed) (λ none. some (marks u.0 ∙ none))
          (sym (marks u.0) ∙ same ∙ marks d.cell.0) was in
          subst (λ (l : List Firing). Goes places.place l (carried old new labels d.cell.0) u.0 d.cell.0 i j)
          (sym from)
          (subst (λ (l : List Firing). Goes places.place (labels u.0) l u.0 d.cell.0 i j) (sym to) goes);
    }

  -- ---- meanings

  same_declarations : declarations new ≡ declarations old
  same_declarations = ap (λ (l : List InputDecl). map declaration_of l) inputs_stay

  still_tell : (inputs : List (List Value)) (n : ℕ) (outcome : MemberOutcome) → TellsFor old inputs n outcome
      → TellsFor new inputs n outcome
  still_tell inputs n outcome tells = record {
    labels = carried old new tells.labels;
    meet = labelled inputs n tells.labels tells.meet tells.late;
    whole = λ c k m out.
        let was = results_stay tells.labels c k m out in
        subst (λ (l : List Firing). members (received 0 l) ≡ get_or outcome (k - 1) []) (sym was.1)
        (tells.whole c k m was.0);
    placed = places_stay tells.labels tells.placed;
    late = lates tells.labels tells.late;
  }

  pub still_realize : (meaning : MeaningForAll) → RealizesForAll old meaning → RealizesForAll new meaning
  still_realize meaning realizes = record {
    outputs =
        λ inputs n valid. outputs_stay
        ∙ realizes.outputs inputs n (subst (λ ds. AreValid ds inputs) same_declarations valid);
    tells = λ inputs n valid.
        still_tell inputs n (meaning inputs n)
        (realizes.tells inputs n (subst (λ ds. AreValid ds inputs) same_declarations valid));
  }
