-- Well-formed cells stay so with BUF cells on their arcs.
use Rattle.std.proofs.Common.{◌≡◌, ℕ, ◌+◌, ◌<◌, ◌≤◌, nat_lt, ◌==◌, ◌&&◌, true, cond, List, [], ◌∷◌, length, get_or, All, Contains, false, None, Some, inl, inr, refl, sym, ap, subst, ◌∙◌, arith}
use Rattle.std.proofs.lemmas.Bool.{cases_lt, or_cases, and_parts, ltb-true}
use Rattle.std.proofs.lemmas.List.Elements.{All-head, All-tail}
use Rattle.std.proofs.lemmas.List.{get_or_past}
use Rattle.df_cells.specs.declared.cells.Cell.{Cell}
use Rattle.df_cells.specs.declared.cells.Dest.{Dest}
use Rattle.df_cells.specs.Families.{family}
use Rattle.df_cells.specs.Kinds.{source_length, limit, is_output}
use Rattle.df_cells.specs.Cells.{no_cell, cell_at, port_of, producer_of, is_buf, AreCells}
use Rattle.df_cells.specs.Paths.{mark_of, HasMarks}
use Rattle.df_cells.specs.Shifts.{origin}
use Rattle.df_cells.specs.WellFormed.{NamesWithin, is_before, AreRising, ListsItsArcs, GivesValues, is_controlled, WaitsForOperands, outer_length, number_or_none, CountsResults, IsOnArc, LoadsLoops, WellFormed}
use Rattle.df_buffers_laws.specs.Buffered.{IsBuffered}
use Rattle.df_buffers_laws.proofs.Origins.{plain, own, loads_stay, buf_unloaded, buf_feed, was_fed, is_fed, lands_there, buf_origin}
use Rattle.df_buffers_laws.proofs.Paths.{StandBetweenNodes, only_feed}
use Rattle.df_buffers_laws.proofs.Tables.{fed_inside}
use Rattle.df_buffers_laws.proofs.Arcs.{one_loop}
use Rattle.df_buffers_laws.proofs.KindSums.{same_sum}

-- a port is not before itself
not_before : (d : Dest) → is_before d d ≡ true → ⊥
not_before d h = elim (or_cases (nat_lt d.cell.0 d.cell.0) ((d.cell.0 == d.cell.0) && nat_lt d.port.0 d.port.0) h) [
  | inl cell ↦ let less = ltb-true d.cell.0 d.cell.0 cell in absurd (omega arith)
  | inr both ↦
      let less = ltb-true d.port.0 d.port.0 (and_parts (d.cell.0 == d.cell.0) (nat_lt d.port.0 d.port.0) both).1 in
      absurd (omega arith)
]

-- a rising list of one port has one element
one_port : (d : Dest) (dests : List Dest) → AreRising dests → All (λ e. e ≡ d) dests → Contains dests d
    → length dests ≡ 1
one_port d [] rising all has = let h = has.1 in absurd (omega arith)
one_port d (e ∷ []) rising all has = refl
one_port d (e ∷ f ∷ dests) rising all has =
    let first = All-head (λ (x : Dest). x ≡ d) e (f ∷ dests) all in
    let second = All-head (λ (x : Dest). x ≡ d) f dests (All-tail (λ (x : Dest). x ≡ d) e (f ∷ dests) all) in
    absurd (not_before d (ap (λ (x : Dest). is_before x d) (sym first) ∙ ap (is_before e) (sym second) ∙ rising.0))

module _ (old new : List Cell) (count : Dest → ℕ) (is : IsBuffered old new count) (well_formed : WellFormed old)
    (shaped : AreCells new)
    (names : (c : ℕ) → c < length new → NamesWithin new c) (lists : (c : ℕ) → c < length new → ListsItsArcs new c)
    (right : HasMarks new)
    (marks : (c : ℕ) → mark_of new c ≡ mark_of old c) (between : StandBetweenNodes old new) where
  gives : (c : ℕ) → c < length new → GivesValues new c
  gives c h = elim (cases_lt c (length old)) [
    | inl here ↦
        let rule = well_formed.source c here in
        let same = sym (is.kinds c here) in
        record {
          short = λ n e. rule.short n (ap limit same ∙ e);
          ordinary = λ lo n j e. rule.ordinary lo n j (same ∙ e);
          own_name = λ b m n name other basic of less first second.
              rule.own_name b m n name other basic of less (sym (is.kinds b (omega arith)) ∙ first) (same ∙ second);
        }
    | inr behind ↦
        let kind' = is.others c behind h in
        record {
          short = λ n e. let none = ap limit kind' in absurd (cc);
          ordinary = λ lo n j e l. absurd (cc);
          own_name = λ b m n name other basic of less first second. absurd (cc);
        }
  ]

  waits : (c : ℕ) → c < length new → WaitsForOperands new c
  waits c h = elim (cases_lt c (length old)) [
    | inl here ↦
        let rule = well_formed.control c here in
        let same = sym (is.kinds c here) in
        record {
          some = λ none.
              let fed = rule.some (ap source_length same ∙ none) in
              let now = is_fed old new count is (port_of c fed.0) fed.1 here fed.2 in (fed.0, now.0, now.1);
          control = λ held.
              let fed = rule.control (ap (λ k. is_controlled (family k)) same ∙ held) in
              let now = is_fed old new count is (port_of c 0) fed.0 here fed.1 in (now.0, now.1);
        }
    | inr behind ↦
        let feed = buf_feed old new count is c behind h in
        record {
          some = λ none. (0, feed.0, feed.1);
          control = λ held. (feed.0, feed.1);
        }
  ]

  -- what feeds nothing feeds no BUF cell
  feeds_nothing : (c : ℕ) → c < length old → (cell_at old c).dests ≡ [] → (d : Dest)
      → producer_of old d ≡ Some (record { 0 = c }) → ⊥
  feeds_nothing c here none d fed =
      let at : Contains [] d = subst (λ (l : List Dest). Contains l d) none ((well_formed.dest c here).listed d fed) in
      let within = at.1 in absurd (omega arith)

  still_nothing : (c : ℕ) → c < length old → (cell_at old c).dests ≡ [] → (d : Dest)
      → producer_of new d ≡ Some (record { 0 = c }) → ⊥
  still_nothing c here none d fed = elim (cases_lt d.cell.0 (length old)) [
    | inl inner ↦
        feeds_nothing c here none d
        (was_fed old new count is d (record { 0 = c }) inner fed
        ∙ ap (λ k. Some (record { 0 = k })) (own old new count is c here))
    | inr behind ↦
        let h = fed_inside new d (record { 0 = c }) fed in
        let feed = buf_feed old new count is d.cell.0 behind h in
        let stands = is.stands d.cell.0 behind h in
        let from : origin new d.cell.0 ≡ c =
        buf_origin old new count is d.cell.0 feed.0 behind h feed.1 feed.2
        ∙ ap (origin new) (sym (only_feed old new count is d.cell.0 d.port.0 (record { 0 = c }) behind h fed))
        ∙ own old new count is c here in
        feeds_nothing c here none stands.0 (stands.1 ∙ ap (λ k. Some (record { 0 = k })) from)
  ]

  no_dests : (c : ℕ) → c < length old → (cell_at old c).dests ≡ [] → (cell_at new c).dests ≡ []
  no_dests c here none = by (cell_at new c).dests refl
    where
      by : (dests : List Dest) → (cell_at new c).dests ≡ dests → dests ≡ []
      by [] e = refl
      by (d ∷ dests) e =
          let few = is.few in
          let fed = (lists c (omega arith)).fed in
          absurd (still_nothing c here none d
          (All-head (λ x. producer_of new x ≡ Some (record { 0 = c })) d dests
          (subst (All (λ x. producer_of new x ≡ Some (record { 0 = c }))) e fed)))

  counts : (c : ℕ) → c < length new → CountsResults new c
  counts c h = elim (cases_lt c (length old)) [
    | inl here ↦
        let rule = well_formed.out c here in
        let same = sym (is.kinds c here) in
        let few = is.few in
        record {
          numbered =
              λ k n e. rule.numbered k n (same ∙ e)
              ∙ ap (λ m. m + 1) (sym (same_sum (λ k. cond (is_output k) 1 0) new old c (omega arith) (omega arith)
              (λ i l. is.kinds i (omega arith))));
          last = λ k n e. no_dests c here (rule.last k n (same ∙ e));
          few = λ n e.
              subst (λ m. m ≤ 16777216)
              (sym (same_sum (λ k. number_or_none (outer_length k)) new old (c + 1) (omega arith) (omega arith)
              (λ i l. is.kinds i (omega arith))))
              (rule.few n (ap outer_length same ∙ e));
        }
    | inr behind ↦
        let kind' = is.others c behind h in
        record {
          numbered = λ k n e. absurd (cc);
          last = λ k n e. absurd (cc);
          few = λ n e. let none = ap outer_length kind' in absurd (cc);
        }
  ]

  on_arc : (b : ℕ) → b < length new → is_buf new b ≡ true → IsOnArc new b
  on_arc b h is_one = elim (cases_lt b (length old)) [
    | inl here ↦ let no = plain old new count is b here in absurd (cc)
    | inr behind ↦
        let feed = buf_feed old new count is b behind h in
        let ends = is.ends b behind h in
        let rule = lists b h in
        let dests = (cell_at new b).dests in
        let landed = lands_there old new count is b h in
        record {
          from = feed.0;
          fed = feed.1;
          one_dest =
              one_port ends.port dests rule.rising (λ k d l. ends.alone (get_or dests k d) (rule.fed k d l))
              (rule.listed ends.port ends.fed);
          unmarked = marks b ∙ ap (λ (cell : Cell). cell.mark) (get_or_past old b no_cell behind);
          begins = plain old new count is (origin new b) landed;
        }
  ]

  -- no BUF cell stands where a value is loaded
  loads : (c : ℕ) → c < length new → LoadsLoops new c
  loads c h = elim (cases_lt c (length old)) [
    | inl here ↦ record {
      on_loop = λ p u v fed loaded.
          let d = port_of c p in
          let rule = (well_formed.load c here).on_loop p (record { 0 = origin new u.0 }) v (was_fed old new count is d u here fed)
          (sym (loads_stay old new count is d here) ∙ loaded) in
          elim (cases_lt u.0 (length old)) [
            | inl inner ↦ (
              marks u.0 ∙ ap (mark_of old) (sym (own old new count is u.0 inner)) ∙ rule.0 ∙ sym (marks c),
              λ none. rule.1 (sym (marks c) ∙ none),
            )
            | inr behind ↦
                let e : true ≡ false =
                sym (one_loop old (origin new u.0) c rule.0 rule.1) ∙ between d u here fed behind in
                absurd (cc)
          ];
    }
    | inr behind ↦ record {
      on_loop =
          λ p u v fed loaded. let none : None ≡ Some v = sym (buf_unloaded old new count is c p behind h)
          ∙ loaded in absurd (cc);
    }
  ]

  pub keeps_rules : WellFormed new
  keeps_rules = record {
    shaped = shaped;
    port = names;
    dest = lists;
    source = gives;
    control = waits;
    out = counts;
    loop = right;
    buffer = on_arc;
    load = loads;
  }
