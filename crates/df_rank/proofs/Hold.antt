-- The cells that hold a value meet all demands.
use Rattle.std.proofs.Common.{◌≡◌, ◌≢◌, ◌⊎◌, ℕ, zero, suc, ◌+◌, ◌<◌, ◌≤◌, ◌-◌, true, false, List, [], ◌∷◌, ◌++◌, get_or, length, map, Contains, Option, Some, None, refl, sym, ◌∙◌, ap, subst, inl, inr, arith}
use Rattle.std.specs.Prelude.{is_some, ℤ, All}
use Rattle.std.specs.List.{AllByRecursion}
use Rattle.std.proofs.lemmas.Option.{same_Some, none-some}
use Rattle.df_values.specs.declared.values.Value.{Value}
use Rattle.df_values.specs.declared.values.Value.TheVariants.{Truth, Error}
use Rattle.df_values.specs.declared.values.ErrorValue.TheVariants as error
use Rattle.df_values.specs.declared.values.Basic.{Basic}
use Rattle.df_values.specs.declared.values.Basic.TheVariants.{Integer}
use Rattle.df_values.specs.Inputs.{AreValid}
use Rattle.df_cells.specs.declared.cells.CellId.{CellId}
use Rattle.df_cells.specs.declared.cells.Dest.{Dest}
use Rattle.df_cells.specs.declared.cells.Cell.{Cell}
use Rattle.df_cells.specs.declared.kinds.Kind.{Kind}
use Rattle.df_cells.specs.declared.kinds.Kind.TheVariants as kind
use Rattle.df_cells.specs.Kinds.{limit}
use Rattle.df_cells.specs.Firings.{three, with_constants, answer, takes}
use Rattle.df_cells.specs.Cells.{cell_at, port_of, producer_of, loaded_at, declarations, outputs_before, is_buf, IsCell}
use Rattle.df_cells.specs.Paths.{HasArc, IsPath, Reaches, mark_of, HasMarks}
use Rattle.df_cells.specs.Shifts.{origin, buffers_from, gate_part, merge_part}
use Rattle.df_cells.specs.WellFormed.{IsPort, NamesWithin, ListsItsArcs, GivesValues, WaitsForOperands, outer_length, outer_values, CountsResults, WellFormed}
use Rattle.df_labels.specs.Histories.{listed}
use Rattle.df_labels.specs.Labels.{Labels, Firing, AreRising, turns_of, answered, received, brought, stream_turns, stream_values, source_values, in_order_from, IsRightFiring, LabelsMeet, later}
use Rattle.df_stages.specs.Balance.{stage_of, node_stages, IsBalanced}
use Rattle.df_stages.specs.Nodes.{node_of}
use Rattle.df_stages.specs.Skeletons.{arcs}
use Rattle.df_stages.specs.Flows.{AreBalancedArcs}
use Rattle.df_rank.specs.Zones.{StaysInZone, KeepsZones}
use Rattle.df_labels.specs.Realizes.{IsAll, Tells, Realizes}
use Rattle.df_rank.specs.Hold.{hold, held}
use Rattle.df_rank.specs.Laws.{ZonesGivePlaces, HoldRealizes}

-- ---- arcs

no_arc : {A : Type 0} (u : CellId) → None ≡ Some u → A
no_arc u none = absurd (cc)

the_arc : (P : ℕ → Type 0) (u : CellId) (v : ℕ) → Some (record { 0 = v }) ≡ Some u → P v → P u.0
the_arc P u v is here = subst P (ap (λ (w : CellId). w.0) (same_Some _ u is)) here

-- what holds of the six arcs holds of each
each_arc : (P : ℕ → ℕ → ℕ → Type 0) → P 1 0 2 → P 1 1 0 → P 1 2 3 → P 3 0 4 → P 3 1 1 → P 5 0 1 → (c p : ℕ) (u : CellId) → producer_of hold (port_of c p) ≡ Some u → P c p u.0
each_arc P a b d e f g zero p u fed = no_arc u fed
each_arc P a b d e f g (suc zero) zero u fed = the_arc (P 1 0) u 2 fed a
each_arc P a b d e f g (suc zero) (suc zero) u fed = the_arc (P 1 1) u 0 fed b
each_arc P a b d e f g (suc zero) (suc (suc zero)) u fed = the_arc (P 1 2) u 3 fed d
each_arc P a b d e f g (suc zero) (suc (suc (suc p))) u fed = no_arc u fed
each_arc P a b d e f g (suc (suc zero)) p u fed = no_arc u fed
each_arc P a b d e f g (suc (suc (suc zero))) zero u fed = the_arc (P 3 0) u 4 fed e
each_arc P a b d e f g (suc (suc (suc zero))) (suc zero) u fed = the_arc (P 3 1) u 1 fed f
each_arc P a b d e f g (suc (suc (suc zero))) (suc (suc p)) u fed = no_arc u fed
each_arc P a b d e f g (suc (suc (suc (suc zero)))) p u fed = no_arc u fed
each_arc P a b d e f g (suc (suc (suc (suc (suc zero))))) zero u fed = the_arc (P 5 0) u 1 fed g
each_arc P a b d e f g (suc (suc (suc (suc (suc zero))))) (suc p) u fed = no_arc u fed
each_arc P a b d e f g (suc (suc (suc (suc (suc (suc c)))))) p u fed = no_arc u fed

-- ---- well-formed, rule by rule

none_of : {X : Type 0} (P : X → Type 0) → All P []
none_of P i d h = absurd (omega arith)

one_of : {X : Type 0} (P : X → Type 0) (x : X) → P x → All P (x ∷ [])
one_of P x p zero d h = p
one_of P x p (suc i) d h = absurd (omega arith)

two_of : {X : Type 0} (P : X → Type 0) (x y : X) → P x → P y → All P (x ∷ y ∷ [])
two_of P x y p q zero d h = p
two_of P x y p q (suc zero) d h = q
two_of P x y p q (suc (suc i)) d h = absurd (omega arith)

shaped : All IsCell hold
shaped zero d h = record { ports = refl; runs = tt }
shaped (suc zero) d h = record { ports = refl; runs = tt }
shaped (suc (suc zero)) d h = record { ports = refl; runs = (omega arith, (λ e. cc), (omega arith, tt, tt)) }
shaped (suc (suc (suc zero))) d h = record { ports = refl; runs = tt }
shaped (suc (suc (suc (suc zero)))) d h = record { ports = refl; runs = (omega arith, (λ e. cc), (omega arith, tt, tt)) }
shaped (suc (suc (suc (suc (suc zero))))) d h = record { ports = refl; runs = tt }
shaped (suc (suc (suc (suc (suc (suc c)))))) d h = absurd (omega arith)

dests_within : (c : ℕ) → All (IsPort hold) (cell_at hold c).dests
dests_within zero = one_of (IsPort hold) (port_of 1 1) (omega arith, omega arith)
dests_within (suc zero) = two_of (IsPort hold) (port_of 3 1) (port_of 5 0) (omega arith, omega arith) (omega arith, omega arith)
dests_within (suc (suc zero)) = one_of (IsPort hold) (port_of 1 0) (omega arith, omega arith)
dests_within (suc (suc (suc zero))) = one_of (IsPort hold) (port_of 1 2) (omega arith, omega arith)
dests_within (suc (suc (suc (suc zero)))) = one_of (IsPort hold) (port_of 3 0) (omega arith, omega arith)
dests_within (suc (suc (suc (suc (suc zero))))) = none_of (IsPort hold)
dests_within (suc (suc (suc (suc (suc (suc c)))))) = none_of (IsPort hold)

named : (c : ℕ) → NamesWithin hold c
named c = record {
  feeds = λ p u fed. each_arc (λ e q v. v < 6) (omega arith) (omega arith) (omega arith) (omega arith) (omega arith) (omega arith) c p u fed;
  dests = dests_within c;
}

listed_at : (u : ℕ) (d : Dest) → producer_of hold d ≡ Some (record { 0 = u }) → Contains (cell_at hold u).dests d
listed_at u d fed = each_arc (λ c p v. Contains (cell_at hold v).dests (port_of c p))
    (0, omega arith, refl) (0, omega arith, refl) (0, omega arith, refl) (0, omega arith, refl) (0, omega arith, refl) (1, omega arith, refl)
    d.cell.0 d.port.0 (record { 0 = u }) fed

abbrev FedBy : ℕ → Dest → Type 0
FedBy u d = producer_of hold d ≡ Some (record { 0 = u })

lists : (u : ℕ) → ListsItsArcs hold u
lists zero = record { rising = (tt, tt); fed = one_of (FedBy 0) (port_of 1 1) refl; listed = listed_at 0 }
lists (suc zero) = record { rising = (refl, (tt, tt)); fed = two_of (FedBy 1) (port_of 3 1) (port_of 5 0) refl refl; listed = listed_at 1 }
lists (suc (suc zero)) = record { rising = (tt, tt); fed = one_of (FedBy 2) (port_of 1 0) refl; listed = listed_at 2 }
lists (suc (suc (suc zero))) = record { rising = (tt, tt); fed = one_of (FedBy 3) (port_of 1 2) refl; listed = listed_at 3 }
lists (suc (suc (suc (suc zero)))) = record { rising = (tt, tt); fed = one_of (FedBy 4) (port_of 3 0) refl; listed = listed_at 4 }
lists (suc (suc (suc (suc (suc zero))))) = record { rising = tt; fed = none_of (FedBy 5); listed = listed_at 5 }
lists (suc (suc (suc (suc (suc (suc u)))))) = record { rising = tt; fed = none_of (FedBy (suc (suc (suc (suc (suc (suc u))))))); listed = listed_at (suc (suc (suc (suc (suc (suc u)))))) }

-- the kinds
each_kind : (P : ℕ → Kind → Type 0) → P 0 (cell_at hold 0).kind → P 1 kind.Merge → P 2 (cell_at hold 2).kind → P 3 kind.Tgate → P 4 (cell_at hold 4).kind → P 5 (kind.Out 1 2)
    → ((c : ℕ) → P (suc (suc (suc (suc (suc (suc c)))))) kind.Buf) → (c : ℕ) → P c (cell_at hold c).kind
each_kind P a b d e f g z zero = a
each_kind P a b d e f g z (suc zero) = b
each_kind P a b d e f g z (suc (suc zero)) = d
each_kind P a b d e f g z (suc (suc (suc zero))) = e
each_kind P a b d e f g z (suc (suc (suc (suc zero)))) = f
each_kind P a b d e f g z (suc (suc (suc (suc (suc zero))))) = g
each_kind P a b d e f g z (suc (suc (suc (suc (suc (suc c)))))) = z c

short : (c n : ℕ) → limit (cell_at hold c).kind ≡ Some n → n ≤ 65536
short c = each_kind (λ c it. (n : ℕ) → limit it ≡ Some n → n ≤ 65536)
    (λ n e. let s = same_Some 1 n e in omega arith) (λ n e. cc) (λ n e. let s = same_Some 2 n e in omega arith) (λ n e. cc) (λ n e. let s = same_Some 2 n e in omega arith)
    (λ n e. let s = same_Some 2 n e in omega arith) (λ c n e. cc) c

no_index : (c : ℕ) (lo : ℤ) (n : ℕ) → (cell_at hold c).kind ≡ kind.Idx lo n → ⊥
no_index c = each_kind (λ c it. (lo : ℤ) (n : ℕ) → it ≡ kind.Idx lo n → ⊥)
    (λ lo n e. cc) (λ lo n e. cc) (λ lo n e. cc) (λ lo n e. cc) (λ lo n e. cc) (λ lo n e. cc) (λ c lo n e. cc) c

first_input : (c m : ℕ) (own : List ℕ) (basic : Basic) → (cell_at hold c).kind ≡ kind.In own basic m → c ≡ 0
first_input c = each_kind (λ c it. (m : ℕ) (own : List ℕ) (basic : Basic) → it ≡ kind.In own basic m → c ≡ 0)
    (λ m o b e. refl) (λ m o b e. cc) (λ m o b e. cc) (λ m o b e. cc) (λ m o b e. cc) (λ m o b e. cc) (λ c m o b e. cc) c

gives_values : (c : ℕ) → GivesValues hold c
gives_values c = record {
  short = short c;
  ordinary = λ lo m j is below. absurd (no_index c lo m is);
  own_name = λ b m l own other basic of before is_other is. let first = first_input c l own basic is in absurd (omega arith);
}

waits_at : (c : ℕ) → c < 6 → WaitsForOperands hold c
waits_at zero h = record { some = λ none. cc; control = λ yes'. cc }
waits_at (suc zero) h = record { some = λ none. (0, record { 0 = 2 }, refl); control = λ yes'. (record { 0 = 2 }, refl) }
waits_at (suc (suc zero)) h = record { some = λ none. cc; control = λ yes'. cc }
waits_at (suc (suc (suc zero))) h = record { some = λ none. (0, record { 0 = 4 }, refl); control = λ yes'. (record { 0 = 4 }, refl) }
waits_at (suc (suc (suc (suc zero)))) h = record { some = λ none. cc; control = λ yes'. cc }
waits_at (suc (suc (suc (suc (suc zero))))) h = record { some = λ none. (0, record { 0 = 1 }, refl); control = λ yes'. cc }
waits_at (suc (suc (suc (suc (suc (suc c)))))) h = absurd (omega arith)

abbrev result_of : Kind → ℕ
result_of (kind.Out k m) = k
result_of _ = 0

only_out : (c k m : ℕ) → (cell_at hold c).kind ≡ kind.Out k m → (c ≡ 5) × (k ≡ 1) × (m ≡ 2)
only_out c = each_kind (λ c it. (k m : ℕ) → it ≡ kind.Out k m → (c ≡ 5) × (k ≡ 1) × (m ≡ 2))
    (λ k m e. cc) (λ k m e. cc) (λ k m e. cc) (λ k m e. cc) (λ k m e. cc) (λ k m e. (refl, cc, cc)) (λ c k m e. cc) c

few_values : (c m : ℕ) → outer_length (cell_at hold c).kind ≡ Some m → outer_values hold (c + 1) ≤ 16777216
few_values c = each_kind (λ c it. (m : ℕ) → outer_length it ≡ Some m → outer_values hold (c + 1) ≤ 16777216)
    (λ m e. omega arith) (λ m e. cc) (λ m e. cc) (λ m e. cc) (λ m e. cc) (λ m e. omega arith) (λ c m e. cc) c

counts_results : (c : ℕ) → CountsResults hold c
counts_results c = record {
  numbered = λ k m is. let o = only_out c k m is in let at = ap (outputs_before hold) o.0 in let one = o.1 in let z : outputs_before hold 5 ≡ 0 = refl in omega arith;
  last = λ k m is. let o = only_out c k m is in ap (λ e. (cell_at hold e).dests) o.0;
  few = few_values c;
}

-- a path rises, or stays in the loop
abbrev Climbs : ℕ → ℕ → Type 0
Climbs u v = (stage_of hold u < stage_of hold v) ⊎ ((stage_of hold u ≡ stage_of hold v) × (mark_of hold u ≡ mark_of hold v) × (0 < mark_of hold u))

arc_climbs : (u v : ℕ) → HasArc hold u v → Climbs u v
arc_climbs u v (p, w, fed, is) = subst (λ i. Climbs i v) is
    (each_arc (λ c q b. Climbs b c) (inl (omega arith)) (inl (omega arith)) (inr (refl, refl, omega arith)) (inl (omega arith)) (inr (refl, refl, omega arith)) (inl (omega arith)) v p w fed)

climbs_on : (a b c : ℕ) → Climbs a b → Climbs b c → Climbs a c
climbs_on a b c (inl x) (inl y) = inl (omega arith)
climbs_on a b c (inl x) (inr y) = let e = y.0 in inl (omega arith)
climbs_on a b c (inr x) (inl y) = let e = x.0 in inl (omega arith)
climbs_on a b c (inr x) (inr y) = inr (x.0 ∙ y.0, x.1 ∙ y.1, x.2)

path_climbs : (u : ℕ) (between : List ℕ) (v : ℕ) → IsPath hold u between v → Climbs u v
path_climbs u [] v arc = arc_climbs u v arc
path_climbs u (w ∷ between) v (arc, rest) = climbs_on u w v (arc_climbs u w arc) (path_climbs w between v rest)

loop_cases : (c : ℕ) → (mark_of hold c ≡ 0) ⊎ ((mark_of hold c ≡ 1) × ((c ≡ 1) ⊎ (c ≡ 3)))
loop_cases zero = inl refl
loop_cases (suc zero) = inr (refl, inl refl)
loop_cases (suc (suc zero)) = inl refl
loop_cases (suc (suc (suc zero))) = inr (refl, inr refl)
loop_cases (suc (suc (suc (suc zero)))) = inl refl
loop_cases (suc (suc (suc (suc (suc zero))))) = inl refl
loop_cases (suc (suc (suc (suc (suc (suc c)))))) = inl refl

in_round : (c : ℕ) → mark_of hold c ≢ 0 → (c ≡ 1) ⊎ (c ≡ 3)
in_round c marked = elim (loop_cases c) [
  | inl none ↦ absurd (marked none)
  | inr some ↦ some.1
]

forth : HasArc hold 1 3
forth = (1, record { 0 = 1 }, refl, refl)

back_again : HasArc hold 3 1
back_again = (2, record { 0 = 3 }, refl, refl)

round : (c d : ℕ) → (c ≡ 1) ⊎ (c ≡ 3) → (d ≡ 1) ⊎ (d ≡ 3) → Reaches hold c d
round c d (inl x) (inl y) = subst (λ i. Reaches hold i d) (sym x) (subst (Reaches hold 1) (sym y) (3 ∷ [], (forth, back_again)))
round c d (inl x) (inr y) = subst (λ i. Reaches hold i d) (sym x) (subst (Reaches hold 1) (sym y) ([], forth))
round c d (inr x) (inl y) = subst (λ i. Reaches hold i d) (sym x) (subst (Reaches hold 3) (sym y) ([], back_again))
round c d (inr x) (inr y) = subst (λ i. Reaches hold i d) (sym x) (subst (Reaches hold 3) (sym y) (1 ∷ [], (back_again, forth)))

marks : HasMarks hold
marks = record {
  cyclic = λ c h. let r = in_round c h in round c c r r;
  marked = λ c r z. elim (path_climbs c r.0 c r.1) [
    | inl up ↦ absurd (omega arith)
    | inr same ↦ let l = same.2 in absurd (omega arith)
  ];
  together = λ c d h e. round c d (in_round c h) (in_round d (λ z. h (e ∙ z)));
  one_mark = λ c d p q. elim (path_climbs c p.0 d p.1) [
    | inl up ↦ elim (path_climbs d q.0 c q.1) [
      | inl down ↦ absurd (omega arith)
      | inr same ↦ sym same.1
    ]
    | inr same ↦ same.1
  ];
  in_order = λ c m l h. elim (loop_cases c) [
    | inl none ↦ absurd (omega arith)
    | inr some ↦ let z = some.0 in absurd (omega arith)
  ];
}

no_buffer : (c : ℕ) → c < 6 → is_buf hold c ≡ true → ⊥
no_buffer zero h is = cc
no_buffer (suc zero) h is = cc
no_buffer (suc (suc zero)) h is = cc
no_buffer (suc (suc (suc zero))) h is = cc
no_buffer (suc (suc (suc (suc zero)))) h is = cc
no_buffer (suc (suc (suc (suc (suc zero))))) h is = cc
no_buffer (suc (suc (suc (suc (suc (suc c)))))) h is = absurd (omega arith)

unloaded : (c p : ℕ) → loaded_at hold (port_of c p) ≡ None
unloaded zero p = refl
unloaded (suc zero) zero = refl
unloaded (suc zero) (suc zero) = refl
unloaded (suc zero) (suc (suc zero)) = refl
unloaded (suc zero) (suc (suc (suc p))) = refl
unloaded (suc (suc zero)) p = refl
unloaded (suc (suc (suc zero))) zero = refl
unloaded (suc (suc (suc zero))) (suc zero) = refl
unloaded (suc (suc (suc zero))) (suc (suc p)) = refl
unloaded (suc (suc (suc (suc zero)))) p = refl
unloaded (suc (suc (suc (suc (suc zero))))) zero = refl
unloaded (suc (suc (suc (suc (suc zero))))) (suc p) = refl
unloaded (suc (suc (suc (suc (suc (suc c)))))) p = refl

formed : WellFormed hold
formed = record {
  shaped = record { few = omega arith; each = shaped };
  port = λ c h. named c;
  dest = λ c h. lists c;
  source = λ c h. gives_values c;
  control = waits_at;
  out = λ c h. counts_results c;
  loop = marks;
  buffer = λ c h is. absurd (no_buffer c h is);
  load = λ c h. record { on_loop = λ p u v fed lies. absurd (none-some v (sym (unloaded c p) ∙ lies)) };
}

-- ---- balanced

arcs_balanced : AreBalancedArcs (node_stages hold) (arcs hold)
unfolding origin buffers_from gate_part merge_part
arcs_balanced zero d h = refl
arcs_balanced (suc zero) d h = refl
arcs_balanced (suc (suc zero)) d h = refl
arcs_balanced (suc (suc (suc zero))) d h = refl
arcs_balanced (suc (suc (suc (suc i)))) d h = absurd (omega arith)

nodes_balanced : (c : ℕ) → c < 6 → stage_of hold c ≡ stage_of hold (node_of hold c)
nodes_balanced zero h = refl
nodes_balanced (suc zero) h = refl
nodes_balanced (suc (suc zero)) h = refl
nodes_balanced (suc (suc (suc zero))) h = refl
nodes_balanced (suc (suc (suc (suc zero)))) h = refl
nodes_balanced (suc (suc (suc (suc (suc zero))))) h = refl
nodes_balanced (suc (suc (suc (suc (suc (suc c)))))) h = absurd (omega arith)

fed_below : (b : ℕ) (u : CellId) → producer_of hold (port_of b 0) ≡ Some u → b < 6
fed_below b u fed = each_arc (λ c p v. c < 6) (omega arith) (omega arith) (omega arith) (omega arith) (omega arith) (omega arith) b 0 u fed

balanced : IsBalanced hold
balanced = record {
  arcs = arcs_balanced;
  buffers = λ b u is fed. absurd (no_buffer b (fed_below b u fed) is);
  nodes = nodes_balanced;
}

-- ---- labels, for a value v

abbrev gives : ℕ → Value → Firing
gives turn v = record { turn = turn ∷ []; taken = None ∷ None ∷ None ∷ []; answer = Some v }

abbrev taking : ℕ → Option Value → Option Value → Option Value → Option Value → Firing
taking turn a b c answer = record { turn = turn ∷ []; taken = a ∷ b ∷ c ∷ []; answer = answer }

abbrev labels : Value → Labels
labels v zero = gives 0 v ∷ []
labels v (suc zero) = taking 0 (Some (Truth true)) (Some v) None (Some v) ∷ taking 1 (Some (Truth false)) None (Some v) (Some v) ∷ []
labels v (suc (suc zero)) = gives 0 (Truth true) ∷ gives 1 (Truth false) ∷ []
labels v (suc (suc (suc zero))) = taking 0 (Some (Truth true)) (Some v) None (Some v) ∷ taking 1 (Some (Truth false)) (Some v) None None ∷ []
labels v (suc (suc (suc (suc zero)))) = gives 0 (Truth true) ∷ gives 1 (Truth false) ∷ []
labels v (suc (suc (suc (suc (suc zero))))) = taking 0 (Some v) None None None ∷ taking 1 (Some v) None None None ∷ []
labels v _ = []

abbrev inputs_with : Value → List (List Value)
inputs_with v = (v ∷ []) ∷ []

no_source : {A : Type 0} (values : List Value) → None ≡ Some values → A
no_source values none = absurd (cc)

sources_at : (v : Value) (c : ℕ) (values : List Value) → source_values hold (inputs_with v) c ≡ Some values → labels v c ≡ in_order_from 0 values
sources_at v zero values is = ap (in_order_from 0) (same_Some _ values is)
sources_at v (suc zero) values is = no_source values is
sources_at v (suc (suc zero)) values is = ap (in_order_from 0) (same_Some _ values is)
sources_at v (suc (suc (suc zero))) values is = no_source values is
sources_at v (suc (suc (suc (suc zero)))) values is = ap (in_order_from 0) (same_Some _ values is)
sources_at v (suc (suc (suc (suc (suc zero))))) values is = no_source values is
sources_at v (suc (suc (suc (suc (suc (suc c)))))) values is = no_source values is

single_at : (v : Value) (c : ℕ) → AllByRecursion (λ t. length t ≡ 1) (turns_of (labels v c))
single_at v zero = (refl, tt)
single_at v (suc zero) = (refl, (refl, tt))
single_at v (suc (suc zero)) = (refl, (refl, tt))
single_at v (suc (suc (suc zero))) = (refl, (refl, tt))
single_at v (suc (suc (suc (suc zero)))) = (refl, (refl, tt))
single_at v (suc (suc (suc (suc (suc zero))))) = (refl, (refl, tt))
single_at v (suc (suc (suc (suc (suc (suc c)))))) = tt

rising_at : (v : Value) (c : ℕ) → AreRising (turns_of (labels v c))
rising_at v zero = (tt, tt)
rising_at v (suc zero) = ((refl, tt), (tt, tt))
rising_at v (suc (suc zero)) = ((refl, tt), (tt, tt))
rising_at v (suc (suc (suc zero))) = ((refl, tt), (tt, tt))
rising_at v (suc (suc (suc (suc zero)))) = ((refl, tt), (tt, tt))
rising_at v (suc (suc (suc (suc (suc zero))))) = ((refl, tt), (tt, tt))
rising_at v (suc (suc (suc (suc (suc (suc c)))))) = tt

abbrev Joins : Value → ℕ → ℕ → ℕ → Type 0
Joins v c p u =
    (stream_values (received p (labels v c)) ≡ listed (loaded_at hold (port_of c p)) ++ stream_values (answered (labels v u)))
    × (map (later (gate_part hold u)) (stream_turns (brought hold (port_of c p) (labels v c)))
    ≡ map (later (merge_part hold (port_of c p))) (stream_turns (answered (labels v u))))

joins_at : (v : Value) (c p : ℕ) (u : CellId) → producer_of hold (port_of c p) ≡ Some u → Joins v c p u.0
unfolding gate_part merge_part origin
joins_at v c p u fed = each_arc (Joins v) (refl, refl) (refl, refl) (refl, refl) (refl, refl) (refl, refl) (refl, refl) c p u fed

right_of : (cell : Cell) (f : Firing) → f.taken ≡ three f.taken → is_some (get_or f.taken 0 None) ≡ takes cell f.taken 0 → is_some (get_or f.taken 1 None) ≡ takes cell f.taken 1
    → is_some (get_or f.taken 2 None) ≡ takes cell f.taken 2 → ((p : ℕ) → is_some (get_or f.taken (suc (suc (suc p))) None) ≡ takes cell f.taken (suc (suc (suc p))))
    → f.answer ≡ answer cell.kind 0 [] (with_constants cell f.taken) → IsRightFiring cell f
right_of cell f ports one two three' past answers = record { takes = record { ports = ports; takes = each }; answers = answers }
  where
    each : (p : ℕ) → is_some (get_or f.taken p None) ≡ takes cell f.taken p
    each zero = one
    each (suc zero) = two
    each (suc (suc zero)) = three'
    each (suc (suc (suc p))) = past p

right_at : (v : Value) (c : ℕ) → source_values hold (inputs_with v) c ≡ None → AllByRecursion (IsRightFiring (cell_at hold c)) (labels v c)
unfolding answer
right_at v zero none = absurd (cc)
right_at v (suc zero) none = (right_of _ _ refl refl refl refl (λ p. refl) refl, (right_of _ _ refl refl refl refl (λ p. refl) refl, tt))
right_at v (suc (suc zero)) none = absurd (cc)
right_at v (suc (suc (suc zero))) none = (right_of _ _ refl refl refl refl (λ p. refl) refl, (right_of _ _ refl refl refl refl (λ p. refl) refl, tt))
right_at v (suc (suc (suc (suc zero)))) none = absurd (cc)
right_at v (suc (suc (suc (suc (suc zero))))) none = (right_of _ _ refl refl refl refl (λ p. refl) refl, (right_of _ _ refl refl refl refl (λ p. refl) refl, tt))
right_at v (suc (suc (suc (suc (suc (suc c)))))) none = tt

meet : (v : Value) → LabelsMeet hold (inputs_with v) (labels v)
meet v c = record {
  sources = sources_at v c;
  single = single_at v c;
  rising = rising_at v c;
  arcs = λ p u fed. (joins_at v c p u fed).0;
  shifts = λ p u fed. (joins_at v c p u fed).1;
  right = right_at v c;
  unloaded = unloaded c;
  outputs = λ k n is. let o = only_out c k n is in let n' = o.2 in let e = ap (λ e. length (labels v e)) o.0 in omega arith;
}

-- ---- zones: before the loop, the loop, and behind it

abbrev zone : ℕ → ℕ
zone (suc zero) = 1
zone (suc (suc (suc zero))) = 1
zone (suc (suc (suc (suc (suc zero))))) = 2
zone _ = 0

abbrev Keeps : Value → ℕ → ℕ → ℕ → Type 0
Keeps v c p u = (zone u < zone c) ⊎ ((zone u ≡ zone c) × StaysInZone hold (labels v) (port_of c p) u)

keeps : (v : Value) → KeepsZones hold (labels v) zone
unfolding gate_part merge_part origin
keeps v d u fed = each_arc (Keeps v) (inl (omega arith)) (inl (omega arith)) (inr (refl, inr (inl (refl, refl, omega arith)))) (inl (omega arith)) (inr (refl, inl (refl, refl, omega arith)))
    (inl (omega arith)) d.cell.0 d.port.0 u fed

-- ---- the meaning

tells_with : ZonesGivePlaces → (v : Value) → Tells hold (inputs_with v) (held (inputs_with v))
tells_with give v = record {
  labels = labels v;
  meet = meet v;
  whole = λ c k n is. let o = only_out c k n is in
      subst (λ e. IsAll (stream_values (received 0 (labels v e))) (held (inputs_with v)) (k - 1)) (sym o.0)
      (subst (λ j. IsAll (stream_values (received 0 (labels v 5))) (held (inputs_with v)) (j - 1)) (sym o.1) refl);
  placed = give hold (inputs_with v) (labels v) zone formed (meet v) (keeps v);
}

one_list : (inputs : List (List Value)) → AreValid (declarations hold) inputs → inputs ≡ inputs_with (get_or (get_or inputs 0 []) 0 (Error error.Undef))
one_list [] valid = absurd (let n = valid.count in omega arith)
one_list (values ∷ w ∷ inputs) valid = absurd (let n = valid.count in omega arith)
one_list (values ∷ []) valid = ap (λ (l : List Value). l ∷ []) (one_value values ((valid.each 0 (record { basic = Integer; length = 1 }) refl).count))
  where
    one_value : (values : List Value) → length values ≡ 1 → values ≡ get_or values 0 (Error error.Undef) ∷ []
    one_value [] n = absurd (omega arith)
    one_value (v ∷ w ∷ values) n = absurd (omega arith)
    one_value (v ∷ []) n = refl

realizes : ZonesGivePlaces → Realizes hold held
realizes give = record {
  outputs = λ inputs valid. refl;
  tells = λ inputs valid. subst (λ l. Tells hold l (held l)) (sym (one_list inputs valid)) (tells_with give (get_or (get_or inputs 0 []) 0 (Error error.Undef)));
}

pub hold_realizes : ZonesGivePlaces → HoldRealizes
hold_realizes give = (formed, balanced, realizes give)
