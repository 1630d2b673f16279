-- A cell that is no source, with a label from what feeds its ports.
use Rattle.std.proofs.Common.{◌≡◌, ℕ, zero, suc, ◌-◌, ◌≤◌, Bool, true, false, List, [], ◌∷◌, ◌++◌, get_or, length, map, Option, Some, None, refl, sym, ◌∙◌, ap, subst, arith}
use Rattle.std.specs.Prelude.{slice_get, is_some, ◌&&◌}
use Rattle.std.specs.Option.{unwrap_or, option_map}
use Rattle.std.specs.List.{AllByRecursion, filter}
use Rattle.std.proofs.lemmas.Option.{slice_get-map, slice_get_past}
use Rattle.df_values.specs.declared.values.Value.{Value}
use Rattle.df_cells.specs.declared.cells.CellId.{CellId}
use Rattle.df_cells.specs.declared.cells.Feed.{Feed}
use Rattle.df_cells.specs.declared.kinds.Kind.{Kind}
use Rattle.df_cells.specs.declared.kinds.Kind.TheVariants as kind
use Rattle.df_cells.specs.Kinds.{is_output, is_buffer}
use Rattle.df_cells.specs.Cells.{from_cell, cell_from, loaded_from}
use Rattle.df_cells.specs.Firings.{Operands, per_port, at_hand, with_constants, wants, answer}
use Rattle.df_cells.specs.Shifts.{first_truth, control_values}
use Rattle.df_labels.specs.Graphs.{Graph, Node}
use Rattle.df_labels.specs.Labels.{Turn, Stream, stream_values, received, AreRising, IsRightFiring, source_list}
use Rattle.df_labels.specs.declared.graphs.Flow.{Flow}
use Rattle.df_labels.specs.declared.graphs.Flow.TheVariants.{Constant, Cell}
use Rattle.df_labels.specs.Flows.{arc, feed_of}
use Rattle.df_build_loops.specs.Frames.{undef}
use Rattle.df_meant.specs.Sites.{Ends, Given, Label, Site, site_of, gate_of, side_of, delayed, stream, cell_of, Comes, Stands, MeetsNode, Meeting, Extends}
use Rattle.df_meant.proofs.Streams.{only, on_turns, answered_on, received_on, filter_all, AreSingle, AreTurns, turns_on, delayed_none}
use Rattle.df_meant.proofs.Groups.{same_some, none_some, all_at, extends_push, meet_push, gives_push}

-- what feeds a port, the turns at which it is taken, and its value there
pub record Supply : Type 0 where
  pub flow : Flow
  pub wanted : Turn → Bool
  pub value : Turn → Value

-- one that is always taken
abbrev pub always : Flow → (Turn → Value) → Supply
always flow f = record { flow = flow; wanted = λ _. true; value = f }

abbrev pub taken_flow : Flow → Bool → Value → Option Value
taken_flow (Cell u) b v = only b v
taken_flow (Constant w) b v = None

abbrev pub taken_supply : Option Supply → Turn → Option Value
taken_supply None t = None
taken_supply (Some s) t = taken_flow s.flow (s.wanted t) (s.value t)

abbrev pub takings : List Supply → Turn → Operands
takings supplies t = per_port (λ p. taken_supply (slice_get supplies p) t)

abbrev pub fed_node : Kind → List Supply → Node
fed_node it supplies = record { kind = it; ports = map (λ s. feed_of s.flow) supplies }

abbrev pub hands : Kind → List Supply → Turn → Operands
hands it supplies t = with_constants (cell_of (fed_node it supplies)) (takings supplies t)

per_port_at : (f : ℕ → Option Value) → ((p : ℕ) → f (suc (suc (suc p))) ≡ None) → (p : ℕ) → get_or (per_port f) p None ≡ f p
per_port_at f h zero = refl
per_port_at f h (suc zero) = refl
per_port_at f h (suc (suc zero)) = refl
per_port_at f h (suc (suc (suc p))) = sym (h p)

pub takings_at : (supplies : List Supply) (t : Turn) (p : ℕ) → length supplies ≤ 3 → get_or (takings supplies t) p None ≡ taken_supply (slice_get supplies p) t
takings_at supplies t p few = per_port_at (λ q. taken_supply (slice_get supplies q) t)
    (λ q. ap (λ o. taken_supply o t) (slice_get_past supplies (suc (suc (suc q))) (omega arith))) p

abbrev is_arc : Option Feed → Bool
is_arc o = is_some (cell_from o)

is_taken_flow : (f : Flow) (b w : Bool) (v : Value) → w ≡ b → is_some (taken_flow f b v) ≡ is_arc (Some (feed_of f)) && w
is_taken_flow (Cell u) true w v e = sym e
is_taken_flow (Cell u) false w v e = sym e
is_taken_flow (Constant x) b w v e = refl

is_taken : (o : Option Supply) (t : Turn) (w : Bool) → ((s : Supply) → o ≡ Some s → w ≡ s.wanted t) → is_some (taken_supply o t) ≡ is_arc (option_map (λ s. feed_of s.flow) o) && w
is_taken None t w h = refl
is_taken (Some s) t w h = is_taken_flow s.flow (s.wanted t) w (s.value t) (h s refl)

right_on : (node : Node) (ts : List Turn) (x : Turn → Operands) (a : Turn → Option Value) → ((t : Turn) → IsRightFiring (cell_of node) (record { turn = t; taken = x t; answer = a t })) → AllByRecursion (IsRightFiring (cell_of node)) (on_turns ts x a)
right_on node [] x a h = tt
right_on node (t ∷ ts) x a h = (h t, right_on node ts x a h)

-- the flow whose feed is an arc
cell_number : Option CellId → ℕ
cell_number (Some u) = u.0
cell_number None = 0

pub flow_of_arc : (f : Flow) (u : ℕ) → feed_of f ≡ arc u → f ≡ Cell u
unfolding cell_number
flow_of_arc (Cell c) u e = ap Cell (ap (λ x. cell_number (from_cell x)) e)
flow_of_arc (Constant v) u e = absurd (never (ap (λ x. is_some (from_cell x)) e))
  where
    never : false ≡ true → ⊥
    never h = cc

supply_of : (o : Option Supply) (u : ℕ) → option_map (λ s. feed_of s.flow) o ≡ Some (arc u) → (s : Supply) × (o ≡ Some s) × (s.flow ≡ Cell u)
supply_of None u e = absurd (none_some (arc u) e)
supply_of (Some s) u e = (s, refl, flow_of_arc s.flow u (same_some (feed_of s.flow) (arc u) e))

taken_arc : (o : Option Supply) (s : Supply) (u : ℕ) (t : Turn) → o ≡ Some s → s.flow ≡ Cell u → taken_supply o t ≡ only (s.wanted t) (s.value t)
taken_arc o s u t e f = ap (λ x. taken_supply x t) e ∙ ap (λ x. taken_flow x (s.wanted t) (s.value t)) f

-- what a port that an arc feeds needs: a stream that is its own after the part of the shift that is the port's
abbrev pub ArcFeeds : Site → ℕ → Flow → List Turn → (Turn → Value) → Type 0
ArcFeeds site part (Cell u) ts f = (s : Stream) × Comes site u s × (stream ts f ≡ delayed part s)
ArcFeeds site part (Constant v) ts f = Unit {0}

pub feeds_none : (site : Site) (part : ℕ) (flow : Flow) (ts : List Turn) (f : Turn → Value) → part ≡ 0 → Stands site flow ts f → ArcFeeds site part flow ts f
feeds_none site part (Cell u) ts f e s = (stream ts f, s.comes, sym (ap (λ k. delayed k (stream ts f)) e ∙ delayed_none (stream ts f)))
feeds_none site part (Constant v) ts f e s = tt

pub feeds_full : (site : Site) (part : ℕ) (flow : Flow) (ts : List Turn) (f : Turn → Value) → part ≡ 0 → Stands site flow ts f → ArcFeeds site part flow (filter (λ _. true) ts) f
feeds_full site part flow ts f e s = feeds_none site part flow (filter (λ _. true) ts) f e (subst (λ us. Stands site flow us f) (sym (filter_all ts)) s)

pub no_out : (it : Kind) (k n : ℕ) → is_output it ≡ false → it ≡ kind.Out k n → ⊥
no_out it k n e h = never (sym e ∙ ap is_output h)
  where
    never : false ≡ true → ⊥
    never h = cc

-- nothing lies at a port that a value feeds
no_loaded_flow : (f : Flow) → loaded_from (Some (feed_of f)) ≡ None
no_loaded_flow (Cell u) = refl
no_loaded_flow (Constant v) = refl

no_loaded : (o : Option Supply) → loaded_from (option_map (λ s. feed_of s.flow) o) ≡ None
no_loaded None = refl
no_loaded (Some s) = no_loaded_flow s.flow

-- the answers are those that the meaning gives; that the table agrees is a premise
pub fed_with : (site : Site) (values : Given) (it : Kind) (supplies : List Supply) (ts : List Turn) (a : Turn → Option Value) → length supplies ≤ 3 → source_list it values.own ≡ None → ((k n : ℕ) → it ≡ kind.Out k n → length (on_turns ts (takings supplies) a) ≡ n) → ((k n : ℕ) → it ≡ kind.Out k n → stream_values (received 0 (on_turns ts (takings supplies) a)) ≡ get_or values.results (k - 1) []) → is_buffer it ≡ false → AreTurns ts
    → ((p : ℕ) (s : Supply) → slice_get supplies p ≡ Some s → ArcFeeds site (side_of site.graph (fed_node it supplies) p) s.flow (filter s.wanted ts) s.value)
    → ((p : ℕ) (s : Supply) (t : Turn) → slice_get supplies p ≡ Some s → wants it (hands it supplies t) p ≡ s.wanted t)
    → ((t : Turn) → a t ≡ answer it 0 [] (hands it supplies t))
    → MeetsNode site values (fed_node it supplies) (on_turns ts (takings supplies) a)
fed_with site values it supplies ts a few none outs results buffer turns feeds want answers = record {
  whole = buffer;
  unloaded = λ p. ap loaded_from (slice_get-map (λ s. feed_of s.flow) supplies p) ∙ no_loaded (slice_get supplies p);
  sources = λ vs e. absurd (none_some vs (sym none ∙ e));
  single = subst AreSingle (sym (turns_on ts (takings supplies) a)) turns.single;
  rising = subst AreRising (sym (turns_on ts (takings supplies) a)) turns.rising;
  arcs = λ p u e.
      let s = supply_of (slice_get supplies p) u (sym (slice_get-map (λ s. feed_of s.flow) supplies p) ∙ e) in
      let at : ArcFeeds site (side_of site.graph (fed_node it supplies) p) (Cell u) (filter s.0.wanted ts) s.0.value
      = subst (λ x. ArcFeeds site (side_of site.graph (fed_node it supplies) p) x (filter s.0.wanted ts) s.0.value) s.2 (feeds p s.0 s.1) in (
        at.0,
        at.1,
        received_on p ts (takings supplies) a s.0.wanted s.0.value
            (λ t. takings_at supplies t p few ∙ taken_arc (slice_get supplies p) s.0 u t s.1 s.2) ∙ at.2,
      );
  right = λ _. right_on (fed_node it supplies) ts (takings supplies) a (λ t. record {
    takes = record {
      ports = refl;
      takes = λ p. ap is_some (takings_at supplies t p few)
          ∙ is_taken (slice_get supplies p) t (wants it (hands it supplies t) p) (λ s e. want p s t e)
          ∙ ap (λ o. is_arc o && wants it (hands it supplies t) p) (sym (slice_get-map (λ s. feed_of s.flow) supplies p));
    };
    answers = answers t;
  });
  outputs = outs;
  receives = results;
}

-- a cell that is no OUT
pub fed_as : (site : Site) (values : Given) (it : Kind) (supplies : List Supply) (ts : List Turn) (a : Turn → Option Value) → length supplies ≤ 3 → source_list it values.own ≡ None → is_output it ≡ false → is_buffer it ≡ false → AreTurns ts
    → ((p : ℕ) (s : Supply) → slice_get supplies p ≡ Some s → ArcFeeds site (side_of site.graph (fed_node it supplies) p) s.flow (filter s.wanted ts) s.value)
    → ((p : ℕ) (s : Supply) (t : Turn) → slice_get supplies p ≡ Some s → wants it (hands it supplies t) p ≡ s.wanted t)
    → ((t : Turn) → a t ≡ answer it 0 [] (hands it supplies t))
    → MeetsNode site values (fed_node it supplies) (on_turns ts (takings supplies) a)
fed_as site values it supplies ts a few none output buffer turns feeds want answers =
    fed_with site values it supplies ts a few none (λ k n e. absurd (no_out it k n output e)) (λ k n e. absurd (no_out it k n output e)) buffer turns feeds want answers

-- ---- what holds of each supply of a short list, at its port

pub at_one : (P : ℕ → Supply → Type 0) (a : Supply) → P 0 a → (p : ℕ) (s : Supply) → slice_get (a ∷ []) p ≡ Some s → P p s
at_one P a x zero s e = subst (P 0) (same_some a s e) x
at_one P a x (suc p) s e = absurd (none_some s e)

pub at_two : (P : ℕ → Supply → Type 0) (a b : Supply) → P 0 a → P 1 b → (p : ℕ) (s : Supply) → slice_get (a ∷ b ∷ []) p ≡ Some s → P p s
at_two P a b x y zero s e = subst (P 0) (same_some a s e) x
at_two P a b x y (suc p) s e = at_one (λ q. P (suc q)) b y p s e

pub at_three : (P : ℕ → Supply → Type 0) (a b c : Supply) → P 0 a → P 1 b → P 2 c → (p : ℕ) (s : Supply) → slice_get (a ∷ b ∷ c ∷ []) p ≡ Some s → P p s
at_three P a b c x y z zero s e = subst (P 0) (same_some a s e) x
at_three P a b c x y z (suc p) s e = at_two (λ q. P (suc q)) b c y z p s e

pub all_wanted : (supplies : List Supply) (p : ℕ) (s : Supply) (t : Turn) → AllByRecursion (λ s. true ≡ s.wanted t) supplies → slice_get supplies p ≡ Some s → true ≡ s.wanted t
all_wanted supplies p s t h e = all_at (λ s. true ≡ s.wanted t) supplies p s h e

-- the operand at a port that is always taken
pub full : (site : Site) (flow : Flow) (ts : List Turn) (f : Turn → Value) (t : Turn) → Stands site flow ts f → unwrap_or (at_hand (Some (feed_of flow)) (taken_flow flow true (f t))) undef ≡ f t
full site (Cell u) ts f t s = refl
full site (Constant v) ts f t s = sym (s t)

-- ---- one cell more

-- labels of a grown graph from which a value comes
abbrev pub IsMade : (ℕ → Bool) → Ends → List Turn → Graph → List Label → Graph → Flow → (Turn → Value) → Type 0
IsMade is_open inputs ts graph labels grown flow f =
    (more : List Label) × Extends (site_of graph labels) (site_of grown more) × Meeting is_open grown inputs more × Stands (site_of grown more) flow ts f

-- a kind of cell that is no source and no OUT, and a CTL of no kind
pub record IsFed (it : Kind) : Type 0 where
  pub source : (values : List Value) → source_list it values ≡ None
  pub output : is_output it ≡ false
  pub buffer : is_buffer it ≡ false
  pub control : control_values it ≡ []

pub push_fed : (is_open : ℕ → Bool) (inputs : Ends) (graph : Graph) (labels : List Label) (it : Kind) (supplies : List Supply) (ts : List Turn) (a : Turn → Option Value) (q : Turn → Bool) (f : Turn → Value)
    → Meeting is_open graph inputs labels → length supplies ≤ 3 → IsFed it → AreTurns ts
    → (let new = site_of (graph ++ fed_node it supplies ∷ []) (labels ++ on_turns ts (takings supplies) a ∷ []) in
    (Extends (site_of graph labels) new → (p : ℕ) (s : Supply) → slice_get supplies p ≡ Some s → ArcFeeds new (side_of new.graph (fed_node it supplies) p) s.flow (filter s.wanted ts) s.value)
    × (Extends (site_of graph labels) new → gate_of new.graph (fed_node it supplies) ≡ 0))
    → ((p : ℕ) (s : Supply) (t : Turn) → slice_get supplies p ≡ Some s → wants it (hands it supplies t) p ≡ s.wanted t)
    → ((t : Turn) → a t ≡ answer it 0 [] (hands it supplies t))
    → ((t : Turn) → a t ≡ only (q t) (f t))
    → IsMade is_open inputs (filter q ts) graph labels (graph ++ fed_node it supplies ∷ []) (Cell (length graph)) f
push_fed is_open inputs graph labels it supplies ts a q f meet few fit turns parts want answers gives =
    let node = fed_node it supplies in
    let l = on_turns ts (takings supplies) a in
    let new = site_of (graph ++ node ∷ []) (labels ++ l ∷ []) in
    let ext = extends_push is_open graph (node ∷ []) inputs labels (l ∷ []) meet in (
      labels ++ l ∷ [],
      ext,
      meet_push is_open graph inputs labels node l meet (λ values. fed_as new values it supplies ts a few (fit.source values.own) fit.output fit.buffer turns (parts.0 ext) want answers),
      gives_push graph labels node l (stream (filter q ts) f) meet.long (λ side. ap (first_truth side) fit.control) (parts.1 ext) (answered_on ts (takings supplies) a q f gives),
    )
