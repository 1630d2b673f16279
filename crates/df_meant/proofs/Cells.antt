-- One cell of each sort more: gates, the MERGE of an `if`, operators.
use Rattle.std.proofs.Common.{◌≡◌, ℕ, Bool, true, false, List, [], ◌∷◌, ◌++◌, length, Some, refl, sym, ◌∙◌, ap, subst, arith}
use Rattle.std.specs.Prelude.{slice_get}
use Rattle.std.specs.Option.{unwrap_or}
use Rattle.std.specs.List.{filter}
use Rattle.df_values.specs.declared.values.Value.{Value}
use Rattle.df_values.specs.declared.values.Value.TheVariants.{Int, Truth, Error}
use Rattle.df_values.specs.declared.kinds.Op.TheVariants as op
use Rattle.df_values.specs.declared.kinds.Rel.TheVariants as rel
use Rattle.df_values.specs.declared.kinds.Test.TheVariants as test
use Rattle.df_values.specs.Operators.{chosen}
use Rattle.df_cells.specs.declared.kinds.Kind.{Kind}
use Rattle.df_cells.specs.declared.kinds.Kind.TheVariants as kind
use Rattle.df_cells.specs.Firings.{Operands, operand, at_hand, by_control, wants, answer, family_wants, family_answer, source_answer}
use Rattle.df_cells.specs.Shifts.{is_truth, first_truth, control_values, gate_place, merge_place}
use Rattle.df_labels.specs.Graphs.{Graph, Node}
use Rattle.df_labels.specs.Labels.{Turn}
use Rattle.df_labels.specs.declared.graphs.Flow.{Flow}
use Rattle.df_labels.specs.declared.graphs.Flow.TheVariants.{Cell}
use Rattle.df_values.specs.declared.kinds.Binary.{Binary}
use Rattle.df_values.specs.declared.kinds.Binary.TheVariants.{Operation, Comparison}
use Rattle.df_values.specs.declared.kinds.Unary.{Unary}
use Rattle.df_values.specs.declared.kinds.Unary.TheVariants.{Negation, Inversion, Inquiry}
use Rattle.df_labels.specs.Flows.{arc, feed_of}
use Rattle.df_build_loops.specs.Frames.{undef}
use Rattle.df_values.specs.Tables.{binary_answer, unary_answer}
use Rattle.df_cells.specs.declared.kinds.Family.TheVariants as of
use Rattle.df_cells.specs.Families.{family, kind_of, kind_of_one}
use Rattle.df_build_cond.specs.Gates.{gate_kind as gate}
use Rattle.df_meant.specs.Sites.{Ends, Label, Site, site_of, pattern_at, pattern_from, pattern_of, side_of, Stands, Meeting}
use Rattle.df_meant.proofs.Streams.{only, on_turns, AreTurns, filter_all, passes_true, passes_false}
use Rattle.df_meant.proofs.Groups.{stands_more}
use Rattle.df_meant.proofs.Fed.{Supply, always, taken_flow, takings, fed_node, hands, ArcFeeds, feeds_none, feeds_full, at_one, at_two, at_three, all_wanted, full, IsMade, IsFed, push_fed}

-- ---- the table of operators

-- a kind that answers a function of its operands, takes them all, and shifts nothing
pub record IsPure (it : Kind) (F : Operands → Value) : Type 0 where
  pub fed : IsFed it
  pub wants : (x : Operands) (p : ℕ) → wants it x p ≡ true
  pub answers : (x : Operands) → answer it 0 [] x ≡ Some (F x)
  pub gate : (vs : List Value) → gate_place (family it) vs ≡ 0
  pub side : (p : ℕ) (vs : List Value) → merge_place (family it) p vs ≡ 0

-- the kinds of two operands, and of one, are no sources, OUT or BUF
two_fed : (o : Binary) → IsFed (kind_of o)
two_fed (Operation op.Add) = record { source = λ values. refl; output = refl; buffer = refl; control = refl }
two_fed (Operation op.Sub) = record { source = λ values. refl; output = refl; buffer = refl; control = refl }
two_fed (Operation op.Mul) = record { source = λ values. refl; output = refl; buffer = refl; control = refl }
two_fed (Operation op.Div) = record { source = λ values. refl; output = refl; buffer = refl; control = refl }
two_fed (Operation op.Mod) = record { source = λ values. refl; output = refl; buffer = refl; control = refl }
two_fed (Operation op.Min) = record { source = λ values. refl; output = refl; buffer = refl; control = refl }
two_fed (Operation op.Max) = record { source = λ values. refl; output = refl; buffer = refl; control = refl }
two_fed (Operation op.And) = record { source = λ values. refl; output = refl; buffer = refl; control = refl }
two_fed (Operation op.Or) = record { source = λ values. refl; output = refl; buffer = refl; control = refl }
two_fed (Comparison rel.Lt) = record { source = λ values. refl; output = refl; buffer = refl; control = refl }
two_fed (Comparison rel.Le) = record { source = λ values. refl; output = refl; buffer = refl; control = refl }
two_fed (Comparison rel.Gt) = record { source = λ values. refl; output = refl; buffer = refl; control = refl }
two_fed (Comparison rel.Ge) = record { source = λ values. refl; output = refl; buffer = refl; control = refl }
two_fed (Comparison rel.Eq) = record { source = λ values. refl; output = refl; buffer = refl; control = refl }
two_fed (Comparison rel.Ne) = record { source = λ values. refl; output = refl; buffer = refl; control = refl }

one_fed : (o : Unary) → IsFed (kind_of_one o)
one_fed Negation = record { source = λ values. refl; output = refl; buffer = refl; control = refl }
one_fed Inversion = record { source = λ values. refl; output = refl; buffer = refl; control = refl }
one_fed (Inquiry test.Undef) = record { source = λ values. refl; output = refl; buffer = refl; control = refl }
one_fed (Inquiry test.MissElt) = record { source = λ values. refl; output = refl; buffer = refl; control = refl }
one_fed (Inquiry test.PosOver) = record { source = λ values. refl; output = refl; buffer = refl; control = refl }
one_fed (Inquiry test.NegOver) = record { source = λ values. refl; output = refl; buffer = refl; control = refl }
one_fed (Inquiry test.Unknown) = record { source = λ values. refl; output = refl; buffer = refl; control = refl }
one_fed (Inquiry test.ZeroDivide) = record { source = λ values. refl; output = refl; buffer = refl; control = refl }
one_fed (Inquiry test.Error) = record { source = λ values. refl; output = refl; buffer = refl; control = refl }

two_family : (o : Binary) → family (kind_of o) ≡ of.Two o
two_family (Operation op.Add) = refl
two_family (Operation op.Sub) = refl
two_family (Operation op.Mul) = refl
two_family (Operation op.Div) = refl
two_family (Operation op.Mod) = refl
two_family (Operation op.Min) = refl
two_family (Operation op.Max) = refl
two_family (Operation op.And) = refl
two_family (Operation op.Or) = refl
two_family (Comparison rel.Lt) = refl
two_family (Comparison rel.Le) = refl
two_family (Comparison rel.Gt) = refl
two_family (Comparison rel.Ge) = refl
two_family (Comparison rel.Eq) = refl
two_family (Comparison rel.Ne) = refl

one_family : (o : Unary) → family (kind_of_one o) ≡ of.One o
one_family Negation = refl
one_family Inversion = refl
one_family (Inquiry test.Undef) = refl
one_family (Inquiry test.MissElt) = refl
one_family (Inquiry test.PosOver) = refl
one_family (Inquiry test.NegOver) = refl
one_family (Inquiry test.Unknown) = refl
one_family (Inquiry test.ZeroDivide) = refl
one_family (Inquiry test.Error) = refl

-- all else is told by the family
joins : (o : Binary) → IsPure (kind_of o) (λ x. binary_answer o (operand x 0) (operand x 1))
unfolding answer
joins o =
    let is = two_family o in
    record {
      fed = two_fed o;
      wants = λ x p. ap (λ f. family_wants f x p) is;
      answers = λ x. ap (λ f. family_answer f (source_answer (kind_of o) 0 []) x) is;
      gate = λ vs. ap (λ f. gate_place f vs) is;
      side = λ p vs. ap (λ f. merge_place f p vs) is;
    }

changes : (o : Unary) → IsPure (kind_of_one o) (λ x. unary_answer o (operand x 0))
unfolding answer
changes o =
    let is = one_family o in
    record {
      fed = one_fed o;
      wants = λ x p. ap (λ f. family_wants f x p) is;
      answers = λ x. ap (λ f. family_answer f (source_answer (kind_of_one o) 0 []) x) is;
      gate = λ vs. ap (λ f. gate_place f vs) is;
      side = λ p vs. ap (λ f. merge_place f p vs) is;
    }

-- ---- controls

-- the control of a node shifts nothing
pub plain_control : (site : Site) (c : ℕ) (ts : List Turn) (g : Turn → Value) (node : Node) → Stands site (Cell c) ts g → slice_get node.ports 0 ≡ Some (arc c)
    → (side : Bool) → first_truth side (pattern_of site.graph node) ≡ 0
plain_control site c ts g node stands at side = ap (first_truth side) same ∙ stands.plain side
  where
    same : pattern_of site.graph node ≡ control_values stands.comes.from.kind
    same = ap (pattern_from site.graph) at ∙ ap pattern_at stands.comes.node

-- what a choice takes, and gives
pub takes_both : (v : Value) → by_control v true true true ≡ true
takes_both (Truth true) = refl
takes_both (Truth false) = refl
takes_both (Int n) = refl
takes_both (Error e) = refl

pub takes_true : (v : Value) → by_control v true false false ≡ is_truth true v
takes_true (Truth true) = refl
takes_true (Truth false) = refl
takes_true (Int n) = refl
takes_true (Error e) = refl

pub takes_false : (v : Value) → by_control v false true false ≡ is_truth false v
takes_false (Truth true) = refl
takes_false (Truth false) = refl
takes_false (Int n) = refl
takes_false (Error e) = refl

-- a MERGE answers by its control, whatever is at hand on the side that it does not take
chosen_at : (site : Site) (p q : Flow) (ps qs : List Turn) (f g : Turn → Value) (t : Turn) (v : Value) → Stands site p ps f → Stands site q qs g
    → chosen v (f t) (g t) ≡ chosen v (unwrap_or (at_hand (Some (feed_of p)) (taken_flow p (is_truth true v) (f t))) undef) (unwrap_or (at_hand (Some (feed_of q)) (taken_flow q (is_truth false v) (g t))) undef)
chosen_at site p q ps qs f g t (Truth true) sp sq = sym (full site p ps f t sp)
chosen_at site p q ps qs f g t (Truth false) sp sq = sym (full site q qs g t sq)
chosen_at site p q ps qs f g t (Int n) sp sq = refl
chosen_at site p q ps qs f g t (Error e) sp sq = refl

pub gate_fed : (side : Bool) → IsFed (gate side)
gate_fed true = record { source = λ values. refl; output = refl; buffer = refl; control = refl }
gate_fed false = record { source = λ values. refl; output = refl; buffer = refl; control = refl }

pub gate_wants : (side : Bool) (x : Operands) (p : ℕ) → wants (gate side) x p ≡ true
gate_wants true x p = refl
gate_wants false x p = refl

pub gate_answers : (side : Bool) (x : Operands) → answer (gate side) 0 [] x ≡ only (is_truth side (operand x 0)) (operand x 1)
unfolding answer
gate_answers true x = passes_true (operand x 0) (operand x 1)
gate_answers false x = passes_false (operand x 0) (operand x 1)

pub gate_shift : (side : Bool) (vs : List Value) → gate_place (family (gate side)) vs ≡ first_truth side vs
gate_shift true vs = refl
gate_shift false vs = refl

pub gate_side : (side : Bool) (p : ℕ) (vs : List Value) → merge_place (family (gate side)) p vs ≡ 0
gate_side true p vs = refl
gate_side false p vs = refl

pub merge_answers : (x : Operands) → answer kind.Merge 0 [] x ≡ Some (chosen (operand x 0) (operand x 1) (operand x 2))
unfolding answer
merge_answers x = refl

abbrev gate_supplies : ℕ → ℕ → (Turn → Value) → (Turn → Value) → List Supply
gate_supplies c u g f = always (Cell c) g ∷ always (Cell u) f ∷ []

abbrev merge_supplies : ℕ → Flow → Flow → (Turn → Value) → (Turn → Value) → (Turn → Value) → List Supply
merge_supplies c p q h f g =
    always (Cell c) h
    ∷ record { flow = p; wanted = λ t. is_truth true (h t); value = f }
    ∷ record { flow = q; wanted = λ t. is_truth false (h t); value = g } ∷ []

-- a value made at all turns that pass a test that always holds
made_full : (is_open : ℕ → Bool) (inputs : Ends) (ts : List Turn) (graph : Graph) (labels : List Label) (grown : Graph) (flow : Flow) (f : Turn → Value)
    → IsMade is_open inputs (filter (λ _. true) ts) graph labels grown flow f → IsMade is_open inputs ts graph labels grown flow f
made_full is_open inputs ts graph labels grown flow f m = (m.0, m.1, m.2, subst (λ us. Stands (site_of grown m.0) flow us f) (filter_all ts) m.3)

module _ (is_open : ℕ → Bool) (inputs : Ends) (graph : Graph) (labels : List Label) (ts : List Turn) (meet : Meeting is_open graph inputs labels) (turns : AreTurns ts) where
  abbrev here : Site
  here = site_of graph labels

  abbrev Made : List Turn → Node → (Turn → Value) → Type 0
  Made us node f = IsMade is_open inputs us graph labels (graph ++ node ∷ []) (Cell (length graph)) f

  pub gate_made : (side : Bool) (c u : ℕ) (g f : Turn → Value) → Stands here (Cell c) ts g → Stands here (Cell u) ts f
      → Made (filter (λ t. is_truth side (g t)) ts) (record { kind = gate side; ports = arc c ∷ arc u ∷ [] }) f
  gate_made side c u g f sc su =
      let supplies = gate_supplies c u g f in
      let it = gate side in
      let a = λ (t : Turn). only (is_truth side (g t)) (f t) in
      let new = site_of (graph ++ fed_node it supplies ∷ []) (labels ++ on_turns ts (takings supplies) a ∷ []) in
      push_fed is_open inputs graph labels it supplies ts a (λ t. is_truth side (g t)) f meet (omega arith) (gate_fed side) turns (
        λ ext. at_two (λ p s. ArcFeeds new (side_of new.graph (fed_node it supplies) p) s.flow (filter s.wanted ts) s.value) (always (Cell c) g) (always (Cell u) f)
            (feeds_full new _ (Cell c) ts g (gate_side side 0 _) (stands_more here new (Cell c) ts g ext sc)) (feeds_full new _ (Cell u) ts f (gate_side side 1 _) (stands_more here new (Cell u) ts f ext su)),
        λ ext. gate_shift side (pattern_of new.graph (fed_node it supplies)) ∙ plain_control new c ts g (fed_node it supplies) (stands_more here new (Cell c) ts g ext sc) refl side,
      )
      (λ p s t e. gate_wants side (hands it supplies t) p ∙ all_wanted supplies p s t (refl, (refl, tt)) e)
      (λ t. sym (gate_answers side (hands it supplies t)))
      (λ t. refl)

  pub two_made : (o : Binary) (p q : Flow) (f g : Turn → Value) → Stands here p ts f → Stands here q ts g
      → Made ts (record { kind = kind_of o; ports = feed_of p ∷ feed_of q ∷ [] }) (λ t. binary_answer o (f t) (g t))
  two_made o p q f g sp sq =
      let supplies : List Supply = always p f ∷ always q g ∷ [] in
      let it = kind_of o in
      let pure = joins o in
      let h = λ (t : Turn). binary_answer o (f t) (g t) in
      let a = λ (t : Turn). Some (h t) in
      let node = fed_node it supplies in
      let new = site_of (graph ++ node ∷ []) (labels ++ on_turns ts (takings supplies) a ∷ []) in
      made_full is_open inputs ts graph labels (graph ++ node ∷ []) (Cell (length graph)) h
      (push_fed is_open inputs graph labels it supplies ts a (λ _. true) h meet (omega arith) pure.fed turns (
        λ ext. at_two (λ i s. ArcFeeds new (side_of new.graph node i) s.flow (filter s.wanted ts) s.value) (always p f) (always q g)
            (feeds_full new _ p ts f (pure.side 0 _) (stands_more here new p ts f ext sp)) (feeds_full new _ q ts g (pure.side 1 _) (stands_more here new q ts g ext sq)),
        λ ext. pure.gate _,
      )
      (λ i s t e. pure.wants (hands it supplies t) i ∙ all_wanted supplies i s t (refl, (refl, tt)) e)
      (λ t. ap (λ v. Some (binary_answer o v (g t))) (sym (full here p ts f t sp)) ∙ ap (λ v. Some (binary_answer o (operand (hands it supplies t) 0) v)) (sym (full here q ts g t sq)) ∙ sym (pure.answers (hands it supplies t)))
      (λ t. refl))

  pub one_made : (o : Unary) (p : Flow) (f : Turn → Value) → Stands here p ts f
      → Made ts (record { kind = kind_of_one o; ports = feed_of p ∷ [] }) (λ t. unary_answer o (f t))
  one_made o p f sp =
      let supplies : List Supply = always p f ∷ [] in
      let it = kind_of_one o in
      let pure = changes o in
      let h = λ (t : Turn). unary_answer o (f t) in
      let a = λ (t : Turn). Some (h t) in
      let node = fed_node it supplies in
      let new = site_of (graph ++ node ∷ []) (labels ++ on_turns ts (takings supplies) a ∷ []) in
      made_full is_open inputs ts graph labels (graph ++ node ∷ []) (Cell (length graph)) h
      (push_fed is_open inputs graph labels it supplies ts a (λ _. true) h meet (omega arith) pure.fed turns (
        λ ext. at_one (λ i s. ArcFeeds new (side_of new.graph node i) s.flow (filter s.wanted ts) s.value) (always p f)
            (feeds_full new _ p ts f (pure.side 0 _) (stands_more here new p ts f ext sp)),
        λ ext. pure.gate _,
      )
      (λ i s t e. pure.wants (hands it supplies t) i ∙ all_wanted supplies i s t (refl, tt) e)
      (λ t. ap (λ v. Some (unary_answer o v)) (sym (full here p ts f t sp)) ∙ sym (pure.answers (hands it supplies t)))
      (λ t. refl))

  pub merge_made : (c : ℕ) (p q : Flow) (h f g : Turn → Value) → Stands here (Cell c) ts h → Stands here p (filter (λ t. is_truth true (h t)) ts) f → Stands here q (filter (λ t. is_truth false (h t)) ts) g
      → Made ts (record { kind = kind.Merge; ports = arc c ∷ feed_of p ∷ feed_of q ∷ [] }) (λ t. chosen (h t) (f t) (g t))
  merge_made c p q h f g sc sp sq =
      let supplies = merge_supplies c p q h f g in
      let first : Supply = always (Cell c) h in
      let second : Supply = record { flow = p; wanted = λ t. is_truth true (h t); value = f } in
      let third : Supply = record { flow = q; wanted = λ t. is_truth false (h t); value = g } in
      let ps = filter (λ t. is_truth true (h t)) ts in
      let qs = filter (λ t. is_truth false (h t)) ts in
      let it = kind.Merge in
      let value = λ (t : Turn). chosen (h t) (f t) (g t) in
      let a = λ (t : Turn). Some (value t) in
      let node = fed_node it supplies in
      let new = site_of (graph ++ node ∷ []) (labels ++ on_turns ts (takings supplies) a ∷ []) in
      made_full is_open inputs ts graph labels (graph ++ node ∷ []) (Cell (length graph)) value
      (push_fed is_open inputs graph labels it supplies ts a (λ _. true) value meet (omega arith) (record { source = λ values. refl; output = refl; buffer = refl; control = refl }) turns (
        λ ext. let plain = plain_control new c ts h node (stands_more here new (Cell c) ts h ext sc) refl in
            at_three (λ i s. ArcFeeds new (side_of new.graph node i) s.flow (filter s.wanted ts) s.value) first second third
            (feeds_full new _ (Cell c) ts h refl (stands_more here new (Cell c) ts h ext sc))
            (feeds_none new _ p ps f (plain true) (stands_more here new p ps f ext sp))
            (feeds_none new _ q qs g (plain false) (stands_more here new q qs g ext sq)),
        λ ext. refl,
      )
      (λ i s t e. at_three (λ i s. wants it (hands it supplies t) i ≡ s.wanted t) first second third (takes_both (h t)) (takes_true (h t)) (takes_false (h t)) i s e)
      (λ t. ap Some (chosen_at here p q ps qs f g t (h t) sp sq) ∙ sym (merge_answers (hands it supplies t)))
      (λ t. refl))
