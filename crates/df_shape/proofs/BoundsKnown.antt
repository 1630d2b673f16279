-- The bounds of a block are manifest, where the demands on it hold.
use Rattle.std.proofs.Common.{◌≡◌, ℤ, ◌++◌, map, sym, ◌∙◌, ap, subst, Some, None}
use Rattle.df_syntax.specs.declared.tree.Expr.{Expr}
use Rattle.df_syntax.specs.declared.tree.Node.{out-Node, roll-Node}
use Rattle.df_syntax.specs.declared.tree.Node.TheOpen.{Node-F}
use Rattle.df_syntax.specs.declared.tree.Node.TheVariants as n
use Rattle.df_syntax.specs.Trees.{Layer, Opened, layer_of}
use Rattle.df_syntax.specs.TreeInduction.{Proved, without, tree_induction}
use Rattle.df_syntax.specs.Besides.{layer_map, beside_rolled}
use Rattle.df_syntax.specs.Demands.{first_refusal}
use Rattle.df_syntax.proofs.FirstRefusals.{begin_holds, rest_holds}
use Rattle.df_syntax.specs.SourceForms.{Numbers, form, manifest, Recurrence, recurrence_of}
use Rattle.std.specs.Prelude.{suc, nat_le}
use Rattle.df_syntax.specs.WellShaped.{has_first}
use Rattle.df_shape.specs.declared.answers.ShapeAnswer.TheVariants.{RangeTooLong, EmptyReduce, NotPiped}
use Rattle.df_syntax.specs.declared.form.Form.TheVariants as rule
use Rattle.df_shape.specs.Demands.{Demands, Around, Look, demand, own_demands, inner_demands, look_node, demands_of, call_rule, block_rule, conditional_rule, defined_rule, array_rule, range_rule, subscript_rule, manifest_demand, length_between, longest, range_demands, recurrence_demands, is_one_before}
use Rattle.df_shape.proofs.Opened.{opened}
use Rattle.df_shape.proofs.Opened as node
use Rattle.df_shape.proofs.Bare as bare_of
use Rattle.df_shape.proofs.CallsKept.{manifest_held}

-- what an expression is, where it has no parentheses around it
pub form_plain : (e : Expr) (x : Opened) → e.node ≡ roll-Node x → ((of : Expr) → x ≡ Node-F.Parens of → ⊥) → form e ≡ x
form_plain e x is apart =
    ap (λ (d : Expr). out-Node d.node) (bare_of.plain e (λ of at. apart of (sym (opened e.node x is) ∙ node.parens e.node of at))) ∙ opened e.node x is

pub form_parens : (e of : Expr) → e.node ≡ roll-Node (Node-F.Parens of) → form e ≡ form of
form_parens e of is = ap (λ (d : Expr). out-Node d.node) (bare_of.parens e of (is ∙ n.rolls-Parens of))

-- the rule on ranges among the rules on one node
pub range_held : (around : Around) (e : Expr) (x : Layer Expr) → first_refusal (own_demands around e x) ≡ None → first_refusal (range_rule around e x) ≡ None
range_held around e x h =
    begin_holds (range_rule around e x) (subscript_rule around e.place x)
    (rest_holds (array_rule around.part e.place x) _
    (rest_holds (defined_rule around around.part e) _
    (rest_holds (conditional_rule around e x) _
    (rest_holds (block_rule around e.place x) _
    (rest_holds (call_rule around e.place x) _ h)))))

module _ (numbers : Numbers) where
  abbrev pub IsManifest : Expr → Type 0
  IsManifest e = (k : ℤ) × (manifest numbers e ≡ Some k)

  -- the bounds of what makes an array or folds one
  abbrev pub BoundsKnown : Opened → Type 0
  BoundsKnown (Node-F.Construct index low high elem) = IsManifest low × IsManifest high
  BoundsKnown (Node-F.Fold index low high o elem) = IsManifest low × IsManifest high
  BoundsKnown (Node-F.For definitions test assigns last) = (r : Recurrence) → recurrence_of (Node-F.For definitions test assigns last) ≡ Some r → IsManifest r.low × IsManifest r.high
  BoundsKnown x = Unit {0}

  module _ (around : Around) (same : around.numbers ≡ numbers) where
    abbrev Held : Expr → Type 0
    Held e = first_refusal (demands_of e around) ≡ None → BoundsKnown (form e)

    -- the demands on an expression are those of its node and those inside it
    opened_demands : (e : Expr) (x : Opened) → e.node ≡ roll-Node x → demands_of e around ≡ look_node e (layer_of (Expr × Look) (λ c. (c, demands_of c)) x) around
    unfolding demands_of
    opened_demands e x is = ap (λ (look : Look). look around) (beside_rolled Look look_node e x is)

    own_held : (e : Expr) (x : Opened) → e.node ≡ roll-Node x → first_refusal (demands_of e around) ≡ None
        → first_refusal (range_rule around e (layer_map (Expr × Look) Expr (λ p. p.0) (layer_of (Expr × Look) (λ c. (c, demands_of c)) x))) ≡ None
    own_held e x is h =
        range_held around e _
        (begin_holds (own_demands around e (layer_map (Expr × Look) Expr (λ p. p.0) (layer_of (Expr × Look) (λ c. (c, demands_of c)) x))) (inner_demands around (layer_of (Expr × Look) (λ c. (c, demands_of c)) x))
        (sym (ap (λ (d : Demands). first_refusal d) (opened_demands e x is)) ∙ h))

    parens_held : (e of : Expr) → e.node ≡ roll-Node (Node-F.Parens of) → first_refusal (demands_of e around) ≡ None → first_refusal (demands_of of around) ≡ None
    parens_held e of is h =
        rest_holds (own_demands around e (Node-F.Parens of)) (demands_of of around) (sym (ap (λ (d : Demands). first_refusal d) (opened_demands e (Node-F.Parens of) is)) ∙ h)

    by_form : (e : Expr) (x : Opened) → e.node ≡ roll-Node x → ((of : Expr) → x ≡ Node-F.Parens of → ⊥) → BoundsKnown x → BoundsKnown (form e)
    by_form e x is apart known = subst BoundsKnown (sym (form_plain e x is apart)) known

    two_manifest : (low high : Expr) (rest : Demands) → first_refusal (manifest_demand around.numbers low ++ (manifest_demand around.numbers high ++ rest)) ≡ None → IsManifest low × IsManifest high
    two_manifest low high rest h =
        let first = manifest_held around.numbers low (manifest_demand around.numbers high ++ rest) h in
        let second = manifest_held around.numbers high rest first.1 in
        (subst (λ (m : Numbers). (k : ℤ) × (manifest m low ≡ Some k)) same first.0, subst (λ (m : Numbers). (k : ℤ) × (manifest m high ≡ Some k)) same second.0)

    loop_manifest : (e : Expr) (r : Recurrence) → first_refusal (recurrence_demands around.numbers e.place (Some r)) ≡ None → IsManifest r.low × IsManifest r.high
    loop_manifest e r h =
        let last = demand (is_one_before (manifest around.numbers r.before) (manifest around.numbers r.low)) (NotPiped rule.Recurrence e.place)
        ++ demand (nat_le (suc (length_between around.numbers r.low r.high)) longest) (RangeTooLong e.place) in
        let first = manifest_held around.numbers r.low (manifest_demand around.numbers r.before ++ (manifest_demand around.numbers r.high ++ last)) h in
        let second = manifest_held around.numbers r.before (manifest_demand around.numbers r.high ++ last) first.1 in
        let third = manifest_held around.numbers r.high last second.1 in
        (subst (λ (m : Numbers). (k : ℤ) × (manifest m r.low ≡ Some k)) same first.0, subst (λ (m : Numbers). (k : ℤ) × (manifest m r.high ≡ Some k)) same third.0)

    loop_known : (e : Expr) (x : Opened) → form e ≡ x → first_refusal (recurrence_demands around.numbers e.place (recurrence_of (form e))) ≡ None
        → (r : Recurrence) → recurrence_of x ≡ Some r → IsManifest r.low × IsManifest r.high
    loop_known e x at h r is = loop_manifest e r (subst (λ o. first_refusal (recurrence_demands around.numbers e.place o) ≡ None) (ap recurrence_of at ∙ is) h)

    step : (e : Expr) (y : Proved Held) → e.node ≡ roll-Node (without Held y) → Held e
    step e (Node-F.Parens of) is h = subst BoundsKnown (sym (form_parens e of.0 is)) (of.1 (parens_held e of.0 is h))
    step e (Node-F.Construct index low high elem) is h =
        by_form e (Node-F.Construct index low.0 high.0 elem.0) is (λ of q. cc)
        (two_manifest low.0 high.0 (demand (nat_le (length_between around.numbers low.0 high.0) longest) (RangeTooLong e.place)) (own_held e (Node-F.Construct index low.0 high.0 elem.0) is h))
    step e (Node-F.Fold index low high o elem) is h =
        by_form e (Node-F.Fold index low.0 high.0 o elem.0) is (λ of q. cc)
        (two_manifest low.0 high.0 (demand (nat_le (length_between around.numbers low.0 high.0) longest) (RangeTooLong e.place))
        (begin_holds (range_demands around.numbers e.place low.0 high.0) (demand (has_first o (length_between around.numbers low.0 high.0)) (EmptyReduce e.place))
        (own_held e (Node-F.Fold index low.0 high.0 o elem.0) is h)))
    step e (Node-F.For ds asked assigns last) is h =
        by_form e (Node-F.For (map (λ d. d.0) ds) asked.0 (map (λ a. a.0) assigns) last.0) is (λ of q. cc)
        (loop_known e (Node-F.For (map (λ d. d.0) ds) asked.0 (map (λ a. a.0) assigns) last.0)
        (form_plain e (Node-F.For (map (λ d. d.0) ds) asked.0 (map (λ a. a.0) assigns) last.0) is (λ of q. cc))
        (own_held e (Node-F.For (map (λ d. d.0) ds) asked.0 (map (λ a. a.0) assigns) last.0) is h))
    step e y is h = by_form e (without Held y) is (λ of q. cc) tt

    pub bounds_known : (e : Expr) → first_refusal (demands_of e around) ≡ None → BoundsKnown (form e)
    bounds_known = tree_induction Held step
