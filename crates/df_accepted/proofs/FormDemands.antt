-- What is demanded of the form of an expression, by its node and by the part that it is.
use Rattle.std.proofs.Common.{[], ◌≡◌, Bool, true, false, not, ◌++◌, sym, ◌∙◌, ap, subst, refl, Option, Some, None, bytes_eq}
use Rattle.std.specs.Option.{is_none, is_some}
use Rattle.df_syntax.specs.declared.tree.Expr.{Expr}
use Rattle.df_syntax.specs.declared.tree.Node.{roll-Node}
use Rattle.df_syntax.specs.declared.tree.Node.TheOpen.{Node-F}
use Rattle.df_syntax.specs.Besides.{layer_map, beside_rolled}
use Rattle.df_syntax.specs.Demands.{first_refusal}
use Rattle.df_syntax.specs.Trees.{Layer, Opened, layer_of}
use Rattle.df_syntax.proofs.FirstRefusals.{begin_holds, rest_holds, head_holds}
use Rattle.df_shape.specs.declared.part.Part.{Part}
use Rattle.df_shape.specs.declared.part.Part.TheVariants.{Whole, Inside, Element, Defined, First, Next}
use Rattle.df_shape.specs.declared.answers.ShapeAnswer.{ShapeAnswer}
use Rattle.df_shape.specs.Demands as shape
use Rattle.df_shape.specs.Demands.{Demands, Around, demand, operand_part, may_be_block, own_demands, inner_demands, look_node, demands_of, call_rule, block_rule, conditional_rule, defined_rule, array_rule, range_rule, subscript_rule}
use Rattle.df_shape.specs.Renamed.{Names}
use Rattle.df_names.specs.Maps.{bind}
use Rattle.df_types.specs.Scopes as scopes
use Rattle.df_types.specs.declared.entry.Entry.{Entry}
use Rattle.df_syntax.specs.Meaning.{Name}
use Rattle.df_syntax.specs.WellShaped.{is_index}
use Rattle.std.proofs.lemmas.Slice.Eq.{bytes_eq-Decides}
use Rattle.df_accepted.proofs.Agreed.{some_behind}
use Rattle.df_accepted.proofs.Subscripted.{StandsIn, subscripts_of}

-- ---- parts

pub same_subscripts : (part : Part) → subscripts_of (operand_part part) ≡ subscripts_of part
same_subscripts (Element index None) = refl
same_subscripts (Element index (Some own)) = refl
same_subscripts Whole = refl
same_subscripts Inside = refl
same_subscripts Defined = refl
same_subscripts First = refl
same_subscripts (Next index own) = refl

pub still_stands : (names : Names) (part : Part) → StandsIn names part → StandsIn names (operand_part part)
still_stands names (Element index None) h = h
still_stands names (Element index (Some own)) h = h
still_stands names Whole h = h
still_stands names Inside h = h
still_stands names Defined h = h
still_stands names First h = h
still_stands names (Next index own) h = h

-- the index of an element is bound
abbrev pub HasIndex : scopes.Names → Part → Type 0
HasIndex scope (Element index own) = is_some (scope index) ≡ true
HasIndex scope part = Unit {0}

pub still_has : (scope : scopes.Names) (part : Part) → HasIndex scope part → HasIndex scope (operand_part part)
still_has scope (Element index own) h = h
still_has scope Whole h = h
still_has scope Inside h = h
still_has scope Defined h = h
still_has scope First h = h
still_has scope (Next index own) h = h

-- a name more leaves it bound
pub has_behind : (scope : scopes.Names) (part : Part) (name : Name) (e : Entry) → HasIndex scope part → HasIndex (bind scope name e) part
has_behind scope (Element index own) name e h = some_behind scope name e index h
has_behind scope Whole name e h = tt
has_behind scope Inside name e h = tt
has_behind scope Defined name e h = tt
has_behind scope First name e h = tt
has_behind scope (Next index own) name e h = tt

other_name : (scope : scopes.Names) (name index : Name) → is_some (scope index) ≡ true → scope name ≡ None → bytes_eq name index ≡ false
other_name scope name index h none = by (bytes_eq name index) refl
  where
    by : (b : Bool) → bytes_eq name index ≡ b → bytes_eq name index ≡ false
    by false is = is
    by true is =
        let same : name ≡ index = (bytes_eq-Decides name index).0 is in
        let bad : true ≡ false = sym h ∙ ap is_some (subst (λ (m : Name). scope m ≡ None) same none) in
        absurd (cc)

-- a name that isn't bound is not that of the index
pub no_index : (scope : scopes.Names) (part : Part) (name : Name) → HasIndex scope part → scope name ≡ None → not (is_index (subscripts_of part) name) ≡ true
no_index scope (Element index None) name h none = ap not (other_name scope name index h none)
no_index scope (Element index (Some own)) name h none = ap not (other_name scope name index h none)
no_index scope Whole name h none = refl
no_index scope Inside name h none = refl
no_index scope Defined name h none = refl
no_index scope First name h none = refl
no_index scope (Next index own) name h none = refl

pub no_block : (part : Part) → may_be_block (operand_part part) ≡ false
no_block (Element index own) = refl
no_block Whole = refl
no_block Inside = refl
no_block Defined = refl
no_block First = refl
no_block (Next index own) = refl

-- what stands alone as a block
abbrev pub is_block : Opened → Bool
is_block (Node-F.Fold index low high o elem) = true
is_block (Node-F.For definitions test assigns last) = true
is_block node = false

pub is_nothing : {T : Type 0} (o : Option T) → is_none o ≡ true → o ≡ None
is_nothing None h = refl
is_nothing (Some x) h = absurd (cc)

-- the only one of some demands
pub one_holds : (holds : Bool) (refusal : ShapeAnswer) → first_refusal (demand holds refusal) ≡ None → holds ≡ true
one_holds holds refusal h = head_holds (record { holds = holds; refusal = refusal }) [] h

-- ---- the demands on the form of an expression, by its node

-- the node alone
abbrev pub plain : Opened → Layer Expr
plain x = layer_map (Expr × shape.Look) Expr (λ p. p.0) (layer_of (Expr × shape.Look) (λ c. (c, demands_of c)) x)

abbrev pub looks : Opened → Layer (Expr × shape.Look)
looks x = layer_of (Expr × shape.Look) (λ c. (c, demands_of c)) x

pub record Kept (around : Around) (e : Expr) (x : Opened) : Type 0 where
  pub calls : first_refusal (call_rule around e.place (plain x)) ≡ None
  pub blocks : first_refusal (block_rule around e.place (plain x)) ≡ None
  pub conditionals : first_refusal (conditional_rule around e (plain x)) ≡ None
  pub defines : first_refusal (defined_rule around around.part e) ≡ None
  pub arrays : first_refusal (array_rule around.part e.place (plain x)) ≡ None
  pub ranges : first_refusal (range_rule around e (plain x)) ≡ None
  pub subscripts : first_refusal (subscript_rule around e.place (plain x)) ≡ None
  pub inner : first_refusal (inner_demands around (looks x)) ≡ None

demands_at : (around : Around) (e : Expr) (x : Opened) → e.node ≡ roll-Node x → demands_of e around ≡ own_demands around e (plain x) ++ inner_demands around (looks x)
unfolding demands_of
demands_at around e x is = ap (λ (look : shape.Look). look around) (beside_rolled shape.Look look_node e x is)

pub kept_at : (around : Around) (e : Expr) (x : Opened) → e.node ≡ roll-Node x → first_refusal (demands_of e around) ≡ None → Kept around e x
kept_at around e x is h =
    let h' : first_refusal (own_demands around e (plain x) ++ inner_demands around (looks x)) ≡ None = sym (ap (λ (d : Demands). first_refusal d) (demands_at around e x is)) ∙ h in
    let own = begin_holds (own_demands around e (plain x)) (inner_demands around (looks x)) h' in
    let a = rest_holds (call_rule around e.place (plain x)) _ own in
    let b = rest_holds (block_rule around e.place (plain x)) _ a in
    let c = rest_holds (conditional_rule around e (plain x)) _ b in
    let d = rest_holds (defined_rule around around.part e) _ c in
    let f = rest_holds (array_rule around.part e.place (plain x)) _ d in
    record {
      calls = begin_holds (call_rule around e.place (plain x)) _ own;
      blocks = begin_holds (block_rule around e.place (plain x)) _ a;
      conditionals = begin_holds (conditional_rule around e (plain x)) _ b;
      defines = begin_holds (defined_rule around around.part e) _ c;
      arrays = begin_holds (array_rule around.part e.place (plain x)) _ d;
      ranges = begin_holds (range_rule around e (plain x)) _ f;
      subscripts = rest_holds (range_rule around e (plain x)) _ f;
      inner = rest_holds (own_demands around e (plain x)) (inner_demands around (looks x)) h';
    }
