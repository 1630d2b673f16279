-- The names that the parts of a block bind are new.
use Rattle.std.proofs.Common.{◌≡◌, Bool, true, false, if◌then◌else◌, ◌&&◌, [], ◌∷◌, map, refl, sym, ◌∙◌, ap, subst, Option, Some, None}
use Rattle.std.specs.List.{list_all}
use Rattle.std.specs.Prelude.{not}
use Rattle.df_syntax.specs.declared.tree.Named.{Named}
use Rattle.df_syntax.specs.declared.tree.Expr.{Expr}
use Rattle.df_syntax.specs.declared.tree.Definition.{Definition}
use Rattle.df_syntax.specs.declared.tree.Assign.{Assign}
use Rattle.df_syntax.specs.declared.tree.Node.{roll-Node}
use Rattle.df_syntax.specs.declared.tree.Node.TheOpen.{Node-F}
use Rattle.df_syntax.specs.declared.tree.Node.TheVariants as n
use Rattle.df_syntax.specs.Trees.{Opened, layer_of}
use Rattle.df_syntax.specs.TreeInduction.{Proved, without, tree_induction}
use Rattle.df_syntax.specs.Meaning.{Name}
use Rattle.df_syntax.specs.FreshNames.{Taken, Fresh, also, is_fresh, node_fresh}
use Rattle.df_syntax.specs.SourceForms.{bare, form, Recurrence, one_element, at_most, one_more, is_recurrence, recurrence_by, recurrence_of}
use Rattle.std.proofs.lemmas.Bool.{not-true}
use Rattle.df_syntax.proofs.Tests.{and_left, and_right}
use Rattle.df_shape.proofs.Opened.{rolled_from, opened}
use Rattle.df_shape.proofs.Opened as node
use Rattle.df_shape.proofs.Bare as bare_of
use Rattle.df_shape.proofs.Kept.{fresh_rolled}

abbrev AsFresh : Expr → Type 0
AsFresh e = is_fresh (bare e) ≡ is_fresh e

plain_fresh : (e : Expr) (x : Opened) → e.node ≡ roll-Node x → ((of : Expr) → x ≡ Node-F.Parens of → ⊥) → AsFresh e
plain_fresh e x is apart = ap is_fresh (bare_of.plain e (λ of at. apart of (sym (opened e.node x is) ∙ node.parens e.node of at)))

step : (e : Expr) (y : Proved AsFresh) → e.node ≡ roll-Node (without AsFresh y) → AsFresh e
step e (Node-F.Parens of) is = ap is_fresh (bare_of.parens e of.0 (is ∙ n.rolls-Parens of.0)) ∙ (of.1 ∙ sym (fresh_rolled e (Node-F.Parens of.0) is))
step e y is = plain_fresh e (without AsFresh y) is (λ of q. cc)

-- what an expression is, read through parentheses, binds new names where the expression does
pub form_fresh : (e : Expr) (taken : Taken) → is_fresh e taken ≡ true → node_fresh (layer_of Fresh is_fresh (form e)) taken ≡ true
form_fresh e taken h =
    sym (ap (λ (f : Fresh). f taken) (fresh_rolled (bare e) (form e) (rolled_from (bare e).node))) ∙ (ap (λ (f : Fresh). f taken) (tree_induction AsFresh step e) ∙ h)

-- ---- recurrences

pub record RecurrenceFresh (r : Recurrence) (taken : Taken) : Type 0 where
  pub index_new : taken r.index ≡ false
  pub array_new : also taken r.index r.array ≡ false
  pub first_fresh : is_fresh r.first (also taken r.index) ≡ true
  pub elem_fresh : is_fresh r.elem (also (also taken r.index) r.array) ≡ true

element_fresh : (e : Expr) (x : Opened) (parts : Expr × Expr) (taken : Taken) → one_element x ≡ Some parts → node_fresh (layer_of Fresh is_fresh x) taken ≡ true → is_fresh parts.1 taken ≡ true
element_fresh e (Node-F.Array at value) parts taken is h =
    subst (λ (v : Expr). is_fresh v taken ≡ true) (second is) (and_right (is_fresh at taken) (is_fresh value taken) h)
  where
    second : Some (at, value) ≡ Some parts → value ≡ parts.1
    second q = ap (λ (o : Option (Expr × Expr)). elim o as (λ _. Expr) [ None ↦ value | Some p ↦ p.1 ]) q
element_fresh e x parts taken is h = cc

update_fresh : (x : Opened) (parts : Name × Expr × Expr) (taken : Taken) → one_more x ≡ Some parts → node_fresh (layer_of Fresh is_fresh x) taken ≡ true → is_fresh parts.2 taken ≡ true
update_fresh (Node-F.Update name at value) parts taken is h =
    subst (λ (v : Expr). is_fresh v taken ≡ true) (second is) (and_right (is_fresh at taken) (is_fresh value taken) h)
  where
    second : Some (name, at, value) ≡ Some parts → value ≡ parts.2
    second q = ap (λ (o : Option (Name × Expr × Expr)). elim o as (λ _. Expr) [ None ↦ value | Some p ↦ p.2 ]) q
update_fresh x parts taken is h = cc

-- the parts of a loop whose names are new
module _ (i t : Definition) (asked : Expr) (next step_ : Assign) (last : Expr) (taken : Taken) where
  abbrev loop : Opened
  loop = Node-F.For (i ∷ t ∷ []) asked (next ∷ step_ ∷ []) last

  module _ (h : node_fresh (layer_of Fresh is_fresh loop) taken ≡ true) where
    abbrev inner : Taken
    inner = also (also taken i.name.name) t.name.name

    abbrev second_fresh : Bool
    second_fresh = not (also taken i.name.name t.name.name) && (is_fresh t.value (also taken i.name.name) && true)

    definitions_hold : (not (taken i.name.name) && (is_fresh i.value taken && second_fresh)) ≡ true
    definitions_hold = and_left _ (is_fresh asked inner && (list_all (λ (a : Named × Fresh). a.1 inner) (map (λ (a : Assign). (a.name, is_fresh a.value)) (next ∷ step_ ∷ [])) && is_fresh last inner)) h

    second_holds : second_fresh ≡ true
    second_holds = and_right (is_fresh i.value taken) second_fresh (and_right (not (taken i.name.name)) (is_fresh i.value taken && second_fresh) definitions_hold)

    i_new : taken i.name.name ≡ false
    i_new = not-true (taken i.name.name) (and_left (not (taken i.name.name)) (is_fresh i.value taken && second_fresh) definitions_hold)

    t_new : also taken i.name.name t.name.name ≡ false
    t_new = not-true (also taken i.name.name t.name.name) (and_left (not (also taken i.name.name t.name.name)) (is_fresh t.value (also taken i.name.name) && true) second_holds)

    t_fresh : is_fresh t.value (also taken i.name.name) ≡ true
    t_fresh = and_left (is_fresh t.value (also taken i.name.name)) true (and_right (not (also taken i.name.name t.name.name)) (is_fresh t.value (also taken i.name.name) && true) second_holds)

    next_fresh : is_fresh next.value inner ≡ true
    next_fresh =
        and_left (is_fresh next.value inner) (is_fresh step_.value inner && true)
        (and_left (is_fresh next.value inner && (is_fresh step_.value inner && true)) (is_fresh last inner)
        (and_right (is_fresh asked inner) ((is_fresh next.value inner && (is_fresh step_.value inner && true)) && is_fresh last inner)
        (and_right (not (taken i.name.name) && (is_fresh i.value taken && second_fresh))
        (is_fresh asked inner && ((is_fresh next.value inner && (is_fresh step_.value inner && true)) && is_fresh last inner)) h)))

    made_of : (first limit : Expr × Expr) (update : Name × Expr × Expr) → Recurrence
    made_of first limit update = record { index = i.name.name; array = t.name.name; low = i.value; before = first.0; first = first.1; high = limit.1; elem = update.2 }

    fresh_by : (r : Recurrence) (first limit : Option (Expr × Expr)) (update : Option (Name × Expr × Expr)) → one_element (form t.value) ≡ first → one_more (form next.value) ≡ update
        → recurrence_by i t next step_ last first limit update ≡ Some r → RecurrenceFresh r taken
    fresh_by r (Some first) (Some limit) (Some update) is_first is_update is = by (is_recurrence i t next step_ last first limit update) is
      where
        whole : RecurrenceFresh (record { index = i.name.name; array = t.name.name; low = i.value; before = first.0; first = first.1; high = limit.1; elem = update.2 }) taken
        whole = record {
          index_new = i_new;
          array_new = t_new;
          first_fresh = element_fresh t.value (form t.value) first (also taken i.name.name) is_first (form_fresh t.value (also taken i.name.name) t_fresh);
          elem_fresh = update_fresh (form next.value) update inner is_update (form_fresh next.value inner next_fresh);
        }

        some : Some (record { index = i.name.name; array = t.name.name; low = i.value; before = first.0; first = first.1; high = limit.1; elem = update.2 }) ≡ Some r
            → record { index = i.name.name; array = t.name.name; low = i.value; before = first.0; first = first.1; high = limit.1; elem = update.2 } ≡ r
        some q = cc

        by : (b : Bool) → (if b then Some (record { index = i.name.name; array = t.name.name; low = i.value; before = first.0; first = first.1; high = limit.1; elem = update.2 }) else None) ≡ Some r
            → RecurrenceFresh r taken
        by true q = subst (λ x. RecurrenceFresh x taken) (some q) whole
        by false q = cc
    fresh_by r None limit update is_first is_update is = cc
    fresh_by r (Some first) None update is_first is_update is = cc
    fresh_by r (Some first) (Some limit) None is_first is_update is = cc

pub recurrence_fresh : (x : Opened) (r : Recurrence) (taken : Taken) → recurrence_of x ≡ Some r → node_fresh (layer_of Fresh is_fresh x) taken ≡ true → RecurrenceFresh r taken
recurrence_fresh (Node-F.For (i ∷ t ∷ []) asked (next ∷ step_ ∷ []) last) r taken is h =
    fresh_by i t asked next step_ last taken h r (one_element (form t.value)) (at_most (form asked)) (one_more (form next.value)) refl refl is
recurrence_fresh x r taken is h = cc
