-- The parts of a loop that is a recurrence.
use Rattle.std.proofs.Common.{◌≡◌, Bool, true, false, not, if◌then◌else◌, refl, sym, ap, Option, Some, None, bytes_eq}
use Rattle.std.proofs.lemmas.Bool.{and_parts, not-true}
use Rattle.std.proofs.lemmas.Slice.Eq.{bytes_eq-Decides}
use Rattle.df_values.specs.declared.values.Basic as basic
use Rattle.df_values.specs.declared.values.Basic.TheVariants.{Integer, Boolean}
use Rattle.df_syntax.specs.declared.tree.Sort.{Sort}
use Rattle.df_syntax.specs.declared.tree.Sort.TheVariants as of
use Rattle.df_syntax.specs.declared.tree.Expr.{Expr}
use Rattle.df_syntax.specs.declared.tree.Assign.{Assign}
use Rattle.df_syntax.specs.declared.tree.Definition.{Definition}
use Rattle.df_syntax.specs.declared.tree.Node.TheOpen.{Node-F}
use Rattle.df_syntax.specs.Meaning.{Name}
use Rattle.df_syntax.specs.SourceForms.{form, is_integer, is_array, is_name, is_next, names_it, one_element, one_more, is_recurrence, recurrence_by, Recurrence}
use Rattle.df_syntax.specs.Trees.{Opened}

-- what a recurrence is made of
pub record Loop (i t : Definition) (next step : Assign) (last : Expr) (r : Recurrence) : Type 0 where
  pub before : Expr
  pub first : Expr
  pub array : Name
  pub at : Expr
  pub elem : Expr
  pub limit : Expr
  pub index_sort : i.sort ≡ of.Basic Integer
  pub basic : basic.Basic
  pub array_sort : t.sort ≡ of.Array basic
  pub value_is : form t.value ≡ Node-F.Array before first
  pub next_is : form next.value ≡ Node-F.Update array at elem
  pub updated : t.name.name ≡ array
  pub last_is : is_name t.name.name last ≡ true
  pub unnamed : names_it i.name.name first ≡ false
  pub parts_are : r ≡ record { index = i.name.name; array = t.name.name; low = i.value; before = before; first = first; high = limit; elem = elem }

element_form : (x : Opened) (first : Expr × Expr) → one_element x ≡ Some first → x ≡ Node-F.Array first.0 first.1
element_form (Node-F.Array at value) first is = let same : (at, value) ≡ first = cc in ap (λ (p : Expr × Expr). Node-F.Array p.0 p.1) same
element_form x first is = absurd (cc)

more_form : (x : Opened) (update : Name × Expr × Expr) → one_more x ≡ Some update → x ≡ Node-F.Update update.0 update.1 update.2
more_form (Node-F.Update name at value) update is = let same : (name, at, value) ≡ update = cc in ap (λ (p : Name × Expr × Expr). Node-F.Update p.0 p.1 p.2) same
more_form x update is = absurd (cc)

integer_is : (s : Sort) → is_integer s ≡ true → s ≡ of.Basic Integer
integer_is (of.Basic Integer) h = refl
integer_is (of.Basic Boolean) h = absurd (cc)
integer_is (of.Array b) h = absurd (cc)

array_is : (s : Sort) → is_array s ≡ true → (b : basic.Basic) × (s ≡ of.Array b)
array_is (of.Array b) h = (b, refl)
array_is (of.Basic b) h = absurd (cc)

abbrev recurrence_is : Definition → Definition → Expr × Expr → Expr × Expr → Name × Expr × Expr → Recurrence
recurrence_is i t first limit update = record { index = i.name.name; array = t.name.name; low = i.value; before = first.0; first = first.1; high = limit.1; elem = update.2 }

pub loop_of : (i t : Definition) (next step : Assign) (last : Expr) (r : Recurrence) (o : Option (Expr × Expr)) (p : Option (Expr × Expr)) (q : Option (Name × Expr × Expr))
    → one_element (form t.value) ≡ o → one_more (form next.value) ≡ q → recurrence_by i t next step last o p q ≡ Some r → Loop i t next step last r
loop_of i t next step last r None p q at_o at_q is = absurd (cc)
loop_of i t next step last r (Some first) None q at_o at_q is = absurd (cc)
loop_of i t next step last r (Some first) (Some limit) None at_o at_q is = absurd (cc)
loop_of i t next step last r (Some first) (Some limit) (Some update) at_o at_q is =
    let found = guarded (is_recurrence i t next step last first limit update) is in
    let a = and_parts (is_integer i.sort) _ found.0 in
    let b = and_parts (is_array t.sort) _ a.1 in
    let c = and_parts (is_name i.name.name limit.0) _ b.1 in
    let d = and_parts (bytes_eq t.name.name next.name.name) _ c.1 in
    let e = and_parts (bytes_eq t.name.name update.0) _ d.1 in
    let f = and_parts (is_name i.name.name update.1) _ e.1 in
    let g = and_parts (bytes_eq i.name.name step.name.name) _ f.1 in
    let h = and_parts (is_next i.name.name (form step.value)) _ g.1 in
    let k = and_parts (is_name t.name.name last) (not (names_it i.name.name first.1)) h.1 in
    let array = array_is t.sort b.0 in
    record {
      before = first.0;
      first = first.1;
      array = update.0;
      at = update.1;
      elem = update.2;
      limit = limit.1;
      index_sort = integer_is i.sort a.0;
      basic = array.0;
      array_sort = array.1;
      value_is = element_form (form t.value) first at_o;
      next_is = more_form (form next.value) update at_q;
      updated = (bytes_eq-Decides t.name.name update.0).0 e.0;
      last_is = k.0;
      unnamed = not-true _ k.1;
      parts_are = sym found.1;
    }
  where
    guarded : (b : Bool) → (if b then Some (recurrence_is i t first limit update) else None) ≡ Some r → (b ≡ true) × (recurrence_is i t first limit update ≡ r)
    guarded true same = (refl, cc)
    guarded false same = absurd (cc)
