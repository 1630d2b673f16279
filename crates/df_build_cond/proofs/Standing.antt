-- A table's entries, read as a function.
use Rattle.std.proofs.Common.{arith, ◌≡◌, ℕ, List, [], ap, ◌∙◌, Option, Some, None, if◌then◌else◌, ◌==◌, true, false, Bool, refl, sym, Result, Ok, Err, OnOk, OnErr}
use Rattle.std.specs.Ordering.{nat_cmp, is_eq}
use Rattle.std.specs.BTreeMap.{BTreeMap, is_at, UpdatesBy, IsUnchanged}
use Rattle.std.specs.Map.{lookup}
use Rattle.df_build_cond.specs.Noted.{Noted, Entry, nothing, noted, entry_in}
use Rattle.df_build_cond.specs.Tables.{else_at, table_of}
use Rattle.df_build_cond.specs.declared.tables.Table.{Table}

abbrev read : List (ℕ × ℕ) → Noted
read es = λ number. lookup (is_at (nat_cmp number)) es

abbrev joined : Noted → List (ℕ × ℕ) → Noted
joined rows es = λ number. else_at (rows number) (read es number)

abbrev with_parts : List Entry → BTreeMap ℕ ℕ → Table
with_parts rows m = record { rows = rows; others = m }

pub no_entries : (rows : List Entry) (m : BTreeMap ℕ ℕ) → entry_in rows ≡ nothing → m.entries ≡ [] → table_of (with_parts rows m) ≡ nothing
unfolding table_of
no_entries rows m none empty = ap (λ f. joined f m.entries) none ∙ ap (joined nothing) empty

pub read_rows : (table : Table) (number cell : ℕ) → Some cell ≡ entry_in table.rows number → Some cell ≡ table_of table number
unfolding table_of
read_rows table number cell is = ap (λ o. else_at o (read table.others.entries number)) is

pub read_others : (table : Table) (number : ℕ) (found : Option ℕ) → None ≡ entry_in table.rows number → found ≡ read table.others.entries number → found ≡ table_of table number
unfolding table_of
read_others table number found none is = is ∙ ap (λ o. else_at o (read table.others.entries number)) none

is_eq-nat_cmp : (a b : ℕ) → is_eq (nat_cmp a b) ≡ (a == b)
is_eq-nat_cmp a b = grind arith

-- one entry more in the rows
pub with_row : (rows new : List Entry) (m : BTreeMap ℕ ℕ) (number cell : ℕ) → entry_in new ≡ noted (entry_in rows) number cell
    → table_of (with_parts new m) ≡ noted (table_of (with_parts rows m)) number cell
unfolding table_of noted
with_row rows new m number cell is = λ i. λ other. (ap (λ (f : Noted). else_at (f other) (read m.entries other)) is ∙ by (number == other) other) i
  where
    by : (b : Bool) (other : ℕ)
        → else_at (if b then Some cell else entry_in rows other) (read m.entries other) ≡ (if b then Some cell else else_at (entry_in rows other) (read m.entries other))
    by true other = refl
    by false other = refl

-- one entry more in the map, where the rows have none
pub with_entry : (rows new : List Entry) (m n : BTreeMap ℕ ℕ) (number cell : ℕ) → entry_in rows number ≡ None → entry_in new ≡ entry_in rows
    → UpdatesBy nat_cmp (nat_cmp number) m n (Some cell) → table_of (with_parts new n) ≡ noted (table_of (with_parts rows m)) number cell
unfolding table_of noted
with_entry rows new m n number cell none same h = λ i. λ other.
    (ap (λ (f : Noted). else_at (f other) (read n.entries other)) same
    ∙ (ap (else_at (entry_in rows other)) (h.0 other ∙ ap (λ b. if b then Some cell else read m.entries other) (is_eq-nat_cmp number other)) ∙ by (number == other) other refl)) i
  where
    by : (b : Bool) (other : ℕ) → (number == other) ≡ b
        → else_at (entry_in rows other) (if b then Some cell else read m.entries other) ≡ (if b then Some cell else else_at (entry_in rows other) (read m.entries other))
    by true other at = let here : number ≡ other = grind (arith, at) in ap (λ o. else_at o (Some cell)) (ap (entry_in rows) (sym here) ∙ none)
    by false other at = refl

pub same_entries : (rows new : List Entry) (m n : BTreeMap ℕ ℕ) → entry_in new ≡ entry_in rows → IsUnchanged m n → table_of (with_parts new n) ≡ table_of (with_parts rows m)
unfolding table_of
same_entries rows new m n is same = ap (λ f. joined f n.entries) is ∙ ap (joined (entry_in rows)) same

-- ---- what holds on success, or on a refusal

pub on_ok : {A E P Q : Type 0} (r : Result A E) → (P → Q) → OnOk r P → OnOk r Q
on_ok (Ok a) f p = f p
on_ok (Err e) f p = tt

pub on_err : {A E Q : Type 0} (r : Result A E) → Q → OnErr r Q
on_err (Ok a) q = tt
on_err (Err e) q = q
