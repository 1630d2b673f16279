-- Names and inputs, one more in each turn.
use Rattle.std.proofs.Common.{◌≡◌, ℕ, ℤ, pos, ◌+◌, ◌<◌, Bool, true, false, ◌||◌, if◌then◌else◌, List, [], ◌∷◌, ◌++◌, length, take, get_or, refl, sym, ◌∙◌, ap, bytes_eq, fold, map, Option, Some, None, arith}
use Rattle.std.specs.List.{list_any}
use Rattle.std.specs.Option.{is_some}
use Rattle.std.proofs.lemmas.List.Folds.{list_any-append}
use Rattle.std.proofs.lemmas.List.Elements.{All-nil, All-cons}
use Rattle.std.proofs.lemmas.Int.{ints}
use Rattle.std.proofs.lemmas.Slice.Eq.{bytes_eq-Decides}
use Rattle.df_values.specs.Values.{least, greatest}
use Rattle.df_syntax.specs.declared.tree.Sort.TheVariants as of
use Rattle.df_syntax.specs.declared.tree.Parameter.{Parameter}
use Rattle.df_syntax.specs.declared.tree.Expr.{Expr}
use Rattle.df_syntax.specs.declared.program.Constant.{Constant}
use Rattle.df_syntax.specs.declared.program.Range.{Range}
use Rattle.df_values.specs.declared.inputs.Extent.{Extent}
use Rattle.df_values.specs.declared.inputs.Input.{Input}
use Rattle.df_syntax.specs.Trees.{map_same}
use Rattle.df_syntax.specs.Meaning.{Name}
use Rattle.df_syntax.specs.SourceForms.{Numbers, manifest, with_number}
use Rattle.df_syntax.specs.SourceMeaning.{extent_over, extent_of, input_of, inputs_of}
use Rattle.df_names.specs.Maps.{bind}
use Rattle.df_shape.specs.declared.standing.Standing.{Standing}
use Rattle.df_shape.specs.Shaped.{constant_standing, constant_names}
use Rattle.df_shape.specs.Bounded.{IsBounded, IsBoundedRange, AreBounded, HaveBoundedExtents}
use Rattle.df_shape.specs.Entries.{numbers_by, standing_in, extents_found, or_empty, input_found}
use Rattle.df_syntax.proofs.Pushed.{taken}
use Rattle.std.proofs.lemmas.Bool.{or_parts}

-- ---- constants

-- a name that is no constant's has no number
unnamed : (cs : List Constant) (start : Numbers) (name : Name) → list_any (λ (c : Constant). bytes_eq c.name.name name) cs ≡ false
    → fold with_number start cs name ≡ start name
unnamed [] start name h = refl
unnamed (c ∷ cs) start name h =
    let parts = or_parts (bytes_eq c.name.name name) (list_any (λ (c : Constant). bytes_eq c.name.name name) cs) h in
    unnamed cs (with_number start c) name parts.1 ∙ ap (λ b. if b then manifest start c.value else start name) parts.0

all_by : (numbers : Numbers) (cs : List Constant) (name : Name) → numbers ≡ numbers_by cs → (b : Bool)
    → list_any (λ (c : Constant). bytes_eq c.name.name name) cs ≡ b
    → (if b then constant_standing (numbers name) else None) ≡ constant_standing (numbers name)
all_by numbers cs name is true h = refl
all_by numbers cs name is false h = ap constant_standing (sym (ap (λ (f : Numbers). f name) is ∙ unnamed cs (λ name. None) name h))

-- the names of all constants
pub all_constants : (numbers : Numbers) (cs : List Constant) → numbers ≡ numbers_by cs → standing_in numbers cs ≡ constant_names numbers
all_constants numbers cs is = λ i. λ name. all_by numbers cs name is (list_any (λ (c : Constant). bytes_eq c.name.name name) cs) refl i

entered : (a b : Bool) (s v : Option Standing) → (b ≡ true → v ≡ s) → (if b then v else (if a then s else None)) ≡ (if a || (b || false) then s else None)
entered true true s v h = h refl
entered true false s v h = refl
entered false true s v h = h refl
entered false false s v h = refl

missed : (a b : Bool) (s : Option Standing) → (b ≡ true → s ≡ None) → (if a then s else None) ≡ (if a || (b || false) then s else None)
missed true b s h = refl
missed false true s h = sym (h refl)
missed false false s h = refl

named_last : (numbers : Numbers) (cs : List Constant) (c : Constant) (name : Name)
    → (if list_any (λ (c : Constant). bytes_eq c.name.name name) cs || (bytes_eq c.name.name name || false) then constant_standing (numbers name) else
    None) ≡ standing_in numbers (cs ++ c ∷ []) name
named_last numbers cs c name =
    ap (λ b. if b then constant_standing (numbers name) else None) (sym (list_any-append (λ (c : Constant). bytes_eq c.name.name name) cs (c ∷ [])))

-- one constant more, with a number or without
pub constant_bound : (numbers : Numbers) (cs : List Constant) (i : ℕ) (c : Constant) (s : Standing) → i < length cs → c ≡ get_or cs i c
    → constant_standing (numbers c.name.name) ≡ Some s
    → bind (standing_in numbers (take i cs)) c.name.name s ≡ standing_in numbers (take (i + 1) cs)
unfolding bind
constant_bound numbers cs i c s h at is =
    (λ j. λ name.
    (entered (list_any (λ (c : Constant). bytes_eq c.name.name name) (take i cs)) (bytes_eq c.name.name name) (constant_standing (numbers name)) (Some s)
    (λ t. sym is ∙ ap (λ (n : Name). constant_standing (numbers n)) ((bytes_eq-Decides c.name.name name).0 t))
    ∙ named_last numbers (take i cs) c name) j)
    ∙ ap (standing_in numbers) (sym (taken cs i c h at))

pub constant_missed : (numbers : Numbers) (cs : List Constant) (i : ℕ) (c : Constant) → i < length cs → c ≡ get_or cs i c
    → constant_standing (numbers c.name.name) ≡ None
    → standing_in numbers (take i cs) ≡ standing_in numbers (take (i + 1) cs)
constant_missed numbers cs i c h at is =
    (λ j. λ name.
    (missed (list_any (λ (c : Constant). bytes_eq c.name.name name) (take i cs)) (bytes_eq c.name.name name) (constant_standing (numbers name))
    (λ t. ap (λ (n : Name). constant_standing (numbers n)) (sym ((bytes_eq-Decides c.name.name name).0 t)) ∙ is)
    ∙ named_last numbers (take i cs) c name) j)
    ∙ ap (standing_in numbers) (sym (taken cs i c h at))

-- ---- ranges

or_else : Option Extent → Option Extent → Option Extent
or_else None o = o
or_else (Some e) o = Some e

if_else : (b : Bool) (e : Extent) (o p : Option Extent) → (if b then Some e else or_else o p) ≡ or_else (if b then Some e else o) p
unfolding or_else
if_else true e o p = refl
if_else false e o p = refl

found_last : (value : Expr → ℤ) (rs : List Range) (r : Range) (name : Name)
    → extents_found value (rs ++ r ∷ []) name ≡ or_else (extents_found value rs name)
    (if bytes_eq r.name.name name then Some (extent_over (value r.low) (value r.high)) else None)
unfolding or_else
found_last value [] r name = refl
found_last value (q ∷ rs) r name =
    ap (λ o. if bytes_eq q.name.name name then Some (extent_over (value q.low) (value q.high)) else o) (found_last value rs r name)
    ∙ if_else (bytes_eq q.name.name name) (extent_over (value q.low) (value q.high)) (extents_found value rs name)
    (if bytes_eq r.name.name name then Some (extent_over (value r.low) (value r.high)) else None)

first_named : (b : Bool) (o : Option Extent) (e : Extent) → (b ≡ true → o ≡ None) → (if b then Some e else o) ≡ or_else o (if b then Some e else None)
unfolding or_else
first_named true None e h = refl
first_named true (Some x) e h = absurd (let f : Some x ≡ None = h refl in cc)
first_named false None e h = refl
first_named false (Some x) e h = refl

named_before : (b : Bool) (o p : Option Extent) → (b ≡ true → ¬ (o ≡ None)) → o ≡ or_else o (if b then p else None)
unfolding or_else
named_before true None p h = absurd (h refl refl)
named_before true (Some x) p h = refl
named_before false None p h = refl
named_before false (Some x) p h = refl

none_there : (o : Option Extent) → is_some o ≡ false → o ≡ None
none_there None h = refl
none_there (Some x) h = absurd (cc)

some_there : (o : Option Extent) → is_some o ≡ true → ¬ (o ≡ None)
some_there None h is = absurd (cc)
some_there (Some x) h is = absurd (cc)

-- one range more, of a new name or of one before
pub range_bound : (value : Expr → ℤ) (rs : List Range) (i : ℕ) (r : Range) → i < length rs → r ≡ get_or rs i r
    → is_some (extents_found value (take i rs) r.name.name) ≡ false
    → bind (extents_found value (take i rs)) r.name.name (extent_over (value r.low) (value r.high)) ≡ extents_found value (take (i + 1) rs)
unfolding bind
range_bound value rs i r h at is =
    (λ j. λ name.
    (first_named (bytes_eq r.name.name name) (extents_found value (take i rs) name) (extent_over (value r.low) (value r.high))
    (λ t. ap (extents_found value (take i rs)) (sym ((bytes_eq-Decides r.name.name name).0 t)) ∙ none_there (extents_found value (take i rs) r.name.name) is)
    ∙ sym (found_last value (take i rs) r name)) j)
    ∙ ap (extents_found value) (sym (taken rs i r h at))

pub range_missed : (value : Expr → ℤ) (rs : List Range) (i : ℕ) (r : Range) → i < length rs → r ≡ get_or rs i r
    → is_some (extents_found value (take i rs) r.name.name) ≡ true
    → extents_found value (take i rs) ≡ extents_found value (take (i + 1) rs)
range_missed value rs i r h at is =
    (λ j. λ name.
    (named_before (bytes_eq r.name.name name) (extents_found value (take i rs) name) (Some (extent_over (value r.low) (value r.high)))
    (λ t none. some_there (extents_found value (take i rs) r.name.name) is
    (ap (extents_found value (take i rs)) ((bytes_eq-Decides r.name.name name).0 t) ∙ none))
    ∙ sym (found_last value (take i rs) r name)) j)
    ∙ ap (extents_found value) (sym (taken rs i r h at))

one_bounded : (b : Bool) (e : Extent) (o : Option Extent) → IsBounded e.lo e.n → IsBoundedRange o → IsBoundedRange (if b then Some e else o)
one_bounded true e o h k = h
one_bounded false e o h k = k

-- one range more whose bounds are ordinary
pub range_bounded : (extents : Name → Option Extent) (name : Name) (e : Extent) → AreBounded extents → IsBounded e.lo e.n → AreBounded (bind extents name e)
unfolding bind
range_bounded extents name e h k = λ other. one_bounded (bytes_eq name other) e (extents other) k (h other)

-- ---- inputs

or_empty_if : (b : Bool) (e : Extent) (o : Option Extent) → or_empty (if b then Some e else o) ≡ (if b then e else or_empty o)
or_empty_if true e o = refl
or_empty_if false e o = refl

extent_found : (value : Expr → ℤ) (rs : List Range) (name : Name) → or_empty (extents_found value rs name) ≡ extent_of value rs name
extent_found value [] name = refl
extent_found value (r ∷ rs) name =
    or_empty_if (bytes_eq r.name.name name) (extent_over (value r.low) (value r.high)) (extents_found value rs name)
    ∙ ap (λ e. if bytes_eq r.name.name name then extent_over (value r.low) (value r.high) else e) (extent_found value rs name)

input_is : (value : Expr → ℤ) (rs : List Range) (p : Parameter) → input_found (extents_found value rs) p ≡ input_of value rs p
input_is value rs p =
    ap (λ (e : Extent). elim p.sort as (λ s. Input)
    [ of.Basic b ↦ record { name = p.name.name; basic = b; extent = None } | of.Array b ↦ record { name = p.name.name; basic = b; extent = Some e } ])
    (extent_found value rs p.name.name)

-- all parameters as inputs
pub all_inputs : (value : Expr → ℤ) (rs : List Range) (ps : List Parameter) (found : Name → Option Extent) → found ≡ extents_found value rs
    → map (input_found found) ps ≡ inputs_of value rs ps
all_inputs value rs ps found is =
    ap (λ (f : Name → Option Extent). map (input_found f) ps) is
    ∙ map_same Parameter Input (input_found (extents_found value rs)) (input_of value rs) (input_is value rs) ps

-- an array without a range has no elements
empty_bounded : IsBounded (pos 0) 0
unfolding least greatest
empty_bounded = record { low = (omega (arith, ints), omega (arith, ints)); high = omega (arith, ints) }

or_empty_bounded : (o : Option Extent) → IsBoundedRange o → IsBoundedRange (Some (or_empty o))
or_empty_bounded None h = empty_bounded
or_empty_bounded (Some e) h = h

input_bounded : (extents : Name → Option Extent) → AreBounded extents → (p : Parameter) → IsBoundedRange (input_found extents p).extent
input_bounded extents h p =
    elim p.sort as (λ s. IsBoundedRange (elim s as (λ s. Input)
    [ of.Basic b ↦ record { name = p.name.name; basic = b; extent = None } | of.Array b ↦ record { name = p.name.name; basic = b; extent = Some (or_empty (extents p.name.name)) } ]).extent) [
      | of.Basic b ↦ tt
      | of.Array b ↦ or_empty_bounded (extents p.name.name) (h p.name.name)
    ]

pub inputs_bounded : (extents : Name → Option Extent) → AreBounded extents → (ps : List Parameter) → HaveBoundedExtents (map (input_found extents) ps)
inputs_bounded extents h [] = All-nil (λ (p : Input). IsBoundedRange p.extent)
inputs_bounded extents h (p ∷ ps) =
    All-cons (λ (p : Input). IsBoundedRange p.extent) (input_found extents p) (map (input_found extents) ps) (input_bounded extents h p) (inputs_bounded extents h ps)
