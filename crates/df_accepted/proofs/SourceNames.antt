-- The names of constants and functions of an accepted source: each constant has a number, and each function that may be called is found.
use Rattle.std.proofs.Common.{arith, ◌≡◌, ℕ, suc, ◌+◌, Bool, true, false, if◌then◌else◌, ◌||◌, List, [], ◌∷◌, ◌++◌, map, fold, length, refl, sym, ◌∙◌, ap, subst, Option, Some, None, bytes_eq, slice_get, append_assoc}
use Rattle.std.specs.Option.{is_some}
use Rattle.std.specs.List.{list_all, list_any}
use Rattle.std.proofs.lemmas.Bool.{and_parts}
use Rattle.std.proofs.lemmas.Option.{slice_get-get_or}
use Rattle.std.proofs.Math.Seq.{get_or-append_seam}
use Rattle.std.proofs.lemmas.List.{length-append}
use Rattle.df_syntax.specs.declared.tree.Sort.{Sort}
use Rattle.df_syntax.specs.declared.program.Constant.{Constant}
use Rattle.df_syntax.specs.declared.program.Function.{Function}
use Rattle.df_syntax.specs.Demands.{first_refusal}
use Rattle.df_syntax.specs.Meaning.{Name}
use Rattle.df_syntax.specs.SourceForms.{Numbers, manifest, with_number}
use Rattle.df_syntax.proofs.FirstRefusals.{begin_holds, rest_holds, head_holds, tail_holds}
use Rattle.df_names.specs.Maps.{nothing, bind}
use Rattle.df_types.specs.declared.entry.Entry.{Entry}
use Rattle.df_types.specs.declared.entry.Entry.TheVariants as entry
use Rattle.df_types.specs.Scopes as scopes
use Rattle.df_types.specs.Scopes.{Binding, bound}
use Rattle.df_types.specs.Types.{fresh}
use Rattle.df_types.specs.Sources.{fresh_demands, numbered, later, constants}
use Rattle.df_shape.specs.Demands.{manifest_demand}
use Rattle.df_shape.specs.Renamed.{Names, function_renamed}
use Rattle.df_shape.specs.Sources.{constants_demands}
use Rattle.df_accepted.proofs.Agreed.{differs, bind_new, bind_old}
use Rattle.df_accepted.proofs.FormDemands.{one_holds, is_nothing}

-- ---- names bound one after the other

pub bound_append : (as_ bs : List Binding) (names : scopes.Names) → bound (as_ ++ bs) names ≡ bound bs (bound as_ names)
bound_append [] bs names = refl
bound_append (a ∷ as_) bs names = bound_append as_ bs (bind names a.0.name a.1)

pub fresh_append : (as_ bs : List Binding) (names : scopes.Names) → first_refusal (fresh_demands (as_ ++ bs) names) ≡ None
    → (first_refusal (fresh_demands as_ names) ≡ None) × (first_refusal (fresh_demands bs (bound as_ names)) ≡ None)
fresh_append [] bs names h = (refl, h)
fresh_append (a ∷ as_) bs names h =
    let inner = bind names a.0.name a.1 in
    let rest = fresh_append as_ bs inner (tail_holds (fresh a.0 names) (fresh_demands (as_ ++ bs) inner) h) in
    let held = head_holds (fresh a.0 names) (fresh_demands (as_ ++ bs) inner) h in
    (ap (λ b. if b then first_refusal (fresh_demands as_ inner) else Some (fresh a.0 names).refusal) held ∙ rest.0, rest.1)

-- new names leave the others as they are
pub fresh_keeps : (bs : List Binding) (names : scopes.Names) (n : Name) (x : Entry) → first_refusal (fresh_demands bs names) ≡ None → names n ≡ Some x → bound bs names n ≡ Some x
fresh_keeps [] names n x h is = is
fresh_keeps (b ∷ bs) names n x h is =
    let inner = bind names b.0.name b.1 in
    let none = is_nothing (names b.0.name) (head_holds (fresh b.0 names) (fresh_demands bs inner) h) in
    fresh_keeps bs inner n x (tail_holds (fresh b.0 names) (fresh_demands bs inner) h) (bind_old names b.0.name b.1 n (differs names b.0.name n none (ap is_some is)) ∙ is)

-- ---- constants

-- constants stand for numbers, and no name is local
abbrev pub Numbered : scopes.Names → Numbers → Type 0
Numbered names numbers =
    (n : Name) → (is_some (numbers n) ≡ true → names n ≡ Some entry.Constant) × (names n ≡ Some entry.Constant → is_some (numbers n) ≡ true) × ((s : Sort) → names n ≡ Some (entry.Local s) → ⊥)

constants_numbered : (cs : List Constant) (names : scopes.Names) (numbers : Numbers) → first_refusal (constants_demands numbers cs) ≡ None → Numbered names numbers
    → Numbered (bound (constants cs) names) (fold with_number numbers cs)
constants_numbered [] names numbers h inv = inv
constants_numbered (c ∷ cs) names numbers h inv =
    constants_numbered cs (bind names c.name.name entry.Constant) (with_number numbers c) (rest_holds (manifest_demand numbers c.value) (constants_demands (with_number numbers c) cs) h) (λ n. by n (bytes_eq c.name.name n) refl)
  where
    known : is_some (manifest numbers c.value) ≡ true
    known = one_holds _ _ (begin_holds (manifest_demand numbers c.value) (constants_demands (with_number numbers c) cs) h)

    by : (n : Name) (b : Bool) → bytes_eq c.name.name n ≡ b
        → (is_some (with_number numbers c n) ≡ true → bind names c.name.name entry.Constant n ≡ Some entry.Constant)
        × (bind names c.name.name entry.Constant n ≡ Some entry.Constant → is_some (with_number numbers c n) ≡ true)
        × ((s : Sort) → bind names c.name.name entry.Constant n ≡ Some (entry.Local s) → ⊥)
    by n true is =
        let new = bind_new names c.name.name entry.Constant n is in (
          (λ some. new),
          (λ at. ap (λ b. is_some (if b then manifest numbers c.value else numbers n)) is ∙ known),
          (λ s at. let clash : Some entry.Constant ≡ Some (entry.Local s) = sym new ∙ at in cc),
        )
    by n false is =
        let old = bind_old names c.name.name entry.Constant n is in
        let same : with_number numbers c n ≡ numbers n = ap (λ b. if b then manifest numbers c.value else numbers n) is in (
          (λ some. old ∙ (inv n).0 (sym (ap is_some same) ∙ some)),
          (λ at. ap is_some same ∙ (inv n).1 (sym old ∙ at)),
          (λ s at. (inv n).2 s (sym old ∙ at)),
        )

-- what stands for neither a constant that may be named nor a local
abbrev IsOuter : Entry → Type 0
IsOuter entry.Later = Unit {0}
IsOuter entry.Constant = ⊥
IsOuter (entry.Function i) = Unit {0}
IsOuter (entry.Local s) = ⊥

abbrev AllOuter : List Binding → Type 0
AllOuter [] = Unit {0}
AllOuter (b ∷ bs) = IsOuter b.1 × AllOuter bs

outer_bound : (bs : List Binding) (names : scopes.Names) → AllOuter bs → ((n : Name) (x : Entry) → names n ≡ Some x → IsOuter x) → (n : Name) (x : Entry) → bound bs names n ≡ Some x → IsOuter x
outer_bound [] names outer h = h
outer_bound (b ∷ bs) names outer h = outer_bound bs (bind names b.0.name b.1) outer.1 (λ n x. by n x (bytes_eq b.0.name n) refl)
  where
    by : (n : Name) (x : Entry) (c : Bool) → bytes_eq b.0.name n ≡ c → bind names b.0.name b.1 n ≡ Some x → IsOuter x
    by n x true is at = let same : b.1 ≡ x = some_same b.1 x (sym (bind_new names b.0.name b.1 n is) ∙ at) in subst IsOuter same outer.0
      where
        some_same : (y z : Entry) → Some y ≡ Some z → y ≡ z
        some_same y z is = cc
    by n x false is at = h n x (sym (bind_old names b.0.name b.1 n is) ∙ at)

outer_later : (cs : List Constant) → AllOuter (later cs)
outer_later [] = tt
outer_later (c ∷ cs) = (tt, outer_later cs)

outer_numbered : (i : ℕ) (fs : List Function) → AllOuter (numbered i fs)
outer_numbered i [] = tt
outer_numbered i (f ∷ fs) = (tt, outer_numbered (suc i) fs)

outer_append : (as_ bs : List Binding) → AllOuter as_ → AllOuter bs → AllOuter (as_ ++ bs)
outer_append [] bs h k = k
outer_append (a ∷ as_) bs h k = (h.0, outer_append as_ bs h.1 k)

-- the names of constants and functions before any constant may be named
abbrev pub declared_names : List Constant → List Function → scopes.Names
declared_names cs fs = bound (later cs ++ numbered 0 fs) nothing

abbrev pub all_known : List Constant → List Function → scopes.Names
all_known cs fs = bound (constants cs) (declared_names cs fs)

pub known_numbered : (cs : List Constant) (fs : List Function) → first_refusal (constants_demands (λ name. None) cs) ≡ None
    → Numbered (all_known cs fs) (fold with_number (λ name. None) cs)
known_numbered cs fs h =
    constants_numbered cs (declared_names cs fs) (λ name. None) h (λ n. (
      (λ some. cc),
      (λ at. absurd (outer n entry.Constant at)),
      (λ s at. outer n (entry.Local s) at),
    ))
  where
    outer : (n : Name) (x : Entry) → declared_names cs fs n ≡ Some x → IsOuter x
    outer = outer_bound (later cs ++ numbered 0 fs) nothing (outer_append (later cs) (numbered 0 fs) (outer_later cs) (outer_numbered 0 fs)) (λ n x at. absurd (cc))

-- ---- functions

pub numbered_append : (i : ℕ) (as_ bs : List Function) → numbered i (as_ ++ bs) ≡ numbered i as_ ++ numbered (i + length as_) bs
numbered_append i [] bs = ap (λ k. numbered k bs) (omega arith)
numbered_append i (a ∷ as_) bs =
    ap (λ l. (a.name, entry.Function i) ∷ l) (numbered_append (suc i) as_ bs ∙ ap (λ k. numbered (suc i) as_ ++ numbered k bs) (omega arith))

seam : (pre : List Function) (f : Function) (rest : List Function) → slice_get (pre ++ f ∷ rest) (length pre) ≡ Some f
seam pre f rest =
    slice_get-get_or (pre ++ f ∷ rest) (length pre) f (let l = length-append pre (f ∷ rest) in omega (arith, l)) ∙ ap Some (get_or-append_seam pre f rest f)

module _ (all : List Function) (n : Name) where
  -- the function found stands at the place that the name tells
  abbrev pub Found : Option Function → Option Entry → Type 0
  Found o x = (f : Function) → o ≡ Some f → (i : ℕ) × (x ≡ Some (entry.Function i)) × (slice_get all i ≡ Some f)

  abbrev pub found_in : Option Function → List Function → Option Function
  found_in = fold (λ found (f : Function). if bytes_eq f.name.name n then Some f else found)

  pub found_numbered : (pre before rest : List Function) (o : Option Function) (names : scopes.Names) → all ≡ pre ++ (before ++ rest) → Found o (names n)
      → Found (found_in o before) (bound (numbered (length pre) before) names n)
  found_numbered pre [] rest o names same found = found
  found_numbered pre (f ∷ before) rest o names same found =
      subst (λ k. Found (found_in (if bytes_eq f.name.name n then Some f else o) before) (bound (numbered k before) (bind names f.name.name (entry.Function (length pre))) n)) count
      (found_numbered (pre ++ f ∷ []) before rest (if bytes_eq f.name.name n then Some f else o) (bind names f.name.name (entry.Function (length pre)))
      (same ∙ sym (append_assoc pre (f ∷ []) (before ++ rest))) (by (bytes_eq f.name.name n) refl))
    where
      count : length (pre ++ f ∷ []) ≡ suc (length pre)
      count = let l = length-append pre (f ∷ []) in omega (arith, l)

      by : (b : Bool) → bytes_eq f.name.name n ≡ b → Found (if b then Some f else o) (bind names f.name.name (entry.Function (length pre)) n)
      by true is g at =
          let equal : f ≡ g = cc in
          (length pre, bind_new names f.name.name (entry.Function (length pre)) n is, ap (λ (fs : List Function). slice_get fs (length pre)) same ∙ (seam pre f (before ++ rest) ∙ ap Some equal))
      by false is g at = let old = found g at in (old.0, bind_old names f.name.name (entry.Function (length pre)) n is ∙ old.1, old.2)

  -- a function of this name is found
  pub found_some : (before : List Function) (o : Option Function) → (is_some o || list_any (λ (f : Function). bytes_eq f.name.name n) before) ≡ true → is_some (found_in o before) ≡ true
  found_some [] o h = no_more (is_some o) h
    where
      no_more : (b : Bool) → (b || false) ≡ true → b ≡ true
      no_more true h = refl
      no_more false h = h
  found_some (f ∷ before) o h = found_some before (if bytes_eq f.name.name n then Some f else o) (by (bytes_eq f.name.name n) (is_some o) refl refl h)
    where
      by : (b c : Bool) → bytes_eq f.name.name n ≡ b → is_some o ≡ c → (c || (b || list_any (λ (f : Function). bytes_eq f.name.name n) before)) ≡ true
          → (is_some (if b then Some f else o) || list_any (λ (f : Function). bytes_eq f.name.name n) before) ≡ true
      by true c is some h = refl
      by false c is some h = ap (λ d. d || list_any (λ (f : Function). bytes_eq f.name.name n) before) some ∙ h

  -- what holds of all functions holds of the one found
  pub found_holds : (test : Function → Bool) (before : List Function) (o : Option Function) → list_all test before ≡ true → ((f : Function) → o ≡ Some f → test f ≡ true)
      → (f : Function) → found_in o before ≡ Some f → test f ≡ true
  found_holds test [] o h k f at = k f at
  found_holds test (g ∷ before) o h k f at =
      let parts = and_parts (test g) (list_all test before) h in
      found_holds test before (if bytes_eq g.name.name n then Some g else o) parts.1 (by (bytes_eq g.name.name n) parts.0) f at
    where
      by : (b : Bool) → test g ≡ true → (x : Function) → (if b then Some g else o) ≡ Some x → test x ≡ true
      by true held x is = let equal : g ≡ x = cc in subst (λ (y : Function). test y ≡ true) equal held
      by false held x is = k x is

  -- and the same of the functions in blocks
  pub found_renamed : (names : Names) (before : List Function) (o p : Option Function) → ((f : Function) → o ≡ Some f → p ≡ Some (function_renamed names f))
      → (f : Function) → found_in o before ≡ Some f → found_in p (map (function_renamed names) before) ≡ Some (function_renamed names f)
  found_renamed names [] o p k f at = k f at
  found_renamed names (g ∷ before) o p k f at =
      found_renamed names before (if bytes_eq g.name.name n then Some g else o) (if bytes_eq g.name.name n then Some (function_renamed names g) else p) (by (bytes_eq g.name.name n)) f at
    where
      by : (b : Bool) → (x : Function) → (if b then Some g else o) ≡ Some x → (if b then Some (function_renamed names g) else p) ≡ Some (function_renamed names x)
      by true x is = let equal : g ≡ x = cc in ap (λ (y : Function). Some (function_renamed names y)) equal
      by false x is = k x is
