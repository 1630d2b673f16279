-- What a reader of inputs has at hand, line after line.
use Rattle.std.proofs.Common.{◌≡◌, ◌≢◌, ℕ, zero, suc, ◌+◌, ◌<◌, ◌≤◌, Bool, true, false, cond, List, [], ◌∷◌, ◌++◌, length, map, get_or, set, refl, sym, ap, ◌∙◌, subst, arith, append_assoc, append-nil, Option, Some, None, unwrap_or, ⊎_elim, Result, Ok, Err, IsErrAnd, IfErr}
use Rattle.std.specs.Prelude.{slice_get, bytes_eq, replicate, option_map}
use Rattle.std.specs.Str.Lines.{lines}
use Rattle.std.proofs.lemmas.Bool.{false≢true, cases_eq}
use Rattle.std.proofs.lemmas.List.{length-append, length-map, length-set, map-set}
use Rattle.std.proofs.lemmas.Option.{slice_get_within, slice_get-map, slice_get-get_or}
use Rattle.std.proofs.lemmas.Slice.Eq.{bytes_eq-Decides}
use Rattle.df_values.specs.declared.values.Value.{Value}
use Rattle.df_cells.specs.declared.cells.InputDecl.{InputDecl}
use Rattle.df_values.specs.Inputs.{Declaration, IsAsDeclared, AreValid}
use Rattle.df_iotext.specs.Inputs.{Given, nothing_given, IsOpen, IsUnwanted, TakesLine, TakesLines, RefusesLine, IsFirstMissing, IsRefused, HaveOwnNames}
use Rattle.df_cells.specs.Cells.{declaration_of}
use Rattle.df_iotext.specs.Inputs.TakesLine.{idle, gives}
use Rattle.df_iotext.specs.Inputs.IsRefused.{line_refused, input_missing}
use Rattle.df_iotext.specs.declared.inputs.InputAnswer.{InputAnswer}
use Rattle.df_iotext.specs.declared.inputs.InputAnswer.TheVariants.{MissingInput}
use Rattle.df_iotext.specs.Readers.{Places, place_of_name, HasGiven, HasPlaces, IsFirstPlaced}

-- the lines so far, what they gave, and what the reader has of that
pub record LinesRead (decls : List InputDecl) (text rest : List ℕ) (number : ℕ) (places : Places) (lists : List (List Value)) : Type 0 where
  pub before : List (List ℕ)
  pub given : Given
  pub parts : lines text ≡ before ++ lines rest
  pub taken : TakesLines decls (nothing_given decls) before given
  pub state : HasGiven decls places lists given
  pub counted : length before ≡ number
  pub room : number + length rest ≤ length text

-- ---- names and their places

same_name : (name other : List ℕ) → bytes_eq name other ≡ true → name ≡ other
same_name name other e = (bytes_eq-Decides name other).0 e

names_match : (name other : List ℕ) → name ≡ other → bytes_eq name other ≡ true
names_match name other e = (bytes_eq-Decides name other).1 e

same_decl : (decls : List InputDecl) (k : ℕ) (d e : InputDecl) → slice_get decls k ≡ Some d → slice_get decls k ≡ Some e → d ≡ e
same_decl decls k d e p q = let same : Some d ≡ Some e = sym p ∙ q in cc

some_same : (i k : ℕ) → ◌≡◌ {A = Option ℕ} (Some i) (Some k) → i ≡ k
some_same i k e = cc

pub no_places : (decls : List InputDecl) (places : Places) → places ≡ [] → HasPlaces decls places 0
no_places decls places none = subst (λ ps. HasPlaces decls ps 0) (sym none) (record {
  found = λ name k e. absurd (cc);
  there = λ k decl below at. absurd (omega arith);
})

found_by : (decls : List InputDecl) (old : Places) (i : ℕ) (d : InputDecl) (q : List ℕ) (k : ℕ) (t : Bool) → slice_get decls i ≡ Some d → HasPlaces decls old i → bytes_eq d.name q ≡ t
    → cond t (Some i) (place_of_name old q) ≡ Some k → (k < i + 1) × ((decl : InputDecl) × (slice_get decls k ≡ Some decl) × (decl.name ≡ q))
found_by decls old i d q k true at h e place =
    let same : i ≡ k = some_same i k place in
    (omega arith, (d, subst (λ j. slice_get decls j ≡ Some d) same at, same_name d.name q e))
found_by decls old i d q k false at h e place = let f = h.found q k place in (omega (arith, f.0), f.1)

there_by : (decls : List InputDecl) (old : Places) (i : ℕ) (d : InputDecl) (k : ℕ) (decl : InputDecl) (t : Bool) → HaveOwnNames decls → slice_get decls i ≡ Some d → HasPlaces decls old i
    → k < i + 1 → slice_get decls k ≡ Some decl → bytes_eq d.name decl.name ≡ t → cond t (Some i) (place_of_name old decl.name) ≡ Some k
there_by decls old i d k decl true names at h below there e = ap Some (names.differ i k d decl at there (same_name d.name decl.name e))
there_by decls old i d k decl false names at h below there e =
    h.there k decl
    (⊎_elim {C = k < i} (λ same. absurd (false≢true (sym e ∙ names_match d.name decl.name (ap (λ x. x.name) (same_decl decls i d decl at (subst (λ j. slice_get decls j ≡ Some decl) same there))))))
    (λ apart. omega (arith, apart)) (cases_eq k i))
    there

pub one_place_more : (decls : List InputDecl) (old new : Places) (i : ℕ) (d : InputDecl) → HaveOwnNames decls → slice_get decls i ≡ Some d → HasPlaces decls old i
    → ((q : List ℕ) → place_of_name new q ≡ cond (bytes_eq d.name q) (Some i) (place_of_name old q)) → HasPlaces decls new (i + 1)
one_place_more decls old new i d names at h updates = record {
  found = λ q k place. found_by decls old i d q k (bytes_eq d.name q) at h refl (sym (updates q) ∙ place);
  there = λ k decl below there. updates decl.name ∙ there_by decls old i d k decl (bytes_eq d.name decl.name) names at h below there refl;
}

-- ---- at the start

nothing_at : (decls : List InputDecl) (k : ℕ) (decl : InputDecl) → slice_get decls k ≡ Some decl → slice_get (nothing_given decls) k ≡ Some None
nothing_at decls k decl at = slice_get-map (λ _. None) decls k ∙ ap (option_map (λ _. None)) at

no_lists : (decls : List InputDecl) → replicate (length decls) [] ≡ map (λ values. unwrap_or values []) (nothing_given decls)
no_lists [] = refl
no_lists (d ∷ decls) = ap (λ ls. [] ∷ ls) (no_lists decls)

pub has_given_nothing : (decls : List InputDecl) (places : Places) (lists : List (List Value)) → HasPlaces decls places (length decls) → lists ≡ replicate (length decls) [] → HasGiven decls places lists (nothing_given decls)
has_given_nothing decls places lists h empty = record {
  as_many = length-map decls (λ _. None);
  found = λ name k place.
      let f = h.found name k place in
      (f.1.0, record { declared = f.1.1; named = f.1.2; empty = nothing_at decls k f.1.0 f.1.1 });
  there = λ name k decl o.
      subst (λ n. place_of_name places n ≡ Some k) o.named (h.there k decl (slice_get_within decls k decl o.declared) o.declared);
  listed = empty ∙ no_lists decls;
}

-- ---- a line's values

pub open_place : (decls : List InputDecl) (places : Places) (lists : List (List Value)) (given : Given) (name : List ℕ) (k : ℕ) (d : InputDecl) → HasGiven decls places lists given → place_of_name places name ≡ Some k
    → slice_get decls k ≡ Some d → IsOpen decls given name k d
open_place decls places lists given name k d h place at =
    let f = h.found name k place in
    subst (IsOpen decls given name k) (same_decl decls k f.0 d f.1.declared at) f.1

pub place_within : (decls : List InputDecl) (places : Places) (lists : List (List Value)) (given : Given) (name : List ℕ) (k : ℕ) → HasGiven decls places lists given → place_of_name places name ≡ Some k
    → (k < length decls) × (k < length lists)
place_within decls places lists given name k h place =
    let f = h.found name k place in
    let below = slice_get_within decls k f.0 f.1.declared in
    (below, omega (arith, below, h.as_many, ap length h.listed, length-map given (λ values. unwrap_or values [])))

get_set_other : {X : Type 0} (xs : List X) (i j : ℕ) (x : X) → j ≢ i → slice_get (set xs i x) j ≡ slice_get xs j
get_set_other [] i j x apart = refl
get_set_other (y ∷ xs) zero zero x apart = absurd (apart refl)
get_set_other (y ∷ xs) zero (suc j) x apart = refl
get_set_other (y ∷ xs) (suc i) zero x apart = refl
get_set_other (y ∷ xs) (suc i) (suc j) x apart = get_set_other xs i j x (λ e. apart (ap suc e))

get_set_same : {X : Type 0} (xs : List X) (i : ℕ) (x y : X) → slice_get (set xs i x) i ≡ Some y → y ≡ x
get_set_same [] i x y e = absurd (cc)
get_set_same (z ∷ xs) zero x y e = let same : Some x ≡ Some y = e in cc
get_set_same (z ∷ xs) (suc i) x y e = get_set_same xs i x y e

given_found : (decls : List InputDecl) (places : Places) (lists : List (List Value)) (given : Given) (name : List ℕ) (k : ℕ) (values : List Value) (q : List ℕ) (j : ℕ) (t : Bool) → HasGiven decls places lists given
    → place_of_name places name ≡ Some k → bytes_eq name q ≡ t → cond t None (place_of_name places q) ≡ Some j → (decl : InputDecl) × IsOpen decls (set given k (Some values)) q j decl
given_found decls places lists given name k values q j true h place e there = absurd (cc)
given_found decls places lists given name k values q j false h place e there =
    let f = h.found q j there in
    let own = h.found name k place in
    let apart : j ≢ k = λ same.
    let one : f.0 ≡ own.0 = same_decl decls k f.0 own.0 (subst (λ i. slice_get decls i ≡ Some f.0) same f.1.declared) own.1.declared in
    false≢true (sym e ∙ names_match name q (sym own.1.named ∙ ap (λ d. d.name) (sym one) ∙ f.1.named)) in
    (f.0, record { declared = f.1.declared; named = f.1.named; empty = get_set_other given k j (Some values) apart ∙ f.1.empty })

not_removed : (t : Bool) (o : Option ℕ) (j : ℕ) → ¬ (t ≡ true) → o ≡ Some j → cond t None o ≡ Some j
not_removed true o j apart there = absurd (apart refl)
not_removed false o j apart there = there

given_there : (decls : List InputDecl) (places : Places) (lists : List (List Value)) (given : Given) (name : List ℕ) (k : ℕ) (values : List Value) (q : List ℕ) (j : ℕ) (decl : InputDecl) (t : Bool) → HasGiven decls places lists given
    → place_of_name places name ≡ Some k → bytes_eq name q ≡ t → IsOpen decls (set given k (Some values)) q j decl → cond t None (place_of_name places q) ≡ Some j
given_there decls places lists given name k values q j decl t h place e o =
    let apart : j ≢ k = λ same.
    let filled : None ≡ Some values = get_set_same given k (Some values) None (subst (λ i. slice_get (set given k (Some values)) i ≡ Some None) same o.empty) in
    absurd (cc) in
    let before : IsOpen decls given q j decl = record { declared = o.declared; named = o.named; empty = sym (get_set_other given k j (Some values) apart) ∙ o.empty } in
    let there : place_of_name places q ≡ Some j = h.there q j decl before in
    not_removed t (place_of_name places q) j (λ yes. apart (some_same j k (sym there ∙ ap (place_of_name places) (sym (same_name name q (e ∙ yes))) ∙ place))) there

pub given_more : (decls : List InputDecl) (places new : Places) (lists after : List (List Value)) (given : Given) (name : List ℕ) (k : ℕ) (values : List Value) → HasGiven decls places lists given
    → place_of_name places name ≡ Some k → ((q : List ℕ) → place_of_name new q ≡ cond (bytes_eq name q) None (place_of_name places q))
    → after ≡ set lists k values → HasGiven decls new after (set given k (Some values))
given_more decls places new lists after given name k values h place updates more = record {
  as_many = length-set given k (Some values) ∙ h.as_many;
  found = λ q j there. given_found decls places lists given name k values q j (bytes_eq name q) h place refl (sym (updates q) ∙ there);
  there = λ q j decl o. updates q ∙ given_there decls places lists given name k values q j decl (bytes_eq name q) h place refl o;
  listed = more ∙ ap (λ ls. set ls k values) h.listed ∙ sym (map-set (λ values. unwrap_or values []) given k (Some values));
}

-- ---- line after line

pub taken_push : (decls : List InputDecl) (before : List (List ℕ)) (line : List ℕ) (start given after : Given) → TakesLines decls start before given → TakesLine decls given line after → TakesLines decls start (before ++ line ∷ []) after
taken_push decls [] line start given after t next = (after, subst (λ g. TakesLine decls g line after) t next, refl)
taken_push decls (first ∷ before) line start given after t next = (t.0, t.1, taken_push decls before line t.0 given after t.2 next)

pub no_lines_read : (decls : List InputDecl) (text : List ℕ) (places : Places) (lists : List (List Value)) → HasGiven decls places lists (nothing_given decls) → LinesRead decls text text 0 places lists
no_lines_read decls text places lists h = record {
  before = [];
  given = nothing_given decls;
  parts = refl;
  taken = refl;
  state = h;
  counted = refl;
  room = omega arith;
}

pub one_line_more : (decls : List InputDecl) (text rest line behind : List ℕ) (number : ℕ) (places new : Places) (lists more : List (List Value)) → LinesRead decls text rest number places lists
    → lines rest ≡ line ∷ lines behind → length behind < length rest
    → ((given : Given) → HasGiven decls places lists given → (after : Given) × (TakesLine decls given line after × HasGiven decls new more after))
    → LinesRead decls text behind (number + 1) new more
one_line_more decls text rest line behind number places new lists more h next shorter takes =
    let t = takes h.given h.state in
    let room = h.room in let counted = h.counted in
    record {
      before = h.before ++ line ∷ [];
      given = t.0;
      parts = h.parts ∙ ap (λ ls. h.before ++ ls) next ∙ sym (append_assoc h.before (line ∷ []) (lines behind));
      taken = taken_push decls h.before line (nothing_given decls) h.given t.0 h.taken t.1.0;
      state = t.1.1;
      counted = omega (arith, length-append h.before (line ∷ []));
      room = omega arith;
    }

pub refused_there : (decls : List InputDecl) (text rest line behind : List ℕ) (number : ℕ) (places : Places) (lists : List (List Value)) (answer : InputAnswer) → LinesRead decls text rest number places lists
    → lines rest ≡ line ∷ lines behind → ((given : Given) → HasGiven decls places lists given → RefusesLine decls given line (number + 1) answer) → IsRefused decls (lines text) answer
refused_there decls text rest line behind number places lists answer h next refuses =
    line_refused h.before line (lines behind) h.given (h.parts ∙ ap (λ ls. h.before ++ ls) next) h.taken
    (subst (λ n. RefusesLine decls h.given line (n + 1) answer) (sym h.counted) (refuses h.given h.state))

all_lines : (decls : List InputDecl) (text rest : List ℕ) (number : ℕ) (places : Places) (lists : List (List Value)) → (h : LinesRead decls text rest number places lists) → rest ≡ [] → TakesLines decls (nothing_given decls) (lines text) h.given
all_lines decls text rest number places lists h ends =
    subst (λ ls. TakesLines decls (nothing_given decls) ls h.given) (sym (h.parts ∙ ap (λ t. h.before ++ lines t) ends ∙ append-nil h.before)) h.taken

-- ---- after all lines

placed_at : (o : Option ℕ) → o ≢ None → (j : ℕ) × (o ≡ Some j)
placed_at None apart = absurd (apart refl)
placed_at (Some j) apart = (j, refl)

first_missing_is : (decls : List InputDecl) (places : Places) (lists : List (List Value)) (given : Given) (k : ℕ) (decl : InputDecl) → HaveOwnNames decls → HasGiven decls places lists given → IsFirstPlaced decls places k decl
    → IsFirstMissing decls given k decl
first_missing_is decls places lists given k decl names h p =
    let at = placed_at (place_of_name places decl.name) p.placed in
    let f = h.found decl.name at.0 at.1 in
    let same : at.0 ≡ k = names.differ at.0 k f.0 decl f.1.declared p.declared f.1.named in
    record {
      declared = p.declared;
      missing = subst (λ j. slice_get given j ≡ Some None) same f.1.empty;
      first = λ j below open_there.
          let within : j < length decls = omega (arith, below, slice_get_within decls k decl p.declared) in
          let other : InputDecl = get_or decls j decl in
          let there : slice_get decls j ≡ Some other = slice_get-get_or decls j decl within in
          let placed : place_of_name places other.name ≡ Some j = h.there other.name j other (record { declared = there; named = refl; empty = open_there }) in
          let none : None ≡ Some j = sym (p.first j other below there) ∙ placed in
          absurd (cc);
    }

pub missing_there : (decls : List InputDecl) (text rest : List ℕ) (number : ℕ) (places : Places) (lists : List (List Value)) (name : List ℕ) → HaveOwnNames decls → LinesRead decls text rest number places lists → rest ≡ []
    → (k : ℕ) × ((decl : InputDecl) × (IsFirstPlaced decls places k decl × (decl.name ≡ name))) → IsRefused decls (lines text) (MissingInput name)
missing_there decls text rest number places lists name names h ends p =
    input_missing h.given p.0 p.1.0 (all_lines decls text rest number places lists h ends)
    (first_missing_is decls places lists h.given p.0 p.1.0 names h.state p.1.1.0) (ap MissingInput (sym p.1.1.1))

all_given : (given : Given) → ((k : ℕ) → slice_get given k ≢ Some None) → given ≡ map (λ values. Some values) (map (λ values. unwrap_or values []) given)
all_given [] each = refl
all_given (None ∷ given) each = absurd (each 0 refl)
all_given (Some values ∷ given) each = ap (λ g. Some values ∷ g) (all_given given (λ k. each (suc k)))

none_open : (decls : List InputDecl) (places : Places) (lists : List (List Value)) (given : Given) → HasGiven decls places lists given → ((k : ℕ) (decl : InputDecl) → slice_get decls k ≡ Some decl → place_of_name places decl.name ≡ None)
    → (k : ℕ) → slice_get given k ≢ Some None
none_open [] places lists given h none k at =
    let within = slice_get_within given k None at in absurd (omega (arith, within, h.as_many))
none_open (first ∷ decls) places lists given h none k at =
    let within : k < length (first ∷ decls) = omega (arith, slice_get_within given k None at, h.as_many) in
    let decl : InputDecl = get_or (first ∷ decls) k first in
    let there : slice_get (first ∷ decls) k ≡ Some decl = slice_get-get_or (first ∷ decls) k first within in
    let placed : place_of_name places decl.name ≡ Some k = h.there decl.name k decl (record { declared = there; named = refl; empty = at }) in
    let apart : None ≡ Some k = sym (none k decl there) ∙ placed in
    absurd (cc)

pub all_read : (decls : List InputDecl) (text rest : List ℕ) (number : ℕ) (places : Places) (lists : List (List Value)) → LinesRead decls text rest number places lists → rest ≡ []
    → ((k : ℕ) (decl : InputDecl) → slice_get decls k ≡ Some decl → place_of_name places decl.name ≡ None) → TakesLines decls (nothing_given decls) (lines text) (map (λ values. Some values) lists)
all_read decls text rest number places lists h ends none =
    let full : h.given ≡ map (λ values. Some values) lists =
    all_given h.given (none_open decls places lists h.given h.state none) ∙ ap (map (λ values. Some values)) (sym h.state.listed) in
    subst (TakesLines decls (nothing_given decls) (lines text)) full (all_lines decls text rest number places lists h ends)

-- ---- a text has at least as many lines as inputs that it gives

given_count : Given → ℕ
given_count [] = 0
given_count (None ∷ given) = given_count given
given_count (Some _ ∷ given) = 1 + given_count given

set_count : (given : Given) (k : ℕ) (values : List Value) → given_count (set given k (Some values)) ≤ given_count given + 1
unfolding given_count
set_count [] k values = omega arith
set_count (None ∷ given) zero values = omega arith
set_count (Some _ ∷ given) zero values = omega arith
set_count (None ∷ given) (suc k) values = omega (arith, set_count given k values)
set_count (Some _ ∷ given) (suc k) values = omega (arith, set_count given k values)

line_count : (decls : List InputDecl) (given after : Given) (line : List ℕ) → TakesLine decls given line after → given_count after ≤ given_count given + 1
line_count decls given after line (idle i same) = rw same (omega arith)
line_count decls given after line (gives name values k decl a o d same) = rw same (set_count given k values)

lines_count : (decls : List InputDecl) (given after : Given) (ls : List (List ℕ)) → TakesLines decls given ls after → given_count after ≤ given_count given + length ls
lines_count decls given after [] t = rw t (omega arith)
lines_count decls given after (line ∷ ls) t = omega (arith, line_count decls given t.0 line t.1, lines_count decls t.0 after ls t.2)

none_count : (decls : List InputDecl) → given_count (nothing_given decls) ≡ 0
unfolding given_count
none_count [] = refl
none_count (d ∷ decls) = none_count decls

all_count : (lists : List (List Value)) → given_count (map (λ values. Some values) lists) ≡ length lists
unfolding given_count
all_count [] = refl
all_count (values ∷ lists) = omega (arith, all_count lists)

lines_within : (decls : List InputDecl) (text rest : List ℕ) (number : ℕ) (places : Places) (lists : List (List Value)) → (h : LinesRead decls text rest number places lists) → rest ≡ [] → length (lines text) ≤ length text
lines_within decls text rest number places lists h ends =
    let all : lines text ≡ h.before = h.parts ∙ ap (λ t. h.before ++ lines t) ends ∙ append-nil h.before in
    let counted = h.counted in
    let room = h.room in
    omega (arith, ap length all)

pub few_lists : (decls : List InputDecl) (text rest : List ℕ) (number : ℕ) (places : Places) (lists : List (List Value)) → LinesRead decls text rest number places lists → rest ≡ []
    → TakesLines decls (nothing_given decls) (lines text) (map (λ values. Some values) lists) → length lists ≤ length text
few_lists decls text rest number places lists h ends all =
    omega (arith, all_count lists, none_count decls, lines_within decls text rest number places lists h ends, lines_count decls (nothing_given decls) (map (λ values. Some values) lists) (lines text) all)

-- ---- what was given is as declared

abbrev AreGivenAsDeclared : List InputDecl → Given → Type 0
AreGivenAsDeclared decls given = (k : ℕ) (decl : InputDecl) (values : List Value) → slice_get decls k ≡ Some decl → slice_get given k ≡ Some (Some values) → IsAsDeclared (declaration_of decl) values

nothing_is_wrong : (decls : List InputDecl) → AreGivenAsDeclared decls (nothing_given decls)
nothing_is_wrong decls k decl values at given =
    let apart : Some None ≡ Some (Some values) = sym (nothing_at decls k decl at) ∙ given in absurd (cc)

one_more_declared : (decls : List InputDecl) (given : Given) (i : ℕ) (own : InputDecl) (new : List Value) → slice_get decls i ≡ Some own → IsAsDeclared (declaration_of own) new → AreGivenAsDeclared decls given → AreGivenAsDeclared decls (set given i (Some new))
one_more_declared decls given i own new at is all k decl values there g =
    ⊎_elim
    (λ same.
    let filled : Some values ≡ Some new = get_set_same given i (Some new) (Some values) (subst (λ j. slice_get (set given i (Some new)) j ≡ Some (Some values)) same g) in
    let one : values ≡ new = cc in
    let decl_is : decl ≡ own = same_decl decls i decl own (subst (λ j. slice_get decls j ≡ Some decl) same there) at in
    subst (λ vs. IsAsDeclared (declaration_of decl) vs) (sym one) (subst (λ d. IsAsDeclared (declaration_of d) new) (sym decl_is) is))
    (λ apart. all k decl values there (sym (get_set_other given i k (Some new) apart) ∙ g))
    (cases_eq k i)

line_declared : (decls : List InputDecl) (given after : Given) (line : List ℕ) → TakesLine decls given line after → AreGivenAsDeclared decls given → AreGivenAsDeclared decls after
line_declared decls given after line (idle i same) all = subst (AreGivenAsDeclared decls) (sym same) all
line_declared decls given after line (gives name values k decl a o is same) all =
    subst (AreGivenAsDeclared decls) (sym same) (one_more_declared decls given k decl values o.declared is all)

lines_declared : (decls : List InputDecl) (given after : Given) (ls : List (List ℕ)) → TakesLines decls given ls after → AreGivenAsDeclared decls given → AreGivenAsDeclared decls after
lines_declared decls given after [] t all = subst (AreGivenAsDeclared decls) (sym t) all
lines_declared decls given after (line ∷ ls) t all = lines_declared decls t.0 after ls t.2 (line_declared decls given t.0 line t.1 all)

declared_of : (decls : List InputDecl) (o : Option InputDecl) (d : Declaration) → option_map declaration_of o ≡ Some d → (decl : InputDecl) × ((o ≡ Some decl) × (declaration_of decl ≡ d))
declared_of decls None d e = absurd (cc)
declared_of decls (Some decl) d e = (decl, (refl, cc))

pub are_valid : (decls : List InputDecl) (ls : List (List ℕ)) (lists : List (List Value)) → length lists ≡ length decls → TakesLines decls (nothing_given decls) ls (map (λ values. Some values) lists)
    → AreValid (map declaration_of decls) lists
are_valid decls ls lists long t = record {
  count = long ∙ sym (length-map decls declaration_of);
  each = λ k d at.
      let own = declared_of decls (slice_get decls k) d (sym (slice_get-map declaration_of decls k) ∙ at) in
      let within : k < length lists = omega (arith, slice_get_within decls k own.0 own.1.0, long) in
      let given : slice_get (map (λ values. Some values) lists) k ≡ Some (Some (get_or lists k [])) =
      slice_get-map (λ values. Some values) lists k ∙ ap (option_map (λ values. Some values)) (slice_get-get_or lists k [] within) in
      subst (λ e. IsAsDeclared e (get_or lists k [])) own.1.1
      (lines_declared decls (nothing_given decls) (map (λ values. Some values) lists) ls t (nothing_is_wrong decls) k own.0 (get_or lists k []) own.1.0 given);
}

pub as_many_lists : (decls : List InputDecl) (places : Places) (lists : List (List Value)) (given : Given) → HasGiven decls places lists given → length lists ≡ length decls
as_many_lists decls places lists given h = ap length h.listed ∙ length-map given (λ values. unwrap_or values []) ∙ h.as_many

pub no_open_place : (decls : List InputDecl) (places : Places) (lists : List (List Value)) (given : Given) (name : List ℕ) → HasGiven decls places lists given → place_of_name places name ≡ None → IsUnwanted decls given name
no_open_place decls places lists given name h none k decl o =
    let apart : None ≡ Some k = sym none ∙ h.there name k decl o in absurd (cc)

-- an answer that is handed on
pub handed_on : {T : Type 0} → (r : Result T InputAnswer) (x : InputAnswer) (P : InputAnswer → Type 0) → IsErrAnd r (λ y. y ≡ x) → P x → IfErr r P
handed_on (Ok _) x P h p = tt
handed_on (Err y) x P h p = subst P (sym h) p
