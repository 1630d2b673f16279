-- No text is without a reading.
use Rattle.std.proofs.Common.{◌≡◌, ◌≢◌, ℕ, zero, suc, ◌+◌, ◌<◌, ◌⊎◌, inl, inr, List, [], ◌∷◌, ◌++◌, length, map, set, refl, ap, ◌∙◌, subst, arith, Some, None, Result, Ok, Err, ⊎_elim}
use Rattle.std.specs.Prelude.{slice_get}
use Rattle.std.specs.Str.Lines.{lines}
use Rattle.std.proofs.lemmas.Bool.{cases_eq, cases_Bool}
use Rattle.std.proofs.lemmas.List.{length-set, length-map}
use Rattle.std.proofs.lemmas.Option.{slice_get_within}
use Rattle.df_values.specs.declared.values.Value.{Value}
use Rattle.df_cells.specs.declared.cells.InputDecl.{InputDecl}
use Rattle.df_iotext.specs.Inputs.{Given, nothing_given, is_idle, TakesLine, RefusesLine, TakesLines, IsRefused, ReadsInputs}
use Rattle.df_iotext.specs.Inputs.TakesLine.{idle, gives}
use Rattle.df_iotext.specs.Inputs.RefusesLine.{malformed, unwanted, mistyped, miscounted}
use Rattle.df_iotext.specs.Inputs.IsRefused.{line_refused, input_missing}
use Rattle.df_iotext.specs.declared.inputs.InputAnswer.{InputAnswer}
use Rattle.df_iotext.specs.declared.inputs.InputAnswer.TheVariants.{BadInput, ExtraInput, WrongLength, MissingInput}

-- what comes of a line
abbrev LineEnd : List InputDecl → Given → List ℕ → ℕ → Type 0
LineEnd decls given line number = ((after : Given) × TakesLine decls given line after) ⊎ ((answer : InputAnswer) × RefusesLine decls given line number answer)

line_ends : (decls : List InputDecl) (given : Given) (line : List ℕ) (number : ℕ) → ¬ ¬ LineEnd decls given line number
line_ends decls given line number none =
    ⊎_elim
    (λ idles. none (inl (given, idle idles refl)))
    (λ active. none (inr (
      BadInput number,
      malformed active (λ name values a.
          none (inr (
            ExtraInput number,
            unwanted name values a (λ k decl o.
                none (inr (
                  BadInput number,
                  mistyped name values k decl a o (λ types.
                      ⊎_elim
                      (λ count. none (inl (set given k (Some values), gives name values k decl a o (record { count = count; types = types }) refl)))
                      (λ other. none (inr (WrongLength name (length values) decl.length, miscounted name values k decl a o types other refl)))
                      (cases_eq (length values) decl.length)) refl,
                ))) refl,
          ))) refl,
    )))
    (cases_Bool (is_idle line))

-- a line is refused among lines whose first has the number n + 1
record Refused (decls : List InputDecl) (start : Given) (all : List (List ℕ)) (n : ℕ) : Type 0 where
  before : List (List ℕ)
  line : List ℕ
  behind : List (List ℕ)
  given : Given
  answer : InputAnswer
  parts : all ≡ before ++ line ∷ behind
  taken : TakesLines decls start before given
  refused : RefusesLine decls given line (n + length before + 1) answer

abbrev LinesEnd : List InputDecl → Given → List (List ℕ) → ℕ → Type 0
LinesEnd decls start all n = ((after : Given) × TakesLines decls start all after) ⊎ Refused decls start all n

first_refused : (decls : List InputDecl) (start : Given) (line : List ℕ) (rest : List (List ℕ)) (n : ℕ) → (answer : InputAnswer) × RefusesLine decls start line (n + 1) answer → Refused decls start (line ∷ rest) n
first_refused decls start line rest n r =
    let place : n + 1 ≡ n + length {A = List ℕ} [] + 1 = omega arith in
    record { before = []; line = line; behind = rest; given = start; answer = r.0; parts = refl; taken = refl; refused = subst (λ k. RefusesLine decls start line k r.0) place r.1 }

later_refused : (decls : List InputDecl) (start next : Given) (line : List ℕ) (rest : List (List ℕ)) (n : ℕ) → TakesLine decls start line next → Refused decls next rest (n + 1) → Refused decls start (line ∷ rest) n
later_refused decls start next line rest n t r =
    let place : n + 1 + length r.before + 1 ≡ n + length (line ∷ r.before) + 1 = omega arith in
    record {
      before = line ∷ r.before;
      line = r.line;
      behind = r.behind;
      given = r.given;
      answer = r.answer;
      parts = ap (λ ls. line ∷ ls) r.parts;
      taken = (next, t, r.taken);
      refused = subst (λ k. RefusesLine decls r.given r.line k r.answer) place r.refused;
    }

lines_end : (decls : List InputDecl) (start : Given) (all : List (List ℕ)) (n : ℕ) → ¬ ¬ LinesEnd decls start all n
lines_end decls start [] n none = none (inl (start, refl))
lines_end decls start (line ∷ rest) n none =
    line_ends decls start line (n + 1) (λ o. ⊎_elim
    (λ t. lines_end decls t.0 rest (n + 1) (λ end. ⊎_elim
    (λ u. none (inl (u.0, (t.0, t.1, u.1))))
    (λ r. none (inr (later_refused decls start t.0 line rest n t.1 r)))
    end))
    (λ r. none (inr (first_refused decls start line rest n r)))
    o)

-- ---- after all lines

record Missing (given : Given) : Type 0 where
  place : ℕ
  missing : slice_get given place ≡ Some None
  first : (j : ℕ) → j < place → slice_get given j ≢ Some None

apart : (values : List Value) → Some (Some values) ≢ Some None
apart values e = cc

not_yet : (values : List Value) (given : Given) (place : ℕ) → ((j : ℕ) → j < place → slice_get given j ≢ Some None) → (j : ℕ) → j < suc place → slice_get (Some values ∷ given) j ≢ Some None
not_yet values given place first zero below = apart values
not_yet values given place first (suc j) below = first j (omega arith)

all_or_missing : (given : Given) → ((lists : List (List Value)) × (given ≡ map (λ values. Some values) lists)) ⊎ Missing given
all_or_missing [] = inl ([], refl)
all_or_missing (None ∷ given) = inr (record { place = 0; missing = refl; first = λ j below. absurd (omega arith) })
all_or_missing (Some values ∷ given) =
    ⊎_elim
    (λ l. inl (values ∷ l.0, ap (λ g. Some values ∷ g) l.1))
    (λ m. inr (record { place = suc m.place; missing = m.missing; first = not_yet values given m.place m.first }))
    (all_or_missing given)

line_length : (decls : List InputDecl) (given after : Given) (line : List ℕ) → TakesLine decls given line after → length after ≡ length given
line_length decls given after line (idle i e) = ap length e
line_length decls given after line (gives name values k decl a o is e) = ap length e ∙ length-set given k (Some values)

lines_length : (decls : List InputDecl) (start after : Given) (all : List (List ℕ)) → TakesLines decls start all after → length after ≡ length start
lines_length decls start after [] t = ap length t
lines_length decls start after (line ∷ rest) t = lines_length decls t.0 after rest t.2 ∙ line_length decls start t.0 line t.1

decl_at : (decls : List InputDecl) (k : ℕ) → k < length decls → (decl : InputDecl) × (slice_get decls k ≡ Some decl)
decl_at [] k below = absurd (omega arith)
decl_at (decl ∷ decls) zero below = (decl, refl)
decl_at (decl ∷ decls) (suc k) below = decl_at decls k (omega arith)

missing_input : (decls : List InputDecl) (all : List (List ℕ)) (given : Given) → TakesLines decls (nothing_given decls) all given → Missing given → (answer : InputAnswer) × IsRefused decls all answer
missing_input decls all given t m =
    let long : length given ≡ length decls = lines_length decls (nothing_given decls) given all t ∙ length-map decls (λ _. None) in
    let own = decl_at decls m.place (omega (arith, long, slice_get_within given m.place None m.missing)) in
    (MissingInput own.0.name, input_missing given m.place own.0 t (record { declared = own.1; missing = m.missing; first = m.first }) refl)

pub no_text_without : (decls : List InputDecl) (text : List ℕ) → ((reading : Result (List (List Value)) InputAnswer) → ¬ ReadsInputs text decls reading) → ⊥
no_text_without decls text none =
    lines_end decls (nothing_given decls) (lines text) 0 (λ end. ⊎_elim
    (λ t. ⊎_elim
    (λ l. none (Ok l.0) (subst (TakesLines decls (nothing_given decls) (lines text)) l.1 t.1))
    (λ m. let r = missing_input decls (lines text) t.0 t.1 m in none (Err r.0) r.1)
    (all_or_missing t.0))
    (λ r.
    let place : 0 + length r.before + 1 ≡ length r.before + 1 = omega arith in
    none (Err r.answer) (line_refused r.before r.line r.behind r.given r.parts r.taken (subst (λ k. RefusesLine decls r.given r.line k r.answer) place r.refused)))
    end)
