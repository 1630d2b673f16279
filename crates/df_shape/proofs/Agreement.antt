-- What names stand for in a source and in its blocks.
use Rattle.std.proofs.Common.{◌≡◌, Bool, true, false, if◌then◌else◌, List, [], ◌∷◌, ◌++◌, refl, sym, ◌∙◌, ap, Option, Some, None, bytes_eq}
use Rattle.std.proofs.lemmas.Bool.{or_right}
use Rattle.std.proofs.lemmas.List.Sums.{fold-append}
use Rattle.std.proofs.lemmas.Slice.Eq.{bytes_eq-Decides}
use Rattle.df_values.specs.declared.values.Value.TheVariants.{Int}
use Rattle.df_syntax.specs.declared.bound.Bound.{Bound}
use Rattle.df_syntax.specs.declared.bound.Bound.TheVariants.{Scalar}
use Rattle.df_syntax.specs.declared.piped.Outcome.{Outcome}
use Rattle.df_syntax.specs.Meaning.{Name, later, bound_at}
use Rattle.df_syntax.specs.FreshNames.{Taken, also}
use Rattle.df_shape.specs.declared.standing.Standing.{Standing}
use Rattle.df_shape.specs.declared.standing.Standing.TheVariants as standing
use Rattle.df_shape.specs.Renamed.{Names}

-- ---- one name more

abbrev pub Bounds : Type 0
Bounds = List (Name × Bound)

pub bound_after : (bounds : Bounds) (x : Name) (b : Bound) (name : Name) → bound_at (bounds ++ (x, b) ∷ []) name ≡ (if bytes_eq x name then Some b else bound_at bounds name)
bound_after bounds x b name = fold-append (later name) None bounds ((x, b) ∷ [])

pub itself_after : (bounds : Bounds) (x : Name) (b : Bound) (name : Name) → bytes_eq x name ≡ true → bound_at (bounds ++ (x, b) ∷ []) name ≡ Some b
itself_after bounds x b name is = bound_after bounds x b name ∙ ap (λ t. if t then Some b else bound_at bounds name) is

pub other_after : (bounds : Bounds) (x : Name) (b : Bound) (name : Name) → bytes_eq x name ≡ false → bound_at (bounds ++ (x, b) ∷ []) name ≡ bound_at bounds name
other_after bounds x b name is = bound_after bounds x b name ∙ ap (λ t. if t then Some b else bound_at bounds name) is

-- ---- agreement

-- what a name stands for in a source, and in its blocks
abbrev pub AgreesBy : Bounds → Bounds → Name → Option Standing → Type 0
AgreesBy source blocks name (Some (standing.Constant k)) = (bound_at source name ≡ Some (Scalar (Some (Int k)))) × (bound_at blocks name ≡ None)
AgreesBy source blocks name (Some (standing.Array o other)) = bound_at source name ≡ bound_at blocks other
AgreesBy source blocks name (Some (standing.Scalar o)) = bound_at source name ≡ bound_at blocks name
AgreesBy source blocks name None = bound_at source name ≡ bound_at blocks name

-- what has a standing is taken, and so is the name that an array has in blocks; and all names agree
pub record Agree (names : Names) (taken : Taken) (source blocks : Bounds) : Type 0 where
  pub standing_taken : (name : Name) (s : Standing) → names name ≡ Some s → taken name ≡ true
  pub array_taken : (name : Name) (o : Outcome) (other : Name) → names name ≡ Some (standing.Array o other) → taken other ≡ true
  pub agrees : (name : Name) → AgreesBy source blocks name (names name)

pub not_both : {A : Type 0} (b : Bool) → b ≡ true → b ≡ false → A
not_both b holds fails = absurd (apart (sym holds ∙ fails))
  where
    apart : true ≡ false → ⊥
    apart h = cc

pub not_taken : (taken : Taken) (x y : Name) → taken x ≡ false → taken y ≡ true → bytes_eq x y ≡ false
not_taken taken x y new old = by (bytes_eq x y) refl
  where
    by : (b : Bool) → bytes_eq x y ≡ b → bytes_eq x y ≡ false
    by true is = not_both (taken x) (ap taken ((bytes_eq-Decides x y).0 is) ∙ old) new
    by false is = is

-- a name that is new, bound on both sides to the same
agrees_after : (names : Names) (taken : Taken) (source blocks : Bounds) (x : Name) (b : Bound) → Agree names taken source blocks → taken x ≡ false
    → (name : Name) (s : Option Standing) → names name ≡ s → AgreesBy source blocks name s → AgreesBy (source ++ (x, b) ∷ []) (blocks ++ (x, b) ∷ []) name s
agrees_after names taken source blocks x b agree new name (Some (standing.Constant k)) is (a, none) =
    let apart = not_taken taken x name new (agree.standing_taken name (standing.Constant k) is) in
    (other_after source x b name apart ∙ a, other_after blocks x b name apart ∙ none)
agrees_after names taken source blocks x b agree new name (Some (standing.Array o other)) is a =
    other_after source x b name (not_taken taken x name new (agree.standing_taken name (standing.Array o other) is))
    ∙ (a ∙ sym (other_after blocks x b other (not_taken taken x other new (agree.array_taken name o other is))))
agrees_after names taken source blocks x b agree new name (Some (standing.Scalar o)) is a =
    bound_after source x b name ∙ (ap (λ c. if bytes_eq x name then Some b else c) a ∙ sym (bound_after blocks x b name))
agrees_after names taken source blocks x b agree new name None is a =
    bound_after source x b name ∙ (ap (λ c. if bytes_eq x name then Some b else c) a ∙ sym (bound_after blocks x b name))

pub also_taken : (taken : Taken) (x name : Name) → taken name ≡ true → (also taken x) name ≡ true
unfolding also
also_taken taken x name h = or_right (bytes_eq x name) (taken name) h

pub agree_after : (names : Names) (taken : Taken) (source blocks : Bounds) (x : Name) (b : Bound) → Agree names taken source blocks → taken x ≡ false
    → Agree names (also taken x) (source ++ (x, b) ∷ []) (blocks ++ (x, b) ∷ [])
agree_after names taken source blocks x b agree new = record {
  standing_taken = λ name s is. also_taken taken x name (agree.standing_taken name s is);
  array_taken = λ name o other is. also_taken taken x other (agree.array_taken name o other is);
  agrees = λ name. agrees_after names taken source blocks x b agree new name (names name) refl (agree.agrees name);
}
