-- What the names of the main function stand for, in a source and in its blocks.
use Rattle.std.proofs.Common.{◌≡◌, ℤ, Bool, true, false, if◌then◌else◌, ◌||◌, List, [], ◌∷◌, ◌++◌, append_assoc, length, refl, sym, ◌∙◌, ap, subst, Option, Some, None, bytes_eq, ◌⊎◌, inl, inr}
use Rattle.df_values.specs.declared.values.Value.{Value}
use Rattle.df_values.specs.declared.values.Value.TheVariants.{Int}
use Rattle.df_syntax.specs.declared.bound.Bound.{Bound}
use Rattle.df_syntax.specs.declared.bound.Bound.TheVariants.{Scalar}
use Rattle.df_syntax.specs.declared.piped.Block.{Block}
use Rattle.df_syntax.specs.declared.piped.Outcome.{Outcome}
use Rattle.df_syntax.specs.Meaning.{Name, bound_at, scalar}
use Rattle.df_syntax.specs.BlockMeaning.{blocks_made, result_of, values_of, cut}
use Rattle.df_syntax.specs.FreshNames.{Taken, also}
use Rattle.df_syntax.specs.SourceForms.{Numbers, number_value}
use Rattle.df_names.specs.Maps.{bind}
use Rattle.df_shape.specs.declared.standing.Standing.{Standing}
use Rattle.df_shape.specs.declared.standing.Standing.TheVariants as standing
use Rattle.df_shape.specs.Renamed.{Names}
use Rattle.df_shape.proofs.Agreement.{Bounds, Agree, AgreesBy, other_after, also_taken, not_taken}
use Rattle.df_shape.proofs.Kept.{Calls, with_calls}
use Rattle.df_shape.proofs.ManifestMeaning.{HaveNumbers}

module _ (numbers : Numbers) (of_blocks : Calls) (inputs : List (List Value)) (start : Bounds) where
  -- what an outcome gives, once some blocks have made these bounds, and whatever others make after them
  abbrev pub Results : List Bound → Outcome → List Value → Type 0
  Results made o values = (later : List Bound) → result_of inputs (made ++ later) o ≡ values

  -- a scalar of the main function
  pub record IsScalar (source blocks : Bounds) (made : List Bound) (name : Name) (o : Outcome) : Type 0 where
    pub value : Option Value
    pub in_source : bound_at source name ≡ Some (Scalar value)
    pub in_blocks : bound_at blocks name ≡ Some (Scalar value)
    pub results : Results made o (cut (value ∷ []))

  -- an array of the main function, and its name in blocks
  pub record IsArray (source blocks : Bounds) (made : List Bound) (name : Name) (o : Outcome) (other : Name) : Type 0 where
    pub array : Bound
    pub in_source : bound_at source name ≡ Some array
    pub in_blocks : bound_at blocks other ≡ Some array
    pub results : Results made o (values_of array)

  abbrev pub Known : Bounds → Bounds → List Bound → Name → Option Standing → Type 0
  Known source blocks made name None = (bound_at source name ≡ None) × (bound_at blocks name ≡ None)
  Known source blocks made name (Some (standing.Constant k)) = (bound_at source name ≡ Some (Scalar (Some (Int k)))) × (bound_at blocks name ≡ None)
  Known source blocks made name (Some (standing.Scalar o)) = IsScalar source blocks made name o
  Known source blocks made name (Some (standing.Array o other)) = IsArray source blocks made name o other

  -- What is known of all names, where some blocks have made these bounds.
  pub record AreKnown (names : Names) (taken : Taken) (source blocks : Bounds) (made : List Bound) : Type 0 where
    pub standing_taken : (name : Name) (s : Standing) → names name ≡ Some s → taken name ≡ true
    pub array_taken : (name : Name) (o : Outcome) (other : Name) → names name ≡ Some (standing.Array o other) → taken other ≡ true
    pub constants_are : (name : Name) (k : ℤ) → numbers name ≡ Some k → names name ≡ Some (standing.Constant k)
    pub known : (name : Name) → Known source blocks made name (names name)

  -- These blocks have made these bounds, and the others follow with these names bound.
  pub record HaveMade (blocks : Bounds) (list : List Block) (made : List Bound) : Type 0 where
    pub long : length made ≡ length list
    pub split : (more : List Block) → blocks_made (with_calls of_blocks start) (list ++ more) ≡ made ++ blocks_made (with_calls of_blocks blocks) more

  -- ---- what follows of single names

  agrees_of : (source blocks : Bounds) (made : List Bound) (name : Name) (s : Option Standing) → Known source blocks made name s → AgreesBy source blocks name s
  agrees_of source blocks made name None (a, b) = a ∙ sym b
  agrees_of source blocks made name (Some (standing.Constant k)) known = known
  agrees_of source blocks made name (Some (standing.Scalar o)) known = known.in_source ∙ sym known.in_blocks
  agrees_of source blocks made name (Some (standing.Array o other)) known = known.in_source ∙ sym known.in_blocks

  pub main_agrees : (names : Names) (taken : Taken) (source blocks : Bounds) (made : List Bound) → AreKnown names taken source blocks made → Agree names taken source blocks
  main_agrees names taken source blocks made main = record {
    standing_taken = main.standing_taken;
    array_taken = main.array_taken;
    agrees = λ name. agrees_of source blocks made name (names name) (main.known name);
  }

  pub main_numbers : (names : Names) (taken : Taken) (source blocks : Bounds) (made : List Bound) (call : Calls) → AreKnown names taken source blocks made
      → HaveNumbers numbers (with_calls call source)
  main_numbers names taken source blocks made call main name = by (numbers name) refl
    where
      by : (o : Option ℤ) → numbers name ≡ o → (number_value o ≡ None) ⊎ (number_value o ≡ scalar (bound_at source name))
      by None is = inl refl
      by (Some k) is = inr (sym (ap scalar (subst (Known source blocks made name) (main.constants_are name k is) (main.known name)).0))

  -- ---- one definition more

  -- a name that is new, bound on both sides to the same, with a standing that says what it is
  known_other : (names : Names) (taken : Taken) (source blocks : Bounds) (made more : List Bound) (x : Name) (b : Bound) (name : Name) → taken x ≡ false → bytes_eq x name ≡ false
      → (s : Option Standing) → ((o : Outcome) (other : Name) → s ≡ Some (standing.Array o other) → taken other ≡ true)
      → Known source blocks made name s → Known (source ++ (x, b) ∷ []) (blocks ++ (x, b) ∷ []) (made ++ more) name s
  known_other names taken source blocks made more x b name new apart None target (a, c) = (other_after source x b name apart ∙ a, other_after blocks x b name apart ∙ c)
  known_other names taken source blocks made more x b name new apart (Some (standing.Constant k)) target (a, c) = (other_after source x b name apart ∙ a, other_after blocks x b name apart ∙ c)
  known_other names taken source blocks made more x b name new apart (Some (standing.Scalar o)) target known = record {
    value = known.value;
    in_source = other_after source x b name apart ∙ known.in_source;
    in_blocks = other_after blocks x b name apart ∙ known.in_blocks;
    results = λ later. ap (λ l. result_of inputs l o) (append_assoc made more later) ∙ known.results (more ++ later);
  }
  known_other names taken source blocks made more x b name new apart (Some (standing.Array o other)) target known = record {
    array = known.array;
    in_source = other_after source x b name apart ∙ known.in_source;
    in_blocks = other_after blocks x b other (not_taken taken x other new (target o other refl)) ∙ known.in_blocks;
    results = λ later. ap (λ l. result_of inputs l o) (append_assoc made more later) ∙ known.results (more ++ later);
  }

  -- a name that is new, bound to an array that has a name already
  known_beside : (source blocks : Bounds) (made : List Bound) (x : Name) (b : Bound) (name : Name) → bytes_eq x name ≡ false
      → (s : Option Standing) → Known source blocks made name s → Known (source ++ (x, b) ∷ []) blocks made name s
  known_beside source blocks made x b name apart None (a, c) = (other_after source x b name apart ∙ a, c)
  known_beside source blocks made x b name apart (Some (standing.Constant k)) (a, c) = (other_after source x b name apart ∙ a, c)
  known_beside source blocks made x b name apart (Some (standing.Scalar o)) known =
      record { value = known.value; in_source = other_after source x b name apart ∙ known.in_source; in_blocks = known.in_blocks; results = known.results }
  known_beside source blocks made x b name apart (Some (standing.Array o other)) known =
      record { array = known.array; in_source = other_after source x b name apart ∙ known.in_source; in_blocks = known.in_blocks; results = known.results }

  -- ---- what the map of names says

  bound_itself : (names : Names) (x name : Name) (s : Standing) → bytes_eq x name ≡ true → bind names x s name ≡ Some s
  unfolding bind
  bound_itself names x name s is = ap (λ b. if b then Some s else names name) is

  bound_other : (names : Names) (x name : Name) (s : Standing) → bytes_eq x name ≡ false → bind names x s name ≡ names name
  unfolding bind
  bound_other names x name s is = ap (λ b. if b then Some s else names name) is

  pub also_itself : (taken : Taken) (x name : Name) → bytes_eq x name ≡ true → also taken x name ≡ true
  unfolding also
  also_itself taken x name is = ap (λ b. b || taken name) is

  module _ (names : Names) (taken : Taken) (source blocks : Bounds) (made : List Bound) (are : AreKnown names taken source blocks made) (x : Name) (s : Standing) (new : taken x ≡ false) where
    standing_taken_after : (name : Name) (t : Standing) → bind names x s name ≡ Some t → also taken x name ≡ true
    standing_taken_after name t is = by (bytes_eq x name) refl
      where
        by : (b : Bool) → bytes_eq x name ≡ b → also taken x name ≡ true
        by true at = also_itself taken x name at
        by false at = also_taken taken x name (are.standing_taken name t (sym (bound_other names x name s at) ∙ is))

    array_taken_after : ((o : Outcome) (other : Name) → s ≡ standing.Array o other → also taken x other ≡ true)
        → (name : Name) (o : Outcome) (other : Name) → bind names x s name ≡ Some (standing.Array o other) → also taken x other ≡ true
    array_taken_after target name o other is = by (bytes_eq x name) refl
      where
        by : (b : Bool) → bytes_eq x name ≡ b → also taken x other ≡ true
        by true at = target o other (some_same (sym (bound_itself names x name s at) ∙ is))
          where
            some_same : Some s ≡ Some (standing.Array o other) → s ≡ standing.Array o other
            some_same h = cc
        by false at = also_taken taken x other (are.array_taken name o other (sym (bound_other names x name s at) ∙ is))

    constants_after : (name : Name) (k : ℤ) → numbers name ≡ Some k → bind names x s name ≡ Some (standing.Constant k)
    constants_after name k is =
        let old = are.constants_are name k is in
        bound_other names x name s (not_taken taken x name new (are.standing_taken name (standing.Constant k) old)) ∙ old

    -- bound on both sides
    pub known_after : (b : Bound) (more : List Bound) → ((o : Outcome) (other : Name) → s ≡ standing.Array o other → also taken x other ≡ true)
        → ((name : Name) → bytes_eq x name ≡ true → Known (source ++ (x, b) ∷ []) (blocks ++ (x, b) ∷ []) (made ++ more) name (Some s))
        → AreKnown (bind names x s) (also taken x) (source ++ (x, b) ∷ []) (blocks ++ (x, b) ∷ []) (made ++ more)
    known_after b more target here = record {
      standing_taken = standing_taken_after;
      array_taken = array_taken_after target;
      constants_are = constants_after;
      known = λ name. by name (bytes_eq x name) refl;
    }
      where
        by : (name : Name) (t : Bool) → bytes_eq x name ≡ t → Known (source ++ (x, b) ∷ []) (blocks ++ (x, b) ∷ []) (made ++ more) name (bind names x s name)
        by name true at = subst (Known (source ++ (x, b) ∷ []) (blocks ++ (x, b) ∷ []) (made ++ more) name) (sym (bound_itself names x name s at)) (here name at)
        by name false at =
            subst (Known (source ++ (x, b) ∷ []) (blocks ++ (x, b) ∷ []) (made ++ more) name) (sym (bound_other names x name s at))
            (known_other names taken source blocks made more x b name new at (names name) (λ o other is. are.array_taken name o other is) (are.known name))

    -- bound in the source alone
    pub known_alias : (b : Bound) → ((o : Outcome) (other : Name) → s ≡ standing.Array o other → also taken x other ≡ true)
        → ((name : Name) → bytes_eq x name ≡ true → Known (source ++ (x, b) ∷ []) blocks made name (Some s))
        → AreKnown (bind names x s) (also taken x) (source ++ (x, b) ∷ []) blocks made
    known_alias b target here = record {
      standing_taken = standing_taken_after;
      array_taken = array_taken_after target;
      constants_are = constants_after;
      known = λ name. by name (bytes_eq x name) refl;
    }
      where
        by : (name : Name) (t : Bool) → bytes_eq x name ≡ t → Known (source ++ (x, b) ∷ []) blocks made name (bind names x s name)
        by name true at = subst (Known (source ++ (x, b) ∷ []) blocks made name) (sym (bound_itself names x name s at)) (here name at)
        by name false at = subst (Known (source ++ (x, b) ∷ []) blocks made name) (sym (bound_other names x name s at)) (known_beside source blocks made x b name at (names name) (are.known name))
