-- The parts of an expression: where what is demanded of one holds, the names that it binds are new.
use Rattle.std.proofs.Common.{◌≡◌, ℕ, ◌≤◌, Bool, true, false, not, ◌&&◌, ◌||◌, if◌then◌else◌, List, [], ◌∷◌, ◌++◌, map, length, refl, subst, arith, Option, Some, None, bytes_eq}
use Rattle.std.proofs.lemmas.Bool.{and_from}
use Rattle.std.specs.Prelude.{nat_lt}
use Rattle.std.specs.List.{list_all}
use Rattle.std.specs.Option.{is_some, is_none}
use Rattle.df_names.specs.Maps.{bind}
use Rattle.df_values.specs.declared.kinds.Op.{Op}
use Rattle.df_syntax.specs.declared.tree.Named.{Named}
use Rattle.df_syntax.specs.declared.tree.Sort.{Sort}
use Rattle.df_syntax.specs.declared.tree.Expr.{Expr}
use Rattle.df_syntax.specs.declared.tree.Link.{Link}
use Rattle.df_syntax.specs.declared.tree.Arm.{Arm}
use Rattle.df_syntax.specs.declared.tree.Assign.{Assign}
use Rattle.df_syntax.specs.declared.tree.Definition.{Definition}
use Rattle.df_syntax.specs.Demands.{first_refusal}
use Rattle.df_syntax.specs.FreshNames.{Taken, Fresh, also, is_new, with_defined, definitions_fresh, all_fresh, is_fresh}
use Rattle.df_syntax.specs.WellBuilt.{is_some_list}
use Rattle.df_syntax.proofs.FirstRefusals.{begin_holds, rest_holds, head_holds, tail_holds}
use Rattle.df_types.specs.declared.answers.CheckAnswer.TheVariants.{WrongType}
use Rattle.df_types.specs.declared.entry.Entry.{Entry}
use Rattle.df_types.specs.declared.entry.Entry.TheVariants as entry
use Rattle.df_types.specs.Demands.{demand}
use Rattle.df_types.specs.Scopes.{Names, Binding, bound}
use Rattle.df_types.specs.Sorts.{integer, boolean, is_same, is_basic, value_sort}
use Rattle.df_types.specs.Types.{Look, asked, asked_operand, asked_each, asked_links, asked_arms, assign_demands, fresh, defined, definition_demands, count_of, body_demands, known}

-- ---- names that are taken stand for something

abbrev pub Covers : Taken → Names → Type 0
Covers taken names = (n : List ℕ) → taken n ≡ true → is_some (names n) ≡ true

pub covers_bind : (taken : Taken) (names : Names) (name : List ℕ) (e : Entry) → Covers taken names → Covers (also taken name) (bind names name e)
unfolding also bind
covers_bind taken names name e covers n =
    elim (bytes_eq name n) as (λ b. (b || taken n) ≡ true → is_some (if b then Some e else names n) ≡ true) [ true ↦ (λ h. refl) | false ↦ (λ h. covers n h) ]

-- what stands for nothing is not taken
pub new_by : (taken : Taken) (names : Names) (named : Named) → Covers taken names → (fresh named names).holds ≡ true → is_new taken named ≡ true
new_by taken names named covers h = by (taken named.name) refl
  where
    clash : (o : Option Entry) → is_none o ≡ true → is_some o ≡ true → ⊥
    clash None h k = cc
    clash (Some e) h k = cc

    by : (b : Bool) → taken named.name ≡ b → not b ≡ true
    by false is = refl
    by true is = absurd (clash (names named.name) h (covers named.name is))

-- ---- what is demanded of an expression, beside whether the names in it are new

pub record Agrees (part : Look) (new : Fresh) : Type 0 where
  pub plain : (taken : Taken) (names : Names) → Covers taken names → first_refusal (part.demands names) ≡ None → new taken ≡ true
  pub spread : (taken : Taken) (names : Names) (results : List Sort) → Covers taken names → part.count ≡ length results → nat_lt 1 (length results) ≡ true
      → first_refusal (part.spread results names) ≡ None → new taken ≡ true

module _ (part : Look) (new : Fresh) (agrees : Agrees part new) (taken : Taken) (names : Names) (covers : Covers taken names) where
  pub asked_new : (sort : Sort) → first_refusal (asked part sort names) ≡ None → new taken ≡ true
  asked_new sort h = agrees.plain taken names covers (begin_holds (part.demands names) (demand (is_same (part.sort names) sort) (WrongType part.place) ∷ []) h)

  pub operand_new : (any : Bool) → first_refusal (asked_operand any part names) ≡ None → new taken ≡ true
  operand_new true h = agrees.plain taken names covers (begin_holds (part.demands names) (demand (is_basic (part.sort names)) (WrongType part.place) ∷ []) h)
  operand_new false h = asked_new integer h

-- ---- lists of parts

-- parts alone, without what is known of them
abbrev pub firsts : {A : Type 0} {B : A → Type 0} → List ((a : A) × B a) → List A
firsts xs = map (λ x. x.0) xs

abbrev pub AgreeAll : List Look → List Fresh → Type 0
AgreeAll [] [] = Unit {0}
AgreeAll (p ∷ ps) (f ∷ fs) = Agrees p f × AgreeAll ps fs
AgreeAll _ _ = ⊥

module _ (taken : Taken) (names : Names) (covers : Covers taken names) where
  pub each_new : (ps : List Look) (fs : List Fresh) (ss : List Sort) → AgreeAll ps fs → length ps ≤ length ss → first_refusal (asked_each ps ss names) ≡ None
      → all_fresh fs taken ≡ true
  each_new [] [] ss agree within h = refl
  each_new (p ∷ ps) (f ∷ fs) [] agree within h = absurd (omega (arith, within))
  each_new (p ∷ ps) (f ∷ fs) (s ∷ ss) agree within h =
      and_from (f taken) (all_fresh fs taken)
      (asked_new p f agree.0 taken names covers s (begin_holds (asked p s names) (asked_each ps ss names) h))
      (each_new ps fs ss agree.1 (omega (arith, within)) (rest_holds (asked p s names) (asked_each ps ss names) h))
  each_new [] (f ∷ fs) ss agree within h = absurd agree
  each_new (p ∷ ps) [] ss agree within h = absurd agree

  -- a list of expressions as a body
  pub counted_new : (ps : List Look) (fs : List Fresh) (ss : List Sort) → AgreeAll ps fs → is_some_list ss ≡ true → count_of ps ≡ length ss
      → first_refusal (asked_each ps ss names) ≡ None → all_fresh fs taken ≡ true
  counted_new [] [] ss agree some count h = refl
  counted_new (p ∷ []) fs [] agree some count h = cc
  counted_new (p ∷ []) fs (s ∷ ss) agree some count h = each_new (p ∷ []) fs (s ∷ ss) agree (omega arith) h
  counted_new (p ∷ q ∷ ps) fs ss agree some count h = each_new (p ∷ q ∷ ps) fs ss agree (omega (arith, count)) h
  counted_new [] (f ∷ fs) ss agree some count h = absurd agree

  pub body_new : (ps : List Look) (fs : List Fresh) (ss : List Sort) → AgreeAll ps fs → is_some_list ss ≡ true → count_of ps ≡ length ss
      → first_refusal (body_demands ps ss names) ≡ None → all_fresh fs taken ≡ true
  body_new [] fs ss agree some count h = counted_new [] fs ss agree some count h
  body_new (p ∷ []) (f ∷ []) ss agree some count h =
      by (nat_lt 1 (length ss)) refl (λ b is. subst (λ (c : Bool). first_refusal (if c then p.spread ss names else asked_each (p ∷ []) ss names) ≡ None) is h)
    where
      by : (b : Bool) → nat_lt 1 (length ss) ≡ b
          → ((c : Bool) → nat_lt 1 (length ss) ≡ c → first_refusal (if c then p.spread ss names else asked_each (p ∷ []) ss names) ≡ None)
          → all_fresh (f ∷ []) taken ≡ true
      by true is k = and_from (f taken) true (agree.0.spread taken names ss covers count is (k true is)) refl
      by false is k = counted_new (p ∷ []) (f ∷ []) ss agree some count (k false is)
  body_new (p ∷ []) [] ss agree some count h = absurd agree
  body_new (p ∷ []) (f ∷ g ∷ fs) ss agree some count h = absurd agree.1
  body_new (p ∷ q ∷ ps) fs ss agree some count h = counted_new (p ∷ q ∷ ps) fs ss agree some count h

-- several results are some
pub several_are_some : (ss : List Sort) → nat_lt 1 (length ss) ≡ true → is_some_list ss ≡ true
several_are_some [] h = cc
several_are_some (s ∷ ss) h = refl

-- ---- the parts of an expression

abbrev pub linked_new : List Link → List (Op × Fresh)
linked_new ls = map (λ (l : Link). (l.op, is_fresh l.operand)) ls

abbrev pub armed_new : List Arm → List (Fresh × Fresh)
armed_new as_ = map (λ (a : Arm). (is_fresh a.test, is_fresh a.value)) as_

abbrev pub assigned_new : List Assign → List (Named × Fresh)
assigned_new as_ = map (λ (a : Assign). (a.name, is_fresh a.value)) as_

abbrev pub defining_new : List Definition → List (Named × Sort × Fresh)
defining_new ds = map (λ (d : Definition). (d.name, d.sort, is_fresh d.value)) ds

module _ (look : Expr → Look) where
  abbrev pub New : Expr → Type 0
  New e = Agrees (look e) (is_fresh e)

  abbrev pub Parts : Type 0
  Parts = List ((e : Expr) × New e)

  abbrev pub Definitions : Type 0
  Definitions = List ((d : Definition) × New d.value)

  abbrev pub Assigns : Type 0
  Assigns = List ((a : Assign) × New a.value)

  abbrev pub linked : List Link → List (Op × Look)
  linked ls = map (λ (l : Link). (l.op, look l.operand)) ls

  abbrev pub armed : List Arm → List (Look × Look)
  armed as_ = map (λ (a : Arm). (look a.test, look a.value)) as_

  abbrev pub assigned : List Assign → List (Named × Look)
  assigned as_ = map (λ (a : Assign). (a.name, look a.value)) as_

  abbrev pub defining : List Definition → List (Named × Sort × Look)
  defining ds = map (λ (d : Definition). (d.name, d.sort, look d.value)) ds

  -- the names that definitions bind
  abbrev pub names_defined : Definitions → List Binding
  names_defined ds = defined (defining (firsts ds))

  pub agree_all : (es : Parts) → AgreeAll (map look (firsts es)) (map is_fresh (firsts es))
  agree_all [] = tt
  agree_all (e ∷ es) = (e.1, agree_all es)

  module _ (taken : Taken) (names : Names) (covers : Covers taken names) where
    pub asked_here : (e : (e : Expr) × New e) (sort : Sort) → first_refusal (asked (look e.0) sort names) ≡ None → is_fresh e.0 taken ≡ true
    asked_here e sort h = asked_new (look e.0) (is_fresh e.0) e.1 taken names covers sort h

    pub links_new : (ls : List ((l : Link) × New l.operand)) (sort : Sort) → first_refusal (asked_links sort (linked (firsts ls)) names) ≡ None
        → list_all (λ (l : Op × Fresh). l.1 taken) (linked_new (firsts ls)) ≡ true
    links_new [] sort h = refl
    links_new (l ∷ ls) sort h =
        and_from (is_fresh l.0.operand taken) _ (asked_here (l.0.operand, l.1) sort
        (begin_holds (asked (look l.0.operand) sort names) (asked_links sort (linked (firsts ls)) names) h))
        (links_new ls sort (rest_holds (asked (look l.0.operand) sort names) (asked_links sort (linked (firsts ls)) names) h))

    pub arms_new : (as_ : List ((a : Arm) × (New a.test × New a.value))) (sort : Sort) → first_refusal (asked_arms sort (armed (firsts as_)) names) ≡ None
        → list_all (λ (a : Fresh × Fresh). a.0 taken && a.1 taken) (armed_new (firsts as_)) ≡ true
    arms_new [] sort h = refl
    arms_new (a ∷ as_) sort h =
        let one = asked (look a.0.test) boolean names ++ asked (look a.0.value) sort names in
        let first : first_refusal one ≡ None = begin_holds one (asked_arms sort (armed (firsts as_)) names) h in
        and_from (is_fresh a.0.test taken && is_fresh a.0.value taken) _
        (and_from (is_fresh a.0.test taken) (is_fresh a.0.value taken)
        (asked_here (a.0.test, a.1.0) boolean (begin_holds (asked (look a.0.test) boolean names) (asked (look a.0.value) sort names) first))
        (asked_here (a.0.value, a.1.1) sort (rest_holds (asked (look a.0.test) boolean names) (asked (look a.0.value) sort names) first)))
        (arms_new as_ sort (rest_holds one (asked_arms sort (armed (firsts as_)) names) h))

    pub assigns_new : (as_ : Assigns) (loop : Names) → first_refusal (assign_demands loop (assigned (firsts as_)) names) ≡ None
        → list_all (λ (a : Named × Fresh). a.1 taken) (assigned_new (firsts as_)) ≡ true
    assigns_new [] loop h = refl
    assigns_new (a ∷ as_) loop h =
        let one = known a.0.name.name a.0.name.place loop ∷ asked (look a.0.value) (value_sort (loop a.0.name.name)) names in
        and_from (is_fresh a.0.value taken) _
        (asked_here (a.0.value, a.1) (value_sort (loop a.0.name.name))
        (tail_holds (known a.0.name.name a.0.name.place loop) (asked (look a.0.value) (value_sort (loop a.0.name.name)) names)
        (begin_holds one (assign_demands loop (assigned (firsts as_)) names) h)))
        (assigns_new as_ loop (rest_holds one (assign_demands loop (assigned (firsts as_)) names) h))

  pub definitions_new : (ds : Definitions) (taken : Taken) (names : Names) → Covers taken names
      → first_refusal (definition_demands (defining (firsts ds)) names) ≡ None
      → (definitions_fresh (defining_new (firsts ds)) taken ≡ true) × Covers (with_defined (defining_new (firsts ds)) taken) (bound (names_defined ds) names)
  definitions_new [] taken names covers h = (refl, covers)
  definitions_new (d ∷ ds) taken names covers h =
      let inner = bind names d.0.name.name (entry.Local d.0.sort) in
      let own = asked (look d.0.value) d.0.sort names in
      let others = definition_demands (defining (firsts ds)) inner in
      let after : first_refusal (own ++ others) ≡ None = tail_holds (fresh d.0.name names) (own ++ others) h in
      let rest = definitions_new ds (also taken d.0.name.name) inner (covers_bind taken names d.0.name.name (entry.Local d.0.sort) covers)
      (rest_holds own others after) in (
        and_from (is_new taken d.0.name) _ (new_by taken names d.0.name covers (head_holds (fresh d.0.name names) (own ++ others) h))
            (and_from (is_fresh d.0.value taken) _ (asked_here taken names covers (d.0.value, d.1) d.0.sort (begin_holds own others after)) rest.0),
        rest.1,
      )
