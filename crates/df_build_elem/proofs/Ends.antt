-- The inputs and outputs of a skeleton: the parameters in order, then the results with their numbers, and short lists.
use Rattle.std.proofs.Common.{◌≡◌, ◌≤◌, ◌+◌, ℕ, Bool, true, false, cond, List, [], ◌∷◌, ◌++◌, Option, Some, None, refl, sym, ap, subst, ◌∙◌, append_assoc, arith}
use Rattle.std.proofs.lemmas.List.{append-nil}
use Rattle.std.proofs.lemmas.List.Elements.{filter_map-append}
use Rattle.std.proofs.lemmas.List.Sums.{sum_by-append, sum_by-cons}
use Rattle.std.specs.List.{AllByRecursion, count_by, cons_option, filter_map}
use Rattle.df_values.specs.declared.values.Basic.{Basic}
use Rattle.df_cells.specs.Cells.{declared_by}
use Rattle.df_cells.specs.Kinds.{is_output}
use Rattle.df_cells.specs.WellFormed.{outer_length, number_or_none}
use Rattle.df_cells.specs.declared.cells.InputDecl.{InputDecl}
use Rattle.df_cells.specs.declared.kinds.Kind.{Kind}
use Rattle.df_cells.specs.declared.kinds.Kind.TheVariants as kind
use Rattle.df_build_terms.specs.Made.{IsInner}
use Rattle.df_build_elem.proofs.Lists.{all_push}

-- ---- inner cells are no ends

pub no_some : {X : Type 0} {x : X} → Some x ≡ None → ⊥
no_some e = cc

pub inner_declares_nothing : (k : Kind) → IsInner k → declared_by k ≡ None
inner_declares_nothing (kind.In name basic n) e = absurd (no_some e)
inner_declares_nothing _ e = refl

pub inner_is_no_output : (k : Kind) → IsInner k → is_output k ≡ false
inner_is_no_output (kind.Out k n) e = absurd (no_some e)
inner_is_no_output _ e = refl

-- ---- numbers of outputs

abbrev pub outputs_in : List Kind → ℕ
outputs_in ks = count_by is_output ks

-- after n outputs, an output has the next number
abbrev pub IsNext : ℕ → Kind → Type 0
IsNext n (kind.Out k m) = k ≡ n + 1
IsNext n _ = Unit {0}

abbrev pub AreNumbered : ℕ → List Kind → Type 0
AreNumbered n [] = Unit {0}
AreNumbered n (k ∷ ks) = IsNext n k × AreNumbered (n + cond (is_output k) 1 0) ks

inner_is_next : (n : ℕ) (k : Kind) → IsInner k → IsNext n k
inner_is_next n (kind.Out k m) e = absurd (no_some e)
inner_is_next n _ e = tt

numbered_push : (n : ℕ) (ks : List Kind) (k : Kind) → AreNumbered n ks → IsNext (n + outputs_in ks) k
    → AreNumbered n (ks ++ k ∷ [])
numbered_push n [] k all next = let e : n + 0 ≡ n = omega arith in (subst (λ m. IsNext m k) e next, tt)
numbered_push n (j ∷ ks) k all next =
    let one = cond (is_output j) 1 0 in
    let e : n + outputs_in (j ∷ ks) ≡ (n + one) + outputs_in ks =
    ap (λ m. n + m) (sum_by-cons (λ x. cond (is_output x) 1 0) j ks) ∙ sym (add_up n one (outputs_in ks)) in
    (all.0, numbered_push (n + one) ks k all.1 (subst (λ m. IsNext m k) e next))
  where
    add_up : (a b c : ℕ) → (a + b) + c ≡ a + (b + c)
    add_up a b c = omega arith

pub count_push : (ks : List Kind) (k : Kind) → outputs_in (ks ++ k ∷ []) ≡ outputs_in ks + cond (is_output k) 1 0
count_push ks k =
    sum_by-append (λ x. cond (is_output x) 1 0) ks (k ∷ []) ∙ ap (λ m. outputs_in ks + m) (one (cond (is_output k) 1 0))
  where
    one : (m : ℕ) → 0 + m ≡ m
    one m = omega arith

-- ---- the ends of a list of kinds: what is declared, how many outputs there are, and short lists

abbrev pub IsShortEnd : Kind → Type 0
IsShortEnd k = number_or_none (outer_length k) ≤ 4096

pub record HasEnds (declared : List InputDecl) (outputs : ℕ) (ks : List Kind) : Type 0 where
  pub inputs : filter_map declared_by ks ≡ declared
  pub count : outputs_in ks ≡ outputs
  pub numbered : AreNumbered 0 ks
  pub short : AllByRecursion IsShortEnd ks

pub no_ends : HasEnds [] 0 []
no_ends = record { inputs = refl; count = refl; numbered = tt; short = tt }

module _ (ds : List InputDecl) (n : ℕ) (ks : List Kind) (ends : HasEnds ds n ks) where
  -- what comes at the end is declared last
  declared_more : (k : Kind) (o : Option InputDecl) → declared_by k ≡ o
      → filter_map declared_by (ks ++ k ∷ []) ≡ ds ++ cons_option o []
  declared_more k o is =
      filter_map-append declared_by ks (k ∷ [])
      ∙ (ap (λ l. l ++ filter_map declared_by (k ∷ [])) ends.inputs ∙ ap (λ o. ds ++ cons_option o []) is)

  counted_more : (k : Kind) (t : Bool) → is_output k ≡ t → outputs_in (ks ++ k ∷ []) ≡ n + cond t 1 0
  counted_more k t is = count_push ks k ∙ (ap (λ m. m + cond (is_output k) 1 0) ends.count ∙ ap (λ t. n + cond t 1 0) is)

  numbered_more : (k : Kind) → IsNext n k → AreNumbered 0 (ks ++ k ∷ [])
  numbered_more k next =
      let count = ends.count in
      let e : n ≡ 0 + outputs_in ks = omega (arith, count) in
      numbered_push 0 ks k ends.numbered (subst (λ m. IsNext m k) e next)

  pub input_more : (name : List ℕ) (basic : Basic) (m : ℕ) → m ≤ 4096
      → HasEnds (ds ++ record { name = name; basic = basic; length = m } ∷ []) n (ks ++ kind.In name basic m ∷ [])
  input_more name basic m few = record {
    inputs = declared_more (kind.In name basic m) (Some (record { name = name; basic = basic; length = m })) refl;
    count = counted_more (kind.In name basic m) false refl ∙ add_none n;
    numbered = numbered_more (kind.In name basic m) tt;
    short = all_push IsShortEnd ks (kind.In name basic m) ends.short few;
  }
    where
      add_none : (m : ℕ) → m + 0 ≡ m
      add_none m = omega arith

  pub inner_more : (k : Kind) → IsInner k → HasEnds ds n (ks ++ k ∷ [])
  inner_more k inner = record {
    inputs = declared_more k None (inner_declares_nothing k inner) ∙ append-nil ds;
    count = counted_more k false (inner_is_no_output k inner) ∙ add_none n;
    numbered = numbered_more k (inner_is_next n k inner);
    short = all_push IsShortEnd ks k ends.short (nothing (outer_length k) inner);
  }
    where
      add_none : (m : ℕ) → m + 0 ≡ m
      add_none m = omega arith

      nothing : (o : Option ℕ) → o ≡ None → number_or_none o ≤ 4096
      nothing None e = omega arith
      nothing (Some m) e = absurd (no_some e)

  pub output_more : (m : ℕ) → m ≤ 4096 → HasEnds ds (n + 1) (ks ++ kind.Out (n + 1) m ∷ [])
  output_more m few = record {
    inputs = declared_more (kind.Out (n + 1) m) None refl ∙ append-nil ds;
    count = counted_more (kind.Out (n + 1) m) true refl;
    numbered = numbered_more (kind.Out (n + 1) m) refl;
    short = all_push IsShortEnd ks (kind.Out (n + 1) m) ends.short few;
  }

-- more inner cells
pub inners_more : (ds : List InputDecl) (n : ℕ) (ks more : List Kind) → AllByRecursion IsInner more → HasEnds ds n ks
    → HasEnds ds n (ks ++ more)
inners_more ds n ks [] all ends = subst (HasEnds ds n) (sym (append-nil ks)) ends
inners_more ds n ks (k ∷ more) all ends =
    subst (HasEnds ds n) (append_assoc ks (k ∷ []) more) (inners_more ds n (ks ++ k ∷ []) more all.1 (inner_more ds n ks ends k all.0))
