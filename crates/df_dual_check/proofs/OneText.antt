-- A text tells one flow, or has one first wrong line.
use Rattle.std.proofs.Common.{◌≡◌, ℕ, zero, suc, ◌+◌, ◌-◌, ◌<◌, ◌≤◌, ◌^◌, List, [], ◌∷◌, ◌++◌, All, length, take, refl, sym, ap, subst, ◌∙◌, arith, append_assoc, length-append, inl, inr}
use Rattle.std.specs.Fmt.{decimal}
use Rattle.std.specs.Prelude.{codes, get_or}
use Rattle.std.proofs.lemmas.Bool.{cases_order}
use Rattle.std.proofs.lemmas.List.{take_more}
use Rattle.std.proofs.lemmas.List.Elements.{All-head, All-tail, All-nil}
use Rattle.df_values.proofs.DecimalLemmas.{one_number}
use Rattle.df_stages.specs.declared.skeleton.SkeletonArc.{SkeletonArc}
use Rattle.df_dual_check.specs.DualTexts.{line, text_of, port_text, arc_line, flow_lines, head_line, dual_lines, dual_text, IsDualText, BeginsWell, IsFirstWrong}
use Rattle.df_dual_check.proofs.Prefixes.{same_rest}
use Rattle.df_dual_check.proofs.LineLaws.{arc_parts, line_leads, one_line, text_more, lines_long, filled, filled_whole}

-- ---- one flow

one_number_of : (arc : SkeletonArc) (f g : ℕ) (rest others : List ℕ) → f < 2 ^ 32 → g < 2 ^ 32 → line (arc_line arc f) ++ rest ≡ line (arc_line arc g) ++ others → f ≡ g
one_number_of arc f g rest others small few same =
    let behind = same_rest (port_text arc.name) (line (decimal f) ++ rest) (line (decimal g) ++ others) (sym (arc_parts arc f rest) ∙ same ∙ arc_parts arc g others) in
    (one_number (line (decimal f) ++ rest) (10 ∷ rest) (10 ∷ others) f g (omega (arith, small)) (omega (arith, few)) (line_leads _ f rest refl) (line_leads _ g others behind)).0

same_flows : (arcs : List SkeletonArc) (flow other : List ℕ) (tail : List (List ℕ)) → length flow ≡ length arcs → length other ≡ length arcs → All (λ f. f < 2 ^ 32) flow → All (λ f. f < 2 ^ 32) other
    → text_of (flow_lines arcs flow ++ tail) ≡ text_of (flow_lines arcs other ++ tail) → flow ≡ other
same_flows [] [] [] tail p q small few e = refl
same_flows [] (f ∷ flow) other tail p q small few e = absurd (omega (arith, p))
same_flows [] [] (g ∷ other) tail p q small few e = absurd (omega (arith, q))
same_flows (a ∷ arcs) [] other tail p q small few e = absurd (omega (arith, p))
same_flows (a ∷ arcs) (f ∷ flow) [] tail p q small few e = absurd (omega (arith, q))
same_flows (a ∷ arcs) (f ∷ flow) (g ∷ other) tail p q small few e =
    let here = All-head (λ f. f < 2 ^ 32) f flow small in
    let there = All-head (λ f. f < 2 ^ 32) g other few in
    let rest = text_of (flow_lines arcs flow ++ tail) in
    let others = text_of (flow_lines arcs other ++ tail) in
    ap (λ x. x ∷ flow) (one_number_of a f g rest others here there e)
    ∙ ap (λ xs. g ∷ xs) (same_flows arcs flow other tail (omega (arith, p)) (omega (arith, q)) (All-tail (λ f. f < 2 ^ 32) f flow small) (All-tail (λ f. f < 2 ^ 32) g other few)
    (one_line a f g rest others here there e))

pub one_flow : (arcs : List SkeletonArc) (text flow other : List ℕ) → IsDualText arcs text flow → IsDualText arcs text other → flow ≡ other
unfolding dual_text
one_flow arcs text flow other is too =
    same_flows arcs flow other (codes "end" ∷ []) is.numbers.each too.numbers.each is.numbers.small too.numbers.small
    (same_rest (line (head_line (length arcs))) (text_of (flow_lines arcs flow ++ codes "end" ∷ [])) (text_of (flow_lines arcs other ++ codes "end" ∷ [])) (sym is.spelled ∙ too.spelled))

-- ---- one wrong line

length-dual_lines : (arcs : List SkeletonArc) (flow : List ℕ) → length flow ≡ length arcs → length (dual_lines arcs flow) ≡ length arcs + 2
length-dual_lines arcs flow each =
    let lines = lines_long arcs flow each in
    let long = length-append (flow_lines arcs flow) (codes "end" ∷ []) in
    omega (arith, lines, long)

-- a text that begins with one line more begins with the lines
less_well : (arcs : List SkeletonArc) (text : List ℕ) (n : ℕ) → BeginsWell arcs text (n + 1) → BeginsWell arcs text n
less_well arcs text n well =
    let lines = dual_lines arcs well.flow in
    let long = length-dual_lines arcs well.flow well.numbers.each in
    let within = well.within in
    let here : n < length lines = omega (arith, long, within) in
    record {
      flow = well.flow;
      numbers = well.numbers;
      within = omega (arith, within);
      rest = line (get_or lines n []) ++ well.rest;
      begins = well.begins ∙ ap (λ l. text_of l ++ well.rest) (take_more lines n [] here) ∙ ap (λ t. t ++ well.rest) (text_more (take n lines) (get_or lines n []))
          ∙ append_assoc (text_of (take n lines)) (line (get_or lines n [])) well.rest;
    }

fewer_well : (arcs : List SkeletonArc) (text : List ℕ) (k n m : ℕ) → n ≡ m + k → BeginsWell arcs text n → BeginsWell arcs text m
fewer_well arcs text zero n m e well = let same : n ≡ m = omega (arith, e) in subst (BeginsWell arcs text) same well
fewer_well arcs text (suc k) n m e well =
    less_well arcs text m (fewer_well arcs text k n (m + 1) (omega (arith, e)) well)

not_less : (arcs : List SkeletonArc) (text : List ℕ) (m n : ℕ) → IsFirstWrong arcs text m → IsFirstWrong arcs text n → m < n → ⊥
not_less arcs text m n first other less =
    let counted = other.counted in
    let below : m ≤ other.before = omega (arith, counted, less) in
    first.wrong (fewer_well arcs text (other.before - m) other.before m (omega (arith, below)) other.well)

pub one_wrong_line : (arcs : List SkeletonArc) (text : List ℕ) (m n : ℕ) → IsFirstWrong arcs text m → IsFirstWrong arcs text n → m ≡ n
one_wrong_line arcs text m n first other =
    elim (cases_order m n) [
      | inl same ↦ same
      | inr rest ↦ elim rest [
        | inl less ↦ absurd (not_less arcs text m n first other less)
        | inr more ↦ absurd (not_less arcs text n m other first more)
      ]
    ]

-- ---- some wrong line

begins_with_none : (arcs : List SkeletonArc) (text : List ℕ) → BeginsWell arcs text 0
begins_with_none arcs text = record {
  flow = filled arcs [];
  numbers = filled_whole arcs [] (omega arith) (All-nil (λ f. f < 2 ^ 32));
  within = omega arith;
  rest = text;
  begins = refl;
}

begins_long : (arcs : List SkeletonArc) (text : List ℕ) → ((flow : List ℕ) → ¬ IsDualText arcs text flow) → ((n : ℕ) → ¬ IsFirstWrong arcs text n) → (n : ℕ) → ¬ ¬ BeginsWell arcs text n
begins_long arcs text no_flow none zero not = not (begins_with_none arcs text)
begins_long arcs text no_flow none (suc n) not =
    begins_long arcs text no_flow none n (λ well. none (suc n) (record { before = n; counted = refl; well = well; wrong = not; none = no_flow }))

pub some_wrong_line : (arcs : List SkeletonArc) (text : List ℕ) → ((flow : List ℕ) → ¬ IsDualText arcs text flow) → ¬ ((n : ℕ) → ¬ IsFirstWrong arcs text n)
some_wrong_line arcs text no_flow none =
    begins_long arcs text no_flow none (length arcs + 3) (λ well. let within = well.within in omega (arith, within))
