-- Lines of a dual text, one after the other.
use Rattle.std.proofs.Common.{◌≡◌, ◌≢◌, ℕ, zero, suc, ◌+◌, ◌-◌, ◌<◌, ◌≤◌, ◌^◌, List, [], ◌∷◌, ◌++◌, All, get_or, length, take, drop, replicate, codes, Option, Some, None, IfNone, refl, sym, ap, subst, ◌∙◌, arith, append_assoc, append-nil, length-append}
use Rattle.std.specs.Fmt.{decimal}
use Rattle.std.proofs.lemmas.Grind.{flat_map-append}
use Rattle.std.proofs.lemmas.List.{take_all, take_more, take-append-drop, length-replicate, length-take-le}
use Rattle.std.proofs.lemmas.List.Elements.{All-append, All-cons, All-nil, All-head, All-tail}
use Rattle.df_values.specs.Decimals.{LeadsWith}
use Rattle.df_values.proofs.DecimalLemmas.{one_number}
use Rattle.df_cells.specs.declared.cells.Dest.{Dest}
use Rattle.df_stages.specs.declared.skeleton.SkeletonArc.{SkeletonArc}
use Rattle.df_stages.specs.Skeletons.{arc_at}
use Rattle.df_dual_check.specs.DualTexts.{line, text_of, port_text, arc_line, flow_lines, head_line, dual_lines, dual_text, IsFlowOf, IsDualText, BeginsWell, IsFirstWrong, RefusesText}
use Rattle.df_dual_check.specs.LinesRead.{IsReadTo, StopsAt, StopsReading}
use Rattle.df_dual_check.specs.declared.dual_text.DualTextAnswer.{DualTextAnswer}
use Rattle.df_dual_check.specs.declared.dual_text.DualTextAnswer.TheVariants.{BadDual, Memory}
use Rattle.df_dual_check.proofs.Prefixes.{same_rest}

pub if_none : {A P Q : Type 0} (r : Option A) → (P → Q) → IfNone r P → IfNone r Q
if_none None f h = f h
if_none (Some x) f h = h

-- ---- the parts of a line

pub head_parts : (count : ℕ) (rest : List ℕ) → line (head_line count) ++ rest ≡ codes "dual 1 " ++ (decimal count ++ (10 ∷ rest))
head_parts count rest = ap (λ t. codes "dual 1 " ++ t) (append_assoc (decimal count) (10 ∷ []) rest)

pub port_parts : (d : Dest) (rest : List ℕ) → port_text d ++ rest ≡ decimal d.cell.0 ++ (codes "." ++ (decimal d.port.0 ++ (codes " " ++ rest)))
port_parts d rest =
    append_assoc (decimal d.cell.0) (codes "." ++ (decimal d.port.0 ++ codes " ")) rest
    ∙ ap (λ t. decimal d.cell.0 ++ (codes "." ++ t)) (append_assoc (decimal d.port.0) (codes " ") rest)

pub arc_parts : (arc : SkeletonArc) (f : ℕ) (rest : List ℕ) → line (arc_line arc f) ++ rest ≡ port_text arc.name ++ (line (decimal f) ++ rest)
arc_parts arc f rest =
    append_assoc (arc_line arc f) (10 ∷ []) rest ∙ append_assoc (port_text arc.name) (decimal f) (10 ∷ rest)
    ∙ ap (λ t. port_text arc.name ++ t) (sym (append_assoc (decimal f) (10 ∷ []) rest))

-- a number that is all of a line
pub line_leads : (text : List ℕ) (f : ℕ) (rest : List ℕ) → text ≡ line (decimal f) ++ rest → LeadsWith text f (10 ∷ rest)
line_leads text f rest parts = record { parts = parts ∙ append_assoc (decimal f) (10 ∷ []) rest; ends = refl }

-- so two lines of one arc are one line
pub one_line : (arc : SkeletonArc) (f g : ℕ) (rest others : List ℕ) → f < 2 ^ 32 → g < 2 ^ 32 → line (arc_line arc f) ++ rest ≡ line (arc_line arc g) ++ others → rest ≡ others
one_line arc f g rest others small few same =
    let behind = same_rest (port_text arc.name) (line (decimal f) ++ rest) (line (decimal g) ++ others) (sym (arc_parts arc f rest) ∙ same ∙ arc_parts arc g others) in
    let both = one_number (line (decimal f) ++ rest) (10 ∷ rest) (10 ∷ others) f g (omega (arith, small)) (omega (arith, few)) (line_leads _ f rest refl) (line_leads _ g others behind) in
    ap (drop 1) both.1

-- ---- one line more

no_lines : (arcs : List SkeletonArc) → flow_lines arcs [] ≡ []
no_lines [] = refl
no_lines (a ∷ arcs) = refl

pub flow_lines_more : (arcs : List SkeletonArc) (flow : List ℕ) (f : ℕ) → length flow < length arcs → flow_lines arcs (flow ++ f ∷ []) ≡ flow_lines arcs flow ++ arc_line (arc_at arcs (length flow)) f ∷ []
flow_lines_more [] flow f more = absurd (omega (arith, more))
flow_lines_more (arc ∷ arcs) [] f more = ap (λ l. arc_line arc f ∷ l) (no_lines arcs)
flow_lines_more (arc ∷ arcs) (g ∷ flow) f more = ap (λ l. arc_line arc g ∷ l) (flow_lines_more arcs flow f (omega (arith, more)))

pub text_more : (lines : List (List ℕ)) (l : List ℕ) → text_of (lines ++ l ∷ []) ≡ text_of lines ++ line l
text_more lines l = flat_map-append line lines (l ∷ []) ∙ ap (λ t. text_of lines ++ t) (append-nil (line l))

pub next_line : (arcs : List SkeletonArc) (text flow rest : List ℕ) (f : ℕ) (behind : List ℕ) → IsReadTo arcs text flow rest → length flow < length arcs → f < 2 ^ 32
    → rest ≡ line (arc_line (arc_at arcs (length flow)) f) ++ behind → IsReadTo arcs text (flow ++ f ∷ []) behind
next_line arcs text flow rest f behind read more small is = record {
  some = let long = length-append flow (f ∷ []) in omega (arith, long, more);
  small = All-append (λ f. f < 2 ^ 32) flow (f ∷ []) read.small (All-cons (λ f. f < 2 ^ 32) f [] small (All-nil (λ f. f < 2 ^ 32)));
  parts =
      read.parts ∙ ap (λ t. text_of (flow_lines arcs flow) ++ t) is ∙ sym (append_assoc (text_of (flow_lines arcs flow)) (line (arc_line (arc_at arcs (length flow)) f)) behind)
      ∙ ap (λ t. t ++ behind) (sym (ap text_of (flow_lines_more arcs flow f more) ∙ text_more (flow_lines arcs flow) (arc_line (arc_at arcs (length flow)) f)));
}

pub begun : (arcs : List SkeletonArc) (text : List ℕ) → IsReadTo arcs text [] text
begun arcs text = record { some = omega arith; small = All-nil (λ f. f < 2 ^ 32); parts = ap (λ l. text_of l ++ text) (sym (no_lines arcs)) }

-- ---- the first lines of a text

-- the first lines of a longer flow
first_lines : (arcs : List SkeletonArc) (flow more : List ℕ) (tail : List (List ℕ)) → length flow ≤ length arcs → take (length flow) (flow_lines arcs (flow ++ more) ++ tail) ≡ flow_lines arcs flow
first_lines [] [] more tail few = refl
first_lines (a ∷ arcs) [] more tail few = refl
first_lines [] (f ∷ flow) more tail few = absurd (omega (arith, few))
first_lines (a ∷ arcs) (f ∷ flow) more tail few =
    ap (λ n. take n (arc_line a f ∷ (flow_lines arcs (flow ++ more) ++ tail))) next ∙ ap (λ l. arc_line a f ∷ l) (first_lines arcs flow more tail (omega (arith, few)))
  where
    next : length (f ∷ flow) ≡ suc (length flow)
    next = refl

module _ (arcs : List SkeletonArc) (flow : List ℕ) where
  -- a flow that is continued by zeros
  abbrev pub filled : List ℕ
  filled = flow ++ replicate (length arcs - length flow) 0

  pub filled_whole : length flow ≤ length arcs → All (λ f. f < 2 ^ 32) flow → IsFlowOf arcs filled
  filled_whole some small = record {
    each = let long = length-append flow (replicate (length arcs - length flow) 0) in let rest = length-replicate {A = ℕ} (length arcs - length flow) 0 in omega (arith, long, rest, some);
    small = All-append (λ f. f < 2 ^ 32) flow (replicate (length arcs - length flow) 0) small (zeros (length arcs - length flow));
  }
    where
      zeros : (n : ℕ) → All (λ f. f < 2 ^ 32) (replicate n 0)
      zeros zero = All-nil (λ f. f < 2 ^ 32)
      zeros (suc n) = All-cons (λ f. f < 2 ^ 32) 0 (replicate n 0) (omega arith) (zeros n)

-- the head, and the lines of so many arcs
pub begins_read : (arcs : List SkeletonArc) (text behind flow rest : List ℕ) → text ≡ line (head_line (length arcs)) ++ behind → IsReadTo arcs behind flow rest → BeginsWell arcs text (length flow + 1)
begins_read arcs text behind flow rest head read = record {
  flow = filled arcs flow;
  numbers = filled_whole arcs flow read.some read.small;
  within = let some = read.some in omega (arith, some);
  rest = rest;
  begins =
      head ∙ ap (λ t. line (head_line (length arcs)) ++ t) read.parts ∙ sym (append_assoc (line (head_line (length arcs))) (text_of (flow_lines arcs flow)) rest)
      ∙ ap (λ l. text_of (head_line (length arcs) ∷ l) ++ rest) (sym (first_lines arcs flow (replicate (length arcs - length flow) 0) (codes "end" ∷ []) read.some))
      ∙ ap (λ n. text_of (take n (dual_lines arcs (filled arcs flow))) ++ rest) next;
}
  where
    next : suc (length flow) ≡ length flow + 1
    next = omega arith

-- behind the lines of a flow stand those of any other flow whose lines the text begins with
peel : (arcs : List SkeletonArc) (flow other : List ℕ) (tail : List (List ℕ)) (m : ℕ) (rest behind : List ℕ) → length flow ≤ length arcs → length other ≡ length arcs → All (λ f. f < 2 ^ 32) flow → All (λ f. f < 2 ^ 32) other
    → text_of (flow_lines arcs flow) ++ rest ≡ text_of (take (length flow + m) (flow_lines arcs other ++ tail)) ++ behind → rest ≡ text_of (take m (drop (length flow) (flow_lines arcs other ++ tail))) ++ behind
peel [] [] other tail m rest behind few each small all e = e ∙ ap (λ n. text_of (take n (flow_lines [] other ++ tail)) ++ behind) (none m)
  where
    none : (m : ℕ) → 0 + m ≡ m
    none m = omega arith
peel (a ∷ arcs) [] other tail m rest behind few each small all e = e ∙ ap (λ n. text_of (take n (flow_lines (a ∷ arcs) other ++ tail)) ++ behind) (none m)
  where
    none : (m : ℕ) → 0 + m ≡ m
    none m = omega arith
peel [] (f ∷ flow) other tail m rest behind few each small all e = absurd (omega (arith, few))
peel (a ∷ arcs) (f ∷ flow) [] tail m rest behind few each small all e = absurd (omega (arith, each))
peel (a ∷ arcs) (f ∷ flow) (g ∷ other) tail m rest behind few each small all e =
    peel arcs flow other tail m rest behind (omega (arith, few)) (omega (arith, each)) (All-tail (λ f. f < 2 ^ 32) f flow small) (All-tail (λ f. f < 2 ^ 32) g other all)
    (one_line a f g (text_of (flow_lines arcs flow) ++ rest) (text_of (take (length flow + m) (flow_lines arcs other ++ tail)) ++ behind) (All-head (λ f. f < 2 ^ 32) f flow small) (All-head (λ f. f < 2 ^ 32) g other all)
    (sym (append_assoc (line (arc_line a f)) (text_of (flow_lines arcs flow)) rest) ∙ e ∙ ap (λ n. text_of (take n (arc_line a g ∷ (flow_lines arcs other ++ tail))) ++ behind) (next (length flow) m)
    ∙ append_assoc (line (arc_line a g)) (text_of (take (length flow + m) (flow_lines arcs other ++ tail))) behind))
  where
    next : (n m : ℕ) → suc n + m ≡ suc (n + m)
    next n m = omega arith

-- ---- the first wrong line

pub lines_long : (arcs : List SkeletonArc) (flow : List ℕ) → length flow ≡ length arcs → length (flow_lines arcs flow) ≡ length arcs
lines_long [] flow each = refl
lines_long (a ∷ arcs) [] each = absurd (omega (arith, each))
lines_long (a ∷ arcs) (f ∷ flow) each = let rest = lines_long arcs flow (omega (arith, each)) in omega (arith, rest)

line_there : (arcs : List SkeletonArc) (other : List ℕ) (tail : List (List ℕ)) (k : ℕ) → length other ≡ length arcs → k < length arcs → take 1 (drop k (flow_lines arcs other ++ tail)) ≡ arc_line (arc_at arcs k) (get_or other k 0) ∷ []
line_there [] other tail k each more = absurd (omega (arith, more))
line_there (a ∷ arcs) [] tail k each more = absurd (omega (arith, each))
line_there (a ∷ arcs) (f ∷ other) tail zero each more = refl
line_there (a ∷ arcs) (f ∷ other) tail (suc k) each more = line_there arcs other tail k (omega (arith, each)) (omega (arith, more))

line_behind : (arcs : List SkeletonArc) (other : List ℕ) (l : List ℕ) → length other ≡ length arcs → take 1 (drop (length arcs) (flow_lines arcs other ++ l ∷ [])) ≡ l ∷ []
line_behind [] other l each = refl
line_behind (a ∷ arcs) [] l each = absurd (omega (arith, each))
line_behind (a ∷ arcs) (f ∷ other) l each = ap (λ n. take 1 (drop n (arc_line a f ∷ (flow_lines arcs other ++ l ∷ [])))) next ∙ line_behind arcs other l (omega (arith, each))
  where
    next : length (a ∷ arcs) ≡ suc (length arcs)
    next = refl

one_text : (l rest : List ℕ) → text_of (l ∷ []) ++ rest ≡ line l ++ rest
one_text l rest = ap (λ t. t ++ rest) (append-nil (line l))

-- the whole text begins with so many of its lines
whole_begins : (arcs : List SkeletonArc) (text flow : List ℕ) (n : ℕ) → n ≤ length arcs + 2 → IsDualText arcs text flow → BeginsWell arcs text n
unfolding dual_text
whole_begins arcs text flow n few whole = record {
  flow = flow;
  numbers = whole.numbers;
  within = few;
  rest = text_of (drop n (dual_lines arcs flow));
  begins = whole.spelled ∙ sym (ap text_of (take-append-drop n (dual_lines arcs flow))) ∙ flat_map-append line (take n (dual_lines arcs flow)) (drop n (dual_lines arcs flow));
}

refused : (arcs : List SkeletonArc) (text : List ℕ) (n : ℕ) → suc n ≤ length arcs + 2 → BeginsWell arcs text n → (BeginsWell arcs text (suc n) → ⊥) → IsFirstWrong arcs text (suc n)
refused arcs text n few well wrong = record { before = n; counted = refl; well = well; wrong = wrong; none = λ flow whole. wrong (whole_begins arcs text flow (suc n) few whole) }

-- behind the head
behind_head : (arcs : List SkeletonArc) (text behind : List ℕ) (n : ℕ) (well : BeginsWell arcs text (suc n)) → text ≡ line (head_line (length arcs)) ++ behind → behind ≡ text_of (take n (flow_lines arcs well.flow ++ codes "end" ∷ [])) ++ well.rest
behind_head arcs text behind n well head =
    same_rest (line (head_line (length arcs))) behind (text_of (take n (flow_lines arcs well.flow ++ codes "end" ∷ [])) ++ well.rest)
    (sym head ∙ well.begins ∙ append_assoc (line (head_line (length arcs))) (text_of (take n (flow_lines arcs well.flow ++ codes "end" ∷ []))) well.rest)

pub no_head : (arcs : List SkeletonArc) (text : List ℕ) → ((rest : List ℕ) → ¬ (text ≡ line (head_line (length arcs)) ++ rest)) → IsFirstWrong arcs text 1
no_head arcs text none = refused arcs text 0 (omega arith) first wrong
  where
    first : BeginsWell arcs text 0
    first = record { flow = filled arcs []; numbers = filled_whole arcs [] (omega arith) (All-nil (λ f. f < 2 ^ 32)); within = omega arith; rest = text; begins = refl }

    wrong : BeginsWell arcs text 1 → ⊥
    wrong well = none well.rest (well.begins ∙ one_text (head_line (length arcs)) well.rest)

dual_spelled : (arcs : List SkeletonArc) (text flow : List ℕ) → IsDualText arcs text flow → text ≡ text_of (dual_lines arcs flow)
unfolding dual_text
dual_spelled arcs text flow whole = whole.spelled

-- lines and what stands behind them, where the next line isn't there
module _ (arcs : List SkeletonArc) (text behind flow rest : List ℕ) (head : text ≡ line (head_line (length arcs)) ++ behind) (read : IsReadTo arcs behind flow rest) where
  next_is : (well : BeginsWell arcs text (suc (length flow + 1))) → rest ≡ text_of (take 1 (drop (length flow) (flow_lines arcs well.flow ++ codes "end" ∷ []))) ++ well.rest
  next_is well =
      peel arcs flow well.flow (codes "end" ∷ []) 1 rest well.rest read.some well.numbers.each read.small well.numbers.small
      (sym read.parts ∙ behind_head arcs text behind (length flow + 1) well head)

  pub no_arc_line : length flow < length arcs → ((f : ℕ) (behind : List ℕ) → f < 2 ^ 32 → ¬ (rest ≡ line (arc_line (arc_at arcs (length flow)) f) ++ behind)) → IsFirstWrong arcs text (suc (length flow + 1))
  no_arc_line more none =
      refused arcs text (length flow + 1) (omega (arith, more)) (begins_read arcs text behind flow rest head read)
      (λ well. none (get_or well.flow (length flow) 0) well.rest (let each = well.numbers.each in well.numbers.small (length flow) 0 (omega (arith, each, more)))
      (next_is well ∙ ap (λ l. text_of l ++ well.rest) (line_there arcs well.flow (codes "end" ∷ []) (length flow) well.numbers.each more) ∙ one_text (arc_line (arc_at arcs (length flow)) (get_or well.flow (length flow) 0)) well.rest))

  ends_is : length flow ≡ length arcs → (other : List ℕ) → length other ≡ length arcs → take 1 (drop (length flow) (flow_lines arcs other ++ codes "end" ∷ [])) ≡ codes "end" ∷ []
  ends_is all other each = ap (λ n. take 1 (drop n (flow_lines arcs other ++ codes "end" ∷ []))) all ∙ line_behind arcs other (codes "end") each

  pub no_end : length flow ≡ length arcs → ((more : List ℕ) → ¬ (rest ≡ codes "end\n" ++ more)) → IsFirstWrong arcs text (suc (length flow + 1))
  no_end all none =
      refused arcs text (length flow + 1) (omega (arith, all)) (begins_read arcs text behind flow rest head read)
      (λ well. none well.rest (next_is well ∙ ap (λ l. text_of l ++ well.rest) (ends_is all well.flow well.numbers.each)))

  whole_lines : length flow ≡ length arcs → (end : List ℕ) → rest ≡ codes "end\n" ++ end → text ≡ text_of (dual_lines arcs flow) ++ end
  whole_lines all end ends =
      head ∙ ap (λ t. line (head_line (length arcs)) ++ t) (read.parts ∙ ap (λ t. text_of (flow_lines arcs flow) ++ t) ends
      ∙ sym (append_assoc (text_of (flow_lines arcs flow)) (codes "end\n") end) ∙ ap (λ t. t ++ end) (sym (text_more (flow_lines arcs flow) (codes "end"))))
      ∙ sym (append_assoc (line (head_line (length arcs))) (text_of (flow_lines arcs flow ++ codes "end" ∷ [])) end)

  long_lines : (other : List ℕ) → length other ≡ length arcs → length (dual_lines arcs other) ≡ length arcs + 2
  long_lines other each =
      let sum = length-append (flow_lines arcs other) (codes "end" ∷ []) in
      let lines = lines_long arcs other each in omega (arith, sum, lines)

  pub more_behind : length flow ≡ length arcs → (end : List ℕ) → rest ≡ codes "end\n" ++ end → end ≢ [] → IsFirstWrong arcs text (length arcs + 3)
  more_behind all end ends some = record {
    before = length arcs + 2;
    counted = omega arith;
    well = record {
      flow = flow;
      numbers = record { each = all; small = read.small };
      within = omega arith;
      rest = end;
      begins =
          whole_lines all end ends
          ∙ ap (λ l. text_of l ++ end) (sym (take_all (length arcs + 2) (dual_lines arcs flow) (let long = long_lines flow all in omega (arith, long))));
    };
    wrong = λ well. let few = well.within in absurd (omega (arith, few));
    none = λ other whole. some (nothing other whole);
  }
    where
      nothing : (other : List ℕ) → IsDualText arcs text other → end ≡ []
      nothing other whole =
          let long = long_lines other whole.numbers.each in
          let tail : behind ≡ text_of (flow_lines arcs other ++ codes "end" ∷ []) = same_rest (line (head_line (length arcs))) behind (text_of (flow_lines arcs other ++ codes "end" ∷ [])) (sym head ∙ dual_spelled arcs text other whole) in
          let taken = ap (λ l. text_of l ++ []) (take_all (length flow + 1) (flow_lines arcs other ++ codes "end" ∷ []) (omega (arith, long, all))) ∙ append-nil (text_of (flow_lines arcs other ++ codes "end" ∷ [])) in
          let last = peel arcs flow other (codes "end" ∷ []) 1 rest [] read.some whole.numbers.each read.small whole.numbers.small (sym read.parts ∙ tail ∙ sym taken) in
          same_rest (codes "end\n") end [] (sym ends ∙ last ∙ ap (λ l. text_of l ++ []) (ends_is all other whole.numbers.each))

  pub whole_text : length flow ≡ length arcs → (end : List ℕ) → rest ≡ codes "end\n" ++ end → end ≡ [] → IsDualText arcs text flow
  unfolding dual_text
  whole_text all end ends none = record {
    numbers = record { each = all; small = read.small };
    spelled = whole_lines all end ends ∙ ap (λ t. text_of (dual_lines arcs flow) ++ t) none ∙ append-nil (text_of (dual_lines arcs flow));
  }

pub stopped : (arcs : List SkeletonArc) (text behind : List ℕ) (number : ℕ) → text ≡ line (head_line (length arcs)) ++ behind → StopsAt arcs behind number → IsFirstWrong arcs text number
stopped arcs text behind number head stops =
    subst (IsFirstWrong arcs text) (let counted = stops.counted in let same : suc (length stops.flow + 1) ≡ number = omega (arith, counted) in same)
    (no_arc_line arcs text behind stops.flow stops.rest head stops.read stops.more stops.wrong)

-- the numbers of the last lines
pub end_number : (arcs : List SkeletonArc) (text : List ℕ) (n : ℕ) → n ≡ length arcs → IsFirstWrong arcs text (suc (n + 1)) → IsFirstWrong arcs text (length arcs + 2)
end_number arcs text n all wrong = subst (IsFirstWrong arcs text) (let same : suc (n + 1) ≡ length arcs + 2 = omega (arith, all) in same) wrong

-- ---- a text that is written

pub lines_begun : (arcs : List SkeletonArc) (head : List ℕ) → head ≡ head ++ text_of (flow_lines arcs [])
lines_begun arcs head = sym (ap (λ l. head ++ text_of l) (no_lines arcs) ∙ append-nil head)

pub lines_more : (arcs : List SkeletonArc) (flow before after : List ℕ) (i : ℕ) → length flow ≡ length arcs → i < length arcs
    → before ≡ line (head_line (length arcs)) ++ text_of (flow_lines arcs (take i flow)) → after ≡ before ++ line (arc_line (arc_at arcs i) (get_or flow i 0))
    → after ≡ line (head_line (length arcs)) ++ text_of (flow_lines arcs (take (i + 1) flow))
lines_more arcs flow before after i each within so_far pushed =
    pushed ∙ ap (λ t. t ++ line (arc_line (arc_at arcs i) (get_or flow i 0))) so_far
    ∙ append_assoc (line (head_line (length arcs))) (text_of (flow_lines arcs (take i flow))) (line (arc_line (arc_at arcs i) (get_or flow i 0)))
    ∙ ap (λ t. line (head_line (length arcs)) ++ t) (sym (ap (λ l. text_of (flow_lines arcs l)) (take_more flow i 0 inside) ∙ ap text_of (flow_lines_more arcs (take i flow) (get_or flow i 0) (omega (arith, long, within)))
    ∙ text_more (flow_lines arcs (take i flow)) (arc_line (arc_at arcs (length (take i flow))) (get_or flow i 0)) ∙ ap (λ k. text_of (flow_lines arcs (take i flow)) ++ line (arc_line (arc_at arcs k) (get_or flow i 0))) long))
  where
    inside : i < length flow
    inside = omega (arith, each, within)

    long : length (take i flow) ≡ i
    long = length-take-le i flow (omega (arith, inside))

pub lines_done : (arcs : List SkeletonArc) (flow before after : List ℕ) (i : ℕ) → length flow ≡ length arcs → length arcs ≤ i
    → before ≡ line (head_line (length arcs)) ++ text_of (flow_lines arcs (take i flow)) → after ≡ before ++ codes "end\n" → after ≡ dual_text arcs flow
unfolding dual_text
lines_done arcs flow before after i each past so_far pushed =
    pushed ∙ ap (λ t. t ++ codes "end\n") (so_far ∙ ap (λ l. line (head_line (length arcs)) ++ text_of (flow_lines arcs l)) (take_all i flow (omega (arith, each, past))))
    ∙ append_assoc (line (head_line (length arcs))) (text_of (flow_lines arcs flow)) (codes "end\n")
    ∙ ap (λ t. line (head_line (length arcs)) ++ t) (sym (text_more (flow_lines arcs flow) (codes "end")))

pub refused_by : (arcs : List SkeletonArc) (text behind : List ℕ) (answer : DualTextAnswer) → text ≡ line (head_line (length arcs)) ++ behind → StopsReading arcs behind answer → RefusesText arcs text answer
refused_by arcs text behind (BadDual number) head stops = stopped arcs text behind number head stops
refused_by arcs text behind Memory head stops = tt

pub empty_of : (l : List ℕ) → length l < 1 → l ≡ []
empty_of [] h = refl
empty_of (x ∷ l) h = absurd (omega (arith, h))
