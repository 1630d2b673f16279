-- A text that is printed grows by one piece after another.
use Rattle.std.proofs.Common.{◌≡◌, ℕ, ◌+◌, ◌<◌, List, [], ◌∷◌, ◌++◌, length, map, take, get_or, codes, refl, sym, ap, ◌∙◌, arith, append_assoc, append-nil}
use Rattle.std.specs.List.{join_with_byte}
use Rattle.std.specs.Fmt.{decimal}
use Rattle.std.proofs.lemmas.List.{map_more, take_more, length-take-le, length-map}
use Rattle.df_values.specs.declared.values.Value.{Value}
use Rattle.df_iotext.specs.Printed.{result_line, result_lines}

join_push : (c : ℕ) (words : List (List ℕ)) (word : List ℕ) → 0 < length words → join_with_byte c (words ++ word ∷ []) ≡ join_with_byte c words ++ (c ∷ word)
join_push c [] word some = absurd (omega arith)
join_push c (x ∷ []) word some = refl
join_push c (x ∷ y ∷ words) word some =
    ap (λ more. x ++ (c ∷ more)) (join_push c (y ∷ words) word (omega arith)) ∙ sym (append_assoc x (c ∷ join_with_byte c (y ∷ words)) (c ∷ word))

-- the choices so far
abbrev pub printed : ℕ → List ℕ → List ℕ
printed i choices = join_with_byte 32 (map decimal (take i choices))

printed_more : (choices : List ℕ) (i x : ℕ) → i < length choices → x ≡ get_or choices i x → map decimal (take (i + 1) choices) ≡ map decimal (take i choices) ++ decimal x ∷ []
printed_more choices i x h e = map_more decimal choices i x h ∙ ap (λ y. map decimal (take i choices) ++ decimal y ∷ []) (sym e)

pub first_printed : (front text new choices : List ℕ) (i x : ℕ) → i < length choices → i ≡ 0 → x ≡ get_or choices i x → text ≡ front ++ printed i choices → new ≡ text ++ decimal x → new ≡ front ++ printed (i + 1) choices
first_printed front text new choices i x h z e p q =
    let none : map decimal (take i choices) ≡ [] = ap (λ j. map decimal (take j choices)) z in
    q ∙ ap (λ t. t ++ decimal x) p ∙ append_assoc front (printed i choices) (decimal x)
    ∙ ap (λ ws. front ++ (join_with_byte 32 ws ++ decimal x)) none
    ∙ ap (λ ws. front ++ join_with_byte 32 (ws ++ decimal x ∷ [])) (sym none)
    ∙ ap (λ ws. front ++ join_with_byte 32 ws) (sym (printed_more choices i x h e))

pub next_printed : (front text new choices : List ℕ) (i x : ℕ) → i < length choices → 0 < i → x ≡ get_or choices i x → text ≡ front ++ printed i choices → new ≡ (text ++ codes " ") ++ decimal x → new ≡ front ++ printed (i + 1) choices
next_printed front text new choices i x h some e p q =
    let long : 0 < length (map decimal (take i choices)) = omega (arith, length-map (take i choices) decimal, length-take-le i choices (omega arith)) in
    q ∙ append_assoc text (codes " ") (decimal x)
    ∙ ap (λ t. t ++ (32 ∷ decimal x)) p ∙ append_assoc front (printed i choices) (32 ∷ decimal x)
    ∙ ap (λ t. front ++ t) (sym (join_push 32 (map decimal (take i choices)) (decimal x) long))
    ∙ ap (λ ws. front ++ join_with_byte 32 ws) (sym (printed_more choices i x h e))

lines_push : (k : ℕ) (lists : List (List Value)) (values : List Value) → result_lines k (lists ++ values ∷ []) ≡ result_lines k lists ++ result_line (k + length lists) values
lines_push k [] values = let e : k + 0 ≡ k = omega arith in append-nil (result_line k values) ∙ ap (λ j. result_line j values) (sym e)
lines_push k (first ∷ lists) values =
    let e : k + 1 + length lists ≡ k + length (first ∷ lists) = omega arith in
    ap (λ t. result_line k first ++ t) (lines_push (k + 1) lists values ∙ ap (λ j. result_lines (k + 1) lists ++ result_line j values) e)
    ∙ sym (append_assoc (result_line k first) (result_lines (k + 1) lists) (result_line (k + length (first ∷ lists)) values))

pub lines_more : (lists : List (List Value)) (i number : ℕ) (values : List Value) (text new : List ℕ) → i < length lists → number ≡ i + 1 → values ≡ get_or lists i []
    → text ≡ result_lines 1 (take i lists) → new ≡ text ++ result_line number values → new ≡ result_lines 1 (take (i + 1) lists)
lines_more lists i number values text new h n e p q =
    let place : number ≡ 1 + length (take i lists) = omega (arith, length-take-le i lists (omega arith)) in
    q ∙ ap (λ t. t ++ result_line number values) p ∙ ap (λ j. result_lines 1 (take i lists) ++ result_line j values) place
    ∙ sym (lines_push 1 (take i lists) values) ∙ ap (λ vs. result_lines 1 (take i lists ++ vs ∷ [])) e ∙ ap (result_lines 1) (sym (take_more lists i [] h))
