-- A text has one first wrong line at most.
use Rattle.std.proofs.Common.{◌≡◌, ℕ, ◌<◌, ◌≤◌, List, [], ◌∷◌, ◌++◌, length, refl, sym, ap, subst, ◌∙◌, append_assoc, length-append, arith}
use Rattle.std.specs.List.{All}
use Rattle.std.proofs.lemmas.List.Elements.{All-head, All-tail}
use Rattle.df_celltext.specs.declared.version.Version.{Version}
use Rattle.df_celltext.specs.WrongLines.{with_feeds, IsLine, CanBegin, FirstWrongLineIn}
use Rattle.df_celltext.proofs.RowLemmas.{feeds-append}
use Rattle.df_celltext.proofs.TextLemmas.{All-middle, feeds_cons, same_cut}

-- of two ways to cut a text behind lines, the longer goes on where the shorter ends
record GoesOn (front lines : List (List ℕ)) (more behind : List ℕ) : Type 0 where
  tail : List (List ℕ)
  lines_are : lines ≡ front ++ tail
  rest : more ≡ with_feeds tail ++ behind

goes_on : (front lines : List (List ℕ)) (more behind : List ℕ) → All IsLine front → All IsLine lines → length front ≤ length lines
    → with_feeds front ++ more ≡ with_feeds lines ++ behind → GoesOn front lines more behind
goes_on [] lines more behind p q short e = record { tail = lines; lines_are = refl; rest = e }
goes_on (l ∷ front) [] more behind p q short e = absurd (omega arith)
goes_on (l ∷ front) (m ∷ lines) more behind p q short e =
    let both = same_cut l m (with_feeds front ++ more) (with_feeds lines ++ behind) (All-head IsLine l front p) (All-head IsLine m lines q)
    (sym (feeds_cons l front more) ∙ e ∙ feeds_cons m lines behind) in
    let g : GoesOn front lines more behind = goes_on front lines more behind (All-tail IsLine l front p) (All-tail IsLine m lines q) (omega arith) both.1 in
    record { tail = g.tail; lines_are = ap (λ x. x ∷ lines) (sym both.0) ∙ ap (λ ls. l ∷ ls) g.lines_are; rest = g.rest }

begins_with_less : (version : Version) (front tail lines : List (List ℕ)) → lines ≡ front ++ tail → CanBegin version lines → CanBegin version front
begins_with_less version front tail lines e h =
    let regrouped : with_feeds front ++ (with_feeds tail ++ h.1) ≡ with_feeds lines ++ h.1
    = sym (append_assoc (with_feeds front) (with_feeds tail) h.1) ∙ ap (λ l. l ++ h.1) (sym (feeds-append front tail)) ∙ ap (λ ls. with_feeds ls ++ h.1) (sym e) in
    (h.0, with_feeds tail ++ h.1, (h.2.0, regrouped ∙ h.2.1))

later_line : (version : Version) (front lines tail : List (List ℕ)) (more behind : List ℕ) → All IsLine lines → length front < length lines → lines ≡ front ++ tail → more ≡ with_feeds tail ++ behind → CanBegin version lines
    → ((line later : List ℕ) → IsLine line → more ≡ line ++ 10 ∷ later → CanBegin version (front ++ line ∷ []) → ⊥) → ⊥
later_line version front lines [] more behind q short e r can wrong = omega (arith, ap length e, length-append front [])
later_line version front lines (line ∷ tail) more behind q short e r can wrong =
    wrong line (with_feeds tail ++ behind) (All-middle IsLine front tail line (subst (All IsLine) e q)) (r ∙ feeds_cons line tail behind)
    (begins_with_less version (front ++ line ∷ []) tail lines (e ∙ sym (append_assoc front (line ∷ []) tail)) can)

no_later : (version : Version) (text : List ℕ) (m n : ℕ) → FirstWrongLineIn version text m → FirstWrongLineIn version text n → m < n → ⊥
no_later version text m n g h less =
    let w : GoesOn g.before h.before g.rest h.rest = goes_on g.before h.before g.rest h.rest g.whole h.whole (omega (arith, g.number, h.number)) (sym g.parts ∙ h.parts) in
    later_line version g.before h.before w.tail g.rest h.rest h.whole (omega (arith, g.number, h.number)) w.lines_are w.rest h.possible g.wrong

pub one_wrong_line : (version : Version) (text : List ℕ) (m n : ℕ) → FirstWrongLineIn version text m → FirstWrongLineIn version text n → m ≡ n
one_wrong_line version text m n g h =
    let below : m < n → ⊥ = no_later version text m n g h in
    let above : n < m → ⊥ = no_later version text n m h g in
    omega arith
