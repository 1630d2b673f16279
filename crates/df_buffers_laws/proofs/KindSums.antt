-- What looks at each cell alone is the same of lists of cells of which the first are alike.
use Rattle.std.proofs.Common.{◌≡◌, ℕ, zero, suc, ◌+◌, ◌<◌, ◌≤◌, List, [], ◌∷◌, length, take, Option, None, refl, sym, ap, ◌∙◌, arith}
use Rattle.std.specs.List.{cons_option, filter_map, sum_by}
use Rattle.std.proofs.lemmas.List.Sums.{sum_by-cons}
use Rattle.df_cells.specs.declared.cells.Cell.{Cell}
use Rattle.df_cells.specs.declared.kinds.Kind.{Kind}
use Rattle.df_cells.specs.Cells.{cell_at}

-- over the first c cells
pub same_sum : (f : Kind → ℕ) (xs ys : List Cell) (c : ℕ) → c ≤ length xs → c ≤ length ys
    → ((i : ℕ) → i < c → (cell_at xs i).kind ≡ (cell_at ys i).kind)
    → sum_by (λ cell. f cell.kind) (take c xs) ≡ sum_by (λ cell. f cell.kind) (take c ys)
same_sum f xs ys zero h k same = refl
same_sum f [] ys (suc c) h k same = absurd (omega arith)
same_sum f (x ∷ xs) [] (suc c) h k same = absurd (omega arith)
same_sum f (x ∷ xs) (y ∷ ys) (suc c) h k same =
    sum_by-cons (λ (cell : Cell). f cell.kind) x (take c xs)
    ∙ ap (λ n. n + sum_by (λ (cell : Cell). f cell.kind) (take c xs)) (ap f (same 0 (omega arith)))
    ∙ ap (λ n. f y.kind + n) (same_sum f xs ys c (omega arith) (omega arith) (λ i l. same (suc i) (omega arith)))
    ∙ sym (sum_by-cons (λ (cell : Cell). f cell.kind) y (take c ys))

-- over all cells, where those behind add nothing
pub whole_sum : (f : Cell → ℕ) (xs ys : List Cell) → length xs ≤ length ys
    → ((i : ℕ) → i < length xs → f (cell_at ys i) ≡ f (cell_at xs i))
    → ((i : ℕ) → length xs ≤ i → i < length ys → f (cell_at ys i) ≡ 0) → sum_by f ys ≡ sum_by f xs
whole_sum f [] [] h same none = refl
whole_sum f [] (y ∷ ys) h same none =
    let first : f y ≡ 0 = none 0 (omega arith) (omega arith) in
    let rest =
    whole_sum f [] ys (omega arith) (λ i l. absurd (omega arith)) (λ i l m. none (suc i) (omega arith) (omega arith)) in
    sum_by-cons f y ys ∙ ap (λ n. n + sum_by f ys) first ∙ (omega arith) ∙ rest
whole_sum f (x ∷ xs) [] h same none = absurd (omega arith)
whole_sum f (x ∷ xs) (y ∷ ys) h same none =
    sum_by-cons f y ys ∙ ap (λ n. n + sum_by f ys) (same 0 (omega arith))
    ∙ ap (λ n. f x + n)
    (whole_sum f xs ys (omega arith) (λ i l. same (suc i) (omega arith))
    (λ i l m. none (suc i) (omega arith) (omega arith)))
    ∙ sym (sum_by-cons f x xs)

-- what some kinds give
pub same_given : {A : Type 0} (f : Kind → Option A) (xs ys : List Cell) → length xs ≤ length ys
    → ((i : ℕ) → i < length xs → (cell_at ys i).kind ≡ (cell_at xs i).kind)
    → ((i : ℕ) → length xs ≤ i → i < length ys → f (cell_at ys i).kind ≡ None)
    → filter_map (λ cell. f cell.kind) ys ≡ filter_map (λ cell. f cell.kind) xs
same_given f [] [] h same none = refl
same_given f [] (y ∷ ys) h same none =
    ap (λ o. cons_option o (filter_map (λ (cell : Cell). f cell.kind) ys)) (none 0 (omega arith) (omega arith))
    ∙ same_given f [] ys (omega arith) (λ i l. absurd (omega arith)) (λ i l m. none (suc i) (omega arith) (omega arith))
same_given f (x ∷ xs) [] h same none = absurd (omega arith)
same_given f (x ∷ xs) (y ∷ ys) h same none =
    ap (λ k. cons_option (f k) (filter_map (λ (cell : Cell). f cell.kind) ys)) (same 0 (omega arith))
    ∙ ap (cons_option (f x.kind))
    (same_given f xs ys (omega arith) (λ i l. same (suc i) (omega arith))
    (λ i l m. none (suc i) (omega arith) (omega arith)))
