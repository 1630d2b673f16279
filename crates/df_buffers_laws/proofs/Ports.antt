-- Lists of ports: how often a port stands in one, and at which places.
use Rattle.std.proofs.Common.{◌≡◌, ℕ, zero, suc, ◌+◌, ◌<◌, eqb, Bool, true, false, cond, List, [], ◌∷◌, ◌++◌, length, set, Some, refl, ap, ◌∙◌, arith}
use Rattle.std.specs.Prelude.{slice_get}
use Rattle.std.specs.List.{count_by}
use Rattle.std.proofs.lemmas.Bool.{eq-eqb, ne_eqb, and_left, and_right, and_from}
use Rattle.std.proofs.lemmas.List.Sums.{sum_by_push}
use Rattle.df_cells.specs.declared.cells.Dest.{Dest}
use Rattle.df_cells.specs.Cells.{port_of, same_port}

-- ---- one element changed

pub slice_get-set_same : {A : Type 0} (xs : List A) (i : ℕ) (a : A) → i < length xs → slice_get (set xs i a) i ≡ Some a
slice_get-set_same [] i a h = absurd (omega arith)
slice_get-set_same (x ∷ xs) zero a h = refl
slice_get-set_same (x ∷ xs) (suc i) a h = slice_get-set_same xs i a (omega arith)

pub slice_get-set_other : {A : Type 0} (xs : List A) (i j : ℕ) (a : A) → (j ≡ i → ⊥)
    → slice_get (set xs i a) j ≡ slice_get xs j
slice_get-set_other [] i j a other = refl
slice_get-set_other (x ∷ xs) zero zero a other = absurd (other refl)
slice_get-set_other (x ∷ xs) zero (suc j) a other = refl
slice_get-set_other (x ∷ xs) (suc i) zero a other = refl
slice_get-set_other (x ∷ xs) (suc i) (suc j) a other = slice_get-set_other xs i j a (λ e. other (ap suc e))

-- ---- ports

pub same_itself : (d : Dest) → same_port d d ≡ true
same_itself d =
    and_from (eqb d.cell.0 d.cell.0) (eqb d.port.0 d.port.0) (eq-eqb d.cell.0 d.cell.0 refl)
    (eq-eqb d.port.0 d.port.0 refl)

pub other_cell : (d e : Dest) → (d.cell.0 ≡ e.cell.0 → ⊥) → same_port d e ≡ false
other_cell d e other = and_left (eqb d.cell.0 e.cell.0) (eqb d.port.0 e.port.0) (ne_eqb d.cell.0 e.cell.0 other)

pub other_port : (d e : Dest) → (d.port.0 ≡ e.port.0 → ⊥) → same_port d e ≡ false
other_port d e other = and_right (eqb d.cell.0 e.cell.0) (eqb d.port.0 e.port.0) (ne_eqb d.port.0 e.port.0 other)

pub dest_is : (e : Dest) (c p : ℕ) → e.cell.0 ≡ c → e.port.0 ≡ p → e ≡ port_of c p
dest_is e c p h k =
    ap (λ n. record { cell = record { 0 = n }; port = e.port }) h
    ∙ ap (λ n. record { cell = record { 0 = c }; port = record { 0 = n } }) k

-- ---- ports in a list

pub counted_more : (d e : Dest) (b : Bool) (done : List Dest) → same_port d e ≡ b
    → count_by (same_port d) (done ++ e ∷ []) ≡ count_by (same_port d) done + cond b 1 0
counted_more d e b done is =
    sum_by_push (λ x. cond (same_port d x) 1 0) done e ∙ ap (λ t. count_by (same_port d) done + cond t 1 0) is

-- the places of a port in a list, counted from n
abbrev pub places : ℕ → Dest → List Dest → List ℕ
places n d [] = []
places n d (e ∷ ports) = cond (same_port d e) (n ∷ places (n + 1) d ports) (places (n + 1) d ports)

pub placed_more : (n : ℕ) (d e : Dest) (b : Bool) (done : List Dest) → same_port d e ≡ b
    → places n d (done ++ e ∷ []) ≡ places n d done ++ cond b ((n + length done) ∷ []) []
placed_more n d e b [] is =
    ap (λ t. cond t (n ∷ []) []) is ∙ (let at : n ≡ n + 0 = omega arith in ap (λ k. cond b (k ∷ []) []) at)
placed_more n d e b (f ∷ done) is =
    let at : n + 1 + length done ≡ n + suc (length done) = omega arith in
    ap (λ l. cond (same_port d f) (n ∷ l) l)
    (placed_more (n + 1) d e b done is ∙ ap (λ k. places (n + 1) d done ++ cond b (k ∷ []) []) at)
    ∙ by (same_port d f) (places (n + 1) d done) (cond b ((n + suc (length done)) ∷ []) [])
  where
    by : (t : Bool) (xs ys : List ℕ) → cond t (n ∷ (xs ++ ys)) (xs ++ ys) ≡ cond t (n ∷ xs) xs ++ ys
    by true xs ys = refl
    by false xs ys = refl
