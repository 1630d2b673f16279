-- One more run, port or destination of a line.
use Rattle.std.proofs.Common.{◌≡◌, ℕ, zero, suc, ◌+◌, ◌-◌, ◌<◌, ◌≤◌, true, false, cond, List, [], ◌∷◌, ◌++◌, Option, Some, None, refl, sym, ap, ◌∙◌, append_assoc, append-nil, arith}
use Rattle.std.specs.Prelude.{bytes_eq}
use Rattle.df_cells.specs.declared.cells.Dest.{Dest}
use Rattle.df_cells.specs.declared.cells.Feed.{Feed}
use Rattle.df_cells.specs.declared.kinds.Run.{Run}
use Rattle.df_celltext.specs.Reading.{◌>>=◌, with_front, stage, run_in, runs_at, feed_in, feeds_at, dest_in, dests_at}

pub front_none : {A B : Type 0} (r : Option (List A × B)) → with_front [] r ≡ r
front_none None = refl
front_none (Some found) = refl

front_more : {A B : Type 0} (front : List A) (x : A) (r : Option (List A × B)) → with_front front (with_front (x ∷ []) r) ≡ with_front (front ++ x ∷ []) r
front_more front x None = refl
front_more front x (Some found) = ap (λ l. Some (l, found.1)) (sym (append_assoc front (x ∷ []) found.0))

-- ---- destinations

pub dests_more : (words rest : List (List ℕ)) (word : List ℕ) (d : Dest) (front : List Dest) (whole : Option (List Dest × List (List ℕ)))
    → with_front front (dests_at words) ≡ whole → words ≡ word ∷ rest → dest_in word ≡ Some d → with_front (front ++ d ∷ []) (dests_at rest) ≡ whole
unfolding dests_at
dests_more words rest word d front whole h e read =
    sym (front_more front d (dests_at rest)) ∙ ap (with_front front) (sym (ap (λ o. o >>= λ x. with_front (x ∷ []) (dests_at rest)) read)) ∙ ap (λ w. with_front front (dests_at w)) (sym e) ∙ h

pub dests_wrong : (words rest : List (List ℕ)) (word : List ℕ) (front : List Dest) (whole : Option (List Dest × List (List ℕ)))
    → with_front front (dests_at words) ≡ whole → words ≡ word ∷ rest → dest_in word ≡ None → whole ≡ None
unfolding dests_at
dests_wrong words rest word front whole h e read =
    sym h ∙ ap (λ w. with_front front (dests_at w)) e ∙ ap (λ o. with_front front (o >>= λ x. with_front (x ∷ []) (dests_at rest))) read

pub dests_end : (words left : List (List ℕ)) (front : List Dest) (whole : Option (List Dest × List (List ℕ)))
    → with_front front (dests_at words) ≡ whole → words ≡ [] → left ≡ [] → whole ≡ Some (front, left)
unfolding dests_at
dests_end words left front whole h e none =
    sym h ∙ ap (λ w. with_front front (dests_at w)) e ∙ ap (λ l. Some (l, [])) (append-nil front) ∙ ap (λ l. Some (front, l)) (sym none)

-- ---- runs

pub runs_more : (last : List ℕ) (words rest : List (List ℕ)) (word spelling : List ℕ) (r : Run) (front : List Run) (whole : Option (List Run × List (List ℕ)))
    → with_front front (runs_at last words) ≡ whole → words ≡ word ∷ rest → bytes_eq word stage ≡ false → run_in last word ≡ Some (r, spelling)
    → with_front (front ++ r ∷ []) (runs_at spelling rest) ≡ whole
unfolding runs_at
runs_more last words rest word spelling r front whole h e other read =
    sym (front_more front r (runs_at spelling rest)) ∙ ap (with_front front) (sym (ap (λ o. o >>= λ x. with_front (x.0 ∷ []) (runs_at x.1 rest)) read))
    ∙ ap (λ t. with_front front (cond t (Some ([], rest)) (run_in last word >>= λ x. with_front (x.0 ∷ []) (runs_at x.1 rest)))) (sym other)
    ∙ ap (λ w. with_front front (runs_at last w)) (sym e) ∙ h

pub runs_wrong : (last : List ℕ) (words rest : List (List ℕ)) (word : List ℕ) (front : List Run) (whole : Option (List Run × List (List ℕ)))
    → with_front front (runs_at last words) ≡ whole → words ≡ word ∷ rest → bytes_eq word stage ≡ false → run_in last word ≡ None → whole ≡ None
unfolding runs_at
runs_wrong last words rest word front whole h e other read =
    sym h ∙ ap (λ w. with_front front (runs_at last w)) e
    ∙ ap (λ t. with_front front (cond t (Some ([], rest)) (run_in last word >>= λ x. with_front (x.0 ∷ []) (runs_at x.1 rest)))) other
    ∙ ap (λ o. with_front front (o >>= λ x. with_front (x.0 ∷ []) (runs_at x.1 rest))) read

pub runs_done : (last : List ℕ) (words rest : List (List ℕ)) (word : List ℕ) (front : List Run) (whole : Option (List Run × List (List ℕ)))
    → with_front front (runs_at last words) ≡ whole → words ≡ word ∷ rest → bytes_eq word stage ≡ true → whole ≡ Some (front, rest)
unfolding runs_at
runs_done last words rest word front whole h e here =
    sym h ∙ ap (λ w. with_front front (runs_at last w)) e
    ∙ ap (λ t. with_front front (cond t (Some ([], rest)) (run_in last word >>= λ x. with_front (x.0 ∷ []) (runs_at x.1 rest)))) here
    ∙ ap (λ l. Some (l, rest)) (append-nil front)

pub runs_end : (last : List ℕ) (words : List (List ℕ)) (front : List Run) (whole : Option (List Run × List (List ℕ)))
    → with_front front (runs_at last words) ≡ whole → words ≡ [] → whole ≡ None
unfolding runs_at
runs_end last words front whole h e = sym h ∙ ap (λ w. with_front front (runs_at last w)) e

-- ---- ports

pub feeds_more : (count i : ℕ) (words rest : List (List ℕ)) (word : List ℕ) (f : Feed) (front : List Feed) (whole : Option (List Feed × List (List ℕ))) → i < count
    → with_front front (feeds_at (count - i) words) ≡ whole → words ≡ word ∷ rest → feed_in word ≡ Some f → with_front (front ++ f ∷ []) (feeds_at (count - (i + 1)) rest) ≡ whole
unfolding feeds_at
feeds_more count i words rest word f front whole within h e read =
    let left : count - i ≡ suc (count - (i + 1)) = omega arith in
    sym (front_more front f (feeds_at (count - (i + 1)) rest)) ∙ ap (with_front front) (sym (ap (λ o. o >>= λ x. with_front (x ∷ []) (feeds_at (count - (i + 1)) rest)) read))
    ∙ ap (λ w. with_front front (feeds_at (suc (count - (i + 1))) w)) (sym e) ∙ ap (λ n. with_front front (feeds_at n words)) (sym left) ∙ h

pub feeds_wrong : (count i : ℕ) (words rest : List (List ℕ)) (word : List ℕ) (front : List Feed) (whole : Option (List Feed × List (List ℕ))) → i < count
    → with_front front (feeds_at (count - i) words) ≡ whole → words ≡ word ∷ rest → feed_in word ≡ None → whole ≡ None
unfolding feeds_at
feeds_wrong count i words rest word front whole within h e read =
    let left : count - i ≡ suc (count - (i + 1)) = omega arith in
    sym h ∙ ap (λ n. with_front front (feeds_at n words)) left ∙ ap (λ w. with_front front (feeds_at (suc (count - (i + 1))) w)) e
    ∙ ap (λ o. with_front front (o >>= λ x. with_front (x ∷ []) (feeds_at (count - (i + 1)) rest))) read

pub feeds_missing : (count i : ℕ) (words : List (List ℕ)) (front : List Feed) (whole : Option (List Feed × List (List ℕ))) → i < count
    → with_front front (feeds_at (count - i) words) ≡ whole → words ≡ [] → whole ≡ None
unfolding feeds_at
feeds_missing count i words front whole within h e =
    let left : count - i ≡ suc (count - (i + 1)) = omega arith in
    sym h ∙ ap (λ n. with_front front (feeds_at n words)) left ∙ ap (λ w. with_front front (feeds_at (suc (count - (i + 1))) w)) e

pub feeds_end : (count i : ℕ) (words : List (List ℕ)) (front : List Feed) (whole : Option (List Feed × List (List ℕ))) → count ≤ i
    → with_front front (feeds_at (count - i) words) ≡ whole → whole ≡ Some (front, words)
unfolding feeds_at
feeds_end count i words front whole over h =
    let none : count - i ≡ zero = omega arith in
    sym h ∙ ap (λ n. with_front front (feeds_at n words)) none ∙ ap (λ l. Some (l, words)) (append-nil front)
