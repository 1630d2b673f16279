-- One more number of a report.
use Rattle.std.proofs.Common.{◌≡◌, ◌++◌, ◌∷◌, [], ◌<◌, ◌+◌, ℕ, suc, zero, List, length, take, get_or, sym, ◌∙◌, ap, append_assoc, append-nil, arith}
use Rattle.std.specs.Fmt.{decimal}
use Rattle.df_commands.specs.Reports.{spaced_counts}

counts_more : (counts : List ℕ) (i : ℕ) → i < length counts → spaced_counts (take (suc i) counts) ≡ spaced_counts (take i counts) ++ (32 ∷ decimal (get_or counts i 0))
counts_more [] i within = absurd (omega arith)
counts_more (count ∷ counts) zero within = append-nil (32 ∷ decimal count)
counts_more (count ∷ counts) (suc i) within =
    ap (λ t. (32 ∷ decimal count) ++ t) (counts_more counts i (omega arith))
    ∙ sym (append_assoc (32 ∷ decimal count) (spaced_counts (take i counts)) (32 ∷ decimal (get_or counts i 0)))

-- a number written behind those before it
pub one_more_count : (counts : List ℕ) (i : ℕ) (start old new : List ℕ) → i < length counts → old ≡ start ++ spaced_counts (take i counts) → new ≡ old ++ (32 ∷ decimal (get_or counts i 0))
    → new ≡ start ++ spaced_counts (take (i + 1) counts)
one_more_count counts i start old new within before step =
    let next : i + 1 ≡ suc i = omega arith in
    step ∙ ap (λ t. t ++ (32 ∷ decimal (get_or counts i 0))) before ∙ append_assoc start (spaced_counts (take i counts)) (32 ∷ decimal (get_or counts i 0))
    ∙ ap (λ t. start ++ t) (sym (counts_more counts i within) ∙ ap (λ n. spaced_counts (take n counts)) (sym next))
