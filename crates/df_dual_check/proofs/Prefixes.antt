-- A text that begins with a piece.
use Rattle.std.proofs.Common.{◌≡◌, ◌++◌, ℕ, List, true, false, nat_eq, length, take, drop, sym, ◌∙◌, ap}
use Rattle.std.specs.Cmp.Lexicographic.{same_text, other_text}
use Rattle.std.proofs.lemmas.List.{take-append-drop}
use Rattle.std.proofs.Math.Seq.{take-append_seam, drop-append_seam}
use lib.Pointwise.{pointwise}

pub piece_taken : (piece text : List ℕ) → pointwise nat_eq (take (length piece) text) piece ≡ true → text ≡ piece ++ drop (length piece) text
piece_taken piece text same =
    sym (take-append-drop (length piece) text) ∙ ap (λ front. front ++ drop (length piece) text) (same_text _ _ (sym same))

pub piece_missing : (piece text rest : List ℕ) → pointwise nat_eq (take (length piece) text) piece ≡ false → ¬ (text ≡ piece ++ rest)
piece_missing piece text rest other parts =
    other_text (take (length piece) text) piece (sym other) (ap (λ t. take (length piece) t) parts ∙ take-append_seam piece rest)

-- what stands behind a piece is one text
pub same_rest : (piece rest others : List ℕ) → piece ++ rest ≡ piece ++ others → rest ≡ others
same_rest piece rest others e =
    sym (drop-append_seam piece rest) ∙ ap (λ t. drop (length piece) t) e ∙ drop-append_seam piece others
