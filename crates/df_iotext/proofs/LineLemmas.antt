-- The lines of a text come off its front one after another.
use Rattle.std.proofs.Common.{◌≡◌, ℕ, ◌+◌, ◌==◌, ◌<◌, Bool, false, not, List, [], ◌∷◌, length, take, drop, get_or, refl, sym, ap, ◌∙◌, arith}
use Rattle.std.specs.List.{slice_split, position_or_len, before_first, after_first, All}
use Rattle.std.specs.Str.Lines.{lines, lines_of_parts, strip_carriage_return}
use Rattle.std.proofs.lemmas.Bool.{ne_eqb, not-true}
use Rattle.std.proofs.lemmas.List.Sums.{prefix_len_passes}
use Rattle.std.proofs.lemmas.List.Splits.{slice_split_first, slice_split_none, length-slice_split}

abbrev is_feed : ℕ → Bool
is_feed byte = byte == 10

line_before : (line : List ℕ) (parts : List (List ℕ)) → 0 < length parts → lines_of_parts (line ∷ parts) ≡ strip_carriage_return line ∷ lines_of_parts parts
line_before line [] some = absurd (omega arith)
line_before line (next ∷ parts) some = refl

pub line_first : (text : List ℕ) (end : ℕ) → end ≡ position_or_len is_feed text → end < length text → lines text ≡ strip_carriage_return (take end text) ∷ lines (drop (end + 1) text)
line_first text end e h =
    let parts : slice_split is_feed text ≡ before_first is_feed text ∷ slice_split is_feed (after_first is_feed text) = slice_split_first is_feed text 0 (omega (arith, e)) in
    let some : 0 < length (slice_split is_feed (after_first is_feed text)) = omega (arith, length-slice_split is_feed (after_first is_feed text)) in
    ap lines_of_parts parts ∙ line_before (before_first is_feed text) (slice_split is_feed (after_first is_feed text)) some
    ∙ ap (λ k. strip_carriage_return (take k text) ∷ lines (drop (k + 1) text)) (sym e)

none_feeds : (text : List ℕ) → position_or_len is_feed text ≡ length text → All (λ b. is_feed b ≡ false) text
none_feeds text e k d h = not-true (is_feed (get_or text k d)) (prefix_len_passes (λ b. not (is_feed b)) text k d (omega (arith, e)))

last_part : (text : List ℕ) → 0 < length text → lines_of_parts (text ∷ []) ≡ text ∷ []
last_part text some =
    let e : (length text == 0) ≡ false = ne_eqb (length text) 0 (λ h. omega (arith, h)) in rw e refl

pub line_last : (text : List ℕ) (end : ℕ) → end ≡ position_or_len is_feed text → end ≡ length text → 0 < length text → lines text ≡ text ∷ []
line_last text end e all some =
    ap lines_of_parts (slice_split_none is_feed text (none_feeds text (sym e ∙ all))) ∙ last_part text some
