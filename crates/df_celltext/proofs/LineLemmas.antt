-- The words of a whole line, both ways.
use Rattle.std.proofs.Common.{◌≡◌, ℕ, suc, zero, ◌≤◌, ◌==◌, nat_le, true, List, [], ◌∷◌, ◌++◌, map, Some, length, refl, sym, ap, subst, ◌∙◌, eq-eqb, le-leb, arith}
use Rattle.std.specs.Prelude.{codes}
use Rattle.std.specs.List.{All}
use Rattle.std.specs.Fmt.{decimal}
use Rattle.std.proofs.lemmas.Bool.{leb-true, eqb-true}
use Rattle.std.proofs.lemmas.List.Elements.{All-nil, All-cons, All-head, All-tail}
use Rattle.df_cells.specs.declared.cells.Cell.{Cell}
use Rattle.df_cells.specs.declared.cells.Dest.{Dest}
use Rattle.df_cells.specs.declared.cells.Feed.{Feed}
use Rattle.df_cells.specs.declared.kinds.Kind.{Kind}
use Rattle.df_cells.specs.Kinds.{port_count, HasCanonicalRuns}
use Rattle.df_cells.specs.Cells.{IsCell}
use Rattle.df_celltext.specs.declared.version.Version.{Version}
use Rattle.df_celltext.specs.Versions.{version_word}
use Rattle.df_celltext.specs.CellText.{port_word, dest_word, kind_words}
use Rattle.df_celltext.specs.Writable.{IsCount, IsWritableFeed, IsWritableDest, IsWritableKind, IsWritableCell}
use Rattle.df_celltext.specs.Reading.{passed, nothing_after, stage, after_word, number_at, kind_at, feed_in, feeds_at, dest_in, dests_at, ends_in, depth_in, cell_in, count_in}
use Rattle.df_celltext.proofs.OptionLemmas.{bind_ok, passed_some, some_same, bytes_same}
use Rattle.df_celltext.proofs.NumberLemmas.{number_again}
use Rattle.df_celltext.proofs.WordLemmas.{feed_again, feed_found, dest_again, dest_found}
use Rattle.df_celltext.proofs.KindLemmas.{number_at_found, after_found, front_ok, IsReadKind, kind_again, kind_found}

-- ---- ports

feeds_again : (feeds : List Feed) (rest : List (List ℕ)) → All IsWritableFeed feeds → feeds_at (length feeds) (map port_word feeds ++ rest) ≡ Some (feeds, rest)
unfolding feeds_at
feeds_again [] rest all = refl
feeds_again (f ∷ feeds) rest all =
    rw (feed_again f (All-head IsWritableFeed f feeds all), feeds_again feeds rest (All-tail IsWritableFeed f feeds all)) refl

record AreReadFeeds (count : ℕ) (words : List (List ℕ)) (found : List Feed × List (List ℕ)) : Type 0 where
  are : words ≡ map port_word found.0 ++ found.1
  many : length found.0 ≡ count
  within : All IsWritableFeed found.0

feeds_found : (count : ℕ) (words : List (List ℕ)) (found : List Feed × List (List ℕ)) → feeds_at count words ≡ Some found → AreReadFeeds count words found
unfolding feeds_at
feeds_found zero words found h =
    let same : ([], words) ≡ found = cc in
    subst (AreReadFeeds zero words) same (record { are = refl; many = refl; within = All-nil IsWritableFeed })
feeds_found (suc count) [] found h = absurd (cc)
feeds_found (suc count) (word ∷ rest) found h =
    let b = bind_ok (feed_in word) _ found h in
    let f = front_ok b.0 (feeds_at count rest) found b.2 in
    let r = feed_found word b.0 b.1 in
    let more : AreReadFeeds count rest f.0 = feeds_found count rest f.0 f.1 in
    subst (AreReadFeeds (suc count) (word ∷ rest)) f.2 (record {
      are = ap (λ w. w ∷ rest) r.0 ∙ ap (λ ws. port_word b.0 ∷ ws) more.are;
      many = ap suc more.many;
      within = All-cons IsWritableFeed b.0 f.0.0 r.1 more.within;
    })

-- ---- destinations

dests_again : (dests : List Dest) → All IsWritableDest dests → dests_at (map dest_word dests) ≡ Some (dests, [])
unfolding dests_at
dests_again [] all = refl
dests_again (d ∷ dests) all =
    rw (dest_again d (All-head IsWritableDest d dests all), dests_again dests (All-tail IsWritableDest d dests all)) refl

record AreReadDests (words : List (List ℕ)) (found : List Dest × List (List ℕ)) : Type 0 where
  are : words ≡ map dest_word found.0
  none : found.1 ≡ []
  within : All IsWritableDest found.0

dests_found : (words : List (List ℕ)) (found : List Dest × List (List ℕ)) → dests_at words ≡ Some found → AreReadDests words found
unfolding dests_at
dests_found [] found h =
    let same : ([], []) ≡ found = cc in
    subst (AreReadDests []) same (record { are = refl; none = refl; within = All-nil IsWritableDest })
dests_found (word ∷ rest) found h =
    let b = bind_ok (dest_in word) _ found h in
    let f = front_ok b.0 (dests_at rest) found b.2 in
    let r = dest_found word b.0 b.1 in
    let more : AreReadDests rest f.0 = dests_found rest f.0 f.1 in
    subst (AreReadDests (word ∷ rest)) f.2 (record {
      are = ap (λ w. w ∷ rest) r.0 ∙ ap (λ ws. dest_word b.0 ∷ ws) more.are;
      none = more.none;
      within = All-cons IsWritableDest b.0 f.0.0 r.1 more.within;
    })

-- ---- cells

-- the words behind the kind
abbrev pub later_words : Cell → List (List ℕ)
later_words cell =
    stage ∷ decimal cell.stage ∷ codes "loop" ∷ decimal cell.mark ∷ codes "ports" ∷ (map port_word cell.ports ++ codes "dests" ∷ map dest_word cell.dests)

abbrev pub cell_words : ℕ → Cell → List (List ℕ)
cell_words number cell = decimal number ∷ (kind_words cell.kind ++ later_words cell)

pub record IsReadCell (number : ℕ) (words : List (List ℕ)) (found : Cell × List (List ℕ)) : Type 0 where
  pub is : words ≡ cell_words number found.0
  pub none : found.1 ≡ []
  pub shaped : IsCell found.0
  pub within : IsWritableCell found.0

pub cell_again : (number : ℕ) (cell : Cell) → IsCount number → IsCell cell → IsWritableCell cell → cell_in number (cell_words number cell) ≡ Some (cell, [])
unfolding cell_in depth_in ends_in number_at after_word
cell_again number cell small shaped good =
    let same : (number == number) ≡ true = eq-eqb number number refl in
    let ports : feeds_at (port_count cell.kind) (map port_word cell.ports ++ codes "dests" ∷ map dest_word cell.dests) ≡ Some (cell.ports, codes "dests" ∷ map dest_word cell.dests)
    = ap (λ n. feeds_at n (map port_word cell.ports ++ codes "dests" ∷ map dest_word cell.dests)) (sym shaped.ports) ∙ feeds_again cell.ports (codes "dests" ∷ map dest_word cell.dests) good.ports in
    rw (
      number_again number small,
      same,
      kind_again cell.kind (decimal cell.stage ∷ codes "loop" ∷ decimal cell.mark ∷ codes "ports" ∷ (map port_word cell.ports ++ codes "dests" ∷ map dest_word cell.dests)) shaped.runs good.kind,
      number_again cell.stage good.stage,
      number_again cell.mark good.mark,
      ports,
      dests_again cell.dests good.dests,
    ) refl

-- what stands behind the word `ports`
abbrev end_words : Cell → List (List ℕ)
end_words cell = map port_word cell.ports ++ codes "dests" ∷ map dest_word cell.dests

record IsReadEnd (it : Kind) (depth mark : ℕ) (words : List (List ℕ)) (found : Cell × List (List ℕ)) : Type 0 where
  are : words ≡ end_words found.0
  none : found.1 ≡ []
  kind : found.0.kind ≡ it
  stage : found.0.stage ≡ depth
  mark_is : found.0.mark ≡ mark
  count : length found.0.ports ≡ port_count it
  ports : All IsWritableFeed found.0.ports
  dests : All IsWritableDest found.0.dests

ends_found : (it : Kind) (depth mark : ℕ) (words : List (List ℕ)) (found : Cell × List (List ℕ)) → ends_in it depth mark words ≡ Some found → IsReadEnd it depth mark words found
unfolding ends_in
ends_found it depth mark words found h =
    let f = bind_ok (feeds_at (port_count it) words) _ found h in
    let b = bind_ok (after_word (codes "dests") f.0.1) _ found f.2 in
    let d = bind_ok (dests_at b.0) _ found b.2 in
    let feeds = feeds_found (port_count it) words f.0 f.1 in
    let dests = dests_found b.0 d.0 d.1 in
    subst (IsReadEnd it depth mark words) (some_same _ _ d.2) (record {
      are = feeds.are ∙ ap (λ ws. map port_word f.0.0 ++ ws) (after_found (codes "dests") f.0.1 b.0 b.1 ∙ ap (λ ws. codes "dests" ∷ ws) dests.are);
      none = dests.none;
      kind = refl;
      stage = refl;
      mark_is = refl;
      count = feeds.many;
      ports = feeds.within;
      dests = dests.within;
    })

-- what stands behind the word `stage`
abbrev depth_words : Cell → List (List ℕ)
depth_words cell = decimal cell.stage ∷ codes "loop" ∷ decimal cell.mark ∷ codes "ports" ∷ end_words cell

record IsReadDepth (it : Kind) (words : List (List ℕ)) (found : Cell × List (List ℕ)) : Type 0 where
  are : words ≡ depth_words found.0
  none : found.1 ≡ []
  kind : found.0.kind ≡ it
  stage : IsCount found.0.stage
  mark : IsCount found.0.mark
  count : length found.0.ports ≡ port_count it
  ports : All IsWritableFeed found.0.ports
  dests : All IsWritableDest found.0.dests

depth_found : (it : Kind) (words : List (List ℕ)) (found : Cell × List (List ℕ)) → depth_in it words ≡ Some found → IsReadDepth it words found
unfolding depth_in
depth_found it words found h =
    let s = bind_ok (number_at words) _ found h in
    let l = bind_ok (after_word (codes "loop") s.0.1) _ found s.2 in
    let m = bind_ok (number_at l.0) _ found l.2 in
    let p = bind_ok (after_word (codes "ports") m.0.1) _ found m.2 in
    let e : IsReadEnd it s.0.0 m.0.0 p.0 found = ends_found it s.0.0 m.0.0 p.0 found p.2 in
    let depth = number_at_found words s.0 s.1 in
    let mark = number_at_found l.0 m.0 m.1 in
    let behind : m.0.1 ≡ codes "ports" ∷ end_words found.0 = after_found (codes "ports") m.0.1 p.0 p.1 ∙ ap (λ ws. codes "ports" ∷ ws) e.are in
    let marks : l.0 ≡ decimal found.0.mark ∷ codes "ports" ∷ end_words found.0
    = mark.0 ∙ ap (λ ws. decimal m.0.0 ∷ ws) behind ∙ ap (λ n. decimal n ∷ codes "ports" ∷ end_words found.0) (sym e.mark_is) in
    record {
      are = depth.0 ∙ ap (λ ws. decimal s.0.0 ∷ ws) (after_found (codes "loop") s.0.1 l.0 l.1 ∙ ap (λ ws. codes "loop" ∷ ws) marks)
          ∙ ap (λ n. decimal n ∷ codes "loop" ∷ decimal found.0.mark ∷ codes "ports" ∷ end_words found.0) (sym e.stage);
      none = e.none;
      kind = e.kind;
      stage = subst IsCount (sym e.stage) depth.1;
      mark = subst IsCount (sym e.mark_is) mark.1;
      count = e.count;
      ports = e.ports;
      dests = e.dests;
    }

kind_joins : (it : Kind) (n : ℕ) (behind rest : List (List ℕ)) (cell : Cell) → behind ≡ kind_words it ++ stage ∷ rest → rest ≡ depth_words cell → cell.kind ≡ it → decimal n ∷ behind ≡ cell_words n cell
kind_joins it n behind rest cell h e k =
    ap (λ ws. decimal n ∷ ws) (h ∙ ap (λ ws. kind_words it ++ stage ∷ ws) e ∙ ap (λ x. kind_words x ++ stage ∷ depth_words cell) (sym k))

pub cell_found : (number : ℕ) (words : List (List ℕ)) (found : Cell × List (List ℕ)) → cell_in number words ≡ Some found → IsReadCell number words found
unfolding cell_in
cell_found number words found h =
    let n = bind_ok (number_at words) _ found h in
    let t = bind_ok (passed (n.0.0 == number) number) _ found n.2 in
    let k = bind_ok (kind_at n.0.1) _ found t.2 in
    let d : IsReadDepth k.0.0 k.0.1 found = depth_found k.0.0 k.0.1 found k.2 in
    let is : n.0.0 ≡ number = eqb-true n.0.0 number (passed_some (n.0.0 == number) number t.0 t.1).0 in
    let first = number_at_found words n.0 n.1 in
    let it : IsReadKind n.0.1 k.0 = kind_found n.0.1 k.0 k.1 in
    record {
      is = first.0 ∙ ap (λ x. decimal x ∷ n.0.1) is ∙ kind_joins k.0.0 number n.0.1 k.0.1 found.0 it.is d.are d.kind;
      none = d.none;
      shaped = record { ports = d.count ∙ ap port_count (sym d.kind); runs = subst HasCanonicalRuns (sym d.kind) it.canonical };
      within = record { kind = subst IsWritableKind (sym d.kind) it.within; stage = d.stage; mark = d.mark; ports = d.ports; dests = d.dests };
    }

-- ---- the first line

abbrev pub count_words : Version → ℕ → List (List ℕ)
count_words version count = codes "dataflow" ∷ version_word version ∷ decimal count ∷ []

pub count_again : (version : Version) (count : ℕ) → count ≤ 65536 → count_in version (count_words version count) ≡ Some (count, [])
unfolding count_in number_at after_word
count_again version count few =
    let within : nat_le count 65536 ≡ true = le-leb _ _ few in
    rw (bytes_same (version_word version) (version_word version) refl, number_again count (omega arith), within) refl

nothing_ok : (x : ℕ) (rest : List (List ℕ)) (found : ℕ × List (List ℕ)) → nothing_after x rest ≡ Some found → (rest ≡ []) × (x ≡ found.0) × (found.1 ≡ [])
nothing_ok x [] found h = let same : (x, []) ≡ found = cc in (refl, ap (λ p. p.0) same, ap (λ p. p.1) (sym same))
nothing_ok x (word ∷ rest) found h = absurd (cc)

pub count_found : (version : Version) (words : List (List ℕ)) (found : ℕ × List (List ℕ)) → count_in version words ≡ Some found → (words ≡ count_words version found.0) × (found.1 ≡ []) × (found.0 ≤ 65536)
unfolding count_in
count_found version words found h =
    let v = bind_ok (after_word (codes "dataflow") words) _ found h in
    let o = bind_ok (after_word (version_word version) v.0) _ found v.2 in
    let n = bind_ok (number_at o.0) _ found o.2 in
    let t = bind_ok (passed (nat_le n.0.0 65536) n.0.0) _ found n.2 in
    let e = nothing_ok n.0.0 n.0.1 found t.2 in
    let few : n.0.0 ≤ 65536 = leb-true n.0.0 65536 (passed_some (nat_le n.0.0 65536) n.0.0 t.0 t.1).0 in (
      after_found (codes "dataflow") words v.0 v.1 ∙ ap (λ ws. codes "dataflow" ∷ ws) (after_found (version_word version) v.0 o.0 o.1 ∙ ap (λ ws. version_word version ∷ ws) ((number_at_found o.0 n.0 n.1).0 ∙ ap (λ ws. decimal n.0.0 ∷ ws) e.0 ∙ ap (λ c. decimal c ∷ []) e.1)),
      e.2,
      subst (λ c. c ≤ 65536) e.1 few,
    )
