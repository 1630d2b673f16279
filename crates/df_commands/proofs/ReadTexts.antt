-- Texts that are read one after another.
use Rattle.std.proofs.Common.{◌≡◌, ◌∙◌, ◌⊎◌, inl, inr, ◌++◌, ◌∷◌, [], ◌≤◌, ◌<◌, ◌+◌, suc, zero, ℕ, List, map, drop, length, get_or, drop-cons, Result, Ok, Err, IsTrue, All, String, Global, string_bytes, refl, sym, ap, subst, append_assoc, length-append, arith}
use Rattle.std.proofs.Math.ListN.{get_or-map}
use Rattle.std.proofs.lemmas.List.{length-map}
use Rattle.std.proofs.lemmas.List.Elements.{All-append}
use Rattle.df_io.specs.Faults.{Faults, HasReadCause, Rises}
use Rattle.df_io.specs.Told.{Holds}
use Rattle.df_commands.specs.Commands.{limit_of}
use Rattle.df_commands.specs.Verdicts.{Verdict, Refused, text_at, texts_at, and_rest}
use Rattle.df_commands.specs.Judged.{GivesRead}
use Rattle.df_commands.specs.declared.stop.Stop.{Stop}
use Rattle.df_commands.specs.declared.stop.Stop.TheVariants as stop
use Rattle.df_commands.specs.declared.command.Text.{Text}
use Rattle.df_commands.specs.declared.command.Text.TheVariants.{Source, Input, Schedule, Cells, Dual, Trace}

-- what is given of all, where these were read and the rest gives this
abbrev pub before : List (List ℕ) → Result (List (List ℕ)) Verdict → Result (List (List ℕ)) Verdict
before texts (Ok rest) = Ok (texts ++ rest)
before texts (Err barred) = Err barred

pub before_none : (rest : Result (List (List ℕ)) Verdict) → before [] rest ≡ rest
before_none (Ok rest) = refl
before_none (Err barred) = refl

one_more : (texts : List (List ℕ)) (text : List ℕ) (rest : Result (List (List ℕ)) Verdict) → before texts (and_rest (Ok text) rest) ≡ before (texts ++ text ∷ []) rest
one_more texts text (Ok rest) = ap Ok (sym (append_assoc texts (text ∷ []) rest))
one_more texts text (Err barred) = refl

-- the texts from one on, by the first of them
module _ (holds : Holds) (files : List (String Global)) (kinds : List Text) (k : ℕ) (file : String Global) (first : k < length files) (second : k < length kinds) (is : get_or files k file ≡ file) where
  abbrev names : List (List ℕ)
  names = map string_bytes files

  abbrev name : List ℕ
  name = string_bytes file

  abbrev kind : Text
  kind = get_or kinds k Source

  opened : texts_at holds (drop k names) (drop k kinds) ≡ and_rest (text_at holds name kind) (texts_at holds (drop (suc k) names) (drop (suc k) kinds))
  opened = ap (λ ns. texts_at holds ns (drop k kinds)) (drop-cons names k name (omega (arith, first, length-map files string_bytes)) ∙ ap (λ n. n ∷ drop (suc k) names) (get_or-map string_bytes files k file ∙ ap string_bytes is)) ∙ ap (texts_at holds (name ∷ drop (suc k) names)) (drop-cons kinds k Source second)

  -- the next text is given
  pub read_on : (texts more : List (List ℕ)) (text : List ℕ) → text_at holds name kind ≡ Ok text → more ≡ texts ++ text ∷ []
      → before texts (texts_at holds (drop k names) (drop k kinds)) ≡ before more (texts_at holds (drop (k + 1) names) (drop (k + 1) kinds))
  read_on texts more text given added =
      let next : suc k ≡ k + 1 = omega arith in
      ap (before texts) (opened ∙ ap (λ r. and_rest r (texts_at holds (drop (suc k) names) (drop (suc k) kinds))) given) ∙ one_more texts text (texts_at holds (drop (suc k) names) (drop (suc k) kinds))
      ∙ ap (λ all. before all (texts_at holds (drop (suc k) names) (drop (suc k) kinds))) (sym added) ∙ ap (λ n. before more (texts_at holds (drop n names) (drop n kinds))) next

  -- the next text isn't given
  pub read_no_more : (texts : List (List ℕ)) (barred : Verdict) → text_at holds name kind ≡ Err barred → before texts (texts_at holds (drop k names) (drop k kinds)) ≡ Err barred
  read_no_more texts barred given = ap (before texts) (opened ∙ ap (λ r. and_rest r (texts_at holds (drop (suc k) names) (drop (suc k) kinds))) given)

  -- why a text isn't given is why not all are
  pub stops_reading : {X Y : Type 0} (meant : X → List ℕ) (all : Y → List (List ℕ)) (texts : List (List ℕ)) (why : Stop) → GivesRead meant (Err why) (text_at holds name kind)
      → GivesRead all (Err why) (before texts (texts_at holds (drop k names) (drop k kinds)))
  stops_reading meant all texts (stop.Refused line) given = read_no_more texts (Refused line) given
  stops_reading meant all texts stop.ReadFault given = tt
  stops_reading meant all texts stop.Memory given = tt

-- no text has a higher limit
limits : (of : Text) → limit_of of ≤ 67_108_864
limits Source = omega arith
limits Input = omega arith
limits Schedule = omega arith
limits Cells = omega arith
limits Dual = omega arith
limits Trace = omega arith

pub one_longer : (texts more : List (List ℕ)) (text : List ℕ) (k : ℕ) → more ≡ texts ++ text ∷ [] → length texts ≡ k → length more ≡ k + 1
one_longer texts more text k added count = ap length added ∙ (length-append texts (text ∷ []) ∙ ap (λ n. n + 1) count)

pub all_short : (texts more : List (List ℕ)) (text : List ℕ) (of : Text) → more ≡ texts ++ text ∷ [] → All (λ (t : List ℕ). length t ≤ 67_108_864) texts → length text ≤ limit_of of
    → All (λ (t : List ℕ). length t ≤ 67_108_864) more
all_short texts more text of added short within =
    subst (All (λ (t : List ℕ). length t ≤ 67_108_864)) (sym added) (All-append (λ (t : List ℕ). length t ≤ 67_108_864) texts (text ∷ []) short (alone (omega (arith, within, limits of))))
  where
    alone : length text ≤ 67_108_864 → All (λ (t : List ℕ). length t ≤ 67_108_864) (text ∷ [])
    alone at zero d lt = at
    alone at (suc k) d lt = absurd (omega (arith, lt))

-- ---- faults

pub then_read : (a b c : Faults) → HasReadCause ⊥ a b → HasReadCause ⊥ b c → HasReadCause ⊥ a c
then_read a b c first second = record {
  read = record {
    later = omega (arith, first.read.later, second.read.later);
    cause = λ never. absurd never;
    stays = second.read.stays ∙ first.read.stays;
    none = λ sure. second.read.none (subst IsTrue (sym first.read.stays) sure) ∙ first.read.none sure;
  };
  write = second.write ∙ first.write;
}

-- a count that rises later rises
pub rises_since : (a b c : Faults) → HasReadCause ⊥ a b → Rises b.read c.read → Rises a.read c.read
rises_since a b c first (inl rises) = inl (omega (arith, first.read.later, rises))
rises_since a b c first (inr last) = inr last

-- what is the cause of a later fault is that of the whole
pub cause_since : {T : Type 0} (a b c : Faults) {one all : Type 0} → HasReadCause ⊥ a b → (T → one → all) → Rises b.read c.read ⊎ (T × one) → Rises a.read c.read ⊎ (T × all)
cause_since a b c first on (inl rises) = inl (rises_since a b c first rises)
cause_since a b c first on (inr (t, absent)) = inr (t, on t absent)
