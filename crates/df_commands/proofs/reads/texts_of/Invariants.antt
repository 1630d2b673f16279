use Rattle.std.proofs.Common.{◌≡◌, ◌≤◌, length, map, drop, All, IsTrue, string_bytes}
use Rattle.df_io.specs.Faults.{HasReadCause}
use Rattle.df_io.specs.declared.files.FileMode.TheVariants.{Idle}
use Rattle.df_commands.specs.Verdicts.{texts_at}
use Rattle.df_commands.proofs.ReadTexts.{before}
use Rattle.df_commands.proofs.reads.texts_of.Given as goal

abbrev pub invariant-loop-k : goal.invariant-loop-k
invariant-loop-k g l =
    let old = (g.F.Files.told l.fn.files).holds in
    record {
      mode : g.F.Files.mode l.files ≡ Idle;
      holds : IsTrue g.F.Files.tells → (g.F.Files.told l.files).holds ≡ old;
      gives : IsTrue g.F.Files.tells
          → texts_at old (map string_bytes l.names) l.kinds ≡ before l.texts.items (texts_at old (drop l.k (map string_bytes l.names)) (drop l.k l.kinds));
      count : length l.texts.items ≡ l.k;
      short : All (λ text. length text ≤ 67_108_864) l.texts.items;
      counts : HasReadCause ⊥ (g.F.Files.faults l.fn.files) (g.F.Files.faults l.files);
    }
