use Rattle.std.proofs.Common.{◌≡◌, ◌∙◌, ◌<◌, length, get_or, Result, Ok, Err, Vec, Global, string_bytes, sym, ap, subst, arith}
use Rattle.std.proofs.lemmas.Result.{err_from_is_err_and}
use Rattle.df_io.specs.Told.{Holds}
use Rattle.df_commands.specs.Judged.{GivesRead}
use Rattle.df_values.specs.declared.bytes.Bytes.{Bytes}
use Rattle.df_commands.specs.Verdicts.{Absent, text_at}
use Rattle.df_commands.specs.declared.command.Text.TheVariants.{Source}
use Rattle.df_commands.specs.declared.stop.Stop.TheVariants as stop
use Rattle.df_commands.proofs.ReadTexts.{read_on, read_no_more, stops_reading, one_longer, all_short, then_read, cause_since}
use Rattle.df_commands.proofs.reads.texts_of.Goals as goal

module _ {A B : Type 0} where
  same_why : (x y : B) → (let r : Result A B = Err x in r) ≡ Err y → x ≡ y
  same_why x y e = cc

pub loop-k-preserved : goal.loop-k-preserved
loop-k-preserved g c =
    let inv = c.loop-k.invariant in
    let read = c.in_ok-text.ensures in
    let within : c.loop-k.k < length c.args.names.now = c.loop-k-test.true in
    record {
      mode = read.mode;
      holds = λ told. read.holds told ∙ inv.holds told;
      gives = λ told. inv.gives told
          ∙ read_on (g.F.Files.told c.args.files.now).holds c.args.names.now c.args.kinds.now c.loop-k.k c.index-names-k.result within (omega (arith, within, c.requires.each)) (sym c.index-names-k.is) c.loop-k.texts.items c.add.new.texts.items c.in_ok-text.text
          (subst (λ (h : Holds). text_at h (string_bytes c.index-names-k.result) (get_or c.args.kinds.now c.loop-k.k Source) ≡ Ok c.in_ok-text.text) (inv.holds told) (read.gives told)) c.in_ok-add.ensures;
      count = one_longer c.loop-k.texts.items c.add.new.texts.items c.in_ok-text.text c.loop-k.k c.in_ok-add.ensures inv.count;
      short = all_short c.loop-k.texts.items c.add.new.texts.items c.in_ok-text.text (get_or c.args.kinds.now c.loop-k.k Source) c.in_ok-add.ensures inv.short read.short;
      counts = then_read (g.F.Files.faults c.args.files.now) (g.F.Files.faults c.loop-k.files) (g.F.Files.faults c.text_of.new.files) inv.counts read.counts;
    }

pub returns-in_err-text-clause-gives : goal.returns-in_err-text-clause-gives
returns-in_err-text-clause-gives g c = λ told.
    let inv = c.loop-k.invariant in
    let p = err_from_is_err_and c.from_residual.result c.from_residual.ensures.1 in
    let within : c.loop-k.k < length c.args.names.now = c.loop-k-test.true in
    rw (p.1, p.2, inv.gives told) (stops_reading (g.F.Files.told c.args.files.now).holds c.args.names.now c.args.kinds.now c.loop-k.k c.index-names-k.result within (omega (arith, within, c.requires.each)) (sym c.index-names-k.is)
    (λ (text : Bytes). text) (λ (texts : Vec Bytes Global). texts.items) c.loop-k.texts.items c.in_err-text.field-0.0
    (subst (λ (h : Holds). GivesRead (λ (text : Bytes). text) (Err c.in_err-text.field-0.0) (text_at h (string_bytes c.index-names-k.result) (get_or c.args.kinds.now c.loop-k.k Source))) (inv.holds told) (c.in_err-text.ensures.gives told)))

pub returns-in_err-text-clause-fault : goal.returns-in_err-text-clause-fault
returns-in_err-text-clause-fault g c = λ failed.
    let inv = c.loop-k.invariant in
    let p = err_from_is_err_and c.from_residual.result c.from_residual.ensures.1 in
    let within : c.loop-k.k < length c.args.names.now = c.loop-k-test.true in
    let is : c.in_err-text.field-0.0 ≡ stop.ReadFault = same_why c.in_err-text.field-0.0 stop.ReadFault (rw (p.1, p.2) at failed) in
    cause_since (g.F.Files.faults c.args.files.now) (g.F.Files.faults c.loop-k.files) (g.F.Files.faults c.text_of.new.files) inv.counts
    (λ told absent. inv.gives told ∙ read_no_more (g.F.Files.told c.args.files.now).holds c.args.names.now c.args.kinds.now c.loop-k.k c.index-names-k.result within (omega (arith, within, c.requires.each)) (sym c.index-names-k.is)
    c.loop-k.texts.items Absent (subst (λ (h : Holds). text_at h (string_bytes c.index-names-k.result) (get_or c.args.kinds.now c.loop-k.k Source) ≡ Err Absent) (inv.holds told) absent))
    (c.in_err-text.ensures.fault (ap Err is))
