-- The integer at the front, where nothing stands behind it.
use Rattle.std.proofs.Common.{Some, SFits, w64, rules, sym, ap, ◌∙◌, arith}
use Rattle.std.proofs.lemmas.Int.{to_z-of_z}
use Rattle.df_celltext.proofs.NumberLemmas.{integer_read, integer_missing, integer_too_long}
use Rattle.df_celltext.proofs.spellings.integer.Goals as goal

pub returns-in_default : goal.returns-in_default
returns-in_default c = sym (integer_missing c.args.word.now c.in_default.ensures.none)

pub returns-then-length-word : goal.returns-then-length-word
returns-then-length-word c = sym (integer_too_long c.args.word.now c.in-Some.integer c.in-Some.length c.in-Some.ensures.ordinary c.in-Some.ensures.integer c.if-length-word.true)

pub returns : goal.returns
returns c =
    let fits : SFits w64 c.in-Some.integer = search rules in
    ap Some (to_z-of_z w64 c.in-Some.integer fits)
    ∙ sym (integer_read c.args.word.now c.in-Some.integer c.in-Some.length c.in-Some.ensures.integer (omega arith) c.in-Some.ensures.ordinary)
