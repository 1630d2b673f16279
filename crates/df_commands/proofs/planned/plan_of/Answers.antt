use Rattle.std.proofs.Common.{◌≡◌, ◌∙◌, ◌<◌, ℕ, zero, suc, List, [], ◌∷◌, length, get_or, map, Result, string_bytes, sym, ap, subst, arith}
use Rattle.std.proofs.Math.ListN.{get_or-map}
use Rattle.std.proofs.lemmas.List.{length-map}
use Rattle.df_commands.specs.Commands.{texts_of, written_by}
use Rattle.df_commands.specs.Judged.{Settles}
use Rattle.df_commands.specs.Verdicts.{JudgesCompile, JudgesGo, JudgesTexts, nth}
use Rattle.df_commands.specs.declared.command.Command.{Command}
use Rattle.df_commands.specs.declared.command.Command.TheVariants.{Compile, Go}
use Rattle.df_commands.specs.declared.plan.Plan.{Plan}
use Rattle.df_commands.specs.declared.stop.Stop.{Stop}
use Rattle.df_commands.proofs.planned.plan_of.Goals as goal

nth_is : (list : List (List ℕ)) (k : ℕ) (x : List ℕ) → k < length list → x ≡ get_or list k x → x ≡ nth list k
nth_is [] k x lt is = absurd (omega (arith, lt))
nth_is (y ∷ ys) zero x lt is = is
nth_is (y ∷ ys) (suc k) x lt is = nth_is ys k x (omega (arith, lt)) is

module _ (texts writes : List (List ℕ)) (result : Result Plan Stop) where
  go_texts : (source input schedule cells dual : List ℕ) → source ≡ nth texts 0 → input ≡ nth texts 1 → schedule ≡ nth texts 2 → cells ≡ nth writes 0 → dual ≡ nth writes 1
      → Settles (JudgesGo source input schedule cells dual) result → Settles (JudgesTexts Go texts writes) result
  go_texts source input schedule cells dual a b c d e settles =
      subst (λ x. Settles (JudgesGo x (nth texts 1) (nth texts 2) (nth writes 0) (nth writes 1)) result) a
      (subst (λ x. Settles (JudgesGo source x (nth texts 2) (nth writes 0) (nth writes 1)) result) b
      (subst (λ x. Settles (JudgesGo source input x (nth writes 0) (nth writes 1)) result) c
      (subst (λ x. Settles (JudgesGo source input schedule x (nth writes 1)) result) d
      (subst (λ x. Settles (JudgesGo source input schedule cells x) result) e settles))))

  compile_texts : (source cells dual : List ℕ) → source ≡ nth texts 0 → cells ≡ nth writes 0 → dual ≡ nth writes 1
      → Settles (JudgesCompile source cells dual) result → Settles (JudgesTexts Compile texts writes) result
  compile_texts source cells dual a b c settles =
      subst (λ x. Settles (JudgesCompile x (nth writes 0) (nth writes 1)) result) a
      (subst (λ x. Settles (JudgesCompile source x (nth writes 1)) result) b
      (subst (λ x. Settles (JudgesCompile source cells x) result) c settles))

pub returns-in-Compile-clause-settles : goal.returns-in-Compile-clause-settles
returns-in-Compile-clause-settles c =
    let texts = c.args.texts.now in
    let writes = map string_bytes c.args.writes.now in
    let one : length c.args.texts.now ≡ 1 = c.requires.texts ∙ ap (λ (it : Command). length (texts_of it)) c.in-Compile.is in
    let two : length c.args.writes.now ≡ 2 = c.requires.writes ∙ ap written_by c.in-Compile.is in
    let two_names : length writes ≡ 2 = length-map c.args.writes.now string_bytes ∙ two in
    subst (λ (it : Command). Settles (JudgesTexts it c.args.texts.now (map string_bytes c.args.writes.now)) c.compile.result) (sym c.in-Compile.is)
    (compile_texts c.args.texts.now (map string_bytes c.args.writes.now) c.compile.result _ _ _
    (c.as_slice-in-Compile.ensures ∙ nth_is texts 0 c.index-texts-0-in-Compile.result (omega (arith, one)) c.index-texts-0-in-Compile.is)
    (nth_is writes 0 (string_bytes c.index-writes-0.result) (omega (arith, two_names)) (ap string_bytes c.index-writes-0.is ∙ sym (get_or-map string_bytes c.args.writes.now 0 c.index-writes-0.result)))
    (nth_is writes 1 (string_bytes c.index-writes-1.result) (omega (arith, two_names)) (ap string_bytes c.index-writes-1.is ∙ sym (get_or-map string_bytes c.args.writes.now 1 c.index-writes-1.result)))
    c.compile.ensures.settles)

pub returns-in-Go-clause-settles : goal.returns-in-Go-clause-settles
returns-in-Go-clause-settles c =
    let texts = c.args.texts.now in
    let writes = map string_bytes c.args.writes.now in
    let three : length c.args.texts.now ≡ 3 = c.requires.texts ∙ ap (λ (it : Command). length (texts_of it)) c.in-Go.is in
    let two : length c.args.writes.now ≡ 2 = c.requires.writes ∙ ap written_by c.in-Go.is in
    let two_names : length writes ≡ 2 = length-map c.args.writes.now string_bytes ∙ two in
    subst (λ (it : Command). Settles (JudgesTexts it c.args.texts.now (map string_bytes c.args.writes.now)) c.go.result) (sym c.in-Go.is)
    (go_texts c.args.texts.now (map string_bytes c.args.writes.now) c.go.result _ _ _ _ _
    (c.as_slice-in-Go.ensures ∙ nth_is texts 0 c.index-texts-0-in-Go.result (omega (arith, three)) c.index-texts-0-in-Go.is)
    (c.as_slice-in-Go-2.ensures ∙ nth_is texts 1 c.index-texts-1-in-Go.result (omega (arith, three)) c.index-texts-1-in-Go.is)
    (c.as_slice-in-Go-3.ensures ∙ nth_is texts 2 c.index-texts-2.result (omega (arith, three)) c.index-texts-2.is)
    (nth_is writes 0 (string_bytes c.index-writes-0-in-Go.result) (omega (arith, two_names)) (ap string_bytes c.index-writes-0-in-Go.is ∙ sym (get_or-map string_bytes c.args.writes.now 0 c.index-writes-0-in-Go.result)))
    (nth_is writes 1 (string_bytes c.index-writes-1-in-Go.result) (omega (arith, two_names)) (ap string_bytes c.index-writes-1-in-Go.is ∙ sym (get_or-map string_bytes c.args.writes.now 1 c.index-writes-1-in-Go.result)))
    c.go.ensures.settles)
