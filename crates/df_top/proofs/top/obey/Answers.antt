use Rattle.std.proofs.Common.{◌≡◌, ◌∙◌}
use Rattle.df_top.proofs.Outcomes.{stands_when_carried, stands_when_refused}
use Rattle.df_top.proofs.top.obey.Goals as goal

pub returns-in-Ok-clause-stands : goal.returns-in-Ok-clause-stands
returns-in-Ok-clause-stands g c = λ f.
    stands_when_carried c.has_one_verdict.ensures _ c.in-Ok.plan _ _ _ _ _ _ _ (c.in-Ok.ensures.holds f) (c.in-Ok.ensures.settles f) (rw c.in-Ok.plan-is at (c.carry_out.ensures.stands f))

pub returns-in-Err-Refused-clause-stands : goal.returns-in-Err-Refused-clause-stands
returns-in-Err-Refused-clause-stands g c = λ f.
    stands_when_refused c.has_one_verdict.ensures _ _ _ _ _ _ _ c.ended.ensures (c.in-Err-Refused.ensures.holds f)
    (rw c.in-Err-Refused.field-0-is at (c.in-Err-Refused.ensures.settles f))
    (λ k. let said : c.as_slice.result.now ≡ c.in-Err-Refused.line = c.as_slice.ensures ∙ c.in-Err-Refused.line-is in rw said at (c.write_out.ensures.written k))
