-- The values of a plan's keys, put together.
use Rattle.std.proofs.Common.{◌≡◌, true, Some, refl, codes}
use Rattle.toml.specs.Data.{Data}
use Rattle.dnp_objects.specs.declared.limits.TheConstants.{LANES}
use Rattle.dnp_plantext.specs.declared.plan_text.fields.TheConstants.{PLAN_KEYS}
use Rattle.dnp_plantext.specs.declared.plan_text.fields.PlanFields.{PlanFields}
use Rattle.dnp_plantext.specs.PlanFields.{integer_under, bool_under, integers_under, exactly, has_keys, substations_under, plan_fields_of}

-- each value stands under its key
pub record AreUnder (t : Data) (fields : PlanFields) : Type 0 where
  pub confirm_ms : Some fields.confirm_ms ≡ integer_under (codes "confirm_ms") t
  pub response_ms : Some fields.response_ms ≡ integer_under (codes "response_ms") t
  pub select_ms : Some fields.select_ms ≡ integer_under (codes "select_ms") t
  pub retries : Some fields.retries ≡ integer_under (codes "retries") t
  pub unsolicited : Some fields.unsolicited ≡ bool_under (codes "unsolicited") t
  pub queue : Some fields.queue ≡ exactly LANES (integers_under (codes "queue") t)
  pub queue2 : Some fields.queue2 ≡ exactly LANES (integers_under (codes "queue2") t)
  pub substations : Some fields.substations ≡ substations_under t
  pub keys : has_keys PLAN_KEYS t ≡ true

pub put_together : (t : Data) (fields : PlanFields) → AreUnder t fields → Some fields ≡ plan_fields_of t
unfolding plan_fields_of
put_together t fields u =
    rw (← u.confirm_ms, ← u.response_ms, ← u.select_ms, ← u.retries, ← u.unsolicited, ← u.queue, ← u.queue2, ← u.substations, u.keys) refl
