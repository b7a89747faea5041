-- What an answer says, from what is told.
use Rattle.std.proofs.Common.{◌≡◌, Some, None, subst}
use Rattle.arm_value.specs.Json.{Json}
use Rattle.arm_ids.specs.declared.id.ResourceId.{ResourceId}
use Rattle.reading.specs.Knowledge.{Known, Told, value, no_value, waits, told, Means, IsFinal}
use Rattle.reading.specs.Knowledge.{IsAwaited}
use Rattle.reading.proofs.Completion.{told_means}
use Rattle.arm_env.specs.Look.{Look, Fact, state, Looking}
use Rattle.arm_eval.specs.Got.{IsEntry, IsLate}

module _ (p : Look → Known Fact) (r : Looking Json) where
  means : (t : Told Look Json) → told p r ≡ t → Means p r t
  means t e = subst (λ (t : Told Look Json). Means p r t) e (told_means Look Fact Json p r)

  pub says_value : (v : Json) → told p r ≡ value v → (told p r ≡ value v) × IsFinal p r (Some v)
  says_value v e = (e, means (value v) e)

  pub says_none : told p r ≡ no_value → (told p r ≡ no_value) × IsFinal p r None
  says_none e = (e, means no_value e)

  pub says_needs : (k : ResourceId) → told p r ≡ waits (state k)
      → (told p r ≡ waits (state k)) × IsAwaited p r (state k)
  says_needs k e = (e, means (waits (state k)) e)

  pub says_late : (c : Look) → IsEntry c → told p r ≡ waits c → IsLate p r
  says_late c i e =
      record { entry = c; is_no_state = i; waits_for = e; is_awaited = means (waits c) e }

pub ruleset says = (says_value, says_none, says_needs, says_late)
