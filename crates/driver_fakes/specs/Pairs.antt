-- What a pair of providers may answer.
use Rattle.std.specs.Prelude.{◌≡◌, ◌⊎◌, ℕ, List, codes}
use Rattle.arm_value.specs.Json.{Json}
use Rattle.provider_trait.specs.Script.{done}
use Rattle.provider_trait.specs.declared.act.Act.{Act}
use Rattle.provider_trait.specs.declared.answer.Answer.{Answer}
use Rattle.provider_trait.specs.declared.answer.Answer.TheVariants.{Refused}

-- the refusal of a call that is alone
abbrev pub alone : Answer
alone = Refused (codes "Alone")

-- it does what it is asked, or refuses because it is alone
abbrev pub PairingMay : Act → List ℕ → List ℕ → Json → Answer → Type 0
PairingMay act id api body answer = (answer ≡ done act id api body) ⊎ (answer ≡ alone)
