-- Which answers suit which act.
use Rattle.provider_trait.specs.declared.act.Act.{Act}
use Rattle.provider_trait.specs.declared.act.Act.TheVariants.{Put, Delete}
use Rattle.provider_trait.specs.declared.answer.Answer.{Answer}
use Rattle.provider_trait.specs.declared.answer.Answer.TheVariants.{Stored, Gone, Refused}

-- a put is answered by `Stored` or `Refused`, a deletion by `Gone` or `Refused`
abbrev pub Suits : Act → Answer → Type 0
Suits Put (Stored state) = Unit {0}
Suits Put Gone = ⊥
Suits Put (Refused code) = Unit {0}
Suits Delete (Stored state) = ⊥
Suits Delete Gone = Unit {0}
Suits Delete (Refused code) = Unit {0}
