use Rattle.std.proofs.Common.{codes, refl}
use Rattle.arm_value.specs.View.{json}
use Rattle.foundation.proofs.AsciiWords.{word}
use Rattle.provider_trait.proofs.PlainLemmas.{state_made, state_shallow}
use Rattle.provider_trait.proofs.plain.state_of.Goals as goal

pub returns-clause-state : goal.returns-clause-state
returns-clause-state c =
    state_made c.args.named.now.kind c.args.named.now.name c.args.id.now c.args.api.now (json c.args.body.now) _ _ _ _
    _ _ _ _ _ _ _ _ c.in_ok-members.ensures c.in_ok-identified.ensures c.in_ok-versioned.ensures
    c.in_ok-titled.ensures c.in_ok-typed.ensures c.in_ok-with_properties.ensures refl
    (word (codes "id") refl) (word (codes "apiVersion") refl) (word (codes "name") refl)
    (word (codes "type") refl) (word (codes "properties") refl)

pub returns-clause-shallow : goal.returns-clause-shallow
returns-clause-shallow c =
    state_shallow c.args.named.now.kind c.args.named.now.name c.args.id.now c.args.api.now (json c.args.body.now) _
    c.requires (state_made c.args.named.now.kind c.args.named.now.name c.args.id.now c.args.api.now
    (json c.args.body.now) _ _ _ _ _ _ _ _ _ _ _ _ c.in_ok-members.ensures c.in_ok-identified.ensures
    c.in_ok-versioned.ensures c.in_ok-titled.ensures c.in_ok-typed.ensures c.in_ok-with_properties.ensures refl
    (word (codes "id") refl) (word (codes "apiVersion") refl) (word (codes "name") refl)
    (word (codes "type") refl) (word (codes "properties") refl))
