use Rattle.std.proofs.Common.{ap, subst, sym, ◌∙◌, ◌≤◌, ℕ, map, [], ◌∷◌}
use Rattle.std.proofs.lemmas.List.{length-map}
use Rattle.tag_places.specs.Places.{first_place}
use Rattle.plan_numbers.specs.Numbers.{enter_tag}
use Rattle.plan_numbers.proofs.NumberLemmas.{number_is}
use Rattle.plan_numbers.proofs.looking.enter_of.Goals as goal

pub returns : goal.returns
returns c = λ t us ks n.
    number_is (c.args.frame ∷ []) (map enter_tag us) c.first_place.result c.number_of.result c.number_of.ensures
    (c.first_place.ensures (map enter_tag us) n.enters ∙ ap (λ u. first_place u (map enter_tag us)) c.in_ok-tag.ensures)
    (subst (λ (k : ℕ). k ≤ 4294967295) (sym (length-map us enter_tag)) n.of_scopes.few)
