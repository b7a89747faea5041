use Rattle.std.proofs.Common.{ap, subst, sym, ◌∙◌, ◌≤◌, ℕ, map, [], ◌∷◌}
use Rattle.std.proofs.lemmas.List.{length-map}
use Rattle.tag_places.specs.Places.{first_place}
use Rattle.plan_numbers.specs.Numbers.{leave_tag}
use Rattle.plan_numbers.proofs.NumberLemmas.{number_is}
use Rattle.plan_numbers.proofs.looking.leave_of.Goals as goal

pub returns : goal.returns
returns c = λ t us ks n.
    number_is (c.args.frame ∷ []) (map leave_tag us) c.first_place.result c.number_of.result c.number_of.ensures
    (c.first_place.ensures (map leave_tag us) n.leaves ∙ ap (λ u. first_place u (map leave_tag us)) c.in_ok-tag.ensures)
    (subst (λ (k : ℕ). k ≤ 4294967295) (sym (length-map us leave_tag)) n.of_scopes.few)
