use Rattle.std.proofs.Common.{ap, subst, sym, ◌∙◌, ◌≤◌, ℕ}
use Rattle.tag_places.specs.Places.{first_place}
use Rattle.key_tags.specs.KeyCodes.{key_code}
use Rattle.plan_numbers.specs.Numbers.{put_tags}
use Rattle.plan_numbers.proofs.NumberLemmas.{number_is, tags_length}
use Rattle.plan_numbers.proofs.looking.putter_of.Goals as goal

pub returns : goal.returns
returns c = λ t us ks n.
    number_is (key_code c.args.key.now) (put_tags us ks) c.first_place.result c.number_of.result c.number_of.ensures
    (c.first_place.ensures (put_tags us ks) n.puts ∙ ap (λ u. first_place u (put_tags us ks)) c.in_ok-tag.ensures)
    (subst (λ (k : ℕ). k ≤ 4294967295) (sym (tags_length us ks)) n.of_scopes.few)
