use Rattle.std.proofs.Common.{◌∙◌, sym, ap}
use Rattle.std.specs.Ordering.{ordering_then}
use Rattle.lock_rules.specs.Places.{place_cmp}
use Rattle.lock_rules.specs.Texts.{text_cmp}
use Rattle.lock_rules.proofs.place.Place.compare.Goals as goal

pub returns-in-Less : goal.returns-in-Less
unfolding place_cmp
returns-in-Less c =
    sym (ap (λ o. ordering_then o (text_cmp c.args.self.now.name c.args.other.now.name))
    (sym c.compare.ensures ∙ c.in-Less.is))

pub returns-in-Equal : goal.returns-in-Equal
unfolding place_cmp
returns-in-Equal c =
    c.compare-in-Equal.ensures
    ∙ sym (ap (λ o. ordering_then o (text_cmp c.args.self.now.name c.args.other.now.name))
    (sym c.compare.ensures ∙ c.in-Equal.is))

pub returns-in-Greater : goal.returns-in-Greater
unfolding place_cmp
returns-in-Greater c =
    sym (ap (λ o. ordering_then o (text_cmp c.args.self.now.name c.args.other.now.name))
    (sym c.compare.ensures ∙ c.in-Greater.is))
