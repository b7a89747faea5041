use Rattle.std.proofs.Common.{ℕ, ap, sym, subst, ◌∙◌}
use Rattle.std.specs.Prelude.{MatchOption}
use Rattle.tag_needs.specs.Tags.{tags_in, IsShared}
use Rattle.plan_table.specs.Whole.{whole_of, rows_in}
use Rattle.plan_puts.proofs.SameLemmas.{none_same}
use Rattle.plan_puts.proofs.FoundLemmas.{same_put, first_is, second_is}
use Rattle.plan_puts.proofs.same.find_same_put.Goals as goal

pub returns-in-Some-instance_of-2-clause-same : goal.returns-in-Some-instance_of-2-clause-same
returns-in-Some-instance_of-2-clause-same c =
    same_put c.args.table.now c.requires.table (tags_in c.as_slice.result.now) c.in-Some.first c.in-Some.second
    (ap tags_in c.as_slice.ensures.value ∙ c.in_ok-tags.ensures)
    (subst (λ o. MatchOption o (Unit {0}) (λ p. IsShared (tags_in c.as_slice.result.now) p.0 p.1)) c.in-Some.is
    c.in_ok-first.ensures.shared) c.in-Some-instance_of.first c.in-Some-instance_of-2.second
    c.in-Some-instance_of.ensures.some c.in-Some-instance_of-2.ensures.some

pub unreachable-requires : goal.unreachable-requires
unreachable-requires c =
    second_is c.args.table.now c.requires.table (tags_in c.as_slice.result.now) c.in-Some.first c.in-Some.second
    (ap tags_in c.as_slice.ensures.value ∙ c.in_ok-tags.ensures)
    (subst (λ o. MatchOption o (Unit {0}) (λ p. IsShared (tags_in c.as_slice.result.now) p.0 p.1)) c.in-Some.is
    c.in_ok-first.ensures.shared) c.in-None-instance_of-2.ensures.none

pub unreachable-requires-in-None-instance_of : goal.unreachable-requires-in-None-instance_of
unreachable-requires-in-None-instance_of c =
    first_is c.args.table.now c.requires.table (tags_in c.as_slice.result.now) c.in-Some.first c.in-Some.second
    (ap tags_in c.as_slice.ensures.value ∙ c.in_ok-tags.ensures)
    (subst (λ o. MatchOption o (Unit {0}) (λ p. IsShared (tags_in c.as_slice.result.now) p.0 p.1)) c.in-Some.is
    c.in_ok-first.ensures.shared) c.in-None-instance_of.ensures.none

pub returns-clause-apart : goal.returns-clause-apart
returns-clause-apart c =
    none_same (whole_of c.args.table.now) (rows_in c.args.table.now) c.requires.table.filled.sound.distinct (λ i j s.
    subst (λ o. MatchOption o ((i j : ℕ) → IsShared (tags_in c.as_slice.result.now) i j → ⊥) (λ _. Unit {0}))
    c.in-None.is c.in_ok-first.ensures.apart i j (subst (λ ts. IsShared ts i j)
    (sym (ap tags_in c.as_slice.ensures.value ∙ c.in_ok-tags.ensures)) s))
