use Rattle.std.proofs.Common.{subst, sym, ap, ◌∙◌, encode_utf8_all, List, ℕ}
use Rattle.arm_value.specs.Look.{fold}
use Rattle.name_set.specs.Names.{IsIndexOf}
use Rattle.name_set.proofs.IndexLemmas.{index_more}
use Rattle.name_set.proofs.set.NameSet.with.Goals as goal

-- the index of the names with one more
pub invariant_of-result : goal.invariant_of-result
invariant_of-result c =
    let key = c.in_ok-key.ensures ∙ ap (λ (t : List ℕ). encode_utf8_all (fold t)) (sym c.in_ok-name.ensures) in
    subst (IsIndexOf c.insert.new.self) (sym c.in_ok-push.ensures.items)
    (index_more c.self.inside.index c.insert.new.self c.self.inside.names.items c.in_ok-key.key c.in_ok-name.name
    c.self.invariant key c.in_ok-insert.ensures.updates)
