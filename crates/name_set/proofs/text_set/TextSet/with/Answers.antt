use Rattle.std.proofs.Common.{subst, sym, ap, ◌∙◌, encode_utf8_all, List, ℕ}
use Rattle.name_set.specs.Names.{IsTextIndexOf}
use Rattle.name_set.proofs.IndexLemmas.{text_index_more}
use Rattle.name_set.proofs.text_set.TextSet.with.Goals as goal

-- the index of the texts with one more
pub invariant_of-result : goal.invariant_of-result
invariant_of-result c =
    let key = c.in_ok-key.ensures ∙ ap (λ (t : List ℕ). encode_utf8_all t) (sym c.in_ok-text.ensures) in
    subst (IsTextIndexOf c.insert.new.self) (sym c.in_ok-push.ensures.items)
    (text_index_more c.self.inside.index c.insert.new.self c.self.inside.texts.items c.in_ok-key.key c.in_ok-text.text
    c.self.invariant key c.in_ok-insert.ensures.updates)
