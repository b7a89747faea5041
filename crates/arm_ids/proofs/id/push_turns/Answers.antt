use Rattle.std.proofs.Common.{◌++◌, chars, string_bytes, sym, ap, ◌∙◌, append-nil, ⊎_elim, inl, inr}
use Rattle.std.proofs.lemmas.List.{nil_from_length}
use Rattle.arm_ids.specs.Segments.{slashed}
use Rattle.arm_ids.proofs.IdLemmas.{by_turns-done}
use Rattle.arm_ids.proofs.id.push_turns.Goals as goal

pub returns : goal.returns
returns c =
    let text = chars (string_bytes c.loop-kind.text) in
    sym (append-nil text)
    ∙ ap (λ r. text ++ slashed r)
    (sym
    (by_turns-done _ _
    (⊎_elim (λ w. inl (nil_from_length _ w.1.0)) (λ w. inr (nil_from_length _ w.1.0)) c.in-None.ensures.steps)))
    ∙ c.loop-kind.invariant
