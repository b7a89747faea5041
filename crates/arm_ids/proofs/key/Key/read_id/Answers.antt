use Rattle.std.proofs.Common.{chars, sym, ap, ◌∙◌}
use Rattle.std.proofs.lemmas.Result.{err_from_is_err_and}
use Rattle.arm_ids.specs.Id.{reading}
use Rattle.arm_ids.proofs.KeyLemmas.{is_id_of, only_key, no_key_fault}
use Rattle.arm_ids.proofs.key.Key.read_id.Goals as goal

pub returns-in_err-parts-clause-fault : goal.returns-in_err-parts-clause-fault
returns-in_err-parts-clause-fault c =
    let p = err_from_is_err_and c.from_residual-in_err-parts.result c.from_residual-in_err-parts.ensures.1 in
    rw (p.1, p.2)
    (no_key_fault (chars c.args.id.now) (chars c.as_str.result.now) c.in_err-parts.field-0.0
    (c.as_str.ensures.characters ∙ c.in_ok-id.ensures) c.in_err-parts.ensures.fault)

pub invariant_of-result : goal.invariant_of-result
invariant_of-result c =
    let id =
    is_id_of (chars c.args.id.now) c.in_ok-parts.parts
    (ap reading (sym (c.as_str.ensures.characters ∙ c.in_ok-id.ensures)) ∙ c.in_ok-parts.ensures.ok) in
    (id.is_key, c.in_ok-id.ensures ∙ id.spelled)

pub returns-clause-ok : goal.returns-clause-ok
returns-clause-ok c =
    is_id_of (chars c.args.id.now) c.in_ok-parts.parts
    (ap reading (sym (c.as_str.ensures.characters ∙ c.in_ok-id.ensures)) ∙ c.in_ok-parts.ensures.ok)

pub returns-clause-only : goal.returns-clause-only
returns-clause-only c =
    only_key (chars c.args.id.now) c.in_ok-parts.parts
    (ap reading (sym (c.as_str.ensures.characters ∙ c.in_ok-id.ensures)) ∙ c.in_ok-parts.ensures.ok)
