use Rattle.std.proofs.Common.{◌∙◌, ap, subst, Result, Err, IfErr, Some}
use Rattle.arm_ids.specs.Id.{resource_at, Refuses}
use Rattle.arm_ids.specs.declared.fault.IdFault.{IdFault}
use Rattle.arm_ids.specs.declared.id.ResourceId.{ResourceId}
use Rattle.arm_eval.proofs.TitleLemmas.{key_of_id, empty_forms_none, unpaired_form_none}
use Rattle.arm_eval.proofs.symbols.key_formed.Goals as goal

pub returns-in_ok-key-in-Ok : goal.returns-in_ok-key-in-Ok
returns-in_ok-key-in-Ok c =
    ap Some c.in_ok-key-in-Ok.ensures
    ∙ key_of_id c.args.place.now c.args.kind.now c.args.name.now c.as_str.result.now c.as_str-2.result.now
    c.as_str.ensures.characters c.as_str-2.ensures.characters c.in-Ok.id c.in-Ok.ensures.ok c.in-Ok.ensures.is_id

pub returns-in-Err-EmptySegment : goal.returns-in-Err-EmptySegment
returns-in-Err-EmptySegment c =
    let P : Result ResourceId IdFault → Type 0 =
    λ r. IfErr r (Refuses (resource_at c.args.place.now c.as_str.result.now c.as_str-2.result.now)) in
    empty_forms_none c.args.place.now c.args.kind.now c.args.name.now c.as_str.result.now c.as_str-2.result.now
    c.as_str.ensures.characters c.as_str-2.ensures.characters
    (subst P (c.in-Err-EmptySegment.is ∙ ap Err c.in-Err-EmptySegment.field-0-is) c.of.ensures.fault)

pub returns-in-Err-SegmentsDiffer : goal.returns-in-Err-SegmentsDiffer
returns-in-Err-SegmentsDiffer c =
    let P : Result ResourceId IdFault → Type 0 =
    λ r. IfErr r (Refuses (resource_at c.args.place.now c.as_str.result.now c.as_str-2.result.now)) in
    unpaired_form_none c.args.place.now c.args.kind.now c.args.name.now c.as_str.result.now c.as_str-2.result.now
    c.as_str.ensures.characters c.as_str-2.ensures.characters
    (subst P (c.in-Err-SegmentsDiffer.is ∙ ap Err c.in-Err-SegmentsDiffer.field-0-is) c.of.ensures.fault)
