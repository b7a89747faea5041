use Rattle.std.proofs.Common.{◌∙◌, ◌++◌, [], refl, ap, ap₂, arith, chars, string_bytes}
use Rattle.foundation.proofs.AsciiWords.{word}
use Rattle.foundation.proofs.Options.{if_ok}
use Rattle.plan_table.specs.Opened.{step_of}
use Rattle.plan_paths.specs.Texts.{a_position, inside}
use Rattle.plan_paths.proofs.TextLemmas.{around_there, scope_made, root_made}
use Rattle.plan_positions.proofs.PositionLemmas.{instance_made}
use Rattle.plan_positions.proofs.positions.+positions.Goals as goal

pub instance_position-returns : goal.instance_position-returns
instance_position-returns t c =
    instance_made c.args.table.now c.args.frame (step_of c.args.instance) c.index-frame.result.now
    c.in_ok-scope_position.field-0 (chars (string_bytes c.push_text.new.position)) c.in_ok-path.path
    (chars (string_bytes c.push_loop_index.new.position)) c.from_string.result c.requires.laid c.requires.there
    c.index-frame.ensures c.in_ok-scope_position.ensures
    (c.in_ok-push_text.ensures
    ∙ ap₂ (λ x y. x ++ y) c.into_string-position.ensures.characters c.as_str.ensures.characters)
    c.in_ok-path.ensures c.in_ok-push_loop_index.ensures c.from_string.ensures.characters

pub scope_position-instance_position-requires : goal.scope_position-instance_position-requires
scope_position-instance_position-requires t c =
    let a = around_there c.args.table.now c.args.frame c.index-frame.result.now c.index-frame.result.now
    c.in-Some.instance.now c.as_slice.result.now c.requires.laid c.requires.there c.index-frame.ensures
    c.index-frame.ensures c.as_slice.ensures.value c.in-Some.ensures.value in
    let less = a.0 in
    (omega (arith, less, c.decreases), (c.requires.laid, a.1))

pub scope_position-returns-in_ok-push_inside-in-Some :
    goal.scope_position-returns-in_ok-push_inside-in-Some
scope_position-returns-in_ok-push_inside-in-Some t c =
    scope_made a_position c.args.table.now c.args.frame c.index-frame.result.now c.index-frame.result.now
    c.in-Some.instance.now c.as_slice.result.now c.in_ok-instance_position-in-Some.field-0 c.from_string.result
    c.requires.laid c.requires.there c.index-frame.ensures c.index-frame.ensures c.as_slice.ensures.value
    c.in-Some.ensures.value c.in_ok-instance_position-in-Some.ensures
    (c.from_string.ensures.characters ∙ c.in_ok-push_inside-in-Some.ensures
    ∙ ap inside c.into_string-position.ensures.characters)

pub scope_position-returns-in-None : goal.scope_position-returns-in-None
scope_position-returns-in-None t c =
    if_ok _ _ c.of.result c.of.ensures (λ x e.
    root_made a_position c.args.table.now c.args.frame c.index-frame.result.now c.as_slice.result.now x
    c.requires.there c.index-frame.ensures c.as_slice.ensures.value c.in-None.ensures.value (e ∙ word [] refl))
