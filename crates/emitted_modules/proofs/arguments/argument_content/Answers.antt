use Rattle.std.proofs.Common.{Some, codes, refl, sym, subst, ◌∙◌}
use Rattle.std.specs.Prelude.{IfOk}
use Rattle.foundation.proofs.AsciiWords.{word}
use Rattle.bicep_resolved.specs.View.{value_of}
use Rattle.emitted_expressions.specs.Sight.{frames_of}
use Rattle.emitted_resources.specs.Values.{IsContent}
use Rattle.emitted_resources.specs.Filled.{emission_sight}
use Rattle.emitted_resources.specs.Buildable.{MayBeBuilt}
use Rattle.emitted_resources.specs.Sight.{value}
use Rattle.emitted_modules.specs.Arguments.{argument_value}
use Rattle.emitted_modules.proofs.arguments.argument_content.Goals as goal

pub content-requires-clause-within : goal.content-requires-clause-within
content-requires-clause-within c =
    subst
    (λ x. MayBeBuilt (value (emission_sight c.args.table.now) (Some x) (value_of c.args.value.now)
    (frames_of c.args.turns.now))) (sym (c.in-Ok.ensures ∙ word (codes "value") refl)) c.requires.fits

pub returns-in-Ok : goal.returns-in-Ok
returns-in-Ok c =
    let w = emission_sight c.args.table.now in
    let v = value_of c.args.value.now in
    let fs = frames_of c.args.turns.now in
    subst (λ r. IfOk r (IsContent (argument_value w v fs))) (sym c.letting_go.ensures)
    (subst (λ x. IfOk c.content.result (IsContent (value w (Some x) v fs)))
    (c.in-Ok.ensures ∙ word (codes "value") refl) c.content.ensures)
