use Rattle.std.proofs.Common.{List, Some, None, subst, ℕ}
use Rattle.arm_value.specs.Json.{text}
use Rattle.arm_value.specs.View.{json}
use Rattle.arm_ids.specs.Id.{text_of}
use Rattle.arm_ids.specs.declared.id.ResourceId.{ResourceId}
use Rattle.arm_env.proofs.Words.{word_properties}
use Rattle.reading.specs.Knowledge.{told}
use Rattle.bicep_meaning.specs.Files.{type_of}
use Rattle.bicep_meaning.specs.Meaning.{state_member}
use Rattle.bicep_outcomes.specs.Outcomes.{Gives}
use Rattle.bicep_outcomes.proofs.OutcomeLemmas.{told-done}
use Rattle.bicep_surroundings.proofs.ReadLemmas.{done_gives, then_reads}
use Rattle.bicep_surroundings.proofs.names.field_in.Goals as goal

pub returns-in-Id : goal.returns-in-Id
returns-in-Id g c =
    let s = g.K.Surroundings.sight c.args.around.now in
    rw c.in-Id.is
    (λ fs h. then_reads s.known s.cell (λ (i : ResourceId). i) json (λ (i : ResourceId). Some (text (text_of i)))
    c.id.result c.id_value.result (s.around.id c.args.number fs) (c.id.ensures fs h) c.id_value.ensures)

pub returns-in-Type : goal.returns-in-Type
returns-in-Type g c =
    let s = g.K.Surroundings.sight c.args.around.now in
    let kind = (type_of s.here.file c.args.number).kind in
    rw c.in-Type.is
    (λ fs h. done_gives s.known s.cell json (Some (text kind)) c.text_value.result
    (c.text_value.ensures kind c.kind.ensures))

pub returns-in-ApiVersion : goal.returns-in-ApiVersion
returns-in-ApiVersion g c =
    let s = g.K.Surroundings.sight c.args.around.now in
    let version = (type_of s.here.file c.args.number).version in
    rw c.in-ApiVersion.is
    (λ fs h. done_gives s.known s.cell json (Some (text version)) c.text_value-in-ApiVersion.result
    (c.text_value-in-ApiVersion.ensures version c.version.ensures))

pub returns-in-Properties : goal.returns-in-Properties
returns-in-Properties g c =
    let s = g.K.Surroundings.sight c.args.around.now in
    rw c.in-Properties.is
    (λ fs h. subst (λ (w : List ℕ). Gives s.cell json c.state_member.result
    (told s.known (state_member w (s.around.id c.args.number fs)))) word_properties
    (c.state_member.ensures (s.around.id c.args.number fs) (c.id-id.ensures fs h)))

pub returns-in-Outputs : goal.returns-in-Outputs
returns-in-Outputs g c =
    let s = g.K.Surroundings.sight c.args.around.now in
    rw c.in-Outputs.is (λ fs h. told-done s.known None)
