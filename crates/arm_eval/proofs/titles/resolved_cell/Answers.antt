use Rattle.std.proofs.Common.{◌≡◌, refl, subst}
use Rattle.arm_value.specs.Look.{fold}
use Rattle.reading.specs.Knowledge.{told, waits}
use Rattle.arm_env.specs.Look.{parameter, variable, output, state, deployment, outputs}
use Rattle.arm_env.specs.Cell.{look_of}
use Rattle.arm_eval.specs.Titles.{titled, known_through}
use Rattle.arm_eval.specs.Words.{titles_in}
use Rattle.arm_eval.proofs.CellLemmas.{titled_itself}
use Rattle.arm_eval.proofs.titles.resolved_cell.Goals as goal

pub returns-in-Parameter : goal.returns-in-Parameter
returns-in-Parameter g c =
    λ r e.
    let p = g.K.Entries.known c.args.entries.now in
    let ts = titles_in c.args.titles.now in
    titled_itself p ts c.args.place.now r (parameter (fold c.in-Parameter.name)) refl
    (subst (λ x. told (known_through (titled ts c.args.place.now) p) r ≡ waits (look_of x)) c.in-Parameter.is e)

pub returns-in-Variable : goal.returns-in-Variable
returns-in-Variable g c =
    λ r e.
    let p = g.K.Entries.known c.args.entries.now in
    let ts = titles_in c.args.titles.now in
    titled_itself p ts c.args.place.now r (variable (fold c.in-Variable.name)) refl
    (subst (λ x. told (known_through (titled ts c.args.place.now) p) r ≡ waits (look_of x)) c.in-Variable.is e)

pub returns-in-Output : goal.returns-in-Output
returns-in-Output g c =
    λ r e.
    let p = g.K.Entries.known c.args.entries.now in
    let ts = titles_in c.args.titles.now in
    titled_itself p ts c.args.place.now r (output c.in-Output.key (fold c.in-Output.name)) refl
    (subst (λ x. told (known_through (titled ts c.args.place.now) p) r ≡ waits (look_of x)) c.in-Output.is e)

pub returns-in-State : goal.returns-in-State
returns-in-State g c =
    λ r e.
    let p = g.K.Entries.known c.args.entries.now in
    let ts = titles_in c.args.titles.now in
    titled_itself p ts c.args.place.now r (state c.in-State.key) refl
    (subst (λ x. told (known_through (titled ts c.args.place.now) p) r ≡ waits (look_of x)) c.in-State.is e)

pub returns-in-Deployment : goal.returns-in-Deployment
returns-in-Deployment g c =
    λ r e.
    let p = g.K.Entries.known c.args.entries.now in
    let ts = titles_in c.args.titles.now in
    titled_itself p ts c.args.place.now r (deployment c.in-Deployment.key) refl
    (subst (λ x. told (known_through (titled ts c.args.place.now) p) r ≡ waits (look_of x)) c.in-Deployment.is e)

pub returns-in-Outputs : goal.returns-in-Outputs
returns-in-Outputs g c =
    λ r e.
    let p = g.K.Entries.known c.args.entries.now in
    let ts = titles_in c.args.titles.now in
    titled_itself p ts c.args.place.now r (outputs c.in-Outputs.key) refl
    (subst (λ x. told (known_through (titled ts c.args.place.now) p) r ≡ waits (look_of x)) c.in-Outputs.is e)

pub returns-in-Named : goal.returns-in-Named
returns-in-Named g c =
    λ r e.
    let p = g.K.Entries.known c.args.entries.now in
    let ts = titles_in c.args.titles.now in
    c.awaited_for.ensures r
    (subst (λ x. told (known_through (titled ts c.args.place.now) p) r ≡ waits (look_of x)) c.in-Named.is e)
