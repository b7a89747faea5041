use Rattle.std.proofs.Common.{ℕ, List, Option, sym, subst}
use Rattle.std.specs.Prelude.{IfOk}
use Rattle.std.specs.BTreeSet.{BTreeSet}
use Rattle.template_parts.specs.declared.parameter.Parameter.{Parameter}
use Rattle.source_templates.specs.Built.{templates_of}
use Rattle.source_templates.specs.Fits.{AreMentioned}
use Rattle.file_templates.specs.Made.{CanBeMade, HasMetadataOf, IsMadeFor}
use Rattle.file_templates.proofs.MadeLemmas.{few_for, for_text, noted_for}
use Rattle.file_templates.proofs.TextLemmas.{keeps_rules, of_parts}
use Rattle.file_templates.proofs.file.file_template.Goals as goal

pub made-requires-clause-ready : goal.made-requires-clause-ready
made-requires-clause-ready c = c.requires.parts.ready

pub made-requires-clause-fits : goal.made-requires-clause-fits
made-requires-clause-fits c =
    subst (λ (l : List (Option Parameter)). CanBeMade c.args.parts.now.form c.args.parts.now.table l)
    (sym c.as_slice.ensures.value)
    c.requires.parts.fits

pub made-requires-clause-mentioned : goal.made-requires-clause-mentioned
made-requires-clause-mentioned c =
    subst (λ (l : List (BTreeSet ℕ)). AreMentioned c.args.parts.now.table l) (sym c.as_slice-2.ensures.value)
    c.requires.parts.mentioned

pub returns-clause-made : goal.returns-clause-made
returns-clause-made c = λ z t r rs h.
    let x = c.args.parts.now in
    let us = templates_of c.args.templates.items in
    subst (λ f. IfOk c.made.result (IsMadeFor f t r rs us)) h.form
    (for_text x.form t r x.table c.as_slice.result.now us
    (of_parts z t r rs x h c.as_slice.result.now c.as_slice.ensures.value) rs h.table.table.files c.made.result
    c.made.ensures.text)

pub returns-clause-keeps : goal.returns-clause-keeps
returns-clause-keeps c = λ z t r rs h.
    keeps_rules t r rs c.args.parts.now.table (templates_of c.args.templates.items) h.table c.made.result
    c.made.ensures.keeps

pub returns-clause-metadata : goal.returns-clause-metadata
returns-clause-metadata c = λ z t r rs h.
    let x = c.args.parts.now in
    subst (λ f. IfOk c.made.result (HasMetadataOf f t r)) h.form
    (noted_for x.form t r x.table c.as_slice.result.now x.parts.metadata
    (of_parts z t r rs x h c.as_slice.result.now c.as_slice.ensures.value) h.parts.0.metadata c.made.result
    c.made.ensures.metadata)

pub returns-clause-few : goal.returns-clause-few
returns-clause-few c = λ z t r rs h.
    few_for c.args.parts.now.table h.parts.1 c.made.result c.made.ensures.few
