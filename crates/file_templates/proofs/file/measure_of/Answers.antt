use Rattle.std.proofs.Common.{List, Option, refl, subst}
use Rattle.std.specs.Prelude.{IfOk}
use Rattle.arm_value.specs.declared.value.Value.{Value}
use Rattle.measured_trees.specs.Measures.{IsOf}
use Rattle.source_templates.specs.Extremes.{file_extremes}
use Rattle.file_templates.specs.Parts.{unmeasured}
use Rattle.file_templates.proofs.TextLemmas.{is_ready}
use Rattle.file_templates.proofs.file.measure_of.Goals as goal

pub measured_file-requires-clause-ready : goal.measured_file-requires-clause-ready
measured_file-requires-clause-ready c = is_ready c.args.table.now c.requires.table

pub returns : goal.returns
returns c =
    let z = c.args.form in
    let s = c.args.table.now in
    let rs = c.args.rules.now in
    let x = c.args.metadata.now in
    subst
    (λ (os : List (Option Value)).
    IfOk c.measured_file.result (IsOf (file_extremes z s rs x.symbols.items os unmeasured)))
    c.as_slice-2.ensures.value
    (subst
    (λ (ms : List (Option Value)).
    IfOk c.measured_file.result (IsOf (file_extremes z s rs ms c.as_slice-2.result.now unmeasured)))
    c.as_slice.ensures.value
    (c.measured_file.ensures unmeasured (λ n. record { longest = refl; deepest = refl; depth = refl })))
