use Rattle.std.proofs.Common.{Option, Some, ap, refl, sym, subst}
use Rattle.std.specs.Prelude.{IfOk, option_map}
use Rattle.arm_value.specs.declared.value.Value.{Value}
use Rattle.bicep_declared.specs.Declarations.{OutputTree}
use Rattle.bicep_declared.specs.View.{output_tree}
use Rattle.file_lists.specs.Found.{IsPart}
use Rattle.file_lists.specs.Lists.{output_name, IsNoted}
use Rattle.file_lists.proofs.OutputLemmas.{is_noted}
use Rattle.file_lists.proofs.PartLemmas.{part_there, no_name}
use Rattle.file_lists.proofs.output_list.output_of.Goals as goal

pub returns-in-Some : goal.returns-in-Some
returns-in-Some c =
    let s = c.args.table.now in
    let o = output_tree c.args.declared.now in
    let m = c.args.metadata in
    part_there output_name (IsNoted s) (option_map (λ t. t.now) c.args.name) (Some (o, m)) c.in-Some.name.now (o, m)
    (ap (option_map (λ t. t.now)) c.in-Some.is) refl c.output.result c.there.result c.output.ensures.name
    (is_noted s o m c.output.result c.output.ensures.output c.output.ensures.metadata) c.there.ensures

pub returns-in-None : goal.returns-in-None
returns-in-None c =
    let s = c.args.table.now in
    let p : OutputTree × Option Value = (output_tree c.args.declared.now, c.args.metadata) in
    let x = option_map (λ t. t.now) c.args.name in
    subst (λ r. IfOk r (IsPart output_name (IsNoted s) x (Some p))) (sym c.letting_go.ensures)
    (no_name output_name (IsNoted s) x (Some p) (ap (option_map (λ t. t.now)) c.in-None.is))
