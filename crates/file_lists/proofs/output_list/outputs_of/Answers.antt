use Rattle.std.proofs.Common.{◌≡◌, Some, None, map, ap, sym, ◌∙◌, length, subst, arith}
use Rattle.std.specs.Prelude.{option_map, slice_get}
use Rattle.bicep_declared.specs.View.{output_tree}
use Rattle.emitted_values.specs.Metadata.{metadata_at}
use Rattle.emitted_values.specs.Seen.{file_in}
use Rattle.std.proofs.lemmas.Option.{slice_get_past}
use Rattle.file_lists.specs.Found.{IsNext}
use Rattle.file_lists.specs.Lists.{output_text, output_name, noted_at, IsNoted}
use Rattle.file_lists.proofs.FirstLemmas.{none_listed, next_listed, all_first}
use Rattle.file_lists.proofs.LimitLemmas.{item_is, same_size, same_name}
use Rattle.file_lists.proofs.OutputLemmas.{are_outputs, have_metadata, none_noted, noted_is}
use Rattle.file_lists.proofs.SizeLemmas.{at_most_numbers}
use Rattle.file_lists.proofs.output_list.outputs_of.Goals as goal

pub loop-number-init : goal.loop-number-init
loop-number-init c =
    let s = c.args.table.now in
    none_listed output_text (file_in s).outputs c.requires.differ (noted_at s c.args.metadata.now) output_name
    (IsNoted s) c.new-all.result c.new-all.ensures

pub with_declared-requires-clause-fits : goal.with_declared-requires-clause-fits
with_declared-requires-clause-fits c =
    let s = c.args.table.now in
    c.requires.fits c.loop-number.number (output_tree c.index-declarations-number.result)
    (item_is output_tree c.args.declarations.now (file_in s).declared.outputs c.loop-number.number
    c.index-declarations-number.result c.requires.declared c.loop-number-test.true c.index-declarations-number.is)

pub loop-number-preserved : goal.loop-number-preserved
loop-number-preserved c =
    let s = c.args.table.now in
    let n = c.loop-number.number in
    let ms = c.args.metadata.now in
    let o = output_tree c.index-declarations-number.result in
    let named = option_map (λ t. t.now) c.name_of-name.result in
    next_listed output_text (file_in s).outputs c.requires.differ (noted_at s ms) output_name (IsNoted s) n
    c.loop-number.all c.in-Ok.more
    (subst (λ x. IsNext output_name (IsNoted s) x (noted_at s ms n) c.loop-number.all c.in-Ok.more)
    (same_name c.args.names.now (file_in s).outputs n named c.requires.names c.name_of-name.ensures)
    (subst (λ b. IsNext output_name (IsNoted s) named b c.loop-number.all c.in-Ok.more)
    (sym (noted_is s ms n o (item_is output_tree c.args.declarations.now (file_in s).declared.outputs n
    c.index-declarations-number.result c.requires.declared c.loop-number-test.true c.index-declarations-number.is)))
    c.in-Ok.ensures)) c.loop-number.invariant

pub returns-clause-outputs : goal.returns-clause-outputs
returns-clause-outputs c =
    let s = c.args.table.now in
    let ms = c.args.metadata.now in
    let a = same_size output_tree c.args.declarations.now (file_in s).declared.outputs c.requires.declared in
    are_outputs s ms c.loop-number.all
    (all_first output_text (file_in s).outputs c.requires.differ (noted_at s ms) output_name (IsNoted s)
    c.loop-number.number c.loop-number.all
    (λ n l. none_noted s ms n (slice_get_past (file_in s).declared.outputs n (omega (arith, a, l, c.loop-number-test.false))))
    c.loop-number.invariant.first)

pub returns-clause-metadata : goal.returns-clause-metadata
returns-clause-metadata c =
    let s = c.args.table.now in
    let ms = c.args.metadata.now in
    let a = same_size output_tree c.args.declarations.now (file_in s).declared.outputs c.requires.declared in
    have_metadata s ms c.loop-number.all
    (all_first output_text (file_in s).outputs c.requires.differ (noted_at s ms) output_name (IsNoted s)
    c.loop-number.number c.loop-number.all
    (λ n l. none_noted s ms n (slice_get_past (file_in s).declared.outputs n (omega (arith, a, l, c.loop-number-test.false))))
    c.loop-number.invariant.first)

pub returns-clause-order : goal.returns-clause-order
returns-clause-order c = c.loop-number.invariant.order

pub returns-clause-count : goal.returns-clause-count
returns-clause-count c =
    let s = c.args.table.now in
    let ms = c.args.metadata.now in
    let os = (file_in s).declared.outputs in
    at_most_numbers (noted_at s ms) (length os) (λ n l. none_noted s ms n (slice_get_past os n l)) c.loop-number.number
    c.loop-number.all c.loop-number.invariant.size
