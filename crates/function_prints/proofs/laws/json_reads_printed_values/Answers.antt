use Rattle.std.proofs.Common.{◌≡◌, ◌≤◌, ◌∙◌, List, ℕ, Some, ap, sym, arith, option_and_then}
use Rattle.std.specs.Str.{IsUtf8}
use Rattle.std.proofs.lemmas.Str.{encodes-chars}
use Rattle.serde_json.specs.Data.{depth}
use Rattle.serde_json.specs.Written.{compact_text}
use Rattle.arm_value.specs.View.{json}
use Rattle.arm_value.specs.Reading.{data_of, reading}
use Rattle.arm_value.proofs.DataLemmas.{depth-data_of}
use Rattle.function_prints.specs.Stated.{shallow_tree}
use Rattle.function_prints.proofs.StatedLemmas.{stated_tree}
use Rattle.function_prints.proofs.TextLemmas.{is_text}
use Rattle.function_prints.proofs.laws.json_reads_printed_values.Goals as goal

pub returns : goal.returns
returns c =
    let j = json c.args.value.now in
    let bytes = compact_text (data_of j) in
    let clauses = c.in_ok-_printed.ensures in
    let reads : reading bytes ≡ Some (data_of j) =
    ap reading (sym clauses.text) ∙ clauses.reads_back in
    let utf8 : IsUtf8 bytes = is_text bytes (data_of j) reads in
    let shallow : depth (data_of j) ≤ 120 = omega (arith, depth-data_of j, c.nesting-nesting.ensures.rules.1) in
    ap (λ (b : List ℕ). option_and_then shallow_tree (reading b)) (encodes-chars bytes utf8)
    ∙ sym (stated_tree (reading bytes) j (reads, shallow, c.has_whole_numbers.ensures))
