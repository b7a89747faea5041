use Rattle.std.proofs.Common.{◌≡◌, ◌≤◌, ◌++◌, sym, ap, ◌∙◌, subst, arith}
use Rattle.std.specs.Str.{IsUtf8}
use Rattle.json.specs.Lex.{tokens}
use Rattle.json.specs.Print.{print}
use Rattle.serde_json.specs.Data.{depth}
use Rattle.serde_json.specs.Written.{WritesValue}
use Rattle.serde_json.proofs.Texts.{tokens_from_order, print-outline}
use Rattle.arm_value.specs.View.{json}
use Rattle.arm_value.specs.Reading.{data_of}
use Rattle.arm_value.proofs.DataLemmas.{depth-data_of}
use Rattle.arm_value.proofs.ReadLemmas.{reading_some}
use Rattle.arm_value.proofs.WriteLemmas.{has_float-data_of, read_of_tokens}
use Rattle.arm_value.proofs.value.Value.to_json.Goals as goal

pub returns-clause-text : goal.returns-clause-text
returns-clause-text c =
    let j = json c.args.self.now in
    let ts = c.write.new.out.tokens in
    let end = c.into_inner.ensures in
    let bytes : c.into_inner.result.items ≡ print ts = end.items
    ∙ ap (λ b. b ++ print ts) (c.in_ok-write.ensures.before ∙ c.new-out.ensures.before
    ∙ c.in_ok-with_capacity.ensures.items) in
    let w = subst (λ old. WritesValue (data_of j) old ts) c.new-out.ensures.tokens c.in_ok-write.ensures.ok in
    let order = tokens_from_order (print ts) (data_of j) (w.0, end.reads_back ∙ w.1, w.4) (has_float-data_of j) in
    c.from_vec.ensures ∙ bytes ∙ ap print (sym end.reads_back ∙ order) ∙ print-outline (data_of j)

pub returns-clause-reads_back : goal.returns-clause-reads_back
returns-clause-reads_back c =
    let j = json c.args.self.now in
    let ts = c.write.new.out.tokens in
    let end = c.into_inner.ensures in
    let bytes : c.into_inner.result.items ≡ print ts = end.items
    ∙ ap (λ b. b ++ print ts) (c.in_ok-write.ensures.before ∙ c.new-out.ensures.before
    ∙ c.in_ok-with_capacity.ensures.items) in
    let w = subst (λ old. WritesValue (data_of j) old ts) c.new-out.ensures.tokens c.in_ok-write.ensures.ok in
    let within : depth (data_of j) ≤ 127 = omega (arith, depth-data_of j, c.nesting-nesting.ensures.rules.1) in
    let read = read_of_tokens (data_of j) w.0 c.into_inner.result.items (ap tokens bytes ∙ end.reads_back ∙ w.1) w.2
    (omega (arith, w.3, within)) in
    rw c.from_vec.ensures (reading_some c.into_inner.result.items (data_of j) (subst IsUtf8 (sym bytes) end.utf8) read)
