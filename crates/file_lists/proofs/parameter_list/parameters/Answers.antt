use Rattle.std.proofs.Common.{ap, sym, ◌∙◌, length, subst, arith}
use Rattle.std.specs.Prelude.{is_some}
use Rattle.bicep_meaning.specs.Files.{symbol_name}
use Rattle.emitted_values.specs.Seen.{file_in}
use Rattle.file_lists.specs.Found.{IsNext}
use Rattle.file_lists.specs.Lists.{symbol_text, parameter_name, parameter_at, IsCompleted, rule_at}
use Rattle.file_lists.proofs.FirstLemmas.{none_listed, next_listed}
use Rattle.file_lists.proofs.ParameterLemmas.{all_parameters, rule_is, same_next, past_symbols}
use Rattle.file_lists.proofs.SizeLemmas.{at_most}
use Rattle.file_lists.proofs.parameter_list.parameters.Goals as goal

pub loop-number-init : goal.loop-number-init
loop-number-init c =
    let s = c.args.table.now in
    none_listed symbol_text (file_in s).symbols c.requires.names (parameter_at s) parameter_name
    (λ n q. IsCompleted s (rule_at s c.args.rules.now n) n q) c.new-all.result c.new-all.ensures

pub with_rule-requires-clause-there : goal.with_rule-requires-clause-there
with_rule-requires-clause-there c =
    let s = c.args.table.now in
    ap is_some (rule_is s c.args.rules.now c.loop-number.number c.index-rules-number.result c.loop-number-test.true
    c.index-rules-number.is)
    ∙ c.requires.rules.there c.loop-number.number

pub with_rule-requires-clause-name : goal.with_rule-requires-clause-name
with_rule-requires-clause-name c = λ p e.
    let s = c.args.table.now in
    c.requires.rules.names c.loop-number.number p
    (sym (rule_is s c.args.rules.now c.loop-number.number c.index-rules-number.result c.loop-number-test.true
    c.index-rules-number.is)
    ∙ e)

pub loop-number-preserved : goal.loop-number-preserved
loop-number-preserved c =
    let s = c.args.table.now in
    let n = c.loop-number.number in
    next_listed symbol_text (file_in s).symbols c.requires.names (parameter_at s) parameter_name
    (λ n q. IsCompleted s (rule_at s c.args.rules.now n) n q) n c.loop-number.all c.in-Ok.more
    (same_next s c.args.rules.now n (symbol_name (file_in s) n) c.loop-number.all c.in-Ok.more
    (subst
    (λ r. IsNext parameter_name (IsCompleted s r) (symbol_name (file_in s) n) (parameter_at s n) c.loop-number.all
    c.in-Ok.more)
    (rule_is s c.args.rules.now n c.index-rules-number.result c.loop-number-test.true c.index-rules-number.is)
    c.in-Ok.ensures)) c.loop-number.invariant

pub returns-clause-parameters : goal.returns-clause-parameters
returns-clause-parameters c =
    all_parameters c.args.table.now c.args.rules.now c.requires.rules c.requires.names c.loop-number.number
    c.loop-number.all (omega (arith, c.loop-number-test.false)) c.loop-number.invariant

pub returns-clause-order : goal.returns-clause-order
returns-clause-order c = c.loop-number.invariant.order

pub returns-clause-count : goal.returns-clause-count
returns-clause-count c =
    let s = c.args.table.now in
    at_most (parameter_at s) (length (file_in s).symbols) (past_symbols s) c.loop-number.number c.loop-number.all
    c.loop-number.invariant.size
