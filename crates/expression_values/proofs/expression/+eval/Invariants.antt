use Rattle.std.proofs.Common.{◌≡◌, drop, take, map, option_map}
use Rattle.arm_expr.specs.View.{tree_of}
use Rattle.expression_values.specs.Row.{all_true, one_true, first_there}
use Rattle.expression_values.specs.Meaning.{value}
use Rattle.arm_env.specs.Knowledge.{told, finished}
use Rattle.arm_env.specs.Answer.{gathered}
use Rattle.arm_env.specs.Sight.{here}
use Rattle.expression_values.specs.Args.{outs, all_json}
use Rattle.expression_values.proofs.expression.+eval.Given as goal

-- the rest gives what the whole gives
abbrev pub invariant-all_true-loop-arg : goal.invariant-all_true-loop-arg
invariant-all_true-loop-arg g l =
    told (g.K.Entries.known l.entries) (all_true (outs (here l.around) l.args))
    ≡ told (g.K.Entries.known l.entries) (all_true (outs (here l.around) (drop l.arg-index l.args)))

abbrev pub invariant-one_true-loop-arg : goal.invariant-one_true-loop-arg
invariant-one_true-loop-arg g l =
    told (g.K.Entries.known l.entries) (one_true (outs (here l.around) l.args))
    ≡ told (g.K.Entries.known l.entries) (one_true (outs (here l.around) (drop l.arg-index l.args)))

abbrev pub invariant-first_there-loop-arg : goal.invariant-first_there-loop-arg
invariant-first_there-loop-arg g l =
    told (g.K.Entries.known l.entries) (first_there (outs (here l.around) l.args))
    ≡ told (g.K.Entries.known l.entries) (first_there (outs (here l.around) (drop l.arg-index l.args)))

-- the values so far, or none where one of them is none
abbrev pub invariant-all_values-loop-arg : goal.invariant-all_values-loop-arg
invariant-all_values-loop-arg g l =
    gathered (λ xs. xs) (g.K.Entries.known l.entries)
    (map (λ e. value (here l.around) (tree_of e)) (take l.arg-index l.args))
    ≡ finished (option_map all_json l.values)
