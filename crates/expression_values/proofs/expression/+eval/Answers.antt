use Rattle.std.proofs.Common.{◌≡◌, ◌+◌, ◌++◌, ◌∷◌, [], List, map, drop, option_map, Some, None}
use Rattle.std.proofs.Common.{true, false, refl, sym, ap, ◌∙◌, subst, arith}
use Rattle.std.proofs.lemmas.Result.{err_from_is_err_and}
use Rattle.std.proofs.lemmas.List.{drop_all}
use Rattle.std.specs.Prelude.{if◌then◌else◌}
use Rattle.arm_value.specs.Json.{Json, bool, null}
use Rattle.arm_value.specs.View.{json}
use Rattle.arm_expr.specs.View.{tree_of}
use Rattle.arm_expr.specs.declared.expr.Expr.{Expr}
use Rattle.arm_functions.specs.Kinds.{truth_of}
use Rattle.arm_env.specs.Reading.{pure}
use Rattle.expression_values.specs.Row.{if_row, all_true, one_true, first_there, unless_false, unless_true}
use Rattle.expression_values.specs.Row.{is_null, chosen}
use Rattle.arm_env.specs.Look.{Look, Looking}
use Rattle.expression_values.specs.Meaning.{value, held}
use Rattle.arm_env.specs.Knowledge as knowledge
use Rattle.arm_env.specs.Knowledge.{told, finished}
use Rattle.arm_env.specs.Answer.{Gives}
use Rattle.arm_env.specs.Sight.{here, held_of}
use Rattle.expression_values.specs.Args.{outs, all_json}
use Rattle.arm_env.proofs.Answers.{goes, stops, told-done, outcome_gives}
use Rattle.expression_values.proofs.EvalLemmas.{turn, stops_at, too_few, three, if_wrong, if_args}
use Rattle.expression_values.proofs.EvalLemmas.{held-Member, held-Index, index_told, index_stops}
use Rattle.expression_values.proofs.EvalLemmas.{base_stops_index}
use Rattle.arm_env.proofs.Gather.{gathered-nil}
use Rattle.arm_env.proofs.Turns.{turned, turn_stops, all_turned, all_given, all_stop}
use Rattle.expression_values.proofs.EvalLemmas.{there, nowhere}
use Rattle.expression_values.proofs.expression.+eval.Goals as goal
use Rattle.expression_values.proofs.expression.+eval.Goals.{if_value-in_default-via-then-args-lt3}
use Rattle.expression_values.proofs.expression.+eval.Goals.{if_value-in_default-via-else-args-lt3+else-args-lt4}

pub all_true-returns-in_err-value : goal.all_true-returns-in_err-value
all_true-returns-in_err-value g t c =
    let r = err_from_is_err_and c.from_residual.result c.from_residual.ensures.1 in
    let p = g.K.Entries.known c.args.entries.now in
    rw (r.1, r.2)
    (stops_at p _ _ _ _
    (turn all_true p (here c.args.around.now) c.args.args.now c.loop-arg.arg-index
    c.arg-item.result c.loop-arg-test.true c.arg-item.is c.loop-arg.invariant)
    c.in_err-value.ensures)

pub all_true-returns-in-Some-false : goal.all_true-returns-in-Some-false
all_true-returns-in-Some-false g t c =
    let p = g.K.Entries.known c.args.entries.now in
    let is : truth_of (json c.in_ok-value.value) ≡ Some false =
    sym c.in-Some-false.ensures ∙ ap Some c.in-Some-false.field-0-test in
    let rest =
    all_true (outs (here c.args.around.now) (drop (c.loop-arg.arg-index + 1) c.args.args.now)) in
    turn all_true p (here c.args.around.now) c.args.args.now c.loop-arg.arg-index c.arg-item.result
    c.loop-arg-test.true c.arg-item.is c.loop-arg.invariant ∙ goes p _ _ _ c.in_ok-value.ensures
    ∙ ap (λ b. told p (unless_false b rest)) is ∙ told-done p (Some (bool false))

pub all_true-returns-in-None : goal.all_true-returns-in-None
all_true-returns-in-None g t c =
    let p = g.K.Entries.known c.args.entries.now in
    let rest =
    all_true (outs (here c.args.around.now) (drop (c.loop-arg.arg-index + 1) c.args.args.now)) in
    turn all_true p (here c.args.around.now) c.args.args.now c.loop-arg.arg-index c.arg-item.result
    c.loop-arg-test.true c.arg-item.is c.loop-arg.invariant ∙ goes p _ _ _ c.in_ok-value.ensures
    ∙ ap (λ b. told p (unless_false b rest)) (sym c.in-None.ensures) ∙ told-done p None

pub all_true-loop-arg-preserved : goal.all_true-loop-arg-preserved
all_true-loop-arg-preserved g t c =
    let p = g.K.Entries.known c.args.entries.now in
    let is : truth_of (json c.in_ok-value.value) ≡ Some true =
    sym c.in-Some-true.ensures ∙ ap Some c.in-Some-true.field-0-test in
    let rest =
    all_true (outs (here c.args.around.now) (drop (c.loop-arg.arg-index + 1) c.args.args.now)) in
    turn all_true p (here c.args.around.now) c.args.args.now c.loop-arg.arg-index c.arg-item.result
    c.loop-arg-test.true c.arg-item.is c.loop-arg.invariant ∙ goes p _ _ _ c.in_ok-value.ensures
    ∙ ap (λ b. told p (unless_false b rest)) is

pub all_true-returns : goal.all_true-returns
all_true-returns g t c =
    let p = g.K.Entries.known c.args.entries.now in
    c.loop-arg.invariant ∙ ap (λ l. told p (all_true (outs (here c.args.around.now) l)))
    (drop_all c.loop-arg.arg-index c.args.args.now c.loop-arg-test.false)
    ∙ told-done p (Some (bool true))

pub one_true-returns-in_err-value : goal.one_true-returns-in_err-value
one_true-returns-in_err-value g t c =
    let r = err_from_is_err_and c.from_residual.result c.from_residual.ensures.1 in
    let p = g.K.Entries.known c.args.entries.now in
    rw (r.1, r.2)
    (stops_at p _ _ _ _
    (turn one_true p (here c.args.around.now) c.args.args.now c.loop-arg.arg-index
    c.arg-item.result c.loop-arg-test.true c.arg-item.is c.loop-arg.invariant)
    c.in_err-value.ensures)

pub one_true-returns-in-Some-true : goal.one_true-returns-in-Some-true
one_true-returns-in-Some-true g t c =
    let p = g.K.Entries.known c.args.entries.now in
    let is : truth_of (json c.in_ok-value.value) ≡ Some true =
    sym c.in-Some-true.ensures ∙ ap Some c.in-Some-true.field-0-test in
    let rest =
    one_true (outs (here c.args.around.now) (drop (c.loop-arg.arg-index + 1) c.args.args.now)) in
    turn one_true p (here c.args.around.now) c.args.args.now c.loop-arg.arg-index c.arg-item.result
    c.loop-arg-test.true c.arg-item.is c.loop-arg.invariant ∙ goes p _ _ _ c.in_ok-value.ensures
    ∙ ap (λ b. told p (unless_true b rest)) is ∙ told-done p (Some (bool true))

pub one_true-returns-in-None : goal.one_true-returns-in-None
one_true-returns-in-None g t c =
    let p = g.K.Entries.known c.args.entries.now in
    let rest =
    one_true (outs (here c.args.around.now) (drop (c.loop-arg.arg-index + 1) c.args.args.now)) in
    turn one_true p (here c.args.around.now) c.args.args.now c.loop-arg.arg-index c.arg-item.result
    c.loop-arg-test.true c.arg-item.is c.loop-arg.invariant ∙ goes p _ _ _ c.in_ok-value.ensures
    ∙ ap (λ b. told p (unless_true b rest)) (sym c.in-None.ensures) ∙ told-done p None

pub one_true-loop-arg-preserved : goal.one_true-loop-arg-preserved
one_true-loop-arg-preserved g t c =
    let p = g.K.Entries.known c.args.entries.now in
    let is : truth_of (json c.in_ok-value.value) ≡ Some false =
    sym c.in-Some-false.ensures ∙ ap Some c.in-Some-false.field-0-test in
    let rest =
    one_true (outs (here c.args.around.now) (drop (c.loop-arg.arg-index + 1) c.args.args.now)) in
    turn one_true p (here c.args.around.now) c.args.args.now c.loop-arg.arg-index c.arg-item.result
    c.loop-arg-test.true c.arg-item.is c.loop-arg.invariant ∙ goes p _ _ _ c.in_ok-value.ensures
    ∙ ap (λ b. told p (unless_true b rest)) is

pub one_true-returns : goal.one_true-returns
one_true-returns g t c =
    let p = g.K.Entries.known c.args.entries.now in
    c.loop-arg.invariant ∙ ap (λ l. told p (one_true (outs (here c.args.around.now) l)))
    (drop_all c.loop-arg.arg-index c.args.args.now c.loop-arg-test.false)
    ∙ told-done p (Some (bool false))

pub first_there-returns-in_err-value : goal.first_there-returns-in_err-value
first_there-returns-in_err-value g t c =
    let r = err_from_is_err_and c.from_residual.result c.from_residual.ensures.1 in
    let p = g.K.Entries.known c.args.entries.now in
    rw (r.1, r.2)
    (stops_at p _ _ _ _
    (turn first_there p (here c.args.around.now) c.args.args.now c.loop-arg.arg-index
    c.arg-item.result c.loop-arg-test.true c.arg-item.is c.loop-arg.invariant)
    c.in_err-value.ensures)

pub first_there-returns-in-Some : goal.first_there-returns-in-Some
first_there-returns-in-Some g t c =
    let p = g.K.Entries.known c.args.entries.now in
    let found = there (is_null (json c.in_ok-value.value)) _ _ c.in-Some.ensures in
    let rest =
    first_there (outs (here c.args.around.now) (drop (c.loop-arg.arg-index + 1) c.args.args.now))
    in
    turn first_there p (here c.args.around.now) c.args.args.now c.loop-arg.arg-index
    c.arg-item.result c.loop-arg-test.true c.arg-item.is c.loop-arg.invariant
    ∙ goes p _ _ _ c.in_ok-value.ensures
    ∙ ap (λ b. told p (if b then rest else pure (json c.in_ok-value.value))) found.0
    ∙ told-done p (Some (json c.in_ok-value.value)) ∙ ap knowledge.value (sym found.1)

pub first_there-loop-arg-preserved : goal.first_there-loop-arg-preserved
first_there-loop-arg-preserved g t c =
    let p = g.K.Entries.known c.args.entries.now in
    let is : is_null (json c.in_ok-value.value) ≡ true =
    nowhere (is_null (json c.in_ok-value.value)) _ c.in-None.ensures in
    let rest =
    first_there (outs (here c.args.around.now) (drop (c.loop-arg.arg-index + 1) c.args.args.now))
    in
    turn first_there p (here c.args.around.now) c.args.args.now c.loop-arg.arg-index
    c.arg-item.result c.loop-arg-test.true c.arg-item.is c.loop-arg.invariant
    ∙ goes p _ _ _ c.in_ok-value.ensures
    ∙ ap (λ b. told p (if b then rest else pure (json c.in_ok-value.value))) is

pub first_there-returns : goal.first_there-returns
first_there-returns g t c =
    let p = g.K.Entries.known c.args.entries.now in
    c.loop-arg.invariant ∙ ap (λ l. told p (first_there (outs (here c.args.around.now) l)))
    (drop_all c.loop-arg.arg-index c.args.args.now c.loop-arg-test.false)
    ∙ told-done p (Some null)

pub and_value-returns-then-args-lt2 : goal.and_value-returns-then-args-lt2
and_value-returns-then-args-lt2 g t c =
    too_few 2 (g.K.Entries.known c.args.entries.now) (here c.args.around.now) c.args.args.now _ (omega arith)

pub or_value-returns-then-args-lt2 : goal.or_value-returns-then-args-lt2
or_value-returns-then-args-lt2 g t c =
    too_few 2 (g.K.Entries.known c.args.entries.now) (here c.args.around.now) c.args.args.now _ (omega arith)

pub coalesce_value-returns-then-args-lt1 : goal.coalesce_value-returns-then-args-lt1
coalesce_value-returns-then-args-lt1 g t c =
    too_few 1 (g.K.Entries.known c.args.entries.now) (here c.args.around.now) c.args.args.now _ (omega arith)

pub outcome-returns : goal.outcome-returns
outcome-returns g t c =
    rw c.outcome.ensures (outcome_gives json c.value_of.result _ c.value_of.ensures)

pub held_outcome-returns : goal.held_outcome-returns
held_outcome-returns g t c =
    rw c.outcome.ensures (outcome_gives held_of c.held.result _ c.held.ensures)

pub all_values-loop-arg-init : goal.all_values-loop-arg-init
all_values-loop-arg-init g t c = gathered-nil Json (g.K.Entries.known c.args.entries.now) (List Json) (λ xs. xs)
    ∙ ap (λ vs. knowledge.value (map json vs)) (sym c.new.ensures.items)

pub all_values-returns-in-Err : goal.all_values-returns-in-Err
all_values-returns-in-Err g t c =
    let p = g.K.Entries.known c.args.entries.now in
    rw c.stopped.ensures
    (all_stop p _ _ (turn_stops Json p (List Json) (λ xs. xs) Expr
    (λ e. value (here c.args.around.now) (tree_of e)) _ c.args.args.now c.loop-arg.arg-index
    c.arg-item.result (option_map all_json c.loop-arg.values) c.loop-arg-test.true c.arg-item.is
    c.loop-arg.invariant c.in-Err.ensures))

pub all_values-loop-arg-preserved : goal.all_values-loop-arg-preserved
all_values-loop-arg-preserved g t c =
    turned Json (g.K.Entries.known c.args.entries.now) (List Json) (λ xs. xs) Expr
    (λ e. value (here c.args.around.now) (tree_of e)) (λ xs v. xs ++ v ∷ []) (λ xs v. refl)
    c.args.args.now c.loop-arg.arg-index c.arg-item.result (option_map all_json c.loop-arg.values) _
    c.loop-arg-test.true c.arg-item.is c.loop-arg.invariant c.in-Ok.ensures
    ∙ ap finished (sym c.in_ok-values-in-Ok.ensures)

pub all_values-returns : goal.all_values-returns
all_values-returns g t c =
    let p = g.K.Entries.known c.args.entries.now in
    let P : knowledge.Told Look (List Json) → Type 0 = Gives all_json c.if_all.result in
    subst P
    (sym (all_given p _ _ (all_turned Json p (List Json) (λ xs. xs) Expr
    (λ e. value (here c.args.around.now) (tree_of e)) c.args.args.now c.loop-arg.arg-index
    (option_map all_json c.loop-arg.values) c.loop-arg-test.false c.loop-arg.invariant)))
    c.if_all.ensures

pub if_value-returns-in_default : goal.if_value-returns-in_default
if_value-returns-in_default g t c =
    elim c.in_default.branch [
      | if_value-in_default-via-then-args-lt3 w ↦ if_wrong (g.K.Entries.known c.args.entries.now)
          (here c.args.around.now) c.args.args.now (λ h. grind arith)
      | if_value-in_default-via-else-args-lt3+else-args-lt4 w ↦ if_wrong (g.K.Entries.known c.args.entries.now)
          (here c.args.around.now) c.args.args.now (λ h. grind arith)
    ]

pub if_value-returns-in_err-value : goal.if_value-returns-in_err-value
if_value-returns-in_err-value g t c =
    let r = err_from_is_err_and c.from_residual.result c.from_residual.ensures.1 in
    let p = g.K.Entries.known c.args.entries.now in
    let all = three _ _ _ _ (omega arith) c.condition-item.is c.yes-item.is c.no-item.is in
    rw (r.1, r.2)
    (stops_at p _ _ _ _ (ap (λ l. told p (if_row (outs (here c.args.around.now) l))) all)
    c.in_err-value.ensures)

pub if_value-returns-in-Some-true : goal.if_value-returns-in-Some-true
if_value-returns-in-Some-true g t c =
    let p = g.K.Entries.known c.args.entries.now in
    let h = here c.args.around.now in
    let args = if_args p h _ _ _ _ _ (omega arith) c.condition-item.is c.yes-item.is c.no-item.is
    c.in_ok-value.ensures in
    let is : truth_of (json c.in_ok-value.value) ≡ Some true =
    sym c.in-Some-true.ensures ∙ ap Some c.in-Some-true.field-0-test in
    let P : knowledge.Told Look Json → Type 0 = Gives json c.value_of-in-Some-true.result in
    subst P (sym
    (args ∙ ap
    (λ b. told p
    (chosen b (value h (tree_of c.yes-item.result)) (value h (tree_of c.no-item.result)))) is))
    c.value_of-in-Some-true.ensures

pub if_value-returns-in-Some-false : goal.if_value-returns-in-Some-false
if_value-returns-in-Some-false g t c =
    let p = g.K.Entries.known c.args.entries.now in
    let h = here c.args.around.now in
    let args = if_args p h _ _ _ _ _ (omega arith) c.condition-item.is c.yes-item.is c.no-item.is
    c.in_ok-value.ensures in
    let is : truth_of (json c.in_ok-value.value) ≡ Some false =
    sym c.in-Some-false.ensures ∙ ap Some c.in-Some-false.field-0-test in
    let P : knowledge.Told Look Json → Type 0 = Gives json c.value_of-in-Some-false.result in
    subst P (sym
    (args ∙ ap
    (λ b. told p
    (chosen b (value h (tree_of c.yes-item.result)) (value h (tree_of c.no-item.result)))) is))
    c.value_of-in-Some-false.ensures

pub if_value-returns-in-None : goal.if_value-returns-in-None
if_value-returns-in-None g t c =
    let p = g.K.Entries.known c.args.entries.now in
    let h = here c.args.around.now in
    let args = if_args p h _ _ _ _ _ (omega arith) c.condition-item.is c.yes-item.is c.no-item.is
    c.in_ok-value.ensures in
    args ∙ ap
    (λ b. told p
    (chosen b (value h (tree_of c.yes-item.result)) (value h (tree_of c.no-item.result))))
    (sym c.in-None.ensures) ∙ told-done p None

pub held-returns-in_err-base-in-Member : goal.held-returns-in_err-base-in-Member
held-returns-in_err-base-in-Member g t c =
    let r = err_from_is_err_and c.from_residual.result
    c.from_residual.ensures.1 in
    let h = here c.args.around.now in
    let whole = ap (λ e. held h (tree_of e)) c.in-Member.is
    ∙ held-Member h c.in-Member.base c.in-Member.name in
    rw (r.1, r.2, whole, sym c.deref-in-Member.ensures)
    (stops _ (g.K.Entries.known c.args.entries.now) (held h (tree_of c.deref-in-Member.result.now)) _
    c.in_err-base-in-Member.ensures)

pub held-returns-in_ok-base-in-Member : goal.held-returns-in_ok-base-in-Member
held-returns-in_ok-base-in-Member g t c =
    let h = here c.args.around.now in
    let whole = ap (λ e. held h (tree_of e)) c.in-Member.is
    ∙ held-Member h c.in-Member.base c.in-Member.name in
    rw (
      whole,
      sym c.deref-in-Member.ensures,
      goes (g.K.Entries.known c.args.entries.now)
          (held h (tree_of c.deref-in-Member.result.now)) _ _ c.in_ok-base-in-Member.ensures,
    )
    c.member.ensures

pub held-returns-in_err-base-in-Index : goal.held-returns-in_err-base-in-Index
held-returns-in_err-base-in-Index g t c =
    let r = err_from_is_err_and c.from_residual-in_err-base-in-Index.result
    c.from_residual-in_err-base-in-Index.ensures.1 in
    let h = here c.args.around.now in
    let whole = ap (λ e. held h (tree_of e)) c.in-Index.is
    ∙ held-Index h c.in-Index.base c.in-Index.index in
    rw (r.1, r.2, whole, sym c.deref-in-Index.ensures)
    (base_stops_index _ (g.K.Entries.known c.args.entries.now)
    (held h (tree_of c.deref-in-Index.result.now)) _ c.in_err-base-in-Index.ensures)

pub held-returns-in-Err : goal.held-returns-in-Err
held-returns-in-Err g t c =
    let h = here c.args.around.now in
    let whole = ap (λ e. held h (tree_of e)) c.in-Index.is
    ∙ held-Index h c.in-Index.base c.in-Index.index in
    rw (c.stopped.ensures, whole, sym c.deref-in-Index.ensures, sym c.deref-in-Index-2.ensures)
    (index_stops _ (g.K.Entries.known c.args.entries.now) (held h (tree_of c.deref-in-Index.result.now))
    (value h (tree_of c.deref-in-Index-2.result.now)) _ c.in_ok-base-in-Index.ensures
    c.in-Err.ensures)

pub held-returns-in-Ok : goal.held-returns-in-Ok
held-returns-in-Ok g t c =
    let h = here c.args.around.now in
    let whole = ap (λ e. held h (tree_of e)) c.in-Index.is
    ∙ held-Index h c.in-Index.base c.in-Index.index in
    rw (
      whole,
      sym c.deref-in-Index.ensures,
      sym c.deref-in-Index-2.ensures,
      index_told
          (g.K.Entries.known c.args.entries.now) (held h (tree_of c.deref-in-Index.result.now))
          (value h (tree_of c.deref-in-Index-2.result.now)) _ _ c.in_ok-base-in-Index.ensures
          c.in-Ok.ensures,
    ) c.indexed.ensures
