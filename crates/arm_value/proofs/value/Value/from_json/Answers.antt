use Rattle.std.proofs.Common.{◌≡◌, sym, ◌∙◌, Some, None, true≢false}
use Rattle.serde_json.specs.View.{view}
use Rattle.serde_json.specs.Data.{depth}
use Rattle.arm_value.specs.View.{json}
use Rattle.arm_value.specs.Reading.{not_whole}
use Rattle.arm_value.proofs.ReadLemmas.{reading_some, reading_none, some_and, gives}
use Rattle.arm_value.proofs.value.Value.from_json.Goals as goal
use Rattle.arm_value.proofs.value.Value.from_json.Goals.{then-is_memory, else-is_memory}
use Rattle.foundation.proofs.Comparisons.{le_of_true, lt_of_false}

pub returns-in-Err-clause-fault : goal.returns-in-Err-clause-fault
returns-in-Err-clause-fault c =
    elim c.if-is_memory.branch [
      | then-is_memory w ↦ rw w.result-is tt
      | else-is_memory w ↦
          rw w.result-is
          (reading_none c.args.bytes.now (c.in-Err.ensures.err (λ m. true≢false (sym (w.if-is_memory.ensures.1 m)))))
    ]

pub returns-then-not-is_within-clause-fault : goal.returns-then-not-is_within-clause-fault
returns-then-not-is_within-clause-fault c =
    let ok = c.in-Ok.ensures.ok in
    some_and _ (view c.in-Ok.data) _ (reading_some c.args.bytes.now (view c.in-Ok.data) ok.0 ok.1)
    (lt_of_false (depth (view c.in-Ok.data)) 120 (sym c.if-not-is_within.ensures))

pub returns-in-Some-clause-fault : goal.returns-in-Some-clause-fault
returns-in-Some-clause-fault c =
    let ok = c.in-Ok.ensures.ok in
    let d = view c.in-Ok.data in
    let found : not_whole d ≡ Some c.in-Some.path = sym c.in_ok-path.ensures ∙ c.in-Some.is in
    some_and _ d _ (reading_some c.args.bytes.now d ok.0 ok.1) (
      le_of_true (depth d) 120 (sym c.if-not-is_within.ensures),
      found,
    )

pub returns-in_ok-convert-in-None-clause-ok : goal.returns-in_ok-convert-in-None-clause-ok
returns-in_ok-convert-in-None-clause-ok c =
    let ok = c.in-Ok.ensures.ok in
    let d = view c.in-Ok.data in
    let whole : not_whole d ≡ None = sym c.in_ok-path.ensures ∙ c.in-None.is in
    gives _ d (json c.in_ok-convert-in-None.field-0) (reading_some c.args.bytes.now d ok.0 ok.1)
    c.in_ok-convert-in-None.ensures (le_of_true (depth d) 120 (sym c.if-not-is_within.ensures)) whole
