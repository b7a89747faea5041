use Rattle.std.proofs.Common.{ℕ, List, map, sym, refl}
use Rattle.bicep_program.specs.Circles.{IsCircle, Links}
use Rattle.bicep_program.specs.Program.{links_of, program_file}
use Rattle.bicep_program.proofs.FileLemmas.{circle_in, circle_as, none_of, some_of}
use Rattle.bicep_program.proofs.program.program_of.Goals as goal

pub circle_of-requires-clause-within : goal.circle_of-requires-clause-within
circle_of-requires-clause-within c =
    circle_in c.args.files.items c.as_slice-in-Ok-Some.result.now c.in-Ok-Some.circle.items
    c.as_slice-in-Ok-Some-2.result.now c.as_slice-in-Ok-Some.ensures.value c.as_slice-in-Ok-Some-2.ensures.value
    c.requires.within
    (circle_as c.as_slice.result.now c.args.files.items c.in-Ok-Some.circle.items c.in-Ok-Some.circle.items
    (sym c.as_slice.ensures.value) refl
    (some_of (λ v. IsCircle (Links (links_of (map program_file c.as_slice.result.now))) v.items) c.in-Ok-Some.field-0
    c.in-Ok-Some.circle c.in-Ok-Some.field-0-is c.in-Ok-Some.ensures.circle))

pub returns-in-Ok-None-clause-circle_free : goal.returns-in-Ok-None-clause-circle_free
returns-in-Ok-None-clause-circle_free c = λ circle h.
    none_of ((xs : List ℕ) → IsCircle (Links (links_of (map program_file c.as_slice.result.now))) xs → ⊥)
    c.in-Ok-None.field-0 c.in-Ok-None.field-0-is c.in-Ok-None.ensures.none circle
    (circle_as c.args.files.items c.as_slice.result.now circle circle c.as_slice.ensures.value refl h)
