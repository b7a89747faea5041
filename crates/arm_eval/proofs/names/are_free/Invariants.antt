use Rattle.std.proofs.Common.{◌≡◌, ◌++◌, take, drop, map}
use Rattle.arm_value.specs.View.{member}
use Rattle.arm_eval.specs.Trees.{names_of}
use Rattle.arm_eval.specs.Free.{AreNames, are_free}
use Rattle.arm_eval.proofs.names.are_free.Given as goal

-- the names are the object's and those so far, and what is left decides
abbrev pub invariant-loop-field : goal.invariant-loop-field
invariant-loop-field l = record {
  names : AreNames l.names (names_of (map member l.fields) ++ names_of (map member (take l.field-index l.given)));
  free : are_free (names_of (map member l.fields) ++ names_of (map member (take l.field-index l.given)))
      (names_of (map member (drop l.field-index l.given))) ≡ are_free (names_of (map member l.fields))
      (names_of (map member l.given));
}
