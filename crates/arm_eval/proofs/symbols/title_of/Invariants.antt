use Rattle.std.proofs.Common.{◌≡◌, drop, map}
use Rattle.arm_eval.specs.Titles.{title_of}
use Rattle.arm_eval.specs.Words.{listed_in}
use Rattle.arm_eval.proofs.symbols.title_of.Given as goal

abbrev pub invariant-loop-listed : goal.invariant-loop-listed
invariant-loop-listed l = title_of (map listed_in (drop l.listed-index l.symbols)) l.text
    ≡ title_of (map listed_in l.symbols) l.text
