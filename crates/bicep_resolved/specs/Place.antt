-- Where the nodes of an expression begin: offsets in the source, in bytes.
use Rattle.std.specs.Prelude.{ℕ}
use Rattle.bicep_resolved.specs.Source.{SourceTree, ReachTree, ValueTree, LoopTree}
use Rattle.bicep_resolved.specs.Source as s

-- a symbol
abbrev pub reach_offset : ReachTree → ℕ
reach_offset (s.symbol at t) = at
reach_offset (s.element at t e) = at

-- an expression
abbrev pub offset : SourceTree → ℕ
offset (s.name at x) = at
offset (s.literal at v) = at
offset (s.interpolated at first ps) = at
offset (s.object at ps) = at
offset (s.array at es) = at
offset (s.call at r es) = at
offset (s.instance r) = reach_offset r
offset (s.field r at f) = reach_offset r
offset (s.output r at k) = reach_offset r
offset (s.member e k n) = offset e
offset (s.index e k i) = offset e
offset (s.prefixed at p e) = at
offset (s.binary o a b) = offset a
offset (s.conditional c a b) = offset c

-- the `[` of a for-expression
abbrev pub loop_offset : LoopTree → ℕ
loop_offset (s.loop at over) = at

abbrev pub value_offset : ValueTree → ℕ
value_offset (s.plain e) = offset e
value_offset (s.each l e) = loop_offset l
