-- The segments that the code's are.
use Rattle.std.specs.Prelude.{ℕ, List, map, Option, option_map}
use Rattle.std.specs.Borrow.{Bor}
use Rattle.std.specs.declared.vec.Vec.{Vec}
use Rattle.std.specs.declared.alloc.Global.{Global}
use Rattle.http_routes.specs.Segments.{Part}
use Rattle.http_routes.specs.declared.segment.Segment.{Segment}

-- the segment
abbrev pub seen : Segment → Part
seen segment = record { sent = segment.sent.now; name = segment.name }

-- the segments, where there are any
abbrev pub option_seen : Option (Vec Segment Global) → Option (List Part)
option_seen segments = option_map (λ v. map seen v.items) segments

-- the texts
abbrev pub sent_texts : List (Bor (List ℕ)) → List (List ℕ)
sent_texts texts = map (λ text. text.now) texts
