use Rattle.std.proofs.Common.{◌≡◌, drop, map}
use Rattle.http_routes.specs.Segments.{all_segments}
use Rattle.http_routes.specs.Seen.{seen, sent_texts}
use Rattle.http_routes.proofs.SegmentLemmas.{after_these}
use Rattle.http_routes.proofs.segment.all_segments.Given as goal

abbrev pub invariant-loop-text : goal.invariant-loop-text
invariant-loop-text l =
    after_these (map seen l.segments.items) (all_segments (sent_texts (drop l.text-index l.sent)))
    ≡ all_segments (sent_texts l.sent)
