use Rattle.std.proofs.Common.{◌++◌, ℕ, List, map, chars, ap, ◌∙◌}
use Rattle.std.proofs.lemmas.Str.{chars-nil}
use Rattle.http_routes.specs.Routes.{id_of}
use Rattle.http_routes.specs.Seen.{seen}
use Rattle.http_routes.proofs.id.id_of.Goals as goal

pub loop-segment-init : goal.loop-segment-init
loop-segment-init c =
    ap (λ (s : List ℕ). chars s ++ id_of (map seen c.args.segments.now)) c.new-id.ensures.bytes
    ∙ ap (λ (s : List ℕ). s ++ id_of (map seen c.args.segments.now)) chars-nil
