use Rattle.std.proofs.lemmas.Str.{IsUtf8-string_bytes}
use Rattle.arm_ids.proofs.IdLemmas.{pushed}
use Rattle.declared_types.proofs.resources.push_segment.Goals as goal

pub returns : goal.returns
returns c =
    pushed _ _ _ c.args.segment.now (IsUtf8-string_bytes c.args.text.now) (IsUtf8-string_bytes c.push.new.self)
    c.in_ok-push.ensures.bytes c.in_ok-push_str.ensures.bytes
