-- The segments of a path, as they were sent and decoded (RFC 3986, sections 2.1 and 3.3).
use Rattle.std.specs.Prelude.{ℕ, ◌==◌, Bool, ◌&&◌, not, List, [], ◌∷◌, length, drop, chars, Option, Some, None}
use Rattle.std.specs.Prelude.{if◌then◌else◌}
use Rattle.std.specs.Str.{is_utf8}
use Rattle.std.specs.List.{slice_split, list_any}
use Rattle.percent_encoding.specs.Percent.{percent_decode}
use Rattle.arm_value.specs.Look.{is_same_folded}

-- whether the byte is a slash
abbrev pub is_slash : ℕ → Bool
is_slash byte = byte == 47

-- a segment: its bytes as they were sent, and the characters that they decode to
pub record Part : Type 0 where
  pub sent : List ℕ
  pub name : List ℕ

-- whether there is a byte, and no slash
abbrev pub is_name : List ℕ → Bool
is_name bytes = not (length bytes == 0) && not (list_any is_slash bytes)

-- the segment that was sent so and decodes to these bytes, where they are a name in UTF-8
abbrev pub decoded : List ℕ → List ℕ → Option Part
decoded sent bytes =
    if is_name bytes then (if is_utf8 bytes then Some (record { sent = sent; name = chars bytes }) else None) else None

-- the segment that was sent so
abbrev pub segment_of : List ℕ → Option Part
segment_of sent = decoded sent (percent_decode sent)

-- a segment before others
abbrev pub before : Option Part → Option (List Part) → Option (List Part)
before (Some part) (Some parts) = Some (part ∷ parts)
before (Some part) None = None
before None parts = None

-- all the segments that were sent so, where each is one
abbrev pub all_segments : List (List ℕ) → Option (List Part)
all_segments [] = Some []
all_segments (sent ∷ rest) = before (segment_of sent) (all_segments rest)

-- the segments after the first slash of the path
abbrev pub segments_of : List ℕ → Option (List Part)
segments_of path = all_segments (drop 1 (slice_split is_slash path))

-- whether the segment was sent as this word, which is in small letters, in letters of any case
abbrev pub is_word : List ℕ → Part → Bool
is_word word part = is_same_folded word part.sent
