-- Where the start line of a request has come to, up to its target (RFC 9112, section 3).
use Rattle.std.specs.Prelude.{ℕ, Bool, true, false, List, [], ◌∷◌, ◌==◌, if◌then◌else◌}
use Rattle.httparse.specs.Grammar.{is_token_byte, is_uri_byte}
use Rattle.http_heads.specs.declared.spot.Spot.{Spot}
use Rattle.http_heads.specs.declared.spot.Spot.TheVariants.{LineStart, EmptyLine, Method, Target, Past}

-- at the start of a line: LF or CR of an empty line, or the first byte of the method
abbrev pub begin : ℕ → Spot
begin byte =
    if byte == 10 then LineStart else
    (if byte == 13 then EmptyLine else (if is_token_byte byte then Method else Past))

-- in the method: the space after it, or one byte more
abbrev pub go_on : ℕ → Spot
go_on byte = if byte == 32 then Target else (if is_token_byte byte then Method else Past)

-- with one byte more
abbrev pub step : Spot → ℕ → Spot
step LineStart byte = begin byte
step EmptyLine byte = if byte == 10 then LineStart else Past
step Method byte = go_on byte
step Target byte = if is_uri_byte byte then Target else Past
step Past byte = Past

-- with these bytes more
abbrev pub run : Spot → List ℕ → Spot
run spot [] = spot
run spot (byte ∷ bytes) = run (step spot byte) bytes

-- whether it is past the target
abbrev pub is_past : Spot → Bool
is_past LineStart = false
is_past EmptyLine = false
is_past Method = false
is_past Target = false
is_past Past = true

-- whether the bytes go past the target of a start line, or begin none
unfoldable pub is_past_target : List ℕ → Bool
is_past_target bytes = is_past (run LineStart bytes)
