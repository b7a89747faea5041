-- The bytes of a reply (RFC 9112, section 4, with the headers that the service sends).
use Rattle.std.specs.Prelude.{ℕ, Bool, true, false, List, [], ◌++◌, ◌==◌, length, codes, decimal, if◌then◌else◌}
use Rattle.serde_json.specs.Written.{compact_text}
use Rattle.arm_value.specs.Json.{Json}
use Rattle.arm_value.specs.Reading.{data_of}

-- the phrase of each status that the service sends; empty for any other
abbrev pub phrase_of : ℕ → List ℕ
phrase_of status =
    if status == 200 then codes "OK" else (
    if status == 201 then codes "Created" else (
    if status == 400 then codes "Bad Request" else (
    if status == 404 then codes "Not Found" else (
    if status == 405 then codes "Method Not Allowed" else (
    if status == 409 then codes "Conflict" else (
    if status == 411 then codes "Length Required" else (
    if status == 413 then codes "Payload Too Large" else (
    if status == 431 then codes "Request Header Fields Too Large" else (
    if status == 500 then codes "Internal Server Error" else (
    if status == 502 then codes "Bad Gateway" else (
    if status == 503 then codes "Service Unavailable" else (
    if status == 507 then codes "Insufficient Storage" else []))))))))))))

-- the header that says that the connection is closed, where it is
abbrev pub connection_field : Bool → List ℕ
connection_field true = codes "connection: close\r\n"
connection_field false = []

-- the status line and the headers, for a body of so many bytes
abbrev pub head_of : ℕ → ℕ → Bool → List ℕ
head_of status body_length close =
    codes "HTTP/1.1 " ++ (decimal status ++ (codes " " ++ (phrase_of status
    ++ (codes "\r\ncontent-type: application/json\r\ncontent-length: " ++ (decimal body_length ++ (codes "\r\n"
    ++ (connection_field close ++ codes "\r\n")))))))

-- the head, and the body as compact JSON
abbrev pub reply_bytes : ℕ → Json → Bool → List ℕ
reply_bytes status body close =
    head_of status (length (compact_text (data_of body))) close ++ compact_text (data_of body)
