-- What bytes begin with: the head of a request, or none.
use Rattle.std.specs.Prelude.{◌≡◌, ℕ, ◌≤◌, true, List, length, drop}
use Rattle.httparse.specs.Grammar.{RequestHead, print_request, ReadsRequest, HasNoRequest, NeverHasRequest}
use Rattle.httparse.specs.Spans.{span_bytes, IsWithin}
use Rattle.http_heads.specs.Fields.{body_length, is_coded, closes, fields_of}
use Rattle.http_heads.specs.Spots.{is_past_target}
use Rattle.http_heads.specs.declared.front.Head.{Head}
use Rattle.http_heads.specs.declared.front.Front.{Front}
use Rattle.http_heads.specs.declared.front.Front.TheVariants as front

-- the bytes begin with the head h, which these places and answers describe
pub record IsHead (bytes : List ℕ) (head : Head) (h : RequestHead) : Type 0 where
  pub reads : ReadsRequest bytes h (drop head.length bytes)
  pub length_is : head.length ≡ length (print_request h)
  pub length_fits : head.length ≤ length bytes
  pub method_fits : IsWithin (length bytes) head.method
  pub method_is : span_bytes bytes head.method ≡ h.method
  pub target_fits : IsWithin (length bytes) head.target
  pub target_is : span_bytes bytes head.target ≡ h.target
  pub fields_are : head.fields ≡ length h.fields
  pub body_is : head.body ≡ body_length (fields_of h)
  pub coded_is : head.coded ≡ is_coded (fields_of h)
  pub close_is : head.close ≡ closes h.minor (fields_of h)

-- no bytes can follow that make these begin with a head, and they go past the target of a start line, which is tested
-- once it is whole
pub record IsHopeless (bytes : List ℕ) : Type 0 where
  pub never : NeverHasRequest bytes
  pub past : is_past_target bytes ≡ true

-- the bytes do not begin with a head, and are not hopeless
pub record IsUnfinished (bytes : List ℕ) : Type 0 where
  pub none : HasNoRequest bytes
  pub hopeful : ¬ (IsHopeless bytes)

-- what bytes begin with
abbrev pub IsFront : List ℕ → Front → Type 0
IsFront bytes (front.Head head) = (h : RequestHead) × IsHead bytes head h
IsFront bytes front.Hopeless = IsHopeless bytes
IsFront bytes front.Unfinished = IsUnfinished bytes
