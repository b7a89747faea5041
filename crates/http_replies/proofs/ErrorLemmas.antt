-- The members of the body of an error, put one by one.
use Rattle.std.proofs.Common.{◌≡◌, ◌≤◌, ℕ, List, [], ◌∷◌, codes, chars, refl, ap, ap₂, ◌∙◌, arith}
use Rattle.std.specs.Cmp.Lexicographic.{slice_cmp}
use Rattle.std.specs.Ordering.{nat_cmp, match_ordering}
use Rattle.std.specs.declared.cmp.Ordering.TheVariants.{Greater}
use Rattle.std.proofs.lemmas.Str.{encodes-IsAscii}
use Rattle.foundation.proofs.AsciiWords.{ascii_word, word}
use Rattle.arm_value.specs.Json.{Member, key_cmp, text, object, pairs, put, nesting}
use Rattle.http_replies.specs.Codes.{name_of}
use Rattle.http_replies.specs.Replies.{error_json}
use Rattle.http_replies.specs.declared.code.Code.{Code}
use Rattle.http_replies.specs.declared.code.Code.TheVariants.{BadRequest, HeadTooLarge, LengthRequired, BodyTooLarge}
use Rattle.http_replies.specs.declared.code.Code.TheVariants.{NotFound, MethodNotAllowed, MissingApiVersion}
use Rattle.http_replies.specs.declared.code.Code.TheVariants.{InvalidTemplate, InvalidParameter, ResourceGroupNotFound}
use Rattle.http_replies.specs.declared.code.Code.TheVariants.{ResourceNotFound, LockNotFound, NothingToResume}
use Rattle.http_replies.specs.declared.code.Code.TheVariants.{DeploymentActive, NameInUse, ScopeLocked, ChildrenHeld}

-- the code and the message
abbrev pub told : List ℕ → List ℕ → List Member
told code message = (codes "code", text code) ∷ (codes "message", text message) ∷ []

code_first : key_cmp (codes "message") (codes "code") ≡ Greater
code_first = ap₂ (slice_cmp nat_cmp) (encodes-IsAscii (codes "message") (ascii_word (codes "message") refl))
    (encodes-IsAscii (codes "code") (ascii_word (codes "code") refl))

in_order : (code message : List ℕ)
    → put (codes "message") (text message) ((codes "code", text code) ∷ []) ≡ told code message
in_order code message =
    ap (λ o. match_ordering o ((codes "message", text message) ∷ (codes "code", text code) ∷ [])
    ((codes "message", text message) ∷ []) (told code message)) code_first

pub told_are : (code message : List ℕ) (new coded both : List Member) → new ≡ []
    → coded ≡ put (chars (codes "code")) (text code) new → both ≡ put (chars (codes "message")) (text message) coded
    → both ≡ told code message
told_are code message new coded both n c b =
    b ∙ (λ i. put (word (codes "message") refl i) (text message) (coded_are i)) ∙ in_order code message
  where
    coded_are : coded ≡ (codes "code", text code) ∷ []
    coded_are = c ∙ (λ i. put (word (codes "code") refl i) (text code) (n i))

-- they nest once
pub told_nest : (code message : List ℕ) (both : List Member) → both ≡ told code message
    → nesting (object (pairs both)) ≤ 119
told_nest code message both e = omega (arith, ap (λ ms. nesting (object (pairs ms))) e)

pub error_is : (code message : List ℕ) (new both members : List Member) → new ≡ [] → both ≡ told code message
    → members ≡ put (chars (codes "error")) (object (pairs both)) new
    → object (pairs members) ≡ error_json code message
error_is code message new both members n b m =
    ap (λ ms. object (pairs ms)) (m ∙ (λ i. put (word (codes "error") refl i) (object (pairs (b i))) (n i)))

-- the name of a code is a text of ASCII characters
pub name_characters : (code : Code) → chars (name_of code) ≡ name_of code
name_characters BadRequest = word (codes "BadRequest") refl
name_characters HeadTooLarge = word (codes "HeadTooLarge") refl
name_characters LengthRequired = word (codes "LengthRequired") refl
name_characters BodyTooLarge = word (codes "BodyTooLarge") refl
name_characters NotFound = word (codes "NotFound") refl
name_characters MethodNotAllowed = word (codes "MethodNotAllowed") refl
name_characters MissingApiVersion = word (codes "MissingApiVersion") refl
name_characters (InvalidTemplate message) = word (codes "InvalidTemplate") refl
name_characters (InvalidParameter message) = word (codes "InvalidParameter") refl
name_characters (ResourceGroupNotFound message) = word (codes "ResourceGroupNotFound") refl
name_characters (ResourceNotFound message) = word (codes "ResourceNotFound") refl
name_characters (LockNotFound message) = word (codes "LockNotFound") refl
name_characters (NothingToResume message) = word (codes "NothingToResume") refl
name_characters (DeploymentActive message) = word (codes "DeploymentActive") refl
name_characters (NameInUse message) = word (codes "NameInUse") refl
name_characters (ScopeLocked message) = word (codes "ScopeLocked") refl
name_characters (ChildrenHeld message) = word (codes "ChildrenHeld") refl
