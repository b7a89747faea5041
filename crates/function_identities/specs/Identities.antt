-- The functions that make names of texts (Microsoft Learn: ARM template functions, string).
use Rattle.std.specs.Prelude.{ℕ, List, [], ◌∷◌, ◌++◌, take, Option, Some, None, option_map, option_and_then}
use Rattle.std.specs.Prelude.{encode_utf8_all}
use Rattle.sha1.specs.Sha1.{sha1}
use Rattle.sha2.specs.Sha256.{sha256}
use Rattle.uuid.specs.Uuid.{namespace_dns}
use Rattle.uuid.specs.Parts.{with_variant, with_version}
use Rattle.uuid.specs.Text.{hyphenated_text, lower}
use Rattle.uuid.specs.declared.Variant.TheVariants.{RFC4122}
use Rattle.uuid.specs.declared.Version.TheVariants.{Sha1}
use Rattle.arm_value.specs.Json.{Json, text}
use Rattle.function_numbers.specs.Kinds.{text_of}
use Rattle.function_identities.specs.Base32.{base32}

-- the bytes of texts in UTF-8, a zero byte before each; none where one is no text
unfoldable pub after_zeros : List Json → Option (List ℕ)
after_zeros [] = Some []
after_zeros (j ∷ js) =
    option_and_then (λ s. option_map (λ rest. 0 ∷ encode_utf8_all s ++ rest) (after_zeros js))
    (text_of j)

-- the bytes of texts in UTF-8, a zero byte between each two; none of no texts
abbrev pub seed_of : List Json → Option (List ℕ)
seed_of [] = None
seed_of (j ∷ js) =
    option_and_then (λ s. option_map (λ rest. encode_utf8_all s ++ rest) (after_zeros js))
    (text_of j)

-- `uniqueString`: the first 8 bytes of the SHA-256 of the texts, in base32
abbrev pub unique_string : List Json → Option Json
unique_string args =
    option_map (λ seed. text (base32 (take 8 (sha256 seed)))) (seed_of args)

-- the UUID of version 5 of a name in a name space (RFC 9562, section 5.5)
unfoldable pub version_5 : List ℕ → List ℕ → List ℕ
version_5 space name = with_version (with_variant (take 16 (sha1 (space ++ name))) RFC4122) Sha1

-- `guid`: the UUID of version 5 of the texts in the name space of domain names, with hyphens and in
-- small letters
abbrev pub guid : List Json → Option Json
guid args =
    option_map (λ seed. text (hyphenated_text lower (version_5 namespace_dns seed))) (seed_of args)
