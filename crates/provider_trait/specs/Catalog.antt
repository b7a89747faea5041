-- What the catalogue answers.
use Rattle.std.specs.Prelude.{◌≡◌, ℕ, ◌&&◌, ◌||◌, not, nat_le, Bool, true, false, List, length, bytes_eq, Option}
use Rattle.std.specs.Prelude.{Some, None, option_and_then, codes, if◌then◌else◌}
use Rattle.std.specs.List.{list_all}
use Rattle.arm_value.specs.Json.{Json, text, object}
use Rattle.arm_value.specs.Look.{fold, look}
use Rattle.provider_trait.specs.Plain.{is_storage, full_type, full_name, plain_state}
use Rattle.provider_trait.specs.declared.act.Act.{Act}
use Rattle.provider_trait.specs.declared.act.Act.TheVariants.{Put, Delete}
use Rattle.provider_trait.specs.declared.answer.Answer.{Answer}
use Rattle.provider_trait.specs.declared.answer.Answer.TheVariants.{Stored, Gone, Refused}

-- whether there is a text
abbrev pub is_text : Option Json → Bool
is_text (Some (text s)) = true
is_text _ = false

-- whether there is an object, or nothing
abbrev pub is_object_or_none : Option Json → Bool
is_object_or_none None = true
is_object_or_none (Some (object ms)) = true
is_object_or_none (Some _) = false

-- whether resources of this type have a location
abbrev pub needs_location : List ℕ → Bool
needs_location kind =
    is_storage kind
    || (bytes_eq (fold kind) (codes "microsoft.network/virtualnetworks")
    || (bytes_eq (fold kind) (codes "microsoft.web/serverfarms") || bytes_eq (fold kind)
    (codes "microsoft.web/sites")))

-- the name of the body's sku
abbrev pub sku_name : Json → Option Json
sku_name body = option_and_then (look (codes "name")) (look (codes "sku") body)

-- a small letter or a digit
abbrev pub is_account_character : ℕ → Bool
is_account_character c = (nat_le 97 c && nat_le c 122) || (nat_le 48 c && nat_le c 57)

-- 3 to 24 small letters and digits
abbrev pub is_account_name : List ℕ → Bool
is_account_name name =
    nat_le 3 (length name) && (nat_le (length name) 24 && list_all is_account_character name)

-- whether the body's properties are there and no object
abbrev pub has_wrong_properties : Json → Bool
has_wrong_properties body = not (is_object_or_none (look (codes "properties") body))

-- whether resources of the type have a location, and the body has none that is a text
abbrev pub lacks_location : List ℕ → Json → Bool
lacks_location kind body = needs_location kind && not (is_text (look (codes "location") body))

-- whether it is a storage account whose sku has no name that is a text
abbrev pub lacks_sku : List ℕ → Json → Bool
lacks_sku kind body = is_storage kind && not (is_text (sku_name body))

-- whether it is a storage account, and no storage account may have this name
abbrev pub has_wrong_name : List ℕ → List ℕ → Bool
has_wrong_name kind name = is_storage kind && not (is_account_name name)

-- the code by which a put of this type, name and body is refused, the first that holds
unfoldable pub refusal : List ℕ → List ℕ → Json → Option (List ℕ)
refusal kind name body =
    if has_wrong_properties body then Some (codes "InvalidProperties") else
    (if lacks_location kind body then Some (codes "LocationRequired") else
    (if lacks_sku kind body then Some (codes "SkuRequired") else
    (if has_wrong_name kind name then Some (codes "AccountNameInvalid") else None)))

-- refused with the code where there is one, else stored in this state
abbrev pub refused_or_stored : Option (List ℕ) → Json → Answer
refused_or_stored (Some code) state = Refused code
refused_or_stored None state = Stored state

-- the answer to a job
abbrev pub catalog_answer : Act → List ℕ → List ℕ → Json → Answer
catalog_answer Put id api body =
    refused_or_stored (refusal (full_type id) (full_name id) body) (plain_state id api body)
catalog_answer Delete id api body = Gone

-- the catalogue gives this answer and no other
abbrev pub CatalogMay : Act → List ℕ → List ℕ → Json → Answer → Type 0
CatalogMay act id api body answer = answer ≡ catalog_answer act id api body
