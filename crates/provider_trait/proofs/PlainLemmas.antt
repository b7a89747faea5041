-- The plain state, as it is made.
use Rattle.std.proofs.Common.{◌≡◌, ◌≤◌, ℕ, Bool, true, false, ◌&&◌, ◌||◌, List, [], ◌++◌, chars, codes, IsUtf8}
use Rattle.std.proofs.Common.{Some, None, option_and_then, Result, Ok, Err, IfOk, refl, sym, ap, ap₂, ◌∙◌, arith}
use Rattle.std.proofs.Common.{true≢false, bytes_eq, subst}
use Rattle.std.proofs.lemmas.Str.{chars-append, chars-nil, IsUtf8-from_ascii}
use Rattle.arm_value.specs.Json.{Json, text, object, pairs, Member, put, nesting, members_nesting}
use Rattle.arm_value.specs.Look.{look, fold, is_same_folded}
use Rattle.provider_trait.specs.Catalog.{refusal, has_wrong_properties, lacks_location, lacks_sku, has_wrong_name}
use Rattle.provider_trait.specs.Catalog.{refused_or_stored, catalog_answer}
use Rattle.arm_ids.specs.Id.{reading, IsNoId}
use Rattle.arm_ids.specs.declared.fault.IdFault.{IdFault}
use Rattle.arm_ids.specs.declared.fault.IdFault.TheVariants.{NotAnId}
use Rattle.provider_trait.specs.Act.{FitsAct}
use Rattle.provider_trait.specs.Script.{done}
use Rattle.provider_trait.specs.declared.act.Act.{Act}
use Rattle.provider_trait.specs.Answer.{Suits}
use Rattle.provider_trait.specs.declared.act.Act.TheVariants.{Put}
use Rattle.provider_trait.specs.declared.answer.Answer.{Answer}
use Rattle.provider_trait.specs.declared.answer.Answer.TheVariants.{Stored, Refused}
use Rattle.provider_trait.specs.Plain.{members_of, members_found, object_of, is_storage, full_type, full_name}
use Rattle.provider_trait.specs.Plain.{types_joined, names_joined, endpoints, endpoint, with_endpoints}
use Rattle.provider_trait.specs.Plain.{stored_properties, state_named, plain_state}
use Rattle.foundation.proofs.AsciiWords.{word, ascii_word}
use Rattle.provider_trait.proofs.NestLemmas.{put_body, members_nest, found_nests}
use Rattle.arm_value.proofs.TreeLemmas.{put_nests, members-pairs}
use Rattle.foundation.proofs.Choices.{cond_false, cond_true}

pub copied_members : {E : Type 0} (r : Result (List Member) E) (ms : List Member) (j : Json) → j ≡ object (pairs ms)
    → IfOk r (λ v. v ≡ ms) → IfOk r (λ v. v ≡ members_of j)
copied_members (Ok v) ms j e h = h ∙ sym (members-pairs ms) ∙ ap members_of (sym e)
copied_members (Err f) ms j e h = tt

-- the characters of an address
pub address : (name service : List ℕ) → IsUtf8 name → IsUtf8 service
    → chars (codes "https://" ++ (name ++ (codes "." ++ (service ++ codes ".core.windows.net/"))))
    ≡ endpoint (chars name) (chars service)
unfolding endpoint
address name service u v =
    let end = codes ".core.windows.net/" in
    chars-append (codes "https://") (name ++ (codes "." ++ (service ++ end)))
    (IsUtf8-from_ascii _ (ascii_word (codes "https://") refl))
    ∙ ap₂ (λ a b. a ++ b) (word (codes "https://") refl) (chars-append name (codes "." ++ (service ++ end)) u
    ∙ ap (λ r. chars name ++ r)
    (chars-append (codes ".") (service ++ end) (IsUtf8-from_ascii _ (ascii_word (codes ".") refl))
    ∙ ap₂ (λ a b. a ++ b) (word (codes ".") refl) (chars-append service end v
    ∙ ap (λ r. chars service ++ r) (word end refl))))

-- the member of a member
pub look_twice : (body : Json) (first second : List ℕ) (sku : Json) → Some sku ≡ look first body
    → option_and_then (look second) (look first body) ≡ look second sku
look_twice body first second sku e = ap (option_and_then (look second)) (sym e)

pub look_none : (body : Json) (first second : List ℕ) → None ≡ look first body
    → option_and_then (look second) (look first body) ≡ None
look_none body first second e = ap (option_and_then (look second)) (sym e)

-- which of the four codes holds
pub first_code : (kind name : List ℕ) (body : Json) → has_wrong_properties body ≡ true
    → refusal kind name body ≡ Some (codes "InvalidProperties")
unfolding refusal
first_code kind name body a = cond_true (has_wrong_properties body) _ _ a

pub second_code : (kind name : List ℕ) (body : Json) → has_wrong_properties body ≡ false
    → lacks_location kind body ≡ true → refusal kind name body ≡ Some (codes "LocationRequired")
unfolding refusal
second_code kind name body a b = cond_false (has_wrong_properties body) _ _ a ∙ cond_true (lacks_location kind body) _ _ b

pub third_code : (kind name : List ℕ) (body : Json) → has_wrong_properties body ≡ false
    → lacks_location kind body ≡ false → lacks_sku kind body ≡ true
    → refusal kind name body ≡ Some (codes "SkuRequired")
unfolding refusal
third_code kind name body a b c =
    cond_false (has_wrong_properties body) _ _ a ∙ cond_false (lacks_location kind body) _ _ b
    ∙ cond_true (lacks_sku kind body) _ _ c

pub fourth_code : (kind name : List ℕ) (body : Json) → has_wrong_properties body ≡ false
    → lacks_location kind body ≡ false → lacks_sku kind body ≡ false → has_wrong_name kind name ≡ true
    → refusal kind name body ≡ Some (codes "AccountNameInvalid")
unfolding refusal
fourth_code kind name body a b c d =
    cond_false (has_wrong_properties body) _ _ a ∙ cond_false (lacks_location kind body) _ _ b
    ∙ cond_false (lacks_sku kind body) _ _ c
    ∙ cond_true (has_wrong_name kind name) _ _ d

pub no_code : (kind name : List ℕ) (body : Json) → has_wrong_properties body ≡ false
    → lacks_location kind body ≡ false → lacks_sku kind body ≡ false → has_wrong_name kind name ≡ false
    → refusal kind name body ≡ None
unfolding refusal
no_code kind name body a b c d =
    cond_false (has_wrong_properties body) _ _ a ∙ cond_false (lacks_location kind body) _ _ b
    ∙ cond_false (lacks_sku kind body) _ _ c
    ∙ cond_false (has_wrong_name kind name) _ _ d

and_then : (a x y : Bool) → a ≡ true → x ≡ y → x ≡ (a && y)
and_then true x y e f = f
and_then false x y e f = absurd (true≢false (sym e))

pub asks : (a x y : Bool) → a ≡ true → x ≡ y → x ≡ (a && y)
asks a x y e f = and_then a x y e f

-- what a type's test answers
pub kind_is : (kind wanted : List ℕ) → chars wanted ≡ wanted
    → is_same_folded kind (chars wanted) ≡ bytes_eq (fold kind) (fold wanted)
kind_is kind wanted e = ap (is_same_folded kind) e

-- the first of four tests that holds
pub first_or : (a b c d : Bool) → a ≡ true → true ≡ (a || (b || (c || d)))
first_or true b c d e = refl
first_or false b c d e = absurd (true≢false (sym e))

pub second_or : (a b c d : Bool) → a ≡ false → b ≡ true → true ≡ (a || (b || (c || d)))
second_or false true c d e f = refl
second_or false false c d e f = absurd (true≢false (sym f))
second_or true b c d e f = absurd (true≢false e)

pub third_or : (a b c d : Bool) → a ≡ false → b ≡ false → c ≡ true → true ≡ (a || (b || (c || d)))
third_or false false true d e f g = refl
third_or false false false d e f g = absurd (true≢false (sym g))
third_or false true c d e f g = absurd (true≢false f)
third_or true b c d e f g = absurd (true≢false e)

pub last_or : (a b c d r : Bool) → a ≡ false → b ≡ false → c ≡ false → r ≡ d → r ≡ (a || (b || (c || d)))
last_or false false false d r e f g h = h
last_or false false true d r e f g h = absurd (true≢false g)
last_or false true c d r e f g h = absurd (true≢false f)
last_or true b c d r e f g h = absurd (true≢false e)

-- ---- the state, put together

pub with_endpoint : (name s w : List ℕ) (m n out : List Member) → out ≡ put s (text (endpoint name s)) m → s ≡ w
    → m ≡ n → out ≡ put w (text (endpoint name w)) n
with_endpoint name s w m n out e f g = e ∙ (λ i. put (f i) (text (endpoint name (f i))) (g i))

-- a result that is equal to one of two equal parts is equal to the other
pub if_field : {A B E : Type 0} (f : A → B) (r : Result A E) (a b : B) → a ≡ b → IfOk r (λ v. f v ≡ a)
    → IfOk r (λ v. f v ≡ b)
if_field f (Ok v) a b e h = h ∙ e
if_field f (Err x) a b e h = tt

text_nests : (k s : List ℕ) (ms : List Member) → members_nesting ms ≤ 0 → members_nesting (put k (text s) ms) ≤ 0
text_nests k s ms h = put_nests 0 k (text s) ms (omega arith) h

endpoints_nest : (name : List ℕ) → members_nesting (endpoints name) ≤ 0
unfolding endpoints
endpoints_nest name =
    let at = λ (service : List ℕ). endpoint name service in
    text_nests (codes "table") (at (codes "table"))
    (put (codes "queue") (text (at (codes "queue")))
    (put (codes "file") (text (at (codes "file"))) (put (codes "blob") (text (at (codes "blob"))) [])))
    (text_nests (codes "queue") (at (codes "queue"))
    (put (codes "file") (text (at (codes "file"))) (put (codes "blob") (text (at (codes "blob"))) []))
    (text_nests (codes "file") (at (codes "file")) (put (codes "blob") (text (at (codes "blob"))) [])
    (text_nests (codes "blob") (at (codes "blob")) [] (omega arith))))

pub endpoints_few : (name : List ℕ) (ms : List Member) → ms ≡ endpoints name → members_nesting ms ≤ 118
endpoints_few name ms e = omega (arith, ap members_nesting e, endpoints_nest name)

pub properties_made : (kind name : List ℕ) (body : Json) (m₀ m₁ m₂ : List Member) (a s : List ℕ)
    → m₀ ≡ members_found (look (codes "properties") body) → m₁ ≡ put a (text s) m₀
    → m₂ ≡ with_endpoints (is_storage kind) name m₁ → a ≡ codes "provisioningState" → s ≡ codes "Succeeded"
    → m₂ ≡ stored_properties kind name body
unfolding stored_properties
properties_made kind name body m₀ m₁ m₂ a s e₀ e₁ e₂ f g =
    e₂ ∙ ap (with_endpoints (is_storage kind) name) (e₁ ∙ (λ i. put (f i) (text (g i)) (e₀ i)))

with_endpoints_nest : (b : Bool) (name : List ℕ) (ms : List Member) → members_nesting ms ≤ 99
    → members_nesting (with_endpoints b name ms) ≤ 99
with_endpoints_nest true name ms h =
    put_nests 99 (codes "primaryEndpoints") (object_of (endpoints name)) ms (omega (arith, endpoints_nest name)) h
with_endpoints_nest false name ms h = h

stored_nests : (kind name : List ℕ) (body : Json) → nesting body ≤ 100
    → members_nesting (stored_properties kind name body) ≤ 99
unfolding stored_properties
stored_nests kind name body h =
    let found = members_found (look (codes "properties") body) in
    let provisioned = put_nests 99 (codes "provisioningState") (text (codes "Succeeded")) found (omega arith)
    (found_nests (codes "properties") body h) in
    with_endpoints_nest (is_storage kind) name (put (codes "provisioningState") (text (codes "Succeeded")) found)
    provisioned

pub properties_few : (kind name : List ℕ) (body : Json) (ms : List Member) → nesting body ≤ 100
    → ms ≡ stored_properties kind name body → members_nesting ms ≤ 118
properties_few kind name body ms h e = omega (arith, ap members_nesting e, stored_nests kind name body h)

pub state_made : (kind name id api : List ℕ) (body : Json) (m₀ m₁ m₂ m₃ m₄ m₅ ps : List Member) (a b c d p : List ℕ)
    → m₀ ≡ members_of body → m₁ ≡ put a (text id) m₀ → m₂ ≡ put b (text api) m₁ → m₃ ≡ put c (text name) m₂
    → m₄ ≡ put d (text kind) m₃ → m₅ ≡ put p (object_of ps) m₄ → ps ≡ stored_properties kind name body
    → a ≡ codes "id" → b ≡ codes "apiVersion" → c ≡ codes "name" → d ≡ codes "type" → p ≡ codes "properties"
    → object_of m₅ ≡ state_named kind name id api body
unfolding state_named
state_made kind name id api body m₀ m₁ m₂ m₃ m₄ m₅ ps a b c d p e₀ e₁ e₂ e₃ e₄ e₅ e₆ f g h k l =
    let h₁ : m₁ ≡ put (codes "id") (text id) (members_of body) = e₁ ∙ (λ i. put (f i) (text id) (e₀ i)) in
    let h₂ : m₂ ≡ put (codes "apiVersion") (text api) (put (codes "id") (text id) (members_of body)) = e₂
    ∙ (λ i. put (g i) (text api) (h₁ i)) in
    let h₃ : m₃ ≡ put (codes "name") (text name)
    (put (codes "apiVersion") (text api) (put (codes "id") (text id) (members_of body))) = e₃
    ∙ (λ i. put (h i) (text name) (h₂ i)) in
    let h₄ : m₄ ≡ put (codes "type") (text kind)
    (put (codes "name") (text name)
    (put (codes "apiVersion") (text api) (put (codes "id") (text id) (members_of body)))) = e₄
    ∙ (λ i. put (k i) (text kind) (h₃ i)) in
    ap object_of (e₅ ∙ (λ i. put (l i) (object_of (e₆ i)) (h₄ i)))

state_nests : (kind name id api : List ℕ) (body : Json) → nesting body ≤ 100
    → nesting (state_named kind name id api body) ≤ 110
unfolding state_named
state_nests kind name id api body h =
    let m₀ = members_of body in
    let m₁ = put (codes "id") (text id) m₀ in
    let m₂ = put (codes "apiVersion") (text api) m₁ in
    let m₃ = put (codes "name") (text name) m₂ in
    let m₄ = put (codes "type") (text kind) m₃ in
    let ps = object_of (stored_properties kind name body) in
    let n₁ : members_nesting m₁ ≤ 100 =
    put_nests 100 (codes "id") (text id) m₀ (omega arith) (omega (arith, members_nest body h)) in
    let n₂ : members_nesting m₂ ≤ 100 = put_nests 100 (codes "apiVersion") (text api) m₁ (omega arith) n₁ in
    let n₃ : members_nesting m₃ ≤ 100 = put_nests 100 (codes "name") (text name) m₂ (omega arith) n₂ in
    let n₄ : members_nesting m₄ ≤ 100 = put_nests 100 (codes "type") (text kind) m₃ (omega arith) n₃ in
    let n₅ : members_nesting (put (codes "properties") ps m₄) ≤ 100 =
    put_nests 100 (codes "properties") ps m₄ (omega (arith, stored_nests kind name body h)) n₄ in
    omega (arith, n₅)

pub state_shallow : (kind name id api : List ℕ) (body j : Json) → nesting body ≤ 100
    → j ≡ state_named kind name id api body → nesting j ≤ 110
state_shallow kind name id api body j h e = omega (arith, ap nesting e, state_nests kind name id api body h)

-- ---- the catalogue's answer

pub answers_refused : (kind name id api code t : List ℕ) (body seen : Json) → kind ≡ full_type id
    → name ≡ full_name id → seen ≡ body → Some code ≡ refusal kind name seen → t ≡ code
    → Refused t ≡ catalog_answer Put id api body
answers_refused kind name id api code t body seen e f g h k =
    ap Refused k ∙ ap (λ o. refused_or_stored o (plain_state id api body)) (h ∙ (λ i. refusal (e i) (f i) (g i)))

pub answers_stored : (kind name id api : List ℕ) (body seen : Json) (a : Answer) → kind ≡ full_type id
    → name ≡ full_name id → seen ≡ body → None ≡ refusal kind name seen
    → a ≡ Stored (state_named kind name id api body) → a ≡ catalog_answer Put id api body
answers_stored kind name id api body seen a e f g h k =
    k ∙ (λ i. Stored (state_named (e i) (f i) id api body))
    ∙ ap (λ o. refused_or_stored o (plain_state id api body)) (h ∙ (λ i. refusal (e i) (f i) (g i)))

pub if_stored : {E : Type 0} (r : Result Answer E) (kind name id api : List ℕ) (body seen : Json)
    → kind ≡ full_type id → name ≡ full_name id → seen ≡ body → None ≡ refusal kind name seen
    → IfOk r (λ a. a ≡ Stored (state_named kind name id api body)) → IfOk r (λ a. a ≡ catalog_answer Put id api body)
if_stored (Ok a) kind name id api body seen e f g h k = answers_stored kind name id api body seen a e f g h k
if_stored (Err x) kind name id api body seen e f g h k = tt

pub if_stored_suits : {E : Type 0} (r : Result Answer E) (s : Json) → IfOk r (λ a. a ≡ Stored s) → IfOk r (Suits Put)
if_stored_suits (Ok a) s e = subst (Suits Put) (sym e) tt
if_stored_suits (Err x) s e = tt

-- ---- jobs

pub body_few : (act : Act) (body seen : Json) → act ≡ Put → FitsAct act body → seen ≡ body → nesting seen ≤ 100
body_few act body seen e h same =
    let fits : FitsAct Put body = subst (λ a. FitsAct a body) e h in
    omega (arith, ap nesting same, put_body body fits)

pub nothing_named : (id s : List ℕ) (f : IdFault) → s ≡ id → f ≡ NotAnId → IsNoId s f
    → (chars [] ≡ full_type id) × (chars [] ≡ full_name id)
nothing_named id s f same e h =
    let none : reading id ≡ None = ap reading (sym same) ∙ subst (IsNoId s) e h in
    (chars-nil ∙ ap types_joined (sym none), chars-nil ∙ ap names_joined (sym none))

pub if_done : {E : Type 0} (r : Result Answer E) (kind name id api seen : List ℕ) (act : Act) (body : Json)
    → act ≡ Put → seen ≡ id → kind ≡ full_type seen → name ≡ full_name seen
    → IfOk r (λ a. a ≡ Stored (state_named kind name id api body)) → IfOk r (λ a. a ≡ done act id api body)
if_done (Ok a) kind name id api seen act body e same f g h =
    h ∙ (λ i. Stored (state_named ((f ∙ ap full_type same) i) ((g ∙ ap full_name same) i) id api body))
    ∙ ap (λ act. done act id api body) (sym e)
if_done (Err x) kind name id api seen act body e same f g h = tt
