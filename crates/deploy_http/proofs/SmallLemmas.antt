-- A body that is read has at most 4,194,304 bytes.
use Rattle.std.proofs.Common.{◌≡◌, ℕ, ◌≤◌, Bool, true, false, nat_le, cond, List, [], ◌∷◌, Ok, refl, arith}
use Rattle.std.proofs.Common.{bytes_eq, codes, sym, ◌∙◌}
use Rattle.std.specs.List.{list_all}
use Rattle.std.specs.Str.Parse.{digits_value}
use Rattle.foundation.proofs.Comparisons.{le_of_true}
use Rattle.http_heads.specs.Fields.{Pair, agreed, body_length, bounded, is_number, sized, values}
use Rattle.http_heads.specs.declared.fields.BodyLength.{BodyLength}
use Rattle.http_heads.specs.declared.fields.BodyLength.TheVariants.{Absent, Bad, Bytes, TooLarge}
use Rattle.http_requests.specs.declared.verb.Verb.{Verb}
use Rattle.http_requests.specs.declared.verb.Verb.TheVariants.{Get, Put, Post, Delete, Other}
use Rattle.deploy_http.specs.Plans.{length_by}

-- a length that is given is small
abbrev IsSmall : BodyLength → Type 0
IsSmall given = (n : ℕ) → given ≡ Bytes n → n ≤ 4194304

bounded_by : (b : Bool) (total : ℕ) → nat_le total 4194304 ≡ b → IsSmall (cond b (Bytes total) TooLarge)
bounded_by true total l n e =
    let same : total ≡ n = cc in
    omega (arith, le_of_true total 4194304 l, same)
bounded_by false total l n e = cc

sized_by : (b : Bool) (total : ℕ) → IsSmall (cond b (bounded total) Bad)
sized_by true total = bounded_by (nat_le total 4194304) total refl
sized_by false total = λ n e. cc

sized_small : (value : List ℕ) → IsSmall (sized value)
unfolding sized
sized_small value = sized_by (is_number value) (digits_value 10 value)

agreed_by : (b : Bool) (value : List ℕ) → IsSmall (cond b (sized value) Bad)
agreed_by true value = sized_small value
agreed_by false value = λ n e. cc

agreed_small : (values : List (List ℕ)) → IsSmall (agreed values)
agreed_small [] n e = cc
agreed_small (value ∷ values) n e = agreed_by (list_all (bytes_eq value) values) value n e

sent_small : (verb : Verb) (n : ℕ) → length_by false Absent verb ≡ Ok n → n ≤ 4194304
sent_small Get n e = let same : 0 ≡ n = cc in omega (arith, same)
sent_small Put n e = cc
sent_small Post n e = cc
sent_small Delete n e = let same : 0 ≡ n = cc in omega (arith, same)
sent_small Other n e = let same : 0 ≡ n = cc in omega (arith, same)

length_small : (coded : Bool) (given : BodyLength) (verb : Verb) (n : ℕ) → IsSmall given
    → length_by coded given verb ≡ Ok n → n ≤ 4194304
length_small true given verb n small e = cc
length_small false Absent verb n small e = sent_small verb n e
length_small false (Bytes m) verb n small e =
    let same : m ≡ n = cc in
    omega (arith, small m refl, same)
length_small false TooLarge verb n small e = cc
length_small false Bad verb n small e = cc

-- the length of a body that is read
pub body_small : (fields : List Pair) (coded : Bool) (given : BodyLength) (verb : Verb) (n : ℕ)
    → given ≡ body_length fields → length_by coded given verb ≡ Ok n → n ≤ 4194304
body_small fields coded given verb n is e =
    length_small coded given verb n (λ m d. agreed_small (values (codes "content-length") fields) m (sym is ∙ d)) e
