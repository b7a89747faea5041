-- Inputs that go on after the bytes that are there.
use Rattle.std.proofs.Common.{◌≡◌, ℕ, ◌+◌, ◌-◌, ◌<◌, ◌≤◌, List, [], ◌∷◌, ◌++◌, length, take, drop, Result, Ok, Err}
use Rattle.std.proofs.Common.{min, refl, sym, ap, ◌∙◌, ◌⊎◌, inl, inr, arith, subst, append_assoc, append-nil}
use Rattle.std.proofs.lemmas.Bool.{cases_lt}
use Rattle.std.proofs.lemmas.List.{take_all, take-append-le, take-append-drop, drop-append-le, length-take}
use Rattle.std.proofs.Math.Seq.{take-append-add}
use Rattle.httparse.specs.Grammar.{RequestHead, print_request, ReadsRequest}
use Rattle.http_heads.specs.Fronts.{IsHead, IsHopeless, IsUnfinished}
use Rattle.http_heads.specs.declared.front.Head.{Head}
use Rattle.http_heads.proofs.FrontLemmas.{hopeless_further}
use Rattle.deploy_http.specs.Plans.{planned}
use Rattle.deploy_http.specs.Requests.{window, BeginsWith, IsHeadRefused, hopeless, too_large, asks_nothing}
use Rattle.deploy_http.specs.Requests.{IsRefused, by_head, by_end, Refuses}
use Rattle.deploy_http.specs.Faults.{IsTakingFault}
use Rattle.deploy_http.specs.Answers.{Gives, HasPlan, RefusesFront, plan_seen}
use Rattle.deploy_http.specs.declared.plan.Plan.{Plan}
use Rattle.deploy_http.specs.declared.fault.HttpFault.{HttpFault}
use Rattle.deploy_http.specs.declared.fault.HttpFault.TheVariants.{BadRequest, HeadTooLarge, BodyTooLarge, NotFound}
use Rattle.deploy_http.specs.declared.fault.HttpFault.TheVariants.{MethodNotAllowed, MissingApiVersion, LengthRequired}
use Rattle.deploy_http.specs.declared.fault.HttpFault.TheVariants.{ReadFault, OutOfMemory}

-- the window of bytes, with the window of more
window_more : (bytes more : List ℕ) → (x : List ℕ) × (window (bytes ++ more) ≡ window bytes ++ x)
window_more bytes more = by (cases_lt (length bytes) 16384)
  where
    by : (length bytes < 16384) ⊎ (16384 ≤ length bytes)
        → (x : List ℕ) × (window (bytes ++ more) ≡ window bytes ++ x)
    by (inl l) =
        let k = 16384 - length bytes in
        let n : 16384 ≡ length bytes + k = omega arith in (
          take k more,
          ap (λ m. take m (bytes ++ more)) n ∙ take-append-add bytes more k
              ∙ ap (λ b. b ++ take k more) (sym (take_all 16384 bytes (omega arith))),
        )
    by (inr l) = ([], take-append-le 16384 bytes more l ∙ sym (append-nil (window bytes)))

-- a full window stays
window_full : (bytes more : List ℕ) → 16384 ≤ length bytes → window (bytes ++ more) ≡ window bytes
window_full bytes more l = take-append-le 16384 bytes more l

-- a head in the window is at the front of the input
begins : (bytes more : List ℕ) (h : RequestHead) (n : ℕ) → ReadsRequest (window bytes) h (drop n (window bytes))
    → n ≡ length (print_request h) → n ≤ length (window bytes) → BeginsWith (bytes ++ more) h (drop n (bytes ++ more))
begins bytes more h n reads len fits =
    let y = drop 16384 bytes ++ more in
    let whole : window bytes ++ y ≡ bytes ++ more =
    sym (append_assoc (window bytes) (drop 16384 bytes) more) ∙ ap (λ b. b ++ more) (take-append-drop 16384 bytes) in
    let tail : drop n (window bytes) ++ y ≡ drop n (bytes ++ more) =
    sym (drop-append-le n (window bytes) y fits) ∙ ap (drop n) whole in
    record {
      reads = (
        reads.0,
        sym whole ∙ ap (λ b. b ++ y) reads.1
            ∙ append_assoc (print_request h) (drop n (window bytes)) y
            ∙ ap (λ r. print_request h ++ r) tail,
      );
      short = omega (arith, len, fits, length-take 16384 bytes);
    }

-- a head that was found
head_begins : (bytes more : List ℕ) (head : Head) (h : RequestHead) → IsHead (window bytes) head h
    → BeginsWith (bytes ++ more) h (drop head.length (bytes ++ more))
head_begins bytes more head h is = begins bytes more h head.length is.reads is.length_is is.length_fits

pub has_plan : (bytes : List ℕ) (head : Head) (h : RequestHead) (plan : Plan) → IsHead (window bytes) head h
    → planned h ≡ Ok (plan_seen plan) → plan.head ≡ head.length → plan.body ≤ 4194304 → HasPlan bytes plan
has_plan bytes head h plan is asks len small =
    let P : List ℕ → Type 0 = λ b. BeginsWith b h (drop head.length b) in
    let Q : ℕ → Type 0 = λ n. BeginsWith bytes h (drop n bytes) in
    record {
      head = h;
      begins = subst Q (sym len) (subst P (append-nil bytes) (head_begins bytes [] head h is));
      length_is = len ∙ is.length_is;
      fits = omega (arith, len, is.length_fits, length-take 16384 bytes);
      small = small;
      asks = asks;
    }

bad_head : (bytes : List ℕ) (head : Head) (h : RequestHead) (fault : HttpFault) → IsHead (window bytes) head h
    → planned h ≡ Err fault → (more : List ℕ) → IsHeadRefused (bytes ++ more) fault
bad_head bytes head h fault is refused more =
    asks_nothing h (drop head.length (bytes ++ more)) (head_begins bytes more head h is) refused

-- a head whose call is refused
pub plan_refused : (bytes : List ℕ) (head : Head) (h : RequestHead) (fault : HttpFault) → IsHead (window bytes) head h
    → Gives plan_seen (planned h) (Err fault) → (◌≡◌ {A = Result Plan HttpFault} (Err fault) (Err ReadFault) → ⊥)
    → RefusesFront bytes fault
plan_refused bytes head h BadRequest is e not = bad_head bytes head h BadRequest is e
plan_refused bytes head h HeadTooLarge is e not = bad_head bytes head h HeadTooLarge is e
plan_refused bytes head h BodyTooLarge is e not = bad_head bytes head h BodyTooLarge is e
plan_refused bytes head h NotFound is e not = bad_head bytes head h NotFound is e
plan_refused bytes head h MethodNotAllowed is e not = bad_head bytes head h MethodNotAllowed is e
plan_refused bytes head h MissingApiVersion is e not = bad_head bytes head h MissingApiVersion is e
plan_refused bytes head h LengthRequired is e not = bad_head bytes head h LengthRequired is e
plan_refused bytes head h ReadFault is e not = not refl
plan_refused bytes head h OutOfMemory is e not = tt

-- bytes that can have no head
pub hopeless_refused : (bytes : List ℕ) → IsHopeless (window bytes) → RefusesFront bytes BadRequest
hopeless_refused bytes is more =
    let w = window_more bytes more in
    let P : List ℕ → Type 0 = IsHopeless in
    hopeless refl (subst P (sym w.1) (hopeless_further (window bytes) w.0 is))

length_more : (xs ys : List ℕ) → length xs ≤ length (xs ++ ys)
length_more [] ys = omega arith
length_more (x ∷ xs) ys = omega (arith, length_more xs ys)

-- a full window without a head
pub too_large_refused : (bytes : List ℕ) → 16384 ≤ length bytes → IsUnfinished (window bytes)
    → RefusesFront bytes HeadTooLarge
too_large_refused bytes l unfinished more =
    let P : List ℕ → Type 0 = IsUnfinished in
    too_large refl (omega (arith, l, length_more bytes more)) (subst P (sym (window_full bytes more l)) unfinished)

-- bytes with which the input ends before a head does
pub ended_refused : (bytes : List ℕ) → 0 < length bytes → length bytes < 16384 → IsUnfinished (window bytes)
    → IsRefused bytes BadRequest []
ended_refused bytes some few unfinished =
    by_end refl (inl (record { some = some; few = few; unfinished = unfinished })) refl

-- a refusal of bytes that may go on is one of the input
pub front_refuses : (bytes coming : List ℕ) (fault : HttpFault) → RefusesFront bytes fault
    → Refuses (bytes ++ coming) fault coming
front_refuses bytes coming BadRequest h = by_head (h coming)
front_refuses bytes coming HeadTooLarge h = by_head (h coming)
front_refuses bytes coming BodyTooLarge h = by_head (h coming)
front_refuses bytes coming NotFound h = by_head (h coming)
front_refuses bytes coming MethodNotAllowed h = by_head (h coming)
front_refuses bytes coming MissingApiVersion h = by_head (h coming)
front_refuses bytes coming LengthRequired h = by_head (h coming)
front_refuses bytes coming ReadFault h = tt
front_refuses bytes coming OutOfMemory h = tt

-- and of bytes with which the input ends
pub last_refuses : (bytes : List ℕ) (fault : HttpFault) → RefusesFront bytes fault → Refuses bytes fault []
last_refuses bytes fault h =
    let P : List ℕ → Type 0 = λ b. Refuses b fault [] in
    subst P (append-nil bytes) (front_refuses bytes [] fault h)

-- where no byte was taken, nothing is said of the input
pub taking_refuses : (input coming : List ℕ) (fault : HttpFault) → IsTakingFault fault → Refuses input fault coming
taking_refuses input coming BadRequest h = absurd h
taking_refuses input coming HeadTooLarge h = absurd h
taking_refuses input coming BodyTooLarge h = absurd h
taking_refuses input coming NotFound h = absurd h
taking_refuses input coming MethodNotAllowed h = absurd h
taking_refuses input coming MissingApiVersion h = absurd h
taking_refuses input coming LengthRequired h = absurd h
taking_refuses input coming ReadFault h = tt
taking_refuses input coming OutOfMemory h = tt

-- the window as it is cut
pub window_is : (n : ℕ) (bytes : List ℕ) → n ≡ min (length bytes) 16384 → take n bytes ≡ window bytes
window_is n bytes e = by (cases_lt (length bytes) 16384)
  where
    by : (length bytes < 16384) ⊎ (16384 ≤ length bytes) → take n bytes ≡ window bytes
    by (inl l) = take_all n bytes (omega arith) ∙ sym (take_all 16384 bytes (omega arith))
    by (inr l) = let same : n ≡ 16384 = omega arith in ap (λ m. take m bytes) same
