-- The bytes of a connection spell one list of requests, in any pieces.
use Rattle.std.proofs.Common.{◌≡◌, ℕ, Bool, true, false, List, [], ◌∷◌, Option, Some, None, Result, Ok, Err, refl}
use Rattle.std.proofs.Common.{sym, ap}
use Rattle.std.proofs.Common.{◌∙◌, subst, is_ok}
use Rattle.deploy_http.specs.Requests.{IsRefused, Requested, requested, Refuses, IsAnswer}
use Rattle.deploy_http.specs.Conversations.{Ending, ended, refused, closed, RequestsOf, seen, IsDecided}
use Rattle.deploy_http.specs.declared.request.Request.{Request}
use Rattle.deploy_http.specs.declared.fault.HttpFault.{HttpFault}
use Rattle.deploy_http.specs.declared.fault.HttpFault.TheVariants.{BadRequest, HeadTooLarge, BodyTooLarge, NotFound}
use Rattle.deploy_http.specs.declared.fault.HttpFault.TheVariants.{MethodNotAllowed, MissingApiVersion, LengthRequired}
use Rattle.deploy_http.specs.declared.fault.HttpFault.TheVariants.{ReadFault, OutOfMemory}
use Rattle.deploy_http.proofs.OneLemmas.{request_one, refused_one, request_apart, request_some, refused_some}

-- a decided refusal says why the input is refused
refusal : (input coming : List ℕ) (f : HttpFault) → IsDecided (Err f) → Refuses input f coming
    → IsRefused input f coming
refusal input coming BadRequest d h = h
refusal input coming HeadTooLarge d h = h
refusal input coming BodyTooLarge d h = h
refusal input coming NotFound d h = h
refusal input coming MethodNotAllowed d h = h
refusal input coming MissingApiVersion d h = h
refusal input coming LengthRequired d h = h
refusal input coming ReadFault d h = absurd (d.0 refl)
refusal input coming OutOfMemory d h = absurd (d.1 refl)

-- decided answers to one input are one
pub answer_one : (input left other coming later : List ℕ) (a b : Result (Option Request) HttpFault) → IsDecided a
    → IsDecided b → IsAnswer input a left coming → IsAnswer input b other later → seen a ≡ seen b
answer_one input left other coming later (Ok None) (Ok None) d e x y = refl
answer_one input left other coming later (Ok None) (Ok (Some s)) d e x y =
    absurd (request_some input other (requested s) y x.0)
answer_one input left other coming later (Ok None) (Err g) d e x y =
    absurd (refused_some input later g (refusal input later g e y) x.0)
answer_one input left other coming later (Ok (Some r)) (Ok None) d e x y =
    absurd (request_some input left (requested r) x y.0)
answer_one input left other coming later (Ok (Some r)) (Ok (Some s)) d e x y =
    ap (λ (q : Requested). Ok (Some q)) (request_one input left other (requested r) (requested s) x y).0
answer_one input left other coming later (Ok (Some r)) (Err g) d e x y =
    absurd (request_apart input left later (requested r) g x (refusal input later g e y))
answer_one input left other coming later (Err f) (Ok None) d e x y =
    absurd (refused_some input coming f (refusal input coming f d x) y.0)
answer_one input left other coming later (Err f) (Ok (Some s)) d e x y =
    absurd (request_apart input other coming (requested s) f y (refusal input coming f d x))
answer_one input left other coming later (Err f) (Err g) d e x y =
    ap (λ (q : HttpFault). Err q)
    (refused_one input coming later f g (refusal input coming f d x) (refusal input later g e y))

-- and leave the same bytes
pub left_one : (input left other coming later : List ℕ) (a b : Result (Option Request) HttpFault)
    → is_ok a ≡ true → is_ok b ≡ true → IsAnswer input a left coming → IsAnswer input b other later → left ≡ other
left_one input left other coming later (Ok None) (Ok None) d e x y = x.1 ∙ sym y.1
left_one input left other coming later (Ok None) (Ok (Some s)) d e x y =
    absurd (request_some input other (requested s) y x.0)
left_one input left other coming later (Ok (Some r)) (Ok None) d e x y =
    absurd (request_some input left (requested r) x y.0)
left_one input left other coming later (Ok (Some r)) (Ok (Some s)) d e x y =
    (request_one input left other (requested r) (requested s) x y).1
left_one input left other coming later (Ok a) (Err g) d e x y = cc
left_one input left other coming later (Err f) b d e x y = cc

-- what follows a request, on both sides
record Same (rs ss : List Requested) (e d : Ending) : Type 0 where
  requests : rs ≡ ss
  ending : e ≡ d

same_step : (r s : Requested) (more others : List Requested) (e d : Ending) → r ≡ s → Same more others e d
    → Same (r ∷ more) (s ∷ others) e d
same_step r s more others e d q same =
    let rest : more ≡ others = same.requests in
    record { requests = cc; ending = same.ending }

after_close : (r s : Requested) (more others : List Requested) (e d : Ending) → r ≡ s → (more ≡ []) × (e ≡ closed)
    → (others ≡ []) × (d ≡ closed) → Same (r ∷ more) (s ∷ others) e d
after_close r s more others e d q x y =
    same_step r s more others e d q (record { requests = x.0 ∙ sym y.0; ending = x.1 ∙ sym y.1 })

step : (bytes : List ℕ) (r s : Requested) (more others : List Requested) (e d : Ending)
    → ((left : List ℕ) → RequestsOf left more e → RequestsOf left others d → Same more others e d)
    → RequestsOf bytes (r ∷ more) e → RequestsOf bytes (s ∷ others) d → Same (r ∷ more) (s ∷ others) e d
step bytes r s more others e d further (left, x, shuts, stays) (rest, y, ends, goes) = by r.close refl
  where
    one : (r ≡ s) × (left ≡ rest)
    one = request_one bytes left rest r s x y

    close_is : s.close ≡ r.close
    close_is = ap (λ (q : Requested). q.close) (sym one.0)

    by : (b : Bool) → r.close ≡ b → Same (r ∷ more) (s ∷ others) e d
    by true q = after_close r s more others e d one.0 (shuts q) (ends (close_is ∙ q))
    by false q =
        let P : List ℕ → Type 0 = λ l. RequestsOf l others d in
        same_step r s more others e d one.0 (further left (stays q) (subst P (sym one.1) (goes (close_is ∙ q))))

both : (bytes : List ℕ) (rs ss : List Requested) (e d : Ending) → RequestsOf bytes rs e → RequestsOf bytes ss d
    → Same rs ss e d
both bytes [] [] ended ended x y = record { requests = refl; ending = refl }
both bytes [] [] ended (refused g) x y = absurd (refused_some bytes [] g y x)
both bytes [] [] ended closed x y = absurd y
both bytes [] [] (refused f) ended x y = absurd (refused_some bytes [] f x y)
both bytes [] [] (refused f) (refused g) x y =
    record { requests = refl; ending = ap refused (refused_one bytes [] [] f g x y) }
both bytes [] [] (refused f) closed x y = absurd y
both bytes [] [] closed d x y = absurd x
both bytes [] (s ∷ others) ended d x y = absurd (request_some bytes y.0 s y.1 x)
both bytes [] (s ∷ others) (refused f) d x y = absurd (request_apart bytes y.0 [] s f y.1 x)
both bytes [] (s ∷ others) closed d x y = absurd x
both bytes (r ∷ more) [] e ended x y = absurd (request_some bytes x.0 r x.1 y)
both bytes (r ∷ more) [] e (refused g) x y = absurd (request_apart bytes x.0 [] r g x.1 y)
both bytes (r ∷ more) [] e closed x y = absurd y
both bytes (r ∷ more) (s ∷ others) e d x y =
    step bytes r s more others e d (λ left. both left more others e d) x y

-- the bytes of a connection spell one list of requests, and end in one way
pub requests_one : (bytes : List ℕ) (rs ss : List Requested) (e d : Ending) → RequestsOf bytes rs e
    → RequestsOf bytes ss d → (rs ≡ ss) × (e ≡ d)
requests_one bytes rs ss e d x y = let same = both bytes rs ss e d x y in (same.requests, same.ending)
