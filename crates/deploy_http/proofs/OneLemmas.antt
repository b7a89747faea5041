-- An input has one answer.
use Rattle.std.proofs.Common.{◌≡◌, ℕ, ◌+◌, ◌-◌, ◌<◌, ◌≤◌, Bool, true, List, [], ◌∷◌, ◌++◌, length, take}
use Rattle.std.proofs.Common.{Result, Ok, Err, refl, sym, ap, ◌∙◌, inl, inr, arith, subst, append_assoc}
use Rattle.std.proofs.Common.{length-append}
use Rattle.std.proofs.Math.Seq.{take-append-add}
use Rattle.httparse.specs.Grammar.{RequestHead, print_request, ReadsRequest, HasNoRequest, print_end}
use Rattle.httparse.specs.Grammar.{print_field, print_section}
use Rattle.std.specs.List.{flat_map}
use Rattle.httparse.proofs.GrammarLemmas.{request_unique, ReadsRequest-append}
use Rattle.http_heads.specs.Fronts.{IsHopeless}
use Rattle.http_heads.specs.Spots.{is_past_target}
use Rattle.http_heads.proofs.FrontLemmas.{none_of_never, end_some}
use Rattle.http_requests.specs.Bodies.{IsAsk, IsBadBody}
use Rattle.http_requests.specs.Calls.{Called}
use Rattle.http_requests.proofs.OneLemmas.{ask_one, ask_not_bad}
use Rattle.deploy_http.specs.Plans.{Planned, planned}
use Rattle.deploy_http.specs.Requests.{window, BeginsWith, EndsEarly, IsHeadRefused, hopeless, too_large, asks_nothing}
use Rattle.deploy_http.specs.Requests.{Spells, IsRefused, by_head, by_end, by_body, IsRequest, Requested}
use Rattle.deploy_http.specs.declared.fault.HttpFault.{HttpFault}
use Rattle.foundation.proofs.Lists.{tail_within}

-- the head of an input is in its window
in_window : (input : List ℕ) (h : RequestHead) (after : List ℕ) → BeginsWith input h after
    → (rest : List ℕ) × ReadsRequest (window input) h rest
in_window input h after begins =
    let k = 16384 - length (print_request h) in
    let e : 16384 ≡ length (print_request h) + k = omega (arith, begins.short) in (
      take k after,
      (
        begins.reads.0,
        ap window begins.reads.1 ∙ ap (λ m. take m (print_request h ++ after)) e
            ∙ take-append-add (print_request h) after k,
      ),
    )

no_head_begins : (input : List ℕ) (h : RequestHead) (after : List ℕ) → HasNoRequest (window input)
    → BeginsWith input h after → ⊥
no_head_begins input h after none begins = let w = in_window input h after begins in none h w.0 w.1

hopeless_begins : (input : List ℕ) (h : RequestHead) (after : List ℕ) → IsHopeless (window input)
    → BeginsWith input h after → ⊥
hopeless_begins input h after is begins =
    no_head_begins input h after (none_of_never (window input) is.never) begins

one_head : (input : List ℕ) (h k : RequestHead) (a b : List ℕ) → BeginsWith input h a → BeginsWith input k b
    → (h ≡ k) × (a ≡ b)
one_head input h k a b x y = request_unique input h k a b x.reads y.reads

plan_same : (p q : Planned) (x y : Result Planned HttpFault) → x ≡ y → x ≡ Ok p → y ≡ Ok q → p ≡ q
plan_same p q x y s e f = cc

fault_same : (f g : HttpFault) (x y : Result Planned HttpFault) → x ≡ y → x ≡ Err f → y ≡ Err g → f ≡ g
fault_same f g x y s e d = cc

not_both : (f : HttpFault) (p : Planned) (x y : Result Planned HttpFault) → x ≡ y → x ≡ Err f → y ≡ Ok p → ⊥
not_both f p x y s e d = cc

front_same : (a b c d : List ℕ) → length a ≡ length b → a ++ c ≡ b ++ d → (a ≡ b) × (c ≡ d)
front_same [] [] c d l e = (refl, e)
front_same [] (y ∷ b) c d l e = absurd (omega (arith, l))
front_same (x ∷ a) [] c d l e = absurd (omega (arith, l))
front_same (x ∷ a) (y ∷ b) c d l e =
    let one : x ≡ y = cc in
    let more : a ++ c ≡ b ++ d = cc in
    let rest = front_same a b c d (omega (arith, l)) more in
    let same : a ≡ b = rest.0 in
    (cc, rest.1)

-- an input begins with one call and its body
pub record OneSpelling (call kind : Called) (body other : List ℕ) (close shut : Bool) (left rest : List ℕ)
    : Type 0 where
  pub call_is : call ≡ kind
  pub body_is : body ≡ other
  pub close_is : close ≡ shut
  pub left_is : left ≡ rest

pub spells_one : (input : List ℕ) (call kind : Called) (body other : List ℕ) (close shut : Bool) (left rest : List ℕ)
    → Spells input call body close left → Spells input kind other shut rest
    → OneSpelling call kind body other close shut left rest
spells_one input call kind body other close shut left rest x y =
    let heads = one_head input x.head y.head (body ++ left) (other ++ rest) x.begins y.begins in
    let p : Planned = record { call = call; body = length body; close = close } in
    let q : Planned = record { call = kind; body = length other; close = shut } in
    let plans : p ≡ q = plan_same p q (planned x.head) (planned y.head) (ap planned heads.0) x.asks y.asks in
    let lengths : length body ≡ length other = ap (λ (r : Planned). r.body) plans in
    let bytes = front_same body other left rest lengths heads.1 in
    record {
      call_is = ap (λ (r : Planned). r.call) plans;
      body_is = bytes.0;
      close_is = ap (λ (r : Planned). r.close) plans;
      left_is = bytes.1;
    }

requested_same : (r s : Requested) → r.what ≡ s.what → r.close ≡ s.close → r ≡ s
requested_same r s e f =
    let one : r ≡ record r { what = s.what } = ap (λ w. record r { what = w }) e in
    let two : record r { what = s.what } ≡ s = ap (λ b. record s { close = b }) f in
    one ∙ two

-- an input begins with one request
pub request_one : (input left other : List ℕ) (r s : Requested) → IsRequest input r left → IsRequest input s other
    → (r ≡ s) × (left ≡ other)
request_one input left other r s x y =
    let one = spells_one input x.call y.call x.body y.body r.close s.close left other x.spells y.spells in
    let P : Called → Type 0 = λ c. IsAsk c y.body s.what in
    let Q : List ℕ → Type 0 = λ b. IsAsk x.call b s.what in
    let asks : IsAsk x.call x.body s.what = subst Q (sym one.body_is) (subst P (sym one.call_is) y.asks) in
    (requested_same r s (ask_one x.call x.body r.what s.what x.asks asks) one.close_is, one.left_is)

-- the head of an input is refused for one cause
head_one : (input : List ℕ) (f g : HttpFault) → IsHeadRefused input f → IsHeadRefused input g → f ≡ g
head_one input f g (hopeless e x) (hopeless d y) = e ∙ sym d
head_one input f g (hopeless e x) (too_large d l u) = absurd (u.hopeful x)
head_one input f g (hopeless e x) (asks_nothing h a b p) = absurd (hopeless_begins input h a x b)
head_one input f g (too_large e l u) (hopeless d y) = absurd (u.hopeful y)
head_one input f g (too_large e l u) (too_large d m v) = e ∙ sym d
head_one input f g (too_large e l u) (asks_nothing h a b p) = absurd (no_head_begins input h a u.none b)
head_one input f g (asks_nothing h a b p) (hopeless d y) = absurd (hopeless_begins input h a y b)
head_one input f g (asks_nothing h a b p) (too_large d m v) = absurd (no_head_begins input h a v.none b)
head_one input f g (asks_nothing h a b p) (asks_nothing k c d q) =
    fault_same f g (planned h) (planned k) (ap planned (one_head input h k a c b d).0) p q

-- a head that asks something is not refused
head_apart : (input : List ℕ) (f : HttpFault) (h : RequestHead) (a : List ℕ) (p : Planned) → IsHeadRefused input f
    → BeginsWith input h a → planned h ≡ Ok p → ⊥
head_apart input f h a p (hopeless e x) b asks = hopeless_begins input h a x b
head_apart input f h a p (too_large e l u) b asks = no_head_begins input h a u.none b
head_apart input f h a p (asks_nothing k c d q) b asks =
    not_both f p (planned k) (planned h) (ap planned (one_head input k h c a d b).0) q asks

-- an input whose head is refused does not end too early
head_early : (input : List ℕ) (f : HttpFault) → IsHeadRefused input f → EndsEarly input → ⊥
head_early input f (hopeless e x) (inl ends) = ends.unfinished.hopeful x
head_early input f (too_large e l u) (inl ends) = omega (arith, l, ends.few)
head_early input f (asks_nothing h a b p) (inl ends) = no_head_begins input h a ends.unfinished.none b
head_early input f x (inr ends) = head_apart input f ends.head ends.after ends.plan x ends.begins ends.is_plan

-- nor does one that begins with a head and its body
early_spelled : (input : List ℕ) (call : Called) (body : List ℕ) (close : Bool) (left : List ℕ) → EndsEarly input
    → Spells input call body close left → ⊥
early_spelled input call body close left (inl ends) x =
    no_head_begins input x.head (body ++ left) ends.unfinished.none x.begins
early_spelled input call body close left (inr ends) x =
    let heads = one_head input ends.head x.head ends.after (body ++ left) ends.begins x.begins in
    let p : Planned = record { call = call; body = length body; close = close } in
    let plans : ends.plan ≡ p =
    plan_same ends.plan p (planned ends.head) (planned x.head) (ap planned heads.0) ends.is_plan x.asks in
    let bytes : ends.plan.body ≡ length body = ap (λ (r : Planned). r.body) plans in
    omega (arith, ends.few, bytes, ap length heads.1, length-append body left)

-- an input is refused for one cause
pub refused_one : (input coming later : List ℕ) (f g : HttpFault) → IsRefused input f coming
    → IsRefused input g later → f ≡ g
refused_one input coming later f g (by_head x) (by_head y) = head_one input f g x y
refused_one input coming later f g (by_head x) (by_end d ends c) = absurd (head_early input f x ends)
refused_one input coming later f g (by_head x) (by_body d bad) =
    absurd (head_apart input f bad.spells.head _ _ x bad.spells.begins bad.spells.asks)
refused_one input coming later f g (by_end e ends c) (by_head y) = absurd (head_early input g y ends)
refused_one input coming later f g (by_end e ends c) (by_end d stops k) = e ∙ sym d
refused_one input coming later f g (by_end e ends c) (by_body d bad) = e ∙ sym d
refused_one input coming later f g (by_body e bad) (by_head y) =
    absurd (head_apart input g bad.spells.head _ _ y bad.spells.begins bad.spells.asks)
refused_one input coming later f g (by_body e bad) (by_end d ends k) = e ∙ sym d
refused_one input coming later f g (by_body e bad) (by_body d worse) = e ∙ sym d

-- an input that ends too early is refused only at its end
pub refused_early : (input coming : List ℕ) (f : HttpFault) → IsRefused input f coming → EndsEarly input
    → coming ≡ []
refused_early input coming f (by_head x) ends = absurd (head_early input f x ends)
refused_early input coming f (by_end d stops c) ends = c
refused_early input coming f (by_body d bad) ends =
    absurd (early_spelled input bad.call bad.body bad.close bad.left ends bad.spells)

-- an input that begins with a request is not refused
pub request_apart : (input left coming : List ℕ) (r : Requested) (f : HttpFault) → IsRequest input r left
    → IsRefused input f coming → ⊥
request_apart input left coming r f x (by_head y) =
    head_apart input f x.spells.head _ _ y x.spells.begins x.spells.asks
request_apart input left coming r f x (by_end d ends c) =
    early_spelled input x.call x.body r.close left ends x.spells
request_apart input left coming r f x (by_body d bad) =
    let one = spells_one input x.call bad.call x.body bad.body r.close bad.close left bad.left x.spells bad.spells in
    let P : Called → Type 0 = λ c. IsBadBody c bad.body in
    let Q : List ℕ → Type 0 = λ b. IsBadBody x.call b in
    ask_not_bad x.call x.body r.what x.asks (subst Q (sym one.body_is) (subst P (sym one.call_is) bad.bad))

head_some : (h : RequestHead) → 0 < length (print_request h)
unfolding print_request
head_some h =
    let whole : length (print_section h.fields h.last) ≤ length (print_request h) =
    tail_within _ (print_section h.fields h.last) in
    omega (arith, whole, end_some h.last, tail_within (flat_map print_field h.fields) (print_end h.last))

pub begins_some : (input : List ℕ) (h : RequestHead) (after : List ℕ) → BeginsWith input h after → input ≡ [] → ⊥
begins_some input h after begins e =
    omega (arith, head_some h, ap length begins.reads.1, ap length e, length-append (print_request h) after)

pub request_some : (input left : List ℕ) (r : Requested) → IsRequest input r left → input ≡ [] → ⊥
request_some input left r x e = begins_some input x.spells.head _ x.spells.begins e

past_some : (input : List ℕ) → is_past_target (window input) ≡ true → input ≡ [] → ⊥
unfolding is_past_target
past_some [] p e = cc
past_some (b ∷ bs) p e = cc

pub refused_some : (input coming : List ℕ) (f : HttpFault) → IsRefused input f coming → input ≡ [] → ⊥
refused_some input coming f (by_head (hopeless d is)) e = past_some input is.past e
refused_some input coming f (by_head (too_large d l u)) e = omega (arith, l, ap length e)
refused_some input coming f (by_head (asks_nothing h a b p)) e = begins_some input h a b e
refused_some input coming f (by_end d (inl ends) c) e = omega (arith, ends.some, ap length e)
refused_some input coming f (by_end d (inr ends) c) e = begins_some input ends.head ends.after ends.begins e
refused_some input coming f (by_body d bad) e = begins_some input bad.spells.head _ bad.spells.begins e

-- more bytes leave a request where it is
pub request_further : (input left more : List ℕ) (r : Requested) → IsRequest input r left
    → IsRequest (input ++ more) r (left ++ more)
request_further input left more r x =
    let s = x.spells in
    let reads = ReadsRequest-append input s.head (x.body ++ left) more s.begins.reads in
    let P : List ℕ → Type 0 = ReadsRequest (input ++ more) s.head in
    record {
      call = x.call;
      body = x.body;
      spells = record {
        head = s.head;
        begins = record { reads = subst P (append_assoc x.body left more) reads; short = s.begins.short };
        asks = s.asks;
      };
      asks = x.asks;
    }
