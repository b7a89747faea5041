-- What bytes begin with, and what more bytes change of it.
use Rattle.std.proofs.Common.{◌≡◌, ℕ, ◌+◌, ◌*◌, ◌<◌, ◌≤◌, false, List, [], ◌∷◌, ◌++◌, length, sym, ap}
use Rattle.std.proofs.Common.{◌∙◌, inl, inr, arith, subst, true≢false, append_assoc, append-nil, length-append}
use Rattle.std.proofs.Common.{map, take, drop, Ok}
use Rattle.std.proofs.lemmas.List.{length-map, length-take}
use Rattle.std.specs.List.{flat_map, AllByRecursion}
use Rattle.std.proofs.lemmas.List.Elements.{recursion_from_All}
use Rattle.httparse.specs.Grammar.{RequestHead, ReadsRequest, HasNoRequest, NeverHasRequest, MayBecomeRequest}
use Rattle.httparse.specs.Grammar.{LineEnd, crlf, lf, print_end, Field, IsField, print_field, print_section}
use Rattle.httparse.specs.Grammar.{print_request}
use Rattle.httparse.specs.Spans.{RequestExceeds, IsRequestWithin, IsRequestOf, IsWithin, header_bytes, span_bytes}
use Rattle.httparse.specs.Spans.{name_and_value}
use Rattle.httparse.specs.Outcome.{OnPartial}
use Rattle.httparse.specs.declared.Error.{Error}
use Rattle.httparse.specs.declared.Status.{Status}
use Rattle.httparse.specs.declared.Status.TheVariants.{Partial}
use Rattle.httparse.specs.declared.spans.Span.{Span}
use Rattle.httparse.specs.declared.spans.HeaderSpan.{HeaderSpan}
use Rattle.httparse.specs.declared.spans.RequestSpans.{RequestSpans}
use Rattle.http_heads.specs.Spots.{is_past_target}
use Rattle.http_heads.specs.Fields.{body_length, is_coded, closes, fields_of}
use Rattle.http_heads.specs.Fronts.{IsHead, IsHopeless, IsUnfinished}
use Rattle.http_heads.specs.declared.front.Head.{Head}
use Rattle.http_heads.proofs.SpotLemmas.{past_further, in_target}
use Rattle.foundation.proofs.Lists.{tail_within}

-- bytes that never become a head are none
pub none_of_never : (bytes : List ℕ) → NeverHasRequest bytes → HasNoRequest bytes
none_of_never bytes never h rest reads =
    let P : List ℕ → Type 0 = λ b. ReadsRequest b h rest in
    never [] h rest (subst P (sym (append-nil bytes)) reads)

-- a head is not hopeless
pub head_has_hope : (bytes : List ℕ) (h : RequestHead) (rest : List ℕ) → ReadsRequest bytes h rest
    → IsHopeless bytes → ⊥
head_has_hope bytes h rest reads hopeless = none_of_never bytes hopeless.never h rest reads

-- hopeless bytes stay so, whatever follows
pub hopeless_further : (bytes more : List ℕ) → IsHopeless bytes → IsHopeless (bytes ++ more)
hopeless_further bytes more hopeless = record {
  never = λ x h rest reads.
      let P : List ℕ → Type 0 = λ b. ReadsRequest b h rest in
      hopeless.never (more ++ x) h rest (subst P (append_assoc bytes more x) reads);
  past = past_further bytes more hopeless.past;
}

still_hopeful : (bytes : List ℕ) → MayBecomeRequest bytes → IsHopeless bytes → ⊥
still_hopeful bytes (inl (more, h, reads)) hopeless = hopeless.never more h [] reads
still_hopeful bytes (inr (blank, method, target, token, uri, is)) hopeless =
    true≢false (sym hopeless.past ∙ ap is_past_target is ∙ in_target blank method target token uri)

-- where more bytes can make a head, the bytes are not hopeless
pub unfinished_of_partial : (bytes : List ℕ) → HasNoRequest bytes → MayBecomeRequest bytes → IsUnfinished bytes
unfinished_of_partial bytes none may = record { none = none; hopeful = still_hopeful bytes may }

pub unfinished_of_never : (bytes : List ℕ) → NeverHasRequest bytes → is_past_target bytes ≡ false
    → IsUnfinished bytes
unfinished_of_never bytes never e = record {
  none = none_of_never bytes never;
  hopeful = λ hopeless. true≢false (sym hopeless.past ∙ e);
}

-- what a partial answer says
pub when_partial : {A : Type 0} (P : Type 0) (s : Status A) → s ≡ Partial → OnPartial {A = A} {E = Error} (Ok s) P
    → P
when_partial {A = A} P s e h =
    let Q : Status A → Type 0 = λ t. OnPartial {A = A} {E = Error} (Ok t) P in subst Q e h

-- a field has three bytes at least
pub end_some : (e : LineEnd) → 0 < length (print_end e)
end_some crlf = omega arith
end_some lf = omega arith

field_three : (f : Field) → IsField f → 3 ≤ length (print_field f)
field_three f is =
    omega (
      arith,
      length-append (f.name ++ 58 ∷ f.raw) (print_end f.end),
      length-append f.name (58 ∷ f.raw),
      end_some f.end,
      is.name.0,
    )

fields_three : (fs : List Field) → AllByRecursion IsField fs → 3 * length fs ≤ length (flat_map print_field fs)
fields_three [] h = omega arith
fields_three (f ∷ fs) h =
    omega (arith, field_three f h.0, fields_three fs h.1, length-append (print_field f) (flat_map print_field fs))

section_within : (h : RequestHead) → length (print_section h.fields h.last) ≤ length (print_request h)
unfolding print_request
section_within h = tail_within _ (print_section h.fields h.last)

head_three : (bytes : List ℕ) (h : RequestHead) → ReadsRequest bytes h [] → 3 * length h.fields ≤ length bytes
head_three bytes h reads =
    let fields = fields_three h.fields (recursion_from_All IsField h.fields reads.0.fields) in
    omega (
      arith,
      ap length reads.1,
      length-append (print_request h) [],
      section_within h,
      fields,
      length-append (flat_map print_field h.fields) (print_end h.last),
    )

-- no head that is short enough has too many fields
pub few_fields : (bytes : List ℕ) → length bytes ≤ 16384 → RequestExceeds 5462 bytes → ⊥
few_fields bytes short (front, rest, is, h, reads, over) =
    omega (
      arith,
      head_three (front ++ print_end lf) h reads,
      length-append front (print_end lf),
      ap length is,
      length-append front rest,
    )

-- the head that was found, by the places that were answered
pub head_found : (bytes : List ℕ) (headers : List HeaderSpan) (spans : RequestSpans) (head : Head)
    → IsRequestWithin bytes headers spans → IsRequestOf bytes headers spans → head.method ≡ spans.method
    → head.target ≡ spans.path → head.fields ≡ spans.headers
    → head.body ≡ body_length (map (header_bytes bytes) (take spans.headers headers))
    → head.coded ≡ is_coded (map (header_bytes bytes) (take spans.headers headers))
    → head.close ≡ closes spans.version (map (header_bytes bytes) (take spans.headers headers))
    → head.length ≡ spans.len → (h : RequestHead) × IsHead bytes head h
head_found bytes headers spans head within (h, at) method target fields body coded close len = (
  h,
  record {
    reads = let P : ℕ → Type 0 = λ n. ReadsRequest bytes h (drop n bytes) in subst P (sym len) at.reads;
    length_is = len ∙ at.len;
    length_fits = omega (arith, len, within.section.len_fits);
    method_fits = fits head.method spans.method method within.method;
    method_is = ap (span_bytes bytes) method ∙ at.method;
    target_fits = fits head.target spans.path target within.path;
    target_is = ap (span_bytes bytes) target ∙ at.path;
    fields_are = fields ∙ sym (length-take_le spans.headers headers within.section.count_fits)
        ∙ sym (length-map (take spans.headers headers) (header_bytes bytes)) ∙ ap length at.fields
        ∙ length-map h.fields name_and_value;
    body_is = body ∙ ap body_length at.fields;
    coded_is = coded ∙ ap is_coded at.fields;
    close_is = close ∙ ap (closes spans.version) at.fields ∙ ap (λ v. closes v (fields_of h)) at.version;
  },
)
  where
    fits : (s t : Span) → s ≡ t → IsWithin spans.len t → IsWithin (length bytes) s
    fits s t e w =
        let P : Span → Type 0 = IsWithin (length bytes) in
        subst P (sym e) (w.0, omega (arith, w.1, within.section.len_fits))

    length-take_le : (n : ℕ) (xs : List HeaderSpan) → n ≤ length xs → length (take n xs) ≡ n
    length-take_le n xs l = omega (arith, length-take n xs)
