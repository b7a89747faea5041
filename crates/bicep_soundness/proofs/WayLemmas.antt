-- What the ways that are left after the arguments say of the value.
use Rattle.std.proofs.Common.{◌≡◌, inl, inr, Bool, true, false, true≢false, List, [], ◌∷◌, Option, Some, None, sym}
use Rattle.std.proofs.Common.{subst}
use Rattle.std.specs.Prelude.{if◌then◌else◌}
use Rattle.std.proofs.lemmas.Option.{none-some, same_Some}
use Rattle.arm_value.specs.Json.{Json}
use Rattle.bicep_signatures.specs.declared.signature.Signature.{Signature}
use Rattle.bicep_signatures.specs.declared.signature.Signatures.{Signatures}
use Rattle.bicep_signatures.specs.declared.value_type.ValueType.{ValueType}
use Rattle.bicep_signatures.specs.Kinds.{fits}
use Rattle.bicep_signatures.specs.Signatures.{next, advanced, left_after, result_in, result_of}
use Rattle.bicep_soundness.specs.Values.{IsOfType}
use Rattle.bicep_soundness.specs.Calls.{WayGives, AllGive, AreFit, IsWayOf, IsAnswered}
use Rattle.bicep_soundness.proofs.CommonLemmas.{common_left, common_right, fits_type}

-- ---- after an argument

kept_by : (v : Json) (s : Signature) (b : Bool) → IsOfType s.value v → WayGives v (if b then Some (next s) else None)
kept_by v s true h = h
kept_by v s false h = tt

way_kept : (v : Json) (t : ValueType) (o : Option Signature) → WayGives v o → WayGives v (advanced o t)
way_kept v t None h = tt
way_kept v t (Some s) h = kept_by v s (fits s.first t) h

-- what is said of the value is still said once an argument of a type is taken
pub gives_after : (v : Json) (t : ValueType) (w : Signatures) → AllGive v w → AllGive v (left_after w t)
gives_after v t w h = (way_kept v t w.one h.0, (way_kept v t w.two h.1.0, way_kept v t w.three h.1.1))

left_by : (v : Json) (vs : List Json) (s : Signature) (b : Bool) → b ≡ true → AreFit (next s) vs → IsOfType s.value v
    → IsWayOf v vs (if b then Some (next s) else None)
left_by v vs s true e f h = (f, h)
left_by v vs s false e f h = absurd (true≢false (sym e))

way_left : (v x : Json) (vs : List Json) (t : ValueType) (o : Option Signature) → IsOfType t x
    → IsWayOf v (x ∷ vs) o → IsWayOf v vs (advanced o t)
way_left v x vs t None typed h = absurd h
way_left v x vs t (Some s) typed h =
    left_by v vs s (fits s.first t) (fits_type s.first t x typed h.0.0) h.0.1 h.1

-- what is said of the value is still said once the first argument, which is of the type, is taken
pub answered_after : (v x : Json) (vs : List Json) (t : ValueType) (w : Signatures) → IsOfType t x
    → IsAnswered v (x ∷ vs) w → IsAnswered v vs (left_after w t)
answered_after v x vs t w typed (inl h) = inl (gives_after v t w h)
answered_after v x vs t w typed (inr (inl h)) = inr (inl (way_left v x vs t w.one typed h))
answered_after v x vs t w typed (inr (inr (inl h))) = inr (inr (inl (way_left v x vs t w.two typed h)))
answered_after v x vs t w typed (inr (inr (inr h))) = inr (inr (inr (way_left v x vs t w.three typed h)))

-- ---- the type of the values

-- the value is of the type, where there is one
abbrev OfKnown : Json → Option ValueType → Type 0
OfKnown v None = Unit {0}
OfKnown v (Some t) = IsOfType t v

-- there is a type, and the value is of it
abbrev IsKnownOf : Json → Option ValueType → Type 0
IsKnownOf v None = ⊥
IsKnownOf v (Some t) = IsOfType t v

of_both : (v : Json) (o : Option ValueType) (s : Option Signature) → OfKnown v o → WayGives v s
    → OfKnown v (result_in o s)
of_both v None None h k = tt
of_both v None (Some s) h k = k
of_both v (Some t) None h k = h
of_both v (Some t) (Some s) h k = common_left t s.value v h

of_first : (v : Json) (o : Option ValueType) (s : Option Signature) → IsKnownOf v o → IsKnownOf v (result_in o s)
of_first v None s h = absurd h
of_first v (Some t) None h = h
of_first v (Some t) (Some s) h = common_left t s.value v h

of_second : (v : Json) (o : Option ValueType) (s : Option Signature) → IsWayOf v [] s → IsKnownOf v (result_in o s)
of_second v o None h = absurd h
of_second v None (Some s) h = h.1
of_second v (Some t) (Some s) h = common_right t s.value v h.1

typed : (v : Json) (o : Option ValueType) (t : ValueType) → OfKnown v o → o ≡ Some t → IsOfType t v
typed v None t h e = absurd (none-some t e)
typed v (Some u) t h e = subst (λ x. IsOfType x v) (same_Some u t e) h

known : (v : Json) (o : Option ValueType) (t : ValueType) → IsKnownOf v o → o ≡ Some t → IsOfType t v
known v None t h e = absurd h
known v (Some u) t h e = subst (λ x. IsOfType x v) (same_Some u t e) h

-- the value is of the type of the ways that are left
pub answered_type : (v : Json) (w : Signatures) (t : ValueType) → IsAnswered v [] w → result_of w ≡ Some t
    → IsOfType t v
answered_type v w t (inl h) e =
    typed v (result_of w) t
    (of_both v _ w.three (of_both v _ w.two (of_both v None w.one tt h.0) h.1.0) h.1.1) e
answered_type v w t (inr (inl h)) e =
    known v (result_of w) t (of_first v _ w.three (of_first v _ w.two (of_second v None w.one h))) e
answered_type v w t (inr (inr (inl h))) e =
    known v (result_of w) t (of_first v _ w.three (of_second v (result_in None w.one) w.two h)) e
answered_type v w t (inr (inr (inr h))) e =
    known v (result_of w) t (of_second v (result_in (result_in None w.one) w.two) w.three h) e
