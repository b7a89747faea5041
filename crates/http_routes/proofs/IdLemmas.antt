-- Ids that are read, by what they are the ids of.
use Rattle.std.proofs.Common.{◌≡◌, ℕ, List, Option, Some, None, Result, Ok, Err, IfOk, refl, sym, ap, ◌∙◌}
use Rattle.std.specs.Prelude.{option_map, OnOk}
use Rattle.arm_ids.specs.Segments.{segments}
use Rattle.arm_ids.specs.Id.{IsIdOf, IsNoKey}
use Rattle.arm_ids.specs.ScopeId.{IsIdOfScope, IsNoScope, container_of}
use Rattle.arm_ids.specs.declared.id.ResourceId.{ResourceId}
use Rattle.arm_ids.specs.declared.scope.Scope.{Scope}
use Rattle.arm_ids.specs.declared.scope.Scope.TheVariants.{Resource}
use Rattle.arm_ids.specs.declared.fault.IdFault.{IdFault}
use Rattle.arm_ids.specs.declared.fault.IdFault.TheVariants.{NotAnId, OutOfMemory, EmptySegment, SegmentsDiffer}
use Rattle.arm_ids.proofs.KeyLemmas.{reads_as_key, is_id_of}
use Rattle.arm_ids.proofs.ScopeIdLemmas.{only_scope, no_container, found_scope}
use Rattle.http_routes.specs.Routes.{key_of, scope_of}
use Rattle.foundation.specs.Options.{or_else}

pub key_read : (id : List ℕ) (key : ResourceId) → IsIdOf id key → Some key ≡ key_of id
key_read id key h = sym (reads_as_key id key h)

pub key_unread : (id : List ℕ) (f : IdFault) → IsNoKey id f → ¬ (f ≡ OutOfMemory) → None ≡ key_of id
key_unread id NotAnId h not = by (key_of id) refl
  where
    by : (o : Option ResourceId) → key_of id ≡ o → None ≡ key_of id
    by None e = sym e
    by (Some key) e = absurd (h key (is_id_of id key e))
key_unread id OutOfMemory h not = absurd (not refl)
key_unread id EmptySegment h not = absurd h
key_unread id SegmentsDiffer h not = absurd h

pub scope_read : (id : List ℕ) (scope : Scope) → IsIdOfScope id scope → Some scope ≡ scope_of id
scope_read id scope h = by (container_of (segments id)) refl
  where
    by : (o : Option Scope) → container_of (segments id) ≡ o → Some scope ≡ scope_of id
    by (Some other) e =
        ap Some (only_scope id other e scope h) ∙ sym (ap (λ o. or_else o (option_map Resource (key_of id))) e)
    by None e =
        let w = no_container id e scope h in
        ap Some w.1.0 ∙ ap (option_map Resource) (key_read id w.0 w.1.1)
        ∙ sym (ap (λ o. or_else o (option_map Resource (key_of id))) e)

pub scope_unread : (id : List ℕ) (f : IdFault) → IsNoScope id f → ¬ (f ≡ OutOfMemory) → None ≡ scope_of id
scope_unread id NotAnId h not = by (container_of (segments id)) (key_of id) refl refl
  where
    by : (o : Option Scope) (k : Option ResourceId) → container_of (segments id) ≡ o → key_of id ≡ k
        → None ≡ scope_of id
    by (Some other) k e f = absurd (h other (found_scope id (segments id) other refl e))
    by None (Some key) e f = absurd (h (Resource key) (is_id_of id key f))
    by None None e f = sym (ap (λ o. or_else o (option_map Resource (key_of id))) e ∙ ap (option_map Resource) f)
scope_unread id OutOfMemory h not = absurd (not refl)
scope_unread id EmptySegment h not = absurd h
scope_unread id SegmentsDiffer h not = absurd h

-- what is answered where nothing is read
pub unread_is : {A E : Type 0} (r : Result (Option A) E) (o : Option A) (f : IdFault) → IfOk r (λ found. found ≡ None)
    → OnOk r (¬ (f ≡ OutOfMemory)) → (¬ (f ≡ OutOfMemory) → None ≡ o) → IfOk r (λ found. found ≡ o)
unread_is (Ok found) o f none known is = none ∙ is known
unread_is (Err e) o f none known is = tt
