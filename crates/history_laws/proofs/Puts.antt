-- The tasks of a plan in a desired state of its template: each put is of a resource that is included, and has its key.
use Rattle.std.proofs.Common.{◌≡◌, inl, inr, ℕ, zero, suc, Bool, true, false, true≢false, List, [], ◌∷◌}
use Rattle.std.proofs.Common.{Option, Some, None, refl, sym, ap, subst, ◌∙◌}
use Rattle.std.specs.Prelude.{◌||◌, slice_get, option_and_then, if◌then◌else◌}
use Rattle.std.specs.List.{list_any}
use Rattle.std.proofs.lemmas.Option.{same_Some}
use Rattle.std.proofs.lemmas.Bool.{or_right}
use Rattle.arm_value.specs.Json.{Json}
use Rattle.arm_ids.specs.Held.{HeldResource}
use Rattle.arm_ids.specs.declared.id.Place.{Place}
use Rattle.arm_ids.specs.declared.id.ResourceId.{ResourceId}
use Rattle.arm_env.specs.Find.{id_key}
use Rattle.reading.specs.Reading.{Reading, done, pure, continued, onward}
use Rattle.reading.specs.World.{value_in}
use Rattle.reading.proofs.Parts.{value_in-continued}
use Rattle.template_parts.specs.declared.mode.Mode.{Mode}
use Rattle.template_parts.specs.declared.mode.Mode.TheVariants.{Incremental, Complete}
use Rattle.deploy_cells.specs.Cells.{Step, Position, Cell, name}
use Rattle.deploy_cells.specs.Cells.{World}
use Rattle.deploy_cells.specs.Same.{same_id}
use Rattle.deploy_cells.proofs.SameLemmas.{id_is, id_same}
use Rattle.deploy_histories.specs.Desired.{kinds}
use Rattle.deploy_histories.specs.Meaning.{Deployment}
use Rattle.deploy_histories.specs.Children.{Has}
use Rattle.deploy_histories.specs.Tasks.{Task, enter, leave, put, delete, key_by, put_keys, is_deleted, delete_by, deletes, deletes_in}
use Rattle.deploy_histories.proofs.ListLemmas.{has_joined}

pub listed_task : (ts : List Task) (u : ℕ) (t : Task) → slice_get ts u ≡ Some t → Has t ts
listed_task [] u t e = let f : None ≡ Some t = e in absurd (cc)
listed_task (s ∷ ts) zero t e = inl (let f : Some s ≡ Some t = e in cc)
listed_task (s ∷ ts) (suc u) t e = inr (listed_task ts u t e)

-- ---- what is deleted

abbrev IsDelete : Task → Type 0
IsDelete t = (k : ResourceId) × (t ≡ delete k)

one_delete : (b : Bool) (k : ResourceId) (t : Task) → Has t (if b then delete k ∷ [] else []) → IsDelete t
one_delete true k t h = elim h [ inl e ↦ (k, sym e) | inr i ↦ absurd i ]
one_delete false k t h = absurd h

a_delete : (place : Place) (puts : List ResourceId) (o : Option ResourceId) (t : Task)
    → Has t (delete_by place puts o) → IsDelete t
a_delete place puts None t h = absurd h
a_delete place puts (Some k) t h = one_delete (is_deleted place puts k) k t h

all_deletes : (place : Place) (puts : List ResourceId) (held : List HeldResource) (t : Task)
    → Has t (deletes place puts held) → IsDelete t
all_deletes place puts [] t h = absurd h
all_deletes place puts (r ∷ rs) t h =
    elim (has_joined t (delete_by place puts (id_key r.id)) (deletes place puts rs) h) [
      | inl i ↦ a_delete place puts (id_key r.id) t i
      | inr i ↦ all_deletes place puts rs t i
    ]

pub deletes_alone : (mode : Mode) (place : Place) (puts : List ResourceId) (held : List HeldResource) (t : Task)
    → Has t (deletes_in mode place puts held) → IsDelete t
deletes_alone Incremental place puts held t h = absurd h
deletes_alone Complete place puts held t h = all_deletes place puts held t h

-- ---- keys

-- the key of a put, by its name
pub record HasKeyAt (d : Deployment) (w : World) (p : Position) (s : Step) (ks : List ResourceId) : Type 0 where
  pub title : Json
  pub key : ResourceId
  pub has_name : w (name p s) ≡ Some title
  pub is_key : key_by d.place (kinds d p s.resource) title ≡ Some key
  pub listed : Has key ks

key_further : (d : Deployment) (w : World) (p : Position) (s : Step) (k : ResourceId) (ks : List ResourceId)
    → HasKeyAt d w p s ks → HasKeyAt d w p s (k ∷ ks)
key_further d w p s k ks h = record {
  title = h.title;
  key = h.key;
  has_name = h.has_name;
  is_key = h.is_key;
  listed = inr h.listed;
}

module _ (d : Deployment) (w : World) where
  abbrev after_key : List Task → ResourceId → Reading Cell Json (List ResourceId)
  after_key ts k = continued (put_keys d ts) (λ ks. pure (k ∷ ks))

  abbrev after_name : Position → Step → List Task → Json → Reading Cell Json (List ResourceId)
  after_name p s ts j = continued (done (key_by d.place (kinds d p s.resource) j)) (after_key ts)

  -- what the first put says, and what the others say
  pub record FirstKey (p : Position) (s : Step) (ts : List Task) (ks : List ResourceId) : Type 0 where
    pub title : Json
    pub key : ResourceId
    pub more : List ResourceId
    pub has_name : w (name p s) ≡ Some title
    pub is_key : key_by d.place (kinds d p s.resource) title ≡ Some key
    pub is : ks ≡ key ∷ more
    pub others : value_in w (put_keys d ts) ≡ Some more

  by_more : (p : Position) (s : Step) (ts : List Task) (ks : List ResourceId) (j : Json) (k : ResourceId)
      → w (name p s) ≡ Some j → key_by d.place (kinds d p s.resource) j ≡ Some k → (o : Option (List ResourceId))
      → value_in w (put_keys d ts) ≡ o → option_and_then (λ xs. value_in w (pure (k ∷ xs))) o ≡ Some ks
      → FirstKey p s ts ks
  unfolding value_in
  by_more p s ts ks j k a b None c e = let f : None ≡ Some ks = e in absurd (cc)
  by_more p s ts ks j k a b (Some xs) c e = record {
    title = j;
    key = k;
    more = xs;
    has_name = a;
    is_key = b;
    is = sym (same_Some (k ∷ xs) ks e);
    others = c;
  }

  by_key : (p : Position) (s : Step) (ts : List Task) (ks : List ResourceId) (j : Json) → w (name p s) ≡ Some j
      → (o : Option ResourceId) → key_by d.place (kinds d p s.resource) j ≡ o
      → value_in w (onward o (after_key ts)) ≡ Some ks → FirstKey p s ts ks
  unfolding value_in
  by_key p s ts ks j a None b e = let f : None ≡ Some ks = e in absurd (cc)
  by_key p s ts ks j a (Some k) b e =
      by_more p s ts ks j k a b (value_in w (put_keys d ts)) refl
      (sym (value_in-continued Cell Json (List ResourceId) (List ResourceId) w (put_keys d ts)
      (λ xs. pure (k ∷ xs))) ∙ e)

  by_name : (p : Position) (s : Step) (ts : List Task) (ks : List ResourceId) (o : Option Json) → w (name p s) ≡ o
      → value_in w (onward o (after_name p s ts)) ≡ Some ks → FirstKey p s ts ks
  unfolding value_in continued
  by_name p s ts ks None a e = let f : None ≡ Some ks = e in absurd (cc)
  by_name p s ts ks (Some j) a e =
      by_key p s ts ks j a (key_by d.place (kinds d p s.resource) j) refl e

  pub first_key : (p : Position) (s : Step) (ts : List Task) (ks : List ResourceId)
      → value_in w (put_keys d (put p s ∷ ts)) ≡ Some ks → FirstKey p s ts ks
  unfolding value_in continued
  first_key p s ts ks e = by_name p s ts ks (w (name p s)) refl e

  pub key_listed : (ts : List Task) (ks : List ResourceId) → value_in w (put_keys d ts) ≡ Some ks → (p : Position)
      (s : Step) → Has (put p s) ts → HasKeyAt d w p s ks
  key_listed [] ks e p s h = absurd h
  key_listed (enter q ∷ ts) ks e p s h = elim h [
    | inl i ↦ (let f : enter q ≡ put p s = i in absurd (cc))
    | inr i ↦ key_listed ts ks e p s i
  ]
  key_listed (leave q ∷ ts) ks e p s h = elim h [
    | inl i ↦ (let f : leave q ≡ put p s = i in absurd (cc))
    | inr i ↦ key_listed ts ks e p s i
  ]
  key_listed (delete k ∷ ts) ks e p s h = elim h [
    | inl i ↦ (let f : delete k ≡ put p s = i in absurd (cc))
    | inr i ↦ key_listed ts ks e p s i
  ]
  key_listed (put q t ∷ ts) ks e p s h =
      let f = first_key q t ts ks e in
      subst (HasKeyAt d w p s) (sym f.is)
      (elim h [
        | inl i ↦ (let a : q ≡ p = position_of q t p s i in let b : t ≡ s = step_of q t p s i in
            subst (λ (r : Step). HasKeyAt d w p r (f.key ∷ f.more)) b
            (subst (λ (r : Position). HasKeyAt d w r t (f.key ∷ f.more)) a
            (record {
              title = f.title;
              key = f.key;
              has_name = f.has_name;
              is_key = f.is_key;
              listed = inl refl;
            })))
        | inr i ↦ key_further d w p s f.key f.more (key_listed ts f.more f.others p s i)
      ])
    where
      position_of : (q : Position) (t : Step) (p : Position) (s : Step) → put q t ≡ put p s → q ≡ p
      position_of q t p s e = cc

      step_of : (q : Position) (t : Step) (p : Position) (s : Step) → put q t ≡ put p s → t ≡ s
      step_of q t p s e = cc

pub has_any : (k : ResourceId) (ks : List ResourceId) → Has k ks → list_any (same_id k) ks ≡ true
has_any k [] h = absurd h
has_any k (l ∷ ks) h = elim h [
  | inl e ↦
      ap (λ (b : Bool). b || list_any (same_id k) ks)
      (subst (λ (i : ResourceId). same_id k i ≡ true) (sym e) (id_same k))
  | inr i ↦ or_right (same_id k l) (list_any (same_id k) ks) (has_any k ks i)
]

-- a put that has the key
pub record IsKeyOf (d : Deployment) (w : World) (k : ResourceId) (ts : List Task) : Type 0 where
  pub at : Position
  pub instance : Step
  pub title : Json
  pub listed : Has (put at instance) ts
  pub has_name : w (name at instance) ≡ Some title
  pub is_key : key_by d.place (kinds d at instance.resource) title ≡ Some k

module _ (d : Deployment) (w : World) (k : ResourceId) where
  key_later : (t : Task) (ts : List Task) → IsKeyOf d w k ts → IsKeyOf d w k (t ∷ ts)
  key_later t ts i = record {
    at = i.at;
    instance = i.instance;
    title = i.title;
    listed = inr i.listed;
    has_name = i.has_name;
    is_key = i.is_key;
  }

  pub key_has_put : (ts : List Task) (ks : List ResourceId) → value_in w (put_keys d ts) ≡ Some ks → Has k ks
      → IsKeyOf d w k ts
  unfolding value_in
  key_has_put [] ks e h = absurd (subst (Has k) (sym (same_Some [] ks e)) h)
  key_has_put (enter q ∷ ts) ks e h = key_later (enter q) ts (key_has_put ts ks e h)
  key_has_put (leave q ∷ ts) ks e h = key_later (leave q) ts (key_has_put ts ks e h)
  key_has_put (delete l ∷ ts) ks e h = key_later (delete l) ts (key_has_put ts ks e h)
  key_has_put (put q t ∷ ts) ks e h =
      let f = first_key d w q t ts ks e in
      elim (subst (Has k) f.is h) [
        | inl i ↦
            record {
              at = q;
              instance = t;
              title = f.title;
              listed = inl refl;
              has_name = f.has_name;
              is_key = f.is_key ∙ ap Some i;
            }
        | inr i ↦ key_later (put q t) ts (key_has_put ts f.more f.others i)
      ]

pub any_has : (k : ResourceId) (ks : List ResourceId) → list_any (same_id k) ks ≡ true → Has k ks
any_has k [] e = absurd (true≢false (sym e))
any_has k (l ∷ ks) e = by_first (same_id k l) refl e (λ g. any_has k ks g)
  where
    by_first : (b : Bool) → same_id k l ≡ b → (b || list_any (same_id k) ks) ≡ true
        → (list_any (same_id k) ks ≡ true → Has k ks) → Has k (l ∷ ks)
    by_first true f g more = inl (sym (id_is k l f))
    by_first false f g more = inr (more g)
