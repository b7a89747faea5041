-- What tasks share is what they need.
use Rattle.std.proofs.Common.{◌≡◌, ℕ, zero, suc, ◌/◌, Bool, true, false, true≢false, List, [], ◌∷◌, ◌++◌}
use Rattle.std.proofs.Common.{length, Option, Some, None, refl, sym, ap, subst, ◌∙◌, arith}
use Rattle.std.specs.Prelude.{nat_eq, ◌&&◌, ◌||◌, bytes_eq}
use Rattle.std.specs.List.{list_any}
use Rattle.foundation.proofs.Comparisons.{eq_of_true}
use Rattle.arm_ids.specs.Segments.{is_front}
use Rattle.arm_ids.specs.Parent.{begins}
use Rattle.arm_ids.specs.declared.id.ResourceId.{ResourceId}
use Rattle.template_parts.specs.declared.looping.Batches.{Batches}
use Rattle.template_parts.specs.declared.looping.Batches.TheVariants.{Parallel, Serial}
use Rattle.template_parts.specs.declared.looping.ResourceCopy.{ResourceCopy}
use Rattle.deploy_cells.specs.Cells.{Step, Position, Cell, deployments}
use Rattle.deploy_cells.specs.Same.{same_id, same_position, same_texts, same}
use Rattle.deploy_cells.proofs.SameLemmas.{cell_is, cell_same, position_is}
use Rattle.plan_cells.specs.Scopes.{resource_of}
use Rattle.plan_cells.specs.Meaning.{Deployment}
use Rattle.plan_cells.specs.Tasks.{Task, enter, leave, put, delete}
use Rattle.plan_cells.specs.Needs.{Instance, started, ended, scope_of, copy_of, is_position, is_entered_by}
use Rattle.plan_cells.specs.Needs.{leaves, is_batch_before, is_before, follows_batch, is_child, deletes_after}
use Rattle.plan_cells.specs.Needs.{needs_by_order}
use Rattle.plan_tags.specs.Tags.{Tag, entry, inside, before, root_left, child_of, same_tag, shares, tag_of, by_batch}
use Rattle.plan_tags.specs.Tags.{by_copy, by_instance, first_ones, parent_by, entry_tags, delete_tags, leave_asks}
use Rattle.plan_tags.specs.Tags.{delete_asks, tags_of, asks_of}
use Rattle.foundation.proofs.TruthValues.{or_assoc, or_false, and_false_is, or_crossed, both_ways}

-- ---- what lists share

any_joined : (f : Tag → Bool) (xs ys : List Tag) → list_any f (xs ++ ys) ≡ (list_any f xs || list_any f ys)
any_joined f [] ys = refl
any_joined f (x ∷ xs) ys =
    ap (λ b. f x || b) (any_joined f xs ys) ∙ sym (or_assoc (f x) (list_any f xs) (list_any f ys))

shares_left : (asks bs ts : List Tag) → shares (asks ++ bs) ts ≡ (shares asks ts || shares bs ts)
shares_left asks bs ts = any_joined (λ a. list_any (same_tag a) ts) asks bs

nothing_shared : (asks : List Tag) → shares asks [] ≡ false
nothing_shared [] = refl
nothing_shared (a ∷ asks) = nothing_shared asks

shares_right : (asks ts us : List Tag) → shares asks (ts ++ us) ≡ (shares asks ts || shares asks us)
shares_right [] ts us = refl
shares_right (a ∷ asks) ts us =
    ap (λ b. b || shares asks (ts ++ us)) (any_joined (same_tag a) ts us)
    ∙ ap (λ b. (list_any (same_tag a) ts || list_any (same_tag a) us) || b) (shares_right asks ts us)
    ∙ or_crossed (list_any (same_tag a) ts) (list_any (same_tag a) us) (shares asks ts) (shares asks us)

one_shared : (a t : Tag) → shares (a ∷ []) (t ∷ []) ≡ same_tag a t
one_shared a t = or_false (same_tag a t || false) ∙ or_false (same_tag a t)

-- four lists with four others, of which only these share something
all_four : (asks bs cs ds ts us vs ws : List Tag) (a b c e : Bool) → shares asks ts ≡ a → shares bs (ts ++ us) ≡ b
    → shares cs vs ≡ c → shares ds ws ≡ e → shares asks (us ++ (vs ++ ws)) ≡ false → shares bs (vs ++ ws) ≡ false
    → shares cs (ts ++ us) ≡ false → shares cs ws ≡ false → shares ds (ts ++ (us ++ vs)) ≡ false
    → shares (asks ++ (bs ++ (cs ++ ds))) (ts ++ (us ++ (vs ++ ws))) ≡ (a || (b || (c || e)))
all_four asks bs cs ds ts us vs ws a b c e p q r s z1 z2 z3 z4 z5 =
    shares_left asks (bs ++ (cs ++ ds)) all
    ∙ ap (λ x. x || shares (bs ++ (cs ++ ds)) all) first
    ∙ ap (λ x. a || x) (shares_left bs (cs ++ ds) all
    ∙ ap (λ x. x || shares (cs ++ ds) all) second
    ∙ ap (λ x. b || x) (shares_left cs ds all ∙ ap (λ x. x || shares ds all) third ∙ ap (λ x. c || x) fourth))
  where
    all : List Tag
    all = ts ++ (us ++ (vs ++ ws))

    first : shares asks all ≡ a
    first =
        shares_right asks ts (us ++ (vs ++ ws)) ∙ ap (λ x. shares asks ts || x) z1 ∙ or_false (shares asks ts) ∙ p

    second : shares bs all ≡ b
    second =
        shares_right bs ts (us ++ (vs ++ ws)) ∙ ap (λ x. shares bs ts || x) (shares_right bs us (vs ++ ws))
        ∙ sym (or_assoc (shares bs ts) (shares bs us) (shares bs (vs ++ ws)))
        ∙ ap (λ x. (shares bs ts || shares bs us) || x) z2 ∙ or_false (shares bs ts || shares bs us)
        ∙ sym (shares_right bs ts us) ∙ q

    third : shares cs all ≡ c
    third =
        shares_right cs ts (us ++ (vs ++ ws)) ∙ ap (λ x. shares cs ts || x) (shares_right cs us (vs ++ ws))
        ∙ sym (or_assoc (shares cs ts) (shares cs us) (shares cs (vs ++ ws)))
        ∙ ap (λ x. x || shares cs (vs ++ ws)) (sym (shares_right cs ts us) ∙ z3)
        ∙ shares_right cs vs ws ∙ ap (λ x. shares cs vs || x) z4 ∙ or_false (shares cs vs) ∙ r

    fourth : shares ds all ≡ e
    fourth =
        shares_right ds ts (us ++ (vs ++ ws)) ∙ ap (λ x. shares ds ts || x) (shares_right ds us (vs ++ ws)
        ∙ ap (λ x. shares ds us || x) (shares_right ds vs ws)
        ∙ sym (or_assoc (shares ds us) (shares ds vs) (shares ds ws))
        ∙ ap (λ x. x || shares ds ws) (sym (shares_right ds us vs)))
        ∙ sym (or_assoc (shares ds ts) (shares ds (us ++ vs)) (shares ds ws))
        ∙ ap (λ x. x || shares ds ws) (sym (shares_right ds ts (us ++ vs)) ∙ z5) ∙ s

-- ---- sorts of tags

position_turned : (p q : Position) → same_position p q ≡ same_position q p
position_turned p q = both_ways (same_position p q) (same_position q p) (turn p q) (turn q p)
  where
    turn : (p q : Position) → same_position p q ≡ true → same_position q p ≡ true
    turn p q e =
        subst (λ (c : Cell). same c (deployments p) ≡ true) (cell_is (deployments p) (deployments q) e)
        (cell_same (deployments p))

-- the sort of a tag
abbrev sort_of : Tag → ℕ
sort_of (entry p) = 0
sort_of (inside p) = 1
sort_of (before p r n) = 2
sort_of root_left = 3
sort_of (child_of k) = 3

one_sort : (a t : Tag) → same_tag a t ≡ true → sort_of a ≡ sort_of t
one_sort (entry p) (entry q) e = refl
one_sort (entry p) (inside q) e = absurd (true≢false (sym e))
one_sort (entry p) (before q s m) e = absurd (true≢false (sym e))
one_sort (entry p) root_left e = absurd (true≢false (sym e))
one_sort (entry p) (child_of l) e = absurd (true≢false (sym e))
one_sort (inside p) (entry q) e = absurd (true≢false (sym e))
one_sort (inside p) (inside q) e = refl
one_sort (inside p) (before q s m) e = absurd (true≢false (sym e))
one_sort (inside p) root_left e = absurd (true≢false (sym e))
one_sort (inside p) (child_of l) e = absurd (true≢false (sym e))
one_sort (before p r n) (entry q) e = absurd (true≢false (sym e))
one_sort (before p r n) (inside q) e = absurd (true≢false (sym e))
one_sort (before p r n) (before q s m) e = refl
one_sort (before p r n) root_left e = absurd (true≢false (sym e))
one_sort (before p r n) (child_of l) e = absurd (true≢false (sym e))
one_sort root_left (entry q) e = absurd (true≢false (sym e))
one_sort root_left (inside q) e = absurd (true≢false (sym e))
one_sort root_left (before q s m) e = absurd (true≢false (sym e))
one_sort root_left root_left e = refl
one_sort root_left (child_of l) e = refl
one_sort (child_of k) (entry q) e = absurd (true≢false (sym e))
one_sort (child_of k) (inside q) e = absurd (true≢false (sym e))
one_sort (child_of k) (before q s m) e = absurd (true≢false (sym e))
one_sort (child_of k) root_left e = refl
one_sort (child_of k) (child_of l) e = refl

-- all are of a sort that passes the test, or that does not
abbrev AreOf : Bool → (ℕ → Bool) → List Tag → Type 0
AreOf b f [] = Unit {0}
AreOf b f (t ∷ ts) = (f (sort_of t) ≡ b) × AreOf b f ts

of_joined : (b : Bool) (f : ℕ → Bool) (ts us : List Tag) → AreOf b f ts → AreOf b f us → AreOf b f (ts ++ us)
of_joined b f [] us h k = k
of_joined b f (t ∷ ts) us h k = (h.0, of_joined b f ts us h.1 k)

never_same : (f : ℕ → Bool) (a t : Tag) → f (sort_of a) ≡ true → f (sort_of t) ≡ false → (b : Bool) → same_tag a t ≡ b
    → same_tag a t ≡ false
never_same f a t h k false e = e
never_same f a t h k true e = absurd (true≢false (sym h ∙ ap f (one_sort a t e) ∙ k))

none_same : (f : ℕ → Bool) (a : Tag) (ts : List Tag) → f (sort_of a) ≡ true → AreOf false f ts
    → list_any (same_tag a) ts ≡ false
none_same f a [] h k = refl
none_same f a (t ∷ ts) h k =
    ap (λ b. b || list_any (same_tag a) ts) (never_same f a t h k.0 (same_tag a t) refl) ∙ none_same f a ts h k.1

apart : (f : ℕ → Bool) (asks ts : List Tag) → AreOf true f asks → AreOf false f ts → shares asks ts ≡ false
apart f [] ts h k = refl
apart f (a ∷ asks) ts h k =
    ap (λ b. b || shares asks ts) (none_same f a ts h.0 k) ∙ apart f asks ts h.1 k

-- ---- deletes

last_of : (a b c : Bool) → ((a && b) && c) ≡ (a && (b && c))
last_of true b c = refl
last_of false b c = refl

more : (n : ℕ) → nat_eq (suc (suc n)) 1 ≡ false
more n = grind arith

less : (n : ℕ) → nat_eq 1 (suc (suc n)) ≡ false
less n = grind arith

nothing : (n : ℕ) → nat_eq 0 (suc n) ≡ false
nothing n = grind arith

both_less : (n m : ℕ) → nat_eq (suc n) (suc m) ≡ nat_eq n m
both_less n m = grind arith

front_last : (xs : List (List ℕ)) (x : List ℕ) (ys : List (List ℕ))
    → (is_front xs (x ∷ ys) && nat_eq (length (x ∷ ys)) (suc (length xs))) ≡ same_texts xs (first_ones x ys)
front_last [] x [] = refl
front_last [] x (y ∷ ys) = more (length ys)
front_last (z ∷ zs) x [] =
    ap (λ b. is_front (z ∷ zs) (x ∷ []) && b) (less (length zs)) ∙ and_false_is (is_front (z ∷ zs) (x ∷ []))
front_last (z ∷ zs) x (y ∷ ys) =
    last_of (bytes_eq z x) (is_front zs (y ∷ ys)) (nat_eq (length (x ∷ y ∷ ys)) (suc (length (z ∷ zs))))
    ∙ ap (λ n. bytes_eq z x && (is_front zs (y ∷ ys) && n)) (both_less (length (y ∷ ys)) (suc (length zs)))
    ∙ ap (λ b. bytes_eq z x && b) (front_last zs y ys)

mixed : (s g f h n m : Bool) → ((s && (g && (f && h))) && (n && m)) ≡ (s && (g && ((f && n) && (h && m))))
mixed false g f h n m = refl
mixed true false f h n m = refl
mixed true true false h n m = refl
mixed true true true false true m = refl
mixed true true true false false m = refl
mixed true true true true n m = refl

module _ (d : Deployment) where
  child_by : (k l : ResourceId) (ts ns : List (List ℕ)) → l.types ≡ ts → l.names ≡ ns
      → shares (delete_asks (delete k)) (parent_by l ts ns) ≡ is_child d k l
  child_by k l [] ns a b =
      sym (ap (λ n. begins k l && (nat_eq n (suc (length k.types)) && nat_eq (length l.names) (suc (length k.names))))
      (ap length a)
      ∙ ap (λ c. begins k l && (c && nat_eq (length l.names) (suc (length k.names)))) (nothing (length k.types))
      ∙ and_false_is (begins k l))
  child_by k l (x ∷ xs) [] a b =
      sym (ap (λ n. begins k l && (nat_eq (length l.types) (suc (length k.types)) && nat_eq n (suc (length k.names))))
      (ap length b)
      ∙ ap (λ c. begins k l && (nat_eq (length l.types) (suc (length k.types)) && c)) (nothing (length k.names))
      ∙ ap (λ c. begins k l && c) (and_false_is (nat_eq (length l.types) (suc (length k.types))))
      ∙ and_false_is (begins k l))
  child_by k l (x ∷ xs) (y ∷ ys) a b =
      or_false (same_id k parent || false) ∙ or_false (same_id k parent)
      ∙ sym (ap (λ (ts : List (List ℕ)). (sub && (group && (is_front k.types ts && is_front k.names l.names)))
      && (nat_eq (length ts) (suc (length k.types)) && nat_eq (length l.names) (suc (length k.names)))) a
      ∙ ap (λ (ns : List (List ℕ)). (sub && (group && (is_front k.types (x ∷ xs) && is_front k.names ns)))
      && (nat_eq (length (x ∷ xs)) (suc (length k.types)) && nat_eq (length ns) (suc (length k.names)))) b
      ∙ mixed sub group (is_front k.types (x ∷ xs)) (is_front k.names (y ∷ ys))
      (nat_eq (length (x ∷ xs)) (suc (length k.types))) (nat_eq (length (y ∷ ys)) (suc (length k.names)))
      ∙ ap (λ t. sub && (group && (t
      && (is_front k.names (y ∷ ys) && nat_eq (length (y ∷ ys)) (suc (length k.names)))))) (front_last k.types x xs)
      ∙ ap (λ n. sub && (group && (same_texts k.types (first_ones x xs) && n))) (front_last k.names y ys))
    where
      parent : ResourceId
      parent = record l { types = first_ones x xs; names = first_ones y ys }

      sub : Bool
      sub = bytes_eq k.subscription l.subscription

      group : Bool
      group = bytes_eq k.group l.group

  deletes : (u v : Task) → shares (delete_asks u) (delete_tags v) ≡ deletes_after d u v
  deletes (enter p) v = refl
  deletes (leave p) v = refl
  deletes (put p s) v = refl
  deletes (delete k) (enter p) = refl
  deletes (delete k) (leave []) = refl
  deletes (delete k) (leave (s ∷ p)) = refl
  deletes (delete k) (put p s) = refl
  deletes (delete k) (delete l) = child_by k l l.types l.names refl refl

  -- ---- entries and scopes

  enters : (u v : Task) (o : Option Position) → scope_of d u ≡ o
      → shares (tag_of entry o) (entry_tags v) ≡ is_entered_by d u v
  enters u (enter p) None e = sym (ap (is_position d p) e)
  enters u (enter p) (Some q) e = one_shared (entry q) (entry p) ∙ sym (ap (is_position d p) e)
  enters u (leave p) o e = nothing_shared (tag_of entry o)
  enters u (put p s) o e = nothing_shared (tag_of entry o)
  enters u (delete k) o e = nothing_shared (tag_of entry o)

  flat : (a b : Bool) → ((false || (a || false)) || ((b || (false || false)) || false)) ≡ (a || b)
  flat true b = refl
  flat false true = refl
  flat false false = refl

  alone : (a : Bool) → ((a || false) || ((false || false) || false)) ≡ (a || false)
  alone true = refl
  alone false = refl

  left_by : (p : Position) (v : Task)
      → shares (leave_asks (leave p)) (entry_tags v ++ tag_of inside (scope_of d v)) ≡ leaves d (leave p) v
  left_by p (enter []) = or_false (same_position [] p || false) ∙ or_false (same_position [] p) ∙ position_turned [] p
  left_by p (enter (s ∷ q)) =
      flat (same_position p q) (same_position (s ∷ q) p)
      ∙ ap (λ b. same_position p q || b) (position_turned (s ∷ q) p)
  left_by p (leave []) = refl
  left_by p (leave (s ∷ q)) = alone (same_position p q)
  left_by p (put q s) = alone (same_position p q)
  left_by p (delete k) = refl

  leaving : (u v : Task) → shares (leave_asks u) (entry_tags v ++ tag_of inside (scope_of d v)) ≡ leaves d u v
  leaving (enter p) v = refl
  leaving (leave p) v = left_by p v
  leaving (put p s) v = refl
  leaving (delete k) v = refl

  -- ---- batches

  -- what is after the batch of an instance
  abbrev after : ℕ → ℕ → Batches → Bool
  after n j Parallel = false
  after n j (Serial size) = nat_eq n (suc (j / size))

  abbrev after_by : ℕ → ℕ → Option ResourceCopy → Bool
  after_by n j None = false
  after_by n j (Some c) = after n j c.batches

  where_both : (a b x y : Bool) → (a ≡ true → b ≡ true → x ≡ y) → (a && (b && x)) ≡ (a && (b && y))
  where_both false b x y h = refl
  where_both true false x y h = refl
  where_both true true x y h = h refl refl

  no_batch : (p q : Position) (r s : ℕ) → false ≡ (same_position p q && (nat_eq r s && false))
  no_batch p q r s = sym (ap (λ b. same_position p q && b) (and_false_is (nat_eq r s))
      ∙ and_false_is (same_position p q))

  in_batch : (p q : Position) (r n : ℕ) (t : Step) (o : Option ResourceCopy)
      → shares (before p r n ∷ []) (by_copy (λ m. suc m) q t o)
      ≡ (same_position p q && (nat_eq r t.resource && after_by n t.copy o))
  in_batch p q r n t None = no_batch p q r t.resource
  in_batch p q r n t (Some c) = by_kind c.batches
    where
      by_kind : (b : Batches) → shares (before p r n ∷ []) (by_batch (λ m. suc m) q t b)
          ≡ (same_position p q && (nat_eq r t.resource && after n t.copy b))
      by_kind Parallel = no_batch p q r t.resource
      by_kind (Serial size) = one_shared (before p r n) (before q t.resource (suc (t.copy / size)))

  abbrev copy_at : Position → Step → Option ResourceCopy
  copy_at p s = copy_of d (resource_of d.template p s.resource)

  batch_by : (p q : Position) (s t : Step) (o : Option ResourceCopy) → copy_at p s ≡ o
      → shares (by_copy (λ n. n) p s o) (by_copy (λ n. suc n) q t (copy_at q t))
      ≡ (same_position p q && (nat_eq s.resource t.resource && is_before d o s.copy t.copy))
  batch_by p q s t None e = no_batch p q s.resource t.resource
  batch_by p q s t (Some c) e = by_kind c.batches refl
    where
      same_copy : same_position p q ≡ true → nat_eq s.resource t.resource ≡ true → copy_at q t ≡ Some c
      same_copy a b =
          ap (λ x. copy_of d (resource_of d.template x t.resource)) (sym (position_is p q a))
          ∙ ap (λ r. copy_of d (resource_of d.template p r)) (sym (eq_of_true s.resource t.resource b)) ∙ e

      by_kind : (b : Batches) → c.batches ≡ b
          → shares (by_batch (λ n. n) p s b) (by_copy (λ n. suc n) q t (copy_at q t))
          ≡ (same_position p q && (nat_eq s.resource t.resource && is_batch_before d b s.copy t.copy))
      by_kind Parallel k = no_batch p q s.resource t.resource
      by_kind (Serial size) k =
          in_batch p q s.resource (s.copy / size) t (copy_at q t)
          ∙ where_both (same_position p q) (nat_eq s.resource t.resource)
          (after_by (s.copy / size) t.copy (copy_at q t)) (nat_eq (s.copy / size) (suc (t.copy / size)))
          (λ a b. ap (after_by (s.copy / size) t.copy) (same_copy a b) ∙ ap (after (s.copy / size) t.copy) k)

  batches : (i j : Option Instance)
      → shares (by_instance d (λ n. n) i) (by_instance d (λ n. suc n) j) ≡ follows_batch d i j
  batches None j = refl
  batches (Some i) None = nothing_shared (by_instance d (λ n. n) (Some i))
  batches (Some i) (Some j) = batch_by i.0 j.0 i.1 j.1 (copy_at i.0 i.1) refl

  -- ---- sorts of lists

  abbrev first_sort : ℕ → Bool
  first_sort n = nat_eq n 0

  abbrev first_two : ℕ → Bool
  first_two zero = true
  first_two (suc zero) = true
  first_two _ = false

  abbrev third_sort : ℕ → Bool
  third_sort n = nat_eq n 2

  abbrev fourth_sort : ℕ → Bool
  fourth_sort n = nat_eq n 3

  entries_of : (b : Bool) (f : ℕ → Bool) → f 0 ≡ b → (v : Task) → AreOf b f (entry_tags v)
  entries_of b f h (enter p) = (h, tt)
  entries_of b f h (leave p) = tt
  entries_of b f h (put p s) = tt
  entries_of b f h (delete k) = tt

  entry_of : (b : Bool) (f : ℕ → Bool) → f 0 ≡ b → (o : Option Position) → AreOf b f (tag_of entry o)
  entry_of b f h None = tt
  entry_of b f h (Some p) = (h, tt)

  inside_of : (b : Bool) (f : ℕ → Bool) → f 1 ≡ b → (o : Option Position) → AreOf b f (tag_of inside o)
  inside_of b f h None = tt
  inside_of b f h (Some p) = (h, tt)

  leaves_of : (b : Bool) (f : ℕ → Bool) → f 0 ≡ b → f 1 ≡ b → (u : Task) → AreOf b f (leave_asks u)
  leaves_of b f h k (enter p) = tt
  leaves_of b f h k (leave p) = (k, (h, tt))
  leaves_of b f h k (put p s) = tt
  leaves_of b f h k (delete l) = tt

  copies_of : (b : Bool) (f : ℕ → Bool) → f 2 ≡ b → (g : ℕ → ℕ) (p : Position) (s : Step) (o : Option ResourceCopy)
      → AreOf b f (by_copy g p s o)
  copies_of b f h g p s None = tt
  copies_of b f h g p s (Some c) = by_kind c.batches
    where
      by_kind : (k : Batches) → AreOf b f (by_batch g p s k)
      by_kind Parallel = tt
      by_kind (Serial size) = (h, tt)

  instances_of : (b : Bool) (f : ℕ → Bool) → f 2 ≡ b → (g : ℕ → ℕ) (o : Option Instance)
      → AreOf b f (by_instance d g o)
  instances_of b f h g None = tt
  instances_of b f h g (Some i) = copies_of b f h g i.0 i.1 (copy_at i.0 i.1)

  parents_of : (b : Bool) (f : ℕ → Bool) → f 3 ≡ b → (l : ResourceId) (ts ns : List (List ℕ))
      → AreOf b f (parent_by l ts ns)
  parents_of b f h l [] ns = tt
  parents_of b f h l (x ∷ xs) [] = tt
  parents_of b f h l (x ∷ xs) (y ∷ ys) = (h, tt)

  deletes_of : (b : Bool) (f : ℕ → Bool) → f 3 ≡ b → (v : Task) → AreOf b f (delete_tags v)
  deletes_of b f h (enter p) = tt
  deletes_of b f h (leave []) = (h, tt)
  deletes_of b f h (leave (s ∷ p)) = tt
  deletes_of b f h (put p s) = tt
  deletes_of b f h (delete l) = parents_of b f h l l.types l.names

  asked_of : (b : Bool) (f : ℕ → Bool) → f 3 ≡ b → (u : Task) → AreOf b f (delete_asks u)
  asked_of b f h (enter p) = tt
  asked_of b f h (leave p) = tt
  asked_of b f h (put p s) = tt
  asked_of b f h (delete k) = (h, (h, tt))

  pub by_tags : (u v : Task) → needs_by_order d u v ≡ shares (asks_of d u) (tags_of d v)
  by_tags u v =
      let asks = tag_of entry (scope_of d u) in
      let bs = leave_asks u in
      let cs = by_instance d (λ n. n) (started u) in
      let ds = delete_asks u in
      let ts = entry_tags v in
      let us = tag_of inside (scope_of d v) in
      let vs = by_instance d (λ n. suc n) (ended v) in
      let ws = delete_tags v in
      sym (all_four asks bs cs ds ts us vs ws (is_entered_by d u v) (leaves d u v)
      (follows_batch d (started u) (ended v)) (deletes_after d u v)
      (enters u v (scope_of d u) refl) (leaving u v) (batches (started u) (ended v)) (deletes u v)
      (apart first_sort asks (us ++ (vs ++ ws)) (entry_of true first_sort refl (scope_of d u))
      (of_joined false first_sort us (vs ++ ws) (inside_of false first_sort refl (scope_of d v))
      (of_joined false first_sort vs ws (instances_of false first_sort refl (λ n. suc n) (ended v))
      (deletes_of false first_sort refl v))))
      (apart first_two bs (vs ++ ws) (leaves_of true first_two refl refl u)
      (of_joined false first_two vs ws (instances_of false first_two refl (λ n. suc n) (ended v))
      (deletes_of false first_two refl v)))
      (apart third_sort cs (ts ++ us) (instances_of true third_sort refl (λ n. n) (started u))
      (of_joined false third_sort ts us (entries_of false third_sort refl v)
      (inside_of false third_sort refl (scope_of d v))))
      (apart third_sort cs ws (instances_of true third_sort refl (λ n. n) (started u))
      (deletes_of false third_sort refl v))
      (apart fourth_sort ds (ts ++ (us ++ vs)) (asked_of true fourth_sort refl u)
      (of_joined false fourth_sort ts (us ++ vs) (entries_of false fourth_sort refl v)
      (of_joined false fourth_sort us vs (inside_of false fourth_sort refl (scope_of d v))
      (instances_of false fourth_sort refl (λ n. suc n) (ended v))))))
